-- A host that was asked when to poll, and left alone since, is as it was asked.
use Rattle.std.proofs.Common.{◌≡◌, ◌≤ℤ◌, ◌⊎◌, inl, inr, ℕ, zero, suc, ℤ, pos, int_lt, Bool, true, List, [], ◌∷◌, Option, None, Some, refl, sym, ap, ◌∙◌, subst}
use Rattle.std.proofs.Common.{arith}
use Rattle.std.specs.Prelude.{slice_get, slice_set}
use Rattle.interface.specs.Host.{HostValue, maintained}
use Rattle.interface.specs.Instant.{poll_instant}
use Rattle.interface.specs.QuietStep.{IsEarlier, IsEarly}
use Rattle.interface.specs.QuietPoll.{HasNoFrame, IsQuietPoll}
use Rattle.interface.proofs.Quieted.{quiet_poll}
use Rattle.interface.proofs.QuietTurn.{DueAsBefore}
use Rattle.iface_egress.specs.Set.{with_socket}
use Rattle.iface_egress.specs.declared.socket_set.Item.{Item}
use Rattle.iface_egress.specs.declared.socket_set.SocketStorage.{SocketStorage}
use Rattle.iface_tables.specs.Inner.{InnerValue, at_instant, context_of}
use Rattle.lan.specs.Worlds.AtLink.Call as Call
use Rattle.lan.specs.Worlds.AtLink.Call.{SocketCall}
use Rattle.lan.specs.Worlds.AtLink.Kinds.{Act}
use Rattle.lan.specs.Worlds.AtLink.Kinds.Act.{Calls, Sets, Opens, Asks, Polls}
use Rattle.lan.specs.Worlds.AtLink.Answer.{Answer}
use Rattle.lan.specs.Worlds.AtLink.Port.{LinkEnd, PortValue, PortMove}
use Rattle.lan.specs.Worlds.AtLink.Does.{does, DidAt, ItemDoes, SlotDoes, Does}
use Rattle.lan.specs.Worlds.AtLink.Node.{NodeValue, at_port}
use Rattle.lan.specs.Worlds.AtLink.Steps.{PollsAt, Acts}
use Rattle.sockets.specs.declared.socket.Socket.{Socket}
use Rattle.sockets.specs.declared.socket.Socket.TheVariants as Is
use Rattle.tcp_block.specs.State as States
use Rattle.lan.specs.Worlds.Hosts.Quiet.{is_idle, IsOutside, NoneExpires}
use Rattle.lan.proofs.Worlds.Hosts.Acting.{IsInTime, not_less, not_on}
use Rattle.lan.proofs.Worlds.Hosts.Routes.{routes_stay}

-- A LOOK AT A STATE

set_same : {X : Type 0} (xs : List X) (i : ℕ) (x : X) → slice_get xs i ≡ Some x → slice_set xs i x ≡ xs
set_same [] i x is = absurd (let no : None ≡ Some x = is in cc)
set_same {X} (y ∷ ys) zero x is = ap (λ (z : X). z ∷ ys) (let same : Some y ≡ Some x = is in cc)
set_same {X} (y ∷ ys) (suc i) x is = ap (λ (zs : List X). y ∷ zs) (set_same ys i x is)

module _ (s s' : NodeValue) (i : ℕ) (answer : Answer) (found : Option States.State) where
  looked_tcp : (slot : SocketStorage Socket) (item : Item Socket) (socket : Socket) → slice_get s.slots i ≡ Some slot → slot.inner ≡ Some item →
      item.socket ≡ socket
      → (host : HostValue) → host ≡ s.host → s' ≡ record s { host = host; slots = slice_set s.slots i (with_socket item socket) } → s' ≡ s
  looked_tcp slot item socket at here is host same did =
      let item_is : with_socket item socket ≡ slot =
      ap (λ (x : Socket). with_socket item x) (sym is) ∙
      ap (λ (o : Option (Item Socket)). let p : SocketStorage Socket = record { inner = o } in p) (sym here) in
      let slots : slice_set s.slots i (with_socket item socket) ≡ s.slots =
      ap (slice_set s.slots i) item_is ∙ set_same s.slots i slot at in
      did ∙ ap (λ (h : HostValue). record s { host = h; slots = slice_set s.slots i (with_socket item socket) }) same
      ∙ ap (λ (ps : List (SocketStorage Socket)). record s { slots = ps }) slots

  looked_at : (slot : SocketStorage Socket) (item : Item Socket) (socket : Socket) → slice_get s.slots i ≡ Some slot → slot.inner ≡ Some item →
      item.socket ≡ socket
      → DidAt s i (record item { socket = socket }) Call.State (does (context_of s.host.inner) socket Call.State) answer found s' → s' ≡ s
  looked_at slot item (Is.Raw v) at here is did = absurd did
  looked_at slot item (Is.Icmp v) at here is did = absurd did
  looked_at slot item (Is.Udp v) at here is did = absurd did
  looked_at slot item (Is.Dhcpv4 v) at here is did = absurd did
  looked_at slot item (Is.Dns v) at here is did = absurd did
  looked_at slot item (Is.Tcp v) at here is did = looked_tcp slot item (Is.Tcp v) at here is s.host refl did.2

  looked_item : (slot : SocketStorage Socket) (o : Option (Item Socket)) → slice_get s.slots i ≡ Some slot → slot.inner ≡ o →
      ItemDoes s i o Call.State answer found s' → s' ≡ s
  looked_item slot None at here did = absurd did
  looked_item slot (Some item) at here did = looked_at slot item item.socket at here refl did

  looked_slot : (o : Option (SocketStorage Socket)) → slice_get s.slots i ≡ o → SlotDoes s i o Call.State answer found s' → s' ≡ s
  looked_slot None at did = absurd did
  looked_slot (Some slot) at did = looked_item slot slot.inner at refl did

  state_same : Does s i Call.State answer found s' → s' ≡ s
  state_same did = looked_slot (slice_get s.slots i) refl did

-- AS IT WAS ASKED

-- it is the host that was asked at an instant, later, would answer the same, and no frame waits
pub record IsAsIt (asked : InnerValue) (asked_at : ℤ) (answer : Option ℤ) (s : NodeValue) : Type 0 where
  pub instant : asked.instant ≡ asked_at
  pub inner : s.host.inner ≡ at_instant s.host.inner.instant asked
  pub since : asked_at ≤ℤ s.host.inner.instant
  pub due_instant : poll_instant asked s.host.left s.slots ≡ answer
  pub waiting : s.link.waiting ≡ []

up_to : (a b c : ℤ) → a ≤ℤ b → b ≤ℤ c → a ≤ℤ c
up_to a b c one two = grind (arith)

earlier_still : (t m : ℤ) (o : Option ℤ) → m ≤ℤ t → IsEarlier t o → IsEarlier m o
earlier_still t m None up early = tt
earlier_still t m (Some instant) up early = grind (arith)

outside_still : (from until m : ℤ) (o : Option ℤ) → m ≤ℤ until → IsOutside from until o → IsOutside from m o
outside_still from until m None up out = tt
outside_still from until m (Some end) up (inl before) = inl before
outside_still from until m (Some end) up (inr after) = inr (up_to m until end up after)

pub none_still : (from until m : ℤ) (rs : List Rattle.iface_tables.specs.declared.route.Route.Route) → m ≤ℤ until → NoneExpires from until rs →
    NoneExpires from m rs
none_still from until m [] up out = tt
none_still from until m (r ∷ rs) up out = (outside_still from until m r.expires_at up out.0, none_still from until m rs up out.1)

module _ (due : DueAsBefore) (asked : InnerValue) (asked_at : ℤ) (answer : Option ℤ) (s s' : NodeValue) (held : IsAsIt asked asked_at answer s) where
  -- A POLL

  module _ (m : ℤ) (early : IsEarlier m answer) (out : NoneExpires asked_at m s.host.inner.routes) (time : (s.host.inner.instant ≤ℤ m) × (pos 0 ≤ℤ m)) where
    after : asked.instant ≤ℤ m
    after = subst (λ (x : ℤ). x ≤ℤ m) (sym held.instant) (up_to asked_at s.host.inner.instant m held.since time.0)

    outside : NoneExpires asked.instant m asked.routes
    outside =
        subst (λ (x : ℤ). NoneExpires x m asked.routes) (sym held.instant)
        (subst (λ (i : InnerValue). NoneExpires asked_at m i.routes) held.inner out)

    is_early : IsEarly asked s.host.left s.slots m
    is_early = record {
      instant = time.1;
      since = after;
      before = subst (IsEarlier m) (sym held.due_instant) early;
      routes = routes_stay asked m after outside;
    }

    no_frame : (p : PortValue) → p.link ≡ s.link → HasNoFrame PortMove m p
    no_frame p at frame q took =
        let some : frame ∷ q.link.waiting ≡ [] =
        sym (ap (λ (x : PortValue). x.link.waiting) took.1) ∙ ap (λ (x : LinkEnd). x.waiting) at ∙ held.waiting in
        absurd (cc)

    same_port : (p q : PortValue) → (q ≡ p) ⊎ PortMove p (Rattle.sim_link.specs.Device.Empty m) q → q ≡ p
    same_port p q (inl is) = is
    same_port p q (inr looks) = looks.0

    module _ (budget : ℕ) (changed : Bool) (polls : PollsAt s m budget changed s') where
      quiet : IsQuietPoll PortMove asked m (at_port polls.port s) changed (at_port polls.port_after s')
      quiet =
          quiet_poll due PortMove m asked s.host.inner.instant budget (at_port polls.port s) (at_port polls.port_after s') changed held.inner is_early
          (no_frame polls.port polls.before) polls.polls

      pub same_link : s'.link ≡ s.link
      same_link =
          sym polls.after ∙ ap (λ (p : PortValue). p.link) (same_port polls.port polls.port_after quiet.device) ∙ polls.before

      pub polled_as_it : IsAsIt asked asked_at answer s'
      polled_as_it =
          let host : s'.host ≡ maintained m s.host = quiet.host in
          let inner : s'.host.inner ≡ at_instant m s.host.inner = ap (λ (h : HostValue). h.inner) host in
          let now : s'.host.inner.instant ≡ m = ap (λ (i : InnerValue). i.instant) inner in
          record {
            instant = held.instant;
            inner = inner ∙ ap (at_instant m) held.inner ∙ ap (λ (t : ℤ). at_instant t asked) (sym now);
            since = subst (λ (x : ℤ). asked_at ≤ℤ x) (sym now) (up_to asked_at s.host.inner.instant m held.since time.0);
            due_instant =
                ap (λ (h : HostValue). poll_instant asked h.left s'.slots) host ∙ quiet.due_instant ∙ held.due_instant;
            waiting = ap (λ (x : LinkEnd). x.waiting) same_link ∙ held.waiting;
          }

  -- ANY IDLE ACT

  as_it_where : (x : NodeValue) → s' ≡ x → IsAsIt asked asked_at answer x → IsAsIt asked asked_at answer s'
  as_it_where x is so = subst (IsAsIt asked asked_at answer) (sym is) so

  is_state : (t : ℤ) (i : ℕ) (call : SocketCall) → is_idle t (Calls i call) ≡ true → call ≡ Call.State
  is_state t i Call.State idle = refl
  is_state t i call idle = absurd (cc)

  pub idle_as_it : (t : ℤ) (act : Act) (said : Answer) (found : Option States.State) → is_idle t act ≡ true → IsEarlier t answer →
      NoneExpires asked_at t s.host.inner.routes → IsInTime s act
      → Acts s act said found s' → IsAsIt asked asked_at answer s'
  idle_as_it t (Calls i call) said found idle early out time acts =
      as_it_where s (state_same s s' i said found (subst (λ (c : SocketCall). Does s i c said found s') (is_state t i call idle) acts)) held
  idle_as_it t (Sets setting) said found idle early out time acts = absurd (cc)
  idle_as_it t (Opens n) said found idle early out time acts =
      as_it_where (record s { link = record s.link { room = n } }) acts.2
      (record { instant = held.instant; inner = held.inner; since = held.since; due_instant = held.due_instant; waiting = held.waiting })
  idle_as_it t (Asks instant) said found idle early out time acts =
      as_it_where (record s { host = record s.host { inner = at_instant instant s.host.inner } }) acts.2 (record {
        instant = held.instant;
        inner = ap (at_instant instant) held.inner;
        since = up_to asked_at s.host.inner.instant instant held.since time.0;
        due_instant = held.due_instant;
        waiting = held.waiting;
      })
  idle_as_it t (Polls m budget) said found idle early out time acts =
      let up : m ≤ℤ t = not_less t m (not_on (int_lt t m) idle) in
      polled_as_it m (earlier_still t m answer up early) (none_still asked_at t m s.host.inner.routes up out) time budget acts.0 acts.1
