-- What is at rest has arrived.
use Rattle.std.proofs.Common.{◌≡◌, ◌⊎◌, inl, inr, pos, ◌<◌, if◌then◌else◌, ℕ, zero, suc, ◌+◌, ◌≤◌, ℤ, Bool, true, false, List, [], ◌∷◌, ◌++◌, length, Option, Some, None, refl, sym, ap, ◌∙◌, subst, arith}
use Rattle.std.specs.Prelude.{slice_index_or}
use Rattle.std.proofs.lemmas.Int.{ints}
use Rattle.std.proofs.lemmas.Bool.{cases_lt}
use Rattle.std.proofs.lemmas.List.{append-nil, length-append}
use Rattle.iface_ingress.specs.PollAt.{PollAt}
use Rattle.iface_ingress.specs.PollAt.TheVariants as When
use Rattle.iface_ingress.specs.Socket.{Socket}
use Rattle.iface_ingress.specs.Socket.TheVariants as Is
use Rattle.iface_ingress.specs.Sockets.{poll_of as poll_in}
use Rattle.iface_tables.specs.Inner.{InnerValue, at_instant}
use Rattle.iface_egress.specs.Fragments.{LeftValue}
use Rattle.iface_egress.specs.Meta.{poll_at, poll_by, waits_by}
use Rattle.iface_egress.specs.Set.{socket_of}
use Rattle.iface_egress.specs.declared.socket_meta.Meta.{Meta}
use Rattle.iface_egress.specs.declared.socket_meta.Waiting.{Waiting}
use Rattle.iface_egress.specs.declared.socket_set.Item.{Item}
use Rattle.iface_egress.specs.declared.socket_set.SocketStorage.{SocketStorage}
use Rattle.interface.specs.Instant.{instant_in, instant_of, poll_instant, soonest, soonest_parked}
use Rattle.interface.specs.QuietStep.{IsEarlier}
use Rattle.interface.specs.Remote.{context_for, end_by, remote_of}
use Rattle.interface.specs.Serve.{passes_filter}
use Rattle.interface.proofs.Due.{AllLater, all_later, both_early}
use Rattle.tcp_block.specs.TcbRules.{one_if, unacked}
use Rattle.tcp_block.specs.Due.{poll_of}
use Rattle.tcp_block.specs.Value.{TcpValue}
use Rattle.tcp_state.specs.States.{owes_fin}
use Rattle.tcp_liveness.specs.Reached.{IsReached, Owes}
use Rattle.tcp_liveness.proofs.Kept.{reached_by}
use Rattle.tcp_liveness.proofs.Ready.{names_in}
use Rattle.tcp_refinement.specs.Context.{ContextValue}
use Rattle.tcp_refinement.specs.Pair.Sides.{at}
use Rattle.tcp_refinement.specs.Pair.Values.{PairValue, context_on}
use Rattle.tcp_refinement.specs.declared.pair.event.Side as Pairs
use Rattle.tcp_refinement.specs.Safe.{IsPrefixOf}
use Rattle.lan.specs.declared.at_link.history.answer.Answer.TheVariants as To
use Rattle.lan.specs.declared.at_link.history.event.Event.TheVariants as E
use Rattle.lan.specs.declared.at_link.history.event.Side.{Side}
use Rattle.lan.specs.declared.at_link.history.event.Side.TheVariants.{A, B}
use Rattle.lan.specs.Worlds.AtLink.Initial.{IsInitialWorld}
use Rattle.lan.specs.Worlds.AtLink.History.{Entry, written}
use Rattle.lan.specs.Worlds.AtLink.Kinds.{Kind, kind_of, other}
use Rattle.lan.specs.Worlds.AtLink.Kinds.Act.{Asks}
use Rattle.lan.specs.Worlds.AtLink.PacketsSafe.{HoldsRest, IsSafe, IsTcpAt, taken_in}
use Rattle.lan.specs.Worlds.AtLink.Paired.{AreNew, HaveKeys, NewSocket, side_in}
use Rattle.lan.specs.Worlds.AtLink.Parties as Parties
use Rattle.lan.specs.Worlds.AtLink.PeerSides.{ArePartners}
use Rattle.lan.specs.Worlds.AtLink.Runs.{Leads, Starts, WorldRun, WorldValue, unused_both}
use Rattle.lan.specs.Worlds.AtLink.Safe.{first_port, net_of, seen, seen_in}
use Rattle.lan.specs.Worlds.AtLink.Sets.{instant_at}
use Rattle.lan.specs.Worlds.AtLink.Node.{NodeValue, Nodes, node}
use Rattle.lan.specs.Worlds.AtLink.Steps.{ActsAt, Happens}
use Rattle.lan.specs.Worlds.Events.{AreTyped}
use Rattle.lan.specs.Worlds.Moves.Follows.{sockets_of}
use Rattle.lan.specs.Worlds.Moves.Joined.{first_net}
use Rattle.lan.specs.Worlds.Settling.{AreIdle}
use Rattle.lan.specs.Worlds.Still.{StillRun, seats_of}
use Rattle.lan.proofs.Worlds.AtLink.PeerSideLemmas.{peer_sides_turned}
use Rattle.lan.proofs.Worlds.Runs.{runs_safe}
use Rattle.lan.proofs.Worlds.StillOnward.{ran}
use Rattle.proof_stack.proofs.StillPeerSides.{proceed}
use Rattle.proof_stack.specs.Progress.PeerSides.{ProceedBetween, HoldText}
use Rattle.proof_stack.specs.Progress.Settled.{HasArrived, IsConnected}

-- NOTHING IS WAITED FOR

-- an instant before which is every instant isn't one
never : (o : Option ℤ) → ((t : ℤ) → IsEarlier t o) → o ≡ None
never None all = refl
never (Some m) all = let later = all m in absurd (omega (arith, ints, later))

no_instant : (p : PollAt) → instant_of p ≡ None → p ≡ When.Ingress
no_instant When.Now is = cc
no_instant (When.Time m) is = cc
no_instant When.Ingress is = refl

by_itself : (w : Option Waiting) (poll : PollAt) (known : Bool) (instant : ℤ) → poll_by w poll known instant ≡ When.Ingress → poll ≡ When.Ingress
by_itself None poll known instant is = is
by_itself (Some w) poll known instant is = by (waits_by (Some w) known instant) is where
  by : (b : Bool) → (if b then When.Time w.silent_until else poll) ≡ When.Ingress → poll ≡ When.Ingress
  by true is = cc
  by false is = is

module _ (i : InnerValue) where
  abbrev Wants : Option Parties.Socket → Type 0
  Wants o = (v : TcpValue) → o ≡ Some (Parties.Tcp v) → (mtu : ℕ) × (poll_of mtu v ≡ When.Ingress)

  at_socket : (m : Meta) (s : Socket) → ((t : ℤ) → IsEarlier t (instant_of (poll_at m (poll_in (context_for i s) s) (passes_filter i m) i.instant))) → Wants (seen s)
  at_socket m (Is.Raw w) all v is = absurd cc
  at_socket m (Is.Icmp w) all v is = absurd cc
  at_socket m (Is.Udp w) all v is = absurd cc
  at_socket m (Is.Dhcpv4 w) all v is = absurd cc
  at_socket m (Is.Dns w) all v is = absurd cc
  at_socket m (Is.Tcp w) all v is =
      let mtu : ℕ = (context_for i (Is.Tcp w)).ip_mtu in
      let none : poll_of mtu w ≡ When.Ingress =
      by_itself m.waiting (poll_of mtu w) (passes_filter i m) i.instant
      (no_instant (poll_at m (poll_in (context_for i (Is.Tcp w)) (Is.Tcp w)) (passes_filter i m) i.instant) (never _ all)) in
      let same : w ≡ v = cc in
      (mtu, subst (λ (x : TcpValue). poll_of mtu x ≡ When.Ingress) same none)

  at_item : (o : Option (Item Socket)) → ((t : ℤ) → IsEarlier t (instant_in i o)) → Wants (seen_in (socket_of o))
  at_item None all v is = absurd cc
  at_item (Some item) all v is = at_socket item.meta item.socket (λ t. (both_early t (end_by i (remote_of item.socket)) _ (all t)).1) v is

  at_slot : (ps : List (SocketStorage Socket)) (slot : ℕ) → ((t : ℤ) → AllLater t i ps) → Wants (slice_index_or (sockets_of ps) slot None)
  at_slot [] zero all v is = absurd cc
  at_slot [] (suc slot) all v is = absurd cc
  at_slot (p ∷ ps) zero all v is = at_item p.inner (λ t. (all t).0) v is
  at_slot (p ∷ ps) (suc slot) all v is = at_slot ps slot (λ t. (all t).1) v is

  at_host : (left : Option LeftValue) (ps : List (SocketStorage Socket)) (slot : ℕ) → poll_instant i left ps ≡ None
      → Wants (slice_index_or (sockets_of ps) slot None)
  at_host (Some l) ps slot none v is = absurd cc
  at_host None ps slot none v is = at_slot ps slot (λ t. all_later t i ps (both_early t (soonest_parked i) (soonest i ps) (subst (λ (o : Option ℤ). IsEarlier t o) (sym none) tt)).1) v is

-- BOTH WERE ASKED

-- a host that was asked has the sockets that it had, and none of them wants anything
abbrev Rests : NodeValue → NodeValue → ℤ → Type 0
Rests old new instant = (instant_at old instant ≡ None) × (new.slots ≡ old.slots)

asked_none : (past : List Entry) (old new : Nodes) (e : Entry) (side : Side) (instant : ℤ) → Leads past old e new → e.event ≡ E.PollAt side instant
    → e.answer ≡ To.At None → Rests (node old side) (node new side) instant × (node new (other side) ≡ node old (other side))
asked_none past old new e side instant leads is told =
    let acts : ActsAt old side (Asks instant) e.answer e.found new = subst (λ (k : Kind). Happens old k e.answer e.found new) (ap kind_of is) leads.happens in
    let same : To.At (instant_at (node old side) instant) ≡ To.At None = sym acts.acts.0 ∙ told in
    ((cc, ap (λ (s : NodeValue). s.slots) acts.acts.2), acts.rests)

rested : (starts : Starts) (history : List Entry) (hosts : Nodes) (instant : ℤ) (side : Side) → WorldRun history (unused_both starts) hosts
    → AreIdle instant history → (before : NodeValue) × Rests before (node hosts side) instant
rested starts history hosts instant side run (past, between, (a, first, asks_a, tells_a), (b, last, asks_b, tells_b)) =
    let whole : history ≡ b ∷ a ∷ past = last ∙ ap (λ (h : List Entry). b ∷ h) first in
    let (mid, (before, ran, leads_a), leads_b) = subst (λ (h : List Entry). WorldRun h (unused_both starts) hosts) whole run in
    let of_a = asked_none past before mid a A instant leads_a asks_a tells_a in
    let of_b = asked_none (a ∷ past) mid hosts b B instant leads_b asks_b tells_b in
    by side mid (node before A) of_a.0 (node mid B) of_b.0 of_b.1 where
      by : (side : Side) (mid : Nodes) (x : NodeValue) → Rests x (node mid A) instant → (y : NodeValue) → Rests y (node hosts B) instant
          → node hosts A ≡ node mid A → (before : NodeValue) × Rests before (node hosts side) instant
      by A mid x rests y also same = (x, subst (λ (s : NodeValue). Rests x s instant) (sym same) rests)
      by B mid x rests y also same = (y, also)

abbrev pub world : Starts → List Entry → Nodes → WorldValue
world starts history hosts = record { hosts = hosts; starts = starts; history = history }

-- a TCP socket of the net is the host's
pub of_host : (starts : Starts) (history : List Entry) (hosts : Nodes) (side : Side) (slot : ℕ) (v : TcpValue) → IsTcpAt (net_of (world starts history hosts)) side slot v
    → slice_index_or (sockets_of (node hosts side).slots) slot None ≡ Some (Parties.Tcp v)
of_host starts history hosts A slot v is = is
of_host starts history hosts B slot v is = is

pub wants_nothing : (starts : Starts) (history : List Entry) (hosts : Nodes) (instant : ℤ) (side : Side) (slot : ℕ) (v : TcpValue)
    → WorldRun history (unused_both starts) hosts → AreIdle instant history → IsTcpAt (net_of (world starts history hosts)) side slot v
    → (mtu : ℕ) × (poll_of mtu v ≡ When.Ingress)
wants_nothing starts history hosts instant side slot v run rest is =
    let (before, (none, same)) = rested starts history hosts instant side run rest in
    at_host (at_instant instant before.host.inner) before.host.left before.slots slot none v
    (sym (ap (λ (ps : List (SocketStorage Socket)). slice_index_or (sockets_of ps) slot None) same) ∙ of_host starts history hosts side slot v is)

-- WHAT WAITS FOR NOTHING

-- each of two begins the other
same_by_prefixes : (xs ys : List ℕ) → IsPrefixOf xs ys → IsPrefixOf ys xs → xs ≡ ys
same_by_prefixes xs ys (more, is) (rest, back) = by more is (omega (arith, one, other)) where
  one : length xs + length more ≡ length ys
  one = sym (length-append xs more) ∙ ap length is

  other : length ys + length rest ≡ length xs
  other = sym (length-append ys rest) ∙ ap length back

  by : (more : List ℕ) → xs ++ more ≡ ys → length more ≡ 0 → xs ≡ ys
  by [] is none = sym (append-nil xs) ∙ is
  by (x ∷ more) is some = absurd cc

none_left : (xs : List ℕ) → length xs ≡ 0 → xs ≡ []
none_left [] none = refl
none_left (x ∷ xs) none = absurd cc

none_owed : (b : Bool) → one_if b ≡ 0 → b ≡ false
none_owed true none = absurd cc
none_owed false none = refl

pub none_unacked : (v : TcpValue) → unacked v.tcb (length v.queued.queue) ≤ 0 → (v.queued.queue ≡ []) × (owes_fin v.tcb.state ≡ false)
none_unacked v all = (none_left v.queued.queue (omega (arith, all)), none_owed (owes_fin v.tcb.state) (omega (arith, all)))

-- a socket of a pair that events led to, which waits for nothing, has nothing that isn't acknowledged
all_acknowledged : (p : PairValue) (side : Pairs.Side) (v : TcpValue) (mtu : ℕ) → IsReached p → (at p.sides side).socket ≡ v → IsConnected v
    → poll_of mtu v ≡ When.Ingress → (v.queued.queue ≡ []) × (owes_fin v.tcb.state ≡ false)
all_acknowledged p side v mtu reached is connected none = by (cases_lt 0 (unacked v.tcb (length v.queued.queue))) where
  cx : ContextValue
  cx = context_on (record (at p.sides side).host { ip_mtu = mtu }) (pos 0) 0

  waits_on : 1 ≤ unacked v.tcb (length v.queued.queue) → ⊥
  waits_on owes = names_in p side cx reached (subst Owes (sym is) (record {
    alive = connected.alive;
    connected = connected.connected;
    owes = owes;
    unpaused = connected.unpaused;
  })) (ap (λ (w : TcpValue). poll_of mtu w) is ∙ none)

  by : (0 < unacked v.tcb (length v.queued.queue)) ⊎ (unacked v.tcb (length v.queued.queue) ≤ 0) → (v.queued.queue ≡ []) × (owes_fin v.tcb.state ≡ false)
  by (inl owes) = absurd (waits_on owes)
  by (inr all) = none_unacked v all

-- what is freed was taken in, so that nothing is left means that all was
all_taken : (written taken queue : List ℕ) → queue ≡ [] → HoldsRest written queue taken → IsPrefixOf taken written → taken ≡ written
all_taken written taken queue none rest prefix =
    let gone : rest.gone ≡ written = sym (append-nil rest.gone) ∙ sym (ap (λ (q : List ℕ). rest.gone ++ q) none) ∙ rest.rest in
    same_by_prefixes taken written prefix (subst (λ (xs : List ℕ). IsPrefixOf xs taken) gone rest.was_taken)

module _ (starts : Starts) (history : List Entry) (hosts : Nodes) (slots : Side → ℕ) (news : Side → NewSocket) (initial : IsInitialWorld starts)
    (typed : AreTyped history) (still : StillRun starts history hosts) (new : AreNew (seats_of starts slots) news (first_net starts))
    (keys : HaveKeys (seats_of starts slots)) (text : HoldText (seats_of starts slots)) (peer_sides : ArePartners history A (slots A) (slots B)) where
  abbrev on : (between : Nodes) × ProceedBetween starts history between history hosts (seats_of starts slots)
  on = proceed starts history [] hosts slots news initial typed still new keys text peer_sides

  abbrev pair : PairValue
  pair = on.1.proceeds.on.next

  reached : IsReached pair
  reached = reached_by on.1.reached.pair pair on.1.proceeds.on.events on.1.reached.reached on.1.proceeds.on.steps

  of_pair : (side : Side) (v : TcpValue) → IsTcpAt (net_of (world starts history hosts)) side (slots side) v → (at pair.sides (side_in side)).socket ≡ v
  of_pair side v is =
      let there = on.1.proceeds.on.shows.socket side in
      let same : Some (Parties.Tcp (at pair.sides (side_in side)).socket) ≡ Some (Parties.Tcp v)
      = sym there ∙ ap (λ (xs : List (Option Parties.Socket)). slice_index_or xs (slots side) None) (on.1.of_these.sockets side)
      ∙ of_host starts history hosts side (slots side) v is in
      cc

  of_side : (side : Side) → ArePartners history side (slots side) (slots (other side))
  of_side A = peer_sides
  of_side B = peer_sides_turned history A (slots A) (slots B) peer_sides

  twice : (side : Side) → other (other side) ≡ side
  twice A = refl
  twice B = refl

  back : (side : Side) → ArePartners history (other side) (slots (other side)) (slots side)
  back A = peer_sides_turned history A (slots A) (slots B) peer_sides
  back B = peer_sides

  -- where nothing of it is left
  pub came : (side : Side) (v w : TcpValue) → IsTcpAt (net_of (world starts history hosts)) side (slots side) v
      → IsTcpAt (net_of (world starts history hosts)) (other side) (slots (other side)) w → (v.queued.queue ≡ []) × (owes_fin v.tcb.state ≡ false)
      → HasArrived (net_of (world starts history hosts)) side (slots side) (slots (other side)) v w
  came side v w here there all =
      let safe : IsSafe (first_port starts) (net_of (world starts history hosts)) = runs_safe starts initial history hosts typed (ran starts history hosts still) in
      record {
        left = all.0;
        arrived = all_taken (written history side (slots side)) (taken_in (net_of (world starts history hosts)) (other side) (slots (other side)) w)
            v.queued.queue all.0 (safe.freed side (slots side) (slots (other side)) v w (of_side side) here there)
            (subst (λ (s : Side). IsPrefixOf (taken_in (net_of (world starts history hosts)) (other side) (slots (other side)) w) (written history s (slots side)))
            (twice side) (safe.prefix (other side) (slots (other side)) (slots side) w (back side) there));
        ended = all.1;
      }

  pub arrived : (side : Side) (v w : TcpValue) (mtu : ℕ) → IsTcpAt (net_of (world starts history hosts)) side (slots side) v
      → IsTcpAt (net_of (world starts history hosts)) (other side) (slots (other side)) w → IsConnected v → poll_of mtu v ≡ When.Ingress
      → HasArrived (net_of (world starts history hosts)) side (slots side) (slots (other side)) v w
  arrived side v w mtu here there connected none =
      came side v w here there (all_acknowledged pair (side_in side) v mtu reached (of_pair side v here) connected none)
