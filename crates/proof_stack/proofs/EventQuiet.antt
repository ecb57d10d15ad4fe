-- After a quiet poll a TCP socket doesn't want to be asked any more.
use Rattle.std.proofs.Common.{◌≡◌, ◌⊎◌, inl, inr, ℕ, zero, suc, ◌≤◌, ℤ, pos, ◌≤ℤ◌, Bool, true, false, ◌||◌, if◌then◌else◌, IsTrue, List, [], ◌∷◌, length, Option, Some, None}
use Rattle.std.proofs.Common.{refl, sym, ap, ◌∙◌, subst, arith}
use Rattle.std.specs.Prelude.{slice_get, slice_index_or}
use Rattle.std.specs.List.{list_any}
use Rattle.std.proofs.lemmas.Int.{ints}
use Rattle.std.proofs.lemmas.List.{length-append}
use Rattle.net_base.specs.Device.{Move, Took, Empty, Allowed, Emitted, Denied}
use Rattle.net_base.specs.Time.{IsMoment}
use Rattle.iface_ingress.specs.PollAt.{PollAt}
use Rattle.iface_ingress.specs.PollAt.TheVariants as When
use Rattle.iface_ingress.specs.Polling.{IsBefore}
use Rattle.iface_ingress.specs.Socket.{Socket}
use Rattle.iface_ingress.specs.Socket.TheVariants as Is
use Rattle.iface_ingress.specs.Sockets.{poll_of as poll_in}
use Rattle.iface_tables.specs.Inner.{InnerValue}
use Rattle.iface_egress.specs.Fragments.{LeftValue}
use Rattle.iface_egress.specs.Set.{socket_of}
use Rattle.iface_egress.specs.Meta.{poll_at, poll_by, waits_by}
use Rattle.iface_egress.specs.declared.socket_meta.Meta.{Meta}
use Rattle.iface_egress.specs.declared.socket_meta.Waiting.{Waiting}
use Rattle.iface_egress.specs.declared.socket_set.Item.{Item}
use Rattle.iface_egress.specs.declared.socket_set.SocketStorage.{SocketStorage}
use Rattle.interface.specs.Instant.{instant_in, instant_of, poll_instant, soonest, soonest_parked}
use Rattle.interface.specs.Polls.{Polls as Polled}
use Rattle.interface.specs.QuietStep.{IsEarlier}
use Rattle.interface.specs.Remote.{context_for, end_by, remote_of}
use Rattle.interface.specs.Serve.{passes_filter, is_waiting}
use Rattle.interface.proofs.Due.{AllLater, all_later, before_due, both_early}
use Rattle.sockets.specs.Context.{ContextValue}
use Rattle.tcp_block.specs.Due.{poll_of}
use Rattle.sim_link.specs.Port.{LinkEnd, PortMove, PortValue, has_tx_token}
use Rattle.lan.specs.declared.at_link.history.answer.Answer.{Answer}
use Rattle.lan.specs.declared.at_link.history.answer.Answer.TheVariants as To
use Rattle.lan.specs.declared.at_link.history.event.Side.{Side}
use Rattle.lan.specs.Worlds.AtLink.History.{Entry}
use Rattle.lan.specs.Worlds.AtLink.Kinds.{Kind, kind_of}
use Rattle.lan.specs.Worlds.AtLink.Kinds.Act.{Polls}
use Rattle.lan.specs.Worlds.AtLink.Kinds.Kind.{OfHost}
use Rattle.lan.specs.Worlds.AtLink.Parties as Parties
use Rattle.lan.specs.Worlds.AtLink.Runs.{AreAlone, Leads}
use Rattle.lan.specs.Worlds.AtLink.Safe.{seen, seen_in}
use Rattle.lan.specs.Worlds.AtLink.Node.{NodeValue, Nodes, at_port, node}
use Rattle.lan.specs.Worlds.AtLink.Steps.{ActsAt, Happens, PollsAt}
use Rattle.lan.specs.Worlds.Moves.Follows.{sockets_of}
use Rattle.lan.specs.Worlds.Still.{IsStill}
use Rattle.lan.proofs.Worlds.Alone.{alone_at}
use Rattle.lan.proofs.Worlds.Hosts.Polling.{polled as poll_settings}
use Rattle.lan.proofs.Worlds.Moves.Held.{IsAsAt, shows_towards}
use Rattle.proof_stack.proofs.Polls.Inboxes.{refuse_nothing}
use Rattle.proof_stack.proofs.Polls.Polled.{of_use}
use Rattle.proof_stack.specs.Progress.Moves.{AreMoves, is_sent}
use Rattle.proof_stack.specs.Progress.Moving.{IsTcp}
use Rattle.proof_stack.specs.Progress.OfUse.{IsOfUse, Stirs}
use Rattle.proof_stack.specs.Progress.Patience.{ArePatient}
use Rattle.proof_stack.specs.Progress.Serving.{IsIdle, IsQuietPoll, WaitsForNone, WantsAt}

-- NO FRAME WENT

kept_or_more : (old new : PortValue) (m : Move) → PortMove old m new → length old.link.sent ≤ length new.link.sent
kept_or_more old new (Took t frame) goes = let same = ap (λ (p : PortValue). length p.link.sent) goes.1 in omega (arith, same)
kept_or_more old new (Empty t) goes = let same = ap (λ (p : PortValue). length p.link.sent) goes.0 in omega (arith, same)
kept_or_more old new (Allowed t given) goes = let same = ap (λ (p : PortValue). length p.link.sent) goes.0 in omega (arith, same)
kept_or_more old new (Emitted frame) goes =
    let more = ap (λ (p : PortValue). length p.link.sent) goes in
    let one = length-append old.link.sent (frame ∷ []) in
    omega (arith, more, one)
kept_or_more old new (Denied len) goes = let same = ap (λ (p : PortValue). length p.link.sent) goes.0 in omega (arith, same)

all_kept_or_more : (all : List Move) (old new : PortValue) → AreMoves PortMove all old new → length old.link.sent ≤ length new.link.sent
all_kept_or_more [] old new goes = let same = ap (λ (p : PortValue). length p.link.sent) goes in omega (arith, same)
all_kept_or_more (m ∷ all) old new (mid, first, rest) =
    let a = kept_or_more old mid m first in let b = all_kept_or_more all mid new rest in omega (arith, a, b)

not_sent : (old new : PortValue) (m : Move) → PortMove old m new → length new.link.sent ≤ length old.link.sent → is_sent m ≡ false
not_sent old new (Took t frame) goes most = refl
not_sent old new (Empty t) goes most = refl
not_sent old new (Allowed t given) goes most = refl
not_sent old new (Emitted frame) goes most =
    let more = ap (λ (p : PortValue). length p.link.sent) goes in
    let one = length-append old.link.sent (frame ∷ []) in
    absurd (omega (arith, more, one, most))
not_sent old new (Denied len) goes most = refl

neither : (a b : Bool) → a ≡ false → b ≡ false → (a || b) ≡ false
neither a b one other = ap (λ (x : Bool). x || b) one ∙ other

none_sent : (all : List Move) (old new : PortValue) → AreMoves PortMove all old new → length new.link.sent ≤ length old.link.sent → list_any is_sent all ≡ false
none_sent [] old new goes most = refl
none_sent (m ∷ all) old new (mid, first, rest) most =
    let a = kept_or_more old mid m first in
    let b = all_kept_or_more all mid new rest in
    neither (is_sent m) (list_any is_sent all) (not_sent old mid m first (omega (arith, b, most))) (none_sent all mid new rest (omega (arith, a, most)))

-- A SOCKET OF A HOST THAT IS NOT DUE

no_earlier : (t : ℤ) → t ≤ℤ t
no_earlier t = omega (arith, ints)

module _ (i : InnerValue) (t : ℤ) (low : pos 0 ≤ℤ t) (paths : i.paths ≡ []) where
  abbrev Wanting : Option Parties.Socket → Type 0
  Wanting o = IsTcp o (λ v. IsBefore t (poll_of i.mtu v) → ⊥)

  like : IsAsAt i i.instant i
  like = record {
    settings = record { hardware = refl; mtu = refl; checksums = refl; addresses = refl; isn_key = refl; any_ip = refl; groups = refl; host_requirements = refl; routes = refl };
    instant = refl;
    low = no_earlier i.errors_until;
    ident = λ small. small;
  }

  unmarked_poll : (w : Option Waiting) (poll : PollAt) (known : Bool) → waits_by w known i.instant ≡ false → poll_by w poll known i.instant ≡ poll
  unmarked_poll None poll known idle = refl
  unmarked_poll (Some w) poll known idle = ap (λ (b : Bool). if b then When.Time w.silent_until else poll) idle

  at_socket : (m : Meta) (s : Socket) → IsEarlier t (instant_of (poll_at m (poll_in (context_for i s) s) (passes_filter i m) i.instant)) → is_waiting i m ≡ false
      → Wanting (seen s) → ⊥
  at_socket m (Is.Raw v) later idle wants = wants
  at_socket m (Is.Icmp v) later idle wants = wants
  at_socket m (Is.Udp v) later idle wants = wants
  at_socket m (Is.Dhcpv4 v) later idle wants = wants
  at_socket m (Is.Dns v) later idle wants = wants
  at_socket m (Is.Tcp v) later idle wants =
      let itself : IsEarlier t (instant_of (poll_in (context_for i (Is.Tcp v)) (Is.Tcp v))) =
      subst (λ (p : PollAt). IsEarlier t (instant_of p)) (unmarked_poll m.waiting (poll_in (context_for i (Is.Tcp v)) (Is.Tcp v)) (passes_filter i m) idle) later in
      let mtu : (context_for i (Is.Tcp v)).ip_mtu ≡ i.mtu =
      ap (λ (c : ContextValue). c.ip_mtu) (shows_towards i i i.instant like (remote_of (Is.Tcp v)) paths) in
      wants (subst (λ (n : ℕ). IsBefore t (poll_of n v)) mtu (before_due t low (poll_of (context_for i (Is.Tcp v)).ip_mtu v) itself))

  at_item : (o : Option (Item Socket)) → IsEarlier t (instant_in i o) → ((item : Item Socket) → o ≡ Some item → is_waiting i item.meta ≡ false)
      → Wanting (seen_in (socket_of o)) → ⊥
  at_item None later idle wants = wants
  at_item (Some item) later idle wants =
      at_socket item.meta item.socket (both_early t (end_by i (remote_of item.socket)) _ later).1 (idle item refl) wants

  at_slot : (ps : List (SocketStorage Socket)) (slot : ℕ) → AllLater t i ps
      → ((at : SocketStorage Socket) (item : Item Socket) → slice_get ps slot ≡ Some at → at.inner ≡ Some item → is_waiting i item.meta ≡ false)
      → Wanting (slice_index_or (sockets_of ps) slot None) → ⊥
  at_slot [] zero later idle wants = wants
  at_slot [] (suc slot) later idle wants = wants
  at_slot (p ∷ ps) zero later idle wants = at_item p.inner later.0 (λ item is. idle p item refl is) wants
  at_slot (p ∷ ps) (suc slot) later idle wants = at_slot ps slot later.1 idle wants

  -- no fragment waits, and no socket is due
  pub at_host : (left : Option LeftValue) (ps : List (SocketStorage Socket)) (slot : ℕ) → IsEarlier t (poll_instant i left ps)
      → ((at : SocketStorage Socket) (item : Item Socket) → slice_get ps slot ≡ Some at → at.inner ≡ Some item → is_waiting i item.meta ≡ false)
      → Wanting (slice_index_or (sockets_of ps) slot None) → ⊥
  at_host (Some l) ps slot early idle wants = omega (arith, ints, low, early)
  at_host None ps slot early idle wants = at_slot ps slot (all_later t i ps (both_early t (soonest_parked i) (soonest i ps) early).1) idle wants

-- A QUIET POLL

module _ (first : InnerValue) (s s' : NodeValue) (t : ℤ) (budget slot : ℕ) (changed : Bool) (answer : Answer) (at : PollsAt s t budget changed s')
    (told : answer ≡ To.Poll changed) (quiet : IsQuietPoll budget answer s s') (patient : ArePatient s.slots) (still : IsStill first s'.host.inner)
    (idle : WaitsForNone slot s') (alone : s.host.inner.host_requirements ≡ false) where
  is_false : changed ≡ false
  is_false = let same : To.Poll changed ≡ To.Poll false = sym told ∙ quiet.unchanged in cc

  now : s'.host.inner.instant ≡ t
  now = (poll_settings s s' t budget changed at).now

  use_of : IsOfUse PortMove t at.port at.port_after (poll_instant s'.host.inner s'.host.left s'.slots)
  use_of = of_use PortMove t budget (at_port at.port s) (at_port at.port_after s') quiet.some patient
      (subst (λ (b : Bool). Polled PortMove t budget (at_port at.port s) b (at_port at.port_after s')) is_false at.polls)

  sent_same : length at.port_after.link.sent ≤ length at.port.link.sent
  sent_same =
      let a = ap (λ (l : LinkEnd). length l.sent) at.before in
      let b = ap (λ (l : LinkEnd). length l.sent) at.after in
      let c = ap (λ (frames : List (List ℕ)). length frames) quiet.sent in
      omega (arith, a, b, c)

  refused_same : at.port_after.link.refusals ≡ at.port.link.refusals
  refused_same = ap (λ (l : LinkEnd). l.refusals) at.after ∙ at.none_denied alone ∙ sym (ap (λ (l : LinkEnd). l.refusals) at.before)

  early : IsEarlier t (poll_instant s'.host.inner s'.host.left s'.slots)
  early = by use_of.why where
    by : Stirs use_of.all ⊎ IsEarlier t (poll_instant s'.host.inner s'.host.left s'.slots) → IsEarlier t (poll_instant s'.host.inner s'.host.left s'.slots)
    by (inl (inl sent)) = absurd (let none = none_sent use_of.all at.port at.port_after use_of.are sent_same in let clash : true ≡ false = sym sent ∙ none in cc)
    by (inl (inr refused)) =
        absurd (let none = refuse_nothing at.port at.port_after refused_same (subst (λ (l : LinkEnd). IsTrue (has_tx_token l)) (sym at.after) quiet.leave) use_of.all use_of.are in
        let clash : true ≡ false = sym refused ∙ none in cc)
    by (inr later) = later

  rests : WantsAt t slot s' → ⊥
  rests wants = at_host s'.host.inner t (subst IsMoment now still.instant).0 still.paths s'.host.left s'.slots slot early idle wants

kind_rests : (first : InnerValue) (old new : Nodes) (e : Entry) (side : Side) (t : ℤ) (budget slot : ℕ) (k : Kind) → k ≡ OfHost side (Polls t budget)
    → Happens old k e.answer e.found new → IsQuietPoll budget e.answer (node old side) (node new side) → ArePatient (node old side).slots
    → IsStill first (node new side).host.inner → WaitsForNone slot (node new side) → AreAlone old → IsIdle t slot (node new side)
kind_rests first old new e side t budget slot k is happens quiet patient still idle alone =
    let acts : ActsAt old side (Polls t budget) e.answer e.found new = subst (λ (x : Kind). Happens old x e.answer e.found new) is happens in
    rests first (node old side) (node new side) t budget slot acts.acts.0 e.answer acts.acts.1 acts.acts.2 quiet patient still idle
    (alone_at old alone side)

pub quiet_rests : (first : InnerValue) (past : List Entry) (old new : Nodes) (e : Entry) (side : Side) (t : ℤ) (budget slot : ℕ) → Leads past old e new
    → kind_of e.event ≡ OfHost side (Polls t budget) → IsQuietPoll budget e.answer (node old side) (node new side)
    → ArePatient (node old side).slots → IsStill first (node new side).host.inner → WaitsForNone slot (node new side)
    → IsIdle t slot (node new side)
quiet_rests first past old new e side t budget slot leads is quiet patient still idle =
    kind_rests first old new e side t budget slot (kind_of e.event) is leads.happens quiet patient still idle leads.alone
