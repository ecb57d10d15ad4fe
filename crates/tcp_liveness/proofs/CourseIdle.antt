-- A side with nothing in flight, and no timer, sends from SND.UNA on within a minute and twice what it is let wait, whatever its windows are.
use Rattle.std.proofs.Common.{◌≡◌, ◌⊎◌, inl, inr, ℕ, zero, suc, ◌+◌, ◌-◌, ◌/◌, ◌<◌, ◌≤◌, ◌==◌, nat_lt, ◌&&◌, not, min, max, ℤ, pos, ◌+ℤ◌, ◌≤ℤ◌}
use Rattle.std.proofs.Common.{◌<ℤ◌, int_lt, Bool, true, false}
use Rattle.std.proofs.Common.{if◌then◌else◌, [], ◌∷◌, length, Option, Some, None, is_none, is_some, refl, sym, ap, ◌∙◌, subst, arith}
use Rattle.std.proofs.lemmas.Bool.{eq-eqb, eqb-true, ltb-false, ltb-true}
use Rattle.tcp_refinement.specs.Offers.{IsBefore}
use Rattle.tcp_refinement.specs.PollAt.{PollAt}
use Rattle.tcp_refinement.specs.Tie.{IsConnectedAs, Keeps, Past, core_of, is_closed_in, unsent}
use Rattle.tcp_block.proofs.Waits.{is_quiet}
use Rattle.tcp_block.specs.Quiet.{IsQuiet}
use Rattle.tcp_invariants.specs.FourTuple.{FourTuple}
use Rattle.tcp_invariants.specs.Moments.{is_due}
use Rattle.tcp_invariants.specs.State.{State as Phase}
use Rattle.tcp_invariants.specs.State.TheVariants as In
use Rattle.tcp_invariants.specs.States.{owes_fin, may_send_data}
use Rattle.tcp_invariants.proofs.OfferCases.{begun as asked_with}
use Rattle.tcp_invariants.proofs.OrderSteps.{clash}
use Rattle.tcp_block.specs.TcbRules.{one_if}
use Rattle.tcp_block.specs.declared.tcb.Tcb.{Tcb}
use Rattle.tcp_block.specs.Due.{poll_of}
use Rattle.tcp_block.specs.Probing.{is_probing, is_window_small, may_probe}
use Rattle.tcp_block.specs.Rules.{window_limit}
use Rattle.tcp_refinement.specs.Pair.Sides.{at, other}
use Rattle.tcp_block.specs.Value.{TcpValue, free_in, queued_in}
use Rattle.tcp_refinement.specs.Pair.Values.{PairValue, past_at}
use Rattle.tcp_refinement.specs.declared.pair.event.PairEvent.{PairEvent}
use Rattle.tcp_refinement.specs.declared.pair.event.PairEvent.TheVariants.{Listen, Connect, Send, Recv, Close, Abort, TcpSetting, Clock, Offer, Deliver}
use Rattle.tcp_refinement.specs.declared.pair.event.Side.{Side}
use Rattle.tcp_refinement.specs.declared.pair.event.Side.TheVariants.{A, B}
use Rattle.tcp_liveness.specs.Arrivals.{is_synchronized}
use Rattle.tcp_liveness.specs.BothWays.{AreThere, total_in}
use Rattle.tcp_liveness.specs.Course.{Asks, IsAskedBy, IsAt, IsTaken, Wants, end_of}
use Rattle.tcp_liveness.specs.Exchange.{IsOpen}
use Rattle.tcp_liveness.specs.Near.{IsNear}
use Rattle.tcp_liveness.specs.Onward.{acked_in}
use Rattle.tcp_liveness.specs.Pair.{context_of, left_in, mtu_of, socket_of}
use Rattle.tcp_liveness.specs.PutOff.{CarriesIn, ProbesAt}
use Rattle.tcp_liveness.specs.Reached.{IsReached}
use Rattle.tcp_liveness.specs.Rounds.{takes}
use Rattle.tcp_liveness.specs.Sent.{taken_in}
use Rattle.tcp_liveness.proofs.CourseGoes.{Goes}
use Rattle.tcp_liveness.proofs.CourseInstants.{below, come, itself, later, less_time, more_time, not_below, not_both, sooner, upto}
use Rattle.tcp_liveness.proofs.CourseParts.{Course}
use Rattle.tcp_liveness.proofs.CourseRuns.{poll_is}
use Rattle.tcp_liveness.proofs.CourseStands.{Gets, State, acked_to_end, from_m, lift as lifted, moves, open_at, open_m, rm, stands_first, still_owes, tail, there_m}
use Rattle.tcp_liveness.proofs.Frees.{frees_on}
use Rattle.tcp_liveness.proofs.Held.{holds_back}
use Rattle.tcp_liveness.proofs.Idles.{IsIdle, idle_on}
use Rattle.tcp_liveness.proofs.Kept.{reached_keeps}
use Rattle.tcp_liveness.proofs.LatePayload.{left_within}
use Rattle.tcp_liveness.proofs.Mirrored.{named_in}
use Rattle.tcp_liveness.proofs.OfItself.{sends_there}
use Rattle.tcp_liveness.proofs.OnwardPairs.{MovesIn, connected}
use Rattle.tcp_liveness.proofs.OrWaits.{WaitsIn, goes_or_waits}
use Rattle.tcp_liveness.proofs.Pair.{not_closed}
use Rattle.tcp_liveness.proofs.PairTimers.{probe_near}
use Rattle.tcp_liveness.proofs.PutOffProbes.{window_limited}
use Rattle.tcp_liveness.proofs.Resent.{again_sent}
use Rattle.tcp_liveness.proofs.Resumes.{StartsWith, both}

-- WHETHER IT IS ASKED

is_asked : (side : Side) (event : PairEvent) → Asks side event ⊎ (Asks side event → ⊥)
is_asked A (Offer A instant true) = inl refl
is_asked B (Offer B instant true) = inl refl
is_asked A (Offer B instant true) = inr (λ e. absurd (cc))
is_asked B (Offer A instant true) = inr (λ e. absurd (cc))
is_asked side (Offer of instant false) = inr (λ never. never)
is_asked side (Listen of endpoint) = inr (λ never. never)
is_asked side (Connect of remote local) = inr (λ never. never)
is_asked side (Send of bytes) = inr (λ never. never)
is_asked side (Recv of count) = inr (λ never. never)
is_asked side (Close of) = inr (λ never. never)
is_asked side (Abort of) = inr (λ never. never)
is_asked side (TcpSetting of setting) = inr (λ never. never)
is_asked side (Clock of instant) = inr (λ never. never)
is_asked side (Deliver from k) = inr (λ never. never)

carries_asks : (p : PairValue) (side : Side) (event : PairEvent) → CarriesIn p side event → Asks side event
carries_asks p side (Offer of instant true) some = some.0
carries_asks p side (Offer of instant false) never = absurd never
carries_asks p side (Listen of endpoint) never = absurd never
carries_asks p side (Connect of remote local) never = absurd never
carries_asks p side (Send of bytes) never = absurd never
carries_asks p side (Recv of count) never = absurd never
carries_asks p side (Close of) never = absurd never
carries_asks p side (Abort of) never = absurd never
carries_asks p side (TcpSetting of setting) never = absurd never
carries_asks p side (Clock of instant) never = absurd never
carries_asks p side (Deliver from k) never = absurd never

-- WHAT IS HELD BACK

not_none : (n : ℕ) → 1 ≤ n → (n == 0) ≡ false
not_none n e = by (n == 0) refl where
  never : (n : ℕ) → 1 ≤ n → n ≡ 0 → ⊥
  never n e f = absurd (omega arith)

  by : (none : Bool) → (n == 0) ≡ none → (n == 0) ≡ false
  by true is = absurd (never n e (eqb-true n 0 is))
  by false is = is

-- bytes are queued, and nothing is in flight
may_be : (b : Tcb) (queued : ℕ) → may_send_data b.state ≡ true → 1 ≤ queued → b.sender.flight_size ≡ 0 → may_probe b queued ≡ true
may_be b queued sends some none =
    both (may_send_data b.state) (not (queued == 0) && (b.sender.flight_size == 0)) sends
    (both (not (queued == 0)) (b.sender.flight_size == 0) (ap not (not_none queued some)) (eq-eqb b.sender.flight_size 0 none))

-- a window holds back what is queued
held_queued : (b : Tcb) (queued : ℕ) → is_probing b queued ≡ true → 1 ≤ queued
held_queued b queued probes =
    some (window_limit b queued) queued (max 1 (b.peer.largest_window / 2))
    (ltb-true (window_limit b queued) (min queued (max 1 (b.peer.largest_window / 2)))
    (first (is_window_small b queued) (b.sender.flight_size == 0)
    (second (may_send_data b.state) (is_window_small b queued && (b.sender.flight_size == 0)) probes)))
  where
    first : (x y : Bool) → (x && y) ≡ true → x ≡ true
    first true y e = refl
    first false y e = e

    second : (x y : Bool) → (x && y) ≡ true → y ≡ true
    second true y e = e
    second false y e = clash (sym e)

    some : (limit queued enough : ℕ) → limit < min queued enough → 1 ≤ queued
    some limit queued enough e = omega arith

-- WHAT AN EVENT LEAVES

abbrev pub probing_in : PairValue → Side → Bool
probing_in p side = is_probing (socket_of p side).tcb (queued_in (socket_of p side))

-- what is queued is so still
abbrev pub QueuesOn : PairValue → Side → PairEvent → Type 0
QueuesOn p side event = 1 ≤ queued_in (socket_of p side) → 1 ≤ queued_in (socket_of (takes p event) side)

-- It is idle still, and what was queued is; the instant of a probe stays where anything is queued, whatever the windows are; and where the side was
-- asked, a window held payload back, and the instant of a probe is set, and wasn't due.
pub record StaysIdle (p : PairValue) (side : Side) (now : ℤ) (event : PairEvent) : Type 0 where
  pub idle : IsIdle (socket_of (takes p event) side)
  pub queued : QueuesOn p side event
  pub kept : (at : ℤ) → ProbesAt at (socket_of p side) → 1 ≤ queued_in (socket_of (takes p event) side) → ProbesAt at (socket_of (takes p event) side)
  pub asked :
      Asks side event
      → (probing_in p side ≡ true)
      × (((at : ℤ) → ProbesAt at (socket_of p side) → is_due now (Some at) ≡ false)
      × (is_some (socket_of (takes p event) side).tcb.timers.probe_at ≡ true))

asked_idle :
    (p : PairValue) (side : Side) (instant now : ℤ) → instant ≡ now → IsReached p → IsOpen (socket_of p side).tcb → 1 ≤ left_in p side
    → IsIdle (socket_of p side) → is_synchronized (socket_of (takes p (Offer side instant true)) side).tcb.state ≡ true
    → QueuesOn p side (Offer side instant true) → Goes p side (Offer side instant true) ⊎ StaysIdle p side now (Offer side instant true)
asked_idle p side instant now same r mine owes idle stays queued = by (goes_or_waits p side instant r mine owes (inl idle.none) stays) where
  not_due : is_due instant (socket_of p side).tcb.timers.retransmit_at ≡ false
  not_due = ap (is_due instant) idle.timer

  waits : WaitsIn p side instant → StaysIdle p side now (Offer side instant true)
  waits w = record {
    idle = record { none = w.waits.none; timer = w.waits.timer_is ∙ ((w.runs not_due).0 ∙ idle.timer) };
    queued = queued;
    kept = λ at e _. w.waits.kept at e;
    asked = λ _. ((w.runs not_due).1, ((λ at e. ap (λ (m : ℤ). is_due m (Some at)) (sym same) ∙ w.early at e), w.waits.some));
  }

  by : {X : Type 0} → Goes p side (Offer side instant true) ⊎ (WaitsIn p side instant × X) → Goes p side (Offer side instant true) ⊎ StaysIdle p side now (Offer side instant true)
  by (inl goes) = inl goes
  by (inr w) = inr (waits w.0)

asked_by :
    (p : PairValue) (side : Side) (event : PairEvent) (now : ℤ) → Asks side event → IsAt now event → IsReached p → IsOpen (socket_of p side).tcb
    → 1 ≤ left_in p side → IsIdle (socket_of p side) → is_synchronized (socket_of (takes p event) side).tcb.state ≡ true
    → QueuesOn p side event → Goes p side event ⊎ StaysIdle p side now event
asked_by p A (Offer A instant true) now asks is r mine owes idle stays queued = asked_idle p A instant now is r mine owes idle stays queued
asked_by p B (Offer B instant true) now asks is r mine owes idle stays queued = asked_idle p B instant now is r mine owes idle stays queued
asked_by p A (Offer B instant true) now asks is r mine owes idle stays queued = absurd (cc)
asked_by p B (Offer A instant true) now asks is r mine owes idle stays queued = absurd (cc)
asked_by p side (Offer of instant false) now never is r mine owes idle stays queued = absurd never
asked_by p side (Listen of endpoint) now never is r mine owes idle stays queued = absurd never
asked_by p side (Connect of remote local) now never is r mine owes idle stays queued = absurd never
asked_by p side (Send of bytes) now never is r mine owes idle stays queued = absurd never
asked_by p side (Recv of count) now never is r mine owes idle stays queued = absurd never
asked_by p side (Close of) now never is r mine owes idle stays queued = absurd never
asked_by p side (Abort of) now never is r mine owes idle stays queued = absurd never
asked_by p side (TcpSetting of setting) now never is r mine owes idle stays queued = absurd never
asked_by p side (Clock of instant) now never is r mine owes idle stays queued = absurd never
asked_by p side (Deliver from k) now never is r mine owes idle stays queued = absurd never

-- where it isn't asked
other_by :
    (p : PairValue) (side : Side) (event : PairEvent) (now : ℤ) → (Asks side event → ⊥) → IsTaken event
    → is_synchronized (socket_of p side).tcb.state ≡ true → IsIdle (socket_of p side)
    → (socket_of (takes p event) side).tcb.sender.una ≡ (socket_of p side).tcb.sender.una
    → may_send_data (socket_of (takes p event) side).tcb.state ≡ true → QueuesOn p side event → StaysIdle p side now event
other_by p side event now unasked taken there idle una sends queued = record {
  idle = still;
  queued = queued;
  kept = λ at probes some. kept at (window_limited p side event at probes (may_be new.tcb (queued_in new) sends some still.none));
  asked = λ asks. absurd (unasked asks);
}
  where
    new : TcpValue
    new = socket_of (takes p event) side

    still : IsIdle new
    still = idle_on p side event taken unasked there idle una

    kept : (at : ℤ) → ProbesAt at new ⊎ CarriesIn p side event → ProbesAt at new
    kept at (inl stays) = stays
    kept at (inr carries) = absurd (unasked (carries_asks p side event carries))

-- WHAT IS QUEUED

-- where a side may send payload, its user closed it just where it owes a FIN
closed_owes : (state : Phase) → may_send_data state ≡ true → is_closed_in state ≡ owes_fin state
closed_owes In.Established sends = refl
closed_owes In.CloseWait sends = refl
closed_owes In.FinWait1 sends = refl
closed_owes In.Closing sends = refl
closed_owes In.LastAck sends = refl
closed_owes other sends = clash (sym sends)

module _ (p : PairValue) (side : Side) (r : IsReached p) (mine : IsOpen (socket_of p side).tcb) (owes : 1 ≤ left_in p side) where
  owed : (past_at p side).closed ≡ owes_fin (socket_of p side).tcb.state
  owed =
      subst (λ (x : Past). x.closed ≡ owes_fin (socket_of p side).tcb.state) k.past
      (f.closed ∙ closed_owes (socket_of p side).tcb.state (sends_there p side r mine.synchronized mine.acknowledged owes))
    where
      k : Keeps (socket_of p side) (past_at p side) (socket_of p (other side)) (past_at p (other side))
      k = reached_keeps p side r

      f : IsConnectedAs (core_of (socket_of p side)) (unsent k.side)
      f = connected p side r mine.synchronized

  -- so of what the user wrote just what is queued isn't acknowledged
  all_queued : acked_in p side ≡ length (past_at p side).written - queued_in (socket_of p side)
  all_queued =
      count (length (past_at p side).written) (one_if (past_at p side).closed) (one_if (socket_of p side).tcb.sender.syn_unacked)
      (queued_in (socket_of p side)) (one_if (owes_fin (socket_of p side).tcb.state)) (ap one_if mine.acknowledged) (ap one_if owed)
    where
      count : (written closed syn queued fin : ℕ) → syn ≡ 0 → closed ≡ fin → written + closed - (syn + queued + fin) ≡ written - queued
      count written closed syn queued fin e f = omega arith

  queued_within : queued_in (socket_of p side) ≤ length (past_at p side).written
  queued_within =
      count (length (past_at p side).written) (one_if (past_at p side).closed) (one_if (socket_of p side).tcb.sender.syn_unacked)
      (queued_in (socket_of p side)) (one_if (owes_fin (socket_of p side).tcb.state)) (ap one_if owed) (left_within p side r mine)
    where
      count : (written closed syn queued fin : ℕ) → closed ≡ fin → syn + queued + fin ≤ written + closed → queued ≤ written
      count written closed syn queued fin e f = omega arith

-- WHAT IT WANTS

starts_idle :
    (p : PairValue) (side : Side) (due : ℤ) → IsReached p → IsOpen (socket_of p side).tcb → 1 ≤ left_in p side → IsIdle (socket_of p side)
    → (pair : FourTuple) → StartsWith (context_of p side due) (socket_of p side) pair (asked_with (context_of p side due) (socket_of p side))
starts_idle p side due r mine owes idle pair = record {
  sends = sends_there p side r mine.synchronized mine.acknowledged owes;
  syn = mine.acknowledged;
  none = idle.none;
  owes = owes;
  mss = refl;
  tsval = refl;
  again = again_sent p side r mine.acknowledged pair.addresses (mtu_of p side) (socket_of p side).queued;
}

module _ (p : PairValue) (side : Side) (due : ℤ) (r : IsReached p) (mine : IsOpen (socket_of p side).tcb) (owes : 1 ≤ left_in p side)
    (idle : IsIdle (socket_of p side)) where
  named : (pair : FourTuple) × ((socket_of p side).tcb.names.pair ≡ Some pair)
  named = named_in p side r mine.synchronized

  quiet : IsBefore due (poll_of (mtu_of p side) (socket_of p side)) → IsQuiet (context_of p side due) (socket_of p side) named.0
  quiet before =
      is_quiet (context_of p side due) (socket_of p side) named.0
      (subst (λ (at : PollAt). IsBefore due at)
      (poll_is (mtu_of p side) (socket_of p side) named.0 named.1 (not_closed (socket_of p side).tcb.state mine.synchronized)) before)

  -- nothing holds it back
  wants_open : probing_in p side ≡ false → Wants due p side
  wants_open lets before =
      clash
      (sym
      (holds_back (context_of p side due) (socket_of p side) named.0 (asked_with (context_of p side due) (socket_of p side))
      (starts_idle p side due r mine owes idle named.0) (quiet before).payload)
      ∙ lets)

  -- no instant of a probe is set
  wants_unset : probing_in p side ≡ true → (socket_of p side).tcb.timers.probe_at ≡ None → Wants due p side
  wants_unset probes none before =
      clash
      (sym (both (probing_in p side) (is_none (socket_of p side).tcb.timers.probe_at) probes (ap is_none none)) ∙ (quiet before).probe_set)

  -- it has come
  wants_probe : (at : ℤ) → probing_in p side ≡ true → ProbesAt at (socket_of p side) → at ≤ℤ due → Wants due p side
  wants_probe at probes waits e before =
      clash
      (sym
      (ap (λ (t : Bool). is_due due (if t then (socket_of p side).tcb.timers.probe_at else None)) probes ∙ (ap (is_due due) waits ∙ come at due e))
      ∙ (quiet before).probe)

  -- no instant of a probe is set, or there is only a FIN to send
  wants_any : (queued_in (socket_of p side) ≡ 0) ⊎ ((socket_of p side).tcb.timers.probe_at ≡ None) → Wants due p side
  wants_any unset = by unset (probing_in p side) refl where
    never : (n : ℕ) → 1 ≤ n → n ≡ 0 → ⊥
    never n e f = absurd (omega arith)

    by :
        (queued_in (socket_of p side) ≡ 0) ⊎ ((socket_of p side).tcb.timers.probe_at ≡ None) → (t : Bool) → probing_in p side ≡ t
        → Wants due p side
    by unset false e = wants_open e
    by (inl empty) true e = absurd (never (queued_in (socket_of p side)) (held_queued (socket_of p side).tcb (queued_in (socket_of p side)) e) empty)
    by (inr none) true e = wants_unset e none

-- within a minute it does
pub wants_soon :
    (p : PairValue) (side : Side) (now : ℤ) → IsReached p → IsOpen (socket_of p side).tcb → 1 ≤ left_in p side → IsIdle (socket_of p side)
    → (at p.sides side).instant ≤ℤ now → Wants (now +ℤ pos 60_000_000) p side
wants_soon p side now r mine owes idle clock = by (probing_in p side) refl where
  due : ℤ
  due = now +ℤ pos 60_000_000

  at_instant : (t : Option ℤ) → (socket_of p side).tcb.timers.probe_at ≡ t → probing_in p side ≡ true → Wants due p side
  at_instant None e probes = wants_unset p side due r mine owes idle probes e
  at_instant (Some m) e probes =
      wants_probe p side due r mine owes idle m probes e
      (upto m ((at p.sides side).instant +ℤ pos 60_000_000) due
      (subst (λ (t : Option ℤ). IsNear (at p.sides side).instant 60_000_000 t) e (probe_near p side r))
      (more_time (at p.sides side).instant now 60_000_000 clock))

  by : (t : Bool) → probing_in p side ≡ t → Wants due p side
  by false e = wants_open p side due r mine owes idle e
  by true e = at_instant (socket_of p side).tcb.timers.probe_at refl e

-- THE COURSE

module _ (q : PairValue) (side : Side) (there : AreThere q) (wait reserve : ℕ) where
  -- a side that owes something, of which the other's window is open
  pub record Open (p : PairValue) (now : ℤ) (course : Course) : Type 0 where
    pub state : State q side there wait p now course
    pub free : 1 ≤ free_in (socket_of p (other side))

  abbrev Gets_ : PairValue → Course → Type 0
  Gets_ p course = Gets q side reserve p course

  -- the instant of a probe is set, and no later than this
  abbrev IsBy : ℤ → PairValue → Type 0
  IsBy due p = (1 ≤ queued_in (socket_of p side)) × ((at : ℤ) × (ProbesAt at (socket_of p side) × (at ≤ℤ due)))

  module _ (p : PairValue) (now : ℤ) (x : ℤ × PairEvent) (course : Course) (o : Open p now (x ∷ course)) where
    abbrev h : State q side there wait p now (x ∷ course)
    h = o.state

    abbrev m : PairValue
    m = takes p x.1

    mine : IsOpen (socket_of p side).tcb
    mine = open_at q side there wait p now (x ∷ course) side h

    theirs : IsOpen (socket_of p (other side)).tcb
    theirs = open_at q side there wait p now (x ∷ course) (other side) h

    first : (of : Side) → MovesIn p m of
    first of = moves q side there wait p now x course h of

    onward : (of : Side) → MovesIn m q of
    onward of = from_m q side there wait p now x course h of

    -- what is reached after the event
    lift : Gets_ m course → Gets_ p (x ∷ course)
    lift gets = lifted q side there wait p now x course h reserve gets

    -- with the event more is acknowledged, or taken
    acked_now : acked_in p side < acked_in m side → Gets_ p (x ∷ course)
    acked_now e = inl (inl (less (acked_in p side) (acked_in m side) (acked_in q side) e (acked_to_end q side there wait p now x course h))) where
      less : (a b c : ℕ) → a < b → b ≤ c → a < c
      less a b c e f = omega arith

    taken_now : taken_in p (other side) < taken_in m (other side) → Gets_ p (x ∷ course)
    taken_now e = inr (inl (inr (less (taken_in p (other side)) (taken_in m (other side)) (taken_in q (other side)) e (onward (other side)).taken))) where
      less : (a b c : ℕ) → a < b → b ≤ c → a < c
      less a b c e f = omega arith

    -- or neither
    on : acked_in m side ≤ acked_in p side → free_in (socket_of p (other side)) ≤ free_in (socket_of m (other side)) → Open m x.0 course
    on e f = record {
      state = tail q side there wait p now x course h (still_owes q side there wait p now x course h e);
      free = more (free_in (socket_of p (other side))) (free_in (socket_of m (other side))) o.free f;
    }
      where
        more : (a b : ℕ) → 1 ≤ a → a ≤ b → 1 ≤ b
        more a b e f = omega arith

    -- SND.UNA stays, where no more is acknowledged
    same_una : acked_in m side ≤ acked_in p side → (socket_of m side).tcb.sender.una ≡ (socket_of p side).tcb.sender.una
    same_una e = by ((first side).una (not_closed (socket_of m side).tcb.state (there_m q side there wait p now x course h side))) where
      never : (a b c d : ℕ) → b ≤ a → a + d < c + b → c - d ≤ a - b → ⊥
      never a b c d e f g = absurd (omega arith)

      by :
          (((socket_of m side).tcb.sender.una ≡ (socket_of p side).tcb.sender.una)
          × ((socket_of p side).tcb.sender.snd_max ≤ (socket_of m side).tcb.sender.snd_max))
          ⊎ (total_in p side + left_in m side < total_in m side + left_in p side)
          → (socket_of m side).tcb.sender.una ≡ (socket_of p side).tcb.sender.una
      by (inl same) = same.0
      by (inr risen) =
          absurd
          (never (total_in p side) (left_in p side) (total_in m side) (left_in m side) (left_within p side h.reached mine) risen e)

    -- a segment went
    goes : Goes p side x.1 → (x.0 +ℤ pos reserve) <ℤ end_of x.0 course → free_in (socket_of p (other side)) ≤ free_in (socket_of m (other side)) →
        Gets_ p (x ∷ course)
    goes it over kept =
        inr
        (inr
        (record {
          m = p;
          x = x;
          rest = course;
          stands = stands_first p (x ∷ course);
          goes = it;
          free = more (free_in (socket_of p (other side))) (free_in (socket_of m (other side))) o.free kept;
          over = over;
        }))
      where
        more : (a b : ℕ) → 1 ≤ a → a ≤ b → 1 ≤ b
        more a b e f = omega arith

    -- what is queued stays so, where no more is acknowledged
    queues_on : acked_in m side ≤ acked_in p side → QueuesOn p side x.1
    queues_on e some =
        more (length (past_at p side).written) (queued_in (socket_of p side)) (length (past_at m side).written) (queued_in (socket_of m side)) some
        (queued_within p side h.reached mine h.owes) (first side).written
        (subst (λ (n : ℕ). n ≤ length (past_at p side).written - queued_in (socket_of p side)) (all_queued m side reached_m open_side owes_m)
        (subst (λ (n : ℕ). acked_in m side ≤ n) (all_queued p side h.reached mine h.owes) e))
      where
        reached_m : IsReached m
        reached_m = rm q side there wait p now x course h

        open_side : IsOpen (socket_of m side).tcb
        open_side = open_m q side there wait p now x course h side

        owes_m : 1 ≤ left_in m side
        owes_m = still_owes q side there wait p now x course h e

        more : (a b c d : ℕ) → 1 ≤ b → b ≤ a → a ≤ c → c - d ≤ a - b → 1 ≤ d
        more a b c d e f g h = omega arith

    sends_on : acked_in m side ≤ acked_in p side → may_send_data (socket_of m side).tcb.state ≡ true
    sends_on e =
        let mine = open_m q side there wait p now x course h side in
        sends_there m side (rm q side there wait p now x course h) mine.synchronized mine.acknowledged
        (still_owes q side there wait p now x course h e)

    -- of a side that is idle
    pub idles_on : IsIdle (socket_of p side) → (x.0 +ℤ pos reserve) <ℤ end_of x.0 course →
        Gets_ p (x ∷ course) ⊎ (Open m x.0 course × StaysIdle p side x.0 x.1)
    idles_on idle over = by (nat_lt (acked_in p side) (acked_in m side)) refl where
      mine_m : is_synchronized (socket_of m side).tcb.state ≡ true
      mine_m = there_m q side there wait p now x course h side

      asked : acked_in m side ≤ acked_in p side → free_in (socket_of p (other side)) ≤ free_in (socket_of m (other side)) →
          Goes p side x.1 ⊎ StaysIdle p side x.0 x.1 → Gets_ p (x ∷ course) ⊎ (Open m x.0 course × StaysIdle p side x.0 x.1)
      asked e f (inl it) = inl (goes it over f)
      asked e f (inr stays) = inr (on e f, stays)

      either : acked_in m side ≤ acked_in p side → Asks side x.1 ⊎ (Asks side x.1 → ⊥) → Goes p side x.1 ⊎ StaysIdle p side x.0 x.1
      either e (inl asks) = asked_by p side x.1 x.0 asks h.in_time.clocked.1.0 h.reached mine h.owes idle mine_m (queues_on e)
      either e (inr not) = inr (other_by p side x.1 x.0 not h.in_time.taken.0 mine.synchronized idle (same_una e) (sends_on e) (queues_on e))

      taking : acked_in m side ≤ acked_in p side →
          (free_in (socket_of p (other side)) ≤ free_in (socket_of m (other side))) ⊎ (taken_in p (other side) < taken_in m (other side)) →
          Gets_ p (x ∷ course) ⊎ (Open m x.0 course × StaysIdle p side x.0 x.1)
      taking e (inl f) = asked e f (either e (is_asked side x.1))
      taking e (inr taken) = inl (taken_now taken)

      by : (risen : Bool) → nat_lt (acked_in p side) (acked_in m side) ≡ risen → Gets_ p (x ∷ course) ⊎ (Open m x.0 course × StaysIdle p side x.0 x.1)
      by true e = inl (acked_now (ltb-true (acked_in p side) (acked_in m side) e))
      by false e = taking (ltb-false (acked_in p side) (acked_in m side) e) (frees_on p x.1 (other side) theirs.synchronized)

  -- another clock before the first event
  with_clock : (p : PairValue) (now due : ℤ) (x : ℤ × PairEvent) (course : Course) → Open p now (x ∷ course) → now ≤ℤ due → due ≤ℤ x.0 → Open p due (x ∷ course)
  with_clock p now due x course o before after =
      let c = o.state.in_time in
      record {
        state = record {
          reached = o.state.reached;
          a = o.state.a;
          b = o.state.b;
          steps = o.state.steps;
          owes = o.state.owes;
          in_time = record {
            clock = upto (at p.sides side).instant now due c.clock before;
            clocked = (after, c.clocked.1);
            asks = ((λ of instant late wants. c.asks.0 of instant (upto now due instant before late) wants), c.asks.1);
            taken = c.taken;
            room = c.room;
          };
        };
        free = o.free;
      }

  mine_at : (p : PairValue) (now : ℤ) (course : Course) → Open p now course → IsOpen (socket_of p side).tcb
  mine_at p now course o = open_at q side there wait p now course side o.state

  -- it wants to be asked then
  wants_by : (p : PairValue) (now : ℤ) (course : Course) (due : ℤ) → Open p now course → IsIdle (socket_of p side) → IsBy due p → Wants due p side
  wants_by p now course due o idle by_then = by (probing_in p side) refl where
    by : (t : Bool) → probing_in p side ≡ t → Wants due p side
    by false e = wants_open p side due o.state.reached (mine_at p now course o) o.state.owes idle e
    by true e =
        let it = by_then.1 in wants_probe p side due o.state.reached (mine_at p now course o) o.state.owes idle it.0 e it.1.0 it.1.1

  -- that stays so with an event
  by_on : (p : PairValue) (now due : ℤ) (event : PairEvent) → IsBy due p → StaysIdle p side now event → IsBy due (takes p event)
  by_on p now due event by_then s =
      let some = s.queued by_then.0 in
      let it = by_then.1 in
      (some, (it.0, (s.kept it.0 it.1.0 some, it.1.1)))

  -- The instant has come, and the side is to be asked.
  asked_out :
      (p : PairValue) (now : ℤ) (course : Course) (due last : ℤ) → Open p now course → IsIdle (socket_of p side) → IsBy due p → due ≤ℤ now → now ≤ℤ last
      → IsAskedBy due last side p course → (last +ℤ pos reserve) <ℤ end_of now course → Gets_ p course
  asked_out p now [] due last o idle by_then after before asked over = absurd (not_both last now before (less_time last now reserve over))
  asked_out p now (x ∷ course) due last o idle by_then after before asked over =
      by
      (λ (on : Open (takes p x.1) x.0 course) (s : StaysIdle p side x.0 x.1) (more : IsAskedBy due last side (takes p x.1) course).
      asked_out (takes p x.1) x.0 course due last on s.idle (by_on p x.0 due x.1 by_then s) (upto due now x.0 after o.state.in_time.clocked.0) asked.0 more over)
      (idles_on p now x course o idle (sooner x.0 last (end_of x.0 course) reserve asked.0 over))
    where
      Rest : Type 0
      Rest = Open (takes p x.1) x.0 course → StaysIdle p side x.0 x.1 → IsAskedBy due last side (takes p x.1) course → Gets_ (takes p x.1) course

      -- a probe that was due then
      was_due : StaysIdle p side x.0 x.1 → Asks side x.1 → ⊥
      was_due s asks =
          let that = s.asked asks in
          let it = by_then.1 in
          clash (sym (come it.0 x.0 (upto it.0 due x.0 it.1.1 (upto due now x.0 after o.state.in_time.clocked.0))) ∙ that.1.0 it.0 it.1.0)

      next :
          Rest → Open (takes p x.1) x.0 course → StaysIdle p side x.0 x.1
          → Asks side x.1 ⊎ ((Wants due (takes p x.1) side → ⊥) ⊎ IsAskedBy due last side (takes p x.1) course) → Gets_ p (x ∷ course)
      next rest on s (inl asks) = absurd (was_due s asks)
      next rest on s (inr (inl not)) = absurd (not (wants_by (takes p x.1) x.0 course due on s.idle (by_on p x.0 due x.1 by_then s)))
      next rest on s (inr (inr more)) = lift p now x course o (rest on s more)

      by : Rest → Gets_ p (x ∷ course) ⊎ (Open (takes p x.1) x.0 course × StaysIdle p side x.0 x.1) → Gets_ p (x ∷ course)
      by rest (inl gets) = gets
      by rest (inr it) = next rest it.0 it.1 asked.1

  -- or it has yet to come
  waits_out :
      (p : PairValue) (now : ℤ) (course : Course) (due : ℤ) → Open p now course → IsIdle (socket_of p side) → IsBy due p → now ≤ℤ due
      → ((due +ℤ pos wait) +ℤ pos reserve) <ℤ end_of now course → Gets_ p course
  waits_out p now [] due o idle by_then before over =
      absurd (not_both due now before (less_time due now wait (less_time (due +ℤ pos wait) now reserve over)))
  waits_out p now (x ∷ course) due o idle by_then before over =
      at (int_lt due x.0) refl
      (λ (early : x.0 ≤ℤ due) (on : Open (takes p x.1) x.0 course) (s : StaysIdle p side x.0 x.1).
      waits_out (takes p x.1) x.0 course due on s.idle (by_on p x.0 due x.1 by_then s) early over)
    where
      Rest : Type 0
      Rest = x.0 ≤ℤ due → Open (takes p x.1) x.0 course → StaysIdle p side x.0 x.1 → Gets_ (takes p x.1) course

      by : Rest → x.0 ≤ℤ due → Gets_ p (x ∷ course) ⊎ (Open (takes p x.1) x.0 course × StaysIdle p side x.0 x.1) → Gets_ p (x ∷ course)
      by rest early (inl gets) = gets
      by rest early (inr it) = lift p now x course o (rest early it.0 it.1)

      at : (passed : Bool) → int_lt due x.0 ≡ passed → Rest → Gets_ p (x ∷ course)
      at true e rest =
          asked_out p due (x ∷ course) due (due +ℤ pos wait) (with_clock p now due x course o before (below due x.0 e)) idle by_then (itself due)
          (later due wait) (o.state.in_time.asks.0 side due before (wants_by p now (x ∷ course) due o idle by_then)) over
      at false e rest =
          by rest (not_below due x.0 e)
          (idles_on p now x course o idle
          (sooner x.0 (due +ℤ pos wait) (end_of x.0 course) reserve
          (upto x.0 due (due +ℤ pos wait) (not_below due x.0 e) (later due wait)) over))

  -- A PROBE WHOSE MOMENT ISN'T SET

  abbrev IsUnset : PairValue → Type 0
  IsUnset p = (queued_in (socket_of p side) ≡ 0) ⊎ ((socket_of p side).tcb.timers.probe_at ≡ None)

  -- an instant that is set lies within a minute
  sorted : (p : PairValue) (now : ℤ) → IsReached p → (at p.sides side).instant ≤ℤ now → IsBy (now +ℤ pos 60_000_000) p ⊎ IsUnset p
  sorted p now r clock = by (queued_in (socket_of p side) == 0) refl where
    some : (n : ℕ) → (n == 0) ≡ false → 1 ≤ n
    some zero e = clash e
    some (suc n) e = one n where
      one : (n : ℕ) → 1 ≤ suc n
      one n = omega arith

    at_instant : (t : Option ℤ) → (socket_of p side).tcb.timers.probe_at ≡ t → 1 ≤ queued_in (socket_of p side) →
        IsBy (now +ℤ pos 60_000_000) p ⊎ IsUnset p
    at_instant None e queued = inr (inr e)
    at_instant (Some m) e queued =
        inl (
          queued,
          (
            m,
            (
              e,
              upto m ((at p.sides side).instant +ℤ pos 60_000_000) (now +ℤ pos 60_000_000)
                  (subst (λ (t : Option ℤ). IsNear (at p.sides side).instant 60_000_000 t) e (probe_near p side r))
                  (more_time (at p.sides side).instant now 60_000_000 clock),
            ),
          ),
        )

    by : (t : Bool) → (queued_in (socket_of p side) == 0) ≡ t → IsBy (now +ℤ pos 60_000_000) p ⊎ IsUnset p
    by true e = inr (inl (eqb-true (queued_in (socket_of p side)) 0 e))
    by false e = at_instant (socket_of p side).tcb.timers.probe_at refl (some (queued_in (socket_of p side)) e)

  by_later : (p : PairValue) (a b : ℤ) → a ≤ℤ b → IsBy a p → IsBy b p
  by_later p a b e by_then = let it = by_then.1 in (by_then.0, (it.0, (it.1.0, upto it.0 a b it.1.1 e)))

  -- an offer that nothing goes with sets it, where payload is queued
  unset_not :
      (p : PairValue) (now : ℤ) (event : PairEvent) → StaysIdle p side now event → Asks side event → IsUnset (takes p event) → ⊥
  unset_not p now event s asks = by (s.asked asks).0 (s.asked asks).1.1 where
    never : (n : ℕ) → 1 ≤ n → n ≡ 0 → ⊥
    never n e f = absurd (omega arith)

    by : probing_in p side ≡ true → is_some (socket_of (takes p event) side).tcb.timers.probe_at ≡ true → IsUnset (takes p event) → ⊥
    by held set (inl empty) =
        never (queued_in (socket_of (takes p event) side)) (s.queued (held_queued (socket_of p side).tcb (queued_in (socket_of p side)) held)) empty
    by held set (inr none) = clash (sym set ∙ ap is_some none)

  -- it is set when the side is asked
  unset_out :
      (p : PairValue) (now : ℤ) (course : Course) (first last : ℤ) → Open p now course → IsIdle (socket_of p side) → IsUnset p → now ≤ℤ last
      → IsAskedBy first last side p course → (((last +ℤ pos 60_000_000) +ℤ pos wait) +ℤ pos reserve) <ℤ end_of now course → Gets_ p course
  unset_out p now [] first last o idle unset before asked over =
      absurd
      (not_both last now before
      (less_time last now 60_000_000
      (less_time (last +ℤ pos 60_000_000) now wait (less_time ((last +ℤ pos 60_000_000) +ℤ pos wait) now reserve over))))
  unset_out p now (x ∷ course) first last o idle unset before asked over =
      by
      (λ (on : Open (takes p x.1) x.0 course) (s : StaysIdle p side x.0 x.1) (u : IsUnset (takes p x.1))
      (more : IsAskedBy first last side (takes p x.1) course). unset_out (takes p x.1) x.0 course first last on s.idle u asked.0 more over)
      (idles_on p now x course o idle
      (sooner x.0 ((last +ℤ pos 60_000_000) +ℤ pos wait) (end_of x.0 course) reserve
      (upto x.0 last ((last +ℤ pos 60_000_000) +ℤ pos wait) asked.0
      (upto last (last +ℤ pos 60_000_000) ((last +ℤ pos 60_000_000) +ℤ pos wait) (later last 60_000_000) (later (last +ℤ pos 60_000_000) wait)))
      over))
    where
      Rest : Type 0
      Rest =
          Open (takes p x.1) x.0 course → StaysIdle p side x.0 x.1 → IsUnset (takes p x.1) → IsAskedBy first last side (takes p x.1) course
          → Gets_ (takes p x.1) course

      still :
          Rest → (on : Open (takes p x.1) x.0 course) → (s : StaysIdle p side x.0 x.1)
          → Asks side x.1 ⊎ ((Wants first (takes p x.1) side → ⊥) ⊎ IsAskedBy first last side (takes p x.1) course) → IsUnset (takes p x.1)
          → Gets_ (takes p x.1) course
      still rest on s (inl asks) u = absurd (unset_not p x.0 x.1 s asks u)
      still rest on s (inr (inl not)) u =
          absurd
          (not
          (wants_any (takes p x.1) side first on.state.reached (mine_at (takes p x.1) x.0 course on) on.state.owes s.idle u))
      still rest on s (inr (inr more)) u = rest on s u more

      next : Rest → Open (takes p x.1) x.0 course → StaysIdle p side x.0 x.1 → IsBy (x.0 +ℤ pos 60_000_000) (takes p x.1) ⊎ IsUnset (takes p x.1) →
          Gets_ (takes p x.1) course
      next rest on s (inl soon) =
          waits_out (takes p x.1) x.0 course (last +ℤ pos 60_000_000) on s.idle
          (by_later (takes p x.1) (x.0 +ℤ pos 60_000_000) (last +ℤ pos 60_000_000) (more_time x.0 last 60_000_000 asked.0) soon)
          (upto x.0 last (last +ℤ pos 60_000_000) asked.0 (later last 60_000_000)) over
      next rest on s (inr u) = still rest on s asked.1 u

      by : Rest → Gets_ p (x ∷ course) ⊎ (Open (takes p x.1) x.0 course × StaysIdle p side x.0 x.1) → Gets_ p (x ∷ course)
      by rest (inl gets) = gets
      by rest (inr it) =
          lift p now x course o (next rest it.0 it.1 (sorted (takes p x.1) x.0 it.0.state.reached it.0.state.in_time.clock))

  pub idle_out :
      (p : PairValue) (now : ℤ) (course : Course) → Open p now course → IsIdle (socket_of p side)
      → ((((now +ℤ pos wait) +ℤ pos 60_000_000) +ℤ pos wait) +ℤ pos reserve) <ℤ end_of now course → Gets_ p course
  idle_out p now course o idle over = by course o over (sorted p now o.state.reached o.state.in_time.clock) where
    last : ℤ
    last = now +ℤ pos wait

    by :
        (course : Course) → Open p now course → (((last +ℤ pos 60_000_000) +ℤ pos wait) +ℤ pos reserve) <ℤ end_of now course
        → IsBy (now +ℤ pos 60_000_000) p ⊎ IsUnset p → Gets_ p course
    by course o over (inl soon) =
        waits_out p now course (last +ℤ pos 60_000_000) o idle
        (by_later p (now +ℤ pos 60_000_000) (last +ℤ pos 60_000_000) (more_time now last 60_000_000 (later now wait)) soon)
        (upto now last (last +ℤ pos 60_000_000) (later now wait) (later last 60_000_000)) over
    by [] o over (inr unset) =
        absurd
        (not_both last now (later now wait)
        (less_time last now 60_000_000
        (less_time (last +ℤ pos 60_000_000) now wait (less_time ((last +ℤ pos 60_000_000) +ℤ pos wait) now reserve over))))
    by (x ∷ course) o over (inr unset) =
        unset_out p now (x ∷ course) now last o idle unset (later now wait)
        (o.state.in_time.asks.0 side now (itself now)
        (wants_any p side now o.state.reached (mine_at p now (x ∷ course) o) o.state.owes idle unset))
        over
