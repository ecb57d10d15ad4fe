-- Both ways of a connection get through: a turn of a side, and rounds.
use Rattle.std.proofs.Common.{◌≡◌, ◌⊎◌, inl, inr, ℕ, zero, suc, ◌+◌, ◌-◌, ◌^◌, ◌<◌, ◌≤◌, ◌%◌, ◌==◌, ◌&&◌, not, ℤ, Bool, true, false}
use Rattle.std.proofs.Common.{if◌then◌else◌, List, [], ◌∷◌, ◌++◌, length, refl, sym, ap, ◌∙◌, subst, arith}
use Rattle.std.proofs.Common.{append-nil, length-append}
use Rattle.std.proofs.lemmas.Bool.{eqb-true, eq-eqb}
use Rattle.ip_wire.specs.Seq.{distance_of}
use Rattle.ip_wire.specs.SeqNumber.{SeqNumber}
use Rattle.tcp_theory.specs.Invariant.{IsComplete}
use Rattle.tcp_theory.specs.Side.{taken_in as bytes_in}
use Rattle.tcp_refinement.specs.Tie.{Past, Keeps, core_of, is_finished_in}
use Rattle.tcp_refinement.proofs.PromiseLemmas.{Shows, shows}
use Rattle.tcp_invariants.specs.OpenOffer.{OpenOffer}
use Rattle.tcp_invariants.specs.State.{State}
use Rattle.tcp_invariants.specs.State.TheVariants as In
use Rattle.tcp_invariants.specs.States.{is_closed}
use Rattle.tcp_invariants.proofs.OrderSteps.{clash}
use Rattle.tcp_block.specs.declared.tcb.Tcb.{Tcb}
use Rattle.tcp_block.specs.TcbRules.{one_if}
use Rattle.tcp_refinement.specs.Pair.Safe.{IsStreamSafe, read, taken_in as taken_list, written}
use Rattle.tcp_refinement.specs.Pair.Sides.{other}
use Rattle.tcp_block.specs.Value.{TcpValue}
use Rattle.tcp_refinement.specs.Pair.Values.{PairValue, past_at}
use Rattle.tcp_refinement.specs.declared.pair.event.Side.{Side}
use Rattle.tcp_refinement.specs.declared.pair.event.Side.TheVariants.{A, B}
use Rattle.tcp_liveness.specs.Arrivals.{is_synchronized}
use Rattle.tcp_liveness.specs.BothWays.{AreThere, IsThrough, MayAsk, MayRounds, MayTurn, bound, both_read, is_over, roused_in, round_in, rounds_in}
use Rattle.tcp_liveness.specs.BothWays.{to_do_for, total_in, turn_in, waits_in, wake_in, woken_in}
use Rattle.tcp_liveness.specs.Exchange.{CanHear, IsOpen, left_of}
use Rattle.tcp_liveness.specs.Pair.{HasStream, MayReachIn, context_of, left_in, socket_of}
use Rattle.tcp_liveness.specs.Reached.{IsReached}
use Rattle.tcp_liveness.specs.Sent.{is_early, taken_in}
use Rattle.tcp_liveness.specs.Settle.{read_in, restart_in}
use Rattle.tcp_liveness.proofs.Kept.{reached_keeps}
use Rattle.tcp_liveness.proofs.Led.{leads_on}
use Rattle.tcp_liveness.proofs.Pair.{HasLess, HasSome, HasTaken, HasTold, Moved, below_quarter, further, had_in, has_some, ahead_in}
use Rattle.tcp_liveness.proofs.Pair.{late_in, not_closed, reached_comes, still_open}
use Rattle.tcp_liveness.proofs.Positions.{IsPlaced, next_small, placed, una_small}
use Rattle.tcp_liveness.proofs.Roused.{refused_same, roused_calm, roused_other, roused_own, roused_reached}
use Rattle.tcp_liveness.proofs.SentPairs.{reached_took}
use Rattle.tcp_liveness.proofs.Settles.{empty_after, read_all, read_peer_side, read_reached, read_written, safe_side, some_left}
use Rattle.tcp_liveness.proofs.Ways.{Balance, BothCalm, IsLate, balance, both_next, exchanged, late_after, of_side, read_calm, same, still_calm}

-- THE END OF A CONNECTION

-- a side's user closed it, and all that he wrote was taken, with the FIN
pub record IsTaken (p : PairValue) (side : Side) : Type 0 where
  pub closed : (past_at p side).closed ≡ true
  pub all : total_in p side ≤ taken_in p (other side)

-- a side that was in LAST-ACK took the FIN of the other, and so all
pub last_took :
    (p : PairValue) (side : Side) → IsReached p → is_synchronized (socket_of p (other side)).tcb.state ≡ true
    → (socket_of p (other side)).tcb.state ≡ In.LastAck → IsTaken p side
last_took p side r theirs last = record {
  closed = sym (ap (λ (x : Past). x.closed) k.past) ∙ whole.closed;
  all =
      subst (λ (x : Past). length x.written + one_if x.closed ≤ taken_in p (other side)) k.past
      (by (length k.side.written) (one_if k.side.closed) (length (bytes_in k.peer_side)) (ap length whole.whole) (ap one_if whole.closed) bytes
      (ap one_if (shown.took_fin ∙ finished)));
}
  where
    v : TcpValue
    v = socket_of p side

    w : TcpValue
    w = socket_of p (other side)

    k : Keeps v (past_at p side) w (past_at p (other side))
    k = reached_keeps p side r

    finished : k.peer_side.took_fin ≡ true
    finished = (placed w k.peer_side k.peer_side_fits k.holds.1.well_formed theirs).finished ∙ ap is_finished_in last

    whole : IsComplete k.side k.peer_side
    whole = k.holds.0.fin finished

    shown : Shows (core_of w) k.peer_side
    shown = shows (core_of w) k.peer_side k.side (k.holds.1, k.holds.0) k.peer_side_fits

    bytes : length (bytes_in k.peer_side) ≡ length (read p (other side) ++ w.received.waiting)
    bytes =
        ap length
        (ap (λ (xs : List ℕ). xs ++ k.peer_side.waiting) (ap (λ (p : Past). p.read) k.peer_side_past)
        ∙ ap (λ (xs : List ℕ). read p (other side) ++ xs) (sym shown.waiting))

    by :
        (written closed bytes : ℕ) {taken fin : ℕ} → bytes ≡ written → closed ≡ 1 → bytes ≡ taken → fin ≡ 1
        → written + closed ≤ taken + fin
    by written closed bytes a b c d = omega arith

-- nothing of a side that is over is left, and it took all
abbrev pub IsFine : PairValue → Side → Type 0
IsFine p side = is_over p side ≡ true → (left_in p side ≡ 0) × IsTaken p (other side)

pub record BothFine (p : PairValue) : Type 0 where
  pub a : IsFine p A
  pub b : IsFine p B

pub fine_of : (p : PairValue) (side : Side) → BothFine p → IsFine p side
fine_of p A f = f.a
fine_of p B f = f.b

both_fine : (p : PairValue) (side : Side) → IsFine p side → IsFine p (other side) → BothFine p
both_fine p A mine theirs = record { a = mine; b = theirs }
both_fine p B mine theirs = record { a = theirs; b = mine }

-- A TURN

pub late_on : (state : State) → is_early state ≡ false → is_closed state ≡ false → is_synchronized state ≡ true
late_on In.Closed e f = clash f
late_on In.Listen e f = clash e
late_on In.SynSent e f = clash e
late_on In.SynReceived e f = clash e
late_on other e f = refl

abbrev pub IsOver : PairValue → Side → Type 0
IsOver p side = is_over p side ≡ true

-- the side knows of all that the other took
abbrev pub IsKnown : PairValue → Side → Type 0
IsKnown p side = (socket_of p side).tcb.sender.una ≡ (socket_of p (other side)).tcb.receiver.next

-- The side didn't wait; or there is less to do, or the other's connection is over, or what else is known; and then the other knows of all that
-- the side took.
abbrev pub Leaves : Type 0 → PairValue → PairValue → Side → Type 0
Leaves X p q side =
    ((waits_in p side ≡ false) × (q ≡ p))
    ⊎ (((to_do_for q side < to_do_for p side) ⊎ (IsOver q (other side) ⊎ X))
    × ((socket_of q (other side)).tcb.sender.una ≡ (socket_of q side).tcb.receiver.next))

pub record Turned (X : Type 0) (p q : PairValue) (side : Side) : Type 0 where
  pub reached : IsReached q
  pub calm : BothCalm p q
  pub fine : BothFine p → BothFine q
  pub leaves : Leaves X p q side

total_same : (p q : PairValue) (side : Side) → BothCalm p q → total_in q side ≡ total_in p side
total_same p q side c =
    let it = of_side p q side c in
    ap (λ (xs : List ℕ). length xs + one_if (past_at q side).closed) it.written
    ∙ ap (λ (t : Bool). length (written p side) + one_if t) it.ended

-- what was taken stays so
pub taken_still : (p q : PairValue) (side : Side) → BothCalm p q → IsTaken p side → IsTaken q side
taken_still p q side c e = record {
  closed = (of_side p q side c).ended ∙ e.closed;
  all =
      by (total_in q side) (total_in p side) (taken_in q (other side)) (taken_in p (other side)) (total_same p q side c) (of_side p q (other side) c).taken
      e.all;
}
  where
    by : (all total came taken : ℕ) → all ≡ total → taken ≤ came → total ≤ taken → all ≤ came
    by all total came taken a b c = omega arith

pub stream_still : (p q : PairValue) (side : Side) → BothCalm p q → HasStream (past_at p side) → HasStream (past_at q side)
stream_still p q side c (inl unclosed) = inl ((of_side p q side c).ended ∙ unclosed)
stream_still p q side c (inr wrote) = inr (subst (λ (xs : List ℕ). 1 ≤ length xs) (sym (of_side p q side c).written) wrote)

pub late_of : (p : PairValue) (side : Side) → is_early (socket_of p side).tcb.state ≡ false →
    is_early (socket_of p (other side)).tcb.state ≡ false → IsLate p
late_of p A mine theirs = (mine, theirs)
late_of p B mine theirs = (theirs, mine)

-- what a side in LAST-ACK took, of the one or the other
took_other : (p : PairValue) (side : Side) → IsReached p → is_synchronized (socket_of p side).tcb.state ≡ true →
    (socket_of p side).tcb.state ≡ In.LastAck → IsTaken p (other side)
took_other p A r on last = last_took p B r on last
took_other p B r on last = last_took p A r on last

took_own : (p : PairValue) (side : Side) → IsReached p → is_synchronized (socket_of p (other side)).tcb.state ≡ true →
    (socket_of p (other side)).tcb.state ≡ In.LastAck → IsTaken p (other (other side))
took_own p A r on last = last_took p A r on last
took_own p B r on last = last_took p B r on last

-- where the other has nothing left, what it answers can be heard
one_following :
    (far una next : ℕ) → far ≤ 0 → una < 2 ^ 32 → next < 2 ^ 32 → far ≡ (next + (2 ^ 32 - una)) % 2 ^ 32
    → ((una + 0) % 2 ^ 32 + (2 ^ 32 - next)) % 2 ^ 32 ≡ 0
one_following far una next a b c d = omega arith

pub none_left_space :
    (x : PairValue) (side : Side) → IsReached x → IsOpen (socket_of x side).tcb → IsOpen (socket_of x (other side)).tcb → left_in x (other side) ≡ 0
    → CanHear (socket_of x side) (socket_of x (other side))
none_left_space x side r mine theirs none =
    inl
    (inl
    (subst (λ (snd_max : ℕ). ((w.tcb.sender.una.0 + snd_max) % 2 ^ 32 + (2 ^ 32 - v.tcb.receiver.next.0)) % 2 ^ 32 ≡ 0) (sym nothing)
    (one_following (distance_of w.tcb.sender.una v.tcb.receiver.next) w.tcb.sender.una.0 v.tcb.receiver.next.0
    (subst (λ (snd_max : ℕ). distance_of w.tcb.sender.una v.tcb.receiver.next ≤ snd_max) nothing (reached_took x side r mine theirs).heard)
    (una_small w k.peer_side b) (next_small v k.side a) refl)))
  where
    v : TcpValue
    v = socket_of x side

    w : TcpValue
    w = socket_of x (other side)

    k : Keeps v (past_at x side) w (past_at x (other side))
    k = reached_keeps x side r

    a : IsPlaced v k.side
    a = placed v k.side k.fits k.holds.0.well_formed mine.synchronized

    b : IsPlaced w k.peer_side
    b = placed w k.peer_side k.peer_side_fits k.holds.1.well_formed theirs.synchronized

    nothing : w.tcb.sender.snd_max ≡ 0
    nothing = least w.tcb.sender.snd_max (left_of w) b.snd_max none where
      least : (snd_max all : ℕ) → snd_max ≤ all → all ≡ 0 → snd_max ≡ 0
      least snd_max all e f = omega arith

-- AN EXCHANGE

module _ (X : Type 0) (p : PairValue) (side : Side) (r : IsReached p) (early : IsLate p) (m : MayAsk p side)
    (space : CanHear (socket_of (roused_in p side) side) (socket_of (roused_in p side) (other side)) ⊎ X) where
  abbrev x : PairValue
  x = roused_in p side

  abbrev t : ℤ
  t = wake_in x side

  abbrev q : PairValue
  q = woken_in p side

  rx : IsReached x
  rx = roused_reached p side r m.rouses

  abbrev o : OpenOffer
  o = m.o

  may : MayReachIn x side t o
  may = m.reaches

  mine : is_synchronized (socket_of x side).tcb.state ≡ true
  mine = may.own.synchronized

  theirs : is_synchronized (socket_of x (other side)).tcb.state ≡ true
  theirs = may.theirs.synchronized

  before_it : BothCalm p x
  before_it = roused_calm p side early

  late : IsLate x
  late = late_after p x before_it early

  since : BothCalm x q
  since = exchanged x side t late

  reached : IsReached q
  reached = leads_on x side t o rx m.stream may m.wakes

  moved : Moved X X x side t
  moved = reached_comes x side t o rx m.stream may space

  told_less : HasTold x q side → to_do_for q side < to_do_for x side
  told_less h =
      by (left_in q side) (ahead_in x q side) (left_in x side) (total_in q side) (total_in x side) (taken_in q (other side)) (taken_in x (other side)) h.left h.had
      (total_same x q side since) (of_side x q (other side) since).taken
    where
      by : (new had left all total came taken : ℕ) → new + had ≡ left → 1 ≤ had → all ≡ total → taken ≤ came → new + (all - came) < left + (total - taken)
      by new had left all total came taken a b c d = omega arith

  some : HasSome x side
  some = has_some x side t o rx m.stream may

  taken_less : HasTaken x q side → IsOver q (other side) ⊎ (to_do_for q side < to_do_for x side)
  taken_less h = at (is_closed (socket_of q (other side)).tcb.state) refl where
    before : Balance x side
    before = balance x side rx m.stream mine theirs

    had : had_in q side ≡ had_in x side + h.more
    had =
        ap (λ (n : SeqNumber). distance_of n (socket_of q (other side)).tcb.receiver.next) h.una
        ∙ (ap (λ (n : SeqNumber). distance_of (socket_of x side).tcb.sender.una n) h.next
        ∙ further (socket_of x side).tcb.sender.una.0 (socket_of x (other side)).tcb.receiver.next.0 h.more some.una some.next
        (below_quarter (had_in x side) (left_in x side) some.within some.few) h.few)

    by :
        (new left total came taken far had more : ℕ) {all : ℕ} → new + came ≡ far + all → left + taken ≡ had + total → new ≡ left → far ≡ had + more
        → 1 ≤ more → all ≡ total → far ≤ new → new + (all - came) < left + (total - taken)
    by new left total came taken far had more a b c d e f g = omega arith

    at : (over : Bool) → is_closed (socket_of q (other side)).tcb.state ≡ over → IsOver q (other side) ⊎ (to_do_for q side < to_do_for x side)
    at true e = inl e
    at false e =
        let after =
        balance q side reached (stream_still x q side since m.stream) (ap is_synchronized h.state ∙ mine)
        (late_on (socket_of q (other side)).tcb.state
        ((of_side x q (other side) since).early (late_in (socket_of x (other side)).tcb.state theirs)) e) in
        inr
        (by (left_in q side) (left_in x side) (total_in x side) (taken_in q (other side)) (taken_in x (other side)) (had_in q side) (had_in x side) h.more
        after.sum before.sum h.left had h.some (total_same x q side since) after.within)

  -- with what was before it
  whole : BothCalm p q
  whole = both_next p x q before_it since

  less_in_all : to_do_for q side < to_do_for x side → to_do_for q side < to_do_for p side
  less_in_all e =
      by (to_do_for q side) (left_in x side) (left_in p side) (total_in x side) (total_in p side) (taken_in x (other side)) (taken_in p (other side)) e
      (of_side p x side before_it).left (total_same p x side before_it) (of_side p x (other side) before_it).taken
    where
      by :
          (now left before all total came taken : ℕ) → now < left + (all - came) → left ≤ before → all ≡ total → taken ≤ came
          → now < before + (total - taken)
      by now left before all total came taken a b c d = omega arith

  abbrev Less : Type 0
  Less = (to_do_for q side < to_do_for p side) ⊎ (IsOver q (other side) ⊎ X)

  leaves : HasLess x q side ⊎ X → Less
  leaves (inr known) = inr (inr known)
  leaves (inl (inl h)) = at (taken_less h) where
    at : IsOver q (other side) ⊎ (to_do_for q side < to_do_for x side) → Less
    at (inl over) = inr (inl over)
    at (inr less) = inl (less_in_all less)
  leaves (inl (inr (inl h))) = inl (less_in_all (told_less h))
  leaves (inl (inr (inr over))) = inr (inl over)

  fine_own : IsFine q side
  fine_own over =
      let it = moved.heard.closes over in
      (it.1, taken_still x q (other side) since (took_other x side rx mine it.0))

  fine_other : IsFine q (other side)
  fine_other over =
      let it = moved.heard.closes_other over in
      (it.1, taken_still x q (other (other side)) since (took_own x side rx theirs it.0))

  woken : Turned X p q side
  woken = record {
    reached = reached;
    calm = whole;
    fine = λ _. both_fine q side fine_own fine_other;
    leaves = inr (leaves moved.less, moved.heard.known);
  }

pub nothing_turns : (p : PairValue) (side : Side) → waits_in p side ≡ false → turn_in p side ≡ p
nothing_turns p side none = ap (λ (t : Bool). if t then woken_in p side else p) none

pub turned :
    (X : Type 0) (p : PairValue) (side : Side) → IsReached p → IsLate p → MayTurn p side
    → (MayAsk p side → CanHear (socket_of (roused_in p side) side) (socket_of (roused_in p side) (other side)) ⊎ X) → Turned X p (turn_in p side) side
turned X p side r late m space = at (waits_in p side) refl where
  at : (waits : Bool) → waits_in p side ≡ waits → Turned X p (if waits then woken_in p side else p) side
  at true e = woken X p side r late (m e) (space (m e))
  at false e = record { reached = r; calm = record { a = still_calm p A; b = still_calm p B }; fine = λ f. f; leaves = inl (e, refl) }

-- ROUNDS

to_do_falls : (p q : PairValue) (side : Side) → BothCalm p q → to_do_for q side ≤ to_do_for p side
to_do_falls p q side c =
    by (left_in q side) (left_in p side) (total_in q side) (total_in p side) (taken_in q (other side)) (taken_in p (other side)) (of_side p q side c).left
    (total_same p q side c) (of_side p q (other side) c).taken
  where
    by : (new left all total came taken : ℕ) → new ≤ left → all ≡ total → taken ≤ came → new + (all - came) ≤ left + (total - taken)
    by new left all total came taken a b c = omega arith

-- neither waits
abbrev pub IsDone : PairValue → Type 0
IsDone p = (waits_in p A ≡ false) × (waits_in p B ≡ false)

all_not : (a b c : Bool) → b ≡ true → (a && (not b && c)) ≡ false
all_not true b c e = ap (λ (t : Bool). not t && c) e
all_not false b c e = refl

second_not : (a b c : Bool) → c ≡ true → (a && (b && not c)) ≡ false
second_not true true c e = ap not e
second_not true false c e = refl
second_not false b c e = refl

-- where one connection is over neither waits
over_done : (p : PairValue) (side : Side) → IsOver p side → IsDone p
over_done p A over = (
  all_not (not (left_in p A == 0)) (is_over p A) (not (is_over p B)) over,
  second_not (not (left_in p B == 0)) (not (is_over p B)) (is_over p A) over,
)
over_done p B over = (
  second_not (not (left_in p A == 0)) (not (is_over p A)) (is_over p B) over,
  all_not (not (left_in p B == 0)) (is_over p B) (not (is_over p A)) over,
)

-- neither waits, or there is less to do
abbrev Outcome : PairValue → PairValue → Type 0
Outcome p q = IsDone q ⊎ (bound q < bound p)

record Rounded (p q : PairValue) : Type 0 where
  reached : IsReached q
  calm : BothCalm p q
  fine : BothFine p → BothFine q
  leaves : Outcome p q

owes_no_more : (p : PairValue) (side : Side) → IsLate p → left_in (roused_in p side) (other side) ≤ left_in p (other side)
owes_no_more p side late = (of_side p (roused_in p side) (other side) (roused_calm p side late)).left

late_side : (p : PairValue) (side : Side) → IsLate p → is_early (socket_of p side).tcb.state ≡ false
late_side p A late = late.0
late_side p B late = late.1

-- a side that knows of all hears all
roused_known : (p : PairValue) (side : Side) → IsLate p → IsKnown p side →
    CanHear (socket_of (roused_in p side) side) (socket_of (roused_in p side) (other side))
roused_known p side late known =
    inr
    (ap (λ (v : TcpValue). v.tcb.receiver.next) (roused_other p side)
    ∙ (ap (λ (b : Tcb). b.receiver.next) (read_peer_side p side)
    ∙ (sym known ∙ (sym (ap (λ (v : TcpValue). v.tcb.sender.una) (own_same p side)) ∙ sym una))))
  where
    own_same : (p : PairValue) (side : Side) → socket_of (read_in p side) side ≡ socket_of p side
    own_same p A = refl
    own_same p B = refl

    una : (socket_of (roused_in p side) side).tcb.sender.una ≡ (socket_of (read_in p side) side).tcb.sender.una
    una =
        ap (λ (v : TcpValue). v.tcb.sender.una) (roused_own p side)
        ∙ (refused_same (context_of (read_in p side) side (restart_in p side)) (socket_of (read_in p side) side)
        (late_side (read_in p side) side (late_after p (read_in p side) (read_calm p side) late))).una

-- a side whose peer has nothing left hears all
hears_first : (p : PairValue) (side : Side) → IsReached p → IsLate p → MayAsk p side →
    CanHear (socket_of (roused_in p side) side) (socket_of (roused_in p side) (other side)) ⊎ (1 ≤ left_in p (other side))
hears_first p side r late m = at (left_in p (other side) == 0) refl where
  at : (none : Bool) → (left_in p (other side) == 0) ≡ none →
      CanHear (socket_of (roused_in p side) side) (socket_of (roused_in p side) (other side)) ⊎ (1 ≤ left_in p (other side))
  at true e =
      inl
      (none_left_space (roused_in p side) side (roused_reached p side r m.rouses) m.reaches.own m.reaches.theirs
      (least (left_in (roused_in p side) (other side)) (left_in p (other side)) (owes_no_more p side late) (eqb-true (left_in p (other side)) 0 e)))
    where
      least : (a b : ℕ) → a ≤ b → b ≡ 0 → a ≡ 0
      least a b e f = omega arith
  at false e = inr (some_left (left_in p (other side)) e)

-- one that didn't wait, whose connection is there as the other's, has nothing left
none_waits : (left : ℕ) (mine theirs : Bool) → (not (left == 0) && (not mine && not theirs)) ≡ false → mine ≡ false → theirs ≡ false → left ≡ 0
none_waits left mine theirs e f g =
    by (left == 0) refl (sym (ap (λ (t : Bool). not (left == 0) && (not t && not theirs)) f ∙ ap (λ (t : Bool). not (left == 0) && (true && not t)) g) ∙ e)
  where
    by : (none : Bool) → (left == 0) ≡ none → (not none && (true && true)) ≡ false → left ≡ 0
    by true e f = eqb-true left 0 e
    by false e f = clash f

rounded : (p : PairValue) → IsReached p → IsLate p → MayTurn p A → MayTurn (turn_in p A) B → Rounded p (round_in p)
rounded p r late first second = record {
  reached = b.reached;
  calm = whole;
  fine = λ f. b.fine (a.fine f);
  leaves = by_first a.leaves;
}
  where
    h : PairValue
    h = turn_in p A

    a : Turned (1 ≤ left_in p B) p h A
    a = turned (1 ≤ left_in p B) p A r late first (λ m. hears_first p A r late m)

    late_h : IsLate h
    late_h = late_after p h a.calm late

    -- a connection that is there by then was there before
    was_there : (side : Side) → is_synchronized (socket_of (roused_in h B) side).tcb.state ≡ true → is_over h side ≡ false
    was_there side on = by (is_over h side) refl where
      by : (over : Bool) → is_over h side ≡ over → over ≡ false
      by false e = refl
      by true e = absurd (still_open (socket_of (roused_in h B) side).tcb.state on ((of_side h (roused_in h B) side (roused_calm h B late_h)).closed e))

    hears : MayAsk h B → CanHear (socket_of (roused_in h B) B) (socket_of (roused_in h B) A)
    hears m = by a.leaves where
      by : Leaves (1 ≤ left_in p B) p h A → CanHear (socket_of (roused_in h B) B) (socket_of (roused_in h B) A)
      by (inr it) = roused_known h B late_h it.1
      by (inl it) =
          none_left_space (roused_in h B) B (roused_reached h B a.reached m.rouses) m.reaches.own m.reaches.theirs
          (least (left_in (roused_in h B) A) (left_in h A) (owes_no_more h B late_h)
          (none_waits (left_in h A) (is_over h A) (is_over h B) (ap (λ (x : PairValue). waits_in x A) it.1 ∙ it.0)
          (was_there A m.reaches.theirs.synchronized) (was_there B m.reaches.own.synchronized)))
        where
          least : (a b : ℕ) → a ≤ b → b ≡ 0 → a ≡ 0
          least a b e f = omega arith

    q : PairValue
    q = turn_in h B

    b : Turned ⊥ h q B
    b = turned ⊥ h B a.reached late_h second (λ m. inl (hears m))

    whole : BothCalm p q
    whole = both_next p h q a.calm b.calm

    sum_first : (a b c d : ℕ) → a < b → c ≤ d → a + c < b + d
    sum_first a b c d e f = omega arith

    sum_second : (a b c d : ℕ) → a ≤ b → c < d → a + c < b + d
    sum_second a b c d e f = omega arith

    strictly : (a b c : ℕ) → a < b → b ≤ c → a < c
    strictly a b c e f = omega arith

    below : (a b c : ℕ) → a ≤ b → b < c → a < c
    below a b c e f = omega arith

    less_b : to_do_for q B < to_do_for h B → bound q < bound p
    less_b less =
        sum_second (to_do_for q A) (to_do_for p A) (to_do_for q B) (to_do_for p B) (to_do_falls p q A whole)
        (strictly (to_do_for q B) (to_do_for h B) (to_do_for p B) less (to_do_falls p h B a.calm))

    -- B's turn, where A is done or not
    by_second : (waits_in h B ≡ false → Outcome p q) → Leaves ⊥ h q B → Outcome p q
    by_second still (inl none) = still none.0
    by_second still (inr (inl less, known)) = inr (less_b less)
    by_second still (inr (inr (inl over), known)) = inl (over_done q A over)
    by_second still (inr (inr (inr never), known)) = absurd never

    stays : waits_in h B ≡ false → q ≡ h
    stays none = nothing_turns h B none

    by_first : Leaves (1 ≤ left_in p B) p h A → Outcome p q
    by_first (inl none) =
        by_second
        (λ e.
        inl
        (subst IsDone (sym (stays e)) (ap (λ (x : PairValue). waits_in x A) none.1 ∙ none.0, e)))
        b.leaves
    by_first (inr (inl less, known)) =
        inr
        (sum_first (to_do_for q A) (to_do_for p A) (to_do_for q B) (to_do_for p B)
        (below (to_do_for q A) (to_do_for h A) (to_do_for p A) (to_do_falls h q A b.calm) less) (to_do_falls p q B whole))
    by_first (inr (inr (inl over), known)) = inl (over_done q B (b.calm.b.closed over))
    by_first (inr (inr (inr owes), known)) = by_second (λ e. at (left_in h B == 0) refl e) b.leaves where
      fell : left_in h B ≡ 0 → bound q < bound p
      fell none =
          sum_second (to_do_for q A) (to_do_for p A) (to_do_for q B) (to_do_for p B) (to_do_falls p q A whole)
          (below (to_do_for q B) (to_do_for h B) (to_do_for p B) (to_do_falls h q B b.calm)
          (all_told (left_in h B) (left_in p B) (total_in h B) (total_in p B) (taken_in h A) (taken_in p A) none owes (total_same p h B a.calm) a.calm.a.taken))
        where
          all_told : (new left all total came taken : ℕ) → new ≡ 0 → 1 ≤ left → all ≡ total → taken ≤ came → new + (all - came) < left + (total - taken)
          all_told new left all total came taken a b c d = omega arith

      at : (none : Bool) → (left_in h B == 0) ≡ none → waits_in h B ≡ false → Outcome p q
      at true e stop = inr (fell (eqb-true (left_in h B) 0 e))
      at false e stop =
          inl
          (subst IsDone (sym (stays stop))
          (one_over (is_over h A) (is_over h B) refl refl
          (sym (ap (λ (t : Bool). not t && (not (is_over h B) && not (is_over h A))) e) ∙ stop)))
        where
          one_over : (mine theirs : Bool) → is_over h A ≡ mine → is_over h B ≡ theirs → (not (is_over h B) && not (is_over h A)) ≡ false → IsDone h
          one_over true theirs f g stop = over_done h A f
          one_over false true f g stop = over_done h B g
          one_over false false f g stop =
              clash (sym (ap (λ (t : Bool). not t && not (is_over h A)) g ∙ ap (λ (t : Bool). true && not t) f) ∙ stop)

pub done_round : (p : PairValue) → IsDone p → round_in p ≡ p
done_round p d =
    let first = nothing_turns p A d.0 in
    ap (λ (x : PairValue). turn_in x B) first ∙ nothing_turns p B d.1

done_rounds : (n : ℕ) (p : PairValue) → IsDone p → rounds_in n p ≡ p
done_rounds zero p d = refl
done_rounds (suc n) p d = ap (λ (x : PairValue). rounds_in n x) (done_round p d) ∙ done_rounds n p d

pub record Ended (p q : PairValue) : Type 0 where
  pub reached : IsReached q
  pub calm : BothCalm p q
  pub fine : BothFine p → BothFine q
  pub done : IsDone q

from_round :
    (n : ℕ) (p : PairValue) → IsReached p → IsLate p → MayRounds (suc n) p → bound p ≤ suc n
    → (IsReached (round_in p) → IsLate (round_in p) → MayRounds n (round_in p) → bound (round_in p) ≤ n → Ended (round_in p) (rounds_in n (round_in p)))
    → Ended p (rounds_in n (round_in p))
from_round n p r late m e others = by it.leaves where
  q : PairValue
  q = round_in p

  it : Rounded p q
  it = rounded p r late m.0 m.1

  fewer : (a b : ℕ) → a < b → b ≤ suc n → a ≤ n
  fewer a b x y = omega arith

  on : Ended q (rounds_in n q) → Ended p (rounds_in n q)
  on d = record { reached = d.reached; calm = both_next p q (rounds_in n q) it.calm d.calm; fine = λ f. d.fine (it.fine f); done = d.done }

  by : IsDone q ⊎ (bound q < bound p) → Ended p (rounds_in n q)
  by (inl done) =
      subst (λ (x : PairValue). Ended p x) (sym (done_rounds n q done))
      (record { reached = it.reached; calm = it.calm; fine = it.fine; done = done })
  by (inr less) = on (others it.reached (late_after p q it.calm late) m.2 (fewer (bound q) (bound p) less e))

gets : (n : ℕ) (p : PairValue) → IsReached p → IsLate p → MayRounds n p → bound p ≤ n → Ended p (rounds_in n p)
gets zero p r late m e =
    record {
      reached = r;
      calm = record { a = still_calm p A; b = still_calm p B };
      fine = λ f. f;
      done = by (left_in p A) (left_in p B) (total_in p A - taken_in p B) (total_in p B - taken_in p A) e;
    }
  where
    idle : (left : ℕ) (rest : Bool) → left ≡ 0 → (not (left == 0) && rest) ≡ false
    idle left rest e = ap (λ (t : Bool). not t && rest) (eq-eqb left 0 e)

    first : (a b c d : ℕ) → a + c + (b + d) ≤ 0 → a ≡ 0
    first a b c d e = omega arith

    second : (a b c d : ℕ) → a + c + (b + d) ≤ 0 → b ≡ 0
    second a b c d e = omega arith

    by : (a b c d : ℕ) → left_in p A + c + (left_in p B + d) ≤ 0 → IsDone p
    by a b c d e = (
      idle (left_in p A) (not (is_over p A) && not (is_over p B)) (first (left_in p A) (left_in p B) c d e),
      idle (left_in p B) (not (is_over p B) && not (is_over p A)) (second (left_in p A) (left_in p B) c d e),
    )
gets (suc n) p r late m e = from_round n p r late m e (λ reached on more few. gets n (round_in p) reached on more few)

-- THE LAW

-- neither waits: so each side is through
through_at : (q : PairValue) (side : Side) → waits_in q side ≡ false → IsFine q side → (is_over q (other side) ≡ true → IsTaken q side) →
    IsThrough q side
through_at q side done mine theirs = by (is_over q side) (is_over q (other side)) refl refl where
  by : (own others : Bool) → is_over q side ≡ own → is_over q (other side) ≡ others → IsThrough q side
  by true others e f = inl (mine e).0
  by false true e f = inr (f, (theirs f).all)
  by false false e f = inl (none_waits (left_in q side) (is_over q side) (is_over q (other side)) done e f)

-- where all was taken, the peer's user reads it
one_most : (t : Bool) → one_if t ≤ 1
one_most true = omega arith
one_most false = omega arith

taken_whole : (p : PairValue) (side : Side) → IsStreamSafe p side → IsTaken p side → taken_list p (other side) ≡ written p side
taken_whole p side safe t = by safe.prefix.0 safe.prefix.1 where
  front : List ℕ
  front = taken_list p (other side)

  fin : Bool
  fin = (socket_of p (other side)).tcb.receiver.took_fin

  all : length (written p side) + 1 ≤ length front + one_if fin
  all = subst (λ (closed : Bool). length (written p side) + one_if closed ≤ length front + one_if fin) t.closed t.all

  by : (rest : List ℕ) → front ++ rest ≡ written p side → front ≡ written p side
  by [] e = sym (append-nil front) ∙ e
  by (x ∷ rest) e =
      absurd
      (too_long (length (written p side)) (length front) (length rest) (one_if fin) (sym (ap length e) ∙ length-append front (x ∷ rest)) all (one_most fin))
    where
      too_long : (all taken rest fin : ℕ) → all ≡ taken + suc rest → all + 1 ≤ taken + fin → fin ≤ 1 → ⊥
      too_long all taken rest fin a b c = absurd (omega arith)

read_whole : (p : PairValue) (side : Side) → IsReached p → IsTaken p side → read (read_in p side) (other side) ≡ written p side
read_whole p side r t =
    sym (append-nil (read x (other side)))
    ∙ (ap (λ (xs : List ℕ). read x (other side) ++ xs) (sym (empty_after p side r))
    ∙ (taken_whole x side (safe_side x side (read_reached p side r)) (taken_still p x side (read_calm p side) t) ∙ read_written p side))
  where
    x : PairValue
    x = read_in p side

-- what a side wrote is acknowledged, or was taken
abbrev IsPast : PairValue → Side → Type 0
IsPast p side = (left_in p side ≡ 0) ⊎ IsTaken p side

past_at_end : (q : PairValue) (side : Side) → waits_in q side ≡ false → IsFine q side → (is_over q (other side) ≡ true → IsTaken q side) → IsPast q side
past_at_end q side done mine theirs = by (is_over q side) (is_over q (other side)) refl refl where
  by : (own others : Bool) → is_over q side ≡ own → is_over q (other side) ≡ others → IsPast q side
  by true others e f = inl (mine e).0
  by false true e f = inr (theirs f)
  by false false e f = inl (none_waits (left_in q side) (is_over q side) (is_over q (other side)) done e f)

reads_past : (p : PairValue) (side : Side) → IsReached p → IsPast p side → read (read_in p side) (other side) ≡ written p side
reads_past p side r (inl none) = read_all p side r none
reads_past p side r (inr taken) = read_whole p side r taken

past_still : (p q : PairValue) (side : Side) → BothCalm p q → IsPast p side → IsPast q side
past_still p q side c (inl none) = inl (least (left_in q side) (left_in p side) (of_side p q side c).left none) where
  least : (a b : ℕ) → a ≤ b → b ≡ 0 → a ≡ 0
  least a b e f = omega arith
past_still p q side c (inr taken) = inr (taken_still p q side c taken)

module _ (p : PairValue) (r : IsReached p) (there : AreThere p) (m : MayRounds (bound p) p) where
  abbrev pub last : PairValue
  last = rounds_in (bound p) p

  pub ends : Ended p last
  ends = gets (bound p) p r (late_in p.sides.a.socket.tcb.state there.0, late_in p.sides.b.socket.tcb.state there.1) m (same _)

  pub leads : IsReached last
  leads = ends.reached

  fine : BothFine last
  fine =
      ends.fine
      (record {
        a = λ over. clash (sym over ∙ not_closed p.sides.a.socket.tcb.state there.0);
        b = λ over. clash (sym over ∙ not_closed p.sides.b.socket.tcb.state there.1);
      })

  pub through : (side : Side) → IsThrough last side
  through A = through_at last A ends.done.0 fine.a (λ over. (fine.b over).1)
  through B = through_at last B ends.done.1 fine.b (λ over. (fine.a over).1)

  past : (side : Side) → IsPast last side
  past A = past_at_end last A ends.done.0 fine.a (λ over. (fine.b over).1)
  past B = past_at_end last B ends.done.1 fine.b (λ over. (fine.a over).1)

  pub all_read_in : (side : Side) → read (both_read last) (other side) ≡ written p side
  all_read_in A = reads_past last A ends.reached (past A) ∙ ends.calm.a.written
  all_read_in B =
      let c = read_calm last A in
      reads_past (read_in last A) B (read_reached last A ends.reached) (past_still last (read_in last A) B c (past B))
      ∙ (c.b.written ∙ ends.calm.b.written)
