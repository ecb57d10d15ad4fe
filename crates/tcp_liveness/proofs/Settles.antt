-- Rounds of one way get through.
use Rattle.std.proofs.Common.{◌≡◌, inl, inr, ℕ, zero, suc, ◌+◌, ◌-◌, ◌*◌, ◌^◌, ◌<◌, ◌≤◌, ◌==◌, ◌||◌, not, min, ℤ, Bool, true, false, if◌then◌else◌, List, []}
use Rattle.std.proofs.Common.{◌∷◌, ◌++◌, length, drop, Option, Some, None, Result, Ok, Err, refl, sym, ap, ◌∙◌, subst, arith}
use Rattle.std.proofs.Common.{append-nil, length-append, length-drop}
use Rattle.std.proofs.lemmas.Bool.{cond_both, eqb-true, eq-eqb}
use Rattle.ip_wire.specs.Seq.{distance_of}
use Rattle.ip_wire.specs.SeqNumber.{SeqNumber}
use Rattle.tcp_refinement.specs.Tie.{Past}
use Rattle.tcp_invariants.specs.RecvError.{RecvError}
use Rattle.tcp_invariants.specs.States.{is_closed, owes_fin, accepts_data}
use Rattle.tcp_invariants.proofs.OrderSteps.{clash}
use Rattle.tcp_block.specs.declared.tcb.Tcb.{Tcb}
use Rattle.tcp_block.specs.TcbRules.{one_if}
use Rattle.tcp_block.specs.Calls.{nothing_left, or_count, recv_answer}
use Rattle.tcp_refinement.specs.Pair.Safe.{IsStreamSafe, read, taken_in, written}
use Rattle.tcp_refinement.specs.Pair.Sides.{other}
use Rattle.tcp_refinement.specs.Pair.Steps.{reads}
use Rattle.tcp_block.specs.Value.{queued_in}
use Rattle.tcp_refinement.specs.Pair.Values.{PairSide, PairValue}
use Rattle.tcp_refinement.specs.declared.pair.event.PairEvent.TheVariants.{Deliver, Offer, Recv}
use Rattle.tcp_refinement.specs.declared.pair.event.Side.{Side}
use Rattle.tcp_refinement.specs.declared.pair.event.Side.TheVariants.{A, B}
use Rattle.tcp_refinement.proofs.PairLaws.{kept_is_safe}
use Rattle.tcp_invariants.specs.OpenOffer.{OpenOffer}
use Rattle.tcp_liveness.specs.Pair.{MayReachIn, left_in, next_sent, offered_in, socket_of}
use Rattle.tcp_liveness.specs.Reached.{IsReached}
use Rattle.tcp_liveness.specs.Rounds.{comes, takes}
use Rattle.tcp_liveness.specs.Settle.{MayRound, MaySettle, read_in, restart_in, resumed_in, settled_in}
use Rattle.tcp_liveness.proofs.Kept.{reached_by, reached_keeps, reached_kept}
use Rattle.tcp_liveness.proofs.OfItself.{leads_of_itself, may_reach, sends_in}
use Rattle.tcp_liveness.proofs.Pair.{HasLess, HasSome, below_quarter, further, had_in, has_some, ahead_in, reached_less, still_open}

-- READING

-- the peer's block stays
same_tcb : (s : PairSide) (r : Result ℕ RecvError) → (reads s r).side.socket.tcb ≡ s.socket.tcb
same_tcb s (Ok count) = refl
same_tcb s (Err fault) = refl

pub read_peer_side : (p : PairValue) (side : Side) → (socket_of (read_in p side) (other side)).tcb ≡ (socket_of p (other side)).tcb
read_peer_side p A = same_tcb p.sides.b (recv_answer p.sides.b.socket (2 ^ 30))
read_peer_side p B = same_tcb p.sides.a (recv_answer p.sides.a.socket (2 ^ 30))

pub read_left : (p : PairValue) (side : Side) → left_in (read_in p side) side ≡ left_in p side
read_left p A = refl
read_left p B = refl

read_una : (p : PairValue) (side : Side) → (socket_of (read_in p side) side).tcb.sender.una ≡ (socket_of p side).tcb.sender.una
read_una p A = refl
read_una p B = refl

pub read_had : (p : PairValue) (side : Side) → had_in (read_in p side) side ≡ had_in p side
read_had p side =
    ap (λ (n : SeqNumber). distance_of n (socket_of (read_in p side) (other side)).tcb.receiver.next) (read_una p side)
    ∙ ap (λ (b : Tcb). distance_of (socket_of p side).tcb.sender.una b.receiver.next) (read_peer_side p side)

pub read_reached : (p : PairValue) (side : Side) → IsReached p → IsReached (read_in p side)
read_reached p side r = reached_by p (read_in p side) (Recv (other side) (2 ^ 30) ∷ []) r (refl, refl)

-- all that waits is read
none_waits : (s : PairSide) → length s.socket.received.waiting ≤ 2 ^ 30 → (reads s (recv_answer s.socket (2 ^ 30))).side.socket.received.waiting ≡ []
none_waits s few =
    cond_both (accepts_data s.socket.tcb.state || not (length s.socket.received.waiting == 0)) None (Some (nothing_left s.socket.tcb.receiver.took_fin))
    (λ (refused : Option RecvError).
    (reads s (or_count refused (min (2 ^ 30) (length s.socket.received.waiting)))).side.socket.received.waiting ≡ [])
    (λ _. none_of (drop (min (2 ^ 30) (length s.socket.received.waiting)) s.socket.received.waiting)
    (rest (length (drop (min (2 ^ 30) (length s.socket.received.waiting)) s.socket.received.waiting)) (length s.socket.received.waiting)
    (length-drop (min (2 ^ 30) (length s.socket.received.waiting)) s.socket.received.waiting) few))
    (λ e. none_of s.socket.received.waiting (eqb-true (length s.socket.received.waiting) 0 (second (accepts_data s.socket.tcb.state) _ e)))
  where
    none_of : (xs : List ℕ) → length xs ≡ 0 → xs ≡ []
    none_of [] e = refl
    none_of (x ∷ xs) e = absurd (omega arith)

    rest : (len all : ℕ) → len ≡ all - min (2 ^ 30) all → all ≤ 2 ^ 30 → len ≡ 0
    rest len all e f = omega arith

    second : (a b : Bool) → (a || not b) ≡ false → b ≡ true
    second true b e = clash e
    second false true e = refl
    second false false e = clash e

-- WHAT WAS WRITTEN STAYS

comes_written : (n : ℕ) (from : Side) (k : ℕ) (p : PairValue) (side : Side) → written (comes n from k p) side ≡ written p side
comes_written zero from k p side = refl
comes_written (suc n) from k p side = comes_written n from (suc k) (takes p (Deliver from k)) side ∙ once from side where
  once : (from side : Side) → written (takes p (Deliver from k)) side ≡ written p side
  once A A = refl
  once A B = refl
  once B A = refl
  once B B = refl

offer_written : (p : PairValue) (side : Side) (instant : ℤ) → written (takes p (Offer side instant true)) side ≡ written p side
offer_written p A instant = refl
offer_written p B instant = refl

pub read_written : (p : PairValue) (side : Side) → written (read_in p side) side ≡ written p side
read_written p A = refl
read_written p B = refl

resumed_written : (p : PairValue) (side : Side) → written (resumed_in p side) side ≡ written p side
resumed_written p side =
    comes_written (next_sent (offered_in x side t) (other side) - next_sent x (other side)) (other side) (next_sent x (other side)) (offered_in x side t) side
    ∙ (comes_written 1 side (next_sent x side) (takes x (Offer side t true)) side ∙ (offer_written x side t ∙ read_written p side))
  where
    x : PairValue
    x = read_in p side

    t : ℤ
    t = restart_in p side

-- THE MEASURE

taken_once :
    (n had had_new left left_new more : ℕ) → left + left ≤ suc n + had → left_new ≡ left → had_new ≡ had + more → 1 ≤ more
    → left_new + left_new ≤ n + had_new
taken_once n had had_new left left_new more a b c d = omega arith

told_once : (n had had_new left left_new reach : ℕ) → left + left ≤ suc n + had → left_new + reach ≡ left → 1 ≤ reach → had ≤ reach →
    left_new + left_new ≤ n + had_new
told_once n had had_new left left_new reach a b c d = omega arith

too_few : (had left : ℕ) → left + left ≤ 0 + had → had ≤ left → 1 ≤ left → ⊥
too_few had left a b c = absurd (omega arith)

-- all is acknowledged
pub record IsDone (p q : PairValue) (side : Side) : Type 0 where
  pub reached : IsReached q
  pub none : left_in q side ≡ 0
  pub same : written q side ≡ written p side

stays : (n : ℕ) (p : PairValue) (side : Side) → left_in p side ≡ 0 → settled_in n p side ≡ p
stays zero p side e = refl
stays (suc n) p side e = ap (λ (t : Bool). if t then p else settled_in n (resumed_in p side) side) (eq-eqb (left_in p side) 0 e)

pub some_left : (n : ℕ) → (n == 0) ≡ false → 1 ≤ n
some_left zero e = clash e
some_left (suc n) e = omega arith

-- what a round leaves
record Round (p : PairValue) (side : Side) : Type 0 where
  reached : IsReached (resumed_in p side)
  some : HasSome (read_in p side) side
  less : HasLess (read_in p side) (resumed_in p side) side

round : (p : PairValue) (side : Side) → IsReached p → MayRound p side → Round p side
round p side r m = record {
  reached = leads_of_itself x side t rx m.stream m.proceeds m.comes;
  some = has_some x side t k rx m.stream may;
  less = reached_less x side t k rx m.stream may m.space;
}
  where
    x : PairValue
    x = read_in p side

    t : ℤ
    t = restart_in p side

    rx : IsReached x
    rx = read_reached p side r

    k : OpenOffer
    k = (sends_in x side t rx m.proceeds.sends).k

    may : MayReachIn x side t k
    may = may_reach x side t rx m.proceeds

-- after the first of several rounds, where the others get through
after_round :
    (n : ℕ) (p : PairValue) (side : Side) → left_in p side + left_in p side ≤ suc n + had_in p side → Round p side → MaySettle (suc n) (resumed_in p side) side
    → (left_in (resumed_in p side) side + left_in (resumed_in p side) side ≤ n + had_in (resumed_in p side) side
    → IsDone (resumed_in p side) (settled_in n (resumed_in p side) side) side)
    → IsDone (resumed_in p side) (settled_in n (resumed_in p side) side) side
after_round n p side e it rest others = by it.less where
  q : PairValue
  q = resumed_in p side

  x : PairValue
  x = read_in p side

  start : left_in x side + left_in x side ≤ suc n + had_in x side
  start = equal (left_in x side) (left_in p side) (had_in x side) (had_in p side) (read_left p side) (read_had p side) e where
    equal : (a b c d : ℕ) → a ≡ b → c ≡ d → b + b ≤ suc n + d → a + a ≤ suc n + c
    equal a b c d x y z = omega arith

  last : is_closed (socket_of q (other side)).tcb.state ≡ true → (t : Bool) → (left_in q side == 0) ≡ t → IsDone q (settled_in n q side) side
  last closed true z =
      let none = eqb-true (left_in q side) 0 z in
      subst (λ (x : PairValue). IsDone q x side) (sym (stays n q side none)) (record { reached = it.reached; none = none; same = refl })
  last closed false z =
      let m = rest.0 (some_left (left_in q side) z) in
      absurd
      (still_open (socket_of (read_in q side) (other side)).tcb.state m.proceeds.theirs.synchronized
      (ap (λ (b : Tcb). is_closed b.state) (read_peer_side q side) ∙ closed))

  by : HasLess x q side → IsDone q (settled_in n q side) side
  by (inl t) =
      others
      (taken_once n (had_in x side) (had_in q side) (left_in x side) (left_in q side) t.more start t.left
      (ap (λ (n : SeqNumber). distance_of n (socket_of q (other side)).tcb.receiver.next) t.una
      ∙ (ap (λ (n : SeqNumber). distance_of (socket_of x side).tcb.sender.una n) t.next
      ∙ further (socket_of x side).tcb.sender.una.0 (socket_of x (other side)).tcb.receiver.next.0 t.more it.some.una it.some.next
      (below_quarter (had_in x side) (left_in x side) it.some.within it.some.few) t.few))
      t.some)
  by (inr (inl t)) = others (told_once n (had_in x side) (had_in q side) (left_in x side) (left_in q side) (ahead_in x q side) start t.left t.had t.more)
  by (inr (inr closed)) = last closed (left_in q side == 0) refl

none_more : (p : PairValue) (side : Side) → IsReached p → (1 ≤ left_in p side → MayRound p side) → left_in p side + left_in p side ≤ 0 + had_in p side →
    IsDone p p side
none_more p side r m e = by (left_in p side == 0) refl where
  within : had_in (read_in p side) side ≤ left_in (read_in p side) side → had_in p side ≤ left_in p side
  within w = subst (λ (n : ℕ). n ≤ left_in p side) (read_had p side) (subst (λ (n : ℕ). had_in (read_in p side) side ≤ n) (read_left p side) w)

  by : (t : Bool) → (left_in p side == 0) ≡ t → IsDone p p side
  by true z = record { reached = r; none = eqb-true (left_in p side) 0 z; same = refl }
  by false z =
      let some = some_left (left_in p side) z in
      absurd (too_few (had_in p side) (left_in p side) e (within (round p side r (m some)).some.within) some)

one_more :
    (n : ℕ) (p : PairValue) (side : Side) → IsReached p → MaySettle (suc (suc n)) p side → left_in p side + left_in p side ≤ suc n + had_in p side
    → (IsReached (resumed_in p side) → MaySettle (suc n) (resumed_in p side) side
    → left_in (resumed_in p side) side + left_in (resumed_in p side) side ≤ n + had_in (resumed_in p side) side
    → IsDone (resumed_in p side) (settled_in n (resumed_in p side) side) side)
    → IsDone p (settled_in (suc n) p side) side
one_more n p side r m e others = at (left_in p side == 0) refl where
  at : (t : Bool) → (left_in p side == 0) ≡ t → IsDone p (if t then p else settled_in n (resumed_in p side) side) side
  at true z = record { reached = r; none = eqb-true (left_in p side) 0 z; same = refl }
  at false z =
      let some = some_left (left_in p side) z in
      let it = round p side r (m.0 some) in
      let d = after_round n p side e it (m.1 some) (λ f. others it.reached (m.1 some) f) in
      record { reached = d.reached; none = d.none; same = d.same ∙ resumed_written p side }

settles : (n : ℕ) (p : PairValue) (side : Side) → IsReached p → MaySettle (suc n) p side → left_in p side + left_in p side ≤ n + had_in p side →
    IsDone p (settled_in n p side) side
settles zero p side r m e = none_more p side r m.0 e
settles (suc n) p side r m e =
    one_more n p side r m e (λ reached rest f. settles n (resumed_in p side) side reached rest f)

pub done : (p : PairValue) (side : Side) → IsReached p → MaySettle (suc (2 * left_in p side)) p side → IsDone p (settled_in (2 * left_in p side) p side) side
done p side r m = settles (2 * left_in p side) p side r m (twice (left_in p side) (had_in p side)) where
  twice : (left had : ℕ) → left + left ≤ 2 * left + had
  twice left had = omega arith

-- ALL IS READ

-- where all is acknowledged, all was taken
pub all_taken : (p : PairValue) (side : Side) → IsStreamSafe p side → left_in p side ≡ 0 → taken_in p (other side) ≡ written p side
all_taken p side safe none = by safe.prefix.0 safe.prefix.1 where
  front : List ℕ
  front = taken_in p (other side)

  empty : queued_in (socket_of p side) ≡ 0
  empty =
      middle (one_if (socket_of p side).tcb.sender.syn_unacked) (queued_in (socket_of p side)) (one_if (owes_fin (socket_of p side).tcb.state)) none
    where
      middle : (a b c : ℕ) → a + b + c ≡ 0 → b ≡ 0
      middle a b c e = omega arith

  by : (rest : List ℕ) → taken_in p (other side) ++ rest ≡ written p side → taken_in p (other side) ≡ written p side
  by [] e = sym (append-nil front) ∙ e
  by (x ∷ rest) e =
      absurd
      (too_long (length (written p side)) (length front) (length rest) (queued_in (socket_of p side)) (sym (ap length e) ∙ length-append front (x ∷ rest)) empty
      safe.freed)
    where
      too_long : (all taken rest queued : ℕ) → all ≡ taken + suc rest → queued ≡ 0 → all - queued ≤ taken → ⊥
      too_long all taken rest queued a b c = absurd (omega arith)

pub safe_side : (p : PairValue) (side : Side) → IsReached p → IsStreamSafe p side
safe_side p A r = (kept_is_safe p (reached_kept p r)).from_a
safe_side p B r = (kept_is_safe p (reached_kept p r)).from_b

-- what waits is part of what was written
pub few_wait : (p : PairValue) (side : Side) → IsReached p → length (socket_of p (other side)).received.waiting ≤ 2 ^ 30
few_wait p side r =
    let k = reached_keeps p side r in
    let safe = safe_side p side r in
    small (length (read p (other side))) (length (socket_of p (other side)).received.waiting) (length safe.prefix.0) (length (taken_in p (other side)))
    (length (written p side)) (length-append (read p (other side)) (socket_of p (other side)).received.waiting)
    (sym (length-append (taken_in p (other side)) safe.prefix.0) ∙ ap length safe.prefix.1)
    (subst (λ (xs : List ℕ). length xs < 2 ^ 29) (ap (λ (p : Past). p.written) k.past) k.holds.0.well_formed.short)
  where
    small : (read waiting rest taken all : ℕ) → taken ≡ read + waiting → taken + rest ≡ all → all < 2 ^ 29 → waiting ≤ 2 ^ 30
    small read waiting rest taken all a b c = omega arith

pub empty_after : (p : PairValue) (side : Side) → IsReached p → (socket_of (read_in p side) (other side)).received.waiting ≡ []
empty_after p A r = none_waits p.sides.b (few_wait p A r)
empty_after p B r = none_waits p.sides.a (few_wait p B r)

-- where all is acknowledged, the peer's user reads all that was written
pub read_all : (p : PairValue) (side : Side) → IsReached p → left_in p side ≡ 0 → read (read_in p side) (other side) ≡ written p side
read_all p side r none =
    sym (append-nil (read x (other side)))
    ∙ (ap (λ (xs : List ℕ). read x (other side) ++ xs) (sym (empty_after p side r))
    ∙ (all_taken x side (safe_side x side (read_reached p side r)) (read_left p side ∙ none) ∙ read_written p side))
  where
    x : PairValue
    x = read_in p side

pub all_read : (p : PairValue) (side : Side) → IsReached p → MaySettle (suc (2 * left_in p side)) p side →
    read (read_in (settled_in (2 * left_in p side) p side) side) (other side) ≡ written p side
all_read p side r m = let d = done p side r m in read_all (settled_in (2 * left_in p side) p side) side d.reached d.none ∙ d.same
