-- When rounds end, and that all has got through by then.
use Rattle.std.proofs.Common.{◌≡◌, ◌⊎◌, inl, inr, ℕ, zero, suc, ◌+◌, ◌-◌, ◌*◌, ◌^◌, ◌<◌, ◌≤◌, nat_lt, min, ◌||◌, Bool, true, false, List, length}
use Rattle.std.proofs.Common.{refl, sym, ap, ◌∙◌, subst, arith}
use Rattle.std.proofs.lemmas.Bool.{ltb-true, ltb-false}
use Rattle.tcp_refinement.specs.Tie.{Keeps}
use Rattle.tcp_block.specs.declared.tcb.Tcb.{Tcb}
use Rattle.tcp_block.specs.TcbRules.{one_if}
use Rattle.tcp_refinement.specs.Pair.Safe.{read, written}
use Rattle.tcp_refinement.specs.Pair.Sides.{other}
use Rattle.tcp_refinement.specs.Pair.Values.{PairValue, past_at}
use Rattle.tcp_refinement.specs.declared.pair.event.PairRefused.{PairRefused}
use Rattle.tcp_refinement.specs.declared.pair.event.PairRefused.TheVariants.{Memory}
use Rattle.tcp_refinement.specs.declared.pair.event.Side.{Side}
use Rattle.tcp_refinement.specs.declared.pair.event.Side.TheVariants.{A, B}
use Rattle.tcp_liveness.specs.Arrivals.{is_synchronized}
use Rattle.tcp_liveness.specs.BothWays.{AreThere, IsThrough, MayRounds, MayTurn, bound, both_read, round_in, rounds_in, total_in, turn_in, waits_in}
use Rattle.tcp_liveness.specs.Pair.{HasStream, left_in, socket_of}
use Rattle.tcp_liveness.specs.Reached.{IsReached}
use Rattle.tcp_liveness.specs.Sent.{taken_in}
use Rattle.tcp_liveness.specs.Settle.{read_in}
use Rattle.tcp_liveness.specs.Talking.{MayTalk}
use Rattle.tcp_liveness.proofs.EndsTold.{end_told}
use Rattle.tcp_liveness.proofs.Kept.{reached_keeps}
use Rattle.tcp_liveness.proofs.Pair.{had_in, in_step, late_in}
use Rattle.tcp_liveness.proofs.Patient.{talk_on}
use Rattle.tcp_liveness.proofs.Positions.{lies_within}
use Rattle.tcp_liveness.proofs.Settles.{read_peer_side}
use Rattle.tcp_liveness.proofs.Talks.{talks, there}
use Rattle.tcp_liveness.proofs.Turns.{Ended, IsDone, all_read_in, done_round, ends, through}
use Rattle.tcp_liveness.proofs.Ways.{Balance, BothCalm, IsLate, balance, both_next, of_side, read_calm}
use Rattle.tcp_pair.specs.Settling.{CanSettle, ProceedsTo, IsEndTold, IsSoon, is_waiting, most_rounds}
use Rattle.tcp_pair.proofs.Clocks.{read_soon, rounds_soon}
use Rattle.tcp_pair.proofs.Led.{led}

never : {X : Type 0} → true ≡ false → X
never e = absurd (cc)

-- ROUNDS

more : (n : ℕ) (p : PairValue) → rounds_in (suc n) p ≡ round_in (rounds_in n p)
more zero p = refl
more (suc n) p = more n (round_in p)

-- one round more
pub one_round : (n : ℕ) (p q new : PairValue) → q ≡ rounds_in n p → new ≡ round_in q → new ≡ rounds_in (n + 1) p
one_round n p q new at on = on ∙ (ap round_in at ∙ (sym (more n p) ∙ ap (λ (k : ℕ). rounds_in k p) (one n))) where
  one : (n : ℕ) → suc n ≡ n + 1
  one n = omega arith

-- in it, too, a side waited before
pub one_waited : (n : ℕ) (p q : PairValue) → q ≡ rounds_in n p → is_waiting q ≡ true → ((m : ℕ) → m < n → is_waiting (rounds_in m p) ≡ true) → (m : ℕ) →
    m < n + 1 → is_waiting (rounds_in m p) ≡ true
one_waited n p q at waits waited m less = by (nat_lt m n) refl where
  by : (t : Bool) → nat_lt m n ≡ t → is_waiting (rounds_in m p) ≡ true
  by true e = waited m (ltb-true m n e)
  by false e = ap (λ (k : ℕ). is_waiting (rounds_in k p)) (last m n less (ltb-false m n e)) ∙ (sym (ap is_waiting at) ∙ waits) where
    last : (m n : ℕ) → m < n + 1 → n ≤ m → m ≡ n
    last m n a b = omega arith

parts : (a b k : ℕ) (p : PairValue) → k ≡ a + b → rounds_in k p ≡ rounds_in b (rounds_in a p)
parts zero b k p e = ap (λ (n : ℕ). rounds_in n p) (all k b e) where
  all : (k b : ℕ) → k ≡ 0 + b → k ≡ b
  all k b e = omega arith
parts (suc a) b zero p e = absurd (omega arith)
parts (suc a) b (suc k) p e = parts a b k (round_in p) (less k a b e) where
  less : (k a b : ℕ) → suc k ≡ suc a + b → k ≡ a + b
  less k a b e = omega arith

neither : (a b : Bool) → (a || b) ≡ false → (a ≡ false) × (b ≡ false)
neither true b e = never e
neither false b e = (refl, e)

done : (p : PairValue) → is_waiting p ≡ false → IsDone p
done p e = neither (waits_in p A) (waits_in p B) e

calm : (p : PairValue) → IsDone p → is_waiting p ≡ false
calm p d = ap (λ (t : Bool). t || waits_in p B) d.0 ∙ d.1

still : (n : ℕ) (p : PairValue) → IsDone p → rounds_in n p ≡ p
still zero p d = refl
still (suc n) p d = ap (λ (x : PairValue). rounds_in n x) (done_round p d) ∙ still n p d

-- each side may have its turn in each of them
may_at : (k n : ℕ) (p : PairValue) → k < n → MayRounds n p → MayTurn (rounds_in k p) A × MayTurn (turn_in (rounds_in k p) A) B
may_at k zero p less m = absurd (omega arith)
may_at zero (suc n) p less m = (m.0, m.1)
may_at (suc k) (suc n) p less m = may_at k n (round_in p) (fewer k n less) m.2 where
  fewer : (k n : ℕ) → suc k < suc n → k < n
  fewer k n e = omega arith

may_few : (k n : ℕ) (p : PairValue) → k ≤ n → MayRounds n p → MayRounds k p
may_few zero n p less m = tt
may_few (suc k) zero p less m = absurd (omega arith)
may_few (suc k) (suc n) p less m = (m.0, m.1, may_few k n (round_in p) (fewer k n less) m.2) where
  fewer : (k n : ℕ) → suc k ≤ suc n → k ≤ n
  fewer k n e = omega arith

-- READING AT THE END

reads : (p : PairValue) → BothCalm p (both_read p)
reads p = both_next p (read_in p A) (both_read p) (read_calm p A) (read_calm (read_in p A) B)

same_tcb : (p : PairValue) (side : Side) → (socket_of (both_read p) side).tcb ≡ (socket_of p side).tcb
same_tcb p A = read_peer_side (read_in p A) B
same_tcb p B = read_peer_side p A

through_still : (p q : PairValue) (side : Side) → BothCalm p q → IsThrough p side → IsThrough q side
through_still p q side c (inl none) = inl (least (left_in q side) (left_in p side) (of_side p q side c).left none) where
  least : (a b : ℕ) → a ≤ b → b ≡ 0 → a ≡ 0
  least a b e f = omega arith
through_still p q side c (inr over) =
    inr (
      (of_side p q (other side) c).closed over.0,
      by (total_in q side) (total_in p side) (taken_in q (other side)) (taken_in p (other side)) total (of_side p q (other side) c).taken over.1,
    )
  where
    total : total_in q side ≡ total_in p side
    total =
        let it = of_side p q side c in
        ap (λ (xs : List ℕ). length xs + one_if (past_at q side).closed) it.written
        ∙ ap (λ (t : Bool). length (written p side) + one_if t) it.ended

    by : (all total came taken : ℕ) → all ≡ total → taken ≤ came → total ≤ taken → all ≤ came
    by all total came taken a b c = omega arith

-- WHAT SETTLES

module _ (p : PairValue) (c : CanSettle p) where
  abbrev last : PairValue
  last = rounds_in (bound p) p

  talk : MayTalk (bound p) p
  talk = talk_on (bound p) p c.reached c.talking c.tries

  may : MayRounds (bound p) p
  may = talks (bound p) p c.reached c.talking talk

  are_there : AreThere p
  are_there = there (bound p) p c.talking

  late : IsLate p
  late = (late_in p.sides.a.socket.tcb.state are_there.0, late_in p.sides.b.socket.tcb.state are_there.1)

  it : Ended p last
  it = ends p c.reached are_there may

  -- no more than what waits for it
  pub few : (n : ℕ) → ((m : ℕ) → m < n → is_waiting (rounds_in m p) ≡ true) → n ≤ bound p
  few n waited = by (nat_lt (bound p) n) refl where
    by : (t : Bool) → nat_lt (bound p) n ≡ t → n ≤ bound p
    by true e = never (sym (waited (bound p) (ltb-true (bound p) n e)) ∙ calm last it.done)
    by false e = ltb-false (bound p) n e

  -- a round in which a side waits is refused for lack of memory alone
  pub may_go : (n : ℕ) → ((m : ℕ) → m < n + 1 → is_waiting (rounds_in m p) ≡ true) → MayTurn (rounds_in n p) A × MayTurn (turn_in (rounds_in n p) A) B
  may_go n waited = may_at n (bound p) p (less n (bound p) (few (n + 1) waited)) may where
    less : (n all : ℕ) → n + 1 ≤ all → n < all
    less n all e = omega arith

  -- HOW MANY ROUNDS

  small : (side : Side) → is_synchronized (socket_of p side).tcb.state ≡ true → is_synchronized (socket_of p (other side)).tcb.state ≡ true
      → HasStream (past_at p side) → left_in p side < 2 ^ 30
  small side mine theirs stream =
      (lies_within (socket_of p side) (socket_of p (other side)) (past_at p side) (past_at p (other side)) k mine theirs
      (in_step (socket_of p side) (socket_of p (other side)) (past_at p side) (past_at p (other side)) k mine stream)).few
    where
      k : Keeps (socket_of p side) (past_at p side) (socket_of p (other side)) (past_at p (other side))
      k = reached_keeps p side c.reached

  within : bound p ≤ most_rounds p
  within =
      by (left_in p A) (left_in p B) (total_in p A) (total_in p B) (taken_in p A) (taken_in p B) (had_in p A) (had_in p B) a.sum a.within b.sum b.within
      (small A are_there.0 are_there.1 c.talking.a.stream) (small B are_there.1 are_there.0 c.talking.b.stream)
    where
      a : Balance p A
      a = balance p A c.reached c.talking.a.stream are_there.0 are_there.1

      b : Balance p B
      b = balance p B c.reached c.talking.b.stream are_there.1 are_there.0

      by :
          (la lb ta tb ka kb ha hb : ℕ) → la + kb ≡ ha + ta → ha ≤ la → lb + ka ≡ hb + tb → hb ≤ lb → la < 2 ^ 30 → lb < 2 ^ 30
          → la + (ta - kb) + (lb + (tb - ka)) ≤ min ((la + lb) * 2) (2 ^ 64 - 1)
      by la lb ta tb ka kb ha hb a b c d e f = omega arith

  -- by then nothing changes any more
  pub at_end : (n : ℕ) → ((m : ℕ) → m < n → is_waiting (rounds_in m p) ≡ true) → (is_waiting (rounds_in n p) ≡ false) ⊎ (n ≡ most_rounds p) →
      rounds_in n p ≡ last
  at_end n waited (inl none) =
      sym
      (parts n (bound p - n) (bound p) p (rest n (bound p) (few n waited))
      ∙ still (bound p - n) (rounds_in n p) (done (rounds_in n p) none))
    where
      rest : (n all : ℕ) → n ≤ all → all ≡ n + (all - n)
      rest n all e = omega arith
  at_end n waited (inr most) = ap (λ (k : ℕ). rounds_in k p) (between n (bound p) (most_rounds p) (few n waited) within most) where
    between : (n all most : ℕ) → n ≤ all → all ≤ most → n ≡ most → n ≡ all
    between n all most a b c = omega arith

  -- WHAT HAS GOT THROUGH

  pub is_soon : (n : ℕ) → n ≤ bound p → (side : Side) → IsSoon n p (both_read (rounds_in n p)) side
  is_soon n less side = read_soon n p (rounds_in n p) side (rounds_soon n p c.reached late (may_few n (bound p) p less may) side)

  pub is_through : (side : Side) → IsThrough (both_read last) side
  is_through side = through_still last (both_read last) side (reads last) (through p c.reached are_there may side)

  pub is_read : (side : Side) → read (both_read last) (other side) ≡ written p side
  is_read side = all_read_in p c.reached are_there may side

  pub is_told : (side : Side) → IsEndTold p (both_read last) side
  is_told side closed =
      ap (λ (b : Tcb). b.receiver.took_fin) (same_tcb last (other side)) ∙ end_told p c.reached c.talking talk side closed

-- THE CALLS

-- a round is refused for lack of memory alone
pub for_memory :
    (p q : PairValue) (n : ℕ) (refused : PairRefused) → ProceedsTo p q → q ≡ rounds_in n p → is_waiting q ≡ true
    → ((m : ℕ) → m < n → is_waiting (rounds_in m p) ≡ true) → (IsReached q → MayTurn q A → MayTurn (turn_in q A) B → refused ≡ Memory) → CanSettle p → refused ≡ Memory
for_memory p q n refused leads at waits waited memory c =
    let may = may_go p c n (one_waited n p q at waits waited) in
    memory (led p q leads c.reached) (subst (λ (x : PairValue). MayTurn x A) (sym at) may.0)
    (subst (λ (x : PairValue). MayTurn (turn_in x A) B) (sym at) may.1)

-- after so many rounds, and once both have read
module _ (p q new : PairValue) (n : ℕ) (at : q ≡ rounds_in n p) (read_it : new ≡ both_read q)
    (waited : (m : ℕ) → m < n → is_waiting (rounds_in m p) ≡ true) (stops : (is_waiting (rounds_in n p) ≡ false) ⊎ (n ≡ most_rounds p)) where
  pub rounds_of : new ≡ both_read (rounds_in n p)
  rounds_of = read_it ∙ ap both_read at

  at_last : CanSettle p → new ≡ both_read (rounds_in (bound p) p)
  at_last c = rounds_of ∙ ap both_read (at_end p c n waited stops)

  pub bound_of : CanSettle p → n ≤ bound p
  bound_of c = few p c n waited

  pub soon_of : CanSettle p → (side : Side) → IsSoon n p new side
  soon_of c side = subst (λ (x : PairValue). IsSoon n p x side) (sym rounds_of) (is_soon p c n (few p c n waited) side)

  pub through_of : CanSettle p → (side : Side) → IsThrough new side
  through_of c side = subst (λ (x : PairValue). IsThrough x side) (sym (at_last c)) (is_through p c side)

  pub read_of : CanSettle p → (side : Side) → read new (other side) ≡ written p side
  read_of c side = ap (λ (x : PairValue). read x (other side)) (at_last c) ∙ is_read p c side

  pub ends_of : CanSettle p → (side : Side) → IsEndTold p new side
  ends_of c side = subst (λ (x : PairValue). IsEndTold p x side) (sym (at_last c)) (is_told p c side)
