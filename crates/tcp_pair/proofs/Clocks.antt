-- A round takes at most two minutes of a side's clock.
use Rattle.std.proofs.Common.{◌≡◌, inr, ℕ, zero, suc, ◌+◌, ◌*◌, ℤ, pos, ◌+ℤ◌, ◌≤ℤ◌, refl, sym, ◌∙◌, subst, arith}
use Rattle.std.proofs.lemmas.Bool.{cond_both}
use Rattle.std.proofs.lemmas.Int.{ints}
use Rattle.tcp_refinement.specs.Pair.Sides.{other}
use Rattle.tcp_refinement.specs.Pair.Values.{PairValue}
use Rattle.tcp_refinement.specs.declared.pair.event.Side.{Side}
use Rattle.tcp_refinement.specs.declared.pair.event.Side.TheVariants.{A, B}
use Rattle.tcp_liveness.specs.BothWays.{MayAsk, MayRounds, MayTurn, both_read, roused_in, round_in, rounds_in, turn_in, waits_in, wake_in, woken_in}
use Rattle.tcp_liveness.specs.Reached.{IsReached}
use Rattle.tcp_liveness.specs.Settle.{read_in, restart_in}
use Rattle.tcp_liveness.proofs.Moments.{clock}
use Rattle.tcp_liveness.proofs.PairTimers.{restart_soon, wake_soon}
use Rattle.tcp_liveness.proofs.Roused.{roused_reached}
use Rattle.tcp_liveness.proofs.TurnClocks.{both_minutes, other_clock, own_clock, read_clock, roused_clock}
use Rattle.tcp_liveness.proofs.Turns.{Turned, turned}
use Rattle.tcp_liveness.proofs.Ways.{IsLate, late_after}
use Rattle.tcp_pair.specs.Settling.{IsSoon}

soon : (now : ℤ) → now ≤ℤ (now +ℤ pos 120_000_000)
soon now = first_of (omega (arith, ints), grind (arith, ints))

at_once : (now : ℤ) → now ≤ℤ (now +ℤ pos 0)
at_once now = first_of (omega (arith, ints), grind (arith, ints))

one_more : (now mid last : ℤ) (rest : ℕ) → mid ≤ℤ (now +ℤ pos 120_000_000) → last ≤ℤ (mid +ℤ pos rest) → last ≤ℤ (now +ℤ pos (120_000_000 + rest))
one_more now mid last rest a b = first_of (omega (arith, ints), grind (arith, ints))

-- A TURN

-- the side that was asked
own_turn : (p : PairValue) (side : Side) → IsReached p → MayTurn p side → clock (turn_in p side) side ≤ℤ (clock p side +ℤ pos 120_000_000)
own_turn p side r may =
    cond_both (waits_in p side) (woken_in p side) p (λ (q : PairValue). clock q side ≤ℤ (clock p side +ℤ pos 120_000_000))
    (λ e. subst (λ (t : ℤ). t ≤ℤ (clock p side +ℤ pos 120_000_000)) (sym (own_clock p side)) (by (may e))) (λ _. soon (clock p side))
  where
    by : MayAsk p side → wake_in (roused_in p side) side ≤ℤ (clock p side +ℤ pos 120_000_000)
    by m =
        both_minutes (clock p side) (restart_in p side) (wake_in (roused_in p side) side) (restart_soon p side r)
        (subst (λ (now : ℤ). wake_in (roused_in p side) side ≤ℤ (now +ℤ pos 60_000_000)) (roused_clock p side)
        (wake_soon (roused_in p side) side (roused_reached p side r m.rouses)))

-- the other's clock stands still
other_turn : (p : PairValue) (side : Side) → clock (turn_in p side) (other side) ≡ clock p (other side)
other_turn p side =
    cond_both (waits_in p side) (woken_in p side) p (λ (q : PairValue). clock q (other side) ≡ clock p (other side)) (λ _. other_clock p side) (λ _. refl)

-- ROUNDS

module _ (p : PairValue) (r : IsReached p) (late : IsLate p) (first : MayTurn p A) (second : MayTurn (turn_in p A) B) where
  a : Turned (Unit {0}) p (turn_in p A) A
  a = turned (Unit {0}) p A r late first (λ _. inr tt)

  late_a : IsLate (turn_in p A)
  late_a = late_after p (turn_in p A) a.calm late

  b : Turned (Unit {0}) (turn_in p A) (round_in p) B
  b = turned (Unit {0}) (turn_in p A) B a.reached late_a second (λ _. inr tt)

  leads : IsReached (round_in p)
  leads = b.reached

  late_b : IsLate (round_in p)
  late_b = late_after (turn_in p A) (round_in p) b.calm late_a

  round_soon : (side : Side) → clock (round_in p) side ≤ℤ (clock p side +ℤ pos 120_000_000)
  round_soon A = subst (λ (t : ℤ). t ≤ℤ (clock p A +ℤ pos 120_000_000)) (sym (other_turn (turn_in p A) B)) (own_turn p A r first)
  round_soon B =
      subst (λ (t : ℤ). clock (round_in p) B ≤ℤ (t +ℤ pos 120_000_000)) (other_turn p A) (own_turn (turn_in p A) B a.reached second)

two_minutes : (n : ℕ) → 120_000_000 + n * 120_000_000 ≡ suc n * 120_000_000
two_minutes n = omega arith

pub rounds_soon : (n : ℕ) (p : PairValue) → IsReached p → IsLate p → MayRounds n p → (side : Side) → IsSoon n p (rounds_in n p) side
rounds_soon zero p r late m side = at_once (clock p side)
rounds_soon (suc n) p r late m side =
    subst (λ (k : ℕ). clock (rounds_in n (round_in p)) side ≤ℤ (clock p side +ℤ pos k)) (two_minutes n)
    (one_more (clock p side) (clock (round_in p) side) (clock (rounds_in n (round_in p)) side) (n * 120_000_000) (round_soon p r late m.0 m.1 side)
    (rounds_soon n (round_in p) (leads p r late m.0 m.1) (late_b p r late m.0 m.1) m.2 side))

-- reading takes no time
pub read_soon : (n : ℕ) (p q : PairValue) (side : Side) → IsSoon n p q side → IsSoon n p (both_read q) side
read_soon n p q side e =
    subst (λ (t : ℤ). t ≤ℤ (clock p side +ℤ pos (n * 120_000_000))) (sym (read_clock (read_in q A) B side ∙ read_clock q A side)) e
