-- Both ways of a connection: rounds in which each side has its turn, and both users read.
use Rattle.std.specs.Prelude.{◌≡◌, ◌⊎◌, ℕ, zero, suc, ◌+◌, ◌-◌, ◌≤◌, ◌==◌, not, ◌&&◌, ℤ, Bool, true, false, if◌then◌else◌, length, None}
use Rattle.tcp_invariants.specs.OpenOffer.{OpenOffer}
use Rattle.tcp_invariants.specs.States.{is_closed}
use Rattle.tcp_block.specs.TcbRules.{one_if}
use Rattle.tcp_block.specs.Probing.{probe_deadline}
use Rattle.tcp_refinement.specs.Pair.Sides.{at, other}
use Rattle.tcp_refinement.specs.Pair.Steps.{refusal}
use Rattle.tcp_block.specs.Value.{queued_in}
use Rattle.tcp_refinement.specs.Pair.Values.{PairValue, past_at}
use Rattle.tcp_refinement.specs.declared.pair.event.PairEvent.TheVariants.{Offer}
use Rattle.tcp_refinement.specs.declared.pair.event.Side.{Side}
use Rattle.tcp_refinement.specs.declared.pair.event.Side.TheVariants.{A, B}
use Rattle.tcp_liveness.specs.Arrivals.{is_synchronized}
use Rattle.tcp_liveness.specs.Pair.{HasStream, MayReachIn, exchanged_in, left_in, socket_of}
use Rattle.tcp_liveness.specs.Rounds.{takes}
use Rattle.tcp_liveness.specs.Sent.{taken_in}
use Rattle.tcp_liveness.specs.Settle.{read_in, restart_by, restart_in}

abbrev pub is_over : PairValue → Side → Bool
is_over p side = is_closed (socket_of p side).tcb.state

-- something of a side isn't acknowledged, and both connections are there: where the other's is over nobody answers
abbrev pub waits_in : PairValue → Side → Bool
waits_in p side = not (left_in p side == 0) && (not (is_over p side) && not (is_over p (other side)))

-- The other's user reads, and the side is asked when its timer runs out, or now where none runs. The link takes nothing then: the side only
-- sets what it waits for.
abbrev pub roused_in : PairValue → Side → PairValue
roused_in p side = takes (read_in p side) (Offer side (restart_in p side) false)

-- when that comes: the instant of a probe, where a window holds back what is queued, or now
abbrev pub wake_in : PairValue → Side → ℤ
wake_in p side = restart_by (at p.sides side).instant (probe_deadline (socket_of p side).tcb (queued_in (socket_of p side)))

-- then it has an exchange
abbrev pub woken_in : PairValue → Side → PairValue
woken_in p side = exchanged_in (roused_in p side) side (wake_in (roused_in p side) side)

-- a side's turn, if it waits
abbrev pub turn_in : PairValue → Side → PairValue
turn_in p side = if waits_in p side then woken_in p side else p

abbrev pub round_in : PairValue → PairValue
round_in p = turn_in (turn_in p A) B

abbrev pub rounds_in : ℕ → PairValue → PairValue
rounds_in zero p = p
rounds_in (suc n) p = rounds_in n (round_in p)

-- Both instants may come, and what the side offers then is for an exchange. That the answer can be heard isn't asked: where it can't, the other
-- owes something, too, and this comes in its turn.
pub record MayAsk (p : PairValue) (side : Side) : Type 0 where
  pub stream : HasStream (past_at (roused_in p side) side)
  pub rouses : refusal (read_in p side) (Offer side (restart_in p side) false) ≡ None
  pub wakes : refusal (roused_in p side) (Offer side (wake_in (roused_in p side) side) true) ≡ None
  pub o : OpenOffer
  pub reaches : MayReachIn (roused_in p side) side (wake_in (roused_in p side) side) o

-- a side that waits may have its exchange
abbrev pub MayTurn : PairValue → Side → Type 0
MayTurn p side = waits_in p side ≡ true → MayAsk p side

-- each may in its turn, in each of so many rounds
abbrev pub MayRounds : ℕ → PairValue → Type 0
MayRounds zero p = Unit {0}
MayRounds (suc n) p = MayTurn p A × MayTurn (turn_in p A) B × MayRounds n (round_in p)

-- how many positions a side's user wrote, with the FIN
abbrev pub total_in : PairValue → Side → ℕ
total_in p side = length (past_at p side).written + one_if (past_at p side).closed

-- what is to be done for a side: what isn't acknowledged, and what the other didn't take
abbrev pub to_do_for : PairValue → Side → ℕ
to_do_for p side = left_in p side + (total_in p side - taken_in p (other side))

-- so many rounds are enough
abbrev pub bound : PairValue → ℕ
bound p = to_do_for p A + to_do_for p B

-- both users read what waits
abbrev pub both_read : PairValue → PairValue
both_read p = read_in (read_in p A) B

-- all that a side's user wrote is acknowledged, or the other has it all and its connection is over, so that nobody says so any more
abbrev pub IsThrough : PairValue → Side → Type 0
IsThrough p side = (left_in p side ≡ 0) ⊎ ((is_over p (other side) ≡ true) × (total_in p side ≤ taken_in p (other side)))

-- both connections are there
abbrev pub AreThere : PairValue → Type 0
AreThere p = (is_synchronized (socket_of p A).tcb.state ≡ true) × (is_synchronized (socket_of p B).tcb.state ≡ true)
