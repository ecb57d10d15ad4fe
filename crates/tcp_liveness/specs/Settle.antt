-- One way of a connection: rounds in which the peer's user reads, and the side has an exchange at the instant that its timer names.
use Rattle.std.specs.Prelude.{◌≡◌, ℕ, zero, suc, ◌^◌, ◌≤◌, ◌==◌, ℤ, true, if◌then◌else◌, Option, Some, None}
use Rattle.tcp_refinement.specs.Pair.Sides.{at, other}
use Rattle.tcp_refinement.specs.Pair.Steps.{refusal}
use Rattle.tcp_refinement.specs.Pair.Values.{PairValue, past_at}
use Rattle.tcp_refinement.specs.declared.pair.event.PairEvent.TheVariants.{Offer, Recv}
use Rattle.tcp_refinement.specs.declared.pair.event.Side.{Side}
use Rattle.tcp_liveness.specs.Exchange.{CanHear}
use Rattle.tcp_liveness.specs.Pair.{HasStream, exchanged_in, left_in, socket_of}
use Rattle.tcp_liveness.specs.Restart.{MayProceed}
use Rattle.tcp_liveness.specs.Rounds.{later_of, takes}

-- when a side starts over: now, or when its timer runs out
abbrev pub restart_by : ℤ → Option ℤ → ℤ
restart_by now None = now
restart_by now (Some instant) = later_of now instant

abbrev pub restart_in : PairValue → Side → ℤ
restart_in p side = restart_by (at p.sides side).instant (socket_of p side).tcb.timers.retransmit_at

-- the peer's user reads all that waits
abbrev pub read_in : PairValue → Side → PairValue
read_in p side = takes p (Recv (other side) (2 ^ 30))

-- and the side has an exchange at its instant
abbrev pub resumed_in : PairValue → Side → PairValue
resumed_in p side = exchanged_in (read_in p side) side (restart_in p side)

-- so many rounds, as long as something isn't acknowledged
abbrev pub settled_in : ℕ → PairValue → Side → PairValue
settled_in zero p side = p
settled_in (suc n) p side = if left_in p side == 0 then p else settled_in n (resumed_in p side) side

-- In a round the side may send at its instant, which is one that may come, and its peer is as an exchange asks for.
pub record MayRound (p : PairValue) (side : Side) : Type 0 where
  pub stream : HasStream (past_at (read_in p side) side)
  pub proceeds : MayProceed (read_in p side) side (restart_in p side)
  pub comes : refusal (read_in p side) (Offer side (restart_in p side) true) ≡ None
  -- the answer lies inside the window, if one is needed
  pub space : CanHear (socket_of (read_in p side) side) (socket_of (read_in p side) (other side))

-- it may in each of so many rounds, as long as something isn't acknowledged
abbrev pub MaySettle : ℕ → PairValue → Side → Type 0
MaySettle zero p side = Unit {0}
MaySettle (suc n) p side = (1 ≤ left_in p side → MayRound p side) × (1 ≤ left_in p side → MaySettle n (resumed_in p side) side)
