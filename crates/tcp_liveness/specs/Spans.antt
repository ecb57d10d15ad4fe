-- Spans of a course, one after the other.
use Rattle.std.specs.Prelude.{◌≡◌, ◌⊎◌, ℕ, ◌+◌, ◌*◌, ◌<◌, List, [], ◌∷◌}
use Rattle.tcp_refinement.specs.Pair.Values.{PairValue}
use Rattle.tcp_refinement.specs.declared.pair.event.PairEvent.{PairEvent}
use Rattle.tcp_refinement.specs.declared.pair.event.Side.{Side}
use Rattle.tcp_refinement.specs.declared.pair.event.Side.TheVariants.{A, B}
use Rattle.tcp_liveness.specs.BothWays.{total_in}
use Rattle.tcp_liveness.specs.Onward.{acked_in}
use Rattle.tcp_liveness.specs.Pair.{left_in, socket_of}
use Rattle.tcp_liveness.specs.Restart.{worth_sending}
use Rattle.tcp_liveness.specs.Rounds.{takes}
use Rattle.tcp_liveness.specs.Sent.{taken_in}

-- how many positions of both streams are acknowledged, and how many are taken
abbrev pub reached_in : PairValue → ℕ
reached_in p = acked_in p A + taken_in p A + (acked_in p B + taken_in p B)

-- each position of both streams, acknowledged and taken
abbrev pub most_reached : PairValue → ℕ
most_reached p = 2 * (total_in p A + total_in p B)

-- a side has nothing in flight, and the window that it knows, or that of congestion control, takes neither a full segment nor all that is queued
abbrev pub IsHeldIn : PairValue → Side → Type 0
IsHeldIn p side =
    ((socket_of p side).tcb.sender.flight_size ≡ 0)
    × (((socket_of p side).tcb.peer.window < worth_sending (socket_of p side))
    ⊎ ((socket_of p side).tcb.reno.cwnd < worth_sending (socket_of p side)))

-- so it is now, or after one of these events
abbrev pub IsHeldAmong : PairValue → Side → List PairEvent → Type 0
IsHeldAmong p side [] = IsHeldIn p side
IsHeldAmong p side (event ∷ events) = IsHeldIn p side ⊎ IsHeldAmong (takes p event) side events

-- all that a side's user wrote is acknowledged, with the FIN, now or after one of these events
abbrev pub IsThroughAmong : PairValue → Side → List PairEvent → Type 0
IsThroughAmong p side [] = left_in p side ≡ 0
IsThroughAmong p side (event ∷ events) = (left_in p side ≡ 0) ⊎ IsThroughAmong (takes p event) side events
