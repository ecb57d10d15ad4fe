-- What a number that comes is decoded to.
use Rattle.std.specs.Prelude.{ℕ, suc, ◌+◌, ◌-◌, ◌<◌, ◌≤◌, ◌⊎◌, length, drop}
use Rattle.tcp_theory.specs.ReceiveMap.{Begins}
use Rattle.tcp_theory.specs.Numbers.{nearest}
use Rattle.tcp_theory.specs.Segment.{Segment}
use Rattle.tcp_theory.specs.Side.{Side, rcv_next}

-- t takes its sequence number for a position of the stream of s where just these bytes stand, or at which they lie below RCV.NXT
abbrev pub IsAtItsOffset : Side → Side → Segment → Type 0
IsAtItsOffset s t x =
    Begins x.bytes (drop (nearest (rcv_next t) x.seq - suc s.iss) s.written) ⊎ (nearest (rcv_next t) x.seq + length x.bytes ≤ rcv_next t)

-- s takes an acknowledgement for a position past its SYN that t has reached
abbrev pub IsAckedSoFar : Side → Side → ℕ → Type 0
IsAckedSoFar s t number = (s.iss < nearest s.una number) × (nearest s.una number ≤ rcv_next t)
