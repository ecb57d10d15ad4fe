-- The clocks of timestamps (RFC 7323, 4.1 and 5): what none of a side's segments being older than one that came asks of its clock.
use Rattle.std.specs.Prelude.{◌≡◌, ◌⊎◌, ℕ, ◌*◌, ◌<◌, ◌&&◌, ℤ, pos, ◌+ℤ◌, ◌≤ℤ◌, Bool, false, List, [], ◌∷◌, Option, Some, is_some}
use Rattle.ip_wire.specs.TcpTimestampGenerator.{TcpTimestampGenerator}
use Rattle.ip_wire.specs.TcpTimestampRepr.{TcpTimestampRepr}
use Rattle.ip_wire.specs.Timestamp.{value_at}
use Rattle.tcp_theory.specs.Side.{Opening}
use Rattle.tcp_theory.specs.Side.Opening.{NotYet}
use Rattle.tcp_invariants.specs.Moments.{tsval_end_from}
use Rattle.tcp_block.specs.declared.tcb.Tcb.{Tcb}
use Rattle.tcp_refinement.specs.Pair.History.{Entry, pasts, side_of}
use Rattle.tcp_refinement.specs.Pair.Sides.{at, other}
use Rattle.tcp_block.specs.Timestamps.{arrives_older, generator_of}
use Rattle.tcp_refinement.specs.Pair.Values.{PairValue}
use Rattle.tcp_refinement.specs.declared.pair.event.PairEvent.{PairEvent}
use Rattle.tcp_refinement.specs.declared.pair.event.PairEvent.TheVariants.{Deliver, Offer, TcpSetting}
use Rattle.tcp_refinement.specs.declared.pair.event.Side.{Side}
use Rattle.tcp_refinement.specs.declared.pair.event.TcpSetting.TheVariants as Set

-- WHAT IS TOO OLD

-- a timestamp is older than TS.Recent, where the remote has timestamps (5.3)
abbrev pub arrives_stale : Tcb → Option TcpTimestampRepr → Bool
arrives_stale b tsval = b.peer.timestamps && arrives_older tsval b.peer.recent

-- with this event a segment of a side comes that it sent after the one of this number
abbrev pub Overtakes : Side → ℕ → PairEvent → Type 0
Overtakes side k (Deliver from j) = (from ≡ side) × (k < j)
Overtakes side k other = ⊥

-- so it is with one of these events
abbrev pub IsOvertakenAmong : Side → ℕ → List PairEvent → Type 0
IsOvertakenAmong side k [] = ⊥
IsOvertakenAmong side k (event ∷ events) = Overtakes side k event ⊎ IsOvertakenAmong side k events

-- THE CLOCK OF A SIDE

-- What the clock showed at an instant between these two. A clock counts the milliseconds of its host's time, so it never goes back (4.1).
pub record WasShown (clock : Option TcpTimestampGenerator) (since now : ℤ) (tsval : ℕ) : Type 0 where
  pub generator : TcpTimestampGenerator
  pub of : clock ≡ Some generator
  pub instant : ℤ
  pub shows : tsval ≡ value_at generator instant
  pub after : since ≤ℤ instant
  pub before : instant ≤ℤ now

-- an event asks a side at this instant or later, and sets its clock only before it is opened
abbrev pub KeepsTime : ℤ → PairEvent → Opening → Type 0
KeepsTime since (Offer side instant sent) opening = since ≤ℤ instant
KeepsTime since (TcpSetting side (Set.TsvalGenerator generator)) opening = opening ≡ NotYet
KeepsTime since event opening = Unit {0}

-- each event of a side did
abbrev pub IsTimed : ℤ → Side → List Entry → Type 0
IsTimed since side [] = Unit {0}
IsTimed since side (e ∷ history) = (side_of e.event ≡ side → KeepsTime since e.event (at (pasts history) side).opening) × IsTimed since side history

-- the SYN that a socket took had timestamps, and so has its answer
abbrev pub has_stamps : Tcb → Bool
has_stamps b = b.peer.timestamps && is_some (generator_of b)

-- 24 DAYS

-- A clock of milliseconds comes halfway round in 24 days and more (5.5). So long lies no later instant of these after any at which the side
-- was asked.
pub record HasDays (p : PairValue) (side : Side) (last : ℤ) : Type 0 where
  pub since : ℤ
  pub begun : pos 0 ≤ℤ since
  pub asked : since ≤ℤ (at p.sides side).instant
  pub timed : IsTimed since side p.history
  pub within : last ≤ℤ tsval_end_from since

-- timestamps weren't agreed on, or 24 days aren't over once the clock of the side has run so many rounds of two minutes
abbrev pub HasStamps : ℕ → PairValue → Side → Type 0
HasStamps n p side =
    ((at p.sides side).socket.tcb.peer.timestamps ≡ false) ⊎ HasDays p side ((at p.sides side).instant +ℤ pos (n * 120_000_000))

-- an acknowledgement of a side opens the other's connection at an instant: the other answered without timestamps, or 24 days aren't over
abbrev pub IsTimely : PairValue → Side → ℤ → Type 0
IsTimely p side instant = (has_stamps (at p.sides (other side)).socket.tcb ≡ false) ⊎ HasDays p side instant
