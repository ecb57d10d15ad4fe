-- Courses in which an acknowledgement may come at the right edge of a window, or past it, where it isn't taken (RFC 9293, 3.10.7.4).
use Rattle.std.specs.Prelude.{◌≡◌, ◌⊎◌, ℕ, ◌+◌, ◌<◌, ◌≤◌, max, ℤ, pos, ◌+ℤ◌, ◌≤ℤ◌, false, List, [], ◌∷◌, Some, slice_get}
use Rattle.ip_wire.specs.Seq.{distance_of}
use Rattle.ip_wire.specs.SeqNumber.{SeqNumber}
use Rattle.tcp_state.specs.Offsets.{distance_after}
use Rattle.tcp_refinement.specs.Pair.Sides.{at, other}
use Rattle.tcp_refinement.specs.Pair.Values.{PairValue, past_at}
use Rattle.tcp_refinement.specs.declared.pair.event.PairEvent.{PairEvent}
use Rattle.tcp_refinement.specs.declared.pair.event.SentSegment.{SentSegment}
use Rattle.tcp_refinement.specs.declared.pair.event.Side.{Side}
use Rattle.tcp_block.specs.Value.{free_in, room_of}
use Rattle.tcp_liveness.specs.Clocks.{arrives_stale}
use Rattle.tcp_liveness.specs.Course.{AreTaken, AsksWithin, ComesAs, IsClocked}
use Rattle.tcp_liveness.specs.Pair.{HasStream, next_sent, socket_of}
use Rattle.tcp_liveness.specs.Readers.{ReadsWithin, whole_span}
use Rattle.tcp_liveness.specs.Rounds.{takes}

-- AT THE EDGE

-- a number lies at the right edge of a side's window, or past it; where the window is closed, past RCV.NXT
abbrev pub LiesAtEdge : PairValue → Side → SeqNumber → Type 0
LiesAtEdge p side number = max 1 (free_in (socket_of p side)) ≤ distance_after (socket_of p side).tcb.receiver.next number

-- a side sent positions that the other hasn't taken: RCV.NXT of the other lies before their end
abbrev pub HasMoreSent : PairValue → Side → Type 0
HasMoreSent p side =
    distance_of (socket_of p side).tcb.sender.una (socket_of p (other side)).tcb.receiver.next < (socket_of p side).tcb.sender.snd_max

-- SEGMENTS COME

-- With this event the segment of a side of this number comes, or one that equals it, with no timestamp that is older than TS.Recent of the other. It
-- may lie outside.
abbrev pub ArrivesWith : PairValue → Side → ℕ → PairEvent → Type 0
ArrivesWith p side k event =
    ComesAs p side k event
    × ((x : SentSegment) → slice_get (at p.sides side).sent k ≡ Some x
    → arrives_stale (socket_of p (other side)).tcb x.segment.options.timestamp ≡ false)

-- it does before the clock passes an instant, unless the course ends before
abbrev pub ArrivesBy : ℤ → Side → ℕ → PairValue → List (ℤ × PairEvent) → Type 0
ArrivesBy last side k p [] = Unit {0}
ArrivesBy last side k p (x ∷ course) = (x.0 ≤ℤ last) × (ArrivesWith p side k x.1 ⊎ ArrivesBy last side k (takes p x.1) course)

-- Each segment that a side sends in the course comes no more than so many microseconds later. It may come at other times, too, as may what was
-- sent before.
abbrev pub ArrivesWithin : ℕ → PairValue → List (ℤ × PairEvent) → Type 0
ArrivesWithin delay p [] = Unit {0}
ArrivesWithin delay p (x ∷ course) =
    ((side : Side) (k : ℕ) → next_sent p side ≤ k → k < next_sent (takes p x.1) side → ArrivesBy (x.0 +ℤ pos delay) side k (takes p x.1) course)
    × ArrivesWithin delay (takes p x.1) course

-- A COURSE

-- the stream of a side is no empty one, as the pair is and after each of these events
abbrev pub KeepsStream : PairValue → Side → List (ℤ × PairEvent) → Type 0
KeepsStream p side [] = HasStream (past_at p side)
KeepsStream p side (x ∷ course) = HasStream (past_at p side) × KeepsStream (takes p x.1) side course

-- From this pair on, with the clock at `now`: each side is asked in time, and what it offers goes; each segment comes in time, be it inside the
-- window or not; and both users read in time. Each side has a receive buffer, and a stream that is no empty one.
pub record ArrivesInTime (read wait delay : ℕ) (now : ℤ) (p : PairValue) (course : List (ℤ × PairEvent)) : Type 0 where
  pub clocks : (side : Side) → (at p.sides side).instant ≤ℤ now
  pub clocked : IsClocked now course
  pub asks : AsksWithin wait now p course
  pub taken : AreTaken course
  pub comes : ArrivesWithin delay p course
  pub reads : (side : Side) → ReadsWithin read now p side course
  pub streams : (side : Side) → KeepsStream p side course
  pub rooms : (side : Side) → 1 ≤ room_of (socket_of p side).received

-- a span of the side, and where its answer isn't taken, one of the other
abbrev pub edge_span : ℕ → ℕ → ℕ → PairValue → Side → ℕ
edge_span read wait delay p side = whole_span read wait delay p side + whole_span read wait delay p (other side)
