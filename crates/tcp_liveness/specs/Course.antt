-- Two hosts and a link that take their time: events, each at an instant of one clock.
use Rattle.std.specs.Prelude.{◌≡◌, ◌⊎◌, ℕ, ◌+◌, ◌<◌, ◌≤◌, max, ℤ, pos, ◌+ℤ◌, ◌≤ℤ◌, true, false, List, [], ◌∷◌, length, Some, slice_get}
use Rattle.ip_wire.specs.Ip.{source_of, destination_of}
use Rattle.tcp_refinement.specs.Offers.{IsBefore}
use Rattle.tcp_invariants.specs.Moments.{is_due}
use Rattle.tcp_invariants.specs.Offsets.{distance_after}
use Rattle.tcp_block.specs.Due.{poll_of}
use Rattle.tcp_block.specs.Segments.{segment_len}
use Rattle.tcp_refinement.specs.Pair.Sides.{at, other}
use Rattle.tcp_block.specs.Value.{free_in, room_of}
use Rattle.tcp_refinement.specs.Pair.Values.{PairValue, past_at}
use Rattle.tcp_refinement.specs.declared.pair.event.PairEvent.{PairEvent}
use Rattle.tcp_refinement.specs.declared.pair.event.PairEvent.TheVariants.{Clock, Offer, Deliver}
use Rattle.tcp_refinement.specs.declared.pair.event.SentSegment.{SentSegment}
use Rattle.tcp_refinement.specs.declared.pair.event.Side.{Side}
use Rattle.tcp_liveness.specs.Anew.{put_off_in}
use Rattle.tcp_liveness.specs.Clocks.{Overtakes, arrives_stale}
use Rattle.tcp_liveness.specs.Pair.{HasStream, context_of, mtu_of, next_sent, socket_of}
use Rattle.tcp_liveness.specs.Restart.{first_cwnd, worth_sending}
use Rattle.tcp_liveness.specs.Rounds.{takes}

-- WHO IS ASKED, AND WHEN

-- the events without their instants
abbrev pub events_of : List (ℤ × PairEvent) → List PairEvent
events_of [] = []
events_of (x ∷ course) = x.1 ∷ events_of course

-- what the clock shows in the end
abbrev pub end_of : ℤ → List (ℤ × PairEvent) → ℤ
end_of now [] = now
end_of now (x ∷ course) = end_of x.0 course

-- a side is asked at the instant that the clock shows, and its host's clock shows no other
abbrev pub IsAt : ℤ → PairEvent → Type 0
IsAt now (Clock side instant) = instant ≡ now
IsAt now (Offer side instant sent) = instant ≡ now
IsAt now other = Unit {0}

-- the clock never goes back
abbrev pub IsClocked : ℤ → List (ℤ × PairEvent) → Type 0
IsClocked now [] = Unit {0}
IsClocked now (x ∷ course) = (now ≤ℤ x.0) × (IsAt x.0 x.1 × IsClocked x.0 course)

-- with this event a side is asked, and what it offers goes
abbrev pub Asks : Side → PairEvent → Type 0
Asks side (Offer of instant true) = of ≡ side
Asks side other = ⊥

-- a side wants to be asked at this instant, or wanted to be earlier
abbrev pub Wants : ℤ → PairValue → Side → Type 0
Wants instant p side = IsBefore instant (poll_of (mtu_of p side) (socket_of p side)) → ⊥

-- It is asked before the clock passes the second instant, unless it doesn't want to be at the first one any more, or the course ends before.
abbrev pub IsAskedBy : ℤ → ℤ → Side → PairValue → List (ℤ × PairEvent) → Type 0
IsAskedBy due last side p [] = Unit {0}
IsAskedBy due last side p (x ∷ course) =
    (x.0 ≤ℤ last) × (Asks side x.1 ⊎ ((Wants due (takes p x.1) side → ⊥) ⊎ IsAskedBy due last side (takes p x.1) course))

-- each side is asked no more than so many microseconds after the instant at which it wants to be
abbrev pub AsksWithin : ℕ → ℤ → PairValue → List (ℤ × PairEvent) → Type 0
AsksWithin wait now p [] = Unit {0}
AsksWithin wait now p (x ∷ course) =
    ((side : Side) (due : ℤ) → now ≤ℤ due → Wants due p side → IsAskedBy due (due +ℤ pos wait) side p (x ∷ course))
    × AsksWithin wait x.0 (takes p x.1) course

-- SEGMENTS COME

-- a segment of a side that takes no position begins before the right edge of the other's window, or at RCV.NXT
abbrev pub IsInside : PairValue → Side → SentSegment → Type 0
IsInside p side x =
    segment_len x.segment (length x.bytes) ≡ 0
    → distance_after (socket_of p (other side)).tcb.receiver.next x.segment.seq_number < max 1 (free_in (socket_of p (other side)))

-- A segment of a side that comes counts: it has no timestamp that is older than TS.Recent of the other; and where it takes no position, it lies
-- inside.
pub record IsHeard (p : PairValue) (side : Side) (x : SentSegment) : Type 0 where
  pub initial : arrives_stale (socket_of p (other side)).tcb x.segment.options.timestamp ≡ false
  pub inside : IsInside p side x

-- Segments with the same addresses, TCP header and bytes. What else an IP header holds, as the hop limit, may differ.
pub record AreEqual (x y : SentSegment) : Type 0 where
  pub source : source_of y.header ≡ source_of x.header
  pub destination : destination_of y.header ≡ destination_of x.header
  pub segment : y.segment ≡ x.segment
  pub bytes : y.bytes ≡ x.bytes

-- With this event the segment of a side of this number comes, or one that equals it, as a segment that is retransmitted may: nobody can tell which it is.
abbrev pub ComesAs : PairValue → Side → ℕ → PairEvent → Type 0
ComesAs p side k event =
    (j : ℕ) × (event ≡ Deliver side j)
    × ((x : SentSegment) → slice_get (at p.sides side).sent k ≡ Some x → (y : SentSegment) × (slice_get (at p.sides side).sent j ≡ Some y) × AreEqual x y)

-- with this event it comes, and is heard
abbrev pub IsHeardWith : PairValue → Side → ℕ → PairEvent → Type 0
IsHeardWith p side k event = ComesAs p side k event × ((x : SentSegment) → slice_get (at p.sides side).sent k ≡ Some x → IsHeard p side x)

-- it does before the clock passes an instant, unless the course ends before
abbrev pub IsHeardBy : ℤ → Side → ℕ → PairValue → List (ℤ × PairEvent) → Type 0
IsHeardBy last side k p [] = Unit {0}
IsHeardBy last side k p (x ∷ course) = (x.0 ≤ℤ last) × (IsHeardWith p side k x.1 ⊎ IsHeardBy last side k (takes p x.1) course)

-- Each segment that a side sends in the course comes no more than so many microseconds later, and is heard then. It may come at other times,
-- too, as may what was sent before.
abbrev pub DeliversWithin : ℕ → PairValue → List (ℤ × PairEvent) → Type 0
DeliversWithin delay p [] = Unit {0}
DeliversWithin delay p (x ∷ course) =
    ((side : Side) (k : ℕ) → next_sent p side ≤ k → k < next_sent (takes p x.1) side → IsHeardBy (x.0 +ℤ pos delay) side k (takes p x.1) course)
    × DeliversWithin delay (takes p x.1) course

-- A LINK THAT KEEPS ORDER

-- with this event the segment of a side of this number comes, and where it takes no position, it lies inside
abbrev pub ComesWith : PairValue → Side → ℕ → PairEvent → Type 0
ComesWith p side k event = (event ≡ Deliver side k) × ((x : SentSegment) → slice_get (at p.sides side).sent k ≡ Some x → IsInside p side x)

-- it does before the clock passes an instant, unless the course ends before; and before each that the side sent later
abbrev pub ComesFirst : ℤ → Side → ℕ → PairValue → List (ℤ × PairEvent) → Type 0
ComesFirst last side k p [] = Unit {0}
ComesFirst last side k p (x ∷ course) =
    (x.0 ≤ℤ last) × (ComesWith p side k x.1 ⊎ ((Overtakes side k x.1 → ⊥) × ComesFirst last side k (takes p x.1) course))

-- Each segment that a side sends in the course comes no more than so many microseconds later, and before those that the side sends later. It
-- may come at other times, too, as may what was sent before.
abbrev pub KeepsOrder : ℕ → PairValue → List (ℤ × PairEvent) → Type 0
KeepsOrder delay p [] = Unit {0}
KeepsOrder delay p (x ∷ course) =
    ((side : Side) (k : ℕ) → next_sent p side ≤ k → k < next_sent (takes p x.1) side → ComesFirst (x.0 +ℤ pos delay) side k (takes p x.1) course)
    × KeepsOrder delay (takes p x.1) course

-- A CLOSED WINDOW

-- the segment of a side of this number, or one that equals it, comes while the other's window is closed
abbrev pub IsShutAmong : PairValue → Side → ℕ → List (ℤ × PairEvent) → Type 0
IsShutAmong p side k [] = ⊥
IsShutAmong p side k (x ∷ course) =
    (ComesAs p side k x.1 × (free_in (socket_of p (other side)) ≡ 0)) ⊎ IsShutAmong (takes p x.1) side k course

-- A WINDOW IN THE WAY

-- what a side offers goes
abbrev pub IsTaken : PairEvent → Type 0
IsTaken (Offer side instant sent) = sent ≡ true
IsTaken other = Unit {0}

abbrev pub AreTaken : List (ℤ × PairEvent) → Type 0
AreTaken [] = Unit {0}
AreTaken (x ∷ course) = IsTaken x.1 × AreTaken course

-- With this event a segment of a side comes while the other's window is closed; or the side is asked when its timer has run out, and the window
-- that it knows, or that of congestion control, takes neither a full segment nor all that is queued.
abbrev pub IsHinderedIn : PairValue → Side → PairEvent → Type 0
IsHinderedIn p side (Deliver from k) = (from ≡ side) × (free_in (socket_of p (other side)) ≡ 0)
IsHinderedIn p side (Offer of instant sent) =
    (of ≡ side)
    × ((is_due instant (socket_of p side).tcb.timers.retransmit_at ≡ true)
    × (((socket_of p side).tcb.peer.window < worth_sending (socket_of p side))
    ⊎ (first_cwnd (context_of p side instant) (socket_of p side).tcb < worth_sending (socket_of p side))))
IsHinderedIn p side other = ⊥

-- so it is with one of these events
abbrev pub IsHinderedAmong : PairValue → Side → List PairEvent → Type 0
IsHinderedAmong p side [] = ⊥
IsHinderedAmong p side (event ∷ events) = IsHinderedIn p side event ⊎ IsHinderedAmong (takes p event) side events

-- A COURSE

-- From this pair on, with the clock at `now`: each side is asked in time, and what it offers goes; each segment is heard in time. The side has a
-- receive buffer to send to, and a stream that is no empty one.
pub record IsSentInTime (wait delay : ℕ) (now : ℤ) (p : PairValue) (side : Side) (course : List (ℤ × PairEvent)) : Type 0 where
  pub clock : (at p.sides side).instant ≤ℤ now
  pub clocked : IsClocked now course
  pub asks : AsksWithin wait now p course
  pub taken : AreTaken course
  pub delivers : DeliversWithin delay p course
  pub stream : HasStream (past_at p side)
  pub room : 1 ≤ room_of (socket_of p (other side)).received

-- a minute for each position that may be sent past SND.UNA, and two more; as long as a side is let wait; and two segments
abbrev pub span_of : ℕ → ℕ → PairValue → Side → ℕ
span_of wait delay p side = put_off_in p side + wait + delay + delay
