-- Two peers at hosts as a pair that events led to, and when their connection goes on.
use Rattle.std.specs.Prelude.{◌≡◌, ◌⊎◌, ℕ, suc, ◌-◌, ◌*◌, ◌≤◌, ℤ, pos, ◌+ℤ◌, ◌<ℤ◌, List}
use Rattle.tcp_refinement.specs.Pair.Sides.{other}
use Rattle.tcp_refinement.specs.Pair.Values.{HoldsPayload, PairValue}
use Rattle.tcp_refinement.specs.declared.pair.event.PairEvent.{PairEvent}
use Rattle.tcp_refinement.specs.declared.pair.event.Side as Pairs
use Rattle.tcp_liveness.specs.BothWays.{AreThere}
use Rattle.tcp_liveness.specs.Course.{IsSentInTime, end_of, events_of}
use Rattle.tcp_liveness.specs.Onward.{AreOpen, HasRisen}
use Rattle.tcp_liveness.specs.Pair.{left_in}
use Rattle.tcp_liveness.specs.Reached.{IsReached}
use Rattle.tcp_liveness.specs.Readers.{ReadsWithin, whole_span}
use Rattle.tcp_liveness.specs.Spans.{IsThroughAmong, most_reached, reached_in}
use Rattle.lan.specs.declared.at_link.history.event.Side.{Side}
use Rattle.lan.specs.Worlds.AtLink.History.{Entry}
use Rattle.lan.specs.Worlds.AtLink.Paired.{Proceeds, Seat, Shows}
use Rattle.lan.specs.Worlds.AtLink.Parties.{Net}
use Rattle.lan.specs.Worlds.AtLink.Runs.{Starts}
use Rattle.lan.specs.Worlds.AtLink.Node.{Nodes}
use Rattle.lan.specs.Worlds.Moves.Follows.{IsNetOf}
use Rattle.lan.specs.Worlds.Still.{StillRun}
use Rattle.proof_stack.specs.Progress.Moving.{ProceedBySteps}

-- a packet of either host holds text
abbrev pub HoldText : (Side → Seat) → Type 0
HoldText seats = (side : Side) → HoldsPayload (seats side).host

-- a pair that events led to shows the net
pub record ShowsReached (seats : Side → Seat) (clocks : Side → ℤ) (net : Net) : Type 0 where
  pub pair : PairValue
  pub reached : IsReached pair
  pub shows : Shows seats clocks net pair

-- Both connections stay; each side is asked in time, and what it offers goes; each segment is heard in time; the other's user reads in time.
pub record IsInTime (read wait delay : ℕ) (now : ℤ) (p q : PairValue) (side : Pairs.Side) (course : List (ℤ × PairEvent)) : Type 0 where
  pub opened : AreOpen p
  pub stay : AreThere q
  pub goes : IsSentInTime wait delay now p side course
  pub reads : ReadsWithin read now p (other side) course

-- The pair goes on to one that shows this net. At whatever instants of one clock its events happened: if they are in time, then within a span
-- SND.UNA or RCV.NXT of a side rises, where the side owes something; and at some time all that the side's user wrote is acknowledged, where they
-- last two such spans for each position that is still to reach, and two more.
pub record ProceedsInTime (seats : Side → Seat) (clocks : Side → ℤ) (net : Net) (p : PairValue) : Type 0 where
  pub on : Proceeds seats clocks net p
  pub rises : (side : Pairs.Side) (course : List (ℤ × PairEvent)) (read wait delay : ℕ) (now : ℤ) → events_of course ≡ on.events
      → IsInTime read wait delay now p on.next side course → 1 ≤ left_in p side → (now +ℤ pos (whole_span read wait delay p side)) <ℤ end_of now course
      → HasRisen p on.next side ⊎ HasRisen p on.next (other side)
  pub through : (side : Pairs.Side) (course : List (ℤ × PairEvent)) (read wait delay : ℕ) (now : ℤ) → events_of course ≡ on.events
      → IsInTime read wait delay now p on.next side course
      → (now +ℤ pos (suc (most_reached on.next - reached_in p) * (2 * whole_span read wait delay p side))) <ℤ end_of now course
      → IsThroughAmong p side on.events

-- A pair that events led to shows the sockets of two peers at the hosts between, with this past, and goes on to one that shows them at these hosts,
-- by the events of moves that lead there.
pub record ProceedBetween (starts : Starts) (past : List Entry) (between : Nodes) (history : List Entry) (hosts : Nodes) (seats : Side → Seat) : Type 0 where
  pub was_still : StillRun starts past between
  pub net : Net
  pub of : IsNetOf net between past
  pub clocks : Side → ℤ
  pub reached : ShowsReached seats clocks net
  pub next : Net
  pub of_these : IsNetOf next hosts history
  pub clocks_then : Side → ℤ
  pub proceeds : ProceedsInTime seats clocks_then next reached.pair
  pub by_steps : ProceedBySteps seats clocks net next reached.pair
