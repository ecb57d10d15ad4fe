-- Peers that go on by the events of their world.
use Rattle.std.specs.Prelude.{◌≡◌, ℕ, ℤ, true, List, ◌++◌}
use Rattle.tcp_liveness.specs.Arrivals.{is_synchronized}
use Rattle.tcp_liveness.specs.Exchange.{IsOpen}
use Rattle.lan.specs.declared.at_link.history.event.Side.{Side}
use Rattle.lan.specs.Worlds.AtLink.Happening.{AreNumbered, Happening}
use Rattle.lan.specs.Worlds.AtLink.History.{Entry}
use Rattle.lan.specs.Worlds.AtLink.Moves.{Step}
use Rattle.lan.specs.Worlds.AtLink.Runs.{Starts}
use Rattle.lan.specs.Worlds.AtLink.Node.{Nodes}
use Rattle.lan.specs.Worlds.Still.{StillRun, seats_of}
use Rattle.sim_link.specs.Medium.TheVariants as Medium
use Rattle.proof_stack.specs.Progress.Acquainted.{AreAcquainted}
use Rattle.proof_stack.specs.Progress.Days.{HasDays}
use Rattle.proof_stack.specs.Progress.Ends.{AreBoth, AreUnstamped}
use Rattle.proof_stack.specs.Progress.Events.{MoveBy, clock_in}
use Rattle.proof_stack.specs.Progress.Hearing.{AreSo}
use Rattle.proof_stack.specs.Progress.Linked.{AreLinked}
use Rattle.proof_stack.specs.Progress.Moving.{AreHeard, AreLetGo, ComeInitial, ArriveInTime, ProceedByMoves, IsInitialFor, IsHeardBy, MoveInTime, moves_of}
use Rattle.proof_stack.specs.Progress.OneClock.{timed}
use Rattle.proof_stack.specs.Progress.PeerSides.{ProceedBetween}
use Rattle.proof_stack.specs.Progress.Reach.{AreInReach}
use Rattle.proof_stack.specs.Progress.Serving.{AreEventsInTime, GiveTxToken, KeepsStreamBy}

-- The sockets of two peers at the hosts between are a pair that events led to, which goes on by the moves of the later events, whatever numbers are
-- given to the segments that come; and some fit. Over a medium that has no hardware addresses, where each link gives leave to send, what the sockets offer
-- goes. If those events are in time, what the sockets offer goes, and each segment is heard in time, then the moves are in time. If the events are in time
-- for both, and both streams stay no empty ones, it is enough that each segment comes in time, wherever it lies. Over links that bring what is sent in time
-- each does: so of the moves nothing else is asked than that no segment which comes has a timestamp that is older than TS.Recent, as none has where no
-- timestamps were agreed on; or that each that comes is heard. So it is on any medium, where the hosts know each other throughout. Where each frame is taken
-- before the clock goes on, nothing is asked of a segment's timestamp within 24 days since either host was first polled, if neither socket's clock of
-- timestamps is set once that was opened. Peers that are open, and stay, are linked so where their hosts reach each other.
pub record ProceedByEvents (starts : Starts) (past : List Entry) (between : Nodes) (more : List Entry) (hosts : Nodes)
    (still : StillRun starts (more ++ past) hosts) (slots : Side → ℕ) : Type 0 where
  pub goes : ProceedBetween starts past between (more ++ past) hosts (seats_of starts slots)
  pub steps : List (ℤ × Step)
  pub of_events : MoveBy starts goes.net past more hosts still steps
  pub numbers : (moves : List (ℤ × Happening)) × (timed moves ≡ steps) × AreNumbered (seats_of starts slots) goes.net (moves_of moves)
  pub by_moves : (moves : List (ℤ × Happening)) → timed moves ≡ steps → AreNumbered (seats_of starts slots) goes.net (moves_of moves)
      → ProceedByMoves (seats_of starts slots) goes.clocks goes.net goes.reached.pair moves
  pub let_go : (moves : List (ℤ × Happening)) → timed moves ≡ steps → starts.a.capabilities.medium ≡ Medium.Ip → GiveTxToken starts past more hosts still
      → AreLetGo (seats_of starts slots) moves
  pub in_time : (moves : List (ℤ × Happening)) → timed moves ≡ steps → (side : Side) (read wait delay : ℕ)
      → AreEventsInTime starts slots read wait side past between more hosts still → AreLetGo (seats_of starts slots) moves
      → AreHeard (seats_of starts slots) delay goes.net moves
      → MoveInTime read wait delay (clock_in past) (seats_of starts slots) goes.clocks goes.net side moves
  pub in_time_anywhere : (moves : List (ℤ × Happening)) → timed moves ≡ steps → (read wait delay : ℕ)
      → ((side : Side) → AreEventsInTime starts slots read wait side past between more hosts still)
      → ((side : Side) → KeepsStreamBy (slots side) side past more) → AreLetGo (seats_of starts slots) moves
      → ComeInitial (seats_of starts slots) delay goes.net moves
      → ArriveInTime read wait delay (clock_in past) (seats_of starts slots) goes.clocks goes.net moves
  pub heard_over_links : (moves : List (ℤ × Happening)) → timed moves ≡ steps → (delay : ℕ) → AreLinked starts slots delay past more hosts still
      → AreSo IsHeardBy (seats_of starts slots) moves → AreHeard (seats_of starts slots) delay goes.net moves
  pub initial_without_timestamps : (moves : List (ℤ × Happening)) → timed moves ≡ steps → AreUnstamped starts slots past more hosts still
      → AreSo IsInitialFor (seats_of starts slots) moves
  pub in_time_over_links : (moves : List (ℤ × Happening)) → timed moves ≡ steps → (read wait delay : ℕ)
      → ((side : Side) → AreEventsInTime starts slots read wait side past between more hosts still)
      → ((side : Side) → KeepsStreamBy (slots side) side past more) → AreLinked starts slots delay past more hosts still
      → AreSo IsInitialFor (seats_of starts slots) moves
      → ArriveInTime read wait delay (clock_in past) (seats_of starts slots) goes.clocks goes.net moves
  pub in_time_where_known : (moves : List (ℤ × Happening)) → timed moves ≡ steps → (read wait delay : ℕ)
      → ((side : Side) → AreEventsInTime starts slots read wait side past between more hosts still)
      → ((side : Side) → KeepsStreamBy (slots side) side past more) → AreAcquainted starts slots delay past more hosts still
      → AreSo IsInitialFor (seats_of starts slots) moves
      → ArriveInTime read wait delay (clock_in past) (seats_of starts slots) goes.clocks goes.net moves
  pub in_time_within_days : (moves : List (ℤ × Happening)) → timed moves ≡ steps → AreNumbered (seats_of starts slots) goes.net (moves_of moves)
      → (read wait : ℕ) → ((side : Side) → AreEventsInTime starts slots read wait side past between more hosts still)
      → ((side : Side) → KeepsStreamBy (slots side) side past more) → AreAcquainted starts slots 0 past more hosts still
      → ((side : Side) → HasDays (more ++ past) (slots side) side)
      → ArriveInTime read wait 0 (clock_in past) (seats_of starts slots) goes.clocks goes.net moves
  pub linked_in_reach : (delay : ℕ) → AreBoth (λ side v. IsOpen v.tcb) slots between
      → AreBoth (λ side v. is_synchronized v.tcb.state ≡ true) slots hosts → AreInReach starts delay past more hosts still
      → AreLinked starts slots delay past more hosts still
  pub in_time_in_reach : (moves : List (ℤ × Happening)) → timed moves ≡ steps → (read wait delay : ℕ)
      → ((side : Side) → AreEventsInTime starts slots read wait side past between more hosts still)
      → ((side : Side) → KeepsStreamBy (slots side) side past more) → AreInReach starts delay past more hosts still
      → AreSo IsInitialFor (seats_of starts slots) moves
      → ArriveInTime read wait delay (clock_in past) (seats_of starts slots) goes.clocks goes.net moves
