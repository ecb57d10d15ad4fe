-- Two sockets that are connected over links which bring what is sent in time.
use Rattle.std.specs.Prelude.{◌≡◌, ℕ, ℤ, List, ◌++◌}
use Rattle.tcp_state.specs.declared.endpoints.FourTuple.{FourTuple}
use Rattle.lan.specs.declared.at_link.history.event.Side.{Side}
use Rattle.lan.specs.Worlds.AtLink.History.{Entry}
use Rattle.lan.specs.Worlds.AtLink.Runs.{Starts}
use Rattle.lan.specs.Worlds.AtLink.Node.{Nodes}
use Rattle.lan.specs.Worlds.Still.{StillRun}
use Rattle.sim_link.specs.Medium.TheVariants as Medium
use Rattle.proof_stack.specs.Progress.FramesInTransit.{AreCarried}
use Rattle.proof_stack.specs.Progress.Ends.{AreConnected, AreEnds}
use Rattle.proof_stack.specs.Progress.Serving.{GiveTxToken}

-- The sockets at these slots have a connection over a medium that has no hardware addresses. After each of the later polls a link gives its host leave to
-- send, and each frame that a host sends in one is taken by a poll of the other no more than so many microseconds later.
pub record AreLinked (starts : Starts) (slots : Side → ℕ) (delay : ℕ) (past more : List Entry) (hosts : Nodes)
    (still : StillRun starts (more ++ past) hosts) : Type 0 where
  pub medium : starts.a.capabilities.medium ≡ Medium.Ip
  pub pairs : Side → FourTuple
  pub ends : AreEnds starts pairs
  pub connected : AreConnected starts slots pairs past more hosts still
  pub leave : GiveTxToken starts past more hosts still
  pub on_way : Side → List (ℤ × List ℕ)
  pub carried : AreCarried starts delay past more hosts still on_way
