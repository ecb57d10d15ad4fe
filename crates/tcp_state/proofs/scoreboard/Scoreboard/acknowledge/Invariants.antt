use Rattle.std.proofs.Common.{◌≡◌, ◌++◌, take, drop, map}
use Rattle.tcp_state.specs.Scoreboard.{lowered}
use Rattle.tcp_state.proofs.scoreboard.Scoreboard.acknowledge.Given as goal

abbrev pub invariant-loop-run : goal.invariant-loop-run
invariant-loop-run l =
    l.run-items ≡ map (lowered l.by) (take l.run-index l.initial.run-items) ++ drop l.run-index l.initial.run-items
