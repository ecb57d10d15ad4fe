use Rattle.std.proofs.Common.{◌≡◌, ◌++◌, take, drop, map}
use Rattle.tcp_state.specs.Scoreboard.{apart}
use Rattle.tcp_state.proofs.scoreboard.Scoreboard.take_out.Given as goal

abbrev pub invariant-loop-other : goal.invariant-loop-other
invariant-loop-other l =
    l.other-items ≡ map (apart l.run) (take l.other-index l.initial.other-items) ++ drop l.other-index l.initial.other-items
