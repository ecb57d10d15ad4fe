use Rattle.std.proofs.Common.{rules}
use Rattle.std.proofs.lemmas.List.Edits.{map_over_more}
use Rattle.tcp_state.specs.Scoreboard.{lowered}
use Rattle.tcp_state.proofs.scoreboard.Scoreboard.acknowledge.Goals as goal

pub loop-run-preserved : goal.loop-run-preserved
loop-run-preserved c = rw c.lowered.ensures (search (rules, map_over_more (lowered c.args.by)))
