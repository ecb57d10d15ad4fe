use Rattle.std.proofs.Common.{rules}
use Rattle.std.proofs.lemmas.List.Edits.{map_over_more}
use Rattle.tcp_state.specs.Scoreboard.{apart}
use Rattle.tcp_state.proofs.scoreboard.Scoreboard.take_out.Goals as goal

pub loop-other-preserved : goal.loop-other-preserved
loop-other-preserved c = rw c.apart.ensures (search (rules, map_over_more (apart c.args.run.now)))
