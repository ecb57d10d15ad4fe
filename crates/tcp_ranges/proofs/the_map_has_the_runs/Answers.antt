use Rattle.tcp_ranges.proofs.RunsOf.{runs_of-held}
use Rattle.tcp_ranges.proofs.the_map_has_the_runs.Goals as goal

pub returns : goal.returns
returns c = record { runs = runs_of-held }
