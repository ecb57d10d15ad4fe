use Rattle.tcp_invariants.proofs.NextSegRules.{goes_last}
use Rattle.tcp_invariants.proofs.early.what_is_not_lost_goes_last.Goals as goal

pub returns : goal.returns
returns c = record { order = goes_last }
