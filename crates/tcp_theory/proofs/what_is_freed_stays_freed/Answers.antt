use Rattle.tcp_theory.proofs.Freed.{freed-after}
use Rattle.tcp_theory.proofs.what_is_freed_stays_freed.Goals as goal

pub returns : goal.returns
returns c = record { freed = λ s t move holds may. freed-after s t move holds.0 may }
