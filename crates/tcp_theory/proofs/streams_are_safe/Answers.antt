use Rattle.tcp_theory.proofs.Theorem.{AreSafe-run}
use Rattle.tcp_theory.proofs.streams_are_safe.Goals as goal

pub returns : goal.returns
returns c = record { safe = AreSafe-run }
