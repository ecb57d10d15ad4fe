use Rattle.tcp_refinement.proofs.PromiseLemmas.{safe_sockets}
use Rattle.tcp_refinement.proofs.promises.sockets_are_safe.Goals as goal

pub returns : goal.returns
returns c = record { safe = safe_sockets }
