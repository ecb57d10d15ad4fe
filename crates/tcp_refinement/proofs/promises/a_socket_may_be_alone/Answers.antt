use Rattle.tcp_refinement.proofs.PromiseLemmas.{peer_side_goes}
use Rattle.tcp_refinement.proofs.promises.a_socket_may_be_alone.Goals as goal

pub returns-clause-goes : goal.returns-clause-goes
returns-clause-goes c = peer_side_goes
