use Rattle.tcp_refinement.proofs.NameLaws.{answer_back}
use Rattle.tcp_refinement.proofs.names.arrivals_rename_a_socket.Goals as goal

pub returns-clause-answer : goal.returns-clause-answer
returns-clause-answer c = answer_back
