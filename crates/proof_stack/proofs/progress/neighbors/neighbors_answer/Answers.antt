use Rattle.proof_stack.proofs.Polls.Answered.{question_answered, answer_known}
use Rattle.proof_stack.proofs.progress.neighbors.neighbors_answer.Goals as goal

pub returns-clause-tells : goal.returns-clause-tells
returns-clause-tells g c = question_answered g.D.Device.moves

pub returns-clause-known : goal.returns-clause-known
returns-clause-known g c = answer_known g.D.Device.moves
