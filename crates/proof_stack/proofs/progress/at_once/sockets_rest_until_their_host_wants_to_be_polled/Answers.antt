use Rattle.proof_stack.proofs.EventAnswers.{rests_by_answer}
use Rattle.proof_stack.proofs.progress.at_once.sockets_rest_until_their_host_wants_to_be_polled.Goals as goal

pub returns : goal.returns
returns c = rests_by_answer
