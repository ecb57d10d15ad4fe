use Rattle.proof_stack.proofs.Polls.Rests.{rests}
use Rattle.proof_stack.proofs.progress.rest.a_silent_socket_rests.Goals as goal

pub returns : goal.returns
returns c = rests
