use Rattle.proof_stack.proofs.EventQuiet.{quiet_rests}
use Rattle.proof_stack.proofs.progress.events.sockets_rest_following_a_quiet_poll.Goals as goal

pub returns : goal.returns
returns c = quiet_rests
