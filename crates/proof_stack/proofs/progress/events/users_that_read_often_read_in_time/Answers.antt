use Rattle.proof_stack.proofs.EventReads.{are_read}
use Rattle.proof_stack.proofs.progress.events.users_that_read_often_read_in_time.Goals as goal

pub returns : goal.returns
returns c = are_read
