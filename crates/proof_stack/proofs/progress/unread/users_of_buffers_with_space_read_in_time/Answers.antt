use Rattle.proof_stack.proofs.EventSpace.{read_in_time}
use Rattle.proof_stack.proofs.progress.unread.users_of_buffers_with_space_read_in_time.Goals as goal

pub returns : goal.returns
returns c = read_in_time
