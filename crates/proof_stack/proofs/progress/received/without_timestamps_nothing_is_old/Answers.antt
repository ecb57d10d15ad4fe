use Rattle.proof_stack.proofs.EventStamps.{initial_unstamped}
use Rattle.proof_stack.proofs.progress.received.without_timestamps_nothing_is_old.Goals as goal

pub returns : goal.returns
returns c = initial_unstamped
