use Rattle.proof_stack.proofs.EventTurns.{proceeds_in_time}
use Rattle.proof_stack.proofs.progress.events.quiet_polls_proceed_in_time.Goals as goal

pub returns : goal.returns
returns c = proceeds_in_time
