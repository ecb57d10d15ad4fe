use Rattle.proof_stack.proofs.EventAnswers.{stays_at_once}
use Rattle.proof_stack.proofs.progress.at_once.events_of_one_instant_serve_at_once.Goals as goal

pub returns : goal.returns
returns c = stays_at_once
