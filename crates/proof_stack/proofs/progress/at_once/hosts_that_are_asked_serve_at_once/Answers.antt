use Rattle.proof_stack.proofs.EventAnswers.{proceeds_at_once}
use Rattle.proof_stack.proofs.progress.at_once.hosts_that_are_asked_serve_at_once.Goals as goal

pub returns : goal.returns
returns c = proceeds_at_once
