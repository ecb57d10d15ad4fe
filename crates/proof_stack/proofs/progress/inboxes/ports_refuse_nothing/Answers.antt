use Rattle.proof_stack.proofs.Polls.Inboxes.{ports_are_bare, refuse_nothing}
use Rattle.proof_stack.proofs.progress.inboxes.ports_refuse_nothing.Goals as goal

pub returns-clause-refuses : goal.returns-clause-refuses
returns-clause-refuses c = refuse_nothing

pub returns-clause-no_frame : goal.returns-clause-no_frame
returns-clause-no_frame c = ports_are_bare
