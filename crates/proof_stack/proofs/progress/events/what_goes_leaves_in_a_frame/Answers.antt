use Rattle.proof_stack.proofs.EventGoes.{goes_in_a_frame}
use Rattle.proof_stack.proofs.progress.events.what_goes_leaves_in_a_frame.Goals as goal

pub returns : goal.returns
returns c = goes_in_a_frame
