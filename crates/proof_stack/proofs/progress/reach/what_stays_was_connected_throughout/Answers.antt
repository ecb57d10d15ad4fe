use Rattle.proof_stack.proofs.EventConnected.{connected_throughout}
use Rattle.proof_stack.proofs.progress.reach.what_stays_was_connected_throughout.Goals as goal

pub returns : goal.returns
returns c = connected_throughout
