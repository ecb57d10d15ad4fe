use Rattle.proof_stack.proofs.Polls.StillNeeded.{still_needed}
use Rattle.proof_stack.proofs.progress.resolution.a_queued_datagram_needs_its_hop.Goals as goal

pub returns : goal.returns
returns c i meta v d more hop p ready queued has = still_needed i v d more hop p queued has meta ready
