use Rattle.proof_stack.proofs.EventGoes.{goes_to_a_hop}
use Rattle.proof_stack.proofs.progress.known_hops.what_goes_to_a_known_hop_leaves_in_a_frame.Goals as goal

pub returns : goal.returns
returns c = goes_to_a_hop
