use Rattle.proof_stack.proofs.LostPackets.{lost_goes_shorter}
use Rattle.proof_stack.proofs.lost_packets.what_is_lost_goes_again_shorter.Goals as goal

pub returns : goal.returns
returns c = λ i before after meta v address many to free again long few. lost_goes_shorter i meta v address to free again long before after many few
