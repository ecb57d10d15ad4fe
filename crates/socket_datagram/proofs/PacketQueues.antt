-- What is known of a packet queue whose first packet is looked at.
use Rattle.base_buffer.proofs.PacketSteps.{first-unpadded, without_first-unpadded, unpadded-unpadded}

pub ruleset queues = (first-unpadded, without_first-unpadded, unpadded-unpadded)
