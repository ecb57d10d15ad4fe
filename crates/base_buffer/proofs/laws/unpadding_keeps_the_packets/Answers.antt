use Rattle.base_buffer.proofs.PacketLaws.{contents-unpadded}
use Rattle.base_buffer.proofs.PacketSteps.{first-unpadded, without_first-unpadded, unpadded-unpadded}
use Rattle.base_buffer.proofs.laws.unpadding_keeps_the_packets.Goals as goal

pub returns : goal.returns
returns g c = record {
  contents = contents-unpadded;
  first = first-unpadded;
  without_first = without_first-unpadded;
  again = unpadded-unpadded;
}
