use Rattle.wire_address.proofs.Covered.{all_ones-holds}
use Rattle.wire_igmp.proofs.packet.IgmpPacket.verify_checksum.Goals as goal

pub returns : goal.returns
returns c = all_ones-holds _ _ c.sum.ensures
