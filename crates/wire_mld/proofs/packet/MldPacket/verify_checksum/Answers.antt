use Rattle.wire_address.proofs.Covered.{all_ones-holds}
use Rattle.wire_mld.proofs.packet.MldPacket.verify_checksum.Goals as goal

pub returns : goal.returns
returns c = all_ones-holds _ _ c.sum.ensures
