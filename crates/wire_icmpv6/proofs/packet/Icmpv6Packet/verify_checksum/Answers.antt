use Rattle.wire_address.proofs.Covered.{all_ones-holds}
use Rattle.wire_icmpv6.proofs.packet.Icmpv6Packet.verify_checksum.Goals as goal

pub returns : goal.returns
returns c = all_ones-holds _ _ c.sum.ensures
