use Rattle.std.proofs.Common.{◌∙◌, ap}
use Rattle.wire_address.proofs.Puts.{put16-complement}
use Rattle.wire_address.specs.Sum.{folded}
use Rattle.wire_mld.specs.Mld.{covered}
use Rattle.wire_mld.proofs.packet_mut.MldPacketMut.fill_checksum.Goals as goal

pub returns-clause-bytes : goal.returns-clause-bytes
returns-clause-bytes c =
    let sum = c.sum-sum.ensures ∙ ap (λ xs. folded (covered c.args.src_addr.now c.args.dst_addr.now xs)) c.as_packet.ensures in
    put16-complement (covered c.args.src_addr.now c.args.dst_addr.now) 2 _ _ _ c.sum-sum.result c.set_checksum.ensures.bytes sum c.set_checksum-2.ensures.bytes
