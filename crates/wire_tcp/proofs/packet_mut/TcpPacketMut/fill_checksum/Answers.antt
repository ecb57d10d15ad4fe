use Rattle.wire_address.proofs.Puts.{put16-complement}
use Rattle.wire_address.specs.Pseudo.{covered}
use Rattle.wire_tcp.proofs.packet_mut.TcpPacketMut.fill_checksum.Goals as goal

pub returns-clause-bytes : goal.returns-clause-bytes
returns-clause-bytes c =
    put16-complement (covered c.args.source.now c.args.destination.now 6) 16 _ _ _ c.sum-sum.result c.set_checksum.ensures.bytes c.sum-sum.ensures
    c.set_checksum-2.ensures.bytes
