use Rattle.std.specs.Prelude.{ℕ, List}
use Rattle.wire_address.proofs.Puts.{put16-cleared}
use Rattle.wire_address.specs.Pseudo.{covered}
use Rattle.wire_ip.specs.Udp.{datagram_of, nonzero_complement}
use Rattle.wire_ip.proofs.udp.packet_mut.UdpPacketMut.fill_checksum.Goals as goal

pub returns-clause-bytes : goal.returns-clause-bytes
returns-clause-bytes c =
    let total : List ℕ → ℕ = λ bytes. covered c.args.source.now c.args.destination.now 17 (datagram_of bytes) in
    put16-cleared (λ bytes. nonzero_complement (total bytes)) 6 _ _ _ _ c.set_checksum.ensures.bytes (c.sent_complement.ensures _ c.sum-sum.ensures)
    c.set_checksum-2.ensures.bytes
