use Rattle.wire_address.proofs.Puts.{put16-complement}
use Rattle.wire_address.specs.Sum.{word_sum}
use Rattle.wire_ip.specs.Ipv4.{header_of}
use Rattle.wire_ip.proofs.ipv4.packet_mut.Ipv4PacketMut.fill_checksum.Goals as goal

pub returns-clause-bytes : goal.returns-clause-bytes
returns-clause-bytes c =
    put16-complement (λ bytes. word_sum (header_of bytes)) 10 _ _ _ c.sum.result c.set_checksum.ensures.bytes c.sum.ensures c.set_checksum-2.ensures.bytes
