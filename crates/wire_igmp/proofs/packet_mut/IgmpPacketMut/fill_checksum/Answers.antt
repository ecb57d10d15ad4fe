use Rattle.std.proofs.Common.{◌∙◌, ap}
use Rattle.wire_address.proofs.Puts.{put16-complement}
use Rattle.wire_address.specs.Sum.{word_sum, folded}
use Rattle.wire_igmp.proofs.packet_mut.IgmpPacketMut.fill_checksum.Goals as goal

pub returns-clause-bytes : goal.returns-clause-bytes
returns-clause-bytes c =
    let sum = c.sum.ensures ∙ ap (λ xs. folded (word_sum xs)) c.as_packet.ensures in
    put16-complement word_sum 2 _ _ _ c.sum.result c.set_checksum.ensures.bytes sum c.set_checksum-2.ensures.bytes
