use Rattle.std.proofs.Common.{◌≡◌, ℕ, length, take, ◌∙◌, ap, ap₂}
use Rattle.ip_wire.specs.Ip.{source_of, destination_of}
use Rattle.ip_wire.specs.Protocol.{protocol_number}
use Rattle.ip_wire.specs.Pseudo.{pseudo_of}
use Rattle.ip_wire.specs.Sum.{word_sum, folded}
use Rattle.iface_ingress.proofs.OnePass.{summed_apart}
use Rattle.iface_ingress.proofs.copy_checksum.sum_before.Goals as goal

pub returns : goal.returns
returns c =
    let header = c.args.header.now in
    let packet = c.args.packet.now in
    let protocol : ℕ = protocol_number c.args.protocol in
    let pseudo : c.pseudo_header-pseudo.result ≡ folded (word_sum (pseudo_of (source_of header) (destination_of header) protocol (length packet))) =
    c.pseudo_header-pseudo.ensures ∙
    ap₂ (λ s d. folded (word_sum (pseudo_of s d protocol (length packet)))) c.src_addr-source.ensures c.dst_addr-destination.ensures in
    let head : c.data.result ≡ folded (word_sum (take c.args.front packet)) =
    c.data.ensures ∙ ap (λ b. folded (word_sum b)) c.split_at.ensures.front in
    summed_apart (source_of header) (destination_of header) protocol packet c.args.front c.pseudo_header-pseudo.result c.data.result c.add.result
    c.requires.even c.requires.within pseudo head c.add.ensures
