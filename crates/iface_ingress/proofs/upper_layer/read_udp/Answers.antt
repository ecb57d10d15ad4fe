use Rattle.iface_ingress.proofs.Readers.{refused-udp, moved-udp}
use Rattle.iface_ingress.proofs.upper_layer.read_udp.Goals as goal

pub returns-in_default : goal.returns-in_default
returns-in_default c =
    refused-udp c.args.checksums.now c.args.header.now c.args.payload.now c.requires
    (λ u is. c.in_default.not-Ok u
    (c.parse.ensures.only u (moved-udp _ _ _ _ _ _ _ u c.src_addr-source.ensures c.dst_addr-destination.ensures c.new_unchecked-packet.ensures is)))
