use Rattle.std.proofs.Common.{◌≡◌, Ok}
use Rattle.ip_wire.specs.IpVersion.TheVariants as Version
use Rattle.iface_ingress.specs.Incoming.{content_of}
use Rattle.iface_ingress.proofs.Readers.{bare-v4, bare-v6}
use Rattle.iface_ingress.proofs.incoming.read_bare.Goals as goal

pub returns-in-Ok-Ipv4-clause-content : goal.returns-in-Ok-Ipv4-clause-content
returns-in-Ok-Ipv4-clause-content c =
    let first : c.of_packet.result ≡ Ok Version.Ipv4 = cc in
    bare-v4 c.args.checksums.now c.args.frame.now (content_of c.read_ipv4.new.content) (c.of_packet.ensures.ipv4.0 first) c.read_ipv4.ensures.content

pub returns-in-Ok-Ipv6-clause-content : goal.returns-in-Ok-Ipv6-clause-content
returns-in-Ok-Ipv6-clause-content c =
    let first : c.of_packet.result ≡ Ok Version.Ipv6 = cc in
    bare-v6 c.args.checksums.now c.args.frame.now (content_of c.read_ipv6.new.content) (c.of_packet.ensures.ipv6.0 first) c.read_ipv6.ensures.content
