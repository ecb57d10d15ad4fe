use Rattle.wire_address.specs.Text.{IsIpv6CidrText}
use Rattle.wire_address.specs.declared.ipv6.Ipv6Cidr.{Ipv6Cidr}
use Rattle.wire_address.proofs.Texts.{ReadsCidr-ok_or}
use Rattle.wire_address.proofs.ipv6.Ipv6CidrFromStr.from_str.Goals as goal

pub returns : goal.returns
returns c =
    ReadsCidr-ok_or (IsIpv6CidrText c.args.s.now) (λ (b : Ipv6Cidr). b.address) (λ (b : Ipv6Cidr). b.prefix_len) c.ipv6_cidr.result _ _ c.ok_or.ensures.value
    c.ipv6_cidr.ensures.found c.ipv6_cidr.ensures.only
