use Rattle.wire_address.specs.Text.{IsIpv4CidrText}
use Rattle.wire_address.specs.declared.ipv4.Ipv4Cidr.{Ipv4Cidr}
use Rattle.wire_address.proofs.Texts.{ReadsCidr-ok_or}
use Rattle.wire_address.proofs.ipv4.Ipv4CidrFromStr.from_str.Goals as goal

pub returns : goal.returns
returns c =
    ReadsCidr-ok_or (IsIpv4CidrText c.args.s.now) (λ (b : Ipv4Cidr). b.address) (λ (b : Ipv4Cidr). b.prefix_len) c.ipv4_cidr.result _ _ c.ok_or.ensures.value
    c.ipv4_cidr.ensures.found c.ipv4_cidr.ensures.only
