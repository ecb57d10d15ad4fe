use Rattle.wire_address.specs.Cidr.{cidr_address, cidr_prefix_len}
use Rattle.wire_address.specs.Text.{IsIpCidrText}
use Rattle.wire_address.proofs.Texts.{ReadsCidr-ok_or}
use Rattle.wire_address.proofs.ip.IpCidrFromStr.from_str.Goals as goal

pub returns : goal.returns
returns c =
    ReadsCidr-ok_or (IsIpCidrText c.args.s.now) cidr_address cidr_prefix_len c.ip_cidr.result _ _ c.ok_or.ensures.value
    c.ip_cidr.ensures.found c.ip_cidr.ensures.only
