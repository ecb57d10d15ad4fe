use Rattle.wire_address.specs.Text.{IsIpv6Text}
use Rattle.wire_address.proofs.Texts.{Reads-ok_or}
use Rattle.wire_address.proofs.ipv6.Ipv6AddressFromStr.from_str.Goals as goal

pub returns : goal.returns
returns c = Reads-ok_or IsIpv6Text c.args.s.now c.colon_hex.result _ _ c.ok_or.ensures.value c.colon_hex.ensures.found c.colon_hex.ensures.only
