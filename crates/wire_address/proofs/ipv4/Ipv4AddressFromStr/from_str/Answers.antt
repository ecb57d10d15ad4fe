use Rattle.wire_address.specs.Text.{IsIpv4Text}
use Rattle.wire_address.proofs.Texts.{Reads-ok_or}
use Rattle.wire_address.proofs.ipv4.Ipv4AddressFromStr.from_str.Goals as goal

pub returns : goal.returns
returns c = Reads-ok_or IsIpv4Text c.args.s.now c.dotted.result _ _ c.ok_or.ensures.value c.dotted.ensures.found c.dotted.ensures.only
