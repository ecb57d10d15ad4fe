use Rattle.wire_address.specs.Text.{IsIpText}
use Rattle.wire_address.proofs.Texts.{Reads-ok_or}
use Rattle.wire_address.proofs.ip.IpAddressFromStr.from_str.Goals as goal

pub returns : goal.returns
returns c = Reads-ok_or IsIpText c.args.s.now c.ip_address.result _ _ c.ok_or.ensures.value c.ip_address.ensures.found c.ip_address.ensures.only
