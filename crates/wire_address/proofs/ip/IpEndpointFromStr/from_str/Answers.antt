use Rattle.wire_address.specs.Text.{IsEndpointText}
use Rattle.wire_address.proofs.Texts.{Reads-ok_or}
use Rattle.wire_address.proofs.ip.IpEndpointFromStr.from_str.Goals as goal

pub returns : goal.returns
returns c = Reads-ok_or IsEndpointText c.args.s.now c.ip_endpoint.result _ _ c.ok_or.ensures.value c.ip_endpoint.ensures.found c.ip_endpoint.ensures.only
