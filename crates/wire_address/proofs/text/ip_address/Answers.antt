use Rattle.wire_address.proofs.Families.{ip_v4, ip_v6, ip_none}
use Rattle.wire_address.proofs.text.ip_address.Goals as goal

pub returns-in-Some-clause-only : goal.returns-in-Some-clause-only
returns-in-Some-clause-only c = ip_v4 c.args.text.now c.in-Some.address c.in-Some.ensures.found c.in-Some.ensures.only

pub returns-in-Some-colon_hex-clause-only : goal.returns-in-Some-colon_hex-clause-only
returns-in-Some-colon_hex-clause-only c = ip_v6 c.args.text.now c.in-Some-colon_hex.address c.in-None.ensures.only c.in-Some-colon_hex.ensures.only

pub returns-in-None-colon_hex-clause-only : goal.returns-in-None-colon_hex-clause-only
returns-in-None-colon_hex-clause-only c = ip_none c.args.text.now c.in-None.ensures.only c.in-None-colon_hex.ensures.only
