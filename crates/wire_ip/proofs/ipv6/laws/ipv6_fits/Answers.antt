use Rattle.wire_ip.proofs.IpLaws.{fits-v6}
use Rattle.wire_ip.proofs.ipv6.laws.ipv6_fits.Goals as goal

pub returns : goal.returns
returns c = fits-v6
