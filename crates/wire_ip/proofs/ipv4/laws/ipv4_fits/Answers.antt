use Rattle.wire_ip.proofs.IpLaws.{fits-v4}
use Rattle.wire_ip.proofs.ipv4.laws.ipv4_fits.Goals as goal

pub returns : goal.returns
returns c = fits-v4
