use Rattle.wire_ip.proofs.IpLaws.{fits-ip}
use Rattle.wire_ip.proofs.ip.laws.ip_fits.Goals as goal

pub returns : goal.returns
returns c = fits-ip
