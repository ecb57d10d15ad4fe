use Rattle.wire_ip.proofs.UdpLaws.{fits}
use Rattle.wire_ip.proofs.udp.laws.udp_fits.Goals as goal

pub returns : goal.returns
returns c = fits
