use Rattle.ip_wire.proofs.ArpLaws.{fits}
use Rattle.ip_wire.proofs.arp.laws.arp_fits.Goals as goal

pub returns : goal.returns
returns c = fits
