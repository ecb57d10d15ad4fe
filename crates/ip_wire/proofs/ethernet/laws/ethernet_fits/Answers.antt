use Rattle.ip_wire.proofs.EthernetLaws.{fits}
use Rattle.ip_wire.proofs.ethernet.laws.ethernet_fits.Goals as goal

pub returns : goal.returns
returns c = fits
