use Rattle.iface_tables.proofs.Loopback as Loopback
use Rattle.iface_tables.proofs.laws.loopback_stays_inside.Goals as goal

pub returns : goal.returns
returns c = Loopback.stays_inside
