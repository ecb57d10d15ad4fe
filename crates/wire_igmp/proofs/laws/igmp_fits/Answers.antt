use Rattle.wire_igmp.proofs.Messages.{fits}
use Rattle.wire_igmp.proofs.laws.igmp_fits.Goals as goal

pub returns : goal.returns
returns c = fits
