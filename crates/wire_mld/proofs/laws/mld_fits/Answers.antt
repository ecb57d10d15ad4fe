use Rattle.wire_mld.proofs.Messages.{fits}
use Rattle.wire_mld.proofs.laws.mld_fits.Goals as goal

pub returns : goal.returns
returns c = fits
