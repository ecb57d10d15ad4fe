use Rattle.wire_icmpv4.proofs.Messages.{fits}
use Rattle.wire_icmpv4.proofs.laws.icmpv4_fits.Goals as goal

pub returns : goal.returns
returns c = fits
