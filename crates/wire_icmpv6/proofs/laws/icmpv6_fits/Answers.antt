use Rattle.wire_icmpv6.proofs.Normal.{fits, can_carry}
use Rattle.wire_icmpv6.proofs.laws.icmpv6_fits.Goals as goal

pub returns : goal.returns
returns c = record { value = fits; bytes = can_carry }
