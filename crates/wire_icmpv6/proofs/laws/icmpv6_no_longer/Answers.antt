use Rattle.wire_icmpv6.proofs.Spelled.{no_longer}
use Rattle.wire_icmpv6.proofs.laws.icmpv6_no_longer.Goals as goal

pub returns : goal.returns
returns c = no_longer
