use Rattle.wire_icmpv4.proofs.Messages.{within}
use Rattle.wire_icmpv4.proofs.laws.icmpv4_no_longer.Goals as goal

pub returns : goal.returns
returns c = within
