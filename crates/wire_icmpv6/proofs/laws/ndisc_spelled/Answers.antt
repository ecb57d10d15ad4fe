use Rattle.wire_icmpv6.proofs.NdiscSpelled.{spelling-of}
use Rattle.wire_icmpv6.proofs.laws.ndisc_spelled.Goals as goal

pub returns : goal.returns
returns c = spelling-of
