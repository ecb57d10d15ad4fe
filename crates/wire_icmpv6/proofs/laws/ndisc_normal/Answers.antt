use Rattle.wire_icmpv6.proofs.NdiscLaws.{normal-normal}
use Rattle.wire_icmpv6.proofs.NdiscNormal.{IsNdisc-normal}
use Rattle.wire_icmpv6.proofs.laws.ndisc_normal.Goals as goal

pub returns : goal.returns
returns c = record { read = IsNdisc-normal; again = normal-normal }
