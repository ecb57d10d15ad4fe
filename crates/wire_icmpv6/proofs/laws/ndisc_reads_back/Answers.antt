use Rattle.wire_icmpv6.proofs.NdiscLaws.{IsNdisc-written, normal-same}
use Rattle.wire_icmpv6.proofs.laws.ndisc_reads_back.Goals as goal

pub returns : goal.returns
returns c = record { found = IsNdisc-written; same = normal-same }
