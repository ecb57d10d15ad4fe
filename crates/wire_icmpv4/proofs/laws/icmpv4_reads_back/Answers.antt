use Rattle.wire_icmpv4.proofs.Written.{IsIcmpv4-written}
use Rattle.wire_icmpv4.proofs.laws.icmpv4_reads_back.Goals as goal

pub returns : goal.returns
returns c = IsIcmpv4-written
