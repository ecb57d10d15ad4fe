use Rattle.wire_icmpv6.proofs.Written.{IsIcmpv6-written, carried_in-written}
use Rattle.wire_icmpv6.proofs.laws.icmpv6_reads_back.Goals as goal

pub returns : goal.returns
returns c = record { header = IsIcmpv6-written; bytes = carried_in-written }
