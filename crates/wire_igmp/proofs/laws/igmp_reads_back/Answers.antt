use Rattle.wire_igmp.proofs.Written.{IsIgmp-written, carried-written}
use Rattle.wire_igmp.proofs.laws.igmp_reads_back.Goals as goal

pub returns : goal.returns
returns c = record { message = IsIgmp-written; carried = carried-written }
