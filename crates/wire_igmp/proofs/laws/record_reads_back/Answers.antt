use Rattle.wire_igmp.proofs.Records.{Begins-spelling}
use Rattle.wire_igmp.proofs.laws.record_reads_back.Goals as goal

pub returns : goal.returns
returns c = Begins-spelling
