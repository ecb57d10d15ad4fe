use Rattle.wire_igmp.proofs.Records.{AreRecords-more}
use Rattle.wire_igmp.proofs.laws.records_are_counted.Goals as goal

pub returns : goal.returns
returns c = AreRecords-more
