use Rattle.std.proofs.Common.{◌↔◌}
use Rattle.wire_igmp.specs.GroupRecord.{AreRecords}
use Rattle.wire_igmp.proofs.group_record.are_records.Given as goal

abbrev pub invariant-loop-left : goal.invariant-loop-left
invariant-loop-left l = AreRecords l.width l.left l.rest ↔ AreRecords l.width l.fn.number l.fn.bytes

abbrev pub decreases-loop-left : goal.decreases-loop-left
decreases-loop-left l = l.left
