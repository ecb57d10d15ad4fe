use Rattle.std.proofs.Common.{length}
use Rattle.wire_tcp.proofs.emit.+put_ranges.Given as goal

abbrev pub decreases-put_ranges : goal.decreases-put_ranges
decreases-put_ranges l = length l.ranges.now
