use Rattle.wire_address.proofs.Sums.{low_first-fours}
use Rattle.wire_address.proofs.checksum.sum_below_eight.Goals as goal

pub returns-in-Some : goal.returns-in-Some
returns-in-Some c = low_first-fours _ _ c.in-Some.front.now c.args.bytes.now c.in-Some.tail.now c.from_le_bytes.ensures c.low_isn.ensures
    c.in-Some.ensures.cases.0 c.in-Some.ensures.cases.1 c.in-Some.ensures.cases.2
