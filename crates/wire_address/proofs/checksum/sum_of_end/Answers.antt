use Rattle.wire_address.proofs.Sums.{low_first-eights}
use Rattle.wire_address.proofs.checksum.sum_of_end.Goals as goal

pub returns-in-Some-clause-sum : goal.returns-in-Some-clause-sum
returns-in-Some-clause-sum c = low_first-eights _ _ c.in-Some.front.now c.args.bytes.now c.in-Some.tail.now c.from_le_bytes.ensures c.sum_below_eight.ensures
    c.in-Some.ensures.cases.0 c.in-Some.ensures.cases.1 c.in-Some.ensures.cases.2
