use Rattle.std.proofs.Common.{arith}
use Rattle.wire_address.proofs.Sums.{carried, low_first-added}
use Rattle.wire_address.proofs.checksum.add_quarter.Goals as goal

pub returns-clause-sum : goal.returns-clause-sum
returns-clause-sum c = low_first-added _ _ _ _ _ _ c.args.bytes.now _ c.from_le_bytes.ensures
    (carried _ _ _ _ (omega arith) (omega arith) c.overflowing_add-sum.ensures.value c.overflowing_add-sum.ensures.overflow)
    c.in-Some.ensures.cases.0 c.in-Some.ensures.cases.1 c.in-Some.ensures.cases.2 c.requires.quarter
