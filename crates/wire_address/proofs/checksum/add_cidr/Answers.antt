use Rattle.std.proofs.Common.{arith}
use Rattle.wire_address.proofs.Sums.{low_first-parts}
use Rattle.wire_address.proofs.checksum.add_cidr.Goals as goal

pub returns-clause-sum : goal.returns-clause-sum
returns-clause-sum c = low_first-parts _ _ _ 32 _ c.args.bytes.now _
    c.add_half-total.ensures.sum c.add_half.ensures.sum c.split_at.ensures.front c.split_at.ensures.back
    (omega (arith, c.split_at.ensures.front_len))
