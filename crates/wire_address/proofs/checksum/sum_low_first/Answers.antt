use Rattle.std.proofs.Common.{refl, arith}
use Rattle.wire_address.proofs.Sums.{low_first-cidr, low_first-last}
use Rattle.wire_address.proofs.checksum.sum_low_first.Goals as goal

pub loop-front-preserved : goal.loop-front-preserved
loop-front-preserved c = (
  low_first-cidr _ _ 64 c.in-Some.front.now c.loop-front.rest.now _ _ c.add_cidr.ensures.sum c.in-Some.ensures.cases.0 c.in-Some.ensures.cases.1
      c.in-Some.ensures.cases.2 refl c.loop-front.invariant.0,
  omega (arith, c.in-Some.ensures.cases.2),
  omega arith,
)

pub loop-part-preserved : goal.loop-part-preserved
loop-part-preserved c =
    let some = c.in-Some-split_first_chunk in (
      low_first-cidr _ _ 16 some.part.now c.loop-part.rest.now _ _ c.add_quarter.ensures.sum some.ensures.cases.0 some.ensures.cases.1
          some.ensures.cases.2 refl c.loop-part.invariant.0,
      omega (arith, some.ensures.cases.2),
      omega arith,
    )

pub returns : goal.returns
returns c = low_first-last _ _ _ _ c.loop-part.rest.now _ c.sum_of_end.ensures.sum c.add_u128.ensures c.loop-part.invariant.0
