use Rattle.std.proofs.Common.{◌<◌, length, arith}
use Rattle.wire_icmpv6.specs.NdiscOption.{options_bytes}
use Rattle.wire_router.proofs.Reading.{with_first, first}
use Rattle.wire_router.proofs.options.are_options.Goals as goal

-- src/options.rt:49:13
pub returns-in-Err : goal.returns-in-Err
returns-in-Err c = (
  (λ no. absurd (cc no)),
  (λ are.
      let some : 0 < length c.loop-rest.rest.now = grind arith in
      let f = first c.loop-rest.rest.now some (c.loop-rest.invariant.1 are) in
      let is = (c.in-Err.ensures.only f.0 (options_bytes f.1) f.2).0 in
      absurd (cc is)),
)

-- src/options.rt:47:5
pub loop-rest-preserved : goal.loop-rest-preserved
loop-rest-preserved c = (
  (λ are. c.loop-rest.invariant.0 (with_first c.loop-rest.rest.now _ c.in-Ok.following.now c.in-Ok.ensures.found are)),
  (λ are.
      let some : 0 < length c.loop-rest.rest.now = grind arith in
      let f = first c.loop-rest.rest.now some (c.loop-rest.invariant.1 are) in
      let same = (c.in-Ok.ensures.only f.0 (options_bytes f.1) f.2).1 in
      (f.1, same.1, f.3)),
)
