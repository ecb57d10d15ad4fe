use Rattle.std.proofs.Common.{◌<◌, ◌-◌, refl, sym, subst, arith}
use Rattle.wire_igmp.specs.GroupRecord.{AreRecords}
use Rattle.wire_igmp.proofs.Records.{AreRecords-one, AreRecords-first, AreRecords-none, Begins-whole}
use Rattle.wire_igmp.proofs.group_record.are_records.Goals as goal

pub returns-in_default : goal.returns-in_default
returns-in_default c = (
  λ t. absurd (cc (t)),
  λ all.
      let some : 0 < c.loop-left.left = omega arith in
      let whole = AreRecords-first c.args.width c.loop-left.left c.loop-left.rest.now some (c.loop-left.invariant.1 all) in
      let no = (c.in_default.ensures.only _ _ (Begins-whole c.args.width c.loop-left.rest.now whole)).0 in absurd (cc (no)),
)

pub loop-left-preserved : goal.loop-left-preserved
loop-left-preserved c =
    let some : 0 < c.loop-left.left = omega arith in
    let found = c.in-Ok.ensures.found in
    let one = AreRecords-one c.args.width c.loop-left.left c.loop-left.rest.now some found.whole in (
      λ a. c.loop-left.invariant.0 (one.1 (subst (AreRecords c.args.width (c.loop-left.left - 1)) found.rest_is a)),
      λ all. subst (AreRecords c.args.width (c.loop-left.left - 1)) (sym found.rest_is) (one.0 (c.loop-left.invariant.1 all)),
    )

pub returns : goal.returns
returns c = (λ t. c.loop-left.invariant.0 (AreRecords-none c.args.width c.loop-left.left c.loop-left.rest.now (omega arith)), λ all. refl)
