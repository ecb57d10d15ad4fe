use Rattle.std.proofs.Common.{◌≡◌, ◌+◌, ◌-◌, ◌∙◌, length, sym, suc, ap, arith, length-drop}
use Rattle.wire_ipv6_headers.specs.declared.options.First.TheVariants as Front
use Rattle.wire_ipv6_headers.proofs.Steps.{scan_front, scan_none}
use Rattle.wire_ipv6_headers.proofs.options.asked_by.Goals as goal

pub returns-in-End : goal.returns-in-End
returns-in-End c =
    let more : length c.args.bytes.now - c.loop-count._count ≡ suc (length c.args.bytes.now - (c.loop-count._count + 1)) = omega arith in
    record {
      value = sym (scan_front _ _ c.loop-count.offset c.loop-count.rest.now Front.End more c.in-End.ensures.value) ∙ c.loop-count.invariant.same;
      within = tt;
    }

pub returns-in-Broken : goal.returns-in-Broken
returns-in-Broken c =
    let more : length c.args.bytes.now - c.loop-count._count ≡ suc (length c.args.bytes.now - (c.loop-count._count + 1)) = omega arith in
    record {
      value = sym (scan_front _ _ c.loop-count.offset c.loop-count.rest.now Front.Broken more c.in-Broken.ensures.value) ∙ c.loop-count.invariant.same;
      within = tt;
    }

pub returns-in-Unknown : goal.returns-in-Unknown
returns-in-Unknown c =
    let more : length c.args.bytes.now - c.loop-count._count ≡ suc (length c.args.bytes.now - (c.loop-count._count + 1)) = omega arith in
    record {
      value = sym (scan_front _ _ c.loop-count.offset c.loop-count.rest.now (Front.Unknown c.in-Unknown.kind) more c.in-Unknown.ensures.value) ∙
          c.loop-count.invariant.same;
      within = omega arith;
    }

pub loop-count-preserved : goal.loop-count-preserved
loop-count-preserved c =
    let more : length c.args.bytes.now - c.loop-count._count ≡ suc (length c.args.bytes.now - (c.loop-count._count + 1)) = omega arith in
    let stepped = scan_front _ (length c.args.bytes.now - (c.loop-count._count + 1)) c.loop-count.offset c.loop-count.rest.now (Front.Skip c.in-Skip.len) more
    c.in-Skip.ensures.value in
    record {
      same = rw c.split_at.ensures.back (sym stepped ∙ c.loop-count.invariant.same);
      offsets = let back = ap length c.split_at.ensures.back in
          omega (arith, length-drop c.in-Skip.len c.loop-count.rest.now, c.in-Skip.ensures.within, c.loop-count.invariant.offsets, back);
    }

pub returns : goal.returns
returns c =
    let none : length c.args.bytes.now - c.loop-count._count ≡ 0 = omega arith in
    record { value = sym (scan_none _ c.loop-count.offset c.loop-count.rest.now none) ∙ c.loop-count.invariant.same; within = tt }
