use Rattle.std.proofs.Common.{◌≡◌, ◌+◌, ◌-◌, ◌∙◌, ℕ, length, sym, suc, ap, subst, arith, length-drop}
use Rattle.wire_ipv6_headers.specs.Headers.{StopsWithin}
use Rattle.wire_ipv6_headers.specs.declared.headers.Step.TheVariants as Way
use Rattle.wire_ipv6_headers.proofs.Steps.{walk_step, walk_none}
use Rattle.wire_ipv6_headers.proofs.headers.go_through.Goals as goal

pub returns-in-Stops : goal.returns-in-Stops
returns-in-Stops c =
    let more : length c.args.payload.now + 1 - c.loop-count._count ≡ suc (length c.args.payload.now + 1 - (c.loop-count._count + 1)) = omega arith in
    record {
      value = sym (walk_step _ _ c.loop-count.next c.loop-count.named_at c.loop-count.at c.loop-count.rest.now (Way.Stops c.in-Stops.following) more
          c.in-Stops.ensures.value) ∙ c.loop-count.invariant.same;
      within = subst (λ (n : ℕ). StopsWithin n c.in-Stops.following) c.loop-count.invariant.offsets c.in-Stops.ensures.within;
    }

pub loop-count-preserved : goal.loop-count-preserved
loop-count-preserved c =
    let more : length c.args.payload.now + 1 - c.loop-count._count ≡ suc (length c.args.payload.now + 1 - (c.loop-count._count + 1)) = omega arith in
    let stepped = walk_step _ (length c.args.payload.now + 1 - (c.loop-count._count + 1)) c.loop-count.next c.loop-count.named_at c.loop-count.at
    c.loop-count.rest.now (Way.Goes c.in-Goes.len) more c.in-Goes.ensures.value in
    record {
      same = rw (c.from-next.ensures, c.split_at.ensures.back) (sym stepped ∙ c.loop-count.invariant.same);
      named = let len = c.in-Goes.ensures.within in omega arith;
      offsets = let back = ap length c.split_at.ensures.back in
          omega (arith, length-drop c.in-Goes.len c.loop-count.rest.now, c.in-Goes.ensures.within, c.loop-count.invariant.offsets, back);
    }

pub returns : goal.returns
returns c =
    let none : length c.args.payload.now + 1 - c.loop-count._count ≡ 0 = omega arith in
    record {
      value = sym (walk_none _ c.loop-count.next c.loop-count.named_at c.loop-count.at c.loop-count.rest.now none) ∙ c.loop-count.invariant.same;
      within = tt;
    }
