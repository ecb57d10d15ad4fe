use Rattle.std.proofs.Common.{◌≡◌, ◌+◌, ◌-◌, ◌∙◌, ℕ, length, sym, suc, arith}
use Rattle.std.specs.Prelude.{Option, Some, None}
use Rattle.wire_ipv6_headers.proofs.Steps.{error_step, error_none}
use Rattle.wire_ipv6_headers.proofs.errors.carries_error.Goals as goal

pub returns-in-None : goal.returns-in-None
returns-in-None c =
    let more : length c.args.payload.now + 1 - c.loop-count._count ≡ suc (length c.args.payload.now + 1 - (c.loop-count._count + 1)) = omega arith in
    let stepped = error_step _ (length c.args.payload.now + 1 - (c.loop-count._count + 1)) c.loop-count.next c.loop-count.rest.now None more
    c.in-None.ensures.value in
    c.is_error_of.ensures ∙ sym stepped ∙ c.loop-count.invariant

pub loop-count-preserved : goal.loop-count-preserved
loop-count-preserved c =
    let more : length c.args.payload.now + 1 - c.loop-count._count ≡ suc (length c.args.payload.now + 1 - (c.loop-count._count + 1)) = omega arith in
    let stepped = error_step _ (length c.args.payload.now + 1 - (c.loop-count._count + 1)) c.loop-count.next c.loop-count.rest.now (Some c.in-Some.len) more
    c.in-Some.ensures.value in
    rw (c.from-next.ensures, c.split_at.ensures.back) (sym stepped ∙ c.loop-count.invariant)

pub returns : goal.returns
returns c =
    let none : length c.args.payload.now + 1 - c.loop-count._count ≡ 0 = omega arith in
    sym (error_none _ c.loop-count.next c.loop-count.rest.now none) ∙ c.loop-count.invariant
