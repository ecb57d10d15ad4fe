use Rattle.std.proofs.Common.{arith, ◌+◌, ◌<◌, ◌^◌, sym, ◌∙◌}
use Rattle.interface.specs.Awaited.{is_marked}
use Rattle.interface.proofs.IdleSlots.{any_some, none_at_all, none_before}
use Rattle.interface.proofs.awaited.some_busy_wait.Goals as goal

pub returns-then-is_marked : goal.returns-then-is_marked
returns-then-is_marked c = sym (any_some is_marked c.args.slots.now c.in-Some.at c.slot.result.now c.slot.ensures (sym c.is_marked.ensures ∙ c.if-is_marked.true))

pub overflow_add-from : goal.overflow_add-from
overflow_add-from c = let fits : c.in-Some.at + 1 < 2 ^ 64 = c.next_busy.ensures.fits c.in-Some.at c.in-Some.is in omega (arith, fits)

pub loop-at-preserved : goal.loop-at-preserved
loop-at-preserved c =
    none_before c.args.slots.now c.loop-at.from c.in-Some.at c.slot.result.now c.loop-at.invariant c.in-Some.ensures.next.2 c.slot.ensures
    (sym c.is_marked.ensures ∙ c.if-is_marked.false)

pub returns : goal.returns
returns c = sym (none_at_all c.args.slots.now c.loop-at.from c.loop-at.invariant c.in_default.ensures.next)
