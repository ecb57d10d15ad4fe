use Rattle.std.proofs.Common.{arith, ◌+◌, ◌<◌, ◌^◌, ◌∙◌, sym, ap, drop}
use Rattle.std.specs.List.{fold}
use Rattle.interface.specs.Instant.{earlier, slot_instant}
use Rattle.interface.proofs.IdleSlots.{soonest_next, soonest_last}
use Rattle.interface.proofs.due_instant.soonest_of_busy.Goals as goal

pub overflow_add-from : goal.overflow_add-from
overflow_add-from c = let fits : c.in-Some.at + 1 < 2 ^ 64 = c.next_busy.ensures.fits c.in-Some.at c.in-Some.is in omega (arith, fits)

pub loop-at-preserved : goal.loop-at-preserved
loop-at-preserved c =
    c.loop-at.invariant
    ∙ (soonest_next c.idle_is_at_rest.ensures.instant c.args.inner.now c.requires c.loop-at.best c.args.slots.now c.loop-at.from c.in-Some.at c.slot.result.now
    c.in-Some.ensures.next.0 c.in-Some.ensures.next.2 c.slot.ensures
    ∙ ap (λ b. fold (λ b slot. earlier b (slot_instant c.args.inner.now slot)) b (drop (c.in-Some.at + 1) c.args.slots.now))
    (sym (c.earlier-best.ensures ∙ ap (earlier c.loop-at.best) c.slot_instant.ensures)))

pub returns : goal.returns
returns c =
    sym (c.loop-at.invariant
    ∙ soonest_last c.idle_is_at_rest.ensures.instant c.args.inner.now c.requires c.loop-at.best c.args.slots.now c.loop-at.from c.in_default.ensures.next)
