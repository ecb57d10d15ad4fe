use Rattle.std.proofs.Common.{arith, ◌+◌, ◌<◌, ◌^◌, ◌∙◌, sym, ap, ◌≡◌, List, drop}
use Rattle.std.specs.List.{fold}
use Rattle.iface_tables.specs.Inner.{InnerValue}
use Rattle.iface_tables.specs.declared.path_mtu.Path.{Path}
use Rattle.interface.specs.BlackHoles.{paths_after, paths_in, with_paths}
use Rattle.interface.proofs.BlackHoles.{idle_untold}
use Rattle.interface.proofs.IdleSlots.{IsIdle, fold_last, fold_next}
use Rattle.interface.proofs.black_holes.check_busy.Goals as goal

pub overflow_add-from : goal.overflow_add-from
overflow_add-from c = let fits : c.in-Some.at + 1 < 2 ^ 64 = c.next_busy.ensures.fits c.in-Some.at c.in-Some.is in omega (arith, fits)

pub loop-at-preserved : goal.loop-at-preserved
loop-at-preserved c =
    let i : InnerValue = c.args.inner.now in
    let old : InnerValue = c.loop-at.inner in
    let slot = c.slot.result.now in
    let paths : c.check_slot.new.inner.paths ≡ paths_in old slot.inner = ap (λ (x : InnerValue). x.paths) c.check_slot.ensures in
    let same = c.loop-at.invariant.host in
    record {
      host = c.check_slot.ensures ∙ ap (λ (x : InnerValue). with_paths x (paths_in old slot.inner)) same ∙ ap (with_paths i) (sym paths);
      left = c.loop-at.invariant.left
          ∙ fold_next (paths_after i) IsIdle (idle_untold c.idle_is_at_rest.ensures.instant i) old.paths c.args.slots.now c.loop-at.from c.in-Some.at slot
          c.in-Some.ensures.next.0 c.in-Some.ensures.next.2 c.slot.ensures
          ∙ ap (λ (after : List Path). fold (paths_after i) after (drop (c.in-Some.at + 1) c.args.slots.now))
          (ap (λ (x : InnerValue). paths_in x slot.inner) (sym same) ∙ sym paths);
    }

pub returns : goal.returns
returns c =
    c.loop-at.invariant.host
    ∙ ap (with_paths c.args.inner.now)
    (sym (c.loop-at.invariant.left
    ∙ fold_last (paths_after c.args.inner.now) IsIdle (idle_untold c.idle_is_at_rest.ensures.instant c.args.inner.now) c.loop-at.inner.paths c.args.slots.now
    c.loop-at.from c.in_default.ensures.next))
