use Rattle.std.proofs.Common.{◌≡◌, ◌≤◌, length, min, refl, ap, ◌∙◌, arith, rules}
use Rattle.base_buffer.specs.Ring.{released, until_end, waiting}
use Rattle.base_buffer.proofs.RingSteps.{length-rewritten, waiting-part, length-waiting}
use Rattle.base_buffer.proofs.Rings.{laid_from-queue}
use Rattle.base_buffer.proofs.ring_buffer.RingBuffer.dequeue_many_with.Goals as goal
use Rattle.std.specs.Fn.{FnOnceReturnsAtMut}
use Rattle.std.proofs.Common.{of_calls}

pub dequeue_allocated-requires : goal.dequeue_allocated-requires
dequeue_allocated-requires g c =
    let r = c.args.self.now in
    let size : c.min-size.result ≡ min (length r.queue) (until_end r 0) = c.min-size.ensures ∙ rw (c.len.ensures, c.until_end.ensures.until_end) refl in
    let lent : c.part_mut.result.now ≡ waiting r = c.part_mut.ensures.value ∙ waiting-part r c.min-size.result size in
    let met : FnOnceReturnsAtMut g.F.FnOnce c.args.f c.part_mut.result.now c.f-count.result c.f-count.new.arg2 = search (rules, of_calls) in
    let met' : FnOnceReturnsAtMut g.F.FnOnce c.args.f (waiting r) c.f-count.result c.f-count.new.arg2 = rw lent at met in
    let count = c.requires.within c.f-count.result c.f-count.new.arg2 met' in
    let long : length c.f-count.new.arg2 ≡ c.min-size.result = c.f-count.auto.arg2 ∙ c.part_mut.ensures.len in
    let fits : length c.f-count.new.arg2 ≤ length r.queue = omega arith in
    rw (
      laid_from-queue r c.f-count.new.arg2 c.part_mut.ensures.placed.0 c.part_mut.ensures.placed.1 fits (omega arith),
      length-rewritten r c.f-count.new.arg2 fits,
    ) (omega (arith, count, length-waiting r))

pub returns : goal.returns
returns g c =
    let r = c.args.self.now in
    let size : c.min-size.result ≡ min (length r.queue) (until_end r 0) = c.min-size.ensures ∙ rw (c.len.ensures, c.until_end.ensures.until_end) refl in
    let lent : c.part_mut.result.now ≡ waiting r = c.part_mut.ensures.value ∙ waiting-part r c.min-size.result size in
    let met : FnOnceReturnsAtMut g.F.FnOnce c.args.f c.part_mut.result.now c.f-count.result c.f-count.new.arg2 = search (rules, of_calls) in
    let met' : FnOnceReturnsAtMut g.F.FnOnce c.args.f (waiting r) c.f-count.result c.f-count.new.arg2 = rw lent at met in
    let long : length c.f-count.new.arg2 ≡ c.min-size.result = c.f-count.auto.arg2 ∙ c.part_mut.ensures.len in
    let fits : length c.f-count.new.arg2 ≤ length r.queue = omega arith in (
      c.f-count.new.arg2,
      omega (arith, length-waiting r),
      met',
      c.dequeue_allocated.ensures ∙
          ap (λ s. released s c.f-count.result.0)
          (laid_from-queue r c.f-count.new.arg2 c.part_mut.ensures.placed.0 c.part_mut.ensures.placed.1 fits (omega arith)),
    )
