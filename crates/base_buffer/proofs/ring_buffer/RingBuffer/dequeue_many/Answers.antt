use Rattle.std.proofs.Common.{◌≡◌, refl, ◌∙◌, arith}
use Rattle.base_buffer.specs.Ring.{unbroken_queued}
use Rattle.base_buffer.proofs.RingSteps.{laid_from-released, released-unbroken, just_released}
use Rattle.base_buffer.proofs.ring_buffer.RingBuffer.dequeue_many.Goals as goal

pub part_mut-requires-clause-unbroken : goal.part_mut-requires-clause-unbroken
part_mut-requires-clause-unbroken g c =
    let r = c.args.self.now in
    let u = released-unbroken r c.min-size.result c.capacity.ensures.placed (omega arith) (omega (arith, c.until_end.ensures.until_end)) in
    rw (c.dequeue_allocated.ensures, c.capacity.ensures.capacity) u.2

pub returns : goal.returns
returns g c =
    let r = c.args.self.now in
    let k : c.min-size.result ≡ unbroken_queued r 0 c.args.size = omega (arith, c.until_end.ensures.until_end) in
    let n = c.capacity.ensures.capacity in (
      (refl, λ ws. rw (c.dequeue_allocated.ensures, n, k) refl),
      record {
        lends = tt;
        len = c.part_mut.ensures.len ∙ k;
        value = c.part_mut.ensures.value ∙ rw (c.dequeue_allocated.ensures, n, k) (just_released r (unbroken_queued r 0 c.args.size) (omega arith));
        written = λ ws long. laid_from-released r (unbroken_queued r 0 c.args.size) ws c.capacity.ensures.placed (omega arith) (omega arith) long;
      },
    )
