use Rattle.std.proofs.Common.{ap, ◌∙◌, arith}
use Rattle.base_buffer.specs.Ring.{extended}
use Rattle.base_buffer.proofs.Rings.{sees, ring_in-more}
use Rattle.base_buffer.proofs.ring_buffer.RingBuffer.enqueue_unallocated.Goals as goal

pub overflow_add-self : goal.overflow_add-self
overflow_add-self g c =
    let s = c.self.inside in
    let v = sees s.storage.items s.read_at s.length _ c.self.invariant c.self.view_is in
    let n = s.storage.ok.0 in
    omega (arith, v.left, n)

pub invariant_of-self : goal.invariant_of-self
invariant_of-self g c =
    let s = c.self.inside in
    let v = sees s.storage.items s.read_at s.length _ c.self.invariant c.self.view_is in
    record {
      start_within = c.self.invariant.start_within;
      start_below = c.self.invariant.start_below;
      count_within = omega (arith, v.left, c.self.invariant.count_within);
    }

pub returns : goal.returns
returns g c =
    let s = c.self.inside in
    let v = sees s.storage.items s.read_at s.length _ c.self.invariant c.self.view_is in
    ring_in-more s.storage.items s.read_at s.length c.args.count c.self.invariant (omega (arith, v.left, c.self.invariant.count_within))
    ∙ ap (λ r. extended r c.args.count) c.self.view_is
