use Rattle.std.proofs.Common.{◌≡◌, length, ap, ◌∙◌, arith}
use Rattle.base_buffer.specs.Ring.{released}
use Rattle.base_buffer.proofs.Rings.{sees, ring_in-fewer}
use Rattle.base_buffer.proofs.ring_buffer.RingBuffer.dequeue_allocated.Goals as goal

pub overflow_sub-self : goal.overflow_sub-self
overflow_sub-self g c =
    let s = c.self.inside in
    let v = sees s.storage.items s.read_at s.length _ c.self.invariant c.self.view_is in
    omega (arith, v.queued)

pub position-self-inside-requires : goal.position-self-inside-requires
position-self-inside-requires g c =
    let s = c.self.inside in
    let v = sees s.storage.items s.read_at s.length _ c.self.invariant c.self.view_is in
    let n : c.len.result ≡ length s.storage.items = omega (arith, s.storage.ok.0) in
    rw n (c.self.invariant.start_within, omega (arith, v.queued, c.self.invariant.count_within), c.self.invariant.start_below)

pub returns : goal.returns
returns g c =
    let s = c.self.inside in
    let v = sees s.storage.items s.read_at s.length _ c.self.invariant c.self.view_is in
    let n : c.len.result ≡ length s.storage.items = omega (arith, s.storage.ok.0) in
    rw (c.position-self-inside.ensures.position, n) (
    ring_in-fewer s.storage.items s.read_at s.length c.args.count c.self.invariant (omega (arith, v.queued)) ∙ ap (λ r. released r c.args.count) c.self.view_is
    )
