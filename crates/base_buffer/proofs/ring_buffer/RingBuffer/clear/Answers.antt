use Rattle.std.proofs.Common.{[], sym, ap, ◌∙◌}
use Rattle.base_buffer.specs.Ring.{ring}
use Rattle.base_buffer.proofs.Rings.{sees, ring_in-start}
use Rattle.base_buffer.proofs.ring_buffer.RingBuffer.clear.Goals as goal

pub returns : goal.returns
returns g c =
    let s = c.self.inside in
    let v = sees s.storage.items s.read_at s.length _ c.self.invariant c.self.view_is in
    ring_in-start s.storage.items ∙ ap (λ xs. ring [] xs 0) (sym v.storage)
