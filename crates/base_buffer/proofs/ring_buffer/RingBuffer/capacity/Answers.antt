use Rattle.std.proofs.Common.{arith}
use Rattle.base_buffer.proofs.Rings.{sees, placed}
use Rattle.base_buffer.proofs.ring_buffer.RingBuffer.capacity.Goals as goal

pub returns-clause-capacity : goal.returns-clause-capacity
returns-clause-capacity g c =
    let s = c.self.inside in
    let v = sees s.storage.items s.read_at s.length _ c.self.invariant c.self.view_is in
    omega (arith, v.room, s.storage.ok.0)

pub returns-clause-placed : goal.returns-clause-placed
returns-clause-placed g c =
    let s = c.self.inside in
    placed _ _ _ _ c.self.invariant (sees s.storage.items s.read_at s.length _ c.self.invariant c.self.view_is)
