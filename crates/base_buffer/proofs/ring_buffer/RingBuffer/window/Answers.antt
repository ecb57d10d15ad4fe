use Rattle.std.proofs.Common.{arith}
use Rattle.base_buffer.proofs.Rings.{sees}
use Rattle.base_buffer.proofs.ring_buffer.RingBuffer.window.Goals as goal

pub returns : goal.returns
returns g c =
    let s = c.self.inside in
    let v = sees s.storage.items s.read_at s.length _ c.self.invariant c.self.view_is in
    omega (arith, v.left, s.storage.ok.0)
