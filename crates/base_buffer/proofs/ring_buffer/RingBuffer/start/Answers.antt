use Rattle.std.proofs.Common.{sym}
use Rattle.base_buffer.proofs.Rings.{sees}
use Rattle.base_buffer.proofs.ring_buffer.RingBuffer.start.Goals as goal

pub returns : goal.returns
returns g c =
    let s = c.self.inside in
    let v = sees s.storage.items s.read_at s.length _ c.self.invariant c.self.view_is in
    sym v.starts
