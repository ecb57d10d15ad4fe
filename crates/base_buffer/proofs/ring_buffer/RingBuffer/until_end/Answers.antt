use Rattle.std.proofs.Common.{◌≡◌, length, refl, arith}
use Rattle.base_buffer.proofs.Rings.{sees, placed}
use Rattle.base_buffer.proofs.ring_buffer.RingBuffer.until_end.Goals as goal

pub position-requires : goal.position-requires
position-requires g c =
    let s = c.self.inside in
    let v = sees s.storage.items s.read_at s.length _ c.self.invariant c.self.view_is in
    let n : c.len-capacity.result ≡ length s.storage.items = omega (arith, s.storage.ok.0) in
    rw n (c.self.invariant.start_within, omega (arith, v.room), c.self.invariant.start_below)

pub returns-clause-until_end : goal.returns-clause-until_end
returns-clause-until_end g c =
    let s = c.self.inside in
    let v = sees s.storage.items s.read_at s.length _ c.self.invariant c.self.view_is in
    let n : c.len-capacity.result ≡ length s.storage.items = omega (arith, s.storage.ok.0) in
    rw (v.room, v.starts, c.position.ensures.position, n) refl

pub returns-clause-placed : goal.returns-clause-placed
returns-clause-placed g c =
    let s = c.self.inside in
    placed _ _ _ _ c.self.invariant (sees s.storage.items s.read_at s.length _ c.self.invariant c.self.view_is)
