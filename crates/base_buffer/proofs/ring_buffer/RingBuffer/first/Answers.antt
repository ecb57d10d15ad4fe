use Rattle.std.proofs.Common.{arith}
use Rattle.base_buffer.proofs.Rings.{sees, element_of, first_offset}
use Rattle.base_buffer.proofs.RingSteps.{first_queued}
use Rattle.base_buffer.proofs.ring_buffer.RingBuffer.first.Goals as goal

pub index-requires : goal.index-requires
index-requires g c =
    let s = c.self.inside in
    let v = sees s.storage.items s.read_at s.length _ c.self.invariant c.self.view_is in
    omega (arith, s.storage.ok.0, c.self.invariant.start_below (omega (arith, v.room, c.requires)))

pub returns : goal.returns
returns g c =
    let s = c.self.inside in
    let v = sees s.storage.items s.read_at s.length _ c.self.invariant c.self.view_is in
    first_queued c.args.self.now _ c.requires
    (element_of s.storage.items s.read_at s.length _ s.read_at 0 c.index.result.now c.self.invariant v
    (first_offset s.storage.items s.read_at s.length c.self.invariant) (omega (arith, v.room, c.requires)) c.index.ensures)
