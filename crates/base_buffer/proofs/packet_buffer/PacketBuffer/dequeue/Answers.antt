use Rattle.std.proofs.Common.{◌-◌, refl}
use Rattle.base_buffer.specs.Ring.{released, capacity}
use Rattle.base_buffer.proofs.PacketSteps.{fronts, AreEntries-lent, AreEntries-without_first, length-released, capacity-released}
use Rattle.base_buffer.proofs.packet_buffer.PacketBuffer.dequeue.Goals as goal

pub invariant_of-self-lent : goal.invariant_of-self-lent
invariant_of-self-lent g c w =
    let s = c.self.inside in
    let size = c.in_ok-header.size in
    let taken = c.in_ok-header.ensures.first in
    let f = fronts s.metadata s.payload size c.in_ok-header.header c.self.invariant taken in
    rw f.whole (AreEntries-lent c.take_entry.new.metadata (released s.payload size) (capacity s.payload - size) w
    (AreEntries-without_first s.metadata c.take_entry.new.metadata s.payload (released s.payload size) size c.in_ok-header.header c.self.invariant taken
    c.in_ok-header.ensures.rest (length-released s.payload (released s.payload size) size f.fits refl) refl
    (capacity-released s.payload (released s.payload size) size f.fits refl)))
