use Rattle.std.proofs.Common.{◌≡◌, min, refl, ap, ◌∙◌, arith}
use Rattle.base_buffer.specs.Ring.{anchored, contiguous, extended}
use Rattle.base_buffer.proofs.PacketSteps.{has_room, room_unbroken, anchored-extended, AreEntries-lent, AreEntries-extended}
use Rattle.base_buffer.proofs.packet_buffer.PacketBuffer.enqueue.Goals as goal

pub pad-requires-clause-positions : goal.pad-requires-clause-positions
pad-requires-clause-positions g c =
    let s = c.self.inside in
    let told = c.in_ok-padding.ensures in
    let room = has_room s.metadata s.payload _ c.in_ok-padding.padding c.args.size c.self.invariant refl told.full.1 told.padding in
    room.position

pub pad-requires-clause-room : goal.pad-requires-clause-room
pad-requires-clause-room g c =
    let s = c.self.inside in
    let told = c.in_ok-padding.ensures in
    let room = has_room s.metadata s.payload _ c.in_ok-padding.padding c.args.size c.self.invariant refl told.full.1 told.padding in
    omega (arith, room.window)

pub push-requires : goal.push-requires
push-requires g c =
    let s = c.self.inside in
    let told = c.in_ok-padding.ensures in
    let room = has_room s.metadata s.payload _ c.in_ok-padding.padding c.args.size c.self.invariant refl told.full.1 told.padding in
    rw c.pad.ensures.entries room.positions

pub invariant_of-self-lent : goal.invariant_of-self-lent
invariant_of-self-lent g c w =
    let s = c.self.inside in
    let padding = c.in_ok-padding.padding in
    let size = c.args.size in
    let told = c.in_ok-padding.ensures in
    let room = has_room s.metadata s.payload _ padding size c.self.invariant refl told.full.1 told.padding in
    let fits = room_unbroken s.metadata s.payload padding size c.self.invariant room in
    let whole : min size (contiguous (extended (anchored s.payload) padding)) ≡ size = omega (arith, fits) in
    rw (c.push.ensures, c.packet.ensures, c.pad.ensures.entries, c.pad.ensures.bytes, anchored-extended s.payload padding, whole)
    (AreEntries-lent _ (extended (extended (anchored s.payload) padding) size) _ w
    (AreEntries-extended s.metadata s.payload padding size c.args.header c.self.invariant room))

pub returns-clause-len : goal.returns-clause-len
returns-clause-len g c =
    let s = c.self.inside in
    let padding = c.in_ok-padding.padding in
    let size = c.args.size in
    let told = c.in_ok-padding.ensures in
    let room = has_room s.metadata s.payload _ padding size c.self.invariant refl told.full.1 told.padding in
    let fits = room_unbroken s.metadata s.payload padding size c.self.invariant room in
    c.enqueue_many.ensures.len ∙ ap (λ r. min size (contiguous (anchored r))) c.pad.ensures.bytes ∙
    ap (λ r. min size (contiguous r)) (anchored-extended s.payload padding) ∙ omega (arith, fits)
