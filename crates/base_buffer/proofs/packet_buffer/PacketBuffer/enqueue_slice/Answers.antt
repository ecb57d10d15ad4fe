use Rattle.std.proofs.Common.{◌≡◌, length, take, refl, sym, ap, ◌∙◌, arith}
use Rattle.std.proofs.lemmas.List.{take_all}
use Rattle.base_buffer.specs.Ring.{anchored, extended, overwritten, laid_from, free_from, unbroken_free}
use Rattle.base_buffer.specs.Packets.{padding_for, appended}
use Rattle.base_buffer.proofs.RingSteps.{length-overwritten_many}
use Rattle.base_buffer.proofs.PacketSteps.{has_room, room_unbroken, lent_whole, AreEntries-written, packets_seen-written}
use Rattle.base_buffer.proofs.packet_buffer.PacketBuffer.enqueue_slice.Goals as goal

pub pad-requires-clause-positions : goal.pad-requires-clause-positions
pad-requires-clause-positions g c =
    let s = c.self.inside in
    let padding = c.in_ok-padding.padding in
    let size = length c.args.data.now in
    let told = c.in_ok-padding.ensures in
    let room = has_room s.metadata s.payload _ padding size c.self.invariant c.self.view_is told.full.1 told.padding in
    room.position

pub pad-requires-clause-room : goal.pad-requires-clause-room
pad-requires-clause-room g c =
    let s = c.self.inside in
    let padding = c.in_ok-padding.padding in
    let size = length c.args.data.now in
    let told = c.in_ok-padding.ensures in
    let room = has_room s.metadata s.payload _ padding size c.self.invariant c.self.view_is told.full.1 told.padding in
    omega (arith, room.window)

pub push-requires : goal.push-requires
push-requires g c =
    let s = c.self.inside in
    let padding = c.in_ok-padding.padding in
    let size = length c.args.data.now in
    let told = c.in_ok-padding.ensures in
    let room = has_room s.metadata s.payload _ padding size c.self.invariant c.self.view_is told.full.1 told.padding in
    rw c.pad.ensures.entries room.positions

pub copy_from_slice-requires : goal.copy_from_slice-requires
copy_from_slice-requires g c =
    let s = c.self.inside in
    let padding = c.in_ok-padding.padding in
    let size = length c.args.data.now in
    let told = c.in_ok-padding.ensures in
    let room = has_room s.metadata s.payload _ padding size c.self.invariant c.self.view_is told.full.1 told.padding in
    let e = extended (anchored s.payload) padding in
    let fits = room_unbroken s.metadata s.payload padding size c.self.invariant room in
    let long : length c.get_unallocated-bytes.result.now ≡ size = c.get_unallocated-bytes.ensures.len ∙ ap (λ r. unbroken_free r 0 size) c.pad.ensures.bytes ∙
    lent_whole e size fits in
    long

pub enqueue_unallocated-requires : goal.enqueue_unallocated-requires
enqueue_unallocated-requires g c =
    let s = c.self.inside in
    let padding = c.in_ok-padding.padding in
    let size = length c.args.data.now in
    let told = c.in_ok-padding.ensures in
    let room = has_room s.metadata s.payload _ padding size c.self.invariant c.self.view_is told.full.1 told.padding in
    let e = extended (anchored s.payload) padding in
    let fits = room_unbroken s.metadata s.payload padding size c.self.invariant room in
    let long : length c.get_unallocated-bytes.result.now ≡ size = c.get_unallocated-bytes.ensures.len ∙ ap (λ r. unbroken_free r 0 size) c.pad.ensures.bytes ∙
    lent_whole e size fits in
    let left = c.copy_from_slice.new.self in
    let copied : left ≡ c.args.data.now = c.copy_from_slice.ensures.after in
    let laid : laid_from c.pad.new.payload (free_from c.pad.new.payload 0) left ≡ overwritten e 0 left =
    c.get_unallocated-bytes.ensures.written left (c.copy_from_slice.ensures.len ∙ c.get_unallocated-bytes.ensures.len) ∙
    ap (λ r. overwritten r 0 left) c.pad.ensures.bytes in
    let same = length-overwritten_many e left (omega (arith, ap length copied, fits)) in
    rw laid (omega (arith, same, fits))

pub invariant_of-self : goal.invariant_of-self
invariant_of-self g c =
    let s = c.self.inside in
    let padding = c.in_ok-padding.padding in
    let size = length c.args.data.now in
    let told = c.in_ok-padding.ensures in
    let room = has_room s.metadata s.payload _ padding size c.self.invariant c.self.view_is told.full.1 told.padding in
    let e = extended (anchored s.payload) padding in
    let fits = room_unbroken s.metadata s.payload padding size c.self.invariant room in
    let long : length c.get_unallocated-bytes.result.now ≡ size = c.get_unallocated-bytes.ensures.len ∙ ap (λ r. unbroken_free r 0 size) c.pad.ensures.bytes ∙
    lent_whole e size fits in
    let left = c.copy_from_slice.new.self in
    let copied : left ≡ c.args.data.now = c.copy_from_slice.ensures.after in
    let laid : laid_from c.pad.new.payload (free_from c.pad.new.payload 0) left ≡ overwritten e 0 left =
    c.get_unallocated-bytes.ensures.written left (c.copy_from_slice.ensures.len ∙ c.get_unallocated-bytes.ensures.len) ∙
    ap (λ r. overwritten r 0 left) c.pad.ensures.bytes in
    rw (c.push.ensures, c.packet.ensures, c.pad.ensures.entries, c.enqueue_unallocated.ensures, laid)
    (AreEntries-written s.metadata s.payload padding size size c.args.header left c.self.invariant room (omega arith) (ap length copied))

pub returns-clause-queued : goal.returns-clause-queued
returns-clause-queued g c =
    let s = c.self.inside in
    let padding = c.in_ok-padding.padding in
    let size = length c.args.data.now in
    let told = c.in_ok-padding.ensures in
    let room = has_room s.metadata s.payload _ padding size c.self.invariant c.self.view_is told.full.1 told.padding in
    let e = extended (anchored s.payload) padding in
    let fits = room_unbroken s.metadata s.payload padding size c.self.invariant room in
    let long : length c.get_unallocated-bytes.result.now ≡ size = c.get_unallocated-bytes.ensures.len ∙ ap (λ r. unbroken_free r 0 size) c.pad.ensures.bytes ∙
    lent_whole e size fits in
    let left = c.copy_from_slice.new.self in
    let copied : left ≡ c.args.data.now = c.copy_from_slice.ensures.after in
    let laid : laid_from c.pad.new.payload (free_from c.pad.new.payload 0) left ≡ overwritten e 0 left =
    c.get_unallocated-bytes.ensures.written left (c.copy_from_slice.ensures.len ∙ c.get_unallocated-bytes.ensures.len) ∙
    ap (λ r. overwritten r 0 left) c.pad.ensures.bytes in
    let is = told.padding ∙ ap (λ q. padding_for q size) (sym c.self.view_is) in
    rw (c.push.ensures, c.packet.ensures, c.pad.ensures.entries, c.enqueue_unallocated.ensures, laid)
    (packets_seen-written s.metadata s.payload padding size size c.args.header left c.self.invariant room is (omega arith) (ap length copied))
    ∙ ap (λ q. appended q size c.args.header (take size left)) c.self.view_is
    ∙ ap (λ bs. appended c.args.self.now size c.args.header bs) (ap (λ bs. take size bs) copied ∙ take_all size c.args.data.now (omega arith))
