use Rattle.std.proofs.Common.{◌≡◌, length, take, sym, ap, ◌∙◌, arith, rules, of_calls}
use Rattle.std.specs.Fn.{FnOnceReturnsAtMut}
use Rattle.base_buffer.specs.Ring.{anchored, extended, overwritten, laid_from, free_from, unbroken_free}
use Rattle.base_buffer.specs.Packets.{padding_for, appended}
use Rattle.base_buffer.proofs.RingSteps.{length-overwritten_many}
use Rattle.base_buffer.proofs.PacketSteps.{has_room, room_unbroken, lent_whole, AreEntries-written, packets_seen-written}
use Rattle.base_buffer.proofs.packet_buffer.PacketBuffer.enqueue_with_infallible.Goals as goal

pub pad-requires-clause-positions : goal.pad-requires-clause-positions
pad-requires-clause-positions g c =
    let s = c.self.inside in
    let padding = c.in_ok-padding.padding in
    let size = c.args.max_size in
    let told = c.in_ok-padding.ensures in
    let room = has_room s.metadata s.payload _ padding size c.self.invariant c.self.view_is told.full.1 told.padding in
    room.position

pub pad-requires-clause-room : goal.pad-requires-clause-room
pad-requires-clause-room g c =
    let s = c.self.inside in
    let padding = c.in_ok-padding.padding in
    let size = c.args.max_size in
    let told = c.in_ok-padding.ensures in
    let room = has_room s.metadata s.payload _ padding size c.self.invariant c.self.view_is told.full.1 told.padding in
    omega (arith, room.window)

pub f-size-requires : goal.f-size-requires
f-size-requires g c =
    let s = c.self.inside in
    let padding = c.in_ok-padding.padding in
    let size = c.args.max_size in
    let told = c.in_ok-padding.ensures in
    let room = has_room s.metadata s.payload _ padding size c.self.invariant c.self.view_is told.full.1 told.padding in
    let e = extended (anchored s.payload) padding in
    let fits = room_unbroken s.metadata s.payload padding size c.self.invariant room in
    let long : length c.get_unallocated.result.now ≡ size = c.get_unallocated.ensures.len ∙ ap (λ r. unbroken_free r 0 size) c.pad.ensures.bytes ∙
    lent_whole e size fits in
    let callable = c.requires.callable c.get_unallocated.result.now long in
    search (rules, callable)

pub enqueue_unallocated-requires : goal.enqueue_unallocated-requires
enqueue_unallocated-requires g c =
    let s = c.self.inside in
    let padding = c.in_ok-padding.padding in
    let size = c.args.max_size in
    let told = c.in_ok-padding.ensures in
    let room = has_room s.metadata s.payload _ padding size c.self.invariant c.self.view_is told.full.1 told.padding in
    let e = extended (anchored s.payload) padding in
    let fits = room_unbroken s.metadata s.payload padding size c.self.invariant room in
    let long : length c.get_unallocated.result.now ≡ size = c.get_unallocated.ensures.len ∙ ap (λ r. unbroken_free r 0 size) c.pad.ensures.bytes ∙
    lent_whole e size fits in
    let left = c.f-size.new.arg2 in
    let met : FnOnceReturnsAtMut g.F.FnOnce c.args.f c.get_unallocated.result.now c.f-size.result left = search (rules, of_calls) in
    let count = c.requires.within c.get_unallocated.result.now left c.f-size.result long met in
    let kept : length left ≡ size = c.f-size.auto.arg2 ∙ long in
    let laid : laid_from c.pad.new.payload (free_from c.pad.new.payload 0) left ≡ overwritten e 0 left =
    c.get_unallocated.ensures.written left (c.f-size.auto.arg2 ∙ c.get_unallocated.ensures.len) ∙ ap (λ r. overwritten r 0 left) c.pad.ensures.bytes in
    let same = length-overwritten_many e left (omega (arith, kept, fits)) in
    rw laid (omega (arith, same, count, fits))

pub push-requires : goal.push-requires
push-requires g c =
    let s = c.self.inside in
    let padding = c.in_ok-padding.padding in
    let size = c.args.max_size in
    let told = c.in_ok-padding.ensures in
    let room = has_room s.metadata s.payload _ padding size c.self.invariant c.self.view_is told.full.1 told.padding in
    rw c.pad.ensures.entries room.positions

pub invariant_of-self : goal.invariant_of-self
invariant_of-self g c =
    let s = c.self.inside in
    let padding = c.in_ok-padding.padding in
    let size = c.args.max_size in
    let told = c.in_ok-padding.ensures in
    let room = has_room s.metadata s.payload _ padding size c.self.invariant c.self.view_is told.full.1 told.padding in
    let e = extended (anchored s.payload) padding in
    let fits = room_unbroken s.metadata s.payload padding size c.self.invariant room in
    let long : length c.get_unallocated.result.now ≡ size = c.get_unallocated.ensures.len ∙ ap (λ r. unbroken_free r 0 size) c.pad.ensures.bytes ∙
    lent_whole e size fits in
    let left = c.f-size.new.arg2 in
    let met : FnOnceReturnsAtMut g.F.FnOnce c.args.f c.get_unallocated.result.now c.f-size.result left = search (rules, of_calls) in
    let count = c.requires.within c.get_unallocated.result.now left c.f-size.result long met in
    let kept : length left ≡ size = c.f-size.auto.arg2 ∙ long in
    let laid : laid_from c.pad.new.payload (free_from c.pad.new.payload 0) left ≡ overwritten e 0 left =
    c.get_unallocated.ensures.written left (c.f-size.auto.arg2 ∙ c.get_unallocated.ensures.len) ∙ ap (λ r. overwritten r 0 left) c.pad.ensures.bytes in
    rw (c.push.ensures, c.packet.ensures, c.pad.ensures.entries, c.enqueue_unallocated.ensures, laid)
    (AreEntries-written s.metadata s.payload padding size c.f-size.result c.args.header left c.self.invariant room count kept)

pub returns-clause-called : goal.returns-clause-called
returns-clause-called g c =
    let s = c.self.inside in
    let padding = c.in_ok-padding.padding in
    let size = c.args.max_size in
    let told = c.in_ok-padding.ensures in
    let room = has_room s.metadata s.payload _ padding size c.self.invariant c.self.view_is told.full.1 told.padding in
    let e = extended (anchored s.payload) padding in
    let fits = room_unbroken s.metadata s.payload padding size c.self.invariant room in
    let long : length c.get_unallocated.result.now ≡ size = c.get_unallocated.ensures.len ∙ ap (λ r. unbroken_free r 0 size) c.pad.ensures.bytes ∙
    lent_whole e size fits in
    let left = c.f-size.new.arg2 in
    let met : FnOnceReturnsAtMut g.F.FnOnce c.args.f c.get_unallocated.result.now c.f-size.result left = search (rules, of_calls) in
    let count = c.requires.within c.get_unallocated.result.now left c.f-size.result long met in
    let kept : length left ≡ size = c.f-size.auto.arg2 ∙ long in
    let laid : laid_from c.pad.new.payload (free_from c.pad.new.payload 0) left ≡ overwritten e 0 left =
    c.get_unallocated.ensures.written left (c.f-size.auto.arg2 ∙ c.get_unallocated.ensures.len) ∙ ap (λ r. overwritten r 0 left) c.pad.ensures.bytes in
    let is = told.padding ∙ ap (λ q. padding_for q size) (sym c.self.view_is) in (
      c.get_unallocated.result.now,
      left,
      long,
      kept,
      met,
      rw (c.push.ensures, c.packet.ensures, c.pad.ensures.entries, c.enqueue_unallocated.ensures, laid)
          (packets_seen-written s.metadata s.payload padding size c.f-size.result c.args.header left c.self.invariant room is count kept)
          ∙ ap (λ q. appended q size c.args.header (take c.f-size.result left)) c.self.view_is,
    )
