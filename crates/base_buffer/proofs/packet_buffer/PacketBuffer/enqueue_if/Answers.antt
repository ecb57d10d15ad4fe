use Rattle.std.proofs.Common.{◌≡◌, ◌+◌, ◌-◌, ◌≤◌, length, drop, length-drop, sym, ap, ◌∙◌, arith, rules, of_calls}
use Rattle.std.specs.Fn.{FnOnceReturnsAtMut}
use Rattle.base_buffer.specs.Ring.{anchored, extended, overwritten, laid_from, free_from, unbroken_free, begun_at}
use Rattle.base_buffer.specs.Packets.{padding_for, appended}
use Rattle.base_buffer.proofs.PacketSteps.{has_room, room_following, following, following_anchored, length-anchored_written, restored}
use Rattle.base_buffer.proofs.PacketSteps.{AreEntries-following, packets_seen-following, AreEntries-restored, packets_seen-restored}
use Rattle.base_buffer.proofs.packet_buffer.PacketBuffer.enqueue_if.Goals as goal

pub f-is_kept-requires : goal.f-is_kept-requires
f-is_kept-requires g c =
    let s = c.self.inside in
    let padding = c.in_ok-padding.padding in
    let size = c.args.size in
    let told = c.in_ok-padding.ensures in
    let room = has_room s.metadata s.payload _ padding size c.self.invariant c.self.view_is told.full.1 told.padding in
    let long : length c.get_unallocated.result.now ≡ size = c.get_unallocated.ensures.len ∙ ap (λ r. unbroken_free r padding size) c.anchor.ensures ∙
    room_following s.metadata s.payload padding size room in
    let callable = c.requires.callable c.get_unallocated.result.now long in
    search (rules, callable)

pub pad-requires-clause-positions : goal.pad-requires-clause-positions
pad-requires-clause-positions g c =
    let s = c.self.inside in
    let padding = c.in_ok-padding.padding in
    let size = c.args.size in
    let told = c.in_ok-padding.ensures in
    let room = has_room s.metadata s.payload _ padding size c.self.invariant c.self.view_is told.full.1 told.padding in
    room.position

pub pad-requires-clause-room : goal.pad-requires-clause-room
pad-requires-clause-room g c =
    let s = c.self.inside in
    let padding = c.in_ok-padding.padding in
    let size = c.args.size in
    let told = c.in_ok-padding.ensures in
    let room = has_room s.metadata s.payload _ padding size c.self.invariant c.self.view_is told.full.1 told.padding in
    let long : length c.get_unallocated.result.now ≡ size = c.get_unallocated.ensures.len ∙ ap (λ r. unbroken_free r padding size) c.anchor.ensures ∙
    room_following s.metadata s.payload padding size room in
    let left = c.f-is_kept.new.arg2 in
    let kept : length left ≡ size = c.f-is_kept.auto.arg2 ∙ long in
    let fits : padding + length left ≤ length (anchored s.payload).free = omega (arith, kept, room.window) in
    let laid : laid_from c.anchor.new.self (free_from c.anchor.new.self padding) left ≡ overwritten (anchored s.payload) padding left =
    c.get_unallocated.ensures.written left (c.f-is_kept.auto.arg2 ∙ c.get_unallocated.ensures.len) ∙ ap (λ r. overwritten r padding left) c.anchor.ensures in
    rw laid (omega (arith, length-anchored_written s.payload left padding fits, room.window))

pub enqueue_unallocated-requires : goal.enqueue_unallocated-requires
enqueue_unallocated-requires g c =
    let s = c.self.inside in
    let padding = c.in_ok-padding.padding in
    let size = c.args.size in
    let told = c.in_ok-padding.ensures in
    let room = has_room s.metadata s.payload _ padding size c.self.invariant c.self.view_is told.full.1 told.padding in
    let long : length c.get_unallocated.result.now ≡ size = c.get_unallocated.ensures.len ∙ ap (λ r. unbroken_free r padding size) c.anchor.ensures ∙
    room_following s.metadata s.payload padding size room in
    let left = c.f-is_kept.new.arg2 in
    let kept : length left ≡ size = c.f-is_kept.auto.arg2 ∙ long in
    let fits : padding + length left ≤ length (anchored s.payload).free = omega (arith, kept, room.window) in
    let laid : laid_from c.anchor.new.self (free_from c.anchor.new.self padding) left ≡ overwritten (anchored s.payload) padding left =
    c.get_unallocated.ensures.written left (c.f-is_kept.auto.arg2 ∙ c.get_unallocated.ensures.len) ∙ ap (λ r. overwritten r padding left) c.anchor.ensures in
    let free : length c.pad.new.payload.free ≡ length (anchored s.payload).free - padding = ap (λ r. length r.free) c.pad.ensures.bytes
    ∙ ap (λ r. length (drop padding (anchored r).free)) laid
    ∙ length-drop padding (anchored (overwritten (anchored s.payload) padding left)).free
    ∙ ap (λ n. n - padding) (length-anchored_written s.payload left padding fits) in
    omega (arith, free, room.window)

pub push-requires : goal.push-requires
push-requires g c =
    let s = c.self.inside in
    let padding = c.in_ok-padding.padding in
    let size = c.args.size in
    let told = c.in_ok-padding.ensures in
    let room = has_room s.metadata s.payload _ padding size c.self.invariant c.self.view_is told.full.1 told.padding in
    rw c.pad.ensures.entries room.positions

pub invariant_of-self : goal.invariant_of-self
invariant_of-self g c =
    let s = c.self.inside in
    let padding = c.in_ok-padding.padding in
    let size = c.args.size in
    let told = c.in_ok-padding.ensures in
    let room = has_room s.metadata s.payload _ padding size c.self.invariant c.self.view_is told.full.1 told.padding in
    let long : length c.get_unallocated.result.now ≡ size = c.get_unallocated.ensures.len ∙ ap (λ r. unbroken_free r padding size) c.anchor.ensures ∙
    room_following s.metadata s.payload padding size room in
    let left = c.f-is_kept.new.arg2 in
    let kept : length left ≡ size = c.f-is_kept.auto.arg2 ∙ long in
    let fits : padding + length left ≤ length (anchored s.payload).free = omega (arith, kept, room.window) in
    let laid : laid_from c.anchor.new.self (free_from c.anchor.new.self padding) left ≡ overwritten (anchored s.payload) padding left =
    c.get_unallocated.ensures.written left (c.f-is_kept.auto.arg2 ∙ c.get_unallocated.ensures.len) ∙ ap (λ r. overwritten r padding left) c.anchor.ensures in
    let is : c.enqueue_unallocated.new.self ≡ following (anchored s.payload) padding left = c.enqueue_unallocated.ensures
    ∙ ap (λ r. extended r size) c.pad.ensures.bytes
    ∙ ap (λ r. extended (extended (anchored r) padding) size) laid
    ∙ following_anchored s.payload left padding size fits kept in
    rw (c.push.ensures, c.packet.ensures, c.pad.ensures.entries)
    (AreEntries-following s.metadata s.payload c.enqueue_unallocated.new.self padding size c.args.header left c.self.invariant room kept is)

pub invariant_of-self-else-is_kept : goal.invariant_of-self-else-is_kept
invariant_of-self-else-is_kept g c =
    let s = c.self.inside in
    let padding = c.in_ok-padding.padding in
    let size = c.args.size in
    let told = c.in_ok-padding.ensures in
    let room = has_room s.metadata s.payload _ padding size c.self.invariant c.self.view_is told.full.1 told.padding in
    let long : length c.get_unallocated.result.now ≡ size = c.get_unallocated.ensures.len ∙ ap (λ r. unbroken_free r padding size) c.anchor.ensures ∙
    room_following s.metadata s.payload padding size room in
    let left = c.f-is_kept.new.arg2 in
    let kept : length left ≡ size = c.f-is_kept.auto.arg2 ∙ long in
    let fits : padding + length left ≤ length (anchored s.payload).free = omega (arith, kept, room.window) in
    let laid : laid_from c.anchor.new.self (free_from c.anchor.new.self padding) left ≡ overwritten (anchored s.payload) padding left =
    c.get_unallocated.ensures.written left (c.f-is_kept.auto.arg2 ∙ c.get_unallocated.ensures.len) ∙ ap (λ r. overwritten r padding left) c.anchor.ensures in
    let w = laid_from c.anchor.new.self (free_from c.anchor.new.self padding) left in
    let start : c.begin_at.new.self.start ≡ begun_at w s.payload.start = c.begin_at.ensures.start ∙ ap (λ n. begun_at w n) c.start-start.ensures in
    let same = restored s.payload w c.begin_at.new.self left padding c.self.invariant.placed fits laid c.begin_at.ensures.queue c.begin_at.ensures.capacity start in
    AreEntries-restored s.metadata s.payload c.begin_at.new.self c.self.invariant same

pub returns-then-is_kept-clause-called : goal.returns-then-is_kept-clause-called
returns-then-is_kept-clause-called g c =
    let s = c.self.inside in
    let padding = c.in_ok-padding.padding in
    let size = c.args.size in
    let told = c.in_ok-padding.ensures in
    let room = has_room s.metadata s.payload _ padding size c.self.invariant c.self.view_is told.full.1 told.padding in
    let long : length c.get_unallocated.result.now ≡ size = c.get_unallocated.ensures.len ∙ ap (λ r. unbroken_free r padding size) c.anchor.ensures ∙
    room_following s.metadata s.payload padding size room in
    let left = c.f-is_kept.new.arg2 in
    let kept : length left ≡ size = c.f-is_kept.auto.arg2 ∙ long in
    let fits : padding + length left ≤ length (anchored s.payload).free = omega (arith, kept, room.window) in
    let laid : laid_from c.anchor.new.self (free_from c.anchor.new.self padding) left ≡ overwritten (anchored s.payload) padding left =
    c.get_unallocated.ensures.written left (c.f-is_kept.auto.arg2 ∙ c.get_unallocated.ensures.len) ∙ ap (λ r. overwritten r padding left) c.anchor.ensures in
    let is : c.enqueue_unallocated.new.self ≡ following (anchored s.payload) padding left = c.enqueue_unallocated.ensures
    ∙ ap (λ r. extended r size) c.pad.ensures.bytes
    ∙ ap (λ r. extended (extended (anchored r) padding) size) laid
    ∙ following_anchored s.payload left padding size fits kept in
    let met : FnOnceReturnsAtMut g.F.FnOnce c.args.f c.get_unallocated.result.now c.f-is_kept.result left = search (rules, of_calls) in
    let for = told.padding ∙ ap (λ q. padding_for q size) (sym c.self.view_is) in (
      c.get_unallocated.result.now,
      left,
      long,
      kept,
      met,
      rw (c.push.ensures, c.packet.ensures, c.pad.ensures.entries, c.if-is_kept.true)
          (packets_seen-following s.metadata s.payload c.enqueue_unallocated.new.self padding size c.args.header left c.self.invariant room for kept is
          ∙ ap (λ q. appended q size c.args.header left) c.self.view_is),
    )

pub returns-else-is_kept-clause-called : goal.returns-else-is_kept-clause-called
returns-else-is_kept-clause-called g c =
    let s = c.self.inside in
    let padding = c.in_ok-padding.padding in
    let size = c.args.size in
    let told = c.in_ok-padding.ensures in
    let room = has_room s.metadata s.payload _ padding size c.self.invariant c.self.view_is told.full.1 told.padding in
    let long : length c.get_unallocated.result.now ≡ size = c.get_unallocated.ensures.len ∙ ap (λ r. unbroken_free r padding size) c.anchor.ensures ∙
    room_following s.metadata s.payload padding size room in
    let left = c.f-is_kept.new.arg2 in
    let kept : length left ≡ size = c.f-is_kept.auto.arg2 ∙ long in
    let fits : padding + length left ≤ length (anchored s.payload).free = omega (arith, kept, room.window) in
    let laid : laid_from c.anchor.new.self (free_from c.anchor.new.self padding) left ≡ overwritten (anchored s.payload) padding left =
    c.get_unallocated.ensures.written left (c.f-is_kept.auto.arg2 ∙ c.get_unallocated.ensures.len) ∙ ap (λ r. overwritten r padding left) c.anchor.ensures in
    let w = laid_from c.anchor.new.self (free_from c.anchor.new.self padding) left in
    let start : c.begin_at.new.self.start ≡ begun_at w s.payload.start = c.begin_at.ensures.start ∙ ap (λ n. begun_at w n) c.start-start.ensures in
    let same = restored s.payload w c.begin_at.new.self left padding c.self.invariant.placed fits laid c.begin_at.ensures.queue c.begin_at.ensures.capacity start in
    let met : FnOnceReturnsAtMut g.F.FnOnce c.args.f c.get_unallocated.result.now c.f-is_kept.result left = search (rules, of_calls) in (
      c.get_unallocated.result.now,
      left,
      long,
      kept,
      met,
      rw c.if-is_kept.false (packets_seen-restored s.metadata s.payload c.begin_at.new.self same ∙ c.self.view_is),
    )
