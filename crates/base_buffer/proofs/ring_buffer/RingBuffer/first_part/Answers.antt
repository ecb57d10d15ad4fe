use Rattle.std.proofs.Common.{◌∙◌, arith}
use Rattle.std.proofs.lemmas.List.{take-append-le}
use Rattle.base_buffer.proofs.Rings.{sees, part_of, ends_within, first_offset}
use Rattle.base_buffer.proofs.ring_buffer.RingBuffer.first_part.Goals as goal

pub overflow_add-result : goal.overflow_add-result
overflow_add-result g c =
    let s = c.self.inside in
    let v = sees s.storage.items s.read_at s.length _ c.self.invariant c.self.view_is in
    let ends = ends_within s.storage.items s.read_at s.length _ s.read_at 0 c.args.size v (first_offset s.storage.items s.read_at s.length c.self.invariant)
    c.self.invariant.start_within c.requires.unbroken in
    omega (arith, s.storage.ok.0, ends)

pub slice_bounds-result-end : goal.slice_bounds-result-end
slice_bounds-result-end g c =
    let s = c.self.inside in
    let v = sees s.storage.items s.read_at s.length _ c.self.invariant c.self.view_is in
    let ends = ends_within s.storage.items s.read_at s.length _ s.read_at 0 c.args.size v (first_offset s.storage.items s.read_at s.length c.self.invariant)
    c.self.invariant.start_within c.requires.unbroken in
    omega (arith, s.storage.ok.0, ends)

pub returns : goal.returns
returns g c =
    let s = c.self.inside in
    let v = sees s.storage.items s.read_at s.length _ c.self.invariant c.self.view_is in
    let ends = ends_within s.storage.items s.read_at s.length _ s.read_at 0 c.args.size v (first_offset s.storage.items s.read_at s.length c.self.invariant)
    c.self.invariant.start_within c.requires.unbroken in
    rw c.as_slice.ensures.value
    (part_of s.storage.items s.read_at s.length _ s.read_at 0 c.args.size c.self.invariant v
    (first_offset s.storage.items s.read_at s.length c.self.invariant) (omega (arith, ends)) ends
    ∙ take-append-le c.args.size c.args.self.now.queue c.args.self.now.free c.requires.queued)
