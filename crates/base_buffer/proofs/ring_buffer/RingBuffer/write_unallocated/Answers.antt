use Rattle.std.proofs.Common.{◌≡◌, ◌+◌, ◌-◌, length, take, min, refl, ap, ◌∙◌, arith}
use Rattle.std.proofs.lemmas.List.{length-take-le}
use Rattle.base_buffer.specs.Ring.{overwritten, until_end}
use Rattle.base_buffer.proofs.RingSteps.{second_part, write_twice, overwritten-past}
use Rattle.base_buffer.proofs.ring_buffer.RingBuffer.write_unallocated.Goals as goal

pub part_mut-requires-2-clause-within : goal.part_mut-requires-2-clause-within
part_mut-requires-2-clause-within g c =
    let r = c.args.self.now in
    let first : c.min-first.result ≡ min c.min-count.result (until_end r (length r.queue + c.min-offset.result)) =
    c.min-first.ensures ∙ rw (c.until_end.ensures.until_end, c.len-2.ensures) refl in
    let e = second_part r c.min-offset.result c.min-count.result c.min-first.result c.copy_from_slice.new.self c.capacity.ensures.placed
    (omega (arith, c.capacity.ensures.capacity)) first (c.copy_from_slice.ensures.len ∙ c.part_mut.ensures.len) in
    rw c.len-2.ensures e.0

pub part_mut-requires-2-clause-unbroken : goal.part_mut-requires-2-clause-unbroken
part_mut-requires-2-clause-unbroken g c =
    let r = c.args.self.now in
    let first : c.min-first.result ≡ min c.min-count.result (until_end r (length r.queue + c.min-offset.result)) =
    c.min-first.ensures ∙ rw (c.until_end.ensures.until_end, c.len-2.ensures) refl in
    let e = second_part r c.min-offset.result c.min-count.result c.min-first.result c.copy_from_slice.new.self c.capacity.ensures.placed
    (omega (arith, c.capacity.ensures.capacity)) first (c.copy_from_slice.ensures.len ∙ c.part_mut.ensures.len) in
    rw c.len-2.ensures e.1

pub returns-clause-written : goal.returns-clause-written
returns-clause-written g c =
    let r = c.args.self.now in
    let first : c.min-first.result ≡ min c.min-count.result (until_end r (length r.queue + c.min-offset.result)) =
    c.min-first.ensures ∙ rw (c.until_end.ensures.until_end, c.len-2.ensures) refl in
    let w : c.capacity.result - c.len.result ≡ length r.free = omega (arith, c.capacity.ensures.capacity) in
    let o : c.min-offset.result ≡ min c.args.offset (length r.free) = c.min-offset.ensures ∙ ap (λ n. min c.args.offset n) w in
    rw c.len-2.ensures (
    write_twice r c.min-offset.result c.min-count.result c.min-first.result c.copy_from_slice.new.self c.copy_from_slice-2.new.self c.args.data.now
    c.capacity.ensures.placed (omega (arith, c.capacity.ensures.capacity)) first (omega arith) c.copy_from_slice.ensures.after
    c.copy_from_slice-2.ensures.after
    ∙ ap (λ i. overwritten r i (take c.min-count.result c.args.data.now)) o
    ∙ overwritten-past r c.args.offset (take c.min-count.result c.args.data.now)
    (rw (length-take-le c.min-count.result c.args.data.now (omega arith)) (omega arith))
    )
