use Rattle.std.proofs.Common.{◌≡◌, ◌≤◌, length, take, refl, ap, ◌∙◌, arith, rules}
use Rattle.std.proofs.lemmas.List.{drop_at}
use Rattle.base_buffer.specs.Ring.{laid_from, overwritten, anchored, contiguous, extended, offered}
use Rattle.base_buffer.proofs.RingSteps.{laid_from-many, length-overwritten_many}
use Rattle.base_buffer.proofs.ring_buffer.RingBuffer.enqueue_many_with.Goals as goal
use Rattle.std.specs.Fn.{FnOnceReturnsAtMut}
use Rattle.std.proofs.Common.{of_calls}

pub enqueue_unallocated-requires : goal.enqueue_unallocated-requires
enqueue_unallocated-requires g c =
    let r = c.anchor.new.self in
    let old : r ≡ anchored c.args.self.now = c.anchor.ensures in
    let lent : c.part_mut.result.now ≡ take (contiguous r) r.free =
    c.part_mut.ensures.value ∙ rw (c.contiguous_window-size.ensures, c.len-from.ensures, drop_at r.queue r.free (length r.queue) refl) refl in
    let met : FnOnceReturnsAtMut g.F.FnOnce c.args.f c.part_mut.result.now c.f-count.result c.f-count.new.arg2 = search (rules, of_calls) in
    let met' : FnOnceReturnsAtMut g.F.FnOnce c.args.f (offered c.args.self.now) c.f-count.result c.f-count.new.arg2 = rw (lent, old) at met in
    let count : c.f-count.result.0 ≤ contiguous r = rw old (c.requires.within c.f-count.result c.f-count.new.arg2 met') in
    let long : length c.f-count.new.arg2 ≡ contiguous r = c.f-count.auto.arg2 ∙ c.part_mut.ensures.len ∙ c.contiguous_window-size.ensures in
    let laid : laid_from r c.len-from.result c.f-count.new.arg2 ≡ overwritten r 0 c.f-count.new.arg2 =
    ap (λ i. laid_from r i c.f-count.new.arg2) c.len-from.ensures ∙ laid_from-many r c.f-count.new.arg2 c.part_mut.ensures.placed (omega arith) (omega arith) in
    let room : length (laid_from r c.len-from.result c.f-count.new.arg2).free ≡ length r.free =
    ap (λ s. length s.free) laid ∙ length-overwritten_many r c.f-count.new.arg2 (omega arith) in
    omega (arith, room)

pub returns : goal.returns
returns g c =
    let r = c.anchor.new.self in
    let old : r ≡ anchored c.args.self.now = c.anchor.ensures in
    let lent : c.part_mut.result.now ≡ take (contiguous r) r.free =
    c.part_mut.ensures.value ∙ rw (c.contiguous_window-size.ensures, c.len-from.ensures, drop_at r.queue r.free (length r.queue) refl) refl in
    let met : FnOnceReturnsAtMut g.F.FnOnce c.args.f c.part_mut.result.now c.f-count.result c.f-count.new.arg2 = search (rules, of_calls) in
    let met' : FnOnceReturnsAtMut g.F.FnOnce c.args.f (offered c.args.self.now) c.f-count.result c.f-count.new.arg2 = rw (lent, old) at met in
    let long : length c.f-count.new.arg2 ≡ contiguous r = c.f-count.auto.arg2 ∙ c.part_mut.ensures.len ∙ c.contiguous_window-size.ensures in
    let laid : laid_from r c.len-from.result c.f-count.new.arg2 ≡ overwritten r 0 c.f-count.new.arg2 =
    ap (λ i. laid_from r i c.f-count.new.arg2) c.len-from.ensures ∙
    laid_from-many r c.f-count.new.arg2 c.part_mut.ensures.placed (omega arith) (omega arith) in (
      c.f-count.new.arg2,
      long ∙ ap contiguous old,
      met',
      c.enqueue_unallocated.ensures ∙ ap (λ s. extended s c.f-count.result.0) (laid ∙ ap (λ s. overwritten s 0 c.f-count.new.arg2) old),
    )
