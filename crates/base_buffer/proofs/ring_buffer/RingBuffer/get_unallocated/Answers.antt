use Rattle.std.proofs.Common.{inl, inr, ◌≡◌, ℕ, ◌+◌, ◌-◌, length, min, refl, ap, ◌∙◌, arith}
use Rattle.std.proofs.lemmas.Bool.{cases_lt}
use Rattle.base_buffer.specs.Ring.{Ring, laid_from, until_end, unbroken_free}
use Rattle.base_buffer.proofs.RingSteps.{laid_from-unallocated, just_free}
use Rattle.base_buffer.proofs.ring_buffer.RingBuffer.get_unallocated.Goals as goal

-- what does not fit is cut off; past the end that is everything
size_of : {X : Type 0} (r : Ring X) (offset size at most end len : ℕ) → at ≡ min offset (length r.free) →
    end ≡ until_end r (length r.queue + min offset (length r.free)) → most ≡ min size (length r.free - at) → len ≡ min most end →
    len ≡ unbroken_free r offset size
size_of r offset size at most end len a e m l = elim (cases_lt (length r.free) offset) [
  | inl past ↦ omega arith
  | inr here ↦ let same : min offset (length r.free) ≡ offset = omega arith in
      let e' : end ≡ until_end r (length r.queue + offset) = e ∙ ap (λ i. until_end r (length r.queue + i)) same in
      omega arith
]

pub returns : goal.returns
returns g c =
    let r = c.args.self.now in
    let w : c.capacity.result - c.len.result ≡ length r.free = omega (arith, c.capacity.ensures.capacity) in
    let o : c.min-offset.result ≡ min c.args.offset (length r.free) = c.min-offset.ensures ∙ ap (λ n. min c.args.offset n) w in
    let at : c.len-2.result + c.min-offset.result ≡ length r.queue + min c.args.offset (length r.free) = omega arith in
    let end : c.until_end.result ≡ until_end r (length r.queue + min c.args.offset (length r.free)) = rw at at c.until_end.ensures.until_end in
    let size : c.min-size.result ≡ unbroken_free r c.args.offset c.args.size =
    size_of r c.args.offset c.args.size c.min-offset.result c.min.result c.until_end.result c.min-size.result o end (omega arith) c.min-size.ensures in (
      (refl, λ ws. ap (λ i. laid_from r i ws) at),
      record {
        lends = tt;
        len = c.part_mut.ensures.len ∙ size;
        value = c.part_mut.ensures.value ∙ rw (at, size) (just_free r c.args.offset (unbroken_free r c.args.offset c.args.size) (omega arith));
        written = λ ws long. laid_from-unallocated r c.args.offset c.args.size ws c.capacity.ensures.placed long;
      },
    )
