use Rattle.std.proofs.Common.{subst, ◌≡◌, length, take, min, refl, sym, ap, ◌∙◌, arith}
use Rattle.base_buffer.specs.Ring.{Ring, laid_from, anchored, contiguous, extended, IsPlaced}
use Rattle.base_buffer.proofs.RingSteps.{laid_from-extended, IsPlaced-extended, just_extended, anchored-queue}
use Rattle.base_buffer.proofs.ring_buffer.RingBuffer.enqueue_many.Goals as goal

pub returns : goal.returns
returns g c =
    let r = c.anchor.new.self in
    let k : c.min-size.result ≡ min c.args.size (contiguous r) = c.min-size.ensures ∙ ap (λ n. min c.args.size n) c.contiguous_window.ensures in
    let placed : IsPlaced r = IsPlaced-extended r c.min-size.result (omega arith) (rw c.enqueue_unallocated.ensures at c.part_mut.ensures.placed) in
    let at : length (anchored c.args.self.now).queue ≡ length c.args.self.now.queue = anchored-queue c.args.self.now in
    let n : c.len-from.result ≡ length c.args.self.now.queue = c.len-from.ensures ∙ ap (λ s. length s.queue) c.anchor.ensures ∙ at in (
      (refl, λ ws. rw (c.enqueue_unallocated.ensures, k, n, c.anchor.ensures) refl),
      record {
        lends = tt;
        len = c.part_mut.ensures.len ∙ k ∙ ap (λ s. min c.args.size (contiguous s)) c.anchor.ensures;
        value = c.part_mut.ensures.value ∙
            rw (c.enqueue_unallocated.ensures, c.len-from.ensures, k) (just_extended r (min c.args.size (contiguous r)) (omega arith)) ∙
            ap (λ s. take (min c.args.size (contiguous s)) s.free) c.anchor.ensures;
        written = λ ws long. let f : Ring g.row.T.Denot = anchored c.args.self.now in
            ap (λ i. laid_from (extended f (min c.args.size (contiguous f))) i ws) (sym at)
            ∙ laid_from-extended f (min c.args.size (contiguous f)) ws (subst (λ (s : Ring g.row.T.Denot). IsPlaced s) c.anchor.ensures placed)
            (omega arith) long;
      },
    )
