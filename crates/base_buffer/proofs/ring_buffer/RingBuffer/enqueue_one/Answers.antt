use Rattle.std.proofs.Common.{◌≡◌, ◌<◌, [], ◌∷◌, length, refl, sym, ◌∙◌, arith}
use Rattle.base_buffer.specs.Ring.{laid_from, enqueued, IsPlaced}
use Rattle.base_buffer.proofs.RingSteps.{laid_from-extended, one_unbroken, IsPlaced-extended}
use Rattle.base_buffer.proofs.ring_buffer.RingBuffer.enqueue_one.Goals as goal
use Rattle.std.proofs.Common.{inl}
use Rattle.std.proofs.lemmas.Bool.{false≢true}
use Rattle.base_buffer.proofs.RingSteps.{not_empty, just_queued, IsPlaced-extended}

pub returns : goal.returns
returns g c =
    let r = c.args.self.now in
    let some : 0 < length r.free = not_empty r.free (λ e. false≢true (sym c.if-is_full.false ∙ c.is_full.ensures.1 e)) in
    let placed : IsPlaced r = IsPlaced-extended r 1 some (rw c.enqueue_unallocated.ensures at c.element_mut.ensures.placed) in
    let one = one_unbroken r (length r.queue) placed (omega arith) in
    let laid : (w : g.row.T.Denot) → laid_from c.enqueue_unallocated.new.self c.len-from.result (w ∷ []) ≡ enqueued r (w ∷ []) =
    λ w. rw (c.enqueue_unallocated.ensures, c.len-from.ensures) (laid_from-extended r 1 (w ∷ []) placed (omega arith) refl) in (
      λ i. inl (c.element_mut.result.ghost_name, λ w. laid w i),
      record {
        lends = tt;
        full = (λ e. absurd (false≢true e), λ e. sym c.if-is_full.false ∙ c.is_full.ensures.1 e);
        value = just_queued r _ (rw (c.enqueue_unallocated.ensures, c.len-from.ensures) at c.element_mut.ensures.value);
      },
    )
