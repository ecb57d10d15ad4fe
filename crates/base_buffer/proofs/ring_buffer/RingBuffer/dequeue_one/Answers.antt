use Rattle.std.proofs.Common.{◌≡◌, ◌-◌, ◌<◌, [], ◌∷◌, length, refl, sym, ◌∙◌, arith}
use Rattle.base_buffer.specs.Ring.{laid_from, dequeued}
use Rattle.base_buffer.proofs.RingSteps.{laid_from-released, one_unbroken}
use Rattle.base_buffer.proofs.ring_buffer.RingBuffer.dequeue_one.Goals as goal
use Rattle.std.proofs.Common.{inl}
use Rattle.std.proofs.lemmas.Bool.{false≢true}
use Rattle.base_buffer.proofs.RingSteps.{not_empty, just_given}

pub returns : goal.returns
returns g c =
    let r = c.args.self.now in
    let some : 0 < length r.queue = not_empty r.queue (λ e. false≢true (sym c.if-is_empty.false ∙ c.is_empty.ensures.1 e)) in
    let one = one_unbroken r 0 c.capacity-last.ensures.placed (omega arith) in
    let laid : (w : g.row.T.Denot) → laid_from c.dequeue_allocated.new.self (c.capacity-last.result - 1) (w ∷ []) ≡ dequeued r (w ∷ []) =
    λ w. rw (c.dequeue_allocated.ensures, c.capacity-last.ensures.capacity) (laid_from-released r 1 (w ∷ []) c.capacity-last.ensures.placed some one refl) in (
      λ i. inl (c.element_mut.result.ghost_name, λ w. laid w i),
      record {
        lends = tt;
        empty = (λ e. absurd (false≢true e), λ e. sym c.if-is_empty.false ∙ c.is_empty.ensures.1 e);
        value = just_given r _ some (rw (c.dequeue_allocated.ensures, c.capacity-last.ensures.capacity) at c.element_mut.ensures.value);
      },
    )
