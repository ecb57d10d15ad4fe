use Rattle.std.proofs.Common.{[], ◌∷◌, refl, ap, ◌∙◌}
use Rattle.base_buffer.specs.Ring.{laid_from}
use Rattle.base_buffer.proofs.RingSteps.{laid_from-next}
use Rattle.base_buffer.proofs.ring_buffer.RingBuffer.next_mut.Goals as goal
use Rattle.base_buffer.proofs.RingSteps.{next_free}

pub returns : goal.returns
returns g c =
    let r = c.args.self.now in (
      (refl, λ w. ap (λ i. laid_from r i (w ∷ [])) c.len-from.ensures ∙ laid_from-next r w c.element_mut.ensures.placed c.requires),
      record { lends = tt; value = next_free r _ (rw c.len-from.ensures at c.element_mut.ensures.value) },
    )
