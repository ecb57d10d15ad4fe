use Rattle.std.proofs.Common.{refl}
use Rattle.base_buffer.proofs.RingSteps.{laid_from-first, first_queued}
use Rattle.base_buffer.proofs.ring_buffer.RingBuffer.first_mut.Goals as goal

pub returns : goal.returns
returns g c =
    let r = c.args.self.now in (
      (refl, λ w. laid_from-first r w c.element_mut.ensures.placed c.requires),
      record { lends = tt; value = first_queued r _ c.requires c.element_mut.ensures.value },
    )
