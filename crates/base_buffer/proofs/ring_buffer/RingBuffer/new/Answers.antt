use Rattle.base_buffer.proofs.Rings.{ring_in-start}
use Rattle.base_buffer.proofs.ring_buffer.RingBuffer.new.Goals as goal

pub returns : goal.returns
returns g c = rw (← c.into_items.ensures) (ring_in-start c.into_items.result.items)
