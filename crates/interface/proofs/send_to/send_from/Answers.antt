use Rattle.std.proofs.Common.{refl, inl, inr}
use Rattle.interface.proofs.send_to.send_from.Goals as goal

pub returns-then-transmit_now-clause-sends : goal.returns-then-transmit_now-clause-sends
returns-then-transmit_now-clause-sends g c = inl (refl, refl, c.if-transmit_now.ensures.leaves)

pub returns-clause-sends : goal.returns-clause-sends
returns-clause-sends g c = inr (c.queue.ensures.answer, c.queue.ensures.after, c.if-transmit_now.ensures.leaves)
