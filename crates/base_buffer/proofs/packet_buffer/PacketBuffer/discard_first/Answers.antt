use Rattle.std.proofs.Common.{sym, ap, take, ◌∙◌}
use Rattle.base_buffer.proofs.PacketSteps.{first-unpadded, without_first-unpadded, first-seen, fronts, packets_seen-without_first, capacity-released}
use Rattle.base_buffer.specs.Packets.{first, without_first}
use Rattle.base_buffer.proofs.packet_buffer.PacketBuffer.discard_first.Goals as goal

pub returns-clause-first : goal.returns-clause-first
returns-clause-first g c =
    let s = c.self.inside in
    let taken = c.in_ok-header.ensures.first in (
      take c.in_ok-header.count s.payload.queue,
      sym (first-unpadded c.args.self.now) ∙ ap first (sym c.dequeue_padding.ensures ∙ sym c.self.view_is) ∙
          first-seen s.metadata s.payload c.in_ok-header.count c.in_ok-header.header c.self.invariant taken,
    )

pub returns-clause-rest : goal.returns-clause-rest
returns-clause-rest g c =
    let s = c.self.inside in
    let taken = c.in_ok-header.ensures.first in
    let f = fronts s.metadata s.payload c.in_ok-header.count c.in_ok-header.header c.self.invariant taken in
    packets_seen-without_first s.metadata c.take_entry.new.metadata s.payload c.dequeue_allocated.new.self c.in_ok-header.count c.in_ok-header.header
    c.self.invariant taken c.in_ok-header.ensures.rest c.in_ok-header.ensures.capacity (ap (λ r. r.queue) c.dequeue_allocated.ensures)
    (ap (λ r. r.start) c.dequeue_allocated.ensures)
    (capacity-released s.payload c.dequeue_allocated.new.self c.in_ok-header.count f.fits c.dequeue_allocated.ensures)
    ∙ ap without_first (c.self.view_is ∙ c.dequeue_padding.ensures) ∙ without_first-unpadded c.args.self.now
