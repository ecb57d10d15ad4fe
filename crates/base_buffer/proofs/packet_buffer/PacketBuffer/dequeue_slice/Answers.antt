use Rattle.std.proofs.Common.{take, sym, ap, ◌∙◌}
use Rattle.std.proofs.lemmas.List.{length-take-le}
use Rattle.base_buffer.proofs.PacketSteps.{first-unpadded, without_first-unpadded, first-seen, fronts, read_first, packets_seen-without_first}
use Rattle.base_buffer.proofs.PacketSteps.{capacity-released}
use Rattle.base_buffer.specs.Packets.{first, without_first}
use Rattle.base_buffer.proofs.packet_buffer.PacketBuffer.dequeue_slice.Goals as goal

pub returns-clause-read : goal.returns-clause-read
returns-clause-read g c =
    let s = c.self.inside in
    let taken = c.in_ok-header.ensures.first in
    let f = fronts s.metadata s.payload c.in_ok-header.size c.in_ok-header.header c.self.invariant taken in (
      take c.in_ok-header.size s.payload.queue,
      sym (first-unpadded c.args.self.now) ∙ ap first (sym c.dequeue_padding.ensures ∙ sym c.self.view_is) ∙
          first-seen s.metadata s.payload c.in_ok-header.size c.in_ok-header.header c.self.invariant taken,
      length-take-le c.in_ok-header.size s.payload.queue f.fits,
      read_first s.payload.queue c.args.data.now c.read_allocated.new.data c.in_ok-header.size c.min-count.result c.read_allocated.result f.fits
          c.min-count.ensures c.read_allocated.ensures.count c.read_allocated.ensures.read,
    )

pub returns-clause-rest : goal.returns-clause-rest
returns-clause-rest g c =
    let s = c.self.inside in
    let taken = c.in_ok-header.ensures.first in
    let f = fronts s.metadata s.payload c.in_ok-header.size c.in_ok-header.header c.self.invariant taken in
    packets_seen-without_first s.metadata c.take_entry.new.metadata s.payload c.dequeue_allocated.new.self c.in_ok-header.size c.in_ok-header.header
    c.self.invariant taken c.in_ok-header.ensures.rest c.in_ok-header.ensures.capacity (ap (λ r. r.queue) c.dequeue_allocated.ensures)
    (ap (λ r. r.start) c.dequeue_allocated.ensures)
    (capacity-released s.payload c.dequeue_allocated.new.self c.in_ok-header.size f.fits c.dequeue_allocated.ensures)
    ∙ ap without_first (c.self.view_is ∙ c.dequeue_padding.ensures) ∙ without_first-unpadded c.args.self.now
