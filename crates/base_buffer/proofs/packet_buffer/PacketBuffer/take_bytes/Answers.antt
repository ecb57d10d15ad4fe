use Rattle.std.proofs.Common.{◌≡◌, take, refl, sym, ap, ◌∙◌}
use Rattle.std.specs.Prelude.{None, Some}
use Rattle.std.proofs.lemmas.Bool.{false≢true}
use Rattle.base_buffer.specs.Packets.{first, first_by, without_first}
use Rattle.base_buffer.proofs.RingSteps.{released-unbroken, just_released}
use Rattle.base_buffer.proofs.PacketSteps.{first-unpadded, without_first-unpadded, first-seen, fronts, packets_seen-without_first, capacity-released}
use Rattle.base_buffer.proofs.packet_buffer.PacketBuffer.take_bytes.Goals as goal

pub part-requires-clause-unbroken : goal.part-requires-clause-unbroken
part-requires-clause-unbroken g c =
    let s = c.self.inside in
    let size = c.in_ok-header.size in
    let f = fronts s.metadata s.payload size c.in_ok-header.header c.self.invariant c.in_ok-header.ensures.first in
    rw (c.dequeue_allocated.ensures, c.capacity.ensures.capacity) (released-unbroken s.payload size c.self.invariant.placed f.fits f.unbroken).2

pub returns : goal.returns
returns g c =
    let s = c.self.inside in
    let size = c.in_ok-header.size in
    let header = c.in_ok-header.header in
    let taken = c.in_ok-header.ensures.first in
    let f = fronts s.metadata s.payload size header c.self.invariant taken in
    let it : first c.args.self.now ≡ Some (header, take size s.payload.queue) =
    sym (first-unpadded c.args.self.now) ∙ ap first (sym c.dequeue_padding.ensures ∙ sym c.self.view_is) ∙
    first-seen s.metadata s.payload size header c.self.invariant taken in
    let bytes : c.part.result.now ≡ take size s.payload.queue =
    c.part.ensures ∙ rw (c.dequeue_allocated.ensures, c.capacity.ensures.capacity) (just_released s.payload size f.fits) in
    let ends = packets_seen-without_first s.metadata c.take_entry.new.metadata s.payload c.dequeue_allocated.new.self size header c.self.invariant taken
    c.in_ok-header.ensures.rest c.in_ok-header.ensures.capacity (ap (λ r. r.queue) c.dequeue_allocated.ensures)
    (ap (λ r. r.start) c.dequeue_allocated.ensures) (capacity-released s.payload c.dequeue_allocated.new.self size f.fits c.dequeue_allocated.ensures)
    ∙ ap without_first (c.self.view_is ∙ c.dequeue_padding.ensures) ∙ without_first-unpadded c.args.self.now in (
      (refl, λ _. tt, ends),
      record {
        ends = tt;
        empty = (λ e. absurd (false≢true e), λ e. absurd (let no_packet : None ≡ Some (header, take size s.payload.queue) = sym (ap first_by e) ∙ it in cc));
        first = (header, it ∙ ap (λ bs. Some (header, bs)) (sym bytes));
      },
    )
