use Rattle.std.proofs.Common.{◌≢◌, [], sym, ap, ◌∙◌, length, arith}
use Rattle.std.proofs.lemmas.Bool.{false≢true}
use Rattle.base_buffer.specs.Entries.{BeginsWithPacket}
use Rattle.base_buffer.specs.Packets.{without_first}
use Rattle.base_buffer.proofs.PacketSteps.{begins-unpadded, packet_first, fronts, without_first-unpadded, packets_seen-without_first}
use Rattle.base_buffer.proofs.PacketSteps.{AreEntries-without_first, length-released, capacity-released}
use Rattle.base_buffer.proofs.packet_buffer.PacketBuffer.drop_first.Goals as goal

pub returns : goal.returns
returns g c =
    let s = c.self.inside in
    let size = c.first.result.now.size in
    let some : s.metadata.queue ≢ [] = λ e. false≢true (sym c.if-is_empty.false ∙ c.is_empty.ensures.1 e) in
    let begins : BeginsWithPacket s.metadata.queue =
    begins-unpadded s.metadata s.payload c.args.self.now c.self.invariant (c.self.view_is ∙ c.dequeue_padding.ensures) some in
    let it = packet_first s.metadata.queue c.first.result.now begins c.first.ensures in
    let f = fronts s.metadata s.payload size it.0 c.self.invariant it.1 in
    packets_seen-without_first s.metadata c.dequeue_allocated.new.self s.payload c.dequeue_allocated-2.new.self size it.0 c.self.invariant it.1
    (ap (λ r. r.queue) c.dequeue_allocated.ensures)
    (capacity-released s.metadata c.dequeue_allocated.new.self 1 (omega (arith, ap length f.split)) c.dequeue_allocated.ensures)
    (ap (λ r. r.queue) c.dequeue_allocated-2.ensures) (ap (λ r. r.start) c.dequeue_allocated-2.ensures)
    (capacity-released s.payload c.dequeue_allocated-2.new.self size f.fits c.dequeue_allocated-2.ensures)
    ∙ ap without_first (c.self.view_is ∙ c.dequeue_padding.ensures) ∙ without_first-unpadded c.args.self.now
