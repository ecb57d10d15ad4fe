use Rattle.std.proofs.Common.{◌≡◌, sym, ap, ◌∙◌}
use Rattle.base_buffer.specs.Entries.{padding_first}
use Rattle.base_buffer.specs.Packets.{unpadded}
use Rattle.base_buffer.proofs.PacketSteps.{AreEntries-unpadded, packets_seen-unpadded}
use Rattle.base_buffer.proofs.packet_buffer.PacketBuffer.dequeue_padding.Goals as goal

pub invariant_of-self : goal.invariant_of-self
invariant_of-self g c =
    let s = c.self.inside in
    let first : padding_first s.metadata.queue ≡ c.leading_padding-padding.result = sym c.leading_padding-padding.ensures in
    rw (
      c.dequeue_allocated.ensures,
      c.dequeue_allocated-then-padding-gt0.ensures,
    )
    (AreEntries-unpadded s.metadata s.payload c.leading_padding-padding.result c.self.invariant first c.if-padding-gt0.true)

pub returns-then-padding-gt0 : goal.returns-then-padding-gt0
returns-then-padding-gt0 g c =
    let s = c.self.inside in
    let first : padding_first s.metadata.queue ≡ c.leading_padding-padding.result = sym c.leading_padding-padding.ensures in
    rw (
      c.dequeue_allocated.ensures,
      c.dequeue_allocated-then-padding-gt0.ensures,
    )
    (packets_seen-unpadded s.metadata s.payload c.leading_padding-padding.result c.self.invariant first c.if-padding-gt0.true ∙ ap unpadded c.self.view_is)
