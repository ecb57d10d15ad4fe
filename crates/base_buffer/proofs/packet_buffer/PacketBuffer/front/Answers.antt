use Rattle.std.proofs.Common.{◌≡◌, ◌≢◌, [], take, sym, ap, ◌∙◌, arith, rules}
use Rattle.std.specs.Prelude.{None, Some, IsSome, slice_get}
use Rattle.std.proofs.lemmas.Bool.{false≢true}
use Rattle.base_buffer.specs.Entries.{entry, BeginsWithPacket}
use Rattle.base_buffer.specs.Packets.{first, first_by}
use Rattle.base_buffer.proofs.PacketSteps.{begins-unpadded, header_first, packet_first, fronts, first-seen}
use Rattle.base_buffer.proofs.packet_buffer.PacketBuffer.front.Goals as goal

pub unwrap-header-requires : goal.unwrap-header-requires
unwrap-header-requires g c =
    let s = c.self.inside in
    let size = c.first-first.result.now.size in
    let some : s.metadata.queue ≢ [] = λ e. false≢true (sym c.if-is_empty.false ∙ c.is_empty.ensures.1 e) in
    let begins : BeginsWithPacket s.metadata.queue =
    begins-unpadded s.metadata s.payload c.args.self.now c.self.invariant (c.self.view_is ∙ sym c.requires) some in
    let has : IsSome c.first-first.result.now.header = header_first s.metadata.queue c.first-first.result.now begins c.first-first.ensures in
    c.as_ref.ensures.variant ∙ has

pub first_part-requires-clause-queued : goal.first_part-requires-clause-queued
first_part-requires-clause-queued g c =
    let s = c.self.inside in
    let size = c.first-first.result.now.size in
    let some : s.metadata.queue ≢ [] = λ e. false≢true (sym c.if-is_empty.false ∙ c.is_empty.ensures.1 e) in
    let begins : BeginsWithPacket s.metadata.queue =
    begins-unpadded s.metadata s.payload c.args.self.now c.self.invariant (c.self.view_is ∙ sym c.requires) some in
    let it = packet_first s.metadata.queue c.first-first.result.now begins c.first-first.ensures in
    let f = fronts s.metadata s.payload size it.0 c.self.invariant it.1 in
    f.fits

pub first_part-requires-clause-unbroken : goal.first_part-requires-clause-unbroken
first_part-requires-clause-unbroken g c =
    let s = c.self.inside in
    let size = c.first-first.result.now.size in
    let some : s.metadata.queue ≢ [] = λ e. false≢true (sym c.if-is_empty.false ∙ c.is_empty.ensures.1 e) in
    let begins : BeginsWithPacket s.metadata.queue =
    begins-unpadded s.metadata s.payload c.args.self.now c.self.invariant (c.self.view_is ∙ sym c.requires) some in
    let it = packet_first s.metadata.queue c.first-first.result.now begins c.first-first.ensures in
    let f = fronts s.metadata s.payload size it.0 c.self.invariant it.1 in
    f.unbroken

pub returns-clause-empty : goal.returns-clause-empty
returns-clause-empty g c =
    let s = c.self.inside in
    let size = c.first-first.result.now.size in
    let some : s.metadata.queue ≢ [] = λ e. false≢true (sym c.if-is_empty.false ∙ c.is_empty.ensures.1 e) in
    let begins : BeginsWithPacket s.metadata.queue =
    begins-unpadded s.metadata s.payload c.args.self.now c.self.invariant (c.self.view_is ∙ sym c.requires) some in
    let it = packet_first s.metadata.queue c.first-first.result.now begins c.first-first.ensures in
    let f = fronts s.metadata s.payload size it.0 c.self.invariant it.1 in
    let is : first c.args.self.now ≡ Some (it.0, take size s.payload.queue) =
    ap first (sym c.self.view_is) ∙ first-seen s.metadata s.payload size it.0 c.self.invariant it.1 in
    (λ e. absurd (false≢true e), λ e. absurd (let no_packet : None ≡ Some (it.0, take size s.payload.queue) = sym (ap first_by e) ∙ is in cc))

pub returns-clause-first : goal.returns-clause-first
returns-clause-first g c =
    let s = c.self.inside in
    let size = c.first-first.result.now.size in
    let header = c.unwrap-header.result.now in
    let has : c.first-first.result.now.header ≡ Some header = search rules in
    let taken : slice_get s.metadata.queue 0 ≡ Some (entry size (Some header)) = c.first-first.ensures ∙ ap (λ h. Some (entry size h)) has in
    ap first (sym c.self.view_is) ∙ first-seen s.metadata s.payload size header c.self.invariant taken ∙ ap (λ bs. Some (header, bs)) (sym c.first_part.ensures)
