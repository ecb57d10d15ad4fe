use Rattle.std.proofs.Common.{◌≡◌, ◌≢◌, ◌+◌, ◌-◌, ◌%◌, [], ◌∷◌, length, take, drop, refl, sym, ap, ◌∙◌, arith, rules, of_calls}
use Rattle.std.specs.Prelude.{Some, IsSome, slice_get}
use Rattle.std.proofs.lemmas.Bool.{false≢true}
use Rattle.std.proofs.lemmas.List.{take-append-le, drop_at}
use Rattle.base_buffer.specs.Ring.{laid_from, rewritten, released}
use Rattle.base_buffer.specs.Packets.{first, without_first, with_first}
use Rattle.base_buffer.specs.PacketCalls.{ReturnsAtPacket}
use Rattle.base_buffer.specs.Entries.{entry, BeginsWithPacket}
use Rattle.base_buffer.proofs.Rings.{laid_from-queue}
use Rattle.base_buffer.proofs.Answered.{MatchResult-ok, MatchResult-err}
use Rattle.base_buffer.proofs.PacketSteps.{begins-unpadded, header_first, fronts, first-seen, first-unpadded, without_first-unpadded, AreEntries-with_first}
use Rattle.base_buffer.proofs.PacketSteps.{packets_seen-with_first, AreEntries-without_first, packets_seen-without_first, length-released, capacity-released}
use Rattle.base_buffer.proofs.PacketSteps.{laid_from-keeps}
use Rattle.base_buffer.proofs.RingSteps.{length-rewritten}
use Rattle.base_buffer.proofs.packet_buffer.PacketBuffer.dequeue_with.Goals as goal
use Rattle.base_buffer.proofs.packet_buffer.PacketBuffer.dequeue_with.Goals.{then-is_ok, else-is_ok}

pub unwrap-header-requires : goal.unwrap-header-requires
unwrap-header-requires g c =
    let s = c.self.inside in
    let some : s.metadata.queue ≢ [] = λ e. false≢true (sym c.if-is_empty.false ∙ c.is_empty.ensures.1 e) in
    let begins : BeginsWithPacket s.metadata.queue =
    begins-unpadded s.metadata s.payload c.args.self.now c.self.invariant (c.self.view_is ∙ c.dequeue_padding.ensures) some in
    let has : IsSome c.first_mut-first.result.now.header = header_first s.metadata.queue c.first_mut-first.result.now begins c.first_mut-first.ensures.value in
    c.as_mut.ensures.variant ∙ has

pub part_mut-requires-clause-within : goal.part_mut-requires-clause-within
part_mut-requires-clause-within g c =
    let s = c.self.inside in
    let size = c.first_mut-first.result.now.size in
    let header = c.unwrap-header.result.now in
    let has : c.first_mut-first.result.now.header ≡ Some header = search rules in
    let taken : slice_get s.metadata.queue 0 ≡ Some (entry size (Some header)) = c.first_mut-first.ensures.value ∙ ap (λ h. Some (entry size h)) has in
    let f = fronts s.metadata s.payload size header c.self.invariant taken in
    omega (arith, f.fits)

pub part_mut-requires-clause-unbroken : goal.part_mut-requires-clause-unbroken
part_mut-requires-clause-unbroken g c =
    let s = c.self.inside in
    let size = c.first_mut-first.result.now.size in
    let header = c.unwrap-header.result.now in
    let has : c.first_mut-first.result.now.header ≡ Some header = search rules in
    let taken : slice_get s.metadata.queue 0 ≡ Some (entry size (Some header)) = c.first_mut-first.ensures.value ∙ ap (λ h. Some (entry size h)) has in
    let f = fronts s.metadata s.payload size header c.self.invariant taken in
    f.unbroken

pub f-answer-requires : goal.f-answer-requires
f-answer-requires g c =
    let s = c.self.inside in
    let size = c.first_mut-first.result.now.size in
    let header = c.unwrap-header.result.now in
    let has : c.first_mut-first.result.now.header ≡ Some header = search rules in
    let taken : slice_get s.metadata.queue 0 ≡ Some (entry size (Some header)) = c.first_mut-first.ensures.value ∙ ap (λ h. Some (entry size h)) has in
    let f = fronts s.metadata s.payload size header c.self.invariant taken in
    let bytes : c.part_mut.result.now ≡ take size s.payload.queue = c.part_mut.ensures.value ∙ take-append-le size s.payload.queue s.payload.free f.fits in
    let it : first c.args.self.now ≡ Some (header, c.part_mut.result.now) =
    sym (first-unpadded c.args.self.now) ∙ ap first (sym c.dequeue_padding.ensures ∙ sym c.self.view_is) ∙
    first-seen s.metadata s.payload size header c.self.invariant taken ∙ ap (λ bs. Some (header, bs)) (sym bytes) in
    let callable = c.requires.callable header c.part_mut.result.now it in
    search (rules, callable)

pub dequeue_allocated-requires-then-is_ok : goal.dequeue_allocated-requires-then-is_ok
dequeue_allocated-requires-then-is_ok g c =
    let s = c.self.inside in
    let size = c.first_mut-first.result.now.size in
    let header = c.unwrap-header.result.now in
    let has : c.first_mut-first.result.now.header ≡ Some header = search rules in
    let taken : slice_get s.metadata.queue 0 ≡ Some (entry size (Some header)) = c.first_mut-first.ensures.value ∙ ap (λ h. Some (entry size h)) has in
    let f = fronts s.metadata s.payload size header c.self.invariant taken in
    omega (arith, (laid_from-keeps s.payload 0 c.f-answer.new.arg3 c.part_mut.ensures.placed.0).1, f.fits)

pub invariant_of-self : goal.invariant_of-self
invariant_of-self g c =
    let s = c.self.inside in
    let size = c.first_mut-first.result.now.size in
    let header = c.unwrap-header.result.now in
    let has : c.first_mut-first.result.now.header ≡ Some header = search rules in
    let taken : slice_get s.metadata.queue 0 ≡ Some (entry size (Some header)) = c.first_mut-first.ensures.value ∙ ap (λ h. Some (entry size h)) has in
    let f = fronts s.metadata s.payload size header c.self.invariant taken in
    let left = c.f-answer.new.arg3 in
    let long : length left ≡ size = c.f-answer.auto.arg3 ∙ c.part_mut.ensures.len in
    let laid : laid_from s.payload 0 left ≡ rewritten s.payload left =
    laid_from-queue s.payload left c.part_mut.ensures.placed.0 c.part_mut.ensures.placed.1 (omega (arith, long, f.fits))
    (omega (arith, long, f.unbroken)) in
    let whole : length (rewritten s.payload left).queue ≡ length s.payload.queue = length-rewritten s.payload left (omega (arith, long, f.fits)) in
    rw (c.dequeue_allocated.ensures, c.dequeue_allocated-then-is_ok.ensures, laid)
    (AreEntries-without_first s.metadata (released (rewritten s.metadata (entry size (Some c.f-answer.new.arg2) ∷ [])) 1) s.payload
    (released (rewritten s.payload left) size) size header c.self.invariant taken refl
    (length-released (rewritten s.payload left) (released (rewritten s.payload left) size) size (omega (arith, whole, f.fits)) refl ∙ ap (λ n. n - size) whole)
    (ap (λ n. (s.payload.start + size) % (n + length s.payload.free)) whole)
    (capacity-released (rewritten s.payload left) (released (rewritten s.payload left) size) size (omega (arith, whole, f.fits)) refl ∙
    ap (λ n. n + length s.payload.free) whole))

pub invariant_of-self-else-is_ok : goal.invariant_of-self-else-is_ok
invariant_of-self-else-is_ok g c =
    let s = c.self.inside in
    let size = c.first_mut-first.result.now.size in
    let header = c.unwrap-header.result.now in
    let has : c.first_mut-first.result.now.header ≡ Some header = search rules in
    let taken : slice_get s.metadata.queue 0 ≡ Some (entry size (Some header)) = c.first_mut-first.ensures.value ∙ ap (λ h. Some (entry size h)) has in
    let f = fronts s.metadata s.payload size header c.self.invariant taken in
    let left = c.f-answer.new.arg3 in
    let long : length left ≡ size = c.f-answer.auto.arg3 ∙ c.part_mut.ensures.len in
    let laid : laid_from s.payload 0 left ≡ rewritten s.payload left =
    laid_from-queue s.payload left c.part_mut.ensures.placed.0 c.part_mut.ensures.placed.1 (omega (arith, long, f.fits))
    (omega (arith, long, f.unbroken)) in
    rw laid (AreEntries-with_first s.metadata s.payload size header c.f-answer.new.arg2 left c.self.invariant taken long)

pub returns-clause-called : goal.returns-clause-called
returns-clause-called g c =
    let s = c.self.inside in
    let size = c.first_mut-first.result.now.size in
    let header = c.unwrap-header.result.now in
    let has : c.first_mut-first.result.now.header ≡ Some header = search rules in
    let taken : slice_get s.metadata.queue 0 ≡ Some (entry size (Some header)) = c.first_mut-first.ensures.value ∙ ap (λ h. Some (entry size h)) has in
    let f = fronts s.metadata s.payload size header c.self.invariant taken in
    let bytes : c.part_mut.result.now ≡ take size s.payload.queue = c.part_mut.ensures.value ∙ take-append-le size s.payload.queue s.payload.free f.fits in
    let it : first c.args.self.now ≡ Some (header, c.part_mut.result.now) =
    sym (first-unpadded c.args.self.now) ∙ ap first (sym c.dequeue_padding.ensures ∙ sym c.self.view_is) ∙
    first-seen s.metadata s.payload size header c.self.invariant taken ∙ ap (λ bs. Some (header, bs)) (sym bytes) in
    let left = c.f-answer.new.arg3 in
    let header' = c.f-answer.new.arg2 in
    let long : length left ≡ size = c.f-answer.auto.arg3 ∙ c.part_mut.ensures.len in
    let laid : laid_from s.payload 0 left ≡ rewritten s.payload left =
    laid_from-queue s.payload left c.part_mut.ensures.placed.0 c.part_mut.ensures.placed.1 (omega (arith, long, f.fits))
    (omega (arith, long, f.unbroken)) in
    let whole : length (rewritten s.payload left).queue ≡ length s.payload.queue = length-rewritten s.payload left (omega (arith, long, f.fits)) in
    let one : length (entry size (Some header') ∷ drop 1 s.metadata.queue) ≡ length s.metadata.queue = sym (ap length f.split) in
    let met : ReturnsAtPacket g.F.FnOnce c.args.f header c.part_mut.result.now c.f-answer.result header' left = search (rules, of_calls) in (
      header,
      c.part_mut.result.now,
      header',
      left,
      it,
      long ∙ sym c.part_mut.ensures.len,
      met,
      elim c.if-is_ok.branch [
        | then-is_ok w ↦ MatchResult-ok _ _ _ (sym c.is_ok.ensures.value ∙ w.if-is_ok.true) (w.self-is ∙
            rw (w.dequeue_allocated.ensures, w.dequeue_allocated-then-is_ok.ensures, laid) (
            packets_seen-without_first s.metadata (released (rewritten s.metadata (entry size (Some header') ∷ [])) 1) s.payload
            (released (rewritten s.payload left) size) size header c.self.invariant taken refl
            (capacity-released (rewritten s.metadata (entry size (Some header') ∷ [])) (released (rewritten s.metadata (entry size (Some header') ∷ [])) 1) 1
            (omega (arith, one, ap length f.split)) refl ∙ ap (λ n. n + length s.metadata.free) one)
            (drop_at left (drop (length left) s.payload.queue) size long ∙ ap (λ n. drop n s.payload.queue) long)
            (ap (λ n. (s.payload.start + size) % (n + length s.payload.free)) whole)
            (capacity-released (rewritten s.payload left) (released (rewritten s.payload left) size) size (omega (arith, whole, f.fits)) refl ∙
            ap (λ n. n + length s.payload.free) whole)
            ) ∙ ap without_first (c.self.view_is ∙ c.dequeue_padding.ensures) ∙ without_first-unpadded c.args.self.now)
        | else-is_ok w ↦ MatchResult-err _ _ _ (sym c.is_ok.ensures.value ∙ w.if-is_ok.false) (w.self-is ∙
            rw laid (packets_seen-with_first s.metadata s.payload size header header' left c.self.invariant taken long) ∙
            ap (λ q. with_first q header' left) (c.self.view_is ∙ c.dequeue_padding.ensures))
      ],
    )
