use Rattle.std.proofs.Common.{◌≢◌, ◌<◌, ◌≤◌, [], length, refl, sym, ap, ◌∙◌, inl, inr, arith}
use Rattle.std.proofs.lemmas.Bool.{false≢true}
use Rattle.std.proofs.lemmas.List.{nil_from_length}
use Rattle.base_buffer.specs.Ring.{capacity, contiguous, anchored}
use Rattle.base_buffer.proofs.PacketSteps.{IsFull, full_tells, padding_is, padding_tells}
use Rattle.base_buffer.proofs.packet_buffer.PacketBuffer.padding_for.Goals as goal
use Rattle.base_buffer.proofs.packet_buffer.PacketBuffer.padding_for.Goals.{then-window-lt2-via-then-window-lt2}
use Rattle.base_buffer.proofs.packet_buffer.PacketBuffer.padding_for.Goals.{then-window-lt2-via-else-window-lt2+then-window-unbroken}

pub returns-then-is_full-clause-full : goal.returns-then-is_full-clause-full
returns-then-is_full-clause-full g c =
    let s = c.self.inside in
    let tells = full_tells s.metadata s.payload c.args.self.now c.args.size c.self.invariant c.self.view_is in
    let full : IsFull (capacity s.metadata) (length s.metadata.queue) (length s.payload.free) (contiguous (anchored s.payload)) c.args.size =
    elim c.then-is_full.either [
      | inl positions ↦ inl (omega (arith, ap length (c.is_full.ensures.0 positions)))
      | inr bytes ↦ inr (inl (omega (arith, bytes.1)))
    ] in
    (λ _. tells.1 full, λ _. refl)

pub returns-then-size-unbroken-clause-full : goal.returns-then-size-unbroken-clause-full
returns-then-size-unbroken-clause-full g c =
    let s = c.self.inside in
    let tells = full_tells s.metadata s.payload c.args.self.now c.args.size c.self.invariant c.self.view_is in
    let some : s.metadata.free ≢ [] = λ e. false≢true (sym c.if-is_full.false ∙ c.is_full.ensures.1 e) in
    let fits : c.args.size ≤ contiguous (anchored s.payload) = omega (arith, c.if-size-unbroken.true) in (
      λ e. absurd (false≢true e),
      λ h. elim (tells.0 h) [
        | inl positions ↦ absurd (some (nil_from_length s.metadata.free (omega (arith, positions))))
        | inr other ↦ elim other [
          | inl bytes ↦ absurd (omega (arith, bytes, c.if-window-size.false))
          | inr part ↦ absurd (omega (arith, part.0, fits))
        ]
      ],
    )

pub returns-then-size-unbroken-clause-padding : goal.returns-then-size-unbroken-clause-padding
returns-then-size-unbroken-clause-padding g c =
    let s = c.self.inside in
    elim (padding_tells (contiguous (anchored s.payload)) c.args.size) [
      | inl less ↦ absurd (omega (arith, less.0, c.if-size-unbroken.true))
      | inr enough ↦ sym (padding_is s.metadata s.payload c.args.self.now c.args.size c.self.invariant c.self.view_is ∙ enough.1)
    ]

pub returns-then-window-lt2-clause-full : goal.returns-then-window-lt2-clause-full
returns-then-window-lt2-clause-full g c =
    let s = c.self.inside in
    let tells = full_tells s.metadata s.payload c.args.self.now c.args.size c.self.invariant c.self.view_is in
    let less : contiguous (anchored s.payload) < c.args.size = omega (arith, c.if-size-unbroken.false) in
    let full : IsFull (capacity s.metadata) (length s.metadata.queue) (length s.payload.free) (contiguous (anchored s.payload)) c.args.size =
    elim c.then-window-lt2.branch [
      | then-window-lt2-via-then-window-lt2 w ↦ inr (inr (less, inl (omega (arith, w.if-window-lt2.true))))
      | then-window-lt2-via-else-window-lt2+then-window-unbroken w ↦ inr (inr (less, inr (omega (arith, w.if-window-unbroken.true))))
    ] in
    (λ _. tells.1 full, λ _. refl)

pub returns-clause-full : goal.returns-clause-full
returns-clause-full g c =
    let s = c.self.inside in
    let tells = full_tells s.metadata s.payload c.args.self.now c.args.size c.self.invariant c.self.view_is in (
      λ e. absurd (false≢true e),
      λ h. elim (tells.0 h) [
        | inl positions ↦ absurd (omega (arith, positions, c.if-window-lt2.false))
        | inr other ↦ elim other [
          | inl bytes ↦ absurd (omega (arith, bytes, c.if-window-size.false))
          | inr part ↦ elim part.1 [
            | inl positions ↦ absurd (omega (arith, positions, c.if-window-lt2.false))
            | inr rest ↦ absurd (omega (arith, rest, c.if-window-unbroken.false))
          ]
        ]
      ],
    )

pub returns-clause-padding : goal.returns-clause-padding
returns-clause-padding g c =
    let s = c.self.inside in
    elim (padding_tells (contiguous (anchored s.payload)) c.args.size) [
      | inl less ↦ c.unbroken_window-unbroken.ensures ∙
          sym (padding_is s.metadata s.payload c.args.self.now c.args.size c.self.invariant c.self.view_is ∙ less.1)
      | inr enough ↦ absurd (omega (arith, enough.0, c.if-size-unbroken.false))
    ]
