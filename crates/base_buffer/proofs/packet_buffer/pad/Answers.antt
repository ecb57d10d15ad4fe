use Rattle.std.proofs.Common.{[], ◌∷◌, ap, ◌∙◌, inl, inr, arith}
use Rattle.std.proofs.lemmas.Bool.Decides.{eqb_tells}
use Rattle.base_buffer.specs.Ring.{enqueued}
use Rattle.base_buffer.proofs.packet_buffer.pad.Goals as goal

pub returns-then-size-gt0-clause-entries : goal.returns-then-size-gt0-clause-entries
returns-then-size-gt0-clause-entries g c = elim (eqb_tells c.args.size 0) [
  | inl none ↦ absurd (omega (arith, none.1))
  | inr some ↦ rw some.0 (c.push.ensures ∙ ap (λ e. enqueued c.args.metadata.now (e ∷ [])) c.padding.ensures)
]
