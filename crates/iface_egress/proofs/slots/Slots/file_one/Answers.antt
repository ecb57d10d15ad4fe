use Rattle.std.proofs.Common.{◌≡◌, ℕ, length, ap, ◌∙◌, refl, arith}
use Rattle.std.proofs.lemmas.Option.{slice_get_read}
use Rattle.std.specs.Prelude.{slice_get}
use Rattle.base_index.specs.Put.{put}
use Rattle.iface_egress.specs.KeyIndex.{AreFiled, key_in}
use Rattle.iface_egress.proofs.Filing.{filed_again}
use Rattle.iface_egress.proofs.slots.Slots.file_one.Goals as goal

pub invariant_of-self : goal.invariant_of-self
invariant_of-self g c = (c.self.invariant.0, rw noted filed, c.self.invariant.2) where
  noted : c.note.new.self ≡ put c.args.at (key_in g.T.Idle.key c.index.result.now) c.self.inside.index
  noted = c.if-note.ensures.value ∙ ap (λ (k : ℕ). put c.args.at k c.self.inside.index) c.key_in.ensures

  filed : AreFiled g.T.Idle.key c.rest.new.self (put c.args.at (key_in g.T.Idle.key c.index.result.now) c.self.inside.index) c.self.inside.storage.items
  filed = filed_again g.T.Idle.key c.self.inside.loose c.self.inside.index c.self.inside.storage.items c.self.invariant.1 c.args.at c.index.result.now
      c.rest.new.self
      (slice_get_read c.self.inside.storage.items (length c.self.inside.storage.items) c.args.at c.index.result.now refl
      (omega (arith, c.if-at-len.false, c.len.ensures, c.self.inside.storage.ok)) c.index.ensures)
      (c.note.ensures.is_slot c.if-note.true) c.rest.ensures.added
