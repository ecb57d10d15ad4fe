use Rattle.std.proofs.Common.{◌∙◌, ◌<◌, length, refl, sym}
use Rattle.std.proofs.lemmas.Option.{slice_get_read}
use Rattle.base_index.proofs.Walks.{rekeyed, kept}
use Rattle.base_index.proofs.index.Index.set.Goals as goal
use Rattle.base_index.proofs.index.Index.set.Goals.{then-from-to, else-from-to}

pub invariant_of-self : goal.invariant_of-self
invariant_of-self c = elim c.if-from-to.branch [
  | then-from-to w ↦ rw w.self-inside-is (rekeyed c.self.inside.keys.items c.self.inside.chains.first.items c.self.inside.chains.links.items
      w.change.new.self.first.items w.change.new.self.links.items c.args.at c.args.key c.self.invariant w.change.ensures.size
      (rw (← c.bucket_of-to.ensures.bucket) (rw (← w.as_slice.ensures.value) w.change.ensures.linked)))
  | else-from-to w ↦ rw w.self-inside-is (kept c.self.inside.keys.items c.self.inside.chains.first.items c.self.inside.chains.links.items
      c.args.at c.index.result.now c.args.key c.self.invariant
      (slice_get_read c.self.inside.keys.items (length c.self.inside.keys.items) c.args.at c.index.result.now refl within c.index.ensures)
      (sym c.bucket_of-from.ensures.bucket ∙ (w.if-from-to.false ∙ c.bucket_of-to.ensures.bucket)))
] where
  within : c.args.at < length c.self.inside.keys.items
  within = rw c.self.view_is c.requires
