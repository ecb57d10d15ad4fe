use Rattle.std.proofs.Common.{arith, ◌≡◌, ◌+◌, ◌∙◌, ℕ, length, subst, sym}
use Rattle.std.specs.List.{IsFirstBest}
use Rattle.iface_tables.specs.Reassembly.{is_of}
use Rattle.iface_tables.specs.Room.{goes_before, is_same_source}
use Rattle.std.proofs.lemmas.List.MinMax.{IsFirstBest-keeps, IsFirstBest-takes}
use Rattle.iface_tables.proofs.BestOf.{index_of_first_best-is}
use Rattle.iface_tables.proofs.Oldest.{in_order}
use Rattle.iface_tables.proofs.assemblers.oldest_from.Goals as goal
use Rattle.iface_tables.proofs.assemblers.oldest_from.Goals.{then-goes_before, else-goes_before}

pub returns-clause-index : goal.returns-clause-index
returns-clause-index c =
    let slots = c.args.assemblers.now in
    let before = goes_before (is_of is_same_source c.args.key.now) in
    let whole : c.loop-i.i ≡ length slots = omega (arith, c.loop-i-test.false, c.requires) in
    sym (index_of_first_best-is before slots c.loop-i.at (subst (λ n. IsFirstBest before slots n c.loop-i.at) whole c.loop-i.invariant))

pub loop-i-preserved : goal.loop-i-preserved
loop-i-preserved c =
    let slots = c.args.assemblers.now in
    let before = goes_before (is_of is_same_source c.args.key.now) in
    let order = in_order (is_of is_same_source c.args.key.now) in
    elim c.if-goes_before.branch [
      | then-goes_before w ↦
          subst (λ (n : ℕ). IsFirstBest before slots (c.loop-i.i + 1) n) (sym w.at-is)
          (IsFirstBest-takes order slots c.loop-i.i c.loop-i.at c.index-assemblers-i.result c.index-assemblers-at.result c.loop-i.invariant c.loop-i-test.true
          c.index-assemblers-i.is c.index-assemblers-at.is (sym c.goes_before.ensures ∙ w.if-goes_before.true))
      | else-goes_before w ↦
          subst (λ (n : ℕ). IsFirstBest before slots (c.loop-i.i + 1) n) (sym w.at-is)
          (IsFirstBest-keeps order slots c.loop-i.i c.loop-i.at c.index-assemblers-i.result c.index-assemblers-at.result c.loop-i.invariant c.loop-i-test.true
          c.index-assemblers-i.is c.index-assemblers-at.is (sym c.goes_before.ensures ∙ w.if-goes_before.false))
    ]
