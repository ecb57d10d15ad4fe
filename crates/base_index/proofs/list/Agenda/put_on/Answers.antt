use Rattle.std.proofs.Common.{arith, true, sym, false, ap, subst, ◌∙◌, ◌≡◌, ◌+◌, ◌≤◌, List, Bool, ℕ}
use Rattle.std.specs.Prelude.{slice_set}
use Rattle.base_index.specs.Bits.{AreCounted, AreWith, tells}
use Rattle.base_index.proofs.Marked.{as_they_are, few_marked, grouped_with, marks_beyond, marks_with, one_more}
use Rattle.base_index.proofs.list.Agenda.put_on.Goals as goal

pub returns-then-at-self : goal.returns-then-at-self
returns-then-at-self c = sym c.self.view_is ∙ sym (marks_beyond c.args.at c.self.inside.len true c.self.inside.words.items (omega (arith, c.if-at-self.true)))
    ∙ ap (λ (marks : List Bool). slice_set marks c.args.at true) c.self.view_is

pub returns-then-contains : goal.returns-then-contains
returns-then-contains c =
    let told : tells c.self.inside.words.items c.args.at ≡ true
    = subst (λ (words : List ℕ). tells words c.args.at ≡ true) c.deref.ensures.value (sym c.contains.ensures ∙ c.if-contains.true) in
    sym c.self.view_is ∙ sym (marks_with c.args.at c.self.inside.len true c.self.inside.words.items c.self.inside.words.items
    (as_they_are c.args.at true c.self.inside.words.items told)) ∙ ap (λ (marks : List Bool). slice_set marks c.args.at true) c.self.view_is

module _ (len marked at : ℕ) (words read new : List ℕ) (contained : Bool) (same : read ≡ words) (is : contained ≡ tells read at) (not_yet : contained ≡ false)
    (beyond : len ≤ at → ⊥) (counted : AreCounted len marked words) (with_it : AreWith at true words new) where
  more : AreCounted len (marked + 1) new
  more = one_more at len marked words new (omega (arith, beyond)) (subst (λ (ws : List ℕ). tells ws at ≡ false) same (sym is ∙ not_yet)) with_it counted

pub overflow_add-self : goal.overflow_add-self
overflow_add-self c =
    let few = few_marked _ _ _ (more c.self.inside.len c.self.inside.marked c.args.at c.self.inside.words.items c.deref.result.now c.insert.new.words.items
    c.contains.result c.deref.ensures.value c.contains.ensures c.if-contains.false (λ up. omega (arith, up, c.if-at-self.false)) c.self.invariant.1
    c.insert.ensures) in
    omega (arith, few, c.self.invariant.0.counted)

pub invariant_of-self : goal.invariant_of-self
invariant_of-self c = (
  record {
    grouped = grouped_with _ _ _ _ c.args.at c.self.invariant.0.grouped c.insert.ensures c.insert-2.ensures;
    counted = c.self.invariant.0.counted;
    enough_words = omega (arith, c.self.invariant.0.enough_words, c.insert.ensures.size);
    few_words = omega (arith, c.self.invariant.0.few_words, c.insert.ensures.size);
    enough_groups = omega (arith, c.self.invariant.0.enough_groups, c.insert.ensures.size, c.insert-2.ensures.size);
    few_groups = omega (arith, c.self.invariant.0.few_groups, c.insert.ensures.size, c.insert-2.ensures.size);
  },
  more c.self.inside.len c.self.inside.marked c.args.at c.self.inside.words.items c.deref.result.now c.insert.new.words.items c.contains.result
      c.deref.ensures.value c.contains.ensures c.if-contains.false (λ up. omega (arith, up, c.if-at-self.false)) c.self.invariant.1 c.insert.ensures,
)

pub returns : goal.returns
returns c = sym (marks_with c.args.at c.self.inside.len true c.self.inside.words.items c.insert.new.words.items c.insert.ensures)
    ∙ ap (λ (marks : List Bool). slice_set marks c.args.at true) c.self.view_is
