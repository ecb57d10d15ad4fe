use Rattle.std.proofs.Common.{arith, rules, true, false, sym, ap, subst, ◌∙◌, ◌≡◌, ◌<◌, ◌≤◌, ◌-◌, List, Bool, ℕ}
use Rattle.std.specs.Prelude.{slice_set}
use Rattle.base_index.specs.Bits.{AreCounted, AreWith, tells}
use Rattle.base_index.proofs.Marked.{as_they_are, grouped_still, grouped_without, marks_beyond, marks_with, one_less, told_counts}
use Rattle.base_index.proofs.list.Agenda.take_off.Goals as goal

pub returns-then-at-self : goal.returns-then-at-self
returns-then-at-self c = sym c.self.view_is ∙ sym (marks_beyond c.args.at c.self.inside.len false c.self.inside.words.items (omega (arith, c.if-at-self.true)))
    ∙ ap (λ (marks : List Bool). slice_set marks c.args.at false) c.self.view_is

pub returns-then-not-contains : goal.returns-then-not-contains
returns-then-not-contains c =
    let untold : tells c.self.inside.words.items c.args.at ≡ false
    = subst (λ (words : List ℕ). tells words c.args.at ≡ false) c.deref.ensures.value (sym c.contains.ensures ∙ c.if-not-contains.true) in
    sym c.self.view_is ∙ sym (marks_with c.args.at c.self.inside.len false c.self.inside.words.items c.self.inside.words.items
    (as_they_are c.args.at false c.self.inside.words.items untold)) ∙ ap (λ (marks : List Bool). slice_set marks c.args.at false) c.self.view_is

module _ (len marked at : ℕ) (words read : List ℕ) (contained : Bool) (same : read ≡ words) (is : contained ≡ tells read at) (already : contained ≡ true)
    (within : at < len) (counted : AreCounted len marked words) where
  told : tells words at ≡ true
  told = subst (λ (ws : List ℕ). tells ws at ≡ true) same (sym is ∙ already)

  some : 1 ≤ marked
  some = told_counts words len marked at counted within told

  less : (new : List ℕ) → AreWith at false words new → AreCounted len (marked - 1) new
  less new without = (one_less at len marked words new within told without counted).1

pub overflow_sub-self : goal.overflow_sub-self
overflow_sub-self c =
    some c.self.inside.len c.self.inside.marked c.args.at c.self.inside.words.items c.deref.result.now c.contains.result c.deref.ensures.value
    c.contains.ensures c.if-not-contains.false (omega (arith, c.if-at-self.false)) c.self.invariant.1

pub invariant_of-self : goal.invariant_of-self
invariant_of-self c =
    let room = c.self.invariant.0 in (
      record {
        grouped = grouped_without _ _ _ _ c.args.at room.grouped c.remove.ensures.without (search rules) c.remove-then-remove.ensures.without;
        counted = room.counted;
        enough_words = omega (arith, room.enough_words, c.remove.ensures.without.size);
        few_words = omega (arith, room.few_words, c.remove.ensures.without.size);
        enough_groups = omega (arith, room.enough_groups, c.remove.ensures.without.size, c.remove-then-remove.ensures.without.size);
        few_groups = omega (arith, room.few_groups, c.remove.ensures.without.size, c.remove-then-remove.ensures.without.size);
      },
      less c.self.inside.len c.self.inside.marked c.args.at c.self.inside.words.items c.deref.result.now c.contains.result c.deref.ensures.value
          c.contains.ensures c.if-not-contains.false (omega (arith, c.if-at-self.false)) c.self.invariant.1 c.remove.new.words.items c.remove.ensures.without,
    )

pub invariant_of-self-else-remove : goal.invariant_of-self-else-remove
invariant_of-self-else-remove c =
    let room = c.self.invariant.0 in (
      record {
        grouped = grouped_still _ _ _ c.args.at room.grouped c.remove.ensures.without (search rules) c.remove.ensures.less;
        counted = room.counted;
        enough_words = omega (arith, room.enough_words, c.remove.ensures.without.size);
        few_words = omega (arith, room.few_words, c.remove.ensures.without.size);
        enough_groups = omega (arith, room.enough_groups, c.remove.ensures.without.size);
        few_groups = omega (arith, room.few_groups, c.remove.ensures.without.size);
      },
      less c.self.inside.len c.self.inside.marked c.args.at c.self.inside.words.items c.deref.result.now c.contains.result c.deref.ensures.value
          c.contains.ensures c.if-not-contains.false (omega (arith, c.if-at-self.false)) c.self.invariant.1 c.remove.new.words.items c.remove.ensures.without,
    )

pub returns-then-remove : goal.returns-then-remove
returns-then-remove c = sym (marks_with c.args.at c.self.inside.len false c.self.inside.words.items c.remove.new.words.items c.remove.ensures.without)
    ∙ ap (λ (marks : List Bool). slice_set marks c.args.at false) c.self.view_is

pub returns-else-remove : goal.returns-else-remove
returns-else-remove c = sym (marks_with c.args.at c.self.inside.len false c.self.inside.words.items c.remove.new.words.items c.remove.ensures.without)
    ∙ ap (λ (marks : List Bool). slice_set marks c.args.at false) c.self.view_is
