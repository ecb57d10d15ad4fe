use Rattle.std.proofs.Common.{List, ℕ, Bool, None, subst}
use Rattle.base_index.specs.Bits.{AreCounted, IsFirst, tells}
use Rattle.base_index.specs.Marks.{IsNext}
use Rattle.base_index.proofs.Marked.{next_counted, none_marked}
use Rattle.base_index.proofs.list.Agenda.next.Goals as goal

pub returns-then-self-eq0 : goal.returns-then-self-eq0
returns-then-self-eq0 c = subst (λ (marks : List Bool). IsNext c.args.from marks None) c.self.view_is
    (none_marked c.self.inside.words.items c.self.inside.len c.args.from
    (subst (λ (n : ℕ). AreCounted c.self.inside.len n c.self.inside.words.items) c.if-self-eq0.true c.self.invariant.1))

pub returns : goal.returns
returns c = subst (λ (marks : List Bool). IsNext c.args.from marks c.next_grouped.result) c.self.view_is
    (next_counted c.self.inside.words.items c.self.inside.len c.self.inside.marked c.args.from c.next_grouped.result c.self.invariant.1
    (subst (λ (words : List ℕ). IsFirst (tells words) c.args.from c.next_grouped.result) c.deref.ensures.value c.next_grouped.ensures))
