use Rattle.std.proofs.Common.{◌<◌, ◌≤◌, ◌++◌, length, take, drop, refl, sym, ap, ◌∙◌, inr, arith, rules}
use Rattle.base_buffer.specs.Assembler.{added}
use Rattle.base_buffer.proofs.Runs.{added-front, length-added_front, not_zero}
use Rattle.base_buffer.proofs.Kept.{length-kept, kept_lowered, begun-none, begun-some}
use Rattle.base_buffer.proofs.assembler.Assembler.add_then_remove_front.Goals as goal
use Rattle.base_buffer.proofs.assembler.Assembler.add_then_remove_front.Goals.{else-offset-eq0-via-then-offset-eq0+else-begun_by-eq0}
use Rattle.base_buffer.proofs.assembler.Assembler.add_then_remove_front.Goals.{else-offset-eq0-via-else-offset-eq0}

pub invariant_of-self : goal.invariant_of-self
invariant_of-self g c =
    let s = c.self.inside in
    (kept_lowered g.row.N s.count c.args.size s.ranges _ c.self.invariant (sym c.begun_by.ensures.value ∙
    c.if-begun_by-eq0.true) (ap (λ qs. qs ++ drop s.count s.ranges) c.lower.ensures)).0

pub returns-then-begun_by-eq0-clause-ok : goal.returns-then-begun_by-eq0-clause-ok
returns-then-begun_by-eq0-clause-ok g c =
    let s = c.self.inside in
    let none = sym c.begun_by.ensures.value ∙ c.if-begun_by-eq0.true in
    let low = kept_lowered g.row.N s.count c.args.size s.ranges _ c.self.invariant none (ap (λ qs. qs ++ drop s.count s.ranges) c.lower.ensures) in
    let e = added-front (take s.count s.ranges) c.args.size (begun-none (take s.count s.ranges) 0 c.args.size c.self.invariant.runs none) in
    rw (c.if-offset-eq0.true, ← c.self.view_is) (sym e.0, low.1 ∙ sym e.1)

pub returns-in_err-add-clause-refused : goal.returns-in_err-add-clause-refused
returns-in_err-add-clause-refused g c =
    let s = c.self.inside in
    let rs = take s.count s.ranges in
    let more : g.row.N < length (added c.args.self.now c.args.offset c.args.size) = c.in_err-add.ensures.refused.0 refl in
    let few : length rs ≤ g.row.N = omega (arith, length-kept g.row.N s.count s.ranges c.self.invariant, c.self.invariant.within) in
    let following : 0 < c.args.offset = elim c.else-offset-eq0.branch [
      | else-offset-eq0-via-then-offset-eq0+else-begun_by-eq0 w ↦ let first =
          begun-some rs c.args.size (λ e. w.if-begun_by-eq0.false (w.begun_by.ensures.value ∙ e)) in
          let fits = length-added_front rs c.args.size g.row.N c.self.invariant.some_room few (inr (inr first)) in
          absurd (omega (arith, fits, rw (w.if-offset-eq0.true, ← c.self.view_is) at more))
      | else-offset-eq0-via-else-offset-eq0 w ↦ not_zero c.args.offset w.if-offset-eq0.false
    ] in
    (λ _. (following, more), λ _. search rules)
