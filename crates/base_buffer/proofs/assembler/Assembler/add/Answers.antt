use Rattle.std.proofs.Common.{◌≡◌, ◌+◌, ◌-◌, length, take, subst, sym, ap, refl, ◌∙◌, arith}
use Rattle.std.proofs.lemmas.Bool.{false≢true}
use Rattle.base_buffer.specs.Assembler.{AreRuns, added, joined}
use Rattle.std.proofs.lemmas.List.{length-take}
use Rattle.base_buffer.proofs.Runs.{added-IsUnion, added-some, not_zero}
use Rattle.base_buffer.proofs.Kept.{length-kept, kept_met, kept_between, length-joined_between}
use Rattle.base_buffer.proofs.assembler.Assembler.add.Goals as goal

pub returns-then-size-eq0-clause-union : goal.returns-then-size-eq0-clause-union
returns-then-size-eq0-clause-union g c =
    added-IsUnion c.args.self.now c.args.offset c.args.size (subst AreRuns c.self.view_is c.self.invariant.runs)

pub returns-then-size-eq0-clause-refused : goal.returns-then-size-eq0-clause-refused
returns-then-size-eq0-clause-refused g c =
    let s = c.self.inside in
    let n : length c.args.self.now ≡ s.count = ap length (sym c.self.view_is) ∙ length-kept g.row.N s.count s.ranges c.self.invariant in
    rw c.if-size-eq0.true (λ e. absurd (false≢true e), λ more. absurd (omega (arith, more, c.self.invariant.within)))

pub returns-else-self-clause-union : goal.returns-else-self-clause-union
returns-else-self-clause-union g c =
    added-IsUnion c.args.self.now c.args.offset c.args.size (subst AreRuns c.self.view_is c.self.invariant.runs)

pub returns-then-first-following-clause-union : goal.returns-then-first-following-clause-union
returns-then-first-following-clause-union g c =
    added-IsUnion c.args.self.now c.args.offset c.args.size (subst AreRuns c.self.view_is c.self.invariant.runs)

pub returns-then-self-clause-union : goal.returns-then-self-clause-union
returns-then-self-clause-union g c =
    added-IsUnion c.args.self.now c.args.offset c.args.size (subst AreRuns c.self.view_is c.self.invariant.runs)

pub invariant_of-self : goal.invariant_of-self
invariant_of-self g c =
    let s = c.self.inside in
    (kept_met g.row.N s.count c.ended_before-first.result c.begun_by-following.result c.args.offset (c.args.offset + c.args.size) c.min.result c.max.result
    s.ranges c.remove.new.ranges c.self.invariant (omega (arith, not_zero c.args.size c.if-size-eq0.false)) c.ended_before-first.ensures.value
    c.begun_by-following.ensures.value c.begun_by-following.ensures.within c.if-first-following.true c.min.ensures c.max.ensures c.remove.ensures).0

pub returns-then-first-following-clause-ok : goal.returns-then-first-following-clause-ok
returns-then-first-following-clause-ok g c =
    let s = c.self.inside in
    (kept_met g.row.N s.count c.ended_before-first.result c.begun_by-following.result c.args.offset (c.args.offset + c.args.size) c.min.result c.max.result
    s.ranges c.remove.new.ranges c.self.invariant (omega (arith, not_zero c.args.size c.if-size-eq0.false)) c.ended_before-first.ensures.value
    c.begun_by-following.ensures.value c.begun_by-following.ensures.within c.if-first-following.true c.min.ensures c.max.ensures c.remove.ensures).1
    ∙ ap (λ rs. joined rs c.args.offset (c.args.offset + c.args.size)) c.self.view_is ∙
    sym (added-some c.args.self.now c.args.offset c.args.size c.if-size-eq0.false)

pub invariant_of-self-then-self : goal.invariant_of-self-then-self
invariant_of-self-then-self g c =
    let s = c.self.inside in
    (kept_between g.row.N s.count c.ended_before-first.result c.begun_by-following.result c.args.offset (c.args.offset + c.args.size) s.ranges c.insert.new.ranges
    c.self.invariant (omega (arith, not_zero c.args.size c.if-size-eq0.false)) c.ended_before-first.ensures.value c.begun_by-following.ensures.value
    c.ended_before-first.ensures.within c.if-first-following.false c.if-self.true c.insert.ensures).0

pub returns-then-self-clause-ok : goal.returns-then-self-clause-ok
returns-then-self-clause-ok g c =
    let s = c.self.inside in
    (kept_between g.row.N s.count c.ended_before-first.result c.begun_by-following.result c.args.offset (c.args.offset + c.args.size) s.ranges c.insert.new.ranges
    c.self.invariant (omega (arith, not_zero c.args.size c.if-size-eq0.false)) c.ended_before-first.ensures.value c.begun_by-following.ensures.value
    c.ended_before-first.ensures.within c.if-first-following.false c.if-self.true c.insert.ensures).1
    ∙ ap (λ rs. joined rs c.args.offset (c.args.offset + c.args.size)) c.self.view_is ∙
    sym (added-some c.args.self.now c.args.offset c.args.size c.if-size-eq0.false)

pub returns-then-first-following-clause-refused : goal.returns-then-first-following-clause-refused
returns-then-first-following-clause-refused g c =
    let s = c.self.inside in
    let kept = s.count - (c.begun_by-following.result - c.ended_before-first.result - 1) in
    let n : length (take kept c.remove.new.ranges) ≡ length (added c.args.self.now c.args.offset c.args.size) =
    ap length (returns-then-first-following-clause-ok g c) in
    (λ e. absurd (false≢true e), λ more. absurd (omega (arith, n, more, length-take kept c.remove.new.ranges, c.self.invariant.within)))

pub returns-then-self-clause-refused : goal.returns-then-self-clause-refused
returns-then-self-clause-refused g c =
    let s = c.self.inside in
    let n : length (take (s.count + 1) c.insert.new.ranges) ≡ length (added c.args.self.now c.args.offset c.args.size) =
    ap length (returns-then-self-clause-ok g c) in
    (λ e. absurd (false≢true e), λ more. absurd (omega (arith, n, more, length-take (s.count + 1) c.insert.new.ranges)))

pub returns-else-self-clause-refused : goal.returns-else-self-clause-refused
returns-else-self-clause-refused g c =
    let s = c.self.inside in
    let end = c.args.offset + c.args.size in
    let n : length (added c.args.self.now c.args.offset c.args.size) ≡ length (take s.count s.ranges) + 1 =
    ap length (added-some c.args.self.now c.args.offset c.args.size c.if-size-eq0.false) ∙
    ap (λ rs. length (joined rs c.args.offset end)) (sym c.self.view_is)
    ∙ length-joined_between (take s.count s.ranges) c.args.offset end c.self.invariant.runs (omega arith)
    (omega (arith, c.ended_before-first.ensures.value, c.begun_by-following.ensures.value)) in
    (λ _. omega (arith, n, length-kept g.row.N s.count s.ranges c.self.invariant), λ _. refl)
