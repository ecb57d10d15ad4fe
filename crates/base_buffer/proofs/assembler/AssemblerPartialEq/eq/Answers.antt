use Rattle.std.proofs.Common.{◌≡◌, ◌+◌, ◌-◌, length, take, subst, ap₂, ◌∙◌, sym, arith}
use Rattle.base_buffer.specs.Assembler.{AreRuns}
use Rattle.base_buffer.specs.AssemblerEq.{same_run_lists}
use Rattle.base_buffer.proofs.Kept.{kept-is, length-kept}
use Rattle.base_buffer.proofs.Runs.{same_runs}
use Rattle.base_buffer.proofs.RunsEq.{same_from_test, test_from_same, test_unused}
use Rattle.base_buffer.proofs.assembler.AssemblerPartialEq.eq.Goals as goal

same : goal.returns-clause-value
same g c =
    let s = c.self.inside in
    let o = c.other.inside in
    let n : length (take s.count s.ranges) + (g.row.N - s.count) ≡ length (take o.count o.ranges) + (g.row.N - o.count) =
    omega (
      arith,
      length-kept g.row.N s.count s.ranges c.self.invariant,
      length-kept g.row.N o.count o.ranges c.other.invariant,
      c.self.invariant.within,
      c.other.invariant.within,
    ) in
    c.eq.ensures ∙ ap₂ same_run_lists (kept-is g.row.N s.count s.ranges c.self.invariant) (kept-is g.row.N o.count o.ranges c.other.invariant)
    ∙ test_unused _ _ 0 0 (g.row.N - s.count) (g.row.N - o.count) c.self.invariant.runs c.other.invariant.runs n ∙
    ap₂ same_run_lists c.self.view_is c.other.view_is

pub returns-clause-value : goal.returns-clause-value
returns-clause-value g c = same g c

pub returns-clause-positions : goal.returns-clause-positions
returns-clause-positions g c =
    let a = c.args.self.now in
    let b = c.args.other.now in
    let value : c.eq.result ≡ same_run_lists a b = same g c in (
      λ e. same_from_test a b (sym value ∙ e),
      λ h. value ∙ test_from_same a b
          (same_runs 0 0 a b (subst AreRuns c.self.view_is c.self.invariant.runs) (subst AreRuns c.other.view_is c.other.invariant.runs) h),
    )
