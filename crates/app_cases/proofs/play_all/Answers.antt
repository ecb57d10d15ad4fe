use Rattle.std.proofs.Common.{arith}
use Rattle.app_cases.proofs.Growing.{grows_on}
use Rattle.app_cases.proofs.play_all.Goals as goal

pub loop-case-preserved : goal.loop-case-preserved
loop-case-preserved g c =
    record {
      grows = λ n. grows_on _ _ _
          (c.loop-case.invariant.grows (λ e. n (omega (arith, e, c.max-ended.ensures, c.in_ok-play_case.ensures.status, c.loop-case.invariant.small))))
          (c.in_ok-play_case.ensures.grows (λ e. n (omega (arith, e, c.max-ended.ensures, c.in_ok-play_case.ensures.status, c.loop-case.invariant.small))));
      small = omega (arith, c.max-ended.ensures, c.in_ok-play_case.ensures.status, c.loop-case.invariant.small);
    }
