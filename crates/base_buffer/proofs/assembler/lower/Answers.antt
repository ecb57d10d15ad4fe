use Rattle.base_buffer.proofs.Kept.{lower_step}
use Rattle.base_buffer.proofs.assembler.lower.Goals as goal

pub loop-run-preserved : goal.loop-run-preserved
loop-run-preserved c =
    lower_step c.args.by c.args.runs.now c.loop-run.runs c.loop-run.run-index _ _ (0, 0) c.loop-run-test.true c.loop-run.invariant c.saturating_sub.ensures
    c.saturating_sub-in-loop-run.ensures
