use Rattle.std.proofs.Common.{refl, slice_index_or, drop, ◌+◌}
use Rattle.std.proofs.Output.{has_written_append}
use Rattle.base_buffer.proofs.Texts.{next_run, one_more}
use Rattle.base_buffer.proofs.assembler.RunsDisplay.fmt.Goals as goal

pub loop-start-preserved : goal.loop-start-preserved
loop-start-preserved g c = λ plain.
    let was = c.loop-start.invariant plain in
    let wrote = c.in_ok-write.ensures.writes was.1.plain refl in (
      _,
      has_written_append g.W.Write.write_str_gives _ _ _ _ _ was.1 wrote,
      one_more was.0 c.loop-start.reached c.saturating_sub.result c.saturating_sub-in-loop-start.result
          (slice_index_or c.args.self.now.0.now c.loop-start.start-index (0, 0)) (drop (c.loop-start.start-index + 1) c.args.self.now.0.now)
          (drop c.loop-start.start-index c.args.self.now.0.now) _ c.saturating_sub.ensures c.saturating_sub-in-loop-start.ensures
          (next_run c.args.self.now.0.now c.loop-start.start-index c.loop-start-test.true) was.2,
    )
