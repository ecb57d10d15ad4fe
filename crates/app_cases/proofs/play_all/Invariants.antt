-- The cases so far.
use Rattle.std.proofs.Common.{◌≢◌, ◌≤◌}
use Rattle.app_cases.specs.Cases.{Grows}
use Rattle.app_cases.proofs.play_all.Given as goal

abbrev pub invariant-loop-case : goal.invariant-loop-case
invariant-loop-case g l = record {
  grows : l.ended ≢ 2 → Grows (g.W.Write.contents l.initial.writer) (g.W.Write.contents l.writer);
  small : l.ended ≤ 2;
}
