use Rattle.interface.specs.Backlog.Oldest.{IsOldestOf}
use Rattle.interface.proofs.listener.longest.oldest.Given as goal

abbrev pub invariant-loop-i : goal.invariant-loop-i
invariant-loop-i l = IsOldestOf l.i l.stage l.entries l.found
