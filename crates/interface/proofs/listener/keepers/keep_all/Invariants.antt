use Rattle.std.proofs.Common.{◌≡◌, drop}
use Rattle.interface.specs.Backlog.Keepers.{kept_all}
use Rattle.interface.proofs.listener.keepers.keep_all.Given as goal

abbrev pub invariant-loop-i : goal.invariant-loop-i
invariant-loop-i l = kept_all l.endpoint (drop l.i l.keepers) l.slots ≡ kept_all l.endpoint l.keepers l.initial.slots
