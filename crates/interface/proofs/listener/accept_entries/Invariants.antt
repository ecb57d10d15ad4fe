use Rattle.std.proofs.Common.{◌≡◌, ◌++◌, map, take, drop}
use Rattle.interface.specs.Backlog.Calls.{accepted}
use Rattle.interface.proofs.listener.accept_entries.Given as goal

abbrev pub invariant-loop-i : goal.invariant-loop-i
invariant-loop-i l = l.entries.items ≡ map accepted (take l.i l.initial.entries.items) ++ drop l.i l.initial.entries.items
