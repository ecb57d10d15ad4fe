use Rattle.std.proofs.Common.{◌≡◌, ◌++◌, map, take, drop}
use Rattle.interface.specs.Backlog.Calls.{given_back}
use Rattle.interface.proofs.listener.give_back_all.Given as goal

abbrev pub invariant-loop-i : goal.invariant-loop-i
invariant-loop-i l = l.entries.items ≡ map (given_back l.handle) (take l.i l.initial.entries.items) ++ drop l.i l.initial.entries.items
