use Rattle.std.proofs.Common.{◌≡◌, length}
use Rattle.c_calls.proofs.made.queue.Given as goal

abbrev pub invariant-loop : goal.invariant-loop
invariant-loop g l = length l.slots.items ≡ l.counter
