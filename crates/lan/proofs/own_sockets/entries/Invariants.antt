-- As many entries were made as were counted.
use Rattle.std.proofs.Common.{◌≡◌, length}
use Rattle.lan.proofs.own_sockets.entries.Given as goal

abbrev pub invariant-loop : goal.invariant-loop
invariant-loop g l = length l.entries.items ≡ l.counter
