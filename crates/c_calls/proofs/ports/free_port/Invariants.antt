use Rattle.std.proofs.Common.{◌≡◌, ℕ}
use Rattle.c_calls.specs.Ports.{free_port}
use Rattle.c_calls.proofs.ports.free_port.Given as goal

abbrev pub invariant-loop-left : goal.invariant-loop-left
invariant-loop-left l = free_port l.sockets l.number l.port l.left ≡ free_port l.sockets l.number l.fn.port l.fn.tries

abbrev pub decreases-loop-left : goal.decreases-loop-left
decreases-loop-left l = l.left
