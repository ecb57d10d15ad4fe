use Rattle.std.proofs.Common.{◌≡◌, ◌-◌, length}
use Rattle.iface_egress.specs.Used.{used_left}
use Rattle.iface_egress.proofs.socket_set.IterIterator.next.Given as goal

abbrev pub invariant-loop-self : goal.invariant-loop-self
invariant-loop-self g l = used_left l.self ≡ used_left l.initial.self

abbrev pub decreases-loop-self : goal.decreases-loop-self
decreases-loop-self g l = length l.self.slots.now - l.self.at
