use Rattle.std.proofs.Common.{◌≡◌, ◌<◌, length, ℕ, ◌+◌, ◌-◌, ◌*◌, ◌≤◌, ◌^◌}
use Rattle.std.specs.Slice.Iter.{iter_mut_rest}
use Rattle.iface_egress.specs.Used.{used, lent_left, lent_item, CanLend}
use Rattle.iface_egress.proofs.socket_set.IterMutIterator.next.Given as goal

abbrev pub invariant-loop-slot : goal.invariant-loop-slot
invariant-loop-slot g l = (lent_left l.self ≡ lent_left l.initial.self) × CanLend l.self

abbrev pub decreases-loop-slot : goal.decreases-loop-slot
decreases-loop-slot g l = length (iter_mut_rest l.self.slots)
