use Rattle.std.proofs.Common.{◌≡◌, ℕ, ◌<◌, ◌≤◌, ◌-◌, length, false, Some}
use Rattle.std.specs.Prelude.{slice_get}
use Rattle.iface_egress.specs.KeyIndex.{IsUnder, has}
use Rattle.iface_egress.specs.declared.socket_set.SocketStorage.{SocketStorage}
use Rattle.iface_egress.proofs.Filing.{IsPassedUpTo, slots_left}
use Rattle.iface_egress.proofs.key_index.first_with.Given as goal

abbrev pub invariant-loop-next : goal.invariant-loop-next
invariant-loop-next g l = IsPassedUpTo l.key l.index (has (g.W.Wanted.wants l.wanted)) l.slots l.next

abbrev pub decreases-loop-next : goal.decreases-loop-next
decreases-loop-next g l = slots_left (length l.slots) l.next
