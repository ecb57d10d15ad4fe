use Rattle.std.proofs.Common.{◌≡◌, ℕ, ◌<◌, ◌-◌, false, length, Some}
use Rattle.std.specs.Prelude.{slice_get}
use Rattle.iface_egress.specs.declared.socket_set.SocketStorage.{SocketStorage}
use Rattle.iface_ingress.specs.Socket.{Socket}
use Rattle.interface.specs.Awaited.{is_marked}
use Rattle.interface.proofs.awaited.some_busy_wait.Given as goal

-- none of those before waits
abbrev pub invariant-loop-at : goal.invariant-loop-at
invariant-loop-at l = (i : ℕ) (slot : SocketStorage Socket) → i < l.from → slice_get l.slots i ≡ Some slot → is_marked slot ≡ false

abbrev pub decreases-loop-at : goal.decreases-loop-at
decreases-loop-at l = length l.slots - l.from
