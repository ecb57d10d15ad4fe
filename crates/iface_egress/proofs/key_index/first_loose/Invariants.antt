use Rattle.std.proofs.Common.{◌≡◌, ℕ, ◌<◌, ◌≤◌, ◌-◌, length, false, Some}
use Rattle.std.specs.Prelude.{slice_get}
use Rattle.iface_egress.specs.KeyIndex.{IsLoose, has}
use Rattle.iface_egress.specs.declared.socket_set.SocketStorage.{SocketStorage}
use Rattle.iface_egress.proofs.key_index.first_loose.Given as goal

abbrev pub invariant-loop-at : goal.invariant-loop-at
invariant-loop-at g l = (i : ℕ) (slot : SocketStorage _) → i < l.from → IsLoose l.loose i → slice_get l.slots i ≡ Some slot
    → has (g.W.Wanted.wants l.wanted) slot ≡ false

abbrev pub decreases-loop-at : goal.decreases-loop-at
decreases-loop-at g l = length l.slots - l.from
