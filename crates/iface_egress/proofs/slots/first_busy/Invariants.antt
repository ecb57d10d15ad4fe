use Rattle.std.proofs.Common.{◌≡◌, ℕ, ◌<◌, ◌≤◌, ◌-◌, false, Some}
use Rattle.std.specs.Prelude.{slice_get}
use Rattle.iface_egress.proofs.slots.first_busy.Given as goal

abbrev pub invariant-loop-at : goal.invariant-loop-at
invariant-loop-at l = (l.from ≤ l.at) × ((i : ℕ) → l.from ≤ i → i < l.at → slice_get l.busy i ≡ Some false)

abbrev pub decreases-loop-at : goal.decreases-loop-at
decreases-loop-at l = l.slots - l.at
