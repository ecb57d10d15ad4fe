use Rattle.std.proofs.Common.{◌≡◌, ◌-◌, drop, length, None}
use Rattle.std.specs.List.{fold}
use Rattle.interface.specs.Instant.{earlier, slot_instant}
use Rattle.interface.proofs.due_instant.soonest_of_busy.Given as goal

-- those from here on are left
abbrev pub invariant-loop-at : goal.invariant-loop-at
invariant-loop-at l =
    fold (λ b slot. earlier b (slot_instant l.inner slot)) None l.slots ≡ fold (λ b slot. earlier b (slot_instant l.inner slot)) l.best (drop l.from l.slots)

abbrev pub decreases-loop-at : goal.decreases-loop-at
decreases-loop-at l = length l.slots - l.from
