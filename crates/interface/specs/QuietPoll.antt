-- A poll that comes too early.
use Rattle.std.specs.Prelude.{◌≡◌, ℕ, ℤ, Bool, false, ◌⊎◌, List}
use Rattle.net_base.specs.Device.{Move, Took, Empty}
use Rattle.iface_tables.specs.Inner.{InnerValue}
use Rattle.interface.specs.Host.{maintained}
use Rattle.interface.specs.Instant.{poll_instant}
use Rattle.interface.specs.State.{State}

-- at this instant the device has no frame
abbrev pub HasNoFrame : {D : Type 0} → (D → Move → D → Type 0) → ℤ → D → Type 0
HasNoFrame {D} moves t d = (frame : List ℕ) (d' : D) → moves d (Took t frame) d' → ⊥

-- Nothing was asked of the device but a look for a frame. Nothing changed but that expired slots were freed, and that the host
-- that was asked when to poll would answer the same now.
pub record IsQuietPoll {D : Type 0} (moves : D → Move → D → Type 0) (asked : InnerValue) (t : ℤ) (s : State D) (changed : Bool) (s' : State D) : Type 0 where
  pub device : (s'.device ≡ s.device) ⊎ moves s.device (Empty t) s'.device
  pub changed_none : changed ≡ false
  pub host : s'.host ≡ maintained t s.host
  pub due_instant : poll_instant asked s.host.left s'.slots ≡ poll_instant asked s.host.left s.slots
