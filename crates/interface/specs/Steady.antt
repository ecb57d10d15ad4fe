-- A device that stays determined while a host polls.
use Rattle.std.specs.Prelude.{ℕ, List, length}
use Rattle.net_base.specs.Device.{Move, Emitted, Denied}
use Rattle.iface_egress.specs.Determined.{IsDetermined}

-- A move leads from a device whose next move is determined to such a one; and there no frame may be taken and refused as well, whatever its
-- length. Of a device with few buffers these are the moves for which one lies ready before and after.
pub record IsSteady {D : Type 0} (moves : D → Move → D → Type 0) (longest : ℕ) : Type 0 where
  pub stays : (old new : D) (m : Move) → IsDetermined moves longest old → moves old m new → IsDetermined moves longest new
  pub clear : (here one other : D) (frame : List ℕ) → IsDetermined moves longest here → moves here (Emitted frame) one →
      moves here (Denied (length frame)) other → ⊥
