-- A poll that is for something.
use Rattle.std.specs.Prelude.{◌≡◌, ℤ, true, ◌⊎◌, List, Option}
use Rattle.std.specs.List.{list_any}
use Rattle.net_base.specs.Device.{Move}
use Rattle.iface_ingress.specs.Socket.{Socket}
use Rattle.iface_egress.specs.declared.socket_set.SocketStorage.{SocketStorage}
use Rattle.interface.specs.QuietStep.{IsEarlier}
use Rattle.interface.specs.State.{State}
use Rattle.proof_stack.specs.Progress.Moves.{AreMoves, is_sent, is_refused}

-- among the moves a frame went, or the device gave no leave or refused one
abbrev pub Stirs : List Move → Type 0
Stirs all = (list_any is_sent all ≡ true) ⊎ (list_any is_refused all ≡ true)

-- A frame went or was refused in a call at this instant, or the host wants to be called again later than at that instant, if at all.
pub record IsOfUse {D : Type 0} (moves : D → Move → D → Type 0) (t : ℤ) (old new : D) (next : Option ℤ) : Type 0 where
  pub all : List Move
  pub are : AreMoves moves all old new
  pub why : Stirs all ⊎ IsEarlier t next

-- the instant has come
abbrev pub IsDue : ℤ → Option ℤ → Type 0
IsDue t next = IsEarlier t next → ⊥

-- A frame went or was refused, or a socket, its offer or its mark isn't what it was.
pub record Acts {D : Type 0} (moves : D → Move → D → Type 0) (old new : D) (before after : List (SocketStorage Socket)) : Type 0 where
  pub all : List Move
  pub are : AreMoves moves all old new
  pub what : Stirs all ⊎ (after ≡ before → ⊥)

-- the same, or a packet that waited for its next hop doesn't wait any more
pub record ActsOrDrops {D : Type 0} (moves : D → Move → D → Type 0) (old new : State D) : Type 0 where
  pub all : List Move
  pub are : AreMoves moves all old.device new.device
  pub what : Stirs all ⊎ (new.slots ≡ old.slots → new.host.inner.parking ≡ old.host.inner.parking → ⊥)
