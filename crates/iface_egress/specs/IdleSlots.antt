-- Slots idle: what is there has nothing to do until it is called, or something arrives for it.
use Rattle.std.specs.Prelude.{◌≡◌, ℕ, ◌<◌, ◌≤◌, max, nat_lt, if◌then◌else◌, ◌&&◌, ◌++◌, Bool, true, false, List, length, take, drop, Option, Some, None, is_none, slice_get}
use Rattle.iface_egress.specs.declared.socket_set.Item.{Item}
use Rattle.iface_egress.specs.declared.socket_set.SocketStorage.{SocketStorage}

module _ {T : Type 0} (idle : T → Bool) where
  -- its socket is idle, and waits for no neighbour
  abbrev pub is_item_idle : Option (Item T) → Bool
  is_item_idle None = true
  is_item_idle (Some item) = is_none item.meta.waiting && idle item.socket

  abbrev pub is_socket_idle : SocketStorage T → Bool
  is_socket_idle slot = is_item_idle slot.inner

  -- there is a slot, and it is idle
  abbrev pub is_some_idle : Option (SocketStorage T) → Bool
  is_some_idle None = false
  is_some_idle (Some slot) = is_socket_idle slot

  -- each slot that is marked as off the agenda is idle, and no more slots are marked than there are
  abbrev pub AreIdle : List Bool → List (SocketStorage T) → Type 0
  AreIdle marks ps =
      ((i : ℕ) (slot : SocketStorage T) → slice_get marks i ≡ Some false → slice_get ps i ≡ Some slot → is_socket_idle slot ≡ true)
      × (length marks ≤ length ps)

  -- each of the first slots that isn't busy is idle
  abbrev pub FewAreIdle : List Bool → List (SocketStorage T) → Type 0
  FewAreIdle busy ps =
      (i : ℕ) (slot : SocketStorage T) → slice_get busy i ≡ Some false → slice_get ps i ≡ Some slot → is_socket_idle slot ≡ true

  -- The next slot from this one on that isn't known to be idle, or none: those before it are idle.
  abbrev pub IsNextBusy : ℕ → List (SocketStorage T) → Option ℕ → Type 0
  IsNextBusy from ps (Some at) =
      (from ≤ at) × (at < length ps) × ((i : ℕ) (slot : SocketStorage T) → from ≤ i → i < at → slice_get ps i ≡ Some slot → is_socket_idle slot ≡ true)
  IsNextBusy from ps None = (i : ℕ) (slot : SocketStorage T) → from ≤ i → slice_get ps i ≡ Some slot → is_socket_idle slot ≡ true

-- of so many slots the first one that is busy, from this one on, or none
abbrev pub IsFirstBusy : List Bool → ℕ → ℕ → Option ℕ → Type 0
IsFirstBusy busy from slots (Some at) = (from ≤ at) × (at < slots) × ((i : ℕ) → from ≤ i → i < at → slice_get busy i ≡ Some false)
IsFirstBusy busy from slots None = (i : ℕ) → from ≤ i → i < slots → slice_get busy i ≡ Some false

-- the first place that is on the agenda, or else that has no mark, if there is one
abbrev pub first_of : Option ℕ → ℕ → ℕ → ℕ → Option ℕ
first_of (Some at) from marks slots = Some at
first_of None from marks slots = if nat_lt (max from marks) slots then Some (max from marks) else None

-- a list of which the first items are these
abbrev pub with_first : {X : Type 0} → List X → List X → List X
with_first old first = take (length old) (first ++ drop (length first) old)
