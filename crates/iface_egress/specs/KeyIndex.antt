-- Slots by their sockets' keys: which of them what arrives is for.
use Rattle.std.specs.Prelude.{◌≡◌, ℕ, ◌<◌, ◌≤◌, min, Bool, true, false, List, length, Option, Some, None, slice_get}
use Rattle.iface_egress.specs.declared.socket_set.Item.{Item}
use Rattle.iface_egress.specs.declared.socket_set.SocketStorage.{SocketStorage}

module _ {T : Type 0} where
  abbrev pub has_in : (T → Bool) → Option (Item T) → Bool
  has_in test None = false
  has_in test (Some item) = test item.socket

  -- there is a socket at the slot that passes the test
  abbrev pub has : (T → Bool) → SocketStorage T → Bool
  has test slot = has_in test slot.inner

  abbrev pub key_of : (T → ℕ) → Option (Item T) → ℕ
  key_of key None = 0
  key_of key (Some item) = key item.socket

  -- the key of the socket at a slot; 0 of a free one
  abbrev pub key_in : (T → ℕ) → SocketStorage T → ℕ
  key_in key slot = key_of key slot.inner

  -- each slot that isn't loose is filed under its socket's key, and no more slots are marked or filed than there are
  abbrev pub AreFiled : (T → ℕ) → List Bool → List ℕ → List (SocketStorage T) → Type 0
  AreFiled key loose keys ps =
      ((i : ℕ) (slot : SocketStorage T) → slice_get loose i ≡ Some false → slice_get ps i ≡ Some slot → slice_get keys i ≡ Some (key_in key slot))
      × (length loose ≤ length ps) × (length keys ≤ length ps)

  -- of the slots of some kind, the first whose socket passes the test, or none; one of another kind may be answered, if it does
  abbrev pub IsFirstAmong : (ℕ → Type 0) → (T → Bool) → List (SocketStorage T) → Option ℕ → Type 0
  IsFirstAmong Kind test ps (Some at) =
      ((slot : SocketStorage T) × (slice_get ps at ≡ Some slot) × (has test slot ≡ true))
      × ((i : ℕ) (slot : SocketStorage T) → i < at → Kind i → slice_get ps i ≡ Some slot → has test slot ≡ false)
  IsFirstAmong Kind test ps None = (i : ℕ) (slot : SocketStorage T) → Kind i → slice_get ps i ≡ Some slot → has test slot ≡ false

-- it may have another key than it is filed under
abbrev pub IsLoose : List Bool → ℕ → Type 0
IsLoose loose i = slice_get loose i ≡ Some false → ⊥

-- it is filed under this key
abbrev pub IsUnder : ℕ → List ℕ → ℕ → Type 0
IsUnder key keys i = slice_get keys i ≡ Some key

-- the first of two slots
abbrev pub nearer : Option ℕ → Option ℕ → Option ℕ
nearer None b = b
nearer a None = a
nearer (Some a) (Some b) = Some (min a b)
