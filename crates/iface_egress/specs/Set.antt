-- The sockets of a host: slots, each with a socket or free.
use Rattle.std.specs.Prelude.{◌≡◌, ℕ, Bool, true, false, Result, Ok, Err, MatchResult, List, [], ◌∷◌, ◌++◌, length, position, slice_get, slice_set, Option}
use Rattle.std.specs.Prelude.{None, Some, is_none, ◌&&◌}
use Rattle.net_base.specs.ManagedSlice.{storage_items}
use Rattle.iface_tables.specs.ManagedSlice.{ManagedSlice}
use Rattle.iface_tables.specs.ManagedSlice.TheVariants.{Fixed, Owned}
use Rattle.iface_egress.specs.declared.socket_meta.Meta.{Meta}
use Rattle.iface_egress.specs.declared.socket_set.Item.{Item}
use Rattle.iface_egress.specs.declared.socket_set.AddError.{AddError}
use Rattle.iface_egress.specs.declared.socket_set.AddError.TheVariants.{Full, Memory}
use Rattle.iface_egress.specs.declared.socket_set.SocketHandle.{SocketHandle}
use Rattle.iface_egress.specs.declared.socket_set.SocketSet.{SocketSet}
use Rattle.iface_egress.specs.declared.socket_set.SocketStorage.{SocketStorage}

module _ {T : Type 0} where
  abbrev pub free : SocketStorage T
  free = record { inner = None }

  abbrev pub unmarked : T → SocketStorage T
  unmarked socket = record { inner = Some (record { meta = record { waiting = None }; socket = socket }) }

  abbrev pub slots : SocketSet T → List (SocketStorage T)
  slots set = set.slots

  abbrev pub is_fixed_storage : ManagedSlice (SocketStorage T) → Bool
  is_fixed_storage (Fixed v) = true
  is_fixed_storage (Owned v) = false

  -- the storage never grows
  abbrev pub is_fixed : SocketSet T → Bool
  is_fixed set = set.fixed

  abbrev pub is_free : SocketStorage T → Bool
  is_free slot = is_none slot.inner

  -- the first free slot
  abbrev pub free_slot : List (SocketStorage T) → Option ℕ
  free_slot ps = position is_free ps

  -- the storage never grows, and each slot has a socket
  abbrev pub is_full : List (SocketStorage T) → Bool → Bool
  is_full ps fixed = fixed && is_none (free_slot ps)

  abbrev pub socket_of : Option (Item T) → Option T
  socket_of None = None
  socket_of (Some item) = Some item.socket

  abbrev pub socket_in : Option (SocketStorage T) → Option T
  socket_in None = None
  socket_in (Some slot) = socket_of slot.inner

  -- the socket of a handle
  abbrev pub socket_at : List (SocketStorage T) → ℕ → Option T
  socket_at ps n = socket_in (slice_get ps n)

  -- A socket goes to the first free slot. Without one, fixed storage is full; other storage grows by a slot, or finds no
  -- memory. A refusal hands the socket back, and the slots are as they were.
  abbrev pub Adds : Option ℕ → Bool → List (SocketStorage T) → T → Result SocketHandle (AddError T) → List (SocketStorage T) → Type 0
  Adds (Some i) fixed old socket result new = (result ≡ Ok (record { 0 = i })) × (new ≡ slice_set old i (unmarked socket))
  Adds None true old socket result new = (result ≡ Err (Full socket)) × (new ≡ old)
  Adds None false old socket result new =
      MatchResult result (λ h. (h ≡ record { 0 = length old }) × (new ≡ old ++ unmarked socket ∷ [])) (λ e. (e ≡ Memory socket) × (new ≡ old))

  -- the slot with another socket
  abbrev pub with_socket : Item T → T → SocketStorage T
  with_socket item socket = record { inner = Some (record item { socket = socket }) }

  -- the slots, of which the socket at this one is another
  abbrev pub set_in : Option (Item T) → List (SocketStorage T) → ℕ → T → List (SocketStorage T)
  set_in None ps n socket = ps
  set_in (Some item) ps n socket = slice_set ps n (with_socket item socket)

  abbrev pub set_by : Option (SocketStorage T) → List (SocketStorage T) → ℕ → T → List (SocketStorage T)
  set_by None ps n socket = ps
  set_by (Some slot) ps n socket = set_in slot.inner ps n socket

  abbrev pub set_at : List (SocketStorage T) → ℕ → T → List (SocketStorage T)
  set_at ps n socket = set_by (slice_get ps n) ps n socket

  -- What a call made of the socket of a handle, where `Calls old answer new` says what the call did. Without a socket nothing
  -- is called.
  abbrev pub UpdatesItem : {R : Type 0} → (T → R → T → Type 0) → Option (Item T) → List (SocketStorage T) → ℕ → Option R → List (SocketStorage T) → Type 0
  UpdatesItem Calls None old n result new = (result ≡ None) × (new ≡ old)
  UpdatesItem {R} Calls (Some item) old n result new =
      (r : R) × (socket : T) × (result ≡ Some r) × Calls item.socket r socket × (new ≡ slice_set old n (with_socket item socket))

  abbrev pub Updates : {R : Type 0} → (T → R → T → Type 0) → Option (SocketStorage T) → List (SocketStorage T) → ℕ → Option R → List (SocketStorage T) → Type 0
  Updates Calls None old n result new = (result ≡ None) × (new ≡ old)
  Updates Calls (Some slot) old n result new = UpdatesItem Calls slot.inner old n result new
