-- What a number names.
use Rattle.std.proofs.Common.{◌≡◌, ℕ, Bool, true, false, List, Option, None, Some, refl}
use Rattle.std.specs.Prelude.{slice_get}
use Rattle.interface.specs.SocketStorage.{SocketStorage}
use Rattle.sockets.specs.declared.socket.Socket.{Socket}
use Rattle.c_calls.specs.Numbers.{is_current, slot_of, storage_at, storage_if}
use Rattle.c_calls.specs.Slots.{after_at, after_in}
use Rattle.c_calls.specs.SlotsValue.{SlotsValue}

stored_if : (b : Bool) (ps : List (SocketStorage Socket)) (k : ℕ) (slot : SocketStorage Socket) → storage_if b ps k ≡ Some slot → slice_get ps k ≡ Some slot
stored_if true ps k slot is = is
stored_if false ps k slot is = cc

-- what it names stands in its slot
pub stored : (s : SlotsValue) (n : ℕ) (slot : SocketStorage Socket) → storage_at s n ≡ Some slot → slice_get s.sockets (slot_of n) ≡ Some slot
stored s n slot is = stored_if (is_current s.tags n) s.sockets (slot_of n) slot is

-- a call of a socket leaves each tag
module _ {V : Type 0} (as_kind : Socket → Option V) (of_kind : V → Socket) (after : V → V) (s : SlotsValue) (n : ℕ) where
  tags_in : (o : Option (SocketStorage Socket)) → (after_in as_kind of_kind after s n o).tags ≡ s.tags
  tags_in None = refl
  tags_in (Some slot) = refl

  pub same_tags : (after_at as_kind of_kind after s n).tags ≡ s.tags
  same_tags = tags_in (storage_at s n)
