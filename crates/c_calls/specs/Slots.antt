-- What a call for a socket of one kind makes of the slots of a host.
use Rattle.std.specs.Prelude.{ℕ, Bool, false, List, slice_set, Option, None, Some, Result, Ok, Err}
use Rattle.interface.specs.Set.{with_socket}
use Rattle.interface.specs.Item.{Item}
use Rattle.interface.specs.SocketStorage.{SocketStorage}
use Rattle.sockets.specs.declared.socket.Socket.{Socket}
use Rattle.c_calls.specs.declared.code.Code.{Code}
use Rattle.c_calls.specs.declared.code.Code.TheVariants as Is
use Rattle.c_calls.specs.Numbers.{slot_of, storage_at}
use Rattle.c_calls.specs.SlotsValue.{SlotsValue}

module _ {V : Type 0} (as_kind : Socket → Option V) where
  -- WHAT IS ANSWERED

  module _ {A : Type 0} (answer : V → Result A Code) where
    -- a socket of another kind hasn't the call
    abbrev pub answer_of_kind : Option V → Result A Code
    answer_of_kind None = Err Is.WrongKind
    answer_of_kind (Some v) = answer v

    abbrev pub answer_of : Socket → Result A Code
    answer_of socket = answer_of_kind (as_kind socket)

    abbrev pub answer_of_item : Option (Item Socket) → Result A Code
    answer_of_item None = Err Is.NoSocket
    answer_of_item (Some item) = answer_of item.socket

    abbrev pub answer_in : Option (SocketStorage Socket) → Result A Code
    answer_in None = Err Is.NoSocket
    answer_in (Some slot) = answer_of_item slot.inner

    -- a slot without a socket hasn't it either, nor has what names no slot
    abbrev pub answer_at : SlotsValue → ℕ → Result A Code
    answer_at slots n = answer_in (storage_at slots n)

  -- the socket of the kind of this number
  abbrev pub found_at : SlotsValue → ℕ → Result V Code
  found_at = answer_at (λ v. Ok v)

  -- WHAT IS LEFT

  module _ (of_kind : V → Socket) (after : V → V) where
    abbrev pub after_of_kind : Socket → Option V → Socket
    after_of_kind socket None = socket
    after_of_kind socket (Some v) = of_kind (after v)

    -- a socket of another kind stays as it is
    abbrev pub after_of : Socket → Socket
    after_of socket = after_of_kind socket (as_kind socket)

    abbrev pub after_item : List (SocketStorage Socket) → ℕ → Option (Item Socket) → List (SocketStorage Socket)
    after_item slots n None = slots
    after_item slots n (Some item) = slice_set slots n (with_socket item (after_of item.socket))

    abbrev pub after_in : SlotsValue → ℕ → Option (SocketStorage Socket) → SlotsValue
    after_in slots n None = slots
    after_in slots n (Some slot) = record slots { sockets = after_item slots.sockets (slot_of n) slot.inner }

    -- the socket of this number is what the call leaves of it, and each other is as it was
    abbrev pub after_at : SlotsValue → ℕ → SlotsValue
    after_at slots n = after_in slots n (storage_at slots n)

  -- WHAT STANDS IN A BUFFER that the call reads to: nothing is written where there is no socket of its kind
  module _ (written : V → List ℕ → List ℕ) (out : List ℕ) where
    abbrev pub written_of_kind : Option V → List ℕ
    written_of_kind None = out
    written_of_kind (Some v) = written v out

    abbrev pub written_of : Socket → List ℕ
    written_of socket = written_of_kind (as_kind socket)

    abbrev pub written_of_item : Option (Item Socket) → List ℕ
    written_of_item None = out
    written_of_item (Some item) = written_of item.socket

    abbrev pub written_in : Option (SocketStorage Socket) → List ℕ
    written_in None = out
    written_in (Some slot) = written_of_item slot.inner

    abbrev pub written_at : SlotsValue → ℕ → List ℕ
    written_at slots n = written_in (storage_at slots n)

  -- WHETHER A RANDOM WORD IS DRAWN
  module _ (draws : V → Bool) where
    abbrev pub draws_of_kind : Option V → Bool
    draws_of_kind None = false
    draws_of_kind (Some v) = draws v

    abbrev pub draws_of : Socket → Bool
    draws_of socket = draws_of_kind (as_kind socket)

    abbrev pub draws_of_item : Option (Item Socket) → Bool
    draws_of_item None = false
    draws_of_item (Some item) = draws_of item.socket

    abbrev pub draws_in : Option (SocketStorage Socket) → Bool
    draws_in None = false
    draws_in (Some slot) = draws_of_item slot.inner

    abbrev pub draws_at : SlotsValue → ℕ → Bool
    draws_at slots n = draws_in (storage_at slots n)
