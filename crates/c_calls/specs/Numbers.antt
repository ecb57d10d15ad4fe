-- The numbers of a host's sockets: a slot, and above it the generation of the socket in it.
use Rattle.std.specs.Prelude.{ℕ, ◌+◌, ◌-◌, ◌*◌, ◌/◌, ◌%◌, ◌^◌, ◌==◌, Bool, true, false, List, [], ◌++◌, length, replicate, slice_get, slice_index_or, slice_set}
use Rattle.std.specs.Prelude.{Option, None, Some, Result, Ok, Err}
use Rattle.interface.specs.Set.{free, set_in, socket_in}
use Rattle.interface.specs.SocketStorage.{SocketStorage}
use Rattle.sockets.specs.declared.socket.Socket.{Socket}
use Rattle.c_calls.specs.declared.code.Code.{Code}
use Rattle.c_calls.specs.declared.code.Code.TheVariants as Is
use Rattle.c_calls.specs.declared.slots.Tag.{Tag}
use Rattle.c_calls.specs.SlotsValue.{SlotsValue}

-- a host has so many slots at most
abbrev pub most_slots : ℕ
most_slots = 2 ^ 32

-- the slot of a socket of this number, and its generation
abbrev pub slot_of : ℕ → ℕ
slot_of number = number % 2 ^ 32

abbrev pub generation_of : ℕ → ℕ
generation_of number = number / 2 ^ 32

-- TAGS

-- that of a slot of which no socket was removed
abbrev pub no_tag : Tag
no_tag = record { generation = 0; user = 0 }

abbrev pub tag_at : List Tag → ℕ → Tag
tag_at tags slot = slice_index_or tags slot no_tag

-- behind a removal: the next generation, and nothing of the user's
abbrev pub next_tag : Tag → Tag
next_tag tag = record { generation = (tag.generation + 1) % 2 ^ 32; user = 0 }

-- one for each of so many slots and for one more
abbrev pub tags_for : ℕ → List Tag → List Tag
tags_for slots tags = tags ++ replicate (slots + 1 - length tags) no_tag

-- NUMBERS

abbrev pub number_of : List Tag → ℕ → ℕ
number_of tags slot = (tag_at tags slot).generation * 2 ^ 32 + slot_of slot

abbrev pub has_generation : ℕ → Option Tag → Bool
has_generation generation None = false
has_generation generation (Some tag) = tag.generation == generation

-- whether the number has its slot's generation
abbrev pub is_current : List Tag → ℕ → Bool
is_current tags number = has_generation (generation_of number) (slice_get tags (slot_of number))

-- SLOTS

abbrev pub no_slots : SlotsValue
no_slots = record { sockets = []; tags = [] }

abbrev pub storage_if : Bool → List (SocketStorage Socket) → ℕ → Option (SocketStorage Socket)
storage_if true ps slot = slice_get ps slot
storage_if false ps slot = None

-- the slot that a number names: none, where it has another generation
abbrev pub storage_at : SlotsValue → ℕ → Option (SocketStorage Socket)
storage_at s number = storage_if (is_current s.tags number) s.sockets (slot_of number)

abbrev pub socket_named : SlotsValue → ℕ → Option Socket
socket_named s number = socket_in (storage_at s number)

abbrev pub put_by : Option (SocketStorage Socket) → SlotsValue → ℕ → Socket → SlotsValue
put_by None s number socket = s
put_by (Some slot) s number socket = record s { sockets = set_in slot.inner s.sockets (slot_of number) socket }

-- the slots, of which the socket of this number is another
abbrev pub put_at : SlotsValue → ℕ → Socket → SlotsValue
put_at s number socket = put_by (storage_at s number) s number socket

-- the slot is free, and its next socket has another number
abbrev pub without_socket : SlotsValue → ℕ → SlotsValue
without_socket s slot = record {
  sockets = slice_set s.sockets slot free;
  tags = slice_set s.tags slot (next_tag (tag_at s.tags slot));
}

-- THE USER'S

-- whether there is a socket of the number
abbrev pub is_some_socket : Option Socket → Result (Unit {0}) Code
is_some_socket None = Err Is.NoSocket
is_some_socket (Some socket) = Ok tt

abbrev pub user_of : Option Socket → Tag → Result ℕ Code
user_of None tag = Err Is.NoSocket
user_of (Some socket) tag = Ok tag.user

-- what the user set at the socket of this number
abbrev pub user_at : SlotsValue → ℕ → Result ℕ Code
user_at s number = user_of (socket_named s number) (tag_at s.tags (slot_of number))

-- a number of the user's own at the slot
abbrev pub with_user : SlotsValue → ℕ → ℕ → SlotsValue
with_user s slot user = record s { tags = slice_set s.tags slot (record (tag_at s.tags slot) { user = user }) }

abbrev pub user_set : Option Socket → SlotsValue → ℕ → ℕ → SlotsValue
user_set None s slot user = s
user_set (Some socket) s slot user = with_user s slot user

-- the same at the socket of this number, if there is one
abbrev pub with_user_at : SlotsValue → ℕ → ℕ → SlotsValue
with_user_at s number user = user_set (socket_named s number) s (slot_of number) user
