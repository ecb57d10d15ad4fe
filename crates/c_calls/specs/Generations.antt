-- What becomes of a host's slots, and of the numbers of their sockets.
use Rattle.std.specs.Prelude.{ℕ, ◌+◌, ◌==◌, if◌then◌else◌, List, [], ◌∷◌}
use Rattle.interface.specs.SocketStorage.{SocketStorage}
use Rattle.sockets.specs.declared.socket.Socket.{Socket}
use Rattle.c_calls.specs.Added.{slots_with}
use Rattle.c_calls.specs.Numbers.{with_user, without_socket}
use Rattle.c_calls.specs.SlotsValue.{SlotsValue}

-- a call or a poll leaves other sockets in the slots, which stay; a socket is added; that of a slot is removed; its user sets a number at it
pub data Event : Type 0 where
  Changed : List (SocketStorage Socket) → Event
  Added : Socket → Event
  Removed : ℕ → Event
  Marked : ℕ → ℕ → Event

abbrev pub after_event : SlotsValue → Event → SlotsValue
after_event s (Changed sockets) = record s { sockets = sockets }
after_event s (Added socket) = slots_with s socket
after_event s (Removed slot) = without_socket s slot
after_event s (Marked slot user) = with_user s slot user

-- the slots behind a history
abbrev pub behind : SlotsValue → List Event → SlotsValue
behind s [] = s
behind s (e ∷ es) = behind (after_event s e) es

-- how many sockets are removed from a slot
abbrev pub removed_at : ℕ → Event → ℕ
removed_at slot (Removed at) = if at == slot then 1 else 0
removed_at slot _ = 0

abbrev pub removals : ℕ → List Event → ℕ
removals slot [] = 0
removals slot (e ∷ es) = removed_at slot e + removals slot es
