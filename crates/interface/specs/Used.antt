-- How many slots of a set have a socket, and how many packets wait for their next hops.
use Rattle.std.specs.Prelude.{ℕ, not, Bool, true, false, List, length, max}
use Rattle.std.specs.List.{count_by}
use Rattle.iface_ingress.specs.Socket.{Socket}
use Rattle.iface_egress.specs.Set.{is_free}
use Rattle.iface_egress.specs.declared.socket_set.SocketStorage.{SocketStorage}
use Rattle.iface_tables.specs.Inner.{InnerValue}
use Rattle.iface_tables.specs.Parking.{parking_places}

abbrev pub is_used : SocketStorage Socket → Bool
is_used slot = not (is_free slot)

-- how many slots have a socket
abbrev pub sockets_in : List (SocketStorage Socket) → ℕ
sockets_in slots = count_by is_used slots

-- how many packets wait for their next hops in a poll that begins with so many, at most: with host requirements alone
abbrev pub most_if : (many : Bool) → ℕ → ℕ
most_if true waiting = max waiting parking_places
most_if false waiting = 0

abbrev pub most_parked : InnerValue → ℕ
most_parked i = most_if i.host_requirements (length i.parking.packets)
