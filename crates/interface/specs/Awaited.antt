-- Which neighbour is asked for next, of those that sockets wait for.
use Rattle.std.specs.Prelude.{ℤ, int_lt, Bool, true, false, List, Option, None, Some, is_some, if◌then◌else◌}
use Rattle.std.specs.List.{filter_map}
use Rattle.ip_wire.specs.IpAddress.{IpAddress}
use Rattle.iface_tables.specs.Best.{first_best}
use Rattle.iface_tables.specs.Inner.{InnerValue, awaited_hop}
use Rattle.iface_tables.specs.Neighbor.{last_request}
use Rattle.iface_egress.specs.declared.socket_meta.Waiting.{Waiting}
use Rattle.iface_egress.specs.declared.socket_set.Item.{Item}
use Rattle.iface_egress.specs.declared.socket_set.SocketStorage.{SocketStorage}
use Rattle.iface_ingress.specs.Socket.{Socket}
use Rattle.interface.specs.declared.awaited.Awaited.{Awaited}

-- the neighbour that a marked socket waits for, which isn't known, and may answer yet
abbrev pub awaited_of : InnerValue → Waiting → Option IpAddress → Option Awaited
awaited_of i w None = None
awaited_of i w (Some hop) = Some (record { hop = hop; last_request = last_request i.neighbors hop; since = w.since })

abbrev pub awaited_by : InnerValue → Option Waiting → Option Awaited
awaited_by i None = None
awaited_by i (Some w) = awaited_of i w (awaited_hop i w.neighbor)

abbrev pub awaited_at : InnerValue → Option (Item Socket) → Option Awaited
awaited_at i None = None
awaited_at i (Some item) = awaited_by i item.meta.waiting

abbrev pub awaited_in : InnerValue → SocketStorage Socket → Option Awaited
awaited_in i slot = awaited_at i slot.inner

-- whether a socket waits for a neighbour
abbrev pub is_marked_at : Option (Item Socket) → Bool
is_marked_at None = false
is_marked_at (Some item) = is_some item.meta.waiting

abbrev pub is_marked : SocketStorage Socket → Bool
is_marked slot = is_marked_at slot.inner

-- One that was never asked for comes first, of two such the one that was waited for first; else the one that was asked for longer ago.
abbrev pub is_before : Option ℤ → Option ℤ → ℤ → ℤ → Bool
is_before None None since other = int_lt since other
is_before None (Some last) since other = true
is_before (Some last) None since other = false
is_before (Some last) (Some later) since other = int_lt last later

abbrev pub comes_before : Awaited → Awaited → Bool
comes_before a b = is_before a.last_request b.last_request a.since b.since

abbrev pub next_awaited : InnerValue → List (SocketStorage Socket) → Option Awaited
next_awaited i ps = first_best comes_before (filter_map (awaited_in i) ps)

-- whose turn it is to be asked for, where a socket waits; with host requirements all are asked for at once, each in its own silence
abbrev pub hop_of : Option Awaited → Option IpAddress
hop_of None = None
hop_of (Some a) = Some a.hop

abbrev pub turn_of : InnerValue → List (SocketStorage Socket) → Option IpAddress
turn_of i ps = if i.host_requirements then None else hop_of (next_awaited i ps)
