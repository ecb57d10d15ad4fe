-- Paths that lose packets over a length and tell nobody (RFC 2923, section 2.1): with host requirements, where the retransmission timer of a
-- segment runs out again, and nothing was acknowledged meanwhile, its path counts as one that carries less (RFC 4821, section 7.7).
use Rattle.std.specs.Prelude.{ℕ, zero, suc, ◌+◌, ℤ, nat_le, nat_lt, ◌&&◌, Bool, true, false, if◌then◌else◌, List, [], ◌∷◌, find, Option, None, Some}
use Rattle.std.specs.List.{fold}
use Rattle.ip_wire.specs.IpAddress.{IpAddress}
use Rattle.ip_wire.specs.IpAddress.TheVariants as Address
use Rattle.iface_ingress.specs.Socket.{Socket}
use Rattle.iface_ingress.specs.Socket.TheVariants as Kind
use Rattle.iface_ingress.specs.TcpSocket.{times_out_after}
use Rattle.iface_ingress.specs.TcpValue.{TcpValue}
use Rattle.iface_tables.specs.Inner.{InnerValue, at_instant, mtu_to}
use Rattle.iface_tables.specs.PathMtu.{lowered}
use Rattle.iface_tables.specs.declared.path_mtu.Path.{Path}
use Rattle.iface_egress.specs.declared.socket_set.Item.{Item}
use Rattle.iface_egress.specs.declared.socket_set.SocketStorage.{SocketStorage}
use Rattle.interface.specs.Host.{HostValue}
use Rattle.interface.specs.Remote.{remote_of}
use Rattle.interface.specs.Serve.{is_waiting}

-- the lengths that are tried, near which the MTUs of links lie (RFC 1191, section 7.1); every link of IPv6 carries 1280 bytes (RFC 8200,
-- section 5)
abbrev pub tried_lengths : IpAddress → List ℕ
tried_lengths (Address.Ipv4 a) = 1_492 ∷ 1_400 ∷ 1_280 ∷ 1_024 ∷ 576 ∷ []
tried_lengths (Address.Ipv6 a) = 1_280 ∷ []

-- the longest of them that is shorter than a packet, if one is
abbrev pub tried_below : IpAddress → ℕ → Option ℕ
tried_below address len = find (λ tried. nat_lt tried len) (tried_lengths address)

-- the headers of IP and TCP without options: a packet is at least so much longer than its payload
abbrev pub headers_to : IpAddress → ℕ
headers_to (Address.Ipv4 a) = 40
headers_to (Address.Ipv6 a) = 60

-- at least so long is the packet in flight, where it's one
abbrev pub flight_len : IpAddress → TcpValue → ℕ
flight_len address v = v.tcb.sender.flight_size + headers_to address

-- The timer runs out again now, and what is in flight may be one packet. After a first timeout nothing is in flight but what went again. Once
-- the path counts as one that carries less than that, it stays so until something shorter is in flight.
abbrev pub is_swallowed : InnerValue → IpAddress → TcpValue → Bool
is_swallowed i address v = times_out_after 1 i.instant v.tcb && nat_le (flight_len address v) (mtu_to i address)

-- the length that is tried instead, if there is a shorter one
abbrev pub tried_next : InnerValue → IpAddress → TcpValue → Option ℕ
tried_next i address v = if is_swallowed i address v then tried_below address (flight_len address v) else None

abbrev pub paths_told : InnerValue → IpAddress → Option ℕ → List Path
paths_told i address None = i.paths
paths_told i address (Some len) = lowered i.paths address len i.instant i.mtu

abbrev pub paths_towards : InnerValue → Option IpAddress → TcpValue → List Path
paths_towards i None v = i.paths
paths_towards i (Some address) v = paths_told i address (tried_next i address v)

-- what is known of paths after a look at a socket
abbrev pub paths_by : InnerValue → Socket → List Path
paths_by i (Kind.Tcp v) = paths_towards i (remote_of (Kind.Tcp v)) v
paths_by i s = i.paths

-- a socket that waits for its neighbour tells nothing: what it has to send doesn't go
abbrev pub paths_in : InnerValue → Option (Item Socket) → List Path
paths_in i None = i.paths
paths_in i (Some item) = if is_waiting i item.meta then i.paths else paths_by i item.socket

abbrev pub with_paths : InnerValue → List Path → InnerValue
with_paths i paths = record i { paths = paths }

abbrev pub paths_after : InnerValue → List Path → SocketStorage Socket → List Path
paths_after i paths slot = paths_in (with_paths i paths) slot.inner

-- after a look at each
abbrev pub paths_of_all : InnerValue → List (SocketStorage Socket) → List Path
paths_of_all i ps = fold (paths_after i) i.paths ps

abbrev pub paths_if : (many : Bool) → InnerValue → List (SocketStorage Socket) → List Path
paths_if true i ps = paths_of_all i ps
paths_if false i ps = i.paths

-- the host as a poll begins: what the timers of its connections tell of their paths is taken in
abbrev pub paths_checked : InnerValue → List (SocketStorage Socket) → InnerValue
paths_checked i ps = with_paths i (paths_if i.host_requirements i ps)

-- a host as a call that polls begins
abbrev pub checked : ℤ → HostValue → List (SocketStorage Socket) → HostValue
checked instant h ps = record h { inner = paths_checked (at_instant instant h.inner) ps }

abbrev pub checked_if : (many : Bool) → ℤ → HostValue → List (SocketStorage Socket) → HostValue
checked_if true instant h ps = checked instant h ps
checked_if false instant h ps = h

-- A packet that is lost so often, each time a shorter one: the length that is tried after so many.
abbrev pub or_same : ℕ → Option ℕ → ℕ
or_same len None = len
or_same len (Some tried) = tried

abbrev pub len_after : ℕ → IpAddress → ℕ → ℕ
len_after zero address len = len
len_after (suc n) address len = len_after n address (or_same len (tried_below address len))
