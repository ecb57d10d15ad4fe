-- The hosts of a world as their sockets see them.
use Rattle.std.specs.Prelude.{ℕ, [], map, Option, None, Some}
use Rattle.iface_egress.specs.declared.socket_set.SocketStorage.{SocketStorage}
use Rattle.iface_egress.specs.Set.{socket_in, socket_at}
use Rattle.sockets.specs.declared.socket.Socket as Sockets
use Rattle.sockets.specs.declared.socket.Socket.TheVariants as Is
use Rattle.lan.specs.declared.at_link.history.event.Side.{Side}
use Rattle.lan.specs.Worlds.AtLink.Parties as Parties
use Rattle.lan.specs.Worlds.AtLink.Parties.{Party, Net}
use Rattle.lan.specs.Worlds.AtLink.Node.{NodeValue}
use Rattle.lan.specs.Worlds.AtLink.Runs.{Starts, start, WorldValue}

-- of a client of DHCP or DNS nothing is looked at: a world has none
abbrev pub seen : Sockets.Socket → Option Parties.Socket
seen (Is.Raw v) = Some Parties.Raw
seen (Is.Icmp v) = Some Parties.Icmp
seen (Is.Udp v) = Some (Parties.Udp v)
seen (Is.Tcp v) = Some (Parties.Tcp v)
seen (Is.Dhcpv4 v) = None
seen (Is.Dns v) = None

abbrev pub seen_in : Option Sockets.Socket → Option Parties.Socket
seen_in None = None
seen_in (Some s) = seen s

-- which sockets a host has, by slot; what they made isn't looked at
abbrev pub party_of : NodeValue → Party
party_of s = record { sockets = map (λ (p : SocketStorage Sockets.Socket). seen_in (socket_in (Some p))) s.slots; segments = []; datagrams = [] }

abbrev pub net_of : WorldValue → Net
net_of w = record { a = party_of w.hosts.a; b = party_of w.hosts.b; history = w.history }

-- the port that a UDP socket was bound to when its world was made; 0 of any other
abbrev pub port_of : Option Sockets.Socket → ℕ
port_of (Some (Is.Udp v)) = v.settings.endpoint.port
port_of socket = 0

abbrev pub first_port : Starts → Side → ℕ → ℕ
first_port starts side i = port_of (socket_at (start starts side).slots i)
