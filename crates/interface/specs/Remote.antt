-- What a socket sees of its host: of a connection, how long packets may be that go to its remote (RFC 9293, section 3.7.1; RFC 8201,
-- section 5.4).
use Rattle.std.specs.Prelude.{ℤ, Option, None, Some}
use Rattle.ip_wire.specs.IpAddress.{IpAddress}
use Rattle.ip_wire.specs.IpEndpoint.{IpEndpoint}
use Rattle.iface_ingress.specs.Context.{ContextValue}
use Rattle.iface_ingress.specs.Socket.{Socket}
use Rattle.iface_ingress.specs.Socket.TheVariants as Kind
use Rattle.iface_ingress.specs.TcpSocket.{remote_in}
use Rattle.iface_tables.specs.Inner.{InnerValue, context_towards, path_end}

abbrev pub address_in : Option IpEndpoint → Option IpAddress
address_in None = None
address_in (Some endpoint) = Some endpoint.addr

-- the one destination of all that a socket sends: a connection's remote; other sockets may send to several
abbrev pub remote_of : Socket → Option IpAddress
remote_of (Kind.Tcp v) = address_in (remote_in v.tcb.names.pair)
remote_of s = None

abbrev pub context_for : InnerValue → Socket → ContextValue
context_for i s = context_towards i (remote_of s)

-- when what is known of the path to its one destination ends, if there is one and something is
abbrev pub end_by : InnerValue → Option IpAddress → Option ℤ
end_by i None = None
end_by i (Some address) = path_end i address
