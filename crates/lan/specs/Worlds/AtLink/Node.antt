-- A host at the link: its interface, its sockets and its port.
use Rattle.std.specs.Prelude.{ℕ, List, Option, None, Some}
use Rattle.interface.specs.State.{State, state}
use Rattle.interface.specs.Host.{HostValue}
use Rattle.iface_egress.specs.Set.{socket_at}
use Rattle.iface_egress.specs.declared.socket_set.SocketStorage.{SocketStorage}
use Rattle.lan.specs.declared.at_link.history.event.Side.{Side}
use Rattle.lan.specs.declared.at_link.history.event.Side.TheVariants.{A, B}
use Rattle.lan.specs.declared.at_link.history.record.SocketKind.{SocketKind}
use Rattle.lan.specs.declared.at_link.history.record.SocketKind.TheVariants as Of
use Rattle.sim_link.specs.Port.{LinkEnd, PortValue}
use Rattle.sockets.specs.declared.socket.Socket.{Socket}
use Rattle.sockets.specs.declared.socket.Socket.TheVariants as Is

pub record NodeValue : Type 0 where
  pub host : HostValue
  pub slots : List (SocketStorage Socket)
  pub link : LinkEnd

-- the two hosts at the link
pub record Nodes : Type 0 where
  pub a : NodeValue
  pub b : NodeValue

abbrev pub node : Nodes → Side → NodeValue
node hosts A = hosts.a
node hosts B = hosts.b

abbrev pub with_node : Nodes → Side → NodeValue → Nodes
with_node hosts A s = record hosts { a = s }
with_node hosts B s = record hosts { b = s }

abbrev pub with_link : NodeValue → LinkEnd → NodeValue
with_link s link = record s { link = link }

-- no event calls a client of DHCP or DNS, so there is no kind of it
abbrev pub kind_of_socket : Socket → Option SocketKind
kind_of_socket (Is.Raw v) = Some Of.Raw
kind_of_socket (Is.Icmp v) = Some Of.Icmp
kind_of_socket (Is.Udp v) = Some Of.Udp
kind_of_socket (Is.Tcp v) = Some Of.Tcp
kind_of_socket (Is.Dhcpv4 v) = None
kind_of_socket (Is.Dns v) = None

abbrev pub kind_in : Option Socket → Option SocketKind
kind_in None = None
kind_in (Some s) = kind_of_socket s

-- which kind of socket that events call is at a slot; a free slot has none
abbrev pub kind_at : List (SocketStorage Socket) → ℕ → Option SocketKind
kind_at slots i = kind_in (socket_at slots i)

-- what polls: the host with its sockets at this port
abbrev pub at_port : PortValue → NodeValue → State PortValue
at_port port s = state port s.host s.slots
