-- Two hosts as their sockets see them: no frame, no interface. What a host made may arrive at the other in any order, any number of
-- times, or never.
use Rattle.std.specs.Prelude.{◌≡◌, ℕ, Bool, List, [], ◌∷◌, ◌++◌, map, slice_get, slice_index_or, Option, Some, None}
use Rattle.sockets.specs.Packet.{PacketValue, PayloadValue}
use Rattle.sockets.specs.Packet as Carried
use Rattle.socket_datagram.specs.Udp.{UdpValue}
use Rattle.tcp_refinement.specs.Host.{Made}
use Rattle.tcp_block.specs.Value.{TcpValue}
use Rattle.lan.specs.declared.at_link.history.event.Side.{Side}
use Rattle.lan.specs.declared.at_link.history.event.Side.TheVariants.{A, B}
use Rattle.lan.specs.declared.at_link.history.record.SocketKind.{SocketKind}
use Rattle.lan.specs.declared.at_link.history.record.SocketKind.TheVariants as Of
use Rattle.lan.specs.Worlds.AtLink.History.{Entry}
use Rattle.lan.specs.Worlds.AtLink.Tables.{Slots}

-- a socket; one of ICMP or a raw one makes and takes neither segment nor datagram, so nothing of it is looked at
pub data Socket : Type 0 where
  Tcp : (v : TcpValue) → Socket
  Udp : (v : UdpValue) → Socket
  Icmp : Socket
  Raw : Socket

abbrev pub kind_of_socket : Socket → SocketKind
kind_of_socket (Tcp v) = Of.Tcp
kind_of_socket (Udp v) = Of.Udp
kind_of_socket Icmp = Of.Icmp
kind_of_socket Raw = Of.Raw

abbrev pub kind_in : Option Socket → Option SocketKind
kind_in None = None
kind_in (Some s) = Some (kind_of_socket s)

-- a UDP datagram: its ports and its payload
pub record Datagram : Type 0 where
  pub source : ℕ
  pub destination : ℕ
  pub bytes : List ℕ

-- A host: its sockets by slot, and the segments and datagrams that it ever made, oldest first, whether they left it or not. More than
-- what may arrive is harmless here.
pub record Party : Type 0 where
  pub sockets : List (Option Socket)
  pub segments : List Made
  pub datagrams : List Datagram

abbrev pub socket_at : Party → ℕ → Option Socket
socket_at p i = slice_index_or p.sockets i None

abbrev pub WasMade : Party → Datagram → Type 0
WasMade p x = (k : ℕ) × (slice_get p.datagrams k ≡ Some x)

-- the datagrams of a packet, one or none
abbrev pub datagrams_in : PayloadValue → List Datagram
datagrams_in (Carried.Datagram header bytes) = record { source = header.src_port; destination = header.dst_port; bytes = bytes } ∷ []
datagrams_in payload = []

abbrev pub datagrams_of : Option PacketValue → List Datagram
datagrams_of None = []
datagrams_of (Some p) = datagrams_in p.payload

-- both hosts, and all that their applications did
pub record Net : Type 0 where
  pub a : Party
  pub b : Party
  pub history : List Entry

abbrev pub party : Net → Side → Party
party net A = net.a
party net B = net.b

abbrev pub with_party : Net → Side → Party → Net
with_party net A p = record net { a = p }
with_party net B p = record net { b = p }

abbrev pub slots_of : (List ℕ → Bool) → Net → Slots
slots_of names net = record { a = map kind_in net.a.sockets; b = map kind_in net.b.sockets; names = names }
