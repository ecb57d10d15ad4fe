-- What the socket is that gets a user datagram (RFC 768): a UDP socket queues it, a client of DHCP or DNS reads it at once. Other
-- sockets stay as they were, and so do slots without one.
use Rattle.std.specs.Prelude.{◌≡◌, ℕ, List, slice_set, Option, None, Some}
use Rattle.ip_wire.specs.IpRepr.{IpRepr}
use Rattle.ip_wire.specs.UdpRepr.{UdpRepr}
use Rattle.sockets.specs.Context.{ContextValue}
use Rattle.socket_datagram.specs.Udp as Udps
use Rattle.sockets.specs.declared.socket.Socket.{Socket}
use Rattle.sockets.specs.declared.socket.Socket.TheVariants as Kind
use Rattle.sockets.specs.DhcpAnswers as Dhcps
use Rattle.sockets.specs.DhcpValue.{DhcpValue}
use Rattle.sockets.specs.DnsProcessed as Dnss
use Rattle.sockets.specs.DnsValue.{DnsValue}
use Rattle.iface_egress.specs.declared.socket_set.Item.{Item}
use Rattle.iface_egress.specs.declared.socket_set.SocketStorage.{SocketStorage}
use Rattle.iface_tables.specs.Best.{at_index}
use Rattle.iface_ingress.specs.Delivered.{Slots, datagram_slot}

-- a socket after a datagram
abbrev pub TakesDatagram : ContextValue → IpRepr → UdpRepr → List ℕ → Socket → Socket → Type 0
TakesDatagram cx ip udp bytes (Kind.Udp v) s' = s' ≡ Kind.Udp (Udps.process_after v ip udp bytes)
TakesDatagram cx ip udp bytes (Kind.Dhcpv4 v) s' = (v' : DhcpValue) × (s' ≡ Kind.Dhcpv4 v') × Dhcps.Processed cx.instant v ip udp bytes v'
TakesDatagram cx ip udp bytes (Kind.Dns v) s' = (v' : DnsValue) × (s' ≡ Kind.Dns v') × Dnss.Processed cx.instant v ip udp bytes v'
TakesDatagram cx ip udp bytes s s' = s' ≡ s

-- the socket of a slot, if it has one; its mark stays
abbrev pub ItemTakes : ContextValue → IpRepr → UdpRepr → List ℕ → Option (Item Socket) → Option (Item Socket) → Type 0
ItemTakes cx ip udp bytes None o' = o' ≡ None
ItemTakes cx ip udp bytes (Some item) o' =
    (s' : Socket) × TakesDatagram cx ip udp bytes item.socket s' × (o' ≡ Some (record item { socket = s' }))

abbrev pub SlotTakes : ContextValue → IpRepr → UdpRepr → List ℕ → SocketStorage Socket → SocketStorage Socket → Type 0
SlotTakes cx ip udp bytes slot slot' = ItemTakes cx ip udp bytes slot.inner slot'.inner

abbrev pub GivenIn : ContextValue → IpRepr → UdpRepr → List ℕ → ℕ → Option (SocketStorage Socket) → Slots → Slots → Type 0
GivenIn cx ip udp bytes at None slots slots' = slots' ≡ slots
GivenIn cx ip udp bytes at (Some slot) slots slots' =
    (slot' : SocketStorage Socket) × SlotTakes cx ip udp bytes slot slot' × (slots' ≡ slice_set slots at slot')

abbrev pub GivenAt : ContextValue → IpRepr → UdpRepr → List ℕ → Option ℕ → Slots → Slots → Type 0
GivenAt cx ip udp bytes None slots slots' = slots' ≡ slots
GivenAt cx ip udp bytes (Some at) slots slots' = GivenIn cx ip udp bytes at (at_index (Some at) slots) slots slots'

abbrev pub IsDelivered : ContextValue → IpRepr → UdpRepr → List ℕ → Slots → Slots → Type 0
IsDelivered cx ip udp bytes slots slots' = GivenAt cx ip udp bytes (datagram_slot cx ip udp slots) slots slots'
