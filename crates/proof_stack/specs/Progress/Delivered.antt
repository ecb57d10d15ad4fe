-- A datagram that goes from one host to another, and waits there.
use Rattle.std.specs.Prelude.{◌≡◌, ℕ, ◌^◌, ◌<◌, ℤ, Bool, true, false, ◌&&◌, ◌||◌, List, [], ◌∷◌, ◌++◌, slice_get, Some}
use Rattle.std.specs.List.{list_any}
use Rattle.net_base.specs.Device.{Move}
use Rattle.net_base.specs.Packets.{contents}
use Rattle.wire_ip.specs.Ip.{destination_of, source_of}
use Rattle.wire_ip.specs.declared.ip.repr.IpRepr.{IpRepr}
use Rattle.wire_ip.specs.declared.udp.repr.UdpRepr.{UdpRepr}
use Rattle.ip_wire.specs.AddressTests.{is_ethernet_broadcast, is_ethernet_multicast, is_same_hardware, is_unicast_v6}
use Rattle.ip_wire.specs.HardwareAddress.{HardwareAddress}
use Rattle.ip_wire.specs.HardwareAddress.TheVariants as Hardware
use Rattle.ip_wire.specs.IpAddress.{IpAddress}
use Rattle.ip_wire.specs.IpAddress.TheVariants as Address
use Rattle.socket_datagram.specs.Udp.{UdpValue, UdpSettings}
use Rattle.socket_datagram.specs.declared.udp.UdpMetadata.{UdpMetadata}
use Rattle.iface_ingress.specs.Delivered.{datagram_slot}
use Rattle.iface_ingress.specs.Packet.{PacketValue}
use Rattle.iface_ingress.specs.Reassembled.{is_astray, is_group_frame, is_sender}
use Rattle.iface_ingress.specs.Replies.{is_one_host}
use Rattle.iface_ingress.specs.Socket.{Socket}
use Rattle.iface_tables.specs.Inner.{InnerValue, context_of, is_for_us}
use Rattle.iface_egress.specs.declared.socket_meta.Meta.{Meta}
use Rattle.iface_egress.specs.declared.socket_set.SocketStorage.{SocketStorage}
use Rattle.interface.specs.TransmittedFrame.{Reader}
use Rattle.proof_stack.specs.Progress.NeighborResolution.{IsNext}
use Rattle.proof_stack.specs.Progress.Moves.{AreMoves, is_refused}
use Rattle.proof_stack.specs.Progress.Queued.{Sends, frame_under}
use Rattle.proof_stack.specs.Progress.Reached.{udp_slot}

-- THE LINK

-- the device gave each leave, and refused no frame, on its way from the one to the other
abbrev pub RefusesNothing : {D : Type 0} → (D → Move → D → Type 0) → D → D → Type 0
RefusesNothing {D} moves old new = (all : List Move) → AreMoves moves all old new → list_any is_refused all ≡ false

-- among the moves the packet went, under an identification of 16 bits
pub record WentAs (i : InnerValue) (to : HardwareAddress) (p : PacketValue) (all : List Move) : Type 0 where
  pub ident : ℕ
  pub wide : ident < 2 ^ 16
  pub sent : Sends (frame_under i ident to p) all

-- a frame in which the packet went waits at a device, with whatever padding, and no other one does
pub record ArrivesNext {E : Type 0} (moves : E → Move → E → Type 0) (t : ℤ) (device : E) (i : InnerValue) (to : HardwareAddress) (p : PacketValue)
    (all : List Move) : Type 0 where
  pub went : WentAs i to p all
  pub padding : List ℕ
  pub next : IsNext moves t device (frame_under i went.ident to p ++ padding)

-- the link brings the packet: where it went as the one device moved, it comes next at the other one
abbrev pub Brings : {D E : Type 0} → (D → Move → D → Type 0) → (E → Move → E → Type 0) → InnerValue → HardwareAddress → PacketValue → D → D → ℤ → E →
    Type 0
Brings {D} {E} from at i to p old new t device =
    (all : List Move) → AreMoves from all old new → WentAs i to p all → ArrivesNext at t device i to p all

-- THE RECEIVER

-- what a host reads by
abbrev pub reader_of : InnerValue → Reader
reader_of i = record { hardware = i.hardware; checksums = i.checksums }

-- a frame for this hardware address is for this host, for all hosts or for a group
abbrev pub hears : InnerValue → HardwareAddress → Bool
hears i Hardware.Ip = true
hears i (Hardware.Ethernet node) =
    is_same_hardware i.hardware (Hardware.Ethernet node) || (is_ethernet_broadcast node || is_ethernet_multicast node)

-- a frame to this hardware address would bring a packet to one host to many (RFC 1122, section 3.3.6)
abbrev pub is_misframed_to : InnerValue → HardwareAddress → IpAddress → Bool
is_misframed_to i Hardware.Ip destination = false
is_misframed_to i (Hardware.Ethernet node) (Address.Ipv4 a) = is_group_frame i node && is_one_host i a
is_misframed_to i (Hardware.Ethernet node) (Address.Ipv6 a) = false

-- the address is one host's, or in IPv4 that of a host which has none yet
abbrev pub may_be_sender : InnerValue → IpAddress → Bool
may_be_sender i (Address.Ipv4 a) = is_sender i a
may_be_sender i (Address.Ipv6 a) = is_unicast_v6 a

-- A datagram between the addresses of this header and between these ports, in a frame for this hardware address: the host takes it in, for it is
-- for this host and from one host, and it is for this host; and the first socket that accepts it is the UDP socket at this slot.
pub record IsExpected (i : InnerValue) (slots : List (SocketStorage Socket)) (to : HardwareAddress) (header : IpRepr) (ports : UdpRepr) (m : ℕ)
    (meta : Meta) (w : UdpValue) : Type 0 where
  pub heard : hears i to ≡ true
  pub framed : is_misframed_to i to (destination_of header) ≡ false
  pub sender : may_be_sender i (source_of header) ≡ true
  pub here : is_astray i (source_of header) (destination_of header) ≡ false
  pub ours : is_for_us i (destination_of header) ≡ true
  pub slot : datagram_slot (context_of i) header ports slots ≡ Some m
  pub stands : slice_get slots m ≡ Some (udp_slot meta w)

-- WHAT WAITS THERE

-- a datagram as it is read: the endpoint that it came from, the address that it was sent to, and its bytes
abbrev pub as_received : IpAddress → UdpSettings → UdpMetadata × List ℕ → UdpMetadata × List ℕ
as_received source settings d = (
  record { endpoint = record { addr = source; port = settings.endpoint.port }; local_address = Some d.0.endpoint.addr; meta = record {} },
  d.1,
)

-- the UDP socket at a slot, which is otherwise as it was, has the datagram after those that waited
pub record WaitsFollowing (slots : List (SocketStorage Socket)) (m : ℕ) (meta : Meta) (w : UdpValue) (received : UdpMetadata × List ℕ) : Type 0 where
  pub new : UdpValue
  pub stands : slice_get slots m ≡ Some (udp_slot meta new)
  pub settings : new.settings ≡ w.settings
  pub queued : new.queued ≡ w.queued
  pub following : contents new.received ≡ contents w.received ++ received ∷ []
