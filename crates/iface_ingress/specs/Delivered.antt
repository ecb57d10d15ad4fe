-- Which sockets get what arrived, and what they are then (RFC 791, section 3.2; RFC 768; RFC 792; RFC 9293, section 3.10.7). What they are
-- after a datagram is said in Datagrams.antt.
-- Sockets of other kinds stay as they were, and so do slots without a socket.
use Rattle.std.specs.Prelude.{ℕ, Bool, false, not, ◌&&◌, ◌||◌, if◌then◌else◌, List, length, map, position, slice_set, Option, None, Some}
use Rattle.std.specs.List.{list_any}
use Rattle.wire_icmpv4.specs.declared.header.Icmpv4Header.{Icmpv4Header}
use Rattle.wire_icmpv6.specs.Icmpv6.{MessageValue}
use Rattle.ip_wire.specs.IpAddress.TheVariants as Address
use Rattle.ip_wire.specs.IpRepr.{IpRepr}
use Rattle.ip_wire.specs.Ipv4Repr.{Ipv4Repr}
use Rattle.ip_wire.specs.Ipv6Repr.{Ipv6Repr}
use Rattle.ip_wire.specs.TcpHeader.{TcpHeader}
use Rattle.ip_wire.specs.UdpRepr.{UdpRepr}
use Rattle.sockets.specs.Context.{ContextValue}
use Rattle.sockets.specs.Packet.{PacketValue}
use Rattle.socket_datagram.specs.Icmp as Icmps
use Rattle.socket_datagram.specs.Raw as Raws
use Rattle.sockets.specs.TcpArrival.{arrives}
use Rattle.sockets.specs.Socket.{accepts_packet, accepts_icmpv4, accepts_icmpv6, accepts_datagram, accepts_segment}
use Rattle.sockets.specs.declared.socket.Socket.{Socket}
use Rattle.sockets.specs.declared.socket.Socket.TheVariants as Kind
use Rattle.sockets.specs.TcpControls.{is_rst}
use Rattle.sockets.specs.TcpSegments.{rst_reply}
use Rattle.sockets.specs.TcpStates.{is_listening}
use Rattle.sockets.specs.TcpReply.{Reply}
use Rattle.sockets.specs.Replies as Replies
use Rattle.iface_egress.specs.declared.socket_set.Item.{Item}
use Rattle.iface_egress.specs.declared.socket_set.SocketStorage.{SocketStorage}
use Rattle.iface_tables.specs.Best.{at_index}
use Rattle.iface_tables.specs.Inner.{InnerValue, drawn}
use Rattle.iface_tables.specs.Reassembly.{or_else}

abbrev pub Slots : Type 0
Slots = List (SocketStorage Socket)

-- PLACES

abbrev pub changed_item : (Socket → Socket) → Option (Item Socket) → Option (Item Socket)
changed_item change None = None
changed_item change (Some item) = Some (record item { socket = change item.socket })

-- the slot with its socket, if it has one, changed so; its mark stays
abbrev pub with_change : (Socket → Socket) → SocketStorage Socket → SocketStorage Socket
with_change change slot = record { inner = changed_item change slot.inner }

abbrev pub passes_in : (Socket → Bool) → Option (Item Socket) → Bool
passes_in test None = false
passes_in test (Some item) = test item.socket

-- the slot has a socket that passes the test
abbrev pub passes : (Socket → Bool) → SocketStorage Socket → Bool
passes test slot = passes_in test slot.inner

-- every socket that passes the test, changed so
abbrev pub given : (Socket → Bool) → (Socket → Socket) → Socket → Socket
given test change s = if test s then change s else s

abbrev pub all_given : (Socket → Bool) → (Socket → Socket) → Slots → Slots
all_given test change slots = map (with_change (given test change)) slots

-- the first place whose socket passes the test
abbrev pub first_slot : (Socket → Bool) → Slots → Option ℕ
first_slot test slots = position (passes test) slots

abbrev pub changed_in : (Socket → Socket) → Option ℕ → Option (SocketStorage Socket) → Slots → Slots
changed_in change (Some at) (Some slot) slots = slice_set slots at (with_change change slot)
changed_in change at slot slots = slots

-- the socket at a slot, if one is named, changed so
abbrev pub changed_at : (Socket → Socket) → Option ℕ → Slots → Slots
changed_at change at slots = changed_in change at (at_index at slots) slots

-- RAW SOCKETS: every one that asks for such packets gets header and payload

abbrev pub with_packet : IpRepr → List ℕ → Socket → Socket
with_packet ip payload (Kind.Raw v) = Kind.Raw (Raws.process_after v ip payload)
with_packet ip payload s = s

abbrev pub is_taken_raw : IpRepr → Slots → Bool
is_taken_raw ip slots = list_any (passes (λ s. accepts_packet s ip)) slots

abbrev pub packet_delivered : IpRepr → List ℕ → Slots → Slots
packet_delivered ip payload slots = all_given (λ s. accepts_packet s ip) (with_packet ip payload) slots

-- ICMP: every socket that accepts the message gets it

abbrev pub with_icmpv4 : Ipv4Repr → Icmpv4Header → List ℕ → Socket → Socket
with_icmpv4 ip message bytes (Kind.Icmp v) = Kind.Icmp (Icmps.process_v4_after v ip message bytes)
with_icmpv4 ip message bytes s = s

abbrev pub icmpv4_delivered : Ipv4Repr → Icmpv4Header → List ℕ → Slots → Slots
icmpv4_delivered ip message bytes slots =
    all_given (λ s. accepts_icmpv4 s (Address.Ipv4 ip.dst_addr) message bytes) (with_icmpv4 ip message bytes) slots

abbrev pub with_icmpv6 : Ipv6Repr → MessageValue → List ℕ → Socket → Socket
with_icmpv6 ip message bytes (Kind.Icmp v) = Kind.Icmp (Icmps.process_v6_after v ip message bytes)
with_icmpv6 ip message bytes s = s

abbrev pub icmpv6_delivered : Ipv6Repr → MessageValue → List ℕ → Slots → Slots
icmpv6_delivered ip message bytes slots =
    all_given (λ s. accepts_icmpv6 s (Address.Ipv6 ip.dst_addr) message bytes) (with_icmpv6 ip message bytes) slots

-- UDP: the first socket that accepts the datagram gets it

abbrev pub datagram_slot : ContextValue → IpRepr → UdpRepr → Slots → Option ℕ
datagram_slot cx ip udp slots = first_slot (λ s. accepts_datagram cx s ip udp) slots

-- TCP: the socket of the segment's connection gets it, else the first listener that accepts it; it may answer it, and may draw a
-- random word

abbrev pub with_segment : ContextValue → IpRepr → TcpHeader → List ℕ → Socket → Socket
with_segment cx ip header bytes (Kind.Tcp v) = Kind.Tcp (arrives cx v ip header bytes).socket
with_segment cx ip header bytes s = s

abbrev pub packet_by : Option Reply → Option PacketValue
packet_by None = None
packet_by (Some reply) = Some (Replies.packet_in reply)

abbrev pub answer_of : ContextValue → IpRepr → TcpHeader → List ℕ → Socket → Option PacketValue
answer_of cx ip header bytes (Kind.Tcp v) = packet_by (arrives cx v ip header bytes).answer
answer_of cx ip header bytes s = None

abbrev pub draws_of : ContextValue → IpRepr → TcpHeader → List ℕ → Socket → Bool
draws_of cx ip header bytes (Kind.Tcp v) = (arrives cx v ip header bytes).draws
draws_of cx ip header bytes s = false

abbrev pub is_listener : Socket → Bool
is_listener (Kind.Tcp v) = is_listening v.tcb.state
is_listener s = false

-- the segment is for a socket that has a connection: both have one pair of endpoints
abbrev pub is_connected : Socket → IpRepr → TcpHeader → Bool
is_connected s ip header = not (is_listener s) && accepts_segment s ip header

abbrev pub segment_slot : IpRepr → TcpHeader → Slots → Option ℕ
segment_slot ip header slots =
    or_else (first_slot (λ s. is_connected s ip header) slots) (first_slot (λ s. accepts_segment s ip header) slots)

abbrev pub segment_delivered : ContextValue → IpRepr → TcpHeader → List ℕ → Slots → Slots
segment_delivered cx ip header bytes slots = changed_at (with_segment cx ip header bytes) (segment_slot ip header slots) slots

-- what the socket at a slot answers, and whether it draws a word
abbrev pub answer_in : (Socket → Option PacketValue) → Option (Item Socket) → Option PacketValue
answer_in answer None = None
answer_in answer (Some item) = answer item.socket

abbrev pub answer_by : (Socket → Option PacketValue) → Option (SocketStorage Socket) → Option PacketValue
answer_by answer None = None
answer_by answer (Some slot) = answer_in answer slot.inner

abbrev pub answer_at : (Socket → Option PacketValue) → Option ℕ → Slots → Option PacketValue
answer_at answer at slots = answer_by answer (at_index at slots)

abbrev pub passes_by : (Socket → Bool) → Option (SocketStorage Socket) → Bool
passes_by test None = false
passes_by test (Some slot) = passes test slot

abbrev pub passes_at : (Socket → Bool) → Option ℕ → Slots → Bool
passes_at test at slots = passes_by test (at_index at slots)

-- the reset that answers a segment which no socket accepts, but for a reset, and where no raw socket took it
abbrev pub reset_for : IpRepr → TcpHeader → List ℕ → Bool → Option PacketValue
reset_for ip header bytes taken =
    if taken || is_rst header.control then None else packet_by (Some (rst_reply ip header (length bytes)))

abbrev pub segment_answer_at : Option ℕ → ContextValue → IpRepr → TcpHeader → List ℕ → Bool → Slots → Option PacketValue
segment_answer_at (Some at) cx ip header bytes taken slots = answer_at (answer_of cx ip header bytes) (Some at) slots
segment_answer_at None cx ip header bytes taken slots = reset_for ip header bytes taken

abbrev pub segment_answer : ContextValue → IpRepr → TcpHeader → List ℕ → Bool → Slots → Option PacketValue
segment_answer cx ip header bytes taken slots = segment_answer_at (segment_slot ip header slots) cx ip header bytes taken slots

abbrev pub segment_draws : ContextValue → IpRepr → TcpHeader → List ℕ → Slots → Bool
segment_draws cx ip header bytes slots = passes_at (draws_of cx ip header bytes) (segment_slot ip header slots) slots

-- the host, where a random word was drawn or wasn't
abbrev pub drawn_if : Bool → InnerValue → InnerValue
drawn_if draws i = if draws then drawn i else i
