-- What a packet for the host carries, given to sockets and tables, and what is answered at once (RFC 1122, sections 3.2.2, 4.1.3.1
-- and 4.2.3.9; RFC 4443; RFC 9293, section 3.10.7.1).
use Rattle.std.specs.Prelude.{◌≡◌, ℕ, ◌+◌, ◌<◌, ◌^◌, ◌||◌, ◌&&◌, not, Bool, true, false, if◌then◌else◌, List, length, Option, None, Some, is_some}
use Rattle.wire_icmpv4.specs.declared.header.Icmpv4Header.{Icmpv4Header}
use Rattle.wire_icmpv6.specs.Icmpv6 as Icmpv6
use Rattle.wire_icmpv6.specs.Icmpv6.{MessageValue}
use Rattle.ip_wire.specs.AddressTests.{is_unspecified, is_multicast}
use Rattle.ip_wire.specs.Ip.{source_of, destination_of}
use Rattle.ip_wire.specs.IpAddress.{IpAddress}
use Rattle.ip_wire.specs.IpProtocol.{IpProtocol}
use Rattle.ip_wire.specs.IpProtocol.TheVariants as Protocol
use Rattle.ip_wire.specs.IpRepr.{IpRepr}
use Rattle.ip_wire.specs.IpRepr.TheVariants as Ip
use Rattle.ip_wire.specs.Ipv6Repr.{Ipv6Repr}
use Rattle.ip_wire.specs.TcpHeader.{TcpHeader}
use Rattle.ip_wire.specs.UdpRepr.{UdpRepr}
use Rattle.wire_ipv6_headers.specs.Headers.{go_through, carries_error}
use Rattle.wire_ipv6_headers.specs.declared.headers.Following.{Following}
use Rattle.wire_ipv6_headers.specs.declared.headers.Following.TheVariants as End
use Rattle.wire_ipv6_headers.specs.declared.headers.Problem.{Problem}
use Rattle.wire_ipv6_headers.specs.declared.headers.Problem.TheVariants as Told
use Rattle.socket_context.specs.Packet.{PacketValue, PayloadValue, ControlV4, ControlV6, Bytes, Datagram, Segment}
use Rattle.iface_ingress.specs.Ndisc.{neighbor_learned}
use Rattle.iface_ingress.specs.Reassembled.{is_control_v6}
use Rattle.iface_ingress.specs.Replies.{echo_v4, echo_v6, port_unreachable, protocol_unreachable, parameter_problem}
use Rattle.iface_tables.specs.Inner.{InnerValue, context_of, is_local_broadcast, may_tell, with_error}
use Rattle.iface_ingress.specs.Datagrams.{IsDelivered}
use Rattle.iface_ingress.specs.PathTold.{path_host_v4, path_host_v6}
use Rattle.iface_ingress.specs.Delivered.{Slots, icmpv4_delivered, icmpv6_delivered, datagram_slot, segment_answer, segment_delivered}
use Rattle.iface_ingress.specs.Delivered.{segment_draws, segment_slot, drawn_if}

-- CONTROL MESSAGES

abbrev pub control_v4_slots : IpRepr → Icmpv4Header → List ℕ → Slots → Slots
control_v4_slots (Ip.Ipv4 header) message bytes slots = icmpv4_delivered header message bytes slots
control_v4_slots (Ip.Ipv6 header) message bytes slots = slots

abbrev pub control_v4_host : InnerValue → Slots → IpRepr → List ℕ → Icmpv4Header → List ℕ → InnerValue
control_v4_host i slots (Ip.Ipv4 header) payload message bytes = path_host_v4 i slots payload message bytes
control_v4_host i slots (Ip.Ipv6 header) payload message bytes = i

abbrev pub control_v4_reply : InnerValue → IpRepr → Icmpv4Header → List ℕ → Option PacketValue
control_v4_reply i (Ip.Ipv4 header) message bytes = echo_v4 i header message bytes
control_v4_reply i (Ip.Ipv6 header) message bytes = None

abbrev pub control_v6_slots : IpRepr → MessageValue → List ℕ → Slots → Slots
control_v6_slots (Ip.Ipv4 header) message bytes slots = slots
control_v6_slots (Ip.Ipv6 header) message bytes slots = icmpv6_delivered header message bytes slots

-- A neighbour message tells of its sender, and may be answered. It stands right after the IPv6 header (RFC 6980 for fragment headers).
-- Packet too big tells of a path.
abbrev pub message_host : InnerValue → Slots → Ipv6Repr → MessageValue → List ℕ → InnerValue
message_host i slots header (Icmpv6.Ndisc message) bytes = if is_control_v6 header.next_header then (neighbor_learned i header message).inner else i
message_host i slots header message bytes = path_host_v6 i slots message bytes

abbrev pub message_reply : InnerValue → Ipv6Repr → MessageValue → List ℕ → Option PacketValue
message_reply i header (Icmpv6.Ndisc message) bytes = if is_control_v6 header.next_header then (neighbor_learned i header message).reply else None
message_reply i header message bytes = echo_v6 i header message bytes

abbrev pub control_v6_host : InnerValue → Slots → IpRepr → MessageValue → List ℕ → InnerValue
control_v6_host i slots (Ip.Ipv4 header) message bytes = i
control_v6_host i slots (Ip.Ipv6 header) message bytes = message_host i slots header message bytes

abbrev pub control_v6_reply : InnerValue → IpRepr → MessageValue → List ℕ → Option PacketValue
control_v6_reply i (Ip.Ipv4 header) message bytes = None
control_v6_reply i (Ip.Ipv6 header) message bytes = message_reply i header message bytes

-- DATAGRAMS AND SEGMENTS

-- a packet for all hosts of a network, or for a group
abbrev pub is_for_many : InnerValue → IpAddress → Bool
is_for_many i address = is_local_broadcast i address || is_multicast address

-- A connection is between two hosts (RFC 9293, section 3.9.2.3): an unspecified address names no end of one, and a broadcast or
-- a group is none.
abbrev pub names_no_endpoint : InnerValue → IpRepr → Bool
names_no_endpoint i ip =
    is_unspecified (source_of ip) || (is_unspecified (destination_of ip) || is_for_many i (destination_of ip))

-- a datagram that neither a socket nor a raw socket took is answered by an error
abbrev pub datagram_reply : InnerValue → Slots → IpRepr → List ℕ → Bool → UdpRepr → Option PacketValue
datagram_reply i slots ip payload taken udp =
    if is_some (datagram_slot (context_of i) ip udp slots) || taken then None else port_unreachable i ip payload

abbrev pub segment_host : InnerValue → Slots → IpRepr → TcpHeader → List ℕ → InnerValue
segment_host i slots ip header bytes =
    if names_no_endpoint i ip then i else drawn_if (segment_draws (context_of i) ip header bytes slots) i

abbrev pub segment_slots : InnerValue → Slots → IpRepr → TcpHeader → List ℕ → Slots
segment_slots i slots ip header bytes =
    if names_no_endpoint i ip then slots else segment_delivered (context_of i) ip header bytes slots

abbrev pub segment_reply : InnerValue → Slots → IpRepr → Bool → TcpHeader → List ℕ → Option PacketValue
segment_reply i slots ip taken header bytes =
    if names_no_endpoint i ip then None else segment_answer (context_of i) ip header bytes taken slots

-- UNKNOWN PROTOCOLS

abbrev pub is_known_v4 : IpProtocol → Bool
is_known_v4 Protocol.Icmp = true
is_known_v4 Protocol.Udp = true
is_known_v4 Protocol.Tcp = true
is_known_v4 protocol = false

abbrev pub is_known_v6 : IpProtocol → Bool
is_known_v6 Protocol.Icmpv6 = true
is_known_v6 Protocol.Udp = true
is_known_v6 Protocol.Tcp = true
is_known_v6 protocol = false

-- such a protocol stands right after the header
abbrev pub is_bare : IpRepr → Bool
is_bare (Ip.Ipv4 header) = true
is_bare (Ip.Ipv6 header) = is_known_v6 header.next_header

abbrev pub is_unknown : Problem → Bool
is_unknown Told.NextHeader = true
is_unknown problem = false

-- The source of an IPv6 packet is told what is wrong with its extension headers, unless a raw socket took what isn't known, or an
-- error stands after them.
abbrev pub unread_v6 : InnerValue → Ipv6Repr → List ℕ → Bool → Following → Option PacketValue
unread_v6 i header payload taken (End.Problem problem pointer) =
    if (is_unknown problem && taken) || carries_error header.next_header payload then None else parameter_problem i header payload problem pointer
unread_v6 i header payload taken end = None

-- what isn't known, and what no raw socket took, is answered by an error; what is known and can't be read is dropped
abbrev pub unread_reply : InnerValue → IpRepr → List ℕ → Bool → Option PacketValue
unread_reply i (Ip.Ipv4 header) payload taken = if is_known_v4 header.next_header || taken then None else protocol_unreachable i header payload
unread_reply i (Ip.Ipv6 header) payload taken = unread_v6 i header payload taken (go_through header.next_header payload)

-- ALL. `taken` says that a raw socket took the packet.

abbrev pub handed_host : InnerValue → Slots → IpRepr → List ℕ → Option PayloadValue → InnerValue
handed_host i slots ip payload (Some (ControlV4 message bytes)) = control_v4_host i slots ip payload message bytes
handed_host i slots ip payload (Some (ControlV6 message bytes)) = control_v6_host i slots ip message bytes
handed_host i slots ip payload (Some (Segment header bytes)) = segment_host i slots ip header bytes
handed_host i slots ip payload carried = i

abbrev pub HandsTo : InnerValue → Slots → IpRepr → Option PayloadValue → Slots → Type 0
HandsTo i slots ip (Some (ControlV4 message bytes)) slots' = slots' ≡ control_v4_slots ip message bytes slots
HandsTo i slots ip (Some (ControlV6 message bytes)) slots' = slots' ≡ control_v6_slots ip message bytes slots
HandsTo i slots ip (Some (Bytes bytes)) slots' = slots' ≡ slots
HandsTo i slots ip (Some (Datagram udp bytes)) slots' = IsDelivered (context_of i) ip udp bytes slots slots'
HandsTo i slots ip (Some (Segment header bytes)) slots' = slots' ≡ segment_slots i slots ip header bytes
HandsTo i slots ip None slots' = slots' ≡ slots

abbrev pub handed_reply : InnerValue → Slots → IpRepr → List ℕ → Bool → Option PayloadValue → Option PacketValue
handed_reply i slots ip payload taken (Some (ControlV4 message bytes)) = control_v4_reply i ip message bytes
handed_reply i slots ip payload taken (Some (ControlV6 message bytes)) = control_v6_reply i ip message bytes
handed_reply i slots ip payload taken (Some (Bytes bytes)) = None
handed_reply i slots ip payload taken (Some (Datagram udp bytes)) = datagram_reply i slots ip payload taken udp
handed_reply i slots ip payload taken (Some (Segment header bytes)) = segment_reply i slots ip taken header bytes
handed_reply i slots ip payload taken None = unread_reply i ip payload taken

-- THE LIMIT on errors and resets that answer what nobody takes (RFC 1812, section 4.3.2.8; RFC 4443, section 2.4 f; RFC 5961,
-- section 7): they are counted together, and so are problems with extension headers.

-- the segment names two hosts, and no socket takes it
abbrev pub is_stray : InnerValue → Slots → IpRepr → TcpHeader → Bool
is_stray i slots ip header = not (names_no_endpoint i ip) && not (is_some (segment_slot ip header slots))

-- no socket takes what the packet carries, or it carries nothing that was read, and an error or a reset may tell so
abbrev pub is_unclaimed : InnerValue → Slots → IpRepr → Option PayloadValue → Bool
is_unclaimed i slots ip (Some (Datagram udp bytes)) = not (is_some (datagram_slot (context_of i) ip udp slots))
is_unclaimed i slots ip (Some (Segment header bytes)) = is_stray i slots ip header
is_unclaimed i slots ip (Some carried) = false
is_unclaimed i slots ip None = true

-- the answer to what nobody takes, where one more may go
abbrev pub if_it_may : InnerValue → Option PacketValue → Option PacketValue
if_it_may i None = None
if_it_may i (Some packet) = if may_tell i then Some packet else None

-- and it is counted where it goes
abbrev pub counted_in : InnerValue → Option PacketValue → InnerValue → InnerValue
counted_in i None after = after
counted_in i (Some packet) after = if may_tell i then with_error after else after

abbrev pub let_go : (unclaimed : Bool) → InnerValue → Option PacketValue → Option PacketValue
let_go true i reply = if_it_may i reply
let_go false i reply = reply

abbrev pub counted : (unclaimed : Bool) → InnerValue → Option PacketValue → InnerValue → InnerValue
counted true i reply after = counted_in i reply after
counted false i reply after = after

-- the host and the answer, within the limit

abbrev pub limited_host : InnerValue → Slots → IpRepr → List ℕ → Bool → Option PayloadValue → InnerValue
limited_host i slots ip payload taken carried =
    counted (is_unclaimed i slots ip carried) i (handed_reply i slots ip payload taken carried) (handed_host i slots ip payload carried)

abbrev pub limited_reply : InnerValue → Slots → IpRepr → List ℕ → Bool → Option PayloadValue → Option PacketValue
limited_reply i slots ip payload taken carried = let_go (is_unclaimed i slots ip carried) i (handed_reply i slots ip payload taken carried)

-- the bytes of a message can be sent back
abbrev pub FitsBack : Option PayloadValue → Type 0
FitsBack (Some (ControlV4 message bytes)) = 28 + length bytes < 2 ^ 16
FitsBack (Some (ControlV6 message bytes)) = 8 + length bytes < 2 ^ 16
FitsBack carried = Unit {0}
