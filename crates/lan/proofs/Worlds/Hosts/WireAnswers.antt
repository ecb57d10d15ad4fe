-- What a host answers asks for no neighbour: echoes, errors, advertisements and segments.
use Rattle.std.specs.Prelude.{◌&&◌, ◌||◌, slice_get}
use Rattle.std.proofs.Common.{ℕ, Bool, true, false, if◌then◌else◌, List, length, Option, Some, None, IfSome, is_some}
use Rattle.iface_ingress.specs.Icmpv4Header.{Icmpv4Header}
use Rattle.iface_ingress.specs.Icmpv4Header.TheVariants as V4
use Rattle.iface_ingress.specs.Icmpv6 as Icmpv6
use Rattle.iface_ingress.specs.Icmpv6.{MessageValue}
use Rattle.lan.specs.Worlds.AtLink.Icmpv6DstUnreachable.TheVariants as V6Reason
use Rattle.lan.specs.Worlds.AtLink.Ndisc.{NeighborMessage, Solicitation, Advertisement}
use Rattle.iface_ingress.specs.Following.{Following}
use Rattle.iface_ingress.specs.Following.TheVariants as End
use Rattle.iface_ingress.specs.Delivered.{datagram_slot, packet_by, answer_of, answer_in, answer_by, segment_slot, segment_answer_at, segment_answer}
use Rattle.iface_ingress.specs.EthernetAddress.{EthernetAddress}
use Rattle.iface_ingress.specs.Processed.{control_v4_reply, control_v6_reply, message_reply, handed_reply, is_known_v4, is_unknown, names_no_endpoint, unread_v6}
use Rattle.iface_ingress.specs.Processed.{unread_reply}
use Rattle.iface_ingress.specs.HardwareAddress.{HardwareAddress}
use Rattle.iface_ingress.specs.HardwareAddress.TheVariants as Hardware
use Rattle.iface_ingress.specs.Headers.{go_through, carries_error}
use Rattle.iface_ingress.specs.Ndisc.{neighbor_learned, Heard, heard, heard_on, asks_host, tells, learned, advertised, answer, advertisement, is_asked}
use Rattle.iface_ingress.specs.Reassembled.{is_control_v6}
use Rattle.iface_ingress.specs.Replies.{sent_v4, port_unreachable, protocol_unreachable, parameter_problem, is_told, reason_of, source_of_reply}
use Rattle.iface_ingress.specs.Replies.{reply_v6, is_between_hosts, quoted_v4}
use Rattle.iface_ingress.specs.Replies.{quoted_v6}
use Rattle.interface.specs.IpRepr.{IpRepr}
use Rattle.interface.specs.IpRepr.TheVariants as Ip
use Rattle.interface.specs.Ipv6Repr.{Ipv6Repr}
use Rattle.iface_ingress.specs.Ipv4Address.{Ipv4Address}
use Rattle.iface_ingress.specs.Ipv6Address.{Ipv6Address}
use Rattle.iface_egress.specs.declared.socket_set.Item.{Item}
use Rattle.iface_egress.specs.declared.socket_set.SocketStorage.{SocketStorage}
use Rattle.iface_tables.specs.Inner.{InnerValue, context_of}
use Rattle.wire_tcp.specs.declared.header.TcpHeader.{TcpHeader}
use Rattle.sockets.specs.Context.{ContextValue}
use Rattle.sockets.specs.Packet.{PacketValue, PayloadValue, ControlV4, ControlV6, Bytes, Datagram, Segment}
use Rattle.sockets.specs.declared.socket.Socket.{Socket}
use Rattle.sockets.specs.declared.socket.Socket.TheVariants as Is
use Rattle.tcp_block.specs.Arrival.{arrives}
use Rattle.tcp_block.specs.Controls.{is_rst}
use Rattle.tcp_block.specs.Reply.{Reply}
use Rattle.tcp_block.specs.Segments.{rst_reply}
use Rattle.lan.specs.Worlds.Moves.Protocols.{NamesFollowing, NamesItsPayload}
use Rattle.lan.proofs.Worlds.Hosts.WireReplies.{RepliesMayGo}
use Rattle.lan.proofs.Worlds.Hosts.WireTests.{AsksNobody, IsNoSolicitation}
use Rattle.lan.proofs.Worlds.Moves.Slots.{Slots}
use Rattle.lan.proofs.Worlds.Moves.Protocols.{replied_names}

-- a segment, or a message that asks for no neighbour
abbrev Answering : PayloadValue → Type 0
Answering (ControlV4 message bytes) = Unit {0}
Answering (ControlV6 message bytes) = IsNoSolicitation message
Answering (Bytes bytes) = ⊥
Answering (Datagram udp bytes) = ⊥
Answering (Segment header bytes) = Unit {0}

abbrev Free : Option PacketValue → Type 0
Free reply = IfSome reply (λ p. Answering p.payload)

free_if : (test : Bool) (reply : Option PacketValue) → Free reply → Free (if test then None else reply)
free_if true reply free = tt
free_if false reply free = free

kept_if : (test : Bool) (reply : Option PacketValue) → Free reply → Free (if test then reply else None)
kept_if true reply free = free
kept_if false reply free = tt

sent_free : (from : Option Ipv4Address) (to : Ipv4Address) (message : Icmpv4Header) (bytes : List ℕ) → Free (sent_v4 from to (ControlV4 message bytes))
sent_free None to message bytes = tt
sent_free (Some from) to message bytes = tt

-- MESSAGES

v4_free : (i : InnerValue) (ip : IpRepr) (message : Icmpv4Header) (bytes : List ℕ) → Free (control_v4_reply i ip message bytes)
v4_free i (Ip.Ipv4 header) (V4.EchoRequest ident seq_no) bytes =
    sent_free (source_of_reply i header (V4.EchoReply ident seq_no)) header.src_addr (V4.EchoReply ident seq_no) bytes
v4_free i (Ip.Ipv4 header) message bytes = tt
v4_free i (Ip.Ipv6 header) message bytes = tt

answer_free : (asked overrides : Bool) (own : EthernetAddress) (target to : Ipv6Address)
    → Free (if asked then Some (advertisement overrides own target to) else None)
answer_free true overrides own target to = tt
answer_free false overrides own target to = tt

heard_if : (test : Bool) (h : Heard) (i : InnerValue) → Free h.reply → Free (if test then h else heard i None).reply
heard_if true h i free = free
heard_if false h i free = tt

heard_free : (hardware : HardwareAddress) (i : InnerValue) (header : Ipv6Repr) (message : NeighborMessage) → Free (heard_on hardware i header message).reply
heard_free Hardware.Ip i header message = tt
heard_free (Hardware.Ethernet own) i header (Solicitation target link) =
    heard_if (asks_host i header target link) (heard (learned i header.src_addr link) (answer own i header target)) i
    (answer_free (is_asked i header target) i.host_requirements own target header.src_addr)
heard_free (Hardware.Ethernet own) i header (Advertisement flags target link) =
    heard_if (tells header flags target link) (heard (advertised i flags target link) None) i tt

message_free : (i : InnerValue) (header : Ipv6Repr) (message : MessageValue) (bytes : List ℕ) → Free (message_reply i header message bytes)
message_free i header (Icmpv6.Ndisc message) bytes =
    kept_if (is_control_v6 header.next_header) (neighbor_learned i header message).reply (heard_free i.hardware i header message)
message_free i header (Icmpv6.EchoRequest ident seq_no) bytes = tt
message_free i header message bytes = tt

v6_free : (i : InnerValue) (ip : IpRepr) (message : MessageValue) (bytes : List ℕ) → Free (control_v6_reply i ip message bytes)
v6_free i (Ip.Ipv4 header) message bytes = tt
v6_free i (Ip.Ipv6 header) message bytes = message_free i header message bytes

-- ERRORS

error_free : (told : Bool) (i : InnerValue) (header : Ipv6Repr) (message : MessageValue) (quoted : List ℕ) → IsNoSolicitation message →
    Free (if told then Some (reply_v6 i header message quoted) else None)
error_free true i header message quoted none = none
error_free false i header message quoted none = tt

port_free : (i : InnerValue) (ip : IpRepr) (payload : List ℕ) → Free (port_unreachable i ip payload)
port_free i (Ip.Ipv4 header) payload = sent_free _ header.src_addr _ (quoted_v4 payload)
port_free i (Ip.Ipv6 header) payload =
    error_free (is_between_hosts header) i header (Icmpv6.DstUnreachable V6Reason.PortUnreachable header) (quoted_v6 payload) tt

headers_free : (i : InnerValue) (header : Ipv6Repr) (payload : List ℕ) (taken : Bool) (following : Following) → Free (unread_v6 i header payload taken following)
headers_free i header payload taken (End.Problem problem pointer) =
    free_if ((is_unknown problem && taken) || carries_error header.next_header payload) (parameter_problem i header payload problem pointer)
    (error_free (is_told problem header) i header (Icmpv6.ParamProblem (reason_of problem) pointer header) (quoted_v6 payload) tt)
headers_free i header payload taken following = tt

unread_free : (i : InnerValue) (ip : IpRepr) (payload : List ℕ) (taken : Bool) → Free (unread_reply i ip payload taken)
unread_free i (Ip.Ipv4 header) payload taken =
    free_if (is_known_v4 header.next_header || taken) (protocol_unreachable i header payload) (sent_free _ header.src_addr _ (quoted_v4 payload))
unread_free i (Ip.Ipv6 header) payload taken = headers_free i header payload taken (go_through header.next_header payload)

-- SEGMENTS

segment_free : (o : Option Reply) → Free (packet_by o)
segment_free None = tt
segment_free (Some reply) = tt

module _ (cx : ContextValue) (ip : IpRepr) (header : TcpHeader) (bytes : List ℕ) where
  by_socket : (s : Socket) → Free (answer_of cx ip header bytes s)
  by_socket (Is.Raw v) = tt
  by_socket (Is.Icmp v) = tt
  by_socket (Is.Udp v) = tt
  by_socket (Is.Tcp v) = segment_free (arrives cx v ip header bytes).answer
  by_socket (Is.Dhcpv4 v) = tt
  by_socket (Is.Dns v) = tt

  by_item : (o : Option (Item Socket)) → Free (answer_in (answer_of cx ip header bytes) o)
  by_item None = tt
  by_item (Some item) = by_socket item.socket

  by_slot : (o : Option (SocketStorage Socket)) → Free (answer_by (answer_of cx ip header bytes) o)
  by_slot None = tt
  by_slot (Some slot) = by_item slot.inner

  by_answer : (at : Option ℕ) (taken : Bool) (slots : Slots) → Free (segment_answer_at at cx ip header bytes taken slots)
  by_answer None taken slots =
      let reset : Option Reply = Some (rst_reply ip header (length bytes)) in
      free_if (taken || is_rst header.control) (packet_by reset) (segment_free reset)
  by_answer (Some at) taken slots = by_slot (slice_get slots at)

-- ALL

replied_free : (i : InnerValue) (slots : Slots) (ip : IpRepr) (payload : List ℕ) (taken : Bool) (carried : Option PayloadValue) →
    Free (handed_reply i slots ip payload taken carried)
replied_free i slots ip payload taken None = unread_free i ip payload taken
replied_free i slots ip payload taken (Some (ControlV4 message bytes)) = v4_free i ip message bytes
replied_free i slots ip payload taken (Some (ControlV6 message bytes)) = v6_free i ip message bytes
replied_free i slots ip payload taken (Some (Bytes bytes)) = tt
replied_free i slots ip payload taken (Some (Datagram udp bytes)) =
    free_if (is_some (datagram_slot (context_of i) ip udp slots) || taken) (port_unreachable i ip payload) (port_free i ip payload)
replied_free i slots ip payload taken (Some (Segment header bytes)) =
    free_if (names_no_endpoint i ip) (segment_answer (context_of i) ip header bytes taken slots)
    (by_answer (context_of i) ip header bytes (segment_slot ip header slots) taken slots)

asks_nobody : (h : IpRepr) (x : PayloadValue) → Answering x → NamesFollowing h x → AsksNobody h x
asks_nobody h (ControlV4 message bytes) free named = named.1
asks_nobody h (ControlV6 message bytes) free named = free
asks_nobody h (Bytes bytes) free named = absurd free
asks_nobody h (Datagram udp bytes) free named = absurd free
asks_nobody h (Segment header bytes) free named = named

both : (o : Option PacketValue) → Free o → IfSome o NamesItsPayload → IfSome o (λ p. AsksNobody p.header p.payload)
both None free named = tt
both (Some p) free named = asks_nobody p.header p.payload free named

pub port_replies : RepliesMayGo AsksNobody
port_replies i slots ip payload taken carried =
    both (handed_reply i slots ip payload taken carried) (replied_free i slots ip payload taken carried) (replied_names i slots ip payload taken carried)
