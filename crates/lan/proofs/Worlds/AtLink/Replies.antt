-- A packet that answers a frame has a header with the length of what it carries, and so has one that a socket offers.
use Rattle.std.proofs.Common.{◌≡◌, ℕ, Bool, true, false, List, length, Option, None, Some, IfSome, refl, sym, subst}
use Rattle.std.specs.Prelude.{◌&&◌, ◌||◌, is_some, if◌then◌else◌}
use Rattle.iface_ingress.specs.Icmpv4Header.{Icmpv4Header}
use Rattle.iface_ingress.specs.Icmpv4Header.TheVariants as V4
use Rattle.lan.specs.Worlds.AtLink.Icmpv4DstUnreachable.TheVariants as V4Reason
use Rattle.iface_ingress.specs.Icmpv6 as Icmpv6
use Rattle.lan.specs.Worlds.AtLink.Icmpv6DstUnreachable.TheVariants as V6Reason
use Rattle.lan.specs.Worlds.AtLink.Icmpv6ParamProblem.TheVariants as V6Problem
use Rattle.iface_ingress.specs.Icmpv6.{MessageValue}
use Rattle.lan.specs.Worlds.AtLink.Ndisc.{NeighborMessage, Solicitation, Advertisement}
use Rattle.ip_wire.specs.Ip.{payload_len_of}
use Rattle.ip_wire.specs.IpRepr.{IpRepr}
use Rattle.ip_wire.specs.IpRepr.TheVariants as Ip
use Rattle.ip_wire.specs.Ipv4Address.{Ipv4Address}
use Rattle.ip_wire.specs.Ipv4Repr.{Ipv4Repr}
use Rattle.ip_wire.specs.Ipv6Address.{Ipv6Address}
use Rattle.ip_wire.specs.Ipv6Repr.{Ipv6Repr}
use Rattle.ip_wire.specs.EthernetAddress.{EthernetAddress}
use Rattle.ip_wire.specs.declared.arp.repr.ArpRepr.{ArpRepr}
use Rattle.ip_wire.specs.declared.ethernet.repr.EthernetRepr.{EthernetRepr}
use Rattle.tcp_block.specs.Controls.{is_rst}
use Rattle.iface_ingress.specs.Arp.{arp_answer}
use Rattle.ip_wire.specs.HardwareAddress.{HardwareAddress}
use Rattle.ip_wire.specs.HardwareAddress.TheVariants as Hardware
use Rattle.ip_wire.specs.TcpHeader.{TcpHeader}
use Rattle.sockets.specs.Context.{ContextValue}
use Rattle.sockets.specs.Packet.{PacketValue, PayloadValue, ControlV4, ControlV6, Bytes, Datagram, Segment, payload_len, IsSendable}
use Rattle.iface_egress.specs.declared.socket_set.Item.{Item}
use Rattle.iface_egress.specs.declared.socket_set.SocketStorage.{SocketStorage}
use Rattle.iface_ingress.specs.Arrives as Replies
use Rattle.iface_ingress.specs.Arrives.{ReplyValue, Arrived, Brings, ArrivesV4, ArrivesV6, Hands, answered, told, renewed}
use Rattle.iface_ingress.specs.Delivered.{Slots, packet_delivered, is_taken_raw, segment_slot, segment_answer_at, answer_of, answer_in, answer_by}
use Rattle.iface_ingress.specs.Delivered.{packet_by, datagram_slot}
use Rattle.iface_ingress.specs.Headers.{go_through, carries_error}
use Rattle.iface_ingress.specs.Following.{Following}
use Rattle.iface_ingress.specs.Following.TheVariants as End
use Rattle.iface_ingress.specs.Problem.{Problem}
use Rattle.iface_ingress.specs.Reassembled.{is_control_v6}
use Rattle.iface_ingress.proofs.Limit.{let_go_so}
use Rattle.iface_ingress.specs.Processed.{handed_reply, is_unclaimed, limited_reply, control_v4_reply, control_v6_reply, message_reply}
use Rattle.iface_ingress.specs.Processed.{names_no_endpoint, is_known_v4, is_unknown, unread_v6, unread_reply}
use Rattle.iface_ingress.specs.Ndisc.{neighbor_learned, Heard, heard, heard_on, asks_host, tells, is_asked, learned, advertised, advertisement, answer}
use Rattle.iface_ingress.specs.Incoming.{IncomingValue, Arp, Ip4, Ip6}
use Rattle.iface_ingress.specs.Replies.{echo_v4, sent_v4, source_of_reply, port_unreachable, protocol_unreachable}
use Rattle.iface_ingress.specs.Replies.{parameter_problem, is_told, reason_of, reply_v4, reply_v6, error_v6}
use Rattle.iface_ingress.specs.Replies.{is_between_hosts, quoted_v4, quoted_v6}
use Rattle.iface_egress.specs.Inner.{InnerValue, context_of}
use Rattle.iface_ingress.specs.Best.{at_index}
use Rattle.sockets.specs.declared.socket.Socket.{Socket}
use Rattle.sockets.specs.declared.socket.Socket.TheVariants as Kind
use Rattle.tcp_block.specs.Reply.{Reply}
use Rattle.tcp_block.specs.Arrival.{arrives}
use Rattle.tcp_block.specs.Segments.{rst_reply}
use Rattle.tcp_socket.specs.Replies.{packet_in}
use Rattle.tcp_socket.proofs.Answered.{sendable_answer, sendable_reset}

abbrev pub IsMeasured : PacketValue → Type 0
IsMeasured p = payload_len_of p.header ≡ payload_len p.payload

abbrev pub IfMeasured : Option PacketValue → Type 0
IfMeasured o = IfSome o IsMeasured

if_either : (b : Bool) (x y : Option PacketValue) → IfMeasured x → IfMeasured y → IfMeasured (if b then x else y)
if_either true x y one other = one
if_either false x y one other = other

-- CONTROL MESSAGES

sent_v4_so : (from : Option Ipv4Address) (to : Ipv4Address) (message : PayloadValue) → IfMeasured (sent_v4 from to message)
sent_v4_so None to message = tt
sent_v4_so (Some from) to message = refl

reply_v4_so : (i : InnerValue) (header : Ipv4Repr) (message : Icmpv4Header) (bytes : List ℕ) → IfMeasured (reply_v4 i header message bytes)
reply_v4_so i header message bytes = sent_v4_so (source_of_reply i header message) header.src_addr (ControlV4 message bytes)

echo_v4_so : (i : InnerValue) (header : Ipv4Repr) (message : Icmpv4Header) (bytes : List ℕ) → IfMeasured (echo_v4 i header message bytes)
echo_v4_so i header (V4.EchoRequest ident seq_no) bytes = reply_v4_so i header (V4.EchoReply ident seq_no) bytes
echo_v4_so i header (V4.EchoReply ident seq_no) bytes = tt
echo_v4_so i header (V4.DstUnreachable reason quoted) bytes = tt
echo_v4_so i header (V4.TimeExceeded reason quoted) bytes = tt

v4_so : (i : InnerValue) (ip : IpRepr) (message : Icmpv4Header) (bytes : List ℕ) → IfMeasured (control_v4_reply i ip message bytes)
v4_so i (Ip.Ipv4 header) message bytes = echo_v4_so i header message bytes
v4_so i (Ip.Ipv6 header) message bytes = tt

asked_so : (b overrides : Bool) (own : EthernetAddress) (target : Ipv6Address) (header : Ipv6Repr) →
    IfMeasured (if b then Some (advertisement overrides own target header.src_addr) else None)
asked_so true overrides own target header = refl
asked_so false overrides own target header = tt

heard_if : (b : Bool) (x y : Heard) → IfMeasured x.reply → IfMeasured y.reply → IfMeasured (if b then x else y).reply
heard_if true x y one other = one
heard_if false x y one other = other

heard_so : (hardware : HardwareAddress) (i : InnerValue) (header : Ipv6Repr) (message : NeighborMessage) → IfMeasured (heard_on hardware i header message).reply
heard_so Hardware.Ip i header message = tt
heard_so (Hardware.Ethernet own) i header (Solicitation target link) =
    heard_if (asks_host i header target link) (heard (learned i header.src_addr link) (answer own i header target)) (heard i None)
    (asked_so (is_asked i header target) i.host_requirements own target header) tt
heard_so (Hardware.Ethernet own) i header (Advertisement flags target link) =
    heard_if (tells header flags target link) (heard (advertised i flags target link) None) (heard i None) tt tt

message_so : (i : InnerValue) (header : Ipv6Repr) (message : MessageValue) (bytes : List ℕ) → IfMeasured (message_reply i header message bytes)
message_so i header (Icmpv6.Ndisc message) bytes =
    if_either (is_control_v6 header.next_header) (neighbor_learned i header message).reply None (heard_so i.hardware i header message) tt
message_so i header (Icmpv6.EchoRequest ident seq_no) bytes = refl
message_so i header (Icmpv6.EchoReply ident seq_no) bytes = tt
message_so i header (Icmpv6.DstUnreachable reason quoted) bytes = tt
message_so i header (Icmpv6.PktTooBig mtu quoted) bytes = tt
message_so i header (Icmpv6.TimeExceeded reason quoted) bytes = tt
message_so i header (Icmpv6.ParamProblem reason at quoted) bytes = tt

v6_so : (i : InnerValue) (ip : IpRepr) (message : MessageValue) (bytes : List ℕ) → IfMeasured (control_v6_reply i ip message bytes)
v6_so i (Ip.Ipv4 header) message bytes = tt
v6_so i (Ip.Ipv6 header) message bytes = message_so i header message bytes

error_v6_so : (i : InnerValue) (header : Ipv6Repr) (message : MessageValue) (quoted : List ℕ) → IfMeasured (error_v6 i header message quoted)
error_v6_so i header message quoted = if_either (is_between_hosts header) (Some (reply_v6 i header message quoted)) None refl tt

port_so : (i : InnerValue) (ip : IpRepr) (payload : List ℕ) → IfMeasured (port_unreachable i ip payload)
port_so i (Ip.Ipv4 header) payload = reply_v4_so i header (V4.DstUnreachable V4Reason.PortUnreachable header) (quoted_v4 payload)
port_so i (Ip.Ipv6 header) payload = error_v6_so i header (Icmpv6.DstUnreachable V6Reason.PortUnreachable header) (quoted_v6 payload)

protocol_so : (i : InnerValue) (header : Ipv4Repr) (payload : List ℕ) → IfMeasured (protocol_unreachable i header payload)
protocol_so i header payload = reply_v4_so i header (V4.DstUnreachable V4Reason.ProtoUnreachable header) (quoted_v4 payload)

problem_so : (i : InnerValue) (header : Ipv6Repr) (payload : List ℕ) (problem : Problem) (pointer : ℕ) →
    IfMeasured (parameter_problem i header payload problem pointer)
problem_so i header payload problem pointer =
    if_either (is_told problem header) (Some (reply_v6 i header (Icmpv6.ParamProblem (reason_of problem) pointer header) (quoted_v6 payload))) None refl tt

headers_so : (i : InnerValue) (header : Ipv6Repr) (payload : List ℕ) (taken : Bool) (following : Following) → IfMeasured (unread_v6 i header payload taken following)
headers_so i header payload taken (End.Problem problem pointer) =
    let silent = (is_unknown problem && taken) || carries_error header.next_header payload in
    if_either silent None (parameter_problem i header payload problem pointer) tt (problem_so i header payload problem pointer)
headers_so i header payload taken following = tt

unread_so : (i : InnerValue) (ip : IpRepr) (payload : List ℕ) (taken : Bool) → IfMeasured (unread_reply i ip payload taken)
unread_so i (Ip.Ipv4 header) payload taken =
    if_either (is_known_v4 header.next_header || taken) None (protocol_unreachable i header payload) tt (protocol_so i header payload)
unread_so i (Ip.Ipv6 header) payload taken = headers_so i header payload taken (go_through header.next_header payload)

-- SEGMENTS

by_reply : (o : Option Reply) → IfSome o (λ r. IsSendable (packet_in r)) → IfMeasured (packet_by o)
by_reply None so = tt
by_reply (Some r) so = so.len

socket_so : (cx : ContextValue) (ip : IpRepr) (header : TcpHeader) (bytes : List ℕ) (s : Socket) → IfMeasured (answer_of cx ip header bytes s)
socket_so cx ip header bytes (Kind.Tcp v) = by_reply (arrives cx v ip header bytes).answer (sendable_answer cx v ip header bytes)
socket_so cx ip header bytes (Kind.Udp v) = tt
socket_so cx ip header bytes (Kind.Icmp v) = tt
socket_so cx ip header bytes (Kind.Raw v) = tt
socket_so cx ip header bytes (Kind.Dhcpv4 v) = tt
socket_so cx ip header bytes (Kind.Dns v) = tt

item_so : (cx : ContextValue) (ip : IpRepr) (header : TcpHeader) (bytes : List ℕ) (o : Option (Item Socket)) →
    IfMeasured (answer_in (answer_of cx ip header bytes) o)
item_so cx ip header bytes None = tt
item_so cx ip header bytes (Some item) = socket_so cx ip header bytes item.socket

slot_so : (cx : ContextValue) (ip : IpRepr) (header : TcpHeader) (bytes : List ℕ) (o : Option (SocketStorage Socket)) →
    IfMeasured (answer_by (answer_of cx ip header bytes) o)
slot_so cx ip header bytes None = tt
slot_so cx ip header bytes (Some slot) = item_so cx ip header bytes slot.inner

segment_so : (at : Option ℕ) (cx : ContextValue) (ip : IpRepr) (header : TcpHeader) (bytes : List ℕ) (taken : Bool) (slots : Slots) →
    IfMeasured (segment_answer_at at cx ip header bytes taken slots)
segment_so (Some at) cx ip header bytes taken slots = slot_so cx ip header bytes (at_index (Some at) slots)
segment_so None cx ip header bytes taken slots =
    if_either (taken || is_rst header.control) None (packet_by (Some (rst_reply ip header (length bytes)))) tt (sendable_reset ip header (length bytes)).len

-- ALL

handed_so : (i : InnerValue) (slots : Slots) (ip : IpRepr) (payload : List ℕ) (taken : Bool) (carried : Option PayloadValue) →
    IfMeasured (handed_reply i slots ip payload taken carried)
handed_so i slots ip payload taken (Some (ControlV4 message bytes)) = v4_so i ip message bytes
handed_so i slots ip payload taken (Some (ControlV6 message bytes)) = v6_so i ip message bytes
handed_so i slots ip payload taken (Some (Bytes bytes)) = tt
handed_so i slots ip payload taken (Some (Datagram udp bytes)) =
    if_either (is_some (datagram_slot (context_of i) ip udp slots) || taken) None (port_unreachable i ip payload) tt (port_so i ip payload)
handed_so i slots ip payload taken (Some (Segment header bytes)) =
    if_either (names_no_endpoint i ip) None (segment_answer_at (segment_slot ip header slots) (context_of i) ip header bytes taken slots) tt
    (segment_so (segment_slot ip header slots) (context_of i) ip header bytes taken slots)
handed_so i slots ip payload taken None = unread_so i ip payload taken

abbrev pub IfReplyMeasured : Option ReplyValue → Type 0
IfReplyMeasured None = Unit {0}
IfReplyMeasured (Some (Replies.Tells packet)) = Unit {0}
IfReplyMeasured (Some (Replies.Answers p)) = IsMeasured p

answered_so : (o : Option PacketValue) → IfMeasured o → IfReplyMeasured (answered o)
answered_so None so = tt
answered_so (Some p) so = so

told_so : (o : Option ArpRepr) → IfReplyMeasured (told o)
told_so None = tt
told_so (Some p) = tt

silent_so : (a : Arrived) → a.reply ≡ None → IfReplyMeasured a.reply
silent_so a none = subst IfReplyMeasured (sym none) tt

hands_so : (i : InnerValue) (slots : Slots) (ip : IpRepr) (payload : List ℕ) (taken : Bool) (a : Arrived) → Hands i slots ip payload taken a →
    IfReplyMeasured a.reply
hands_so i slots ip payload taken a hands =
    subst IfReplyMeasured (sym hands.2.reply)
    (answered_so (limited_reply i slots ip payload taken hands.0)
    (let_go_so IsMeasured (is_unclaimed i slots ip hands.0) i (handed_reply i slots ip payload taken hands.0) (handed_so i slots ip payload taken hands.0)))

of_v4_so : (ours : Bool) (i : InnerValue) (slots : Slots) (link : Option EthernetRepr) (ip : IpRepr) (payload : List ℕ) (a : Arrived) →
    ArrivesV4 ours i slots link ip payload a → IfReplyMeasured a.reply
of_v4_so true i slots link ip payload a h = hands_so (renewed i link ip) (packet_delivered ip payload slots) ip payload (is_taken_raw ip slots) a h
of_v4_so false i slots link ip payload a h = silent_so a h.reply

of_v6_so : (ours : Bool) (i : InnerValue) (slots : Slots) (link : Option EthernetRepr) (ip : IpRepr) (payload : List ℕ) (a : Arrived) →
    ArrivesV6 ours i slots link ip payload a → IfReplyMeasured a.reply
of_v6_so true i slots link ip payload a h = hands_so (renewed i link ip) (packet_delivered ip payload slots) ip payload (is_taken_raw ip slots) a h
of_v6_so false i slots link ip payload a h = silent_so a h.reply

pub brings_so : (i : InnerValue) (slots : Slots) (content : Option IncomingValue) (a : Arrived) → Brings i slots content a → IfReplyMeasured a.reply
brings_so i slots None a h = silent_so a h.reply
brings_so i slots (Some (Arp link packet)) a h = subst IfReplyMeasured (sym h.reply) (told_so (arp_answer i packet))
brings_so i slots (Some (Ip4 link header fragment payload)) a h = of_v4_so _ i slots link (Ip.Ipv4 header) payload a h
brings_so i slots (Some (Ip6 link header payload)) a h = of_v6_so _ i slots link (Ip.Ipv6 header) payload a h
