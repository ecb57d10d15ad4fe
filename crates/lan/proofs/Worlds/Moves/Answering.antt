-- What holds of each packet that answers one.
use Rattle.std.proofs.Common.{◌≡◌, ℕ, Bool, true, false, if◌then◌else◌, List, length, Option, Some, None, IfSome, is_some, refl}
use Rattle.std.specs.Prelude.{◌||◌, slice_get}
use Rattle.iface_ingress.specs.Icmpv4Header.{Icmpv4Header}
use Rattle.iface_ingress.specs.Icmpv6.{MessageValue}
use Rattle.iface_ingress.specs.IpProtocol.TheVariants as Protocol
use Rattle.interface.specs.IpRepr.{IpRepr}
use Rattle.interface.specs.IpRepr.TheVariants as Ip
use Rattle.interface.specs.Ipv4Repr.{Ipv4Repr}
use Rattle.interface.specs.Ipv6Repr.{Ipv6Repr}
use Rattle.wire_tcp.specs.declared.header.TcpHeader.{TcpHeader}
use Rattle.sockets.specs.Context.{ContextValue}
use Rattle.sockets.specs.Packet.{PacketValue, PayloadValue, ControlV4, ControlV6, Bytes, Datagram, Segment, packet_of}
use Rattle.tcp_block.specs.Arrival.{arrives}
use Rattle.tcp_block.specs.Controls.{is_rst}
use Rattle.tcp_block.specs.Segments.{rst_reply}
use Rattle.tcp_block.specs.Value.{TcpValue}
use Rattle.sockets.specs.Replies.{packet_in}
use Rattle.sockets.specs.declared.socket.Socket.{Socket}
use Rattle.sockets.specs.declared.socket.Socket.TheVariants as Is
use Rattle.iface_tables.specs.Inner.{InnerValue, context_of}
use Rattle.iface_egress.specs.declared.socket_set.Item.{Item}
use Rattle.iface_egress.specs.declared.socket_set.SocketStorage.{SocketStorage}
use Rattle.iface_ingress.specs.Delivered.{datagram_slot, packet_by, answer_of, answer_in, answer_by, segment_slot, segment_answer_at, segment_answer}
use Rattle.iface_ingress.specs.Processed.{handed_reply, names_no_endpoint}
use Rattle.lan.proofs.Worlds.Moves.Slots.{Slots}
use Rattle.lan.proofs.Worlds.Moves.Replies.{control_v4_free, control_v6_free, port_error_free, unread_free}

-- it holds of what answers a segment: a socket's own answer, and the reset of a host
pub record AnswersSegments (Q : PacketValue → Type 0) (cx : ContextValue) (ip : IpRepr) (header : TcpHeader) (bytes : List ℕ) : Type 0 where
  pub socket : (v : TcpValue) → IfSome (packet_by (arrives cx v ip header bytes).answer) Q
  pub reset : Q (packet_in (rst_reply ip header (length bytes)))

module _ (Q : PacketValue → Type 0) where
  module _ (cx : ContextValue) (ip : IpRepr) (header : TcpHeader) (bytes : List ℕ) (all : AnswersSegments Q cx ip header bytes) where
    by_socket : (s : Socket) → IfSome (answer_of cx ip header bytes s) Q
    by_socket (Is.Raw v) = tt
    by_socket (Is.Icmp v) = tt
    by_socket (Is.Udp v) = tt
    by_socket (Is.Tcp v) = all.socket v
    by_socket (Is.Dhcpv4 v) = tt
    by_socket (Is.Dns v) = tt

    by_item : (o : Option (Item Socket)) → IfSome (answer_in (answer_of cx ip header bytes) o) Q
    by_item None = tt
    by_item (Some item) = by_socket item.socket

    by_slot : (o : Option (SocketStorage Socket)) → IfSome (answer_by (answer_of cx ip header bytes) o) Q
    by_slot None = tt
    by_slot (Some slot) = by_item slot.inner

    by_reset : (quiet : Bool) → IfSome (if quiet then None else packet_by (Some (rst_reply ip header (length bytes)))) Q
    by_reset true = tt
    by_reset false = all.reset

    by_answer : (at : Option ℕ) (taken : Bool) (slots : Slots) → IfSome (segment_answer_at at cx ip header bytes taken slots) Q
    by_answer None taken slots = by_reset (taken || is_rst header.control)
    by_answer (Some at) taken slots = by_slot (slice_get slots at)

    unless_nobody : (nobody : Bool) (reply : Option PacketValue) → IfSome reply Q → IfSome (if nobody then None else reply) Q
    unless_nobody true reply holds = tt
    unless_nobody false reply holds = holds

  module _
      (four : (header : Ipv4Repr) (message : Icmpv4Header) (bytes : List ℕ) → header.next_header ≡ Protocol.Icmp →
      Q (packet_of (Ip.Ipv4 header) (ControlV4 message bytes)))
      (six : (header : Ipv6Repr) (message : MessageValue) (bytes : List ℕ) → header.next_header ≡ Protocol.Icmpv6 →
      Q (packet_of (Ip.Ipv6 header) (ControlV6 message bytes))) where
    pub replied_all : (i : InnerValue) (slots : Slots) (ip : IpRepr) (payload : List ℕ) (taken : Bool) (carried : Option PayloadValue)
        → ((header : TcpHeader) (bytes : List ℕ) → carried ≡ Some (Segment header bytes) → AnswersSegments Q (context_of i) ip header bytes)
        → IfSome (handed_reply i slots ip payload taken carried) Q
    replied_all i slots ip payload taken None all = unread_free Q four six i ip payload taken
    replied_all i slots ip payload taken (Some (ControlV4 message bytes)) all = control_v4_free Q four six i ip message bytes
    replied_all i slots ip payload taken (Some (ControlV6 message bytes)) all = control_v6_free Q four six i ip message bytes
    replied_all i slots ip payload taken (Some (Bytes bytes)) all = tt
    replied_all i slots ip payload taken (Some (Datagram udp bytes)) all =
        port_error_free Q four six (is_some (datagram_slot (context_of i) ip udp slots) || taken) i ip payload
    replied_all i slots ip payload taken (Some (Segment header bytes)) all =
        unless_nobody (context_of i) ip header bytes (all header bytes refl) (names_no_endpoint i ip) (segment_answer (context_of i) ip header bytes taken slots)
        (by_answer (context_of i) ip header bytes (all header bytes refl) (segment_slot ip header slots) taken slots)
