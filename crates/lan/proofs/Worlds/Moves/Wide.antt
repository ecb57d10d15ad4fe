-- What a fit socket offers, and what answers a packet, another host can read, where its fields are of their widths.
use Rattle.std.proofs.Common.{◌≡◌, ℕ, Bool, true, false, List, length, Option, Some, None, IfSome, refl, sym, ap, ◌∙◌, subst}
use Rattle.iface_ingress.specs.Icmpv4Header.{Icmpv4Header}
use Rattle.iface_ingress.specs.Icmpv6.{MessageValue}
use Rattle.iface_ingress.specs.EthernetRepr.{EthernetRepr}
use Rattle.iface_ingress.specs.IpAddress.{IpAddress}
use Rattle.iface_ingress.specs.IpAddress.TheVariants as Address
use Rattle.iface_ingress.specs.IpProtocol.TheVariants as Protocol
use Rattle.interface.specs.IpRepr.{IpRepr}
use Rattle.interface.specs.IpRepr.TheVariants as Ip
use Rattle.interface.specs.Ipv4Repr.{Ipv4Repr}
use Rattle.interface.specs.Ipv6Repr.{Ipv6Repr}
use Rattle.wire_tcp.specs.Tcp as Tcp
use Rattle.wire_tcp.specs.declared.header.TcpHeader.{TcpHeader}
use Rattle.interface.specs.UdpRepr.{UdpRepr}
use Rattle.iface_ingress.specs.ArpRepr.{ArpRepr}
use Rattle.base_buffer.specs.Packets.{first}
use Rattle.sockets.specs.Context.{ContextValue}
use Rattle.sockets.specs.Packet.{PacketValue, PayloadValue, ControlV4, ControlV6, Bytes, Datagram, Segment, packet_of, payload_written}
use Rattle.interface.specs.Ip as Ips
use Rattle.lan.specs.Worlds.Link.Made.{sealed, CarriesNone}
use Rattle.interface.specs.Widths.{IsPayload}
use Rattle.sockets.specs.Offer as Answer
use Rattle.sockets.specs.WellFormed.{AreFields, HasWidths, IsWellFormed}
use Rattle.socket_datagram.specs.Icmp as Icmps
use Rattle.socket_datagram.specs.Offers.{IsFound, IsOnly, OffersFirst}
use Rattle.socket_datagram.specs.Raw as Raws
use Rattle.socket_datagram.specs.Udp as Udps
use Rattle.socket_datagram.specs.Udp.{UdpValue}
use Rattle.socket_datagram.specs.Header.{hop_limit_or_default}
use Rattle.socket_datagram.specs.declared.udp.UdpMetadata.{UdpMetadata}
use Rattle.tcp_refinement.proofs.NameLaws.{answer_back, offer_between_ends, reset_back}
use Rattle.tcp_refinement.specs.Endpoints.{GoesBack}
use Rattle.tcp_block.specs.Arrival.{arrives}
use Rattle.tcp_block.specs.Offers.{offer_of, payload_of, packet_with, offered_packet}
use Rattle.tcp_block.specs.OpenOffer.{OpenOffer}
use Rattle.tcp_block.specs.Reply.{Reply}
use Rattle.tcp_block.specs.Segments.{rst_reply}
use Rattle.tcp_block.specs.Value.{TcpValue}
use Rattle.sockets.specs.Socket.{Offers, offered_by}
use Rattle.sockets.specs.declared.socket.Socket.{Socket}
use Rattle.sockets.specs.declared.socket.Socket.TheVariants as Is
use Rattle.iface_tables.specs.Inner.{InnerValue, context_of, is_for_us}
use Rattle.iface_ingress.specs.Arrives.{Arrived, ArrivesV4, ArrivesV6, Brings, Hands, ReplyValue, Tells, Answers, told, answered, renewed}
use Rattle.iface_ingress.specs.Arp.{arp_answer}
use Rattle.iface_ingress.specs.Delivered.{packet_by, packet_delivered, is_taken_raw}
use Rattle.iface_ingress.specs.Processed.{handed_reply, is_unclaimed, limited_reply}
use Rattle.iface_ingress.proofs.Limit.{let_go_so}
use Rattle.iface_ingress.specs.Incoming.{IncomingValue, Arp, Ip4, Ip6}
use Rattle.iface_ingress.specs.Upper.{upper_header, upper_payload, IsBrought}
use Rattle.lan.proofs.Worlds.AtLink.Queues.{each_first}
use Rattle.lan.specs.Worlds.Moves.Fit.{AreNamed, NamesPorts, IsFit}
use Rattle.lan.specs.Worlds.Moves.Made.{FitsFollowing, IsWide}
use Rattle.lan.specs.Worlds.Moves.Protocols.{NamesFollowing, NamesItsPayload}
use Rattle.lan.proofs.Worlds.Moves.Answering.{AnswersSegments, replied_all}
use Rattle.lan.proofs.Worlds.Moves.EachSocket.{segment_named}
use Rattle.lan.proofs.Worlds.Moves.Offering.{takes_one}
use Rattle.lan.proofs.Worlds.Moves.Slots.{Slots}
use Rattle.lan.proofs.Worlds.Moves.Ports.{IsNamed}
use Rattle.lan.proofs.Worlds.Moves.Protocols.{offered_names, replied_names}
use Rattle.lan.proofs.Worlds.Moves.RawQueues.{offered_foreign}

-- FORM

payload_widths : (x : PayloadValue) → HasWidths x → IsPayload x
payload_widths (ControlV4 message bytes) widths = widths
payload_widths (ControlV6 message bytes) widths = widths
payload_widths (Bytes bytes) widths = tt
payload_widths (Datagram udp bytes) widths = tt
payload_widths (Segment header bytes) widths = tt

formed_wide : (p : PacketValue) → IsWellFormed p → FitsFollowing p.header p.payload → IsWide p
formed_wide p formed fits = record {
  offered = record {
    packet = record { len = formed.sendable.len; payload = λ short. formed.sendable.payload };
    header = formed.header;
    payload = payload_widths p.payload formed.payload;
  };
  fits = fits;
}

segment_value : (h : TcpHeader) → AreFields h → AreNamed h.src_port h.dst_port → Tcp.IsValue h
segment_value h fields named = record {
  source_port = fields.source_port;
  destination_port = fields.destination_port;
  source_accepted = named.0;
  destination_accepted = named.1;
  sequence = fields.sequence;
  acknowledgement = fields.acknowledgement;
  window = fields.window;
  options = fields.options;
}

-- a control message, or a segment between ports that aren't 0
abbrev IsPlain : PayloadValue → Type 0
IsPlain (ControlV4 message bytes) = Unit {0}
IsPlain (ControlV6 message bytes) = Unit {0}
IsPlain (Bytes bytes) = ⊥
IsPlain (Datagram udp bytes) = ⊥
IsPlain (Segment header bytes) = AreNamed header.src_port header.dst_port

plain_fits : (h : IpRepr) (x : PayloadValue) → IsPlain x → NamesFollowing h x → HasWidths x → FitsFollowing h x
plain_fits h (ControlV4 message bytes) plain named widths = (named.0, widths, named.1)
plain_fits h (ControlV6 message bytes) plain named widths = (named, widths.0, widths.1)
plain_fits h (Bytes bytes) plain named widths = absurd plain
plain_fits h (Datagram udp bytes) plain named widths = absurd plain
plain_fits h (Segment header bytes) plain named widths = (named, segment_value header widths plain)

-- WHAT SOCKETS OFFER

message_plain : (source remote : IpAddress) (bytes : List ℕ) (x : PayloadValue) → Icmps.IsMessage source remote bytes x → IsPlain x
message_plain source remote bytes (ControlV4 message more) is = tt
message_plain source remote bytes (ControlV6 message more) is = tt
message_plain (Address.Ipv4 source) (Address.Ipv4 remote) bytes other is = absurd is
message_plain (Address.Ipv4 source) (Address.Ipv6 remote) bytes other is = absurd is
message_plain (Address.Ipv6 source) (Address.Ipv4 remote) bytes other is = absurd is
message_plain (Address.Ipv6 source) (Address.Ipv6 remote) bytes other is = absurd is

icmp_plain : (source : Option IpAddress) (remote : IpAddress) (bytes : List ℕ) (limit : ℕ) (p : PacketValue) → Icmps.IsPacketFrom source remote bytes limit p →
    IsPlain p.payload
icmp_plain None remote bytes limit p is = absurd is
icmp_plain (Some source) remote bytes limit p is = message_plain source remote bytes p.payload is.0

udp_first : (cx : ContextValue) (o : Option (UdpMetadata × List ℕ)) (v v' : UdpValue) (answer : Answer.Offer) (p : PacketValue) → first v.queued ≡ o →
    NamesPorts (Is.Udp v)
    → OffersFirst (Udps.TakesDatagram cx) v o answer v' → v'.offered ≡ Some p → NamesItsPayload p → HasWidths p.payload → FitsFollowing p.header p.payload
udp_first cx None v v' answer p is holds offers open_so named widths =
    let none : v'.offered ≡ None = ap (λ (w : UdpValue). w.offered) offers.1 in
    absurd (let clash : None ≡ Some p = sym none ∙ open_so in cc)
udp_first cx (Some q) v v' answer p is holds offers open_so named widths =
    let only : IsOnly (Udps.TakesDatagram cx v.settings q) p = subst (IsFound (Udps.TakesDatagram cx v.settings q)) open_so offers.0 in
    let udp : UdpRepr = record { src_port = v.settings.endpoint.port; dst_port = q.0.endpoint.port } in
    let carried : p.payload ≡ Datagram udp q.1 = ap (λ (x : PacketValue). x.payload) only.takes.1 in
    let fields : HasWidths (Datagram udp q.1) = subst HasWidths carried widths in
    subst (FitsFollowing p.header) (sym carried) (
      subst (NamesFollowing p.header) carried named,
      record { source_port = fields.source_port; destination_port = fields.destination_port; nonzero = each_first IsNamed v.queued q is holds },
    )

segment_plain : (o : Option OpenOffer) (queue : List ℕ) (p : PacketValue) → ((x : OpenOffer) → o ≡ Some x → AreNamed x.segment.src_port x.segment.dst_port) →
    packet_with o queue ≡ Some p → IsPlain p.payload
segment_plain None queue p named is = absurd (cc)
segment_plain (Some o) queue p named is =
    let same : packet_of o.header (Segment o.segment (payload_of o o.kind queue)) ≡ p = cc in
    subst (λ (x : PacketValue). IsPlain x.payload) same (named o refl)

tcp_plain : (cx : ContextValue) (v : TcpValue) (p : PacketValue) → NamesPorts (Is.Tcp v) → offered_packet (offer_of cx v).socket ≡ Some p → IsPlain p.payload
tcp_plain cx v p holds is = segment_plain (offer_of cx v).socket.offered (offer_of cx v).socket.queued.queue p named is where
  named : (x : OpenOffer) → (offer_of cx v).socket.offered ≡ Some x → AreNamed x.segment.src_port x.segment.dst_port
  named x open_so =
      let goes = offer_between_ends cx v x open_so in
      let ends = holds goes.0 goes.1 in
      (λ zero. ends.0 (sym goes.2.source_port ∙ zero), λ zero. ends.1 (sym goes.2.destination_port ∙ zero))

offered_fits : (cx : ContextValue) (s s' : Socket) (answer : Answer.Offer) (p : PacketValue) → IsFit s → Offers cx s answer s' → offered_by s' ≡ Some p →
    NamesItsPayload p → HasWidths p.payload → FitsFollowing p.header p.payload
offered_fits cx (Is.Raw v) (Is.Raw v') answer p fit offers is named widths =
    let took = takes_one Raws.TakesPacket v (first v.queued) answer v' p offers is in
    let carried = ap (λ (x : PacketValue). x.payload) took.1.carried in
    subst (FitsFollowing p.header) (sym carried)
    (subst (λ (x : PayloadValue). CarriesNone (Ips.normal p.header) (payload_written sealed p.header x)) carried
    (offered_foreign cx v v' answer p fit.0 offers is))
offered_fits cx (Is.Icmp v) (Is.Icmp v') answer p fit offers is named widths =
    let took = takes_one (Icmps.TakesMessage cx) v (first v.queued) answer v' p offers is in
    plain_fits p.header p.payload (icmp_plain (cx.source_for took.0.0) took.0.0 took.0.1 (hop_limit_or_default v.settings.hop_limit) p took.1) named widths
offered_fits cx (Is.Udp v) (Is.Udp v') answer p fit offers is named widths = udp_first cx (first v.queued) v v' answer p refl fit.1 offers is named widths
offered_fits cx (Is.Tcp v) (Is.Tcp v') answer p fit offers is named widths =
    plain_fits p.header p.payload (tcp_plain cx v p fit.1 (ap (λ (w : TcpValue). offered_packet w) (sym offers.1) ∙ is)) named widths
offered_fits cx (Is.Dhcpv4 v) s' answer p fit offers is named widths = absurd fit.0
offered_fits cx (Is.Dns v) s' answer p fit offers is named widths = absurd fit.0
offered_fits cx s s' answer p fit offers is named widths = absurd offers

pub offered_wide : (cx : ContextValue) (s s' : Socket) (answer : Answer.Offer) (p : PacketValue) → IsFit s → Offers cx s answer s' → offered_by s' ≡ Some p →
    IsWellFormed p → IsWide p
offered_wide cx s s' answer p fit offers is formed =
    formed_wide p formed (offered_fits cx s s' answer p fit offers is (offered_names cx s s' answer p offers is) formed.payload)

-- WHAT ANSWERS A PACKET

abbrev GoesPlain : PacketValue → Type 0
GoesPlain p = IsPlain p.payload

back_named : (ip : IpRepr) (header : TcpHeader) (reply : Reply) → AreNamed header.src_port header.dst_port → GoesBack ip header reply →
    AreNamed reply.segment.src_port reply.segment.dst_port
back_named ip header reply named back = (λ zero. named.1 (sym back.source_port ∙ zero), λ zero. named.0 (sym back.destination_port ∙ zero))

module _ (cx : ContextValue) (ip : IpRepr) (header : TcpHeader) (bytes : List ℕ) (named : AreNamed header.src_port header.dst_port) where
  answer_plain : (o : Option Reply) → ((reply : Reply) → o ≡ Some reply → GoesBack ip header reply) → IfSome (packet_by o) GoesPlain
  answer_plain None back = tt
  answer_plain (Some reply) back = back_named ip header reply named (back reply refl)

  segments_plain : AnswersSegments GoesPlain cx ip header bytes
  segments_plain = record {
    socket = λ v. answer_plain (arrives cx v ip header bytes).answer (λ reply is. answer_back cx v ip header bytes reply is);
    reset = back_named ip header (rst_reply ip header (length bytes)) named (reset_back ip header (length bytes));
  }

four : (header : Ipv4Repr) (message : Icmpv4Header) (bytes : List ℕ) → header.next_header ≡ Protocol.Icmp →
    GoesPlain (packet_of (Ip.Ipv4 header) (ControlV4 message bytes))
four header message bytes named = tt

six : (header : Ipv6Repr) (message : MessageValue) (bytes : List ℕ) → header.next_header ≡ Protocol.Icmpv6 →
    GoesPlain (packet_of (Ip.Ipv6 header) (ControlV6 message bytes))
six header message bytes named = tt

replied_plain : (i : InnerValue) (slots : Slots) (ip : IpRepr) (payload : List ℕ) (taken : Bool) (carried : Option PayloadValue) →
    IsBrought i.checksums ip payload carried → IfSome (handed_reply i slots ip payload taken carried) GoesPlain
replied_plain i slots ip payload taken carried is =
    replied_all GoesPlain four six i slots ip payload taken carried (λ header bytes same.
    segments_plain (context_of i) ip header bytes (segment_named i.checksums (upper_header ip payload) (upper_payload ip payload) header bytes
    (subst (IsBrought i.checksums ip payload) same is)))

-- once its fields are of their widths
abbrev pub CanBeWide : ReplyValue → Type 0
CanBeWide (Tells packet) = Unit {0}
CanBeWide (Answers p) = IsWellFormed p → IsWide p

answered_wide : (o : Option PacketValue) → IfSome o GoesPlain → IfSome o NamesItsPayload → IfSome (answered o) CanBeWide
answered_wide None plain named = tt
answered_wide (Some p) plain named = λ formed. formed_wide p formed (plain_fits p.header p.payload plain named formed.payload)

told_wide : (o : Option ArpRepr) → IfSome (told o) CanBeWide
told_wide None = tt
told_wide (Some packet) = tt

abbrev RepliesWide : Option ReplyValue → Type 0
RepliesWide reply = IfSome reply CanBeWide

hands_wide : (i : InnerValue) (slots : Slots) (ip : IpRepr) (payload : List ℕ) (taken : Bool) (a : Arrived) → Hands i slots ip payload taken a →
    RepliesWide a.reply
hands_wide i slots ip payload taken a (carried, is, so) =
    subst RepliesWide (sym so.reply)
    (answered_wide (limited_reply i slots ip payload taken carried)
    (let_go_so GoesPlain (is_unclaimed i slots ip carried) i (handed_reply i slots ip payload taken carried)
    (replied_plain i slots ip payload taken carried is))
    (let_go_so NamesItsPayload (is_unclaimed i slots ip carried) i (handed_reply i slots ip payload taken carried)
    (replied_names i slots ip payload taken carried)))

v4_wide : (ours : Bool) (i : InnerValue) (slots : Slots) (link : Option EthernetRepr) (ip : IpRepr) (payload : List ℕ) (a : Arrived) →
    ArrivesV4 ours i slots link ip payload a → RepliesWide a.reply
v4_wide true i slots link ip payload a is = hands_wide (renewed i link ip) (packet_delivered ip payload slots) ip payload (is_taken_raw ip slots) a is
v4_wide false i slots link ip payload a is = subst RepliesWide (sym is.reply) tt

v6_wide : (ours : Bool) (i : InnerValue) (slots : Slots) (link : Option EthernetRepr) (ip : IpRepr) (payload : List ℕ) (a : Arrived) →
    ArrivesV6 ours i slots link ip payload a → RepliesWide a.reply
v6_wide true i slots link ip payload a is = hands_wide (renewed i link ip) (packet_delivered ip payload slots) ip payload (is_taken_raw ip slots) a is
v6_wide false i slots link ip payload a is = subst RepliesWide (sym is.reply) tt

pub brings_wide : (i : InnerValue) (slots : Slots) (content : Option IncomingValue) (a : Arrived) → Brings i slots content a → RepliesWide a.reply
brings_wide i slots None a is = subst RepliesWide (sym is.reply) tt
brings_wide i slots (Some (Arp link packet)) a is = subst RepliesWide (sym is.reply) (told_wide (arp_answer i packet))
brings_wide i slots (Some (Ip4 link header fragment payload)) a is =
    v4_wide (is_for_us i (Address.Ipv4 header.dst_addr)) i slots link (Ip.Ipv4 header) payload a is
brings_wide i slots (Some (Ip6 link header payload)) a is = v6_wide (is_for_us i (Address.Ipv6 header.dst_addr)) i slots link (Ip.Ipv6 header) payload a is
