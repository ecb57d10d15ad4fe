-- The header of a packet that a socket offers, and of one that answers, names what it carries.
use Rattle.std.proofs.Common.{◌≡◌, ℕ, ◌+◌, Bool, true, false, if◌then◌else◌, not, List, length, Option, Some, None, IfSome, is_some, refl, sym, ap, ◌∙◌, subst}
use Rattle.std.specs.Prelude.{◌^◌, ◌==◌, ◌&&◌, nat_lt}
use Rattle.iface_ingress.specs.Icmpv4Header.{Icmpv4Header}
use Rattle.iface_ingress.specs.Icmpv6.{MessageValue}
use Rattle.interface.specs.Ip.{carried_in}
use Rattle.iface_ingress.specs.IpAddress.{IpAddress}
use Rattle.iface_ingress.specs.IpAddress.TheVariants as Address
use Rattle.iface_ingress.specs.IpProtocol.{IpProtocol}
use Rattle.iface_ingress.specs.IpProtocol.TheVariants as Protocol
use Rattle.interface.specs.IpRepr.{IpRepr}
use Rattle.interface.specs.IpRepr.TheVariants as Ip
use Rattle.iface_ingress.specs.Ipv4Address.{Ipv4Address}
use Rattle.interface.specs.Ipv4Repr.{Ipv4Repr}
use Rattle.interface.specs.Ipv6Repr.{Ipv6Repr}
use Rattle.wire_tcp.specs.Tcp.{header_len}
use Rattle.wire_tcp.specs.declared.header.TcpHeader.{TcpHeader}
use Rattle.interface.specs.UdpRepr.{UdpRepr}
use Rattle.base_buffer.specs.Packets.{first}
use Rattle.wire_tcp.specs.Rand.{word}
use Rattle.sockets.specs.Context.{ContextValue}
use Rattle.sockets.specs.Polling.{Offered}
use Rattle.sockets.specs.Packet.{PacketValue, PayloadValue, ControlV4, ControlV6, Bytes, Datagram, Segment, packet_of, payload_len}
use Rattle.sockets.specs.Offer as Answer
use Rattle.socket_datagram.specs.Header.{header_between, hop_limit_or_default}
use Rattle.socket_datagram.specs.Icmp as Icmps
use Rattle.socket_datagram.specs.Icmp.{protocol_to}
use Rattle.socket_datagram.specs.Raw as Raws
use Rattle.socket_datagram.specs.Udp as Udps
use Rattle.socket_datagram.specs.declared.udp.UdpMetadata.{UdpMetadata}
use Rattle.tcp_block.specs.AddressPair.{AddressPair}
use Rattle.tcp_block.specs.AddressPair.TheVariants as Pair
use Rattle.tcp_block.specs.Acknowledged.{acknowledged, duplicates_after}
use Rattle.tcp_block.specs.Answers.{ack_due, drawn, may_challenge, with_draw, acked, answer_for, answers_at_once, sack_blocks}
use Rattle.tcp_block.specs.Arrival.{waiting_anew, outside, passed_outside, is_before_window, is_repeated, finished, with_content, told, taken}
use Rattle.tcp_block.specs.Arrival.{inside, checked, takes_reset}
use Rattle.tcp_block.specs.Arrival.{challenges_reset, reset_arrives, challenges_first, tsecr_heard, received, arrives_in, arrives, is_void_syn}
use Rattle.tcp_block.specs.Calls.{listening}
use Rattle.tcp_block.specs.Checks.{Check, acknowledgement_check, is_in_window, taken_down, falls_back}
use Rattle.tcp_block.specs.Checks.Check.{Passes, Old, Drops, Draws, Resets}
use Rattle.tcp_block.specs.Controls.{is_syn, is_rst}
use Rattle.tcp_block.specs.Endpoints.{addresses_in, header_for, pair_in}
use Rattle.tcp_block.specs.FourTuple.{FourTuple}
use Rattle.tcp_block.specs.Moments.{is_due}
use Rattle.tcp_block.specs.OfferKind.{OfferKind}
use Rattle.tcp_block.specs.OfferKind.TheVariants as Kind
use Rattle.tcp_block.specs.Offers.{number_at, offer_segment, offer_choice, offer_ack, offer_syn, offer_reset, offer_keep_alive, offer_window_limited, silent}
use Rattle.tcp_block.specs.Offers.{last_rules, first_rules, backed_off, offer_between, offer_with, offer_of, payload_of, packet_with, offered_packet}
use Rattle.tcp_block.specs.OpenOffer.{OpenOffer}
use Rattle.tcp_block.specs.Opening.{is_first_syn, opens, takes_answer, acks_syn, syn_answered, answering}
use Rattle.tcp_block.specs.Probing.{probe_started, probe_deadline, probe_kept}
use Rattle.tcp_block.specs.Reply.{Reply}
use Rattle.tcp_block.specs.Retries.{heard, gives_up, given_up}
use Rattle.tcp_block.specs.Rules.{Choice, control_for, time_wait_end, owes_syn, resends, ack_deadline, has_payload, payload_choice, resend_choice, probe_choice}
use Rattle.tcp_block.specs.Rules.{updates_window, keep_alive_deadline}
use Rattle.tcp_block.specs.Segments.{no_ranges, hop_limit_of, segment, ack_segment, sack_segment, syn_segment, reset_segment, keep_alive_segment, rst_reply, has_length}
use Rattle.tcp_block.specs.Segments.{reset_for}
use Rattle.tcp_block.specs.State.{State}
use Rattle.tcp_block.specs.State.TheVariants as In
use Rattle.tcp_block.specs.States.{is_closed}
use Rattle.tcp_block.specs.Payload.{DataStored, with_payload, with_fin}
use Rattle.tcp_block.specs.Timeout.{timeout_started, timeout_restarted, timeout_end, timed_out}
use Rattle.tcp_block.specs.Value.{TcpValue, Arrived, with_tcb, dropped, answered_with, unoffered, ended, queued_in, free_in, room_of, window_of}
use Rattle.tcp_block.specs.declared.tcb.Tcb.{Tcb}
use Rattle.sockets.proofs.DhcpDatagrams as Dhcps
use Rattle.sockets.proofs.DnsDatagrams as Dnss
use Rattle.sockets.specs.Socket.{Offers, offered_by}
use Rattle.sockets.specs.declared.socket.Socket.{Socket}
use Rattle.sockets.specs.declared.socket.Socket.TheVariants as Is
use Rattle.lan.specs.Worlds.Moves.Protocols.{NamesFollowing, NamesItsPayload}
use Rattle.iface_ingress.specs.Sent.{IsV4}
use Rattle.iface_tables.specs.Inner.{InnerValue, context_of}
use Rattle.iface_ingress.specs.Delivered.{packet_by}
use Rattle.iface_ingress.specs.Processed.{handed_reply}
use Rattle.lan.proofs.Worlds.Moves.Offering.{takes_one}
use Rattle.lan.proofs.Worlds.Moves.Slots.{Slots}
use Rattle.lan.proofs.Worlds.Moves.Answering.{AnswersSegments, replied_all}
use Rattle.tcp_block.specs.Isn.{isn, draws_number}
use Rattle.tcp_block.specs.Timestamps.{believed, tsval_taken}

-- HEADERS

-- the header that stands between two addresses names this protocol
between_names : (source destination : IpAddress) (protocol : IpProtocol) (len limit : ℕ) (h : IpRepr) →
    header_between source destination protocol len limit ≡ Some h → carried_in h ≡ protocol
between_names (Address.Ipv4 source) (Address.Ipv4 destination) protocol len limit h = by (nat_lt (20 + len) (2 ^ 16)) where
  header : IpRepr
  header = Ip.Ipv4 (record {
    src_addr = source;
    dst_addr = destination;
    next_header = protocol;
    payload_len = len;
    hop_limit = limit;
    ident =
        0;
    dont_frag = false;
  })

  by : (fits : Bool) → (if fits then Some header else None) ≡ Some h → carried_in h ≡ protocol
  by true is = let same : header ≡ h = cc in ap carried_in (sym same)
  by false is = absurd (cc)
between_names (Address.Ipv6 source) (Address.Ipv6 destination) protocol len limit h = by (nat_lt len (2 ^ 16)) where
  header : IpRepr
  header = Ip.Ipv6 (record { src_addr = source; dst_addr = destination; next_header = protocol; payload_len = len; hop_limit = limit })

  by : (fits : Bool) → (if fits then Some header else None) ≡ Some h → carried_in h ≡ protocol
  by true is = let same : header ≡ h = cc in ap carried_in (sym same)
  by false is = absurd (cc)
between_names (Address.Ipv4 source) (Address.Ipv6 destination) protocol len limit h = λ is. absurd (cc)
between_names (Address.Ipv6 source) (Address.Ipv4 destination) protocol len limit h = λ is. absurd (cc)

between_v4 : (source destination : Ipv4Address) (len limit : ℕ) (h : IpRepr) →
    header_between (Address.Ipv4 source) (Address.Ipv4 destination) Protocol.Icmp len limit ≡ Some h → (carried_in h ≡ Protocol.Icmp) × IsV4 h
between_v4 source destination len limit h = by (nat_lt (20 + len) (2 ^ 16)) where
  header : IpRepr
  header = Ip.Ipv4 (record {
    src_addr = source;
    dst_addr = destination;
    next_header = Protocol.Icmp;
    payload_len = len;
    hop_limit = limit;
    ident =
        0;
    dont_frag = false;
  })

  by : (fits : Bool) → (if fits then Some header else None) ≡ Some h → (carried_in h ≡ Protocol.Icmp) × IsV4 h
  by true is = let same : header ≡ h = cc in subst (λ (x : IpRepr). (carried_in x ≡ Protocol.Icmp) × IsV4 x) same (refl, tt)
  by false is = absurd (cc)

names_tcp : (pair : AddressPair) (limit len : ℕ) → carried_in (header_for pair limit len) ≡ Protocol.Tcp
names_tcp (Pair.Ipv4 local remote) limit len = refl
names_tcp (Pair.Ipv6 local remote) limit len = refl

-- WHAT DATAGRAM SOCKETS OFFER

message_names : (source remote : IpAddress) (bytes : List ℕ) (len limit : ℕ) (h : IpRepr) (x : PayloadValue) → Icmps.IsMessage source remote bytes x
    → header_between source remote (protocol_to remote) len limit ≡ Some h → NamesFollowing h x
message_names (Address.Ipv4 source) (Address.Ipv4 remote) bytes len limit h (ControlV4 message more) is named = between_v4 source remote len limit h named
message_names (Address.Ipv6 source) (Address.Ipv6 remote) bytes len limit h (ControlV6 message more) is named =
    between_names (Address.Ipv6 source) (Address.Ipv6 remote) Protocol.Icmpv6 len limit h named
message_names (Address.Ipv4 source) (Address.Ipv4 remote) bytes len limit h (ControlV6 message more) is named = absurd is
message_names (Address.Ipv4 source) (Address.Ipv4 remote) bytes len limit h (Bytes more) is named = tt
message_names (Address.Ipv4 source) (Address.Ipv4 remote) bytes len limit h (Datagram udp more) is named = absurd is
message_names (Address.Ipv4 source) (Address.Ipv4 remote) bytes len limit h (Segment header more) is named = absurd is
message_names (Address.Ipv6 source) (Address.Ipv6 remote) bytes len limit h (ControlV4 message more) is named = absurd is
message_names (Address.Ipv6 source) (Address.Ipv6 remote) bytes len limit h (Bytes more) is named = tt
message_names (Address.Ipv6 source) (Address.Ipv6 remote) bytes len limit h (Datagram udp more) is named = absurd is
message_names (Address.Ipv6 source) (Address.Ipv6 remote) bytes len limit h (Segment header more) is named = absurd is
message_names (Address.Ipv4 source) (Address.Ipv6 remote) bytes len limit h x is named = absurd (let none : None ≡ Some h = named in cc)
message_names (Address.Ipv6 source) (Address.Ipv4 remote) bytes len limit h x is named = absurd (let none : None ≡ Some h = named in cc)

icmp_names : (source : Option IpAddress) (remote : IpAddress) (bytes : List ℕ) (limit : ℕ) (p : PacketValue) → Icmps.IsPacketFrom source remote bytes limit p →
    NamesItsPayload p
icmp_names None remote bytes limit p is = absurd is
icmp_names (Some source) remote bytes limit p is = message_names source remote bytes (payload_len p.payload) limit p.header p.payload is.0 is.1

udp_header_names : (o : Option IpAddress) (s : Udps.UdpSettings) (destination : IpAddress) (size : ℕ) (h : IpRepr) →
    Udps.header_from o s destination size ≡ Some h → carried_in h ≡ Protocol.Udp
udp_header_names None s destination size h is = absurd (cc)
udp_header_names (Some source) s destination size h is = between_names source destination Protocol.Udp (8 + size) (hop_limit_or_default s.hop_limit) h is

udp_names : (cx : ContextValue) (s : Udps.UdpSettings) (q : UdpMetadata × List ℕ) (p : PacketValue) → Udps.TakesDatagram cx s q p → NamesItsPayload p
udp_names cx s q p takes =
    let udp : UdpRepr = record { src_port = s.endpoint.port; dst_port = q.0.endpoint.port } in
    let is : p.payload ≡ Datagram udp q.1 = ap (λ (x : PacketValue). x.payload) takes.1 in
    subst (NamesFollowing p.header) (sym is) (udp_header_names (Udps.source_for cx s q.0) s q.0.endpoint.addr (length q.1) p.header takes.0)

raw_names : (s : Raws.RawFilters) (q : Unit {0} × List ℕ) (p : PacketValue) → Raws.TakesPacket s q p → NamesItsPayload p
raw_names s q p takes = subst (NamesFollowing p.header) (sym (ap (λ (x : PacketValue). x.payload) takes.carried)) tt

-- WHAT A TCP SOCKET OFFERS

abbrev IsTcpOffer : Option OpenOffer → Type 0
IsTcpOffer None = Unit {0}
IsTcpOffer (Some o) = carried_in o.header ≡ Protocol.Tcp

abbrev OffersTcp : Offered TcpValue → Type 0
OffersTcp o = IsTcpOffer o.socket.offered

either : (test : Bool) (x y : Offered TcpValue) → OffersTcp x → OffersTcp y → OffersTcp (if test then x else y)
either true x y p q = p
either false x y p q = q

module _ (cx : ContextValue) (pair : FourTuple) where
  one : (kind : OfferKind) (v : TcpValue) (header : TcpHeader) (slot len : ℕ) → OffersTcp (offer_segment kind cx v pair header slot len)
  one kind v header slot len = names_tcp pair.addresses (hop_limit_of v.tcb.settings.hop_limit) (header_len header + len)

  choice : (kind : OfferKind) (v : TcpValue) (c : Choice) → OffersTcp (offer_choice kind cx v pair c)
  choice kind v c = one kind v (segment v.tcb pair cx.instant (window_of v) (control_for c (queued_in v)) (number_at v.tcb c.offset)) c.offset c.len

  ack : (kind : OfferKind) (v : TcpValue) → OffersTcp (offer_ack kind cx v pair)
  ack kind v = one kind v (ack_segment v.tcb pair cx.instant (window_of v)) 0 0

  plain : (changed : Bool) (v : TcpValue) → v.offered ≡ None → OffersTcp (silent changed v)
  plain changed v none = subst IsTcpOffer (sym none) tt

  window_limited : (v : TcpValue) → OffersTcp (offer_window_limited cx v pair)
  window_limited v =
      let text = payload_choice v.tcb pair.addresses cx.ip_mtu v.queued in
      either (v.tcb.peer.window == 0) (offer_choice Kind.Probe cx v pair probe_choice) (offer_choice Kind.Payload cx v pair text)
      (choice Kind.Probe v probe_choice) (choice Kind.Payload v text)

  last : (v : TcpValue) → v.offered ≡ None → OffersTcp (last_rules cx v pair)
  last v none =
      let fourth : Offered TcpValue = if is_due cx.instant (keep_alive_deadline v.tcb) then offer_keep_alive cx v pair else silent false v in
      let third : Offered TcpValue = if updates_window v.tcb (room_of v.received) (free_in v) then offer_ack Kind.WindowUpdate cx v pair else fourth in
      let second : Offered TcpValue = if is_due cx.instant (ack_deadline v.tcb) then offer_ack Kind.Ack cx v pair else third in
      either (is_due cx.instant (probe_deadline v.tcb (queued_in v))) (offer_window_limited cx v pair) second (window_limited v)
      (either (is_due cx.instant (ack_deadline v.tcb)) (offer_ack Kind.Ack cx v pair) third (ack Kind.Ack v)
      (either (updates_window v.tcb (room_of v.received) (free_in v)) (offer_ack Kind.WindowUpdate cx v pair) fourth (ack Kind.WindowUpdate v)
      (either (is_due cx.instant (keep_alive_deadline v.tcb)) (offer_keep_alive cx v pair) (silent false v)
      (one Kind.KeepAlive v (keep_alive_segment v.tcb pair cx.instant (window_of v)) 0 1) (plain false v none))))

  first_rule : (v : TcpValue) → v.offered ≡ None → OffersTcp (first_rules cx v pair)
  first_rule v none =
      let text = payload_choice v.tcb pair.addresses cx.ip_mtu v.queued in
      let resent = resend_choice v.tcb pair.addresses cx.ip_mtu v.queued in
      let fourth : Offered TcpValue = last_rules cx (with_tcb v (probe_started cx.instant (queued_in v) v.tcb)) pair in
      let third : Offered TcpValue = if has_payload v.tcb pair.addresses cx.ip_mtu v.queued then offer_choice Kind.Payload cx v pair text else fourth in
      let second : Offered TcpValue =
      if resends v.tcb pair.addresses cx.ip_mtu v.queued then offer_choice Kind.FastRetransmission cx v pair resent else third in
      either (owes_syn v.tcb) (offer_syn cx v pair) second
      (one Kind.Syn v (syn_segment v.tcb pair cx.instant cx.ip_mtu (room_of v.received) (free_in v)) 0 0)
      (either (resends v.tcb pair.addresses cx.ip_mtu v.queued) (offer_choice Kind.FastRetransmission cx v pair resent) third
      (choice Kind.FastRetransmission v resent)
      (either (has_payload v.tcb pair.addresses cx.ip_mtu v.queued) (offer_choice Kind.Payload cx v pair text) fourth (choice Kind.Payload v text)
      (last (with_tcb v (probe_started cx.instant (queued_in v) v.tcb)) none)))

  gives : (v : TcpValue) (back : Bool) → v.offered ≡ None →
      OffersTcp (silent true (if back then listening v v.tcb.names.listen else with_tcb v (timed_out v.tcb)))
  gives v true none = tt
  gives v false none = plain true (with_tcb v (timed_out v.tcb)) none

  between : (v : TcpValue) → v.offered ≡ None → OffersTcp (offer_between cx v pair)
  between v none =
      let going = with_tcb v (backed_off cx.instant (timeout_started cx.instant (queued_in v) v.tcb)) in
      let reset : Offered TcpValue = if v.tcb.sender.reset_due then offer_reset cx v pair else silent false v in
      let over : Offered TcpValue = silent true (given_up v) in
      let open_yet : Offered TcpValue = if gives_up cx.instant v.tcb (queued_in v) then over else first_rules cx going pair in
      let third : Offered TcpValue = if is_closed v.tcb.state then reset else open_yet in
      let late = silent true (with_tcb v (timed_out v.tcb)) in
      let second : Offered TcpValue = if is_due cx.instant (timeout_end v.tcb (queued_in v)) then late else third in
      either (is_due cx.instant (time_wait_end v.tcb)) (silent true (ended v)) second (plain true (ended v) none)
      (either (is_due cx.instant (timeout_end v.tcb (queued_in v))) late third (plain true (with_tcb v (timed_out v.tcb)) none)
      (either (is_closed v.tcb.state) reset open_yet
      (either v.tcb.sender.reset_due (offer_reset cx v pair) (silent false v) (one Kind.Reset v (reset_segment v.tcb pair cx.instant (window_of v)) 0 0)
      (plain false v none))
      (either (gives_up cx.instant v.tcb (queued_in v)) over (first_rules cx going pair) (gives v (falls_back v.tcb) none) (first_rule going none))))

names_with : (pair : Option FourTuple) (cx : ContextValue) (v : TcpValue) → v.offered ≡ None → OffersTcp (offer_with pair cx v)
names_with None cx v none = subst IsTcpOffer (sym none) tt
names_with (Some pair) cx v none = between cx pair v none

segment_names : (o : Option OpenOffer) (queue : List ℕ) (p : PacketValue) → IsTcpOffer o → packet_with o queue ≡ Some p → NamesItsPayload p
segment_names None queue p named is = absurd (cc)
segment_names (Some o) queue p named is =
    let same : packet_of o.header (Segment o.segment (payload_of o o.kind queue)) ≡ p = cc in
    subst NamesItsPayload same named

tcp_offer_names : (cx : ContextValue) (v : TcpValue) (p : PacketValue) → offered_packet (offer_of cx v).socket ≡ Some p → NamesItsPayload p
tcp_offer_names cx v p is =
    segment_names (offer_of cx v).socket.offered (offer_of cx v).socket.queued.queue p (names_with v.tcb.names.pair cx (unoffered v) refl) is

datagram_names : (p : PacketValue) (udp : UdpRepr) (bytes : List ℕ) → p.payload ≡ Datagram udp bytes → carried_in p.header ≡ Protocol.Udp →
    NamesItsPayload p
datagram_names p udp bytes carries named = subst (NamesFollowing p.header) (sym carries) named

pub offered_names : (cx : ContextValue) (s s' : Socket) (answer : Answer.Offer) (p : PacketValue) → Offers cx s answer s' → offered_by s' ≡ Some p →
    NamesItsPayload p
offered_names cx (Is.Raw v) (Is.Raw v') answer p offers is =
    let took = takes_one Raws.TakesPacket v (first v.queued) answer v' p offers is in raw_names v.settings took.0 p took.1
offered_names cx (Is.Icmp v) (Is.Icmp v') answer p offers is =
    let took = takes_one (Icmps.TakesMessage cx) v (first v.queued) answer v' p offers is in
    icmp_names (cx.source_for took.0.0) took.0.0 took.0.1 (hop_limit_or_default v.settings.hop_limit) p took.1
offered_names cx (Is.Udp v) (Is.Udp v') answer p offers is =
    let took = takes_one (Udps.TakesDatagram cx) v (first v.queued) answer v' p offers is in udp_names cx v.settings took.0 p took.1
offered_names cx (Is.Tcp v) (Is.Tcp v') answer p offers is =
    tcp_offer_names cx v p (ap (λ (w : TcpValue). offered_packet w) (sym offers.1) ∙ is)
offered_names cx (Is.Dhcpv4 v) (Is.Dhcpv4 v') answer p offers is =
    let d = Dhcps.offered_datagram cx v v' answer p offers is in datagram_names p d.udp d.bytes d.carries d.protocol
offered_names cx (Is.Dns v) (Is.Dns v') answer p offers is =
    let d = Dnss.offered_datagram cx v v' answer p offers is in datagram_names p d.udp d.bytes d.carries d.protocol
offered_names cx s s' answer p offers is = absurd offers

-- WHAT A TCP SOCKET ANSWERS

abbrev IsTcpReply : Option Reply → Type 0
IsTcpReply None = Unit {0}
IsTcpReply (Some reply) = carried_in reply.header ≡ Protocol.Tcp

abbrev AnswersTcp : Arrived → Type 0
AnswersTcp a = IsTcpReply a.answer

either_arrived : (test : Bool) (x y : Arrived) → AnswersTcp x → AnswersTcp y → AnswersTcp (if test then x else y)
either_arrived true x y p q = p
either_arrived false x y p q = q

module _ (cx : ContextValue) (ip : IpRepr) (header : TcpHeader) where
  reset_tcp : (v : TcpValue) (size : ℕ) → AnswersTcp (answered_with v (rst_reply ip header size))
  reset_tcp v size = names_tcp (addresses_in ip) 64 (header_len (reset_for header size))

  acked_tcp : (v : TcpValue) (ranges : List (Option (ℕ × ℕ))) → AnswersTcp (acked cx v ip header ranges)
  acked_tcp v ranges = names_tcp (addresses_in ip) (hop_limit_of v.tcb.settings.hop_limit)
      (header_len (sack_segment v.tcb (pair_in ip header) cx.instant (window_of v) ranges))

  drawn_tcp : (v : TcpValue) → AnswersTcp (drawn cx v ip header)
  drawn_tcp v = either_arrived (may_challenge cx.instant v.tcb.timers.challenges_from) (acked cx (with_draw v cx.instant) ip header no_ranges) (dropped v)
      (acked_tcp (with_draw v cx.instant) no_ranges) tt

  answer_tcp : (v : TcpValue) (size : ℕ) (fills : Bool) (early : Option ℕ) → AnswersTcp (answer_for cx v ip header size fills early)
  answer_tcp v size fills (Some slot) = acked_tcp v (sack_blocks v slot)
  answer_tcp v size fills None =
      either_arrived (answers_at_once cx v.tcb ip header size) (acked cx v ip header no_ranges)
      (dropped (with_tcb v (ack_due v.tcb header size fills cx.instant))) (acked_tcp v no_ranges) tt

  finished_tcp : (old : Tcb) (t : DataStored) (size : ℕ) → AnswersTcp (finished cx old t ip header size)
  finished_tcp old t size =
      answer_tcp (with_tcb t.socket (probe_kept (with_fin t.socket.tcb old header size t.advance cx.instant) (queued_in t.socket))) size t.fills t.early

  content_tcp : (v : TcpValue) (bytes : List ℕ) → AnswersTcp (with_content cx v ip header bytes)
  content_tcp v bytes = finished_tcp v.tcb (with_payload v header bytes) (length bytes)

  taken_tcp : (v : TcpValue) (bytes : List ℕ) (by : ℕ) → AnswersTcp (taken cx v ip header bytes by)
  taken_tcp v bytes by =
      let w = acknowledged (tsecr_heard v header by cx.instant) by cx.instant in
      let heeded = told w header (duplicates_after v.tcb header (length bytes) by) cx.instant in
      either_arrived (is_closed w.tcb.state) (dropped w) (with_content cx heeded ip header bytes) tt (content_tcp heeded bytes)

  inside_tcp : (v : TcpValue) (bytes : List ℕ) (by : ℕ) → AnswersTcp (inside cx v ip header bytes by)
  inside_tcp v bytes by =
      either_arrived (is_syn header.control) (drawn cx v ip header) (taken cx v ip header bytes by) (drawn_tcp v) (taken_tcp v bytes by)

  outside_tcp : (v : TcpValue) (again : Bool) → AnswersTcp (outside cx v ip header again)
  outside_tcp v again =
      let w = waiting_anew v header cx.instant in
      either_arrived (is_closed v.tcb.state) (dropped v) (if again then acked cx w ip header no_ranges else drawn cx w ip header) tt
      (either_arrived again (acked cx w ip header no_ranges) (drawn cx w ip header) (acked_tcp w no_ranges) (drawn_tcp w))

  passed_outside_tcp : (v : TcpValue) (size by : ℕ) → AnswersTcp (passed_outside cx v ip header size by)
  passed_outside_tcp v size by =
      let w = acknowledged (tsecr_heard v header by cx.instant) by cx.instant in
      let again = has_length header size in
      either_arrived (is_before_window v header size) (outside cx w ip header again) (outside cx v ip header false) (outside_tcp w again) (outside_tcp v false)

  checked_tcp : (check : Check) (v : TcpValue) (bytes : List ℕ) → AnswersTcp (checked check cx v ip header bytes)
  checked_tcp (Passes by) v bytes =
      either_arrived (is_in_window v.tcb (free_in v) header (length bytes)) (inside cx v ip header bytes by) (passed_outside cx v ip header (length bytes) by)
      (inside_tcp v bytes by) (passed_outside_tcp v (length bytes) by)
  checked_tcp Old v bytes =
      let stamped : TcpValue = with_tcb v (tsval_taken (heard v.tcb) header cx.instant) in
      let again = is_repeated v header (length bytes) in
      either_arrived (is_in_window v.tcb (free_in v) header (length bytes)) (with_content cx stamped ip header bytes) (outside cx v ip header again)
      (content_tcp stamped bytes) (outside_tcp v again)
  checked_tcp Drops v bytes = tt
  checked_tcp Draws v bytes = drawn_tcp v
  checked_tcp Resets v bytes = reset_tcp v (length bytes)

  reset_arrives_tcp : (v : TcpValue) (size : ℕ) → AnswersTcp (reset_arrives cx v ip header size)
  reset_arrives_tcp v size =
      let challenged : Arrived = if challenges_reset v header size then drawn cx v ip header else dropped v in
      either_arrived (takes_reset v.tcb header) (dropped (taken_down v)) challenged tt
      (either_arrived (challenges_reset v header size) (drawn cx v ip header) (dropped v) (drawn_tcp v) tt)

  received_tcp : (v : TcpValue) (bytes : List ℕ) → AnswersTcp (received cx v ip header bytes)
  received_tcp v bytes =
      let tested : Arrived = checked (acknowledgement_check v.tcb header.ack_number) cx v ip header bytes in
      let segment : Arrived = if challenges_first v.tcb header cx.instant then drawn cx v ip header else tested in
      either_arrived (is_rst header.control) (reset_arrives cx v ip header (length bytes)) segment (reset_arrives_tcp v (length bytes))
      (either_arrived (challenges_first v.tcb header cx.instant) (drawn cx v ip header) tested (drawn_tcp v)
      (checked_tcp (acknowledgement_check v.tcb header.ack_number) v bytes))

  opens_tcp : (v : TcpValue) → AnswersTcp (opens cx v ip header)
  opens_tcp v =
      let answers : Arrived = record {
        socket = with_tcb v (timeout_restarted (believed (answering v.tcb ip header (isn cx (pair_in ip header))) cx.instant) cx.instant 0);
        answer = None;
        draws = draws_number cx;
      } in
      either_arrived (is_first_syn header) answers (dropped v) tt tt

  takes_answer_tcp : (v : TcpValue) (bytes : List ℕ) → AnswersTcp (takes_answer cx v ip header bytes)
  takes_answer_tcp v bytes =
      let answered = with_tcb v (timeout_restarted (syn_answered v.tcb header cx.instant) cx.instant (queued_in v)) in
      let down : Arrived = if acks_syn v.tcb.sender.una header.ack_number then dropped (ended v) else dropped v in
      let third : Arrived = if is_syn header.control then dropped answered else dropped v in
      let second : Arrived = if is_some header.ack_number && not (acks_syn v.tcb.sender.una header.ack_number) then answered_with v
      (rst_reply ip header (length bytes)) else third in
      either_arrived (is_rst header.control) down second
      (either_arrived (acks_syn v.tcb.sender.una header.ack_number) (dropped (ended v)) (dropped v) tt tt)
      (either_arrived (is_some header.ack_number && not (acks_syn v.tcb.sender.una header.ack_number)) (answered_with v (rst_reply ip header (length bytes)))
      third (reset_tcp v (length bytes))
      (either_arrived (is_syn header.control) (dropped answered) (dropped v) tt tt))

  arrives_in_tcp : (state : State) (v : TcpValue) (bytes : List ℕ) → AnswersTcp (arrives_in state cx v ip header bytes)
  arrives_in_tcp In.Closed v bytes = tt
  arrives_in_tcp In.Listen v bytes = opens_tcp v
  arrives_in_tcp In.SynSent v bytes = takes_answer_tcp v bytes
  arrives_in_tcp other v bytes = received_tcp v bytes

  pub arrives_tcp : (v : TcpValue) (bytes : List ℕ) → AnswersTcp (arrives cx v ip header bytes)
  arrives_tcp v bytes =
      either_arrived (is_void_syn header) (dropped (unoffered v)) (arrives_in v.tcb.state cx (unoffered v) ip header bytes) tt
      (arrives_in_tcp v.tcb.state (unoffered v) bytes)

-- WHAT ANSWERS A PACKET

packet_names : (a : Option Reply) → IsTcpReply a → IfSome (packet_by a) NamesItsPayload
packet_names None names = tt
packet_names (Some reply) names = names

four : (header : Ipv4Repr) (message : Icmpv4Header) (bytes : List ℕ) → header.next_header ≡ Protocol.Icmp →
    NamesItsPayload (packet_of (Ip.Ipv4 header) (ControlV4 message bytes))
four header message bytes named = (named, tt)

six : (header : Ipv6Repr) (message : MessageValue) (bytes : List ℕ) → header.next_header ≡ Protocol.Icmpv6 →
    NamesItsPayload (packet_of (Ip.Ipv6 header) (ControlV6 message bytes))
six header message bytes named = named

segments_name : (cx : ContextValue) (ip : IpRepr) (header : TcpHeader) (bytes : List ℕ) → AnswersSegments NamesItsPayload cx ip header bytes
segments_name cx ip header bytes = record {
  socket = λ v. packet_names (arrives cx v ip header bytes).answer (arrives_tcp cx ip header v bytes);
  reset = names_tcp (addresses_in ip) 64 (header_len (reset_for header (length bytes)));
}

pub replied_names : (i : InnerValue) (slots : Slots) (ip : IpRepr) (payload : List ℕ) (taken : Bool) (carried : Option PayloadValue) →
    IfSome (handed_reply i slots ip payload taken carried) NamesItsPayload
replied_names i slots ip payload taken carried =
    replied_all NamesItsPayload four six i slots ip payload taken carried (λ header bytes is. segments_name (context_of i) ip header bytes)
