-- The two tests of frames: ARP requests alone, and these with neighbour solicitations.
use Rattle.std.proofs.Common.{◌≡◌, ℕ, ◌+◌, ◌==◌, ◌&&◌, ◌||◌, Bool, true, false, List, [], ◌∷◌, ◌++◌, length, slice_index, Option, Some, None, IfSome}
use Rattle.std.proofs.Common.{refl, sym, ◌∙◌}
use Rattle.std.proofs.Common.{ap, subst}
use Rattle.std.proofs.lemmas.List.{drop_at}
use Rattle.iface_ingress.specs.Fields.{be16}
use Rattle.iface_ingress.specs.Icmpv4Header.{Icmpv4Header}
use Rattle.iface_ingress.specs.Icmpv6 as Icmpv6
use Rattle.iface_ingress.specs.Icmpv6.{MessageValue}
use Rattle.iface_ingress.specs.IpAddress.{IpAddress}
use Rattle.iface_ingress.specs.IpProtocol.{IpProtocol}
use Rattle.iface_ingress.specs.IpProtocol.TheVariants as Protocol
use Rattle.iface_ingress.specs.Sent.{IsV4}
use Rattle.interface.specs.Serve.{with_source}
use Rattle.interface.specs.Ip.{carried_in}
use Rattle.interface.specs.IpRepr.{IpRepr}
use Rattle.interface.specs.IpRepr.TheVariants as Ip
use Rattle.interface.specs.Ipv4Repr.{Ipv4Repr}
use Rattle.interface.specs.Ipv6 as Ipv6
use Rattle.interface.specs.Ipv6Repr.{Ipv6Repr}
use Rattle.interface.specs.UdpRepr.{UdpRepr}
use Rattle.wire_address.specs.Protocol.{protocol_number}
use Rattle.wire_tcp.specs.declared.header.TcpHeader.{TcpHeader}
use Rattle.sim_link.proofs.Named.{byte_following}
use Rattle.lan.specs.Worlds.AtLink.Call.{SocketCall}
use Rattle.lan.specs.Worlds.AtLink.Does.{does}
use Rattle.iface_ingress.specs.Processed.{handed_reply}
use Rattle.iface_egress.specs.declared.socket_set.Item.{Item}
use Rattle.lan.specs.Worlds.AtLink.Calls.{Did, tcp_does, udp_does}
use Rattle.lan.specs.Worlds.AtLink.Ndisc.{Solicitation, Advertisement}
use Rattle.base_buffer.specs.Packets.{first}
use Rattle.sockets.specs.Context.{ContextValue}
use Rattle.sockets.specs.Offer as Answer
use Rattle.sockets.specs.Packet.{PacketValue, PayloadValue, ControlV4, ControlV6, Bytes, Datagram, Segment, packet_of, payload_written}
use Rattle.sockets.specs.Socket.{Offers, offered_by, settled}
use Rattle.socket_datagram.specs.Udp as Udps
use Rattle.sockets.proofs.DhcpDatagrams as Dhcps
use Rattle.sockets.proofs.DnsDatagrams as Dnss
use Rattle.sockets.specs.declared.socket.Socket.{Socket}
use Rattle.sockets.specs.declared.socket.Socket.TheVariants as Is
use Rattle.tcp_block.specs.OpenOffer.{OpenOffer}
use Rattle.tcp_block.specs.Offers.{offer_of, payload_of, packet_with, offered_packet}
use Rattle.tcp_block.specs.Value.{TcpValue}
use Rattle.iface_ingress.specs.Datagrams.{TakesDatagram}
use Rattle.iface_ingress.specs.Delivered.{with_packet, with_icmpv4, with_icmpv6, with_segment}
use Rattle.lan.specs.Worlds.Hosts.Wire.{HasPorts, asks, is_request, is_solicitation}
use Rattle.lan.specs.Worlds.Link.Made.{sealed}
use Rattle.lan.specs.Worlds.Moves.Fit.{AreNamed}
use Rattle.lan.specs.Worlds.Moves.Raws.{OfItem, OfEach}
use Rattle.lan.specs.Worlds.Moves.Protocols.{NamesFollowing}
use Rattle.lan.proofs.Worlds.Hosts.WireFrames.{IsTest}
use Rattle.lan.proofs.Worlds.Hosts.WireReplies.{RepliesMayGo}
use Rattle.lan.proofs.Worlds.Hosts.Wiring.{OffersMayGo}
use Rattle.lan.proofs.Worlds.Link.Spelled.{length_v6}
use Rattle.lan.proofs.Worlds.Moves.EachRun.{Keeps, all_as}
use Rattle.lan.proofs.Worlds.Moves.EachSocket.{IsOfSockets}
use Rattle.lan.proofs.Worlds.Moves.Offering.{takes_one}
use Rattle.lan.proofs.Worlds.Moves.Slots.{Slots}
use Rattle.lan.proofs.Worlds.Moves.Protocols.{offered_names}
use Rattle.lan.proofs.Worlds.Moves.Sourced.{sourced_v4, sourced_carries}

-- NUMBERS

-- a frame whose EtherType is another one
other_type : (n m k : ℕ) (rest : Bool) → n ≡ k → (let b : Bool = k == m in b) ≡ false → n == m && rest ≡ false
other_type n m k rest is other = rw (is, other) refl

-- and what is after it another number
other_following : (a : Bool) (n m k : ℕ) → n ≡ k → (let b : Bool = k == m in b) ≡ false → a && n == m ≡ false
other_following true n m k is other = rw is other
other_following false n m k is other = refl

neither : (a b : Bool) → a ≡ false → b ≡ false → a || b ≡ false
neither a b one two = rw (one, two) refl

-- a byte, and a number, of what follows the link header
pub byte_of : (link rest : List ℕ) (n : ℕ) → length link ≡ 14 → slice_index (link ++ rest) (14 + n) ≡ slice_index rest n
byte_of link rest n len = sym (byte_following (link ++ rest) 14 n) ∙ ap (λ (l : List ℕ). slice_index l n) (drop_at link rest 14 len)

pub be16_of : (link rest : List ℕ) → length link ≡ 14 → be16 (link ++ rest) 20 ≡ be16 rest 6
be16_of link rest len =
    let high : slice_index (link ++ rest) 20 ≡ slice_index rest 6 = byte_of link rest 6 len in
    let low : slice_index (link ++ rest) 21 ≡ slice_index rest 7 = byte_of link rest 7 len in
    rw (high, low) refl

-- ARP REQUESTS

-- any packet may go
abbrev pub Any : IpRepr → PayloadValue → Type 0
Any h x = Unit {0}

told_requests_none : (link rest : List ℕ) → length link ≡ 14 → be16 rest 6 ≡ 2 → is_request (link ++ rest) ≡ false
told_requests_none link rest len reply =
    other_following (be16 (link ++ rest) 12 == 0x0806) (be16 (link ++ rest) 20) 1 2 (be16_of link rest len ∙ reply) refl

pub request_test : IsTest is_request Any
request_test = record {
  told = λ link rest len arp reply. told_requests_none link rest len reply;
  four = λ link rest is. other_type (be16 (link ++ rest) 12) 0x0806 0x0800 (be16 (link ++ rest) 20 == 1) is refl;
  six = λ link v x len is value may.
      let frame : List ℕ = link ++ (Ipv6.written v ++ payload_written sealed (Ip.Ipv6 v) x) in
      other_type (be16 frame 12) 0x0806 0x86dd (be16 frame 20 == 1) is refl;
  part = λ link rest len is named. other_type (be16 (link ++ rest) 12) 0x0806 0x86dd (be16 (link ++ rest) 20 == 1) is refl;
  sourced = λ h s x may. tt;
}

-- SOLICITATIONS

-- a message of ICMPv6 that asks for no neighbour
abbrev pub IsNoSolicitation : MessageValue → Type 0
IsNoSolicitation (Icmpv6.Ndisc (Solicitation target link)) = ⊥
IsNoSolicitation message = Unit {0}

-- a packet that asks for no neighbour
abbrev pub AsksNobody : IpRepr → PayloadValue → Type 0
AsksNobody h (ControlV4 message bytes) = IsV4 h
AsksNobody h (ControlV6 message bytes) = IsNoSolicitation message
AsksNobody h (Bytes bytes) = ⊥
AsksNobody h (Datagram udp bytes) = carried_in h ≡ Protocol.Udp
AsksNobody h (Segment header bytes) = carried_in h ≡ Protocol.Tcp

-- its first byte is its type (RFC 4443, section 2.1)
first_byte : (v : Ipv6Repr) (message : MessageValue) (bytes : List ℕ) → IsNoSolicitation message →
    slice_index (payload_written sealed (Ip.Ipv6 v) (ControlV6 message bytes)) 0 == 135 ≡ false
first_byte v (Icmpv6.DstUnreachable reason header) bytes is = refl
first_byte v (Icmpv6.PktTooBig mtu header) bytes is = refl
first_byte v (Icmpv6.TimeExceeded reason header) bytes is = refl
first_byte v (Icmpv6.ParamProblem reason pointer header) bytes is = refl
first_byte v (Icmpv6.EchoRequest ident seq_no) bytes is = refl
first_byte v (Icmpv6.EchoReply ident seq_no) bytes is = refl
first_byte v (Icmpv6.Ndisc (Solicitation target link)) bytes is = absurd is
first_byte v (Icmpv6.Ndisc (Advertisement flags target link)) bytes is = refl

module _ (link : List ℕ) (v : Ipv6Repr) (len : length link ≡ 14) (value : Ipv6.IsValue v) where
  abbrev pub frame_of : PayloadValue → List ℕ
  frame_of x = link ++ (Ipv6.written v ++ payload_written sealed (Ip.Ipv6 v) x)

  pub next : (x : PayloadValue) → slice_index (frame_of x) 20 ≡ protocol_number v.next_header
  next x = byte_of link (Ipv6.written v ++ payload_written sealed (Ip.Ipv6 v) x) 6 len

  pub following : (x : PayloadValue) → slice_index (frame_of x) 54 ≡ slice_index (payload_written sealed (Ip.Ipv6 v) x) 0
  following x =
      let packet : List ℕ = Ipv6.written v ++ payload_written sealed (Ip.Ipv6 v) x in
      byte_of link packet 40 len
      ∙ sym (byte_following packet 40 0)
      ∙ ap (λ (l : List ℕ). slice_index l 0) (drop_at (Ipv6.written v) (payload_written sealed (Ip.Ipv6 v) x) 40 (length_v6 v value))

  other_next : (a : Bool) (n : ℕ) (p : IpProtocol) (rest : Bool) → n ≡ protocol_number v.next_header → v.next_header ≡ p →
      protocol_number p == 58 ≡ false → a && (n == 58 && rest) ≡ false
  other_next true n p rest is names other = rw (is, names, other) refl
  other_next false n p rest is names other = refl

  other_message : (a b : Bool) (n m : ℕ) → n ≡ m → m == 135 ≡ false → a && (b && n == 135) ≡ false
  other_message true true n m is other = rw is other
  other_message true false n m is other = refl
  other_message false b n m is other = refl

  solicits_none : (x : PayloadValue) → AsksNobody (Ip.Ipv6 v) x → is_solicitation (frame_of x) ≡ false
  solicits_none (ControlV4 message bytes) may = absurd may
  solicits_none (ControlV6 message bytes) may =
      let x : PayloadValue = ControlV6 message bytes in
      other_message (be16 (frame_of x) 12 == 0x86dd) (slice_index (frame_of x) 20 == 58) (slice_index (frame_of x) 54)
      (slice_index (payload_written sealed (Ip.Ipv6 v) x) 0) (following x) (first_byte v message bytes may)
  solicits_none (Bytes bytes) may = absurd may
  solicits_none (Datagram udp bytes) may =
      let x : PayloadValue = Datagram udp bytes in
      other_next (be16 (frame_of x) 12 == 0x86dd) (slice_index (frame_of x) 20) Protocol.Udp (slice_index (frame_of x) 54 == 135) (next x) may refl
  solicits_none (Segment header bytes) may =
      let x : PayloadValue = Segment header bytes in
      other_next (be16 (frame_of x) 12 == 0x86dd) (slice_index (frame_of x) 20) Protocol.Tcp (slice_index (frame_of x) 54 == 135) (next x) may refl

asks_nobody_from : (h : IpRepr) (s : Option IpAddress) (x : PayloadValue) → AsksNobody h x → AsksNobody (with_source h s) x
asks_nobody_from h s (ControlV4 message bytes) may = sourced_v4 h s may
asks_nobody_from h s (ControlV6 message bytes) may = may
asks_nobody_from h s (Bytes bytes) may = absurd may
asks_nobody_from h s (Datagram udp bytes) may = sourced_carries h s ∙ may
asks_nobody_from h s (Segment header bytes) may = sourced_carries h s ∙ may

no_solicitation : (a b c : Bool) → b ≡ false → a && (b && c) ≡ false
no_solicitation true b c none = rw none refl
no_solicitation false b c none = refl

pub asks_test : IsTest asks AsksNobody
asks_test = record {
  told = λ link rest len arp reply.
      let frame : List ℕ = link ++ rest in
      neither (is_request frame) (is_solicitation frame) (told_requests_none link rest len reply)
      (other_type (be16 frame 12) 0x86dd 0x0806 (slice_index frame 20 == 58 && slice_index frame 54 == 135) arp refl);
  four = λ link rest is.
      let frame : List ℕ = link ++ rest in
      neither (is_request frame) (is_solicitation frame) (other_type (be16 frame 12) 0x0806 0x0800 (be16 frame 20 == 1) is refl)
      (other_type (be16 frame 12) 0x86dd 0x0800 (slice_index frame 20 == 58 && slice_index frame 54 == 135) is refl);
  six = λ link v x len is value may.
      let frame : List ℕ = link ++ (Ipv6.written v ++ payload_written sealed (Ip.Ipv6 v) x) in
      neither (is_request frame) (is_solicitation frame) (other_type (be16 frame 12) 0x0806 0x86dd (be16 frame 20 == 1) is refl)
      (solicits_none link v len value x may);
  part = λ link rest len is named.
      let frame : List ℕ = link ++ rest in
      let next : slice_index frame 20 ≡ 44 = byte_of link rest 6 len ∙ named in
      neither (is_request frame) (is_solicitation frame) (other_type (be16 frame 12) 0x0806 0x86dd (be16 frame 20 == 1) is refl)
      (no_solicitation (be16 frame 12 == 0x86dd) (slice_index frame 20 == 58) (slice_index frame 54 == 135) (ap (λ (n : ℕ). n == 58) next));
  sourced = asks_nobody_from;
}

-- SOCKETS

-- of any kind
abbrev pub AnyKind : Socket → Type 0
AnyKind s = Unit {0}

pub any_sockets : IsOfSockets AnyKind
any_sockets = record {
  offers = λ cx s s' answer offers holds. tt;
  settles = λ sent s holds. tt;
  packet = λ ip payload s holds. tt;
  icmpv4 = λ ip message bytes s holds. tt;
  icmpv6 = λ ip message bytes s holds. tt;
  datagram = λ cx ip udp bytes s s' takes holds. tt;
  segment = λ cx ip header bytes s named holds. tt;
}

pub any_offers : OffersMayGo AnyKind Any
any_offers cx s s' answer p holds offers is = tt

pub any_calls : (o : Option (Did Socket)) → Keeps AnyKind o
any_calls None = tt
any_calls (Some d) = tt

pub any_replies : RepliesMayGo Any
any_replies i slots ip payload taken carried = by (handed_reply i slots ip payload taken carried) where
  by : (o : Option PacketValue) → IfSome o (λ p. Any p.header p.payload)
  by None = tt
  by (Some p) = tt

pub every : (slots : Slots) → OfEach AnyKind slots
every [] = tt
every (slot ∷ slots) = (by slot.inner, every slots) where
  by : (o : Option (Item Socket)) → OfItem AnyKind o
  by None = tt
  by (Some item) = tt

-- of TCP and UDP
offers_ports : (cx : ContextValue) (s s' : Socket) (answer : Answer.Offer) → Offers cx s answer s' → HasPorts s → HasPorts s'
offers_ports cx (Is.Raw v) s' answer offers holds = absurd holds
offers_ports cx (Is.Icmp v) s' answer offers holds = absurd holds
offers_ports cx (Is.Udp v) (Is.Udp v') answer offers holds = tt
offers_ports cx (Is.Tcp v) (Is.Tcp v') answer offers holds = tt
offers_ports cx (Is.Dhcpv4 v) (Is.Dhcpv4 v') answer offers holds = tt
offers_ports cx (Is.Dns v) (Is.Dns v') answer offers holds = tt
offers_ports cx s s' answer offers holds = absurd offers

pub port_sockets : IsOfSockets HasPorts
port_sockets = record {
  offers = offers_ports;
  settles = settles;
  packet = packet;
  icmpv4 = icmpv4;
  icmpv6 = icmpv6;
  datagram = datagram;
  segment = segment;
} where
  settles : (sent : Bool) (s : Socket) → HasPorts s → HasPorts (settled sent s)
  settles sent (Is.Raw v) holds = absurd holds
  settles sent (Is.Icmp v) holds = absurd holds
  settles sent (Is.Udp v) holds = tt
  settles sent (Is.Tcp v) holds = tt
  settles sent (Is.Dhcpv4 v) holds = tt
  settles sent (Is.Dns v) holds = tt

  packet : (ip : IpRepr) (payload : List ℕ) (s : Socket) → HasPorts s → HasPorts (with_packet ip payload s)
  packet ip payload (Is.Raw v) holds = absurd holds
  packet ip payload (Is.Icmp v) holds = absurd holds
  packet ip payload (Is.Udp v) holds = tt
  packet ip payload (Is.Tcp v) holds = tt
  packet ip payload (Is.Dhcpv4 v) holds = tt
  packet ip payload (Is.Dns v) holds = tt

  icmpv4 : (ip : Ipv4Repr) (message : Icmpv4Header) (bytes : List ℕ) (s : Socket) → HasPorts s → HasPorts (with_icmpv4 ip message bytes s)
  icmpv4 ip message bytes (Is.Raw v) holds = absurd holds
  icmpv4 ip message bytes (Is.Icmp v) holds = absurd holds
  icmpv4 ip message bytes (Is.Udp v) holds = tt
  icmpv4 ip message bytes (Is.Tcp v) holds = tt
  icmpv4 ip message bytes (Is.Dhcpv4 v) holds = tt
  icmpv4 ip message bytes (Is.Dns v) holds = tt

  icmpv6 : (ip : Ipv6Repr) (message : MessageValue) (bytes : List ℕ) (s : Socket) → HasPorts s → HasPorts (with_icmpv6 ip message bytes s)
  icmpv6 ip message bytes (Is.Raw v) holds = absurd holds
  icmpv6 ip message bytes (Is.Icmp v) holds = absurd holds
  icmpv6 ip message bytes (Is.Udp v) holds = tt
  icmpv6 ip message bytes (Is.Tcp v) holds = tt
  icmpv6 ip message bytes (Is.Dhcpv4 v) holds = tt
  icmpv6 ip message bytes (Is.Dns v) holds = tt

  datagram : (cx : ContextValue) (ip : IpRepr) (udp : UdpRepr) (bytes : List ℕ) (s s' : Socket) → TakesDatagram cx ip udp bytes s s' → HasPorts s →
      HasPorts s'
  datagram cx ip udp bytes (Is.Raw v) s' takes holds = absurd holds
  datagram cx ip udp bytes (Is.Icmp v) s' takes holds = absurd holds
  datagram cx ip udp bytes (Is.Udp v) s' takes holds = subst HasPorts (sym takes) tt
  datagram cx ip udp bytes (Is.Tcp v) s' takes holds = subst HasPorts (sym takes) tt
  datagram cx ip udp bytes (Is.Dhcpv4 v) s' takes holds = subst HasPorts (sym takes.1) tt
  datagram cx ip udp bytes (Is.Dns v) s' takes holds = subst HasPorts (sym takes.1) tt

  segment : (cx : ContextValue) (ip : IpRepr) (header : TcpHeader) (bytes : List ℕ) (s : Socket) → AreNamed header.src_port header.dst_port → HasPorts s →
      HasPorts (with_segment cx ip header bytes s)
  segment cx ip header bytes (Is.Raw v) named holds = absurd holds
  segment cx ip header bytes (Is.Icmp v) named holds = absurd holds
  segment cx ip header bytes (Is.Udp v) named holds = tt
  segment cx ip header bytes (Is.Tcp v) named holds = tt
  segment cx ip header bytes (Is.Dhcpv4 v) named holds = tt
  segment cx ip header bytes (Is.Dns v) named holds = tt

pub port_calls : (cx : ContextValue) (s : Socket) (call : SocketCall) → HasPorts s → Keeps HasPorts (does cx s call)
port_calls cx (Is.Raw v) call holds = absurd holds
port_calls cx (Is.Icmp v) call holds = absurd holds
port_calls cx (Is.Udp v) call holds = all_as HasPorts Is.Udp (λ w. tt) (udp_does v call)
port_calls cx (Is.Tcp v) call holds = all_as HasPorts Is.Tcp (λ w. tt) (tcp_does cx v call)
port_calls cx (Is.Dhcpv4 v) call holds = tt
port_calls cx (Is.Dns v) call holds = tt

-- a datagram or a segment
abbrev IsOfPorts : PayloadValue → Type 0
IsOfPorts (ControlV4 message bytes) = ⊥
IsOfPorts (ControlV6 message bytes) = ⊥
IsOfPorts (Bytes bytes) = ⊥
IsOfPorts (Datagram udp bytes) = Unit {0}
IsOfPorts (Segment header bytes) = Unit {0}

named_so : (h : IpRepr) (x : PayloadValue) → IsOfPorts x → NamesFollowing h x → AsksNobody h x
named_so h (ControlV4 message bytes) is named = absurd is
named_so h (ControlV6 message bytes) is named = absurd is
named_so h (Bytes bytes) is named = absurd is
named_so h (Datagram udp bytes) is named = named
named_so h (Segment header bytes) is named = named

segment_ports : (o : Option OpenOffer) (queue : List ℕ) (p : PacketValue) → packet_with o queue ≡ Some p → IsOfPorts p.payload
segment_ports None queue p is = absurd (cc)
segment_ports (Some o) queue p is =
    let same : packet_of o.header (Segment o.segment (payload_of o o.kind queue)) ≡ p = cc in
    subst (λ (x : PacketValue). IsOfPorts x.payload) same tt

offered_ports : (cx : ContextValue) (s s' : Socket) (answer : Answer.Offer) (p : PacketValue) → HasPorts s → Offers cx s answer s' → offered_by s' ≡ Some p →
    IsOfPorts p.payload
offered_ports cx (Is.Raw v) s' answer p holds offers is = absurd holds
offered_ports cx (Is.Icmp v) s' answer p holds offers is = absurd holds
offered_ports cx (Is.Udp v) (Is.Udp v') answer p holds offers is =
    let took = takes_one (Udps.TakesDatagram cx) v (first v.queued) answer v' p offers is in
    let udp : UdpRepr = record { src_port = v.settings.endpoint.port; dst_port = took.0.0.endpoint.port } in
    let carried : p.payload ≡ Datagram udp took.0.1 = ap (λ (x : PacketValue). x.payload) took.1.1 in
    subst IsOfPorts (sym carried) tt
offered_ports cx (Is.Tcp v) (Is.Tcp v') answer p holds offers is =
    let packet : offered_packet (offer_of cx v).socket ≡ Some p = ap (λ (w : TcpValue). offered_packet w) (sym offers.1) ∙ is in
    segment_ports (offer_of cx v).socket.offered (offer_of cx v).socket.queued.queue p packet
offered_ports cx (Is.Dhcpv4 v) (Is.Dhcpv4 v') answer p holds offers is =
    subst IsOfPorts (sym (Dhcps.offered_datagram cx v v' answer p offers is).carries) tt
offered_ports cx (Is.Dns v) (Is.Dns v') answer p holds offers is =
    subst IsOfPorts (sym (Dnss.offered_datagram cx v v' answer p offers is).carries) tt
offered_ports cx s s' answer p holds offers is = absurd offers

pub port_offers : OffersMayGo HasPorts AsksNobody
port_offers cx s s' answer p holds offers is =
    named_so p.header p.payload (offered_ports cx s s' answer p holds offers is) (offered_names cx s s' answer p offers is)
