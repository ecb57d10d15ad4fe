-- No raw socket ever queues a packet of TCP or UDP.
use Rattle.std.proofs.Common.{◌≡◌, ℕ, Bool, true, false, if◌then◌else◌, List, ◌++◌, length, Option, Some, None, refl, sym, ap, ◌∙◌, subst}
use Rattle.std.specs.Prelude.{◌+◌, ◌/◌, ◌&&◌, ◌==◌, slice_index, is_ok}
use Rattle.std.specs.List.{AllByRecursion}
use Rattle.iface_ingress.specs.Icmpv4Header.{Icmpv4Header}
use Rattle.iface_ingress.specs.Icmpv6.{MessageValue}
use Rattle.interface.specs.Ip.{header_len_in, normal, written, IsIp}
use Rattle.wire_address.proofs.Numbers.{protocol_number-protocol_of}
use Rattle.wire_address.specs.Protocol.{protocol_number, protocol_of}
use Rattle.iface_ingress.specs.IpProtocol.{IpProtocol}
use Rattle.interface.specs.IpRepr.{IpRepr}
use Rattle.interface.specs.IpRepr.TheVariants as Ip
use Rattle.interface.specs.Ipv4Repr.{Ipv4Repr}
use Rattle.interface.specs.Ipv6Repr.{Ipv6Repr}
use Rattle.wire_tcp.specs.declared.header.TcpHeader.{TcpHeader}
use Rattle.interface.specs.UdpRepr.{UdpRepr}
use Rattle.interface.specs.Delivered.{NamesNoPorts}
use Rattle.sim_link.specs.Medium.TheVariants as Medium
use Rattle.base_buffer.specs.Packets.{contents, first}
use Rattle.sockets.specs.Context.{ContextValue}
use Rattle.sockets.specs.Packet.{PacketValue, PayloadValue, payload_written}
use Rattle.interface.specs.Ipv6.{payload_of}
use Rattle.iface_ingress.specs.Headers.{go_through}
use Rattle.lan.specs.Worlds.Link.Made.{sealed, CarriesNone, bytes_of}
use Rattle.sockets.specs.Offer as Answer
use Rattle.socket_datagram.specs.Offers.{IsFound, IsOnly, OffersFirst}
use Rattle.socket_datagram.specs.Raw as Raws
use Rattle.socket_datagram.specs.Raw.{RawValue, carried_by}
use Rattle.socket_datagram.specs.SocketValue as Datagrams
use Rattle.socket_datagram.specs.SocketValue.{arrived}
use Rattle.sockets.specs.Socket.{Offers, settled}
use Rattle.sockets.specs.declared.socket.Socket.{Socket}
use Rattle.sockets.specs.declared.socket.Socket.TheVariants as Is
use Rattle.iface_ingress.specs.Datagrams.{TakesDatagram}
use Rattle.iface_ingress.specs.Delivered.{with_packet, with_icmpv4, with_icmpv6, with_segment}
use Rattle.sim_link.specs.PacketInFrame.{IsNeitherFollowing, names_tcp_or_udp, is_tcp_or_udp, has_ports_following}
use Rattle.sim_link.proofs.Named.{neither_first, neither_second, following_named}
use Rattle.lan.specs.Worlds.AtLink.Call as Call
use Rattle.lan.specs.Worlds.AtLink.Call.{SocketCall}
use Rattle.lan.specs.Worlds.AtLink.Calls.{tcp_does, udp_does}
use Rattle.lan.proofs.Worlds.AtLink.Queues.{each_left, each_appended, each_first}
use Rattle.lan.specs.Worlds.AtLink.Does.{does, icmp_does, raw_does}
use Rattle.lan.specs.Worlds.AtLink.Initial.{IsUnused}
use Rattle.lan.specs.Worlds.Moves.Fit.{AreNamed}
use Rattle.lan.specs.Worlds.Moves.Raws.{QueuesForeign}
use Rattle.lan.proofs.Worlds.Moves.EachRun.{IsOfRuns, SendsForeign, Keeps, kept_as, all_as}
use Rattle.lan.proofs.Worlds.Moves.EachSocket.{IsOfSockets}
use Rattle.lan.proofs.Worlds.Moves.Queued.{offer_left, settled_left}

abbrev IsForeign : Unit {0} × List ℕ → Type 0
IsForeign q = names_tcp_or_udp Medium.Ip q.1 ≡ false

-- IN A POLL

offers_foreign : (cx : ContextValue) (s s' : Socket) (answer : Answer.Offer) → Offers cx s answer s' → QueuesForeign s → QueuesForeign s'
offers_foreign cx (Is.Raw v) (Is.Raw v') answer offers holds =
    each_left IsForeign (contents v.queued) (contents v'.queued) (offer_left Raws.TakesPacket (first v.queued) v v' answer offers) holds
offers_foreign cx (Is.Icmp v) (Is.Icmp v') answer offers holds = tt
offers_foreign cx (Is.Udp v) (Is.Udp v') answer offers holds = tt
offers_foreign cx (Is.Tcp v) (Is.Tcp v') answer offers holds = tt
offers_foreign cx (Is.Dhcpv4 v) s' answer offers holds = absurd holds
offers_foreign cx (Is.Dns v) s' answer offers holds = absurd holds
offers_foreign cx s s' answer offers holds = absurd offers

settles_foreign : (sent : Bool) (s : Socket) → QueuesForeign s → QueuesForeign (settled sent s)
settles_foreign sent (Is.Raw v) holds = each_left IsForeign (contents v.queued) (contents (Datagrams.settled sent v).queued) (settled_left sent v) holds
settles_foreign sent (Is.Icmp v) holds = tt
settles_foreign sent (Is.Udp v) holds = tt
settles_foreign sent (Is.Tcp v) holds = tt
settles_foreign sent (Is.Dhcpv4 v) holds = absurd holds
settles_foreign sent (Is.Dns v) holds = absurd holds

packet_foreign : (ip : IpRepr) (payload : List ℕ) (s : Socket) → QueuesForeign s → QueuesForeign (with_packet ip payload s)
packet_foreign ip payload (Is.Raw v) holds = by (Raws.fits ip) where
  by : (fits : Bool) → QueuesForeign
      (Is.Raw (if fits then arrived v (header_len_in ip + length payload) tt (written true ip ++ payload) else Datagrams.settled false v))
  by true = holds
  by false = holds
packet_foreign ip payload (Is.Icmp v) holds = tt
packet_foreign ip payload (Is.Udp v) holds = tt
packet_foreign ip payload (Is.Tcp v) holds = tt
packet_foreign ip payload (Is.Dhcpv4 v) holds = absurd holds
packet_foreign ip payload (Is.Dns v) holds = absurd holds

foreign_sockets : IsOfSockets QueuesForeign
foreign_sockets = record {
  offers = offers_foreign;
  settles = settles_foreign;
  packet = packet_foreign;
  icmpv4 = icmpv4;
  icmpv6 = icmpv6;
  datagram = datagram;
  segment = segment;
} where
  icmpv4 : (ip : Ipv4Repr) (message : Icmpv4Header) (bytes : List ℕ) (s : Socket) → QueuesForeign s → QueuesForeign (with_icmpv4 ip message bytes s)
  icmpv4 ip message bytes (Is.Raw v) holds = holds
  icmpv4 ip message bytes (Is.Icmp v) holds = tt
  icmpv4 ip message bytes (Is.Udp v) holds = tt
  icmpv4 ip message bytes (Is.Tcp v) holds = tt
  icmpv4 ip message bytes (Is.Dhcpv4 v) holds = absurd holds
  icmpv4 ip message bytes (Is.Dns v) holds = absurd holds

  icmpv6 : (ip : Ipv6Repr) (message : MessageValue) (bytes : List ℕ) (s : Socket) → QueuesForeign s → QueuesForeign (with_icmpv6 ip message bytes s)
  icmpv6 ip message bytes (Is.Raw v) holds = holds
  icmpv6 ip message bytes (Is.Icmp v) holds = tt
  icmpv6 ip message bytes (Is.Udp v) holds = tt
  icmpv6 ip message bytes (Is.Tcp v) holds = tt
  icmpv6 ip message bytes (Is.Dhcpv4 v) holds = absurd holds
  icmpv6 ip message bytes (Is.Dns v) holds = absurd holds

  datagram : (cx : ContextValue) (ip : IpRepr) (udp : UdpRepr) (bytes : List ℕ) (s s' : Socket) → TakesDatagram cx ip udp bytes s s' → QueuesForeign s →
      QueuesForeign s'
  datagram cx ip udp bytes (Is.Raw v) s' takes holds = subst QueuesForeign (sym takes) holds
  datagram cx ip udp bytes (Is.Icmp v) s' takes holds = subst QueuesForeign (sym takes) tt
  datagram cx ip udp bytes (Is.Udp v) s' takes holds = subst QueuesForeign (sym takes) tt
  datagram cx ip udp bytes (Is.Tcp v) s' takes holds = subst QueuesForeign (sym takes) tt
  datagram cx ip udp bytes (Is.Dhcpv4 v) s' takes holds = absurd holds
  datagram cx ip udp bytes (Is.Dns v) s' takes holds = absurd holds

  segment : (cx : ContextValue) (ip : IpRepr) (header : TcpHeader) (bytes : List ℕ) (s : Socket) → AreNamed header.src_port header.dst_port → QueuesForeign s →
      QueuesForeign (with_segment cx ip header bytes s)
  segment cx ip header bytes (Is.Raw v) named holds = holds
  segment cx ip header bytes (Is.Icmp v) named holds = tt
  segment cx ip header bytes (Is.Udp v) named holds = tt
  segment cx ip header bytes (Is.Tcp v) named holds = tt
  segment cx ip header bytes (Is.Dhcpv4 v) named holds = absurd holds
  segment cx ip header bytes (Is.Dns v) named holds = absurd holds

-- IN A CALL

raw_keeps : (v : RawValue) (call : SocketCall) → SendsForeign call → QueuesForeign (Is.Raw v) → Keeps (λ w. QueuesForeign (Is.Raw w)) (raw_does v call)
raw_keeps v (Call.SendRaw bytes) foreign holds = by (is_ok (Raws.send_answer v (length bytes))) where
  by : (taken : Bool) → QueuesForeign (Is.Raw (if taken then Datagrams.with_queued v tt (length bytes) bytes else Datagrams.settled false v))
  by true = each_appended IsForeign v.queued (length bytes) tt bytes holds foreign
  by false = holds
raw_keeps v (Call.RecvFrom limit) foreign holds = holds
raw_keeps v call foreign holds = tt

calls_foreign : (cx : ContextValue) (s : Socket) (call : SocketCall) → SendsForeign call → QueuesForeign s → Keeps QueuesForeign (does cx s call)
calls_foreign cx (Is.Raw v) call foreign holds = kept_as QueuesForeign Is.Raw (raw_does v call) (raw_keeps v call foreign holds)
calls_foreign cx (Is.Icmp v) call foreign holds = all_as QueuesForeign Is.Icmp (λ w. tt) (icmp_does v call)
calls_foreign cx (Is.Udp v) call foreign holds = all_as QueuesForeign Is.Udp (λ w. tt) (udp_does v call)
calls_foreign cx (Is.Tcp v) call foreign holds = all_as QueuesForeign Is.Tcp (λ w. tt) (tcp_does cx v call)
calls_foreign cx (Is.Dhcpv4 v) call foreign holds = absurd holds
calls_foreign cx (Is.Dns v) call foreign holds = absurd holds

no_queue : (socket : Socket) → IsUnused socket → QueuesForeign socket
no_queue (Is.Raw v) unused = subst (AllByRecursion IsForeign) (sym unused.1) tt
no_queue (Is.Icmp v) unused = tt
no_queue (Is.Udp v) unused = tt
no_queue (Is.Tcp v) unused = tt
no_queue (Is.Dhcpv4 v) unused = absurd unused
no_queue (Is.Dns v) unused = absurd unused

pub foreign_runs : IsOfRuns QueuesForeign
foreign_runs = record { polls = foreign_sockets; calls = calls_foreign; unused = no_queue }

-- WHAT IS OFFERED

-- a number that was read is read as itself
read_so : (p : IpProtocol) (n : ℕ) → p ≡ protocol_of n → protocol_of (protocol_number p) ≡ p
read_so p n is = ap (λ (q : IpProtocol). protocol_of (protocol_number q)) is ∙ ap protocol_of (protocol_number-protocol_of n) ∙ sym is

foreign_header : (h : IpRepr) (bytes : List ℕ) → names_tcp_or_udp Medium.Ip bytes ≡ false → IsIp false bytes h →
    CarriesNone (normal h) (carried_by h bytes)
foreign_header (Ip.Ipv4 v) bytes none is = (
  subst NamesNoPorts (sym (read_so v.next_header (slice_index bytes 9) is.protocol))
      (neither_first (slice_index bytes 0 / 16) 4 (slice_index bytes 9) ((slice_index bytes 0 / 16 == 6) && has_ports_following bytes) v.next_header
      is.version none is.protocol),
  tt,
)
foreign_header (Ip.Ipv6 v) bytes none is =
    subst (λ (q : IpProtocol). IsNeitherFollowing (go_through q (payload_of bytes))) (sym (read_so v.next_header (slice_index bytes 6) is.protocol))
    (following_named bytes v.next_header is.protocol
    (neither_second (slice_index bytes 0 / 16) 6 ((slice_index bytes 0 / 16 == 4) && is_tcp_or_udp (slice_index bytes 9)) _ is.version none))

foreign_first : (o : Option (Unit {0} × List ℕ)) (v v' : RawValue) (answer : Answer.Offer) (p : PacketValue) → first v.queued ≡ o → QueuesForeign (Is.Raw v) →
    OffersFirst Raws.TakesPacket v o answer v' → v'.offered ≡ Some p
    → CarriesNone (normal p.header) (bytes_of p)
foreign_first None v v' answer p is holds offers open_so =
    let none : v'.offered ≡ None = ap (λ (w : RawValue). w.offered) offers.1 in
    absurd (let clash : None ≡ Some p = sym none ∙ open_so in cc)
foreign_first (Some q) v v' answer p is holds offers open_so =
    let only : IsOnly (Raws.TakesPacket v.settings q) p = subst (IsFound (Raws.TakesPacket v.settings q)) open_so offers.0 in
    subst (λ (x : PayloadValue). CarriesNone (normal p.header) (payload_written sealed p.header x))
    (sym (ap (λ (x : PacketValue). x.payload) only.takes.carried))
    (foreign_header p.header q.1 (each_first IsForeign v.queued q is holds) only.takes.read)

pub offered_foreign : (cx : ContextValue) (v v' : RawValue) (answer : Answer.Offer) (p : PacketValue) → QueuesForeign (Is.Raw v) → Raws.Offers cx v answer v' →
    v'.offered ≡ Some p → CarriesNone (normal p.header) (bytes_of p)
offered_foreign cx v v' answer p holds offers open_so = foreign_first (first v.queued) v v' answer p refl holds offers open_so
