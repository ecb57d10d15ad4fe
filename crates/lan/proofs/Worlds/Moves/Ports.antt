-- No UDP socket ever queues a datagram to port 0, and no TCP socket has an end of a connection there.
use Rattle.std.proofs.Common.{◌≡◌, ◌≢◌, inl, inr, ℕ, ℤ, Bool, true, false, if◌then◌else◌, List, length, take, min, Option, Some, None, Result, Ok, Err, refl}
use Rattle.std.proofs.Common.{sym, ap, ◌∙◌, subst}
use Rattle.std.specs.Prelude.{◌&&◌, ◌||◌, ◌==◌, not}
use Rattle.std.proofs.lemmas.Bool.{eqb-false}
use Rattle.std.specs.List.{AllByRecursion}
use Rattle.iface_ingress.specs.Icmpv4Header.{Icmpv4Header}
use Rattle.iface_ingress.specs.Icmpv6.{MessageValue}
use Rattle.iface_ingress.specs.AddressTests.{is_unspecified}
use Rattle.wire_address.specs.declared.ip.IpEndpoint.{IpEndpoint}
use Rattle.wire_address.specs.declared.ip.IpListenEndpoint.{IpListenEndpoint}
use Rattle.interface.specs.IpRepr.{IpRepr}
use Rattle.interface.specs.Ipv4Repr.{Ipv4Repr}
use Rattle.interface.specs.Ipv6Repr.{Ipv6Repr}
use Rattle.wire_tcp.specs.declared.header.TcpHeader.{TcpHeader}
use Rattle.interface.specs.UdpRepr.{UdpRepr}
use Rattle.base_buffer.specs.Packets.{contents, first, is_full_for}
use Rattle.sockets.specs.Addresses as Addresses
use Rattle.sockets.specs.Context.{ContextValue}
use Rattle.sockets.specs.Offer as Answer
use Rattle.socket_datagram.specs.SocketValue as Datagrams
use Rattle.socket_datagram.specs.SocketValue.{sent_after}
use Rattle.socket_datagram.specs.Udp as Udps
use Rattle.socket_datagram.specs.Udp.{UdpValue, metadata_to}
use Rattle.socket_datagram.specs.declared.error.SendError.{SendError}
use Rattle.socket_datagram.specs.declared.error.SendError.TheVariants as SendTo
use Rattle.socket_datagram.specs.declared.udp.UdpMetadata.{UdpMetadata}
use Rattle.wire_tcp.specs.Rand.{word}
use Rattle.base_buffer.specs.Ring.{anchored, enqueued}
use Rattle.tcp_refinement.specs.Endpoints.{KeepsOrForgets, IsLeftBy, IsRenamed}
use Rattle.tcp_refinement.proofs.NameLaws.{arrival_names, withheld_names, close_names, abort_names}
use Rattle.tcp_block.specs.AddressPair.{AddressPair}
use Rattle.tcp_block.specs.Arrival.{arrives}
use Rattle.tcp_block.specs.Calls.{listening, connected_by, pair_by, four_tuple_for, addresses_by, source_by, sent_more, send_after, recv_answer, close_after}
use Rattle.tcp_block.specs.Calls.{abort_after}
use Rattle.tcp_block.specs.FourTuple.{FourTuple}
use Rattle.tcp_block.specs.Endpoints.{pair_in}
use Rattle.tcp_block.specs.declared.tcb.Names.{Names}
use Rattle.tcp_block.specs.OfferKind.{OfferKind}
use Rattle.tcp_block.specs.OfferKind.TheVariants as Kind
use Rattle.tcp_block.specs.Offers.{offer_of}
use Rattle.tcp_block.specs.OpenOffer.{OpenOffer}
use Rattle.tcp_block.specs.RecvError.{RecvError}
use Rattle.tcp_block.specs.Moments.{is_over, timeout_from}
use Rattle.tcp_block.specs.Retries.{asked, one_more}
use Rattle.tcp_block.specs.Settled.{end_of, probed, recorded, sent_as, sent_off}
use Rattle.tcp_block.specs.States.{is_closed, takes_writes}
use Rattle.tcp_block.specs.Value.{TcpValue, unoffered, queued_in, room_of}
use Rattle.tcp_block.specs.declared.tcb.Tcb.{Tcb}
use Rattle.sockets.specs.Socket.{Offers, settled}
use Rattle.sockets.specs.declared.socket.Socket.{Socket}
use Rattle.sockets.specs.declared.socket.Socket.TheVariants as Is
use Rattle.iface_ingress.specs.Datagrams.{TakesDatagram}
use Rattle.iface_ingress.specs.Delivered.{with_packet, with_icmpv4, with_icmpv6, with_segment}
use Rattle.lan.specs.Worlds.AtLink.Call as Call
use Rattle.lan.specs.Worlds.AtLink.Call.{SocketCall}
use Rattle.lan.specs.Worlds.AtLink.TcpSetting.{TcpSetting}
use Rattle.lan.specs.Worlds.AtLink.TcpSetting.TheVariants as Changed
use Rattle.lan.specs.Worlds.AtLink.Calls.{at_port, read_by, setting_after, tcp_does, udp_does}
use Rattle.lan.proofs.Worlds.AtLink.Queues.{each_left, each_appended}
use Rattle.lan.proofs.Worlds.AtLink.WireMoves.{pair_kept, pair_left}
use Rattle.lan.specs.Worlds.AtLink.Does.{does, icmp_does, raw_does}
use Rattle.lan.specs.Worlds.AtLink.Initial.{IsUnused}
use Rattle.lan.specs.Worlds.Moves.Fit.{AreNamed, NamesPorts}
use Rattle.lan.proofs.Worlds.Moves.EachRun.{IsOfRuns, SendsForeign, Keeps, kept_as, all_as}
use Rattle.lan.proofs.Worlds.Moves.EachSocket.{IsOfSockets}
use Rattle.lan.proofs.Worlds.Moves.Queued.{offer_left, settled_left}
use Rattle.tcp_block.specs.Isn.{number_for}

abbrev pub IsNamed : UdpMetadata × List ℕ → Type 0
IsNamed q = q.0.endpoint.port ≢ 0

abbrev UdpNames : UdpValue → Type 0
UdpNames v = NamesPorts (Is.Udp v)

abbrev TcpNames : TcpValue → Type 0
TcpNames v = NamesPorts (Is.Tcp v)

-- A CONNECTION'S ENDS

abbrev PairNamed : Option FourTuple → Type 0
PairNamed o = (pair : FourTuple) → o ≡ Some pair → AreNamed pair.local_port pair.remote_port

none_named : (o : Option FourTuple) → o ≡ None → PairNamed o
none_named o none pair is = absurd (let clash : None ≡ Some pair = sym none ∙ is in cc)

kept_named : (old new : Tcb) → KeepsOrForgets old new → PairNamed old.names.pair → PairNamed new.names.pair
kept_named old new keeps holds pair is = holds pair (pair_kept old new pair keeps is)

renamed_named : (ip : IpRepr) (header : TcpHeader) (old new : Tcb) → IsRenamed ip header old new → AreNamed header.src_port header.dst_port →
    PairNamed old.names.pair → PairNamed new.names.pair
renamed_named ip header old new (inl opened) named holds = λ pair is.
    let some : Some (pair_in ip header) ≡ Some pair = sym (ap (λ (n : Names). n.pair) opened.names) ∙ is in
    let same : pair_in ip header ≡ pair = cc in
    subst (λ (x : FourTuple). AreNamed x.local_port x.remote_port) same (named.1, named.0)
renamed_named ip header old new (inr (inl back)) named holds = none_named new.names.pair (ap (λ (n : Names). n.pair) back.names)
renamed_named ip header old new (inr (inr keeps)) named holds = kept_named old new keeps holds

left_named : (old new : Tcb) → IsLeftBy old new → PairNamed old.names.pair → PairNamed new.names.pair
left_named old new left holds pair is = holds pair (pair_left old new pair left is)

-- a probe or a keep-alive that counts leaves the ends
asked_named : (b : Tcb) (now : ℤ) → PairNamed b.names.pair → PairNamed (asked b now).names.pair
asked_named b now holds = by (is_over now b.timers.counts_from) where
  counted : Tcb
  counted = record b {
    sender = record b.sender { unanswered = one_more b.sender.unanswered };
    timers = record b.timers { counts_from = Some (timeout_from now b.round_trip) };
  }

  by : (over : Bool) → PairNamed (if over then counted else b).names.pair
  by true = holds
  by false = holds

-- a segment that went changes no end, and after a reset there is none
sent_named : (kind : OfferKind) (b : Tcb) (o : OpenOffer) (queued : ℕ) → PairNamed b.names.pair → PairNamed (sent_as kind b o queued).names.pair
sent_named Kind.Reset b o queued holds = none_named None refl
sent_named Kind.Probe b o queued holds = asked_named (probed b (end_of b o) o.instant) o.instant holds
sent_named Kind.KeepAlive b o queued holds = asked_named b o.instant holds
sent_named other b o queued holds = holds

off_named : (o : Option OpenOffer) (v : TcpValue) → TcpNames v → TcpNames (sent_off o v)
off_named None v holds = holds
off_named (Some o) v holds = sent_named o.kind (recorded v.tcb o (room_of v.received)) o (queued_in v) holds

-- IN A POLL

offers_named : (cx : ContextValue) (s s' : Socket) (answer : Answer.Offer) → Offers cx s answer s' → NamesPorts s → NamesPorts s'
offers_named cx (Is.Raw v) (Is.Raw v') answer offers holds = tt
offers_named cx (Is.Icmp v) (Is.Icmp v') answer offers holds = tt
offers_named cx (Is.Udp v) (Is.Udp v') answer offers holds =
    each_left IsNamed (contents v.queued) (contents v'.queued) (offer_left (Udps.TakesDatagram cx) (first v.queued) v v' answer offers) holds
offers_named cx (Is.Tcp v) (Is.Tcp v') answer offers holds =
    subst TcpNames (sym offers.1) (left_named v.tcb (offer_of cx v).socket.tcb (withheld_names cx v) holds)
offers_named cx (Is.Dhcpv4 v) s' answer offers holds = absurd holds
offers_named cx (Is.Dns v) s' answer offers holds = absurd holds
offers_named cx s s' answer offers holds = absurd offers

settles_named : (sent : Bool) (s : Socket) → NamesPorts s → NamesPorts (settled sent s)
settles_named sent (Is.Raw v) holds = tt
settles_named sent (Is.Icmp v) holds = tt
settles_named sent (Is.Udp v) holds = each_left IsNamed (contents v.queued) (contents (Datagrams.settled sent v).queued) (settled_left sent v) holds
settles_named true (Is.Tcp v) holds = off_named v.offered (unoffered v) holds
settles_named false (Is.Tcp v) holds = holds
settles_named sent (Is.Dhcpv4 v) holds = absurd holds
settles_named sent (Is.Dns v) holds = absurd holds

segment_named : (cx : ContextValue) (ip : IpRepr) (header : TcpHeader) (bytes : List ℕ) (s : Socket) → AreNamed header.src_port header.dst_port → NamesPorts s →
    NamesPorts (with_segment cx ip header bytes s)
segment_named cx ip header bytes (Is.Raw v) named holds = tt
segment_named cx ip header bytes (Is.Icmp v) named holds = tt
segment_named cx ip header bytes (Is.Udp v) named holds = holds
segment_named cx ip header bytes (Is.Dhcpv4 v) named holds = absurd holds
segment_named cx ip header bytes (Is.Dns v) named holds = absurd holds
segment_named cx ip header bytes (Is.Tcp v) named holds =
    renamed_named ip header v.tcb (arrives cx v ip header bytes).socket.tcb (arrival_names cx v ip header bytes) named holds

named_sockets : IsOfSockets NamesPorts
named_sockets = record {
  offers = offers_named;
  settles = settles_named;
  packet = packet;
  icmpv4 = icmpv4;
  icmpv6 = icmpv6;
  datagram = datagram;
  segment = segment_named;
} where
  packet : (ip : IpRepr) (payload : List ℕ) (s : Socket) → NamesPorts s → NamesPorts (with_packet ip payload s)
  packet ip payload (Is.Raw v) holds = tt
  packet ip payload (Is.Icmp v) holds = tt
  packet ip payload (Is.Udp v) holds = holds
  packet ip payload (Is.Tcp v) holds = holds
  packet ip payload (Is.Dhcpv4 v) holds = absurd holds
  packet ip payload (Is.Dns v) holds = absurd holds

  icmpv4 : (ip : Ipv4Repr) (message : Icmpv4Header) (bytes : List ℕ) (s : Socket) → NamesPorts s → NamesPorts (with_icmpv4 ip message bytes s)
  icmpv4 ip message bytes (Is.Raw v) holds = tt
  icmpv4 ip message bytes (Is.Icmp v) holds = tt
  icmpv4 ip message bytes (Is.Udp v) holds = holds
  icmpv4 ip message bytes (Is.Tcp v) holds = holds
  icmpv4 ip message bytes (Is.Dhcpv4 v) holds = absurd holds
  icmpv4 ip message bytes (Is.Dns v) holds = absurd holds

  icmpv6 : (ip : Ipv6Repr) (message : MessageValue) (bytes : List ℕ) (s : Socket) → NamesPorts s → NamesPorts (with_icmpv6 ip message bytes s)
  icmpv6 ip message bytes (Is.Raw v) holds = tt
  icmpv6 ip message bytes (Is.Icmp v) holds = tt
  icmpv6 ip message bytes (Is.Udp v) holds = holds
  icmpv6 ip message bytes (Is.Tcp v) holds = holds
  icmpv6 ip message bytes (Is.Dhcpv4 v) holds = absurd holds
  icmpv6 ip message bytes (Is.Dns v) holds = absurd holds

  datagram : (cx : ContextValue) (ip : IpRepr) (udp : UdpRepr) (bytes : List ℕ) (s s' : Socket) → TakesDatagram cx ip udp bytes s s' → NamesPorts s →
      NamesPorts s'
  datagram cx ip udp bytes (Is.Raw v) s' takes holds = subst NamesPorts (sym takes) tt
  datagram cx ip udp bytes (Is.Icmp v) s' takes holds = subst NamesPorts (sym takes) tt
  datagram cx ip udp bytes (Is.Udp v) s' takes holds = subst NamesPorts (sym takes) holds
  datagram cx ip udp bytes (Is.Tcp v) s' takes holds = subst NamesPorts (sym takes) holds
  datagram cx ip udp bytes (Is.Dhcpv4 v) s' takes holds = absurd holds
  datagram cx ip udp bytes (Is.Dns v) s' takes holds = absurd holds

-- IN A CALL OF A UDP SOCKET

abbrev after_tests : UdpValue → IpEndpoint → List ℕ → Bool → Bool → Bool → Bool → UdpValue
after_tests v remote bytes closed zero nowhere full =
    let answer : Result (Unit {0}) SendError =
    if closed || (zero || nowhere) then Err SendTo.Unaddressable else if full then Err SendTo.BufferFull else Ok tt in
    sent_after answer v (metadata_to remote) bytes

sends_named : (v : UdpValue) (remote : IpEndpoint) (bytes : List ℕ) → UdpNames v → UdpNames (Udps.send_after v (metadata_to remote) bytes)
sends_named v remote bytes holds =
    by (not (Udps.is_open v)) (remote.port == 0) (Addresses.is_unspecified remote.addr) (is_full_for v.queued (length bytes)) refl where
      by : (closed zero nowhere full : Bool) → (remote.port == 0) ≡ zero → UdpNames (after_tests v remote bytes closed zero nowhere full)
      by true zero nowhere full is = holds
      by false true nowhere full is = holds
      by false false true full is = holds
      by false false false true is = holds
      by false false false false is = each_appended IsNamed v.queued (length bytes) (metadata_to remote) bytes holds (eqb-false remote.port 0 is)

udp_keeps : (v : UdpValue) (call : SocketCall) → UdpNames v → Keeps UdpNames (udp_does v call)
udp_keeps v (Call.Bind port) holds = holds
udp_keeps v Call.Close holds = tt
udp_keeps v (Call.SendTo remote bytes) holds = sends_named v remote bytes holds
udp_keeps v (Call.RecvFrom limit) holds = holds
udp_keeps v call holds = tt

-- IN A CALL OF A TCP SOCKET

listens_named : (opens : Bool) (v : TcpValue) (endpoint : IpListenEndpoint) → TcpNames v → TcpNames (if opens then listening v endpoint else unoffered v)
listens_named true v endpoint holds = none_named None refl
listens_named false v endpoint holds = holds

found_named : (cx : ContextValue) (remote : IpEndpoint) (port : ℕ) → PairNamed (four_tuple_for cx remote (at_port port))
found_named cx remote port =
    by (remote.port == 0) (is_unspecified remote.addr) (port == 0) (addresses_by (source_by cx None remote.addr) remote.addr) refl refl where
      by : (a b c : Bool) (addresses : Option AddressPair) → (remote.port == 0) ≡ a → (port == 0) ≡ c
          → PairNamed (let r : Option FourTuple = if a || (b || c) then None else pair_by addresses port remote.port in r)
      by true b c addresses zero here = none_named None refl
      by false true c addresses zero here = none_named None refl
      by false false true addresses zero here = none_named None refl
      by false false false None zero here = none_named None refl
      by false false false (Some addresses) zero here = λ pair is.
          let same : record { addresses = addresses; local_port = port; remote_port = remote.port } ≡ pair = cc in
          subst (λ (x : FourTuple). AreNamed x.local_port x.remote_port) same (eqb-false port 0 here, eqb-false remote.port 0 zero)

connected_named : (v : TcpValue) (o : Option FourTuple) (number : ℕ) → PairNamed o → TcpNames v → TcpNames (connected_by v o number)
connected_named v None number new holds = holds
connected_named v (Some pair) number new holds = new

connects_named : (closed : Bool) (cx : ContextValue) (v : TcpValue) (remote : IpEndpoint) (port : ℕ) → TcpNames v
    → TcpNames (if closed then connected_by v (four_tuple_for cx remote (at_port port)) (number_for cx (four_tuple_for cx remote (at_port port))) else unoffered v)
connects_named true cx v remote port holds =
    connected_named v (four_tuple_for cx remote (at_port port)) (number_for cx (four_tuple_for cx remote (at_port port))) (found_named cx remote port) holds
connects_named false cx v remote port holds = holds

writes_named : (v : TcpValue) (bytes : List ℕ) → TcpNames v → TcpNames (send_after v bytes)
writes_named v bytes holds = by (takes_writes v.tcb.state) where
  by : (takes : Bool) → TcpNames
      (if takes then sent_more v (enqueued (anchored v.queued) (take (min (length bytes) (length v.queued.free)) bytes)) else unoffered v)
  by true = holds
  by false = holds

reads_named : (v : TcpValue) (r : Result ℕ RecvError) → TcpNames v → TcpNames (read_by v r)
reads_named v (Ok count) holds = holds
reads_named v (Err why) holds = holds

settings_named : (v : TcpValue) (setting : TcpSetting) → TcpNames v → TcpNames (setting_after v setting)
settings_named v (Changed.Timeout duration) holds = holds
settings_named v (Changed.AckDelay duration) holds = holds
settings_named v (Changed.KeepAlive interval) holds = holds
settings_named v (Changed.NagleEnabled enabled) holds = holds
settings_named v (Changed.HopLimit hop_limit) holds = holds
settings_named v (Changed.CongestionControl control) holds = holds
settings_named v (Changed.TsvalGenerator generator) holds = holds
settings_named v (Changed.PauseSynack paused) holds = holds

tcp_keeps : (cx : ContextValue) (v : TcpValue) (call : SocketCall) → TcpNames v → Keeps TcpNames (tcp_does cx v call)
tcp_keeps cx v (Call.Listen port) holds = listens_named (is_closed v.tcb.state && not (port == 0)) v (at_port port) holds
tcp_keeps cx v (Call.Connect remote port) holds = connects_named (is_closed v.tcb.state) cx v remote port holds
tcp_keeps cx v (Call.Send bytes) holds = writes_named v bytes holds
tcp_keeps cx v (Call.Recv limit) holds = reads_named v (recv_answer v limit) holds
tcp_keeps cx v Call.Close holds = kept_named v.tcb (close_after v).tcb (close_names v) holds
tcp_keeps cx v Call.Abort holds = kept_named v.tcb (abort_after v).tcb (abort_names v) holds
tcp_keeps cx v Call.State holds = holds
tcp_keeps cx v (Call.Set setting) holds = settings_named v setting holds
tcp_keeps cx v call holds = tt

-- ALL

calls_named : (cx : ContextValue) (s : Socket) (call : SocketCall) → SendsForeign call → NamesPorts s → Keeps NamesPorts (does cx s call)
calls_named cx (Is.Raw v) call foreign holds = all_as NamesPorts Is.Raw (λ w. tt) (raw_does v call)
calls_named cx (Is.Icmp v) call foreign holds = all_as NamesPorts Is.Icmp (λ w. tt) (icmp_does v call)
calls_named cx (Is.Udp v) call foreign holds = kept_as NamesPorts Is.Udp (udp_does v call) (udp_keeps v call holds)
calls_named cx (Is.Tcp v) call foreign holds = kept_as NamesPorts Is.Tcp (tcp_does cx v call) (tcp_keeps cx v call holds)
calls_named cx (Is.Dhcpv4 v) call foreign holds = absurd holds
calls_named cx (Is.Dns v) call foreign holds = absurd holds

unused_named : (socket : Socket) → IsUnused socket → NamesPorts socket
unused_named (Is.Raw v) unused = tt
unused_named (Is.Icmp v) unused = tt
unused_named (Is.Udp v) unused = subst (AllByRecursion IsNamed) (sym unused.1) tt
unused_named (Is.Tcp v) unused = none_named v.tcb.names.pair unused.1.pair
unused_named (Is.Dhcpv4 v) unused = absurd unused
unused_named (Is.Dns v) unused = absurd unused

pub named_runs : IsOfRuns NamesPorts
named_runs = record { polls = named_sockets; calls = calls_named; unused = unused_named }
