-- A socket that doesn't accept a datagram doesn't after what a poll does to it either.
use Rattle.std.proofs.Common.{◌≡◌, ℕ, ℤ, Bool, true, false, if◌then◌else◌, not, ◌&&◌, ◌||◌, ◌==◌, inl, inr, List, Option, Some, None, refl, sym, ap, ◌∙◌, subst, arith}
use Rattle.std.specs.Prelude.{int_lt, int_le, length}
use Rattle.std.proofs.lemmas.Bool.{and_left}
use Rattle.net_base.specs.ChecksumCapabilities.{ChecksumCapabilities}
use Rattle.ip_wire.specs.AddressTests.{is_multicast, is_same_address}
use Rattle.ip_wire.specs.Ip.{destination_of, source_of}
use Rattle.ip_wire.specs.IpAddress.{IpAddress}
use Rattle.ip_wire.specs.IpRepr.{IpRepr}
use Rattle.ip_wire.specs.IpRepr.TheVariants as Ip
use Rattle.ip_wire.specs.Ipv4Address.{Ipv4Address}
use Rattle.ip_wire.specs.UdpRepr.{UdpRepr}
use Rattle.sockets.specs.Context.{ContextValue}
use Rattle.sockets.specs.Offer as Answer
use Rattle.sockets.specs.Socket.{Offers, settled, accepts_datagram}
use Rattle.socket_datagram.specs.Udp as Udps
use Rattle.socket_datagram.specs.Udp.{UdpValue, UdpSettings}
use Rattle.socket_datagram.specs.DhcpClient.Answers as DhcpAnswers
use Rattle.socket_datagram.specs.DhcpClient.Leases.{is_leasable, server_in, lease_in}
use Rattle.socket_datagram.specs.DhcpClient.Moments.{first_wait}
use Rattle.socket_datagram.specs.DhcpClient.Offers as DhcpOffers
use Rattle.socket_datagram.specs.DhcpClient.States as DhcpStates
use Rattle.socket_datagram.specs.DhcpClient.Value as Dhcps
use Rattle.socket_datagram.specs.DhcpClient.Value.{DhcpValue}
use Rattle.socket_datagram.specs.declared.dhcpv4.config.ServerInfo.{ServerInfo}
use Rattle.socket_datagram.specs.declared.dhcpv4.config.Settings.{Settings}
use Rattle.socket_datagram.specs.declared.dhcpv4.lease.Lease.{Lease}
use Rattle.socket_datagram.specs.declared.dhcpv4.state.ClientState.{ClientState}
use Rattle.socket_datagram.specs.declared.dhcpv4.state.ClientState.TheVariants as S
use Rattle.socket_datagram.specs.declared.dhcpv4.state.Turn as DhcpTurns
use Rattle.socket_datagram.specs.declared.dhcpv4.state.Turn.TheVariants as DhcpTurn
use Rattle.socket_datagram.specs.DnsClient.Offers as DnsOffers
use Rattle.socket_datagram.specs.DnsClient.Processed as DnsProcessed
use Rattle.socket_datagram.specs.DnsClient.Turns.{due_at}
use Rattle.socket_datagram.specs.DnsClient.Value as Dnss
use Rattle.socket_datagram.specs.DnsClient.Value.{DnsValue}
use Rattle.socket_datagram.specs.declared.dns.query.Query.{Query}
use Rattle.socket_datagram.specs.declared.dns.state.State.{State}
use Rattle.socket_datagram.specs.declared.dns.state.State.TheVariants as Dns
use Rattle.sockets.specs.declared.socket.Socket.{Socket}
use Rattle.sockets.specs.declared.socket.Socket.TheVariants as Kind
use Rattle.iface_ingress.specs.Datagrams.{TakesDatagram}
use Rattle.iface_ingress.specs.Delivered.{with_packet, with_icmpv4, with_icmpv6, with_segment}
use Rattle.iface_ingress.specs.Icmpv4Header.{Icmpv4Header}
use Rattle.iface_ingress.specs.Icmpv6.{MessageValue}
use Rattle.ip_wire.specs.Ipv4Repr.{Ipv4Repr}
use Rattle.ip_wire.specs.Ipv6Repr.{Ipv6Repr}
use Rattle.ip_wire.specs.TcpHeader.{TcpHeader}
use Rattle.proof_stack.specs.Progress.Ready.{may_answer, waits_for}
use Rattle.proof_stack.proofs.Peers.Arrivals.{IsOfPolls}
use Rattle.proof_stack.proofs.Peers.Udp.{same_offered}

-- DHCP: no turn and no message changes the settings

abbrev SameSettings : DhcpValue → DhcpValue → Type 0
SameSettings v v' = v'.settings ≡ v.settings

same_at : (v a b : DhcpValue) → b ≡ a → SameSettings v a → SameSettings v b
same_at v a b is same = ap (λ (x : DhcpValue). x.settings) is ∙ same

either : (test : Bool) (v a b : DhcpValue) → SameSettings v a → SameSettings v b → SameSettings v (if test then a else b)
either true v a b one other = one
either false v a b one other = other

dhcp_turn : (turn : DhcpTurns.Turn) (cx : ContextValue) (v v' : DhcpValue) (answer : Answer.Offer) → DhcpOffers.OffersAs turn cx v answer v' → SameSettings v v'
dhcp_turn DhcpTurn.Wait cx v v' answer offers = same_at v (Dhcps.unoffered v) v' offers.1 refl
dhcp_turn DhcpTurn.GiveUp cx v v' answer offers = same_at v (Dhcps.begun v) v' offers.1 refl
dhcp_turn (DhcpTurn.Send kind) cx v v' answer offers = ap (λ (x : DhcpValue). x.settings) offers.1.offers

dhcp_sent : (v : DhcpValue) (o : Option Dhcps.Open) → SameSettings v (Dhcps.sent_from v o)
dhcp_sent v None = refl
dhcp_sent v (Some o) = refl

dhcp_settled : (sent : Bool) (v : DhcpValue) → SameSettings v (Dhcps.settled sent v)
dhcp_settled true v = dhcp_sent v v.offered
dhcp_settled false v = refl

bound : (v : DhcpValue) (lease : Option Lease) → SameSettings v (DhcpAnswers.bound_to v lease)
bound v None = refl
bound v (Some lease) = refl

module _ (now : ℤ) (v v' : DhcpValue) (source : Ipv4Address) (payload : List ℕ) (takes : DhcpAnswers.Takes now v source payload v') where
  abbrev before : DhcpValue
  before = Dhcps.unoffered v

  module _ (server : ServerInfo) where
    chosen : SameSettings v (DhcpAnswers.chosen now server before takes.message takes.cidr)
    chosen =
        either (is_leasable takes.message.your_ip takes.cidr) v (record before {
          state = S.Requesting (record {
            retry_at = now;
            wait = first_wait v.settings.retry.initial_request_timeout;
            retry = 0;
            server = server;
            requested_ip = takes.message.your_ip;
          });
        }) before refl refl

    offered : (state : ClientState) → SameSettings v (DhcpAnswers.offer_in now server before takes.message takes.cidr state)
    offered (S.Init begins_at) = refl
    offered (S.Selecting s) = chosen
    offered (S.Requesting s) = refl
    offered (S.Bound lease) = refl
    offered (S.Renewing lease retry_at) = refl
    offered (S.Rebinding lease retry_at) = refl

    acknowledged : SameSettings v (DhcpAnswers.acknowledged now server before takes.message takes.cidr)
    acknowledged =
        either (DhcpStates.is_asked v.state server) v
        (DhcpAnswers.bound_to before (lease_in now server takes.message takes.cidr v.settings.max_lease_duration (Dhcps.least_wait v.settings))) before
        (bound before (lease_in now server takes.message takes.cidr v.settings.max_lease_duration (Dhcps.least_wait v.settings))) refl

    ends : SameSettings v (DhcpAnswers.refused server before)
    ends = either (DhcpStates.is_asked v.state server && not v.settings.ignore_naks) v (Dhcps.begun before) before refl refl

    by_type : SameSettings v (DhcpAnswers.told_by takes.message.message_type now server before takes.message takes.cidr)
    by_type = let offer = offered v.state in let lease = acknowledged in let end = ends in grind (arith, offer, lease, end)

  from_server : (o : Option ServerInfo) → SameSettings v (DhcpAnswers.told_from o now before takes.message takes.cidr)
  from_server None = refl
  from_server (Some server) = by_type server

  told_dhcp : SameSettings v v'
  told_dhcp =
      same_at v (DhcpAnswers.told now source before takes.message takes.cidr) v' takes.taken
      (either (DhcpAnswers.is_answer before takes.message) v
      (DhcpAnswers.told_from (server_in source takes.message) now before takes.message takes.cidr) before
      (from_server (server_in source takes.message)) refl)

dhcp_taken : (accepted : Bool) (now : ℤ) (v v' : DhcpValue) (ip : IpRepr) (payload : List ℕ) → DhcpAnswers.ProcessedFrom accepted now v ip payload v'
    → SameSettings v v'
dhcp_taken true now v v' (Ip.Ipv4 header) payload (inl takes) = told_dhcp now v v' header.src_addr payload takes
dhcp_taken true now v v' (Ip.Ipv4 header) payload (inr none) = same_at v (Dhcps.unoffered v) v' none.1 refl
dhcp_taken true now v v' (Ip.Ipv6 header) payload is = same_at v (Dhcps.unoffered v) v' is refl
dhcp_taken false now v v' ip payload is = same_at v (Dhcps.unoffered v) v' is refl

-- DNS: a query keeps its port while it goes from server to server, and none begins

module _ (ports : UdpRepr) where
  abbrev NoAnswer : State → Type 0
  NoAnswer state = may_answer ports state ≡ false

  asked_next : (now : ℤ) (state : State) → NoAnswer state → NoAnswer (Dnss.ask_next now state)
  asked_next now Dns.Idle none = none
  asked_next now (Dns.Pending q) none = none
  asked_next now (Dns.Completed found) none = none
  asked_next now Dns.Failed none = none
  asked_next now Dns.Unanswered none = none

  left : (told : Bool) → NoAnswer (Dnss.unanswered told)
  left true = refl
  left false = refl

  next : (has told : Bool) (now : ℤ) (state : State) → NoAnswer state → NoAnswer (if has then Dnss.ask_next now state else Dnss.unanswered told)
  next true told now state none = asked_next now state none
  next false told now state none = left told

  turned : (now : ℤ) (v : DnsValue) → NoAnswer v.state → NoAnswer (Dnss.turned now v).state
  turned now v none = next (Dnss.has_next v.servers v.state) v.host_requirements now v.state none

  dns_at : (a b : DnsValue) → b ≡ a → NoAnswer a.state → NoAnswer b.state
  dns_at a b is none = subst (λ (x : DnsValue). NoAnswer x.state) (sym is) none

  module _ (cx : ContextValue) (v v' : DnsValue) (answer : Answer.Offer) (none : NoAnswer v.state) where
    rests : DnsOffers.OffersAs (DnsOffers.turn_in Dns.Idle cx v) cx v answer v' → NoAnswer v'.state
    rests is = dns_at (Dnss.unoffered v) v' is.1 none

    proceeds : (q : Query) → DnsOffers.OffersAs (DnsOffers.sent_to None cx v q) cx v answer v' → NoAnswer v'.state
    proceeds q is = dns_at (Dnss.turned cx.instant v) v' is.1 (turned cx.instant v none)

    by_header : (q : Query) (server : IpAddress) (h : Option IpRepr) → DnsOffers.OffersAs (DnsOffers.sent_with h cx.instant server q) cx v answer v'
        → NoAnswer v'.state
    by_header q server None is = proceeds q is
    by_header q server (Some h) is = dns_at (DnsOffers.offered_in v _) v' is.1 none

    by_server : (q : Query) (o : Option IpAddress) → DnsOffers.OffersAs (DnsOffers.sent_to o cx v q) cx v answer v' → NoAnswer v'.state
    by_server q None is = proceeds q is
    by_server q (Some server) is =
        by_header q server (DnsOffers.header_between (cx.source_for server) server (length v.message) (DnsOffers.hop_limit_or_default v.hop_limit)) is

    by_instants : (q : Query) (early late : Bool) → DnsOffers.OffersAs (if early then DnsOffers.turn_in Dns.Idle cx v else if late
        then DnsOffers.sent_to None cx v q else DnsOffers.sent_to (Dnss.server_at v.servers q.server) cx v q) cx v answer v' → NoAnswer v'.state
    by_instants q true late is = rests is
    by_instants q false true is = proceeds q is
    by_instants q false false is = by_server q (Dnss.server_at v.servers q.server) is

    dns_turn : (state : State) → DnsOffers.OffersAs (DnsOffers.turn_in state cx v) cx v answer v' → NoAnswer v'.state
    dns_turn Dns.Idle is = rests is
    dns_turn (Dns.Pending q) is = by_instants q (int_lt cx.instant (due_at q)) (int_le q.next_at cx.instant) is
    dns_turn (Dns.Completed found) is = rests is
    dns_turn Dns.Failed is = rests is
    dns_turn Dns.Unanswered is = rests is

  sent_by : (state : State) (o : Dnss.Open) → NoAnswer state → NoAnswer (Dnss.sent_by state o.sending)
  sent_by Dns.Idle o none = none
  sent_by (Dns.Pending q) o none = none
  sent_by (Dns.Completed found) o none = none
  sent_by Dns.Failed o none = none
  sent_by Dns.Unanswered o none = none

  sent_in : (state : State) (o : Option Dnss.Open) → NoAnswer state → NoAnswer (Dnss.sent_state state o)
  sent_in state None none = none
  sent_in state (Some o) none = sent_by state o none

  dns_settled : (is_sent : Bool) (v : DnsValue) → NoAnswer v.state → NoAnswer (Dnss.settled is_sent v).state
  dns_settled true v none = sent_in v.state v.offered none
  dns_settled false v none = none

  dns_taken : (accepted : Bool) (now : ℤ) (v v' : DnsValue) (payload : List ℕ) → DnsProcessed.ProcessedIf accepted now v payload v'
      → NoAnswer v.state → NoAnswer v'.state
  dns_taken true now v v' payload takes none =
      let on = turned now v none in dns_at (DnsProcessed.judged now v takes.verdict) v' takes.taken (grind (arith, none, on))
  dns_taken false now v v' payload is none = dns_at (Dnss.unoffered v) v' is none

-- ANY SOCKET

module _ (Came : ChecksumCapabilities → IpRepr → List ℕ → Type 0) (at : ContextValue) (header : IpRepr) (ports : UdpRepr) where
  -- it doesn't accept the datagram, and no answer to a query of it looks like it
  abbrev pub Refuses : Socket → Type 0
  Refuses (Kind.Raw v) = Unit {0}
  Refuses (Kind.Icmp v) = Unit {0}
  Refuses (Kind.Udp v) = Udps.accepts at v header ports ≡ false
  Refuses (Kind.Tcp v) = Unit {0}
  Refuses (Kind.Dhcpv4 v) = Dhcps.accepts v header ports ≡ false
  Refuses (Kind.Dns v) = NoAnswer ports v.state

  udp_refuses : (v v' : UdpValue) → v'.settings ≡ v.settings → Udps.accepts at v header ports ≡ false → Udps.accepts at v' header ports ≡ false
  udp_refuses v v' same refused = ap (λ (x : UdpSettings). Udps.accepts at (record v { settings = x }) header ports) same ∙ refused

  dhcp_accepts : (v v' : DhcpValue) (ip : IpRepr) → v'.settings ≡ v.settings → Dhcps.accepts v' ip ports ≡ Dhcps.accepts v ip ports
  dhcp_accepts v v' (Ip.Ipv4 ip) same = ap (λ (x : Settings). (ports.src_port == x.server_port) && (ports.dst_port == x.client_port)) same
  dhcp_accepts v v' (Ip.Ipv6 ip) same = refl

  dhcp_refuses : (v v' : DhcpValue) → v'.settings ≡ v.settings → Dhcps.accepts v header ports ≡ false → Dhcps.accepts v' header ports ≡ false
  dhcp_refuses v v' same refused = dhcp_accepts v v' header same ∙ refused

  offers : (cx : ContextValue) (s offered : Socket) (answer : Answer.Offer) (sent : Bool) → Offers cx s answer offered → Refuses s
      → Refuses (settled sent offered)
  offers cx s (Kind.Raw w) answer sent is refused = tt
  offers cx s (Kind.Icmp w) answer sent is refused = tt
  offers cx s (Kind.Tcp w) answer sent is refused = tt
  offers cx (Kind.Udp v) (Kind.Udp w) answer sent is refused = udp_refuses v w (same_offered cx v w answer _ is).settings refused
  offers cx (Kind.Raw v) (Kind.Udp w) answer sent is refused = absurd is
  offers cx (Kind.Icmp v) (Kind.Udp w) answer sent is refused = absurd is
  offers cx (Kind.Tcp v) (Kind.Udp w) answer sent is refused = absurd is
  offers cx (Kind.Dhcpv4 v) (Kind.Udp w) answer sent is refused = absurd is
  offers cx (Kind.Dns v) (Kind.Udp w) answer sent is refused = absurd is
  offers cx (Kind.Dhcpv4 v) (Kind.Dhcpv4 w) answer sent is refused =
      dhcp_refuses v (Dhcps.settled sent w)
      (dhcp_settled sent w ∙ dhcp_turn (DhcpStates.turn_of cx.instant v.settings.retry.request_retries v.state) cx v w answer is) refused
  offers cx (Kind.Raw v) (Kind.Dhcpv4 w) answer sent is refused = absurd is
  offers cx (Kind.Icmp v) (Kind.Dhcpv4 w) answer sent is refused = absurd is
  offers cx (Kind.Udp v) (Kind.Dhcpv4 w) answer sent is refused = absurd is
  offers cx (Kind.Tcp v) (Kind.Dhcpv4 w) answer sent is refused = absurd is
  offers cx (Kind.Dns v) (Kind.Dhcpv4 w) answer sent is refused = absurd is
  offers cx (Kind.Dns v) (Kind.Dns w) answer is_sent is refused =
      dns_settled ports is_sent w (dns_turn ports cx v w answer refused v.state is)
  offers cx (Kind.Raw v) (Kind.Dns w) answer sent is refused = absurd is
  offers cx (Kind.Icmp v) (Kind.Dns w) answer sent is refused = absurd is
  offers cx (Kind.Udp v) (Kind.Dns w) answer sent is refused = absurd is
  offers cx (Kind.Tcp v) (Kind.Dns w) answer sent is refused = absurd is
  offers cx (Kind.Dhcpv4 v) (Kind.Dns w) answer sent is refused = absurd is

  packet : (ip : IpRepr) (payload : List ℕ) (s : Socket) → Refuses s → Refuses (with_packet ip payload s)
  packet ip payload (Kind.Raw v) refused = tt
  packet ip payload (Kind.Icmp v) refused = refused
  packet ip payload (Kind.Udp v) refused = refused
  packet ip payload (Kind.Tcp v) refused = refused
  packet ip payload (Kind.Dhcpv4 v) refused = refused
  packet ip payload (Kind.Dns v) refused = refused

  icmpv4 : (ip : Ipv4Repr) (message : Icmpv4Header) (bytes : List ℕ) (s : Socket) → Refuses s → Refuses (with_icmpv4 ip message bytes s)
  icmpv4 ip message bytes (Kind.Raw v) refused = refused
  icmpv4 ip message bytes (Kind.Icmp v) refused = tt
  icmpv4 ip message bytes (Kind.Udp v) refused = refused
  icmpv4 ip message bytes (Kind.Tcp v) refused = refused
  icmpv4 ip message bytes (Kind.Dhcpv4 v) refused = refused
  icmpv4 ip message bytes (Kind.Dns v) refused = refused

  icmpv6 : (ip : Ipv6Repr) (message : MessageValue) (bytes : List ℕ) (s : Socket) → Refuses s → Refuses (with_icmpv6 ip message bytes s)
  icmpv6 ip message bytes (Kind.Raw v) refused = refused
  icmpv6 ip message bytes (Kind.Icmp v) refused = tt
  icmpv6 ip message bytes (Kind.Udp v) refused = refused
  icmpv6 ip message bytes (Kind.Tcp v) refused = refused
  icmpv6 ip message bytes (Kind.Dhcpv4 v) refused = refused
  icmpv6 ip message bytes (Kind.Dns v) refused = refused

  segment : (cx : ContextValue) (ip : IpRepr) (tcp : TcpHeader) (bytes : List ℕ) (s : Socket) → Refuses s → Refuses (with_segment cx ip tcp bytes s)
  segment cx ip tcp bytes (Kind.Raw v) refused = refused
  segment cx ip tcp bytes (Kind.Icmp v) refused = refused
  segment cx ip tcp bytes (Kind.Udp v) refused = refused
  segment cx ip tcp bytes (Kind.Tcp v) refused = tt
  segment cx ip tcp bytes (Kind.Dhcpv4 v) refused = refused
  segment cx ip tcp bytes (Kind.Dns v) refused = refused

  datagram : (cx : ContextValue) (ip : IpRepr) (udp : UdpRepr) (bytes : List ℕ) (s s' : Socket) → TakesDatagram cx ip udp bytes s s' → Refuses s → Refuses s'
  datagram cx ip udp bytes (Kind.Raw v) s' is refused = subst Refuses (sym is) refused
  datagram cx ip udp bytes (Kind.Icmp v) s' is refused = subst Refuses (sym is) refused
  datagram cx ip udp bytes (Kind.Udp v) s' is refused = subst Refuses (sym is) refused
  datagram cx ip udp bytes (Kind.Tcp v) s' is refused = subst Refuses (sym is) refused
  datagram cx ip udp bytes (Kind.Dhcpv4 v) s' is refused =
      subst Refuses (sym is.1) (dhcp_refuses v is.0 (dhcp_taken (Dhcps.accepts v ip udp) cx.instant v is.0 ip bytes is.2) refused)
  datagram cx ip udp bytes (Kind.Dns v) s' is refused =
      subst Refuses (sym is.1) (dns_taken ports (DnsProcessed.accepts v.state ip udp) cx.instant v is.0 bytes is.2 refused)

  pub refuses_law : IsOfPolls Came Refuses
  refuses_law = record {
    offers = offers;
    arrives = record {
      same = λ s refused. refused;
      packet = packet;
      icmpv4 = icmpv4;
      icmpv6 = icmpv6;
      datagram = λ caps cx ip payload udp bytes s s' came is accepts takes refused. datagram cx ip udp bytes s s' takes refused;
      segment = λ caps cx ip payload tcp bytes s came is accepts refused. segment cx ip tcp bytes s refused;
    };
  }

  -- WHICH SOCKETS REFUSE IT

  -- what holds of each slot that isn't this one
  pub refuses_where : (s : Socket) → accepts_datagram at s header ports ≡ false → waits_for ports s ≡ false → Refuses s
  refuses_where (Kind.Raw v) refused none = tt
  refuses_where (Kind.Icmp v) refused none = tt
  refuses_where (Kind.Udp v) refused none = refused
  refuses_where (Kind.Tcp v) refused none = tt
  refuses_where (Kind.Dhcpv4 v) refused none = refused
  refuses_where (Kind.Dns v) refused none = none

  no_query : (state : State) → NoAnswer ports state → DnsProcessed.accepts state header ports ≡ false
  no_query Dns.Idle none = refl
  no_query (Dns.Pending q) none = by q.asked where
    by : (o : Option IpAddress) → DnsProcessed.is_from o q header ports ≡ false
    by None = refl
    by (Some server) = and_left _ (is_same_address server (source_of header)) none
  no_query (Dns.Completed found) none = refl
  no_query Dns.Failed none = refl
  no_query Dns.Unanswered none = refl

  module _ (cx : ContextValue) (same : cx.is_broadcast (destination_of header) ≡ at.is_broadcast (destination_of header)) where
    same_address : (o : Option IpAddress) → Udps.takes_address cx o (destination_of header) ≡ Udps.takes_address at o (destination_of header)
    same_address None = refl
    same_address (Some bound) = ap (λ (b : Bool). is_same_address bound (destination_of header) || (b || is_multicast (destination_of header))) same

    pub same_udp : (v : UdpValue) → Udps.accepts cx v header ports ≡ Udps.accepts at v header ports
    same_udp v = ap (λ (b : Bool). Udps.is_open v && ((v.settings.endpoint.port == ports.dst_port) && b)) (same_address v.settings.endpoint.addr)

    -- such a socket doesn't accept it
    pub not_accepted : (s : Socket) → Refuses s → accepts_datagram cx s header ports ≡ false
    not_accepted (Kind.Raw v) refused = refl
    not_accepted (Kind.Icmp v) refused = refl
    not_accepted (Kind.Udp v) refused = same_udp v ∙ refused
    not_accepted (Kind.Tcp v) refused = refl
    not_accepted (Kind.Dhcpv4 v) refused = refused
    not_accepted (Kind.Dns v) refused = no_query v.state refused
