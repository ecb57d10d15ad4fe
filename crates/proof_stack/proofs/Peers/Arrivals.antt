-- What a packet for the host does to the socket at a slot.
use Rattle.std.proofs.Common.{◌≡◌, ℕ, Bool, true, false, if◌then◌else◌, List, get_or, Option, Some, None, refl, sym, subst}
use Rattle.std.proofs.lemmas.List.Quantifiers.{position-Some}
use Rattle.std.proofs.lemmas.Option.{slice_get-get_or}
use Rattle.net_base.specs.ChecksumCapabilities.{ChecksumCapabilities}
use Rattle.ip_wire.specs.IpAddress.{IpAddress}
use Rattle.ip_wire.specs.IpAddress.TheVariants as Address
use Rattle.ip_wire.specs.Ip.{destination_of}
use Rattle.ip_wire.specs.IpRepr.{IpRepr}
use Rattle.ip_wire.specs.IpRepr.TheVariants as Ip
use Rattle.ip_wire.specs.Ipv4Repr.{Ipv4Repr}
use Rattle.ip_wire.specs.Ipv6Repr.{Ipv6Repr}
use Rattle.ip_wire.specs.TcpHeader.{TcpHeader}
use Rattle.ip_wire.specs.UdpRepr.{UdpRepr}
use Rattle.iface_ingress.specs.Icmpv4Header.{Icmpv4Header}
use Rattle.iface_ingress.specs.Icmpv6.{MessageValue}
use Rattle.iface_ingress.specs.EthernetRepr.{EthernetRepr}
use Rattle.sockets.specs.Context.{ContextValue}
use Rattle.sockets.specs.Packet.{PayloadValue, ControlV4, ControlV6, Bytes, Datagram, Segment}
use Rattle.sockets.specs.Offer as Answer
use Rattle.sockets.specs.Socket.{Offers, settled, accepts_packet, accepts_icmpv4, accepts_icmpv6, accepts_datagram, accepts_segment}
use Rattle.sockets.specs.declared.socket.Socket.{Socket}
use Rattle.iface_egress.specs.Set.{free}
use Rattle.iface_egress.specs.declared.socket_set.Item.{Item}
use Rattle.iface_egress.specs.declared.socket_set.SocketStorage.{SocketStorage}
use Rattle.interface.specs.Inner.{InnerValue, context_of, is_for_us}
use Rattle.iface_ingress.specs.Arrives.{Arrived, ArrivesV4, ArrivesV6, Brings, Hands, is_direct, renewed, renewed_by, sender_of}
use Rattle.iface_ingress.specs.UpperLayer.{IsDatagram, IsSegment, IsCarriedContent}
use Rattle.iface_ingress.specs.Datagrams.{TakesDatagram, ItemTakes, GivenIn, GivenAt}
use Rattle.iface_ingress.specs.Delivered.{Slots, passes, passes_in, changed_at, with_packet, packet_delivered, is_taken_raw, with_icmpv4, with_icmpv6}
use Rattle.iface_ingress.specs.Delivered.{datagram_slot, with_segment, segment_slot, segment_delivered}
use Rattle.iface_ingress.specs.Processed.{control_v4_slots, control_v6_slots, names_no_endpoint, HandsTo}
use Rattle.iface_ingress.specs.Incoming.{IncomingValue, Arp, Ip4, Ip6}
use Rattle.iface_ingress.specs.Upper.{upper_header, upper_payload}
use Rattle.iface_ingress.proofs.AtSlot.{changed_here}
use Rattle.iface_ingress.proofs.Segments.{accepted_there}
use Rattle.proof_stack.specs.PeerHost.ReceivedPackets.{IsPacket}
use Rattle.proof_stack.proofs.Peers.Place.{ItemOr, AtOr, at_so, put_holds, set_holds, all_hold}

-- What comes for a socket, in a packet that came so, makes something hold of it, `Z`, where `W` held.
pub record IsOfArrivals (Came : ChecksumCapabilities → IpRepr → List ℕ → Type 0) (W Z : Socket → Type 0) : Type 0 where
  pub same : (s : Socket) → W s → Z s
  pub packet : (ip : IpRepr) (payload : List ℕ) (s : Socket) → W s → W (with_packet ip payload s)
  pub icmpv4 : (ip : Ipv4Repr) (message : Icmpv4Header) (bytes : List ℕ) (s : Socket) → W s → Z (with_icmpv4 ip message bytes s)
  pub icmpv6 : (ip : Ipv6Repr) (message : MessageValue) (bytes : List ℕ) (s : Socket) → W s → Z (with_icmpv6 ip message bytes s)
  pub datagram : (caps : ChecksumCapabilities) (cx : ContextValue) (ip : IpRepr) (payload : List ℕ) (udp : UdpRepr) (bytes : List ℕ) (s s' : Socket)
      → Came caps ip payload → IsDatagram caps (upper_header ip payload) (upper_payload ip payload) udp bytes → accepts_datagram cx s ip udp ≡ true
      → TakesDatagram cx ip udp bytes s s' → W s → Z s'
  pub segment : (caps : ChecksumCapabilities) (cx : ContextValue) (ip : IpRepr) (payload : List ℕ) (header : TcpHeader) (bytes : List ℕ) (s : Socket)
      → Came caps ip payload → IsSegment caps (upper_header ip payload) (upper_payload ip payload) header bytes
      → accepts_segment s ip header ≡ true → W s → Z (with_segment cx ip header bytes s)

-- what a poll may do to a socket keeps it
pub record IsOfPolls (Came : ChecksumCapabilities → IpRepr → List ℕ → Type 0) (W : Socket → Type 0) : Type 0 where
  pub offers : (cx : ContextValue) (s offered : Socket) (answer : Answer.Offer) (sent : Bool) → Offers cx s answer offered → W s → W (settled sent offered)
  pub arrives : IsOfArrivals Came W W

module _ (Came : ChecksumCapabilities → IpRepr → List ℕ → Type 0) (F : Type 0) (W Z : Socket → Type 0) (law : IsOfArrivals Came W Z) (n : ℕ) where
  abbrev Holds : Slots → Type 0
  Holds slots = AtOr F W slots n

  -- it holds then
  abbrev Then : Slots → Type 0
  Then slots = AtOr F Z slots n

  stays : (slots : Slots) → Holds slots → Then slots
  stays slots holds = at_so F W Z law.same slots n holds

  pub packets : (ip : IpRepr) (payload : List ℕ) (slots : Slots) → Holds slots → Holds (packet_delivered ip payload slots)
  packets ip payload slots holds = all_hold F W W (λ s w. w) (λ s. accepts_packet s ip) (with_packet ip payload) (law.packet ip payload) slots n holds

  messages_v4 : (ip : IpRepr) (message : Icmpv4Header) (bytes : List ℕ) (slots : Slots) → Holds slots → Then (control_v4_slots ip message bytes slots)
  messages_v4 (Ip.Ipv4 header) message bytes slots holds =
      all_hold F W Z law.same (λ s. accepts_icmpv4 s (Address.Ipv4 header.dst_addr) message bytes) (with_icmpv4 header message bytes)
      (law.icmpv4 header message bytes) slots n holds
  messages_v4 (Ip.Ipv6 header) message bytes slots holds = stays slots holds

  messages_v6 : (ip : IpRepr) (message : MessageValue) (bytes : List ℕ) (slots : Slots) → Holds slots → Then (control_v6_slots ip message bytes slots)
  messages_v6 (Ip.Ipv4 header) message bytes slots holds = stays slots holds
  messages_v6 (Ip.Ipv6 header) message bytes slots holds =
      all_hold F W Z law.same (λ s. accepts_icmpv6 s (Address.Ipv6 header.dst_addr) message bytes) (with_icmpv6 header message bytes)
      (law.icmpv6 header message bytes) slots n holds

  -- DATAGRAMS AND SEGMENTS

  module _ (caps : ChecksumCapabilities) (ip : IpRepr) (payload : List ℕ) (came : Came caps ip payload) (cx : ContextValue) (slots : Slots)
      (holds : Holds slots) where
    datagram_in : (udp : UdpRepr) (bytes : List ℕ) → IsDatagram caps (upper_header ip payload) (upper_payload ip payload) udp bytes
        → (o o' : Option (Item Socket)) → passes_in (λ s. accepts_datagram cx s ip udp) o ≡ true → ItemTakes cx ip udp bytes o o' → ItemOr F W o
        → ItemOr F Z o'
    datagram_in udp bytes is None o' passing takes here = absurd (cc)
    datagram_in udp bytes is (Some item) o' passing takes here =
        subst (ItemOr F Z) (sym takes.2) (law.datagram caps cx ip payload udp bytes item.socket takes.0 came is passing takes.1 here)

    datagram_at : (udp : UdpRepr) (bytes : List ℕ) → IsDatagram caps (upper_header ip payload) (upper_payload ip payload) udp bytes → (o : Option ℕ)
        → datagram_slot cx ip udp slots ≡ o → (to : Slots) → GivenAt cx ip udp bytes o slots to → Then to
    datagram_at udp bytes is None at to given = subst Then (sym given) (stays slots holds)
    datagram_at udp bytes is (Some at) there to given =
        let first = position-Some (passes (λ s. accepts_datagram cx s ip udp)) slots at free there in
        let got : GivenIn cx ip udp bytes at (Some (get_or slots at free)) slots to =
        subst (λ (o : Option (SocketStorage Socket)). GivenIn cx ip udp bytes at o slots to) (slice_get-get_or slots at free first.0) given in
        subst Then (sym got.2)
        (put_holds F W Z law.same slots at n free got.0 (datagram_in udp bytes is (get_or slots at free).inner got.0.inner first.1 got.1) holds)

    segment_at : (header : TcpHeader) (bytes : List ℕ) → IsSegment caps (upper_header ip payload) (upper_payload ip payload) header bytes
        → (o : Option ℕ) → segment_slot ip header slots ≡ o
        → Then (changed_at (with_segment cx ip header bytes) o slots)
    segment_at header bytes is None at = stays slots holds
    segment_at header bytes is (Some at) there =
        let first = accepted_there ip header slots at free there in
        subst Then (sym (changed_here (with_segment cx ip header bytes) slots at (get_or slots at free) (slice_get-get_or slots at free first.0)))
        (set_holds F W Z law.same (λ s. accepts_segment s ip header) (with_segment cx ip header bytes)
        (λ s accepts w. law.segment caps cx ip payload header bytes s came is accepts w) slots at n free first.1 holds)

    segment_for : (nobody : Bool) (header : TcpHeader) (bytes : List ℕ) → IsSegment caps (upper_header ip payload) (upper_payload ip payload) header bytes
        → Then (if nobody then slots else segment_delivered cx ip header bytes slots)
    segment_for true header bytes is = stays slots holds
    segment_for false header bytes is = segment_at header bytes is (segment_slot ip header slots) refl

  pub handed : (i : InnerValue) (slots : Slots) (ip : IpRepr) (payload : List ℕ) (carried : Option PayloadValue) → Came i.checksums ip payload
      → IsCarriedContent i.checksums (upper_header ip payload) (upper_payload ip payload) carried → (to : Slots) → HandsTo i slots ip carried to
      → Holds slots → Then to
  handed i slots ip payload None came is to hands holds = subst Then (sym hands) (stays slots holds)
  handed i slots ip payload (Some (ControlV4 message bytes)) came is to hands holds = subst Then (sym hands) (messages_v4 ip message bytes slots holds)
  handed i slots ip payload (Some (ControlV6 message bytes)) came is to hands holds = subst Then (sym hands) (messages_v6 ip message bytes slots holds)
  handed i slots ip payload (Some (Bytes bytes)) came is to hands holds = subst Then (sym hands) (stays slots holds)
  handed i slots ip payload (Some (Datagram udp bytes)) came is to hands holds =
      datagram_at i.checksums ip payload came (context_of i) slots holds udp bytes is (datagram_slot (context_of i) ip udp slots) refl to hands
  handed i slots ip payload (Some (Segment header bytes)) came is to hands holds =
      subst Then (sym hands) (segment_for i.checksums ip payload came (context_of i) slots holds (names_no_endpoint i ip) header bytes is)

  -- PACKETS

  by_renewal : (i : InnerValue) (link : Option EthernetRepr) (sender : IpAddress) → (renewed_by i link sender).checksums ≡ i.checksums
  by_renewal i None sender = refl
  by_renewal i (Some link) sender = refl

  renewal_if : (direct : Bool) (i : InnerValue) (link : Option EthernetRepr) (sender : IpAddress) →
      (if direct then renewed_by i link sender else i).checksums ≡ i.checksums
  renewal_if true i link sender = by_renewal i link sender
  renewal_if false i link sender = refl

  same_checksums : (i : InnerValue) (link : Option EthernetRepr) (ip : IpRepr) → (renewed i link ip).checksums ≡ i.checksums
  same_checksums i link ip = renewal_if (is_direct i ip) i link (sender_of ip)

  hands : (i : InnerValue) (slots : Slots) (link : Option EthernetRepr) (ip : IpRepr) (payload : List ℕ) (a : Arrived) → Came i.checksums ip payload
      → Hands (renewed i link ip) (packet_delivered ip payload slots) ip payload (is_taken_raw ip slots) a → Holds slots → Then a.slots
  hands i slots link ip payload a came (carried, is, so) holds =
      handed (renewed i link ip) (packet_delivered ip payload slots) ip payload carried
      (subst (λ (caps : ChecksumCapabilities). Came caps ip payload) (sym (same_checksums i link ip)) came) is a.slots so.slots_are
      (packets ip payload slots holds)

  v4 : (ours : Bool) (i : InnerValue) (slots : Slots) (link : Option EthernetRepr) (ip : IpRepr) (payload : List ℕ) (a : Arrived)
      → (ours ≡ true → Came i.checksums ip payload) → ArrivesV4 ours i slots link ip payload a → Holds slots → Then a.slots
  v4 true i slots link ip payload a came is holds = hands i slots link ip payload a (came refl) is holds
  v4 false i slots link ip payload a came is holds = subst Then (sym is.slots_are) (stays (packet_delivered ip payload slots) (packets ip payload slots holds))

  v6 : (ours : Bool) (i : InnerValue) (slots : Slots) (link : Option EthernetRepr) (ip : IpRepr) (payload : List ℕ) (a : Arrived)
      → (ours ≡ true → Came i.checksums ip payload) → ArrivesV6 ours i slots link ip payload a → Holds slots → Then a.slots
  v6 true i slots link ip payload a came is holds = hands i slots link ip payload a (came refl) is holds
  v6 false i slots link ip payload a came is holds = subst Then (sym is.slots_are) (stays slots holds)

  -- what is whole after a frame arrives
  pub brings_holds : (i : InnerValue) (slots : Slots) (content : Option IncomingValue) (a : Arrived)
      → ((ip : IpRepr) (payload : List ℕ) → IsPacket content ip payload → is_for_us i (destination_of ip) ≡ true → Came i.checksums ip payload)
      → Brings i slots content a → Holds slots → Then a.slots
  brings_holds i slots None a came is holds = subst Then (sym is.slots_are) (stays slots holds)
  brings_holds i slots (Some (Arp link packet)) a came is holds = subst Then (sym is.slots_are) (stays slots holds)
  brings_holds i slots (Some (Ip4 link header fragment payload)) a came is holds =
      v4 (is_for_us i (Address.Ipv4 header.dst_addr)) i slots link (Ip.Ipv4 header) payload a (came (Ip.Ipv4 header) payload (refl, refl)) is holds
  brings_holds i slots (Some (Ip6 link header payload)) a came is holds =
      v6 (is_for_us i (Address.Ipv6 header.dst_addr)) i slots link (Ip.Ipv6 header) payload a (came (Ip.Ipv6 header) payload (refl, refl)) is holds
