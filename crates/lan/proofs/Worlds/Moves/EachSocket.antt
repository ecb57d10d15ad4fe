-- What each thing that a poll does to a socket keeps of it is kept of all sockets by a poll.
use Rattle.std.proofs.Common.{◌≡◌, ℕ, zero, suc, Bool, true, false, if◌then◌else◌, List, [], ◌∷◌, ◌++◌, Option, Some, None, refl, sym, ◌∙◌, subst}
use Rattle.std.specs.Prelude.{ℤ, slice_get, slice_set}
use Rattle.iface_ingress.specs.Icmpv4Header.{Icmpv4Header}
use Rattle.iface_ingress.specs.Icmpv6.{MessageValue}
use Rattle.iface_ingress.specs.IpAddress.TheVariants as Address
use Rattle.interface.specs.IpRepr.{IpRepr}
use Rattle.interface.specs.IpRepr.TheVariants as Ip
use Rattle.interface.specs.Ipv4Repr.{Ipv4Repr}
use Rattle.interface.specs.Ipv6Repr.{Ipv6Repr}
use Rattle.wire_tcp.specs.declared.header.TcpHeader.{TcpHeader}
use Rattle.interface.specs.UdpRepr.{UdpRepr}
use Rattle.iface_ingress.specs.EthernetRepr.{EthernetRepr}
use Rattle.sim_link.specs.ChecksumCapabilities.{ChecksumCapabilities}
use Rattle.sim_link.specs.Device.{Move}
use Rattle.sockets.specs.Context.{ContextValue}
use Rattle.sockets.specs.Packet.{PacketValue, PayloadValue, ControlV4, ControlV6, Bytes, Datagram, Segment}
use Rattle.sockets.specs.Offer as Answer
use Rattle.sockets.specs.Offer.TheVariants as Offer
use Rattle.sockets.specs.Socket.{Offers, offered_by, settled, accepts_packet, accepts_icmpv4, accepts_icmpv6}
use Rattle.sockets.specs.declared.socket.Socket.{Socket}
use Rattle.iface_tables.specs.Inner.{InnerValue, context_of, is_for_us}
use Rattle.iface_egress.specs.declared.socket_set.Item.{Item}
use Rattle.iface_egress.specs.declared.socket_set.SocketStorage.{SocketStorage}
use Rattle.iface_ingress.specs.Arrives.{Arrived, ArrivesV4, ArrivesV6, Brings, Hands, renewed}
use Rattle.iface_ingress.specs.UpperLayer.{IsSegment, IsCarriedContent}
use Rattle.iface_ingress.specs.Delivered.{with_change, given, all_given, changed_in, changed_at, with_packet, packet_delivered, is_taken_raw, with_icmpv4}
use Rattle.iface_ingress.specs.Delivered.{with_icmpv6, datagram_slot, with_segment, segment_slot, segment_delivered}
use Rattle.iface_ingress.specs.Datagrams.{TakesDatagram, ItemTakes, GivenIn, GivenAt}
use Rattle.iface_ingress.specs.Processed.{control_v4_slots, control_v6_slots, names_no_endpoint, HandsTo}
use Rattle.iface_ingress.specs.Incoming.{IncomingValue, Arp, Ip4, Ip6}
use Rattle.iface_ingress.specs.Upper.{upper_header, upper_payload}
use Rattle.interface.specs.Host.{Sender}
use Rattle.interface.specs.Ingress.{Takes}
use Rattle.interface.specs.Polls.{Polls}
use Rattle.interface.specs.State.{State}
use Rattle.interface.specs.Remote.{context_for}
use Rattle.interface.specs.Serve.{ItemTurns, TurnsIf, Answers, SendsBy, is_waiting, let_through, is_done}
use Rattle.interface.specs.declared.serve.Served.{Served}
use Rattle.iface_ingress.specs.IpAddress.{IpAddress}
use Rattle.interface.proofs.Kept.{IsKept}
use Rattle.interface.proofs.Keep.{polls_keep}
use Rattle.lan.specs.Worlds.Moves.Fit.{AreNamed}
use Rattle.lan.specs.Worlds.Moves.Raws.{OfItem, OfEach}
use Rattle.lan.proofs.Worlds.Moves.Slots.{Slots}

-- what a poll may do to a socket keeps it
pub record IsOfSockets (W : Socket → Type 0) : Type 0 where
  pub offers : (cx : ContextValue) (s s' : Socket) (answer : Answer.Offer) → Offers cx s answer s' → W s → W s'
  pub settles : (sent : Bool) (s : Socket) → W s → W (settled sent s)
  pub packet : (ip : IpRepr) (payload : List ℕ) (s : Socket) → W s → W (with_packet ip payload s)
  pub icmpv4 : (ip : Ipv4Repr) (message : Icmpv4Header) (bytes : List ℕ) (s : Socket) → W s → W (with_icmpv4 ip message bytes s)
  pub icmpv6 : (ip : Ipv6Repr) (message : MessageValue) (bytes : List ℕ) (s : Socket) → W s → W (with_icmpv6 ip message bytes s)
  pub datagram : (cx : ContextValue) (ip : IpRepr) (udp : UdpRepr) (bytes : List ℕ) (s s' : Socket) → TakesDatagram cx ip udp bytes s s' → W s → W s'
  pub segment : (cx : ContextValue) (ip : IpRepr) (header : TcpHeader) (bytes : List ℕ) (s : Socket) → AreNamed header.src_port header.dst_port → W s →
      W (with_segment cx ip header bytes s)

-- a segment that is read names both ports
pub segment_named : (caps : ChecksumCapabilities) (ip : IpRepr) (payload : List ℕ) (header : TcpHeader) (bytes : List ℕ) →
    IsSegment caps ip payload header bytes → AreNamed header.src_port header.dst_port
segment_named caps ip payload header bytes is =
    (λ zero. is.format.source_accepted (sym is.format.source_port ∙ zero), λ zero. is.format.destination_accepted (sym is.format.destination_port ∙ zero))

module _ (W : Socket → Type 0) where
  pub middle : (before after : Slots) (p : SocketStorage Socket) → OfEach W (before ++ p ∷ after) → OfItem W p.inner
  middle [] after p all = all.0
  middle (x ∷ before) after p all = middle before after p all.1

  exchanged : (before after : Slots) (p p' : SocketStorage Socket) → OfItem W p'.inner → OfEach W (before ++ p ∷ after) → OfEach W (before ++ p' ∷ after)
  exchanged [] after p p' new all = (new, all.1)
  exchanged (x ∷ before) after p p' new all = (all.0, exchanged before after p p' new all.1)

  pub found : (slots : Slots) (at : ℕ) (slot : SocketStorage Socket) → slice_get slots at ≡ Some slot → OfEach W slots → OfItem W slot.inner
  found [] zero slot is all = absurd (cc)
  found [] (suc at) slot is all = absurd (cc)
  found (p ∷ ps) zero slot is all = let same : p ≡ slot = cc in subst (λ (x : SocketStorage Socket). OfItem W x.inner) same all.0
  found (p ∷ ps) (suc at) slot is all = found ps at slot is all.1

  pub with_set : (slots : Slots) (at : ℕ) (slot : SocketStorage Socket) → OfItem W slot.inner → OfEach W slots → OfEach W (slice_set slots at slot)
  with_set [] zero slot new all = tt
  with_set [] (suc at) slot new all = tt
  with_set (p ∷ ps) zero slot new all = (new, all.1)
  with_set (p ∷ ps) (suc at) slot new all = (all.0, with_set ps at slot new all.1)

  module _ (change : Socket → Socket) (keeps : (s : Socket) → W s → W (change s)) where
    item_changed : (o : Option (Item Socket)) → OfItem W o → OfItem W (with_change change (record { inner = o })).inner
    item_changed None holds = tt
    item_changed (Some item) holds = keeps item.socket holds

    changed_by : (at : ℕ) (o : Option (SocketStorage Socket)) (slots : Slots) → slice_get slots at ≡ o → OfEach W slots →
        OfEach W (changed_in change (Some at) o slots)
    changed_by at None slots is all = all
    changed_by at (Some slot) slots is all = with_set slots at (with_change change slot) (item_changed slot.inner (found slots at slot is all)) all

    changed : (at : Option ℕ) (slots : Slots) → OfEach W slots → OfEach W (changed_at change at slots)
    changed None slots all = all
    changed (Some at) slots all = changed_by at (slice_get slots at) slots refl all

  module _ (test : Socket → Bool) (change : Socket → Socket) (keeps : (s : Socket) → W s → W (change s)) where
    given_so : (passing : Bool) (s : Socket) → W s → W (if passing then change s else s)
    given_so true s holds = keeps s holds
    given_so false s holds = holds

    all_so : (slots : Slots) → OfEach W slots → OfEach W (all_given test change slots)
    all_so [] all = tt
    all_so (p ∷ ps) all = (item_changed (given test change) (λ s holds. given_so (test s) s holds) p.inner all.0, all_so ps all.1)

  module _ (law : IsOfSockets W) where
    -- ARRIVALS

    packets : (ip : IpRepr) (payload : List ℕ) (slots : Slots) → OfEach W slots → OfEach W (packet_delivered ip payload slots)
    packets ip payload slots all = all_so (λ s. accepts_packet s ip) (with_packet ip payload) (law.packet ip payload) slots all

    messages : (ip : IpRepr) (message : Icmpv4Header) (bytes : List ℕ) (slots : Slots) → OfEach W slots →
        OfEach W (control_v4_slots ip message bytes slots)
    messages (Ip.Ipv4 header) message bytes slots all =
        all_so (λ s. accepts_icmpv4 s (Address.Ipv4 header.dst_addr) message bytes) (with_icmpv4 header message bytes)
        (law.icmpv4 header message bytes) slots all
    messages (Ip.Ipv6 header) message bytes slots all = all

    messages_v6 : (ip : IpRepr) (message : MessageValue) (bytes : List ℕ) (slots : Slots) → OfEach W slots →
        OfEach W (control_v6_slots ip message bytes slots)
    messages_v6 (Ip.Ipv4 header) message bytes slots all = all
    messages_v6 (Ip.Ipv6 header) message bytes slots all =
        all_so (λ s. accepts_icmpv6 s (Address.Ipv6 header.dst_addr) message bytes) (with_icmpv6 header message bytes)
        (law.icmpv6 header message bytes) slots all

    segments : (nobody : Bool) (cx : ContextValue) (ip : IpRepr) (header : TcpHeader) (bytes : List ℕ) (slots : Slots) →
        AreNamed header.src_port header.dst_port → OfEach W slots
        → OfEach W (if nobody then slots else segment_delivered cx ip header bytes slots)
    segments true cx ip header bytes slots named all = all
    segments false cx ip header bytes slots named all =
        changed (with_segment cx ip header bytes) (λ s holds. law.segment cx ip header bytes s named holds) (segment_slot ip header slots) slots all

    datagram_item : (cx : ContextValue) (ip : IpRepr) (udp : UdpRepr) (bytes : List ℕ) (o o' : Option (Item Socket)) → ItemTakes cx ip udp bytes o o' →
        OfItem W o → OfItem W o'
    datagram_item cx ip udp bytes None o' takes holds = subst (OfItem W) (sym takes) tt
    datagram_item cx ip udp bytes (Some item) o' takes holds =
        subst (OfItem W) (sym takes.2) (law.datagram cx ip udp bytes item.socket takes.0 takes.1 holds)

    datagram_in : (cx : ContextValue) (ip : IpRepr) (udp : UdpRepr) (bytes : List ℕ) (at : ℕ) (o : Option (SocketStorage Socket)) (slots qs : Slots) →
        slice_get slots at ≡ o → GivenIn cx ip udp bytes at o slots qs → OfEach W slots → OfEach W qs
    datagram_in cx ip udp bytes at None slots qs here given all = subst (OfEach W) (sym given) all
    datagram_in cx ip udp bytes at (Some slot) slots qs here given all =
        subst (OfEach W) (sym given.2) (with_set slots at given.0
        (datagram_item cx ip udp bytes slot.inner given.0.inner given.1 (found slots at slot here all)) all)

    datagrams : (cx : ContextValue) (ip : IpRepr) (udp : UdpRepr) (bytes : List ℕ) (at : Option ℕ) (slots qs : Slots) →
        GivenAt cx ip udp bytes at slots qs → OfEach W slots → OfEach W qs
    datagrams cx ip udp bytes None slots qs given all = subst (OfEach W) (sym given) all
    datagrams cx ip udp bytes (Some at) slots qs given all = datagram_in cx ip udp bytes at (slice_get slots at) slots qs refl given all

    handed : (caps : ChecksumCapabilities) (i : InnerValue) (slots : Slots) (ip upper : IpRepr) (payload : List ℕ) (carried : Option PayloadValue)
        (qs : Slots) → IsCarriedContent caps upper payload carried → HandsTo i slots ip carried qs → OfEach W slots → OfEach W qs
    handed caps i slots ip upper payload None qs is to all = subst (OfEach W) (sym to) all
    handed caps i slots ip upper payload (Some (ControlV4 message bytes)) qs is to all = subst (OfEach W) (sym to) (messages ip message bytes slots all)
    handed caps i slots ip upper payload (Some (ControlV6 message bytes)) qs is to all = subst (OfEach W) (sym to) (messages_v6 ip message bytes slots all)
    handed caps i slots ip upper payload (Some (Bytes bytes)) qs is to all = subst (OfEach W) (sym to) all
    handed caps i slots ip upper payload (Some (Datagram udp bytes)) qs is to all =
        datagrams (context_of i) ip udp bytes (datagram_slot (context_of i) ip udp slots) slots qs to all
    handed caps i slots ip upper payload (Some (Segment header bytes)) qs is to all =
        subst (OfEach W) (sym to)
        (segments (names_no_endpoint i ip) (context_of i) ip header bytes slots (segment_named caps upper payload header bytes is) all)

    hands : (i : InnerValue) (slots : Slots) (ip : IpRepr) (payload : List ℕ) (taken : Bool) (a : Arrived) → Hands i slots ip payload taken a →
        OfEach W slots → OfEach W a.slots
    hands i slots ip payload taken a (carried, is, so) all =
        handed i.checksums i slots ip (upper_header ip payload) (upper_payload ip payload) carried a.slots is so.slots_are all

    v4 : (ours : Bool) (i : InnerValue) (slots : Slots) (link : Option EthernetRepr) (ip : IpRepr) (payload : List ℕ) (a : Arrived) →
        ArrivesV4 ours i slots link ip payload a → OfEach W slots → OfEach W a.slots
    v4 true i slots link ip payload a is all =
        hands (renewed i link ip) (packet_delivered ip payload slots) ip payload (is_taken_raw ip slots) a is (packets ip payload slots all)
    v4 false i slots link ip payload a is all = subst (OfEach W) (sym is.slots_are) (packets ip payload slots all)

    v6 : (ours : Bool) (i : InnerValue) (slots : Slots) (link : Option EthernetRepr) (ip : IpRepr) (payload : List ℕ) (a : Arrived) →
        ArrivesV6 ours i slots link ip payload a → OfEach W slots → OfEach W a.slots
    v6 true i slots link ip payload a is all =
        hands (renewed i link ip) (packet_delivered ip payload slots) ip payload (is_taken_raw ip slots) a is (packets ip payload slots all)
    v6 false i slots link ip payload a is all = subst (OfEach W) (sym is.slots_are) all

    brings : (i : InnerValue) (slots : Slots) (content : Option IncomingValue) (a : Arrived) → Brings i slots content a → OfEach W slots → OfEach W a.slots
    brings i slots None a is all = subst (OfEach W) (sym is.slots_are) all
    brings i slots (Some (Arp link packet)) a is all = subst (OfEach W) (sym is.slots_are) all
    brings i slots (Some (Ip4 link header fragment payload)) a is all =
        v4 (is_for_us i (Address.Ipv4 header.dst_addr)) i slots link (Ip.Ipv4 header) payload a is all
    brings i slots (Some (Ip6 link header payload)) a is all = v6 (is_for_us i (Address.Ipv6 header.dst_addr)) i slots link (Ip.Ipv6 header) payload a is all

    module _ {D : Type 0} (moves : D → Move → D → Type 0) (t : ℤ) where
      takes : (s s' : State D) (answer : Option Bool) → OfEach W s.slots → Takes moves s answer s' → OfEach W s'.slots
      takes s s' None all is = subst (λ (x : State D). OfEach W x.slots) (sym is.1) all
      takes s s' (Some false) all is = subst (λ (x : State D). OfEach W x.slots) (sym is.3) all
      takes s s' (Some true) all (frame, mid, took, reads, (content, read, receives, hears)) =
          subst (OfEach W) (sym receives.2) (brings s.host.inner s.slots _ receives.0 receives.1.1 all)

      -- TURNS

      sends : (turn : Option IpAddress) (x x' : Sender D) (item item' : Item Socket) (changes : Bool) (turned : Served) (packet : Option PacketValue) →
          W item.socket → SendsBy moves turn packet x item changes turned x' item' → W item'.socket
      sends turn x x' item item' changes turned None holds is = absurd is
      sends turn x x' item item' changes turned (Some packet) holds is =
          subst (λ (i : Item Socket). W i.socket) (sym is.3.3) (law.settles (is_done is.3.0) item.socket holds)

      answers : (turn : Option IpAddress) (x x' : Sender D) (item item' : Item Socket) (answer : Answer.Offer) (turned : Served) → W item.socket →
          Answers moves turn answer x item turned x' item' → W item'.socket
      answers turn x x' item item' (Offer.Silent changes) turned holds is = subst (λ (i : Item Socket). W i.socket) (sym is.2) holds
      answers turn x x' item item' (Offer.Packet changes) turned holds is = sends turn x x' item item' changes turned (offered_by item.socket) holds is

      turns : (turn : Option IpAddress) (waits : Bool) (x x' : Sender D) (item item' : Item Socket) (turned : Served) → W item.socket →
          TurnsIf moves turn waits x (let_through x.inner item) turned x' item' → W item'.socket
      turns turn true x x' item item' turned holds is = subst (λ (i : Item Socket). W i.socket) (sym is.2) holds
      turns turn false x x' item item' turned holds (answer, offered, offers, is) =
          answers turn x x' (record (let_through x.inner item) { socket = offered }) item' answer turned
          (law.offers (context_for x.inner item.socket) item.socket offered answer offers holds) is

      items : (turn : Option IpAddress) (x x' : Sender D) (o o' : Option (Item Socket)) (turned : Served) → OfItem W o →
          ItemTurns moves turn o x turned x' o' → OfItem W o'
      items turn x x' None None turned holds is = tt
      items turn x x' (Some item) (Some item') turned holds is = turns turn (is_waiting x.inner item.meta) x x' item item' turned holds is
      items turn x x' None (Some item') turned holds is = absurd is
      items turn x x' (Some item) None turned holds is = absurd is

      pub kept : IsKept moves t (λ s. OfEach W s.slots)
      kept = record {
        maintenance = λ s all. all;
        arrivals = λ s s' answer runs all is. takes s s' answer all is;
        fragments = λ h ps x x' l gone runs is all leaves same. all;
        parked = λ h ps x x' went runs many all serves. all;
        turns = λ turn h before after p p' x x' turned runs all is.
            exchanged before after p p' (items turn x x' p.inner p'.inner turned (middle before after p all) is) all;
      }

      pub polls_of_each : (budget : ℕ) (s s' : State D) (changes : Bool) → OfEach W s.slots → Polls moves t budget s changes s' → OfEach W s'.slots
      polls_of_each budget s s' changes all polls = (polls_keep moves t (λ s. OfEach W s.slots) kept budget s s' changes all polls).0
