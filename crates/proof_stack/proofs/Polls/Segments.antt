-- A segment goes from one host, and comes to a TCP socket of another.
use Rattle.std.proofs.Common.{◌≡◌, ℕ, suc, ◌==◌, ◌&&◌, ◌||◌, Bool, true, false, not, ◌⊎◌, inl, inr, ℤ, List, ◌++◌, Option, Some, None}
use Rattle.std.proofs.Common.{refl, sym, ap, ◌∙◌, subst}
use Rattle.std.specs.Prelude.{if◌then◌else◌, slice_get}
use Rattle.std.specs.List.{list_any}
use Rattle.std.proofs.lemmas.Bool.{and_parts, eqb-true}
use Rattle.net_base.specs.Device.{Move}
use Rattle.wire_address.specs.declared.hardware.HardwareAddress.{HardwareAddress}
use Rattle.wire_address.specs.declared.ip.IpAddress.{IpAddress}
use Rattle.wire_address.specs.declared.ip.IpProtocol.TheVariants as Protocol
use Rattle.wire_ip.specs.Ip.{destination_of, source_of}
use Rattle.wire_ip.specs.declared.ip.repr.IpRepr.{IpRepr}
use Rattle.wire_ip.specs.declared.ip.repr.IpRepr.TheVariants as Ip
use Rattle.ip_wire.specs.AddressTests.{is_same_address, is_unspecified}
use Rattle.ip_wire.specs.Tcp.{normal}
use Rattle.ip_wire.specs.TcpHeader.{TcpHeader}
use Rattle.ip_wire.specs.declared.ethernet.repr.EthernetRepr.{EthernetRepr}
use Rattle.socket_context.specs.WellFormed.{AreFields}
use Rattle.socket_datagram.specs.Offers.{HasPacket}
use Rattle.sockets.specs.Socket.{accepts_segment}
use Rattle.sockets.proofs.Connections.{said_packet}
use Rattle.tcp_state.specs.Endpoints.{addresses_in, is_bare, is_between, is_connected_by, local_of, pair_in, remote_of, takes_address}
use Rattle.tcp_state.specs.States.{is_listening}
use Rattle.tcp_state.specs.declared.endpoints.FourTuple.{FourTuple}
use Rattle.tcp_state.specs.declared.offer.OpenOffer.{OpenOffer}
use Rattle.tcp_state.specs.declared.state.State.{State as TcpState}
use Rattle.tcp_state.specs.declared.state.State.TheVariants as In
use Rattle.tcp_block.specs.Arrival.{arrives}
use Rattle.tcp_block.specs.Names.{accepts_in}
use Rattle.tcp_block.specs.Offers.{offer_of, packet_with}
use Rattle.tcp_block.specs.Settled.{settled}
use Rattle.tcp_block.specs.Value.{TcpValue}
use Rattle.tcp_block.specs.declared.tcb.Tcb.{Tcb}
use Rattle.tcp_invariants.proofs.ReadRules.{offers_read}
use Rattle.tcp_refinement.specs.Endpoints.{CameBetween}
use Rattle.iface_ingress.specs.Context.{ContextValue}
use Rattle.iface_ingress.specs.Delivered.{Slots, changed_at, changed_in, first_slot, is_connected, is_listener, passes, passes_in}
use Rattle.iface_ingress.specs.Delivered.{packet_delivered, segment_delivered, segment_slot, with_change, with_segment}
use Rattle.iface_ingress.specs.Processed.{is_for_many, names_no_endpoint, segment_slots}
use Rattle.iface_ingress.specs.Offer as Answer
use Rattle.iface_ingress.specs.Offer.TheVariants as Offer
use Rattle.iface_ingress.specs.Packet.{PacketValue, PayloadValue, Segment, packet_of, payload_written}
use Rattle.iface_ingress.specs.Arrives.{renewed}
use Rattle.iface_ingress.specs.Sent.{CanBeRead, ether_for}
use Rattle.iface_ingress.specs.Socket.{Socket}
use Rattle.iface_ingress.specs.Socket.TheVariants as Kind
use Rattle.iface_ingress.specs.Sockets as Sockets
use Rattle.iface_ingress.specs.Upper.{IsBrought}
use Rattle.iface_ingress.specs.WellFormed.{IsWellFormed}
use Rattle.iface_tables.specs.Inner.{InnerValue, at_instant, context_of, is_for_us}
use Rattle.iface_tables.specs.Reassembly.{or_else}
use Rattle.iface_egress.specs.IsTransmitted.{numbered}
use Rattle.iface_egress.specs.Set.{unmarked}
use Rattle.iface_egress.specs.declared.socket_meta.Meta.{Meta}
use Rattle.iface_egress.specs.declared.socket_set.Item.{Item}
use Rattle.iface_egress.specs.declared.socket_set.SocketStorage.{SocketStorage}
use Rattle.interface.specs.Delivered.{link_of}
use Rattle.interface.specs.Egress.{EgressStep}
use Rattle.interface.specs.Ingress.{IngressStep}
use Rattle.interface.specs.Polls.{Repeats}
use Rattle.interface.specs.Remote.{context_for}
use Rattle.interface.specs.State.{State}
use Rattle.interface.specs.TransmittedFrame.{CanRead, HasWidths}
use Rattle.lan.proofs.Worlds.Moves.Protocols.{offered_names}
use Rattle.proof_stack.specs.Progress.NeighborResolution.{IsNext}
use Rattle.proof_stack.specs.Progress.Delivered.{Brings, ArrivesNext, RefusesNothing, reader_of}
use Rattle.proof_stack.specs.Progress.Moves.{is_refused}
use Rattle.proof_stack.specs.Progress.Queued.{GoesInTurn, frame_under, with_ident}
use Rattle.proof_stack.specs.Progress.Segments.{CanTransmit, HasComeTo, IsAwaited, IsItsTurn, LeavesAtOnce, OffersSegment, WentBy, asked_by, tcp_slot}
use Rattle.proof_stack.proofs.Polls.AnyLeave.{OffersOnly}
use Rattle.proof_stack.proofs.Polls.Delivered.{as_read, same_destination, same_position, same_source, taken_in}
use Rattle.proof_stack.proofs.Polls.First.{same_address}
use Rattle.proof_stack.proofs.Polls.Goes.{offer_goes}
use Rattle.proof_stack.proofs.Polls.InTurn.{now_goes}
use Rattle.proof_stack.proofs.Polls.Reached.{get_set, hands_over, no_fragment, same_context, same_names, same_segment_slot, stands_still}
use Rattle.proof_stack.proofs.Polls.Readers.{brings, packet_read}

-- WHAT THE SOCKET OFFERS

-- the header of the segment that a packet carries
abbrev header_in : PayloadValue → TcpHeader → TcpHeader
header_in (Segment header bytes) none = header
header_in other none = none

abbrev header_of : Option PacketValue → TcpHeader → TcpHeader
header_of None none = none
header_of (Some p) none = header_in p.payload none

of_packet : (o : Option OpenOffer) (queue : List ℕ) (ip : IpRepr) (header : TcpHeader) (bytes : List ℕ)
    → packet_with o queue ≡ Some (packet_of ip (Segment header bytes)) → (x : OpenOffer) × (o ≡ Some x) × (x.segment ≡ header)
of_packet None queue ip header bytes is = absurd (cc)
of_packet (Some o) queue ip header bytes is = (o, refl, ap (λ (p : Option PacketValue). header_of p header) is)

module _ (i : InnerValue) (v : TcpValue) (ip : IpRepr) (header : TcpHeader) (bytes : List ℕ) (offers : OffersSegment i v ip header bytes) where
  abbrev cx : ContextValue
  cx = context_for i (Kind.Tcp v)

  abbrev packet : PacketValue
  packet = packet_of ip (Segment header bytes)

  abbrev OffersIt : Bool → Answer.Offer → Socket → Type 0
  OffersIt says answer s = (answer ≡ Offer.Packet says) × (s ≡ Kind.Tcp (asked_by i v))

  asked : (says : Bool) → (offer_of cx v).answer ≡ Offer.Packet says → (answer : Answer.Offer) (s : Socket) → Sockets.Offers cx (Kind.Tcp v) answer s
      → OffersIt says answer s
  asked says is answer (Kind.Tcp w) given = (given.0 ∙ is, ap (λ (x : TcpValue). Kind.Tcp x) given.1)
  asked says is answer (Kind.Raw w) given = absurd given
  asked says is answer (Kind.Icmp w) given = absurd given
  asked says is answer (Kind.Udp w) given = absurd given
  asked says is answer (Kind.Dhcpv4 w) given = absurd given
  asked says is answer (Kind.Dns w) given = absurd given

  -- it says so
  said : (answer : Answer.Offer) → (offer_of cx v).answer ≡ answer → HasPacket answer (Some packet)
      → (says : Bool) × OffersOnly i (Kind.Tcp v) says (Kind.Tcp (asked_by i v)) packet
  said (Offer.Packet says) is has = (says, record { asked = asked says is; packet = offers.offers })
  said (Offer.Silent says) is has = absurd has

  pub offers_only : (says : Bool) × OffersOnly i (Kind.Tcp v) says (Kind.Tcp (asked_by i v)) packet
  offers_only =
      said (offer_of cx v).answer refl
      (subst (HasPacket (offer_of cx v).answer) offers.offers (said_packet cx v (asked_by i v) (offer_of cx v).answer refl refl))

  -- A READER MAKES THE SAME HEADER OF IT

  pub as_written : normal header ≡ header
  as_written =
      let from = of_packet (asked_by i v).offered (asked_by i v).queued.queue ip header bytes offers.offers in
      subst (λ (h : TcpHeader). normal h ≡ h) from.2 (offers_read cx v from.0 from.1)

  pub can_be_read : IsWellFormed packet → CanBeRead ip (Segment header bytes)
  can_be_read formed =
      let fields : AreFields header = formed.payload in (
        offered_names cx (Kind.Tcp v) (Kind.Tcp (asked_by i v)) (offer_of cx v).answer packet (refl, refl) offers.offers,
        record {
          source_port = fields.source_port;
          destination_port = fields.destination_port;
          source_accepted = offers.source_port;
          destination_accepted = offers.destination_port;
          sequence = fields.sequence;
          acknowledgement = fields.acknowledgement;
          window = fields.window;
          options = fields.options;
        },
      )

-- BEHIND ANY HEADER BETWEEN THE SAME ADDRESSES A SEGMENT IS FOR THE SAME SOCKETS

pub in_place : (test test' : Socket → Bool) → ((s : Socket) → test s ≡ test' s) → (p : SocketStorage Socket) → passes test p ≡ passes test' p
in_place test test' same p = by p.inner where
  by : (o : Option (Item Socket)) → passes_in test o ≡ passes_in test' o
  by None = refl
  by (Some item) = same item.socket

-- a segment that is for a connection goes between its endpoints
pub came_between : (pair : FourTuple) (ip : IpRepr) (header : TcpHeader) → is_between pair ip header ≡ true → CameBetween pair ip header
came_between pair ip header is =
    let ends = and_parts (is_same_address (local_of pair.addresses) (destination_of ip)) _ is in
    let more = and_parts (is_same_address (remote_of pair.addresses) (source_of ip)) _ ends.1 in
    let ports = and_parts (pair.local_port == header.dst_port) (pair.remote_port == header.src_port) more.1 in
    record {
      source = sym (same_address (remote_of pair.addresses) (source_of ip) more.0);
      destination = sym (same_address (local_of pair.addresses) (destination_of ip) ends.0);
      source_port = sym (eqb-true pair.remote_port header.src_port ports.1);
      destination_port = sym (eqb-true pair.local_port header.dst_port ports.0);
    }

-- between the same endpoints it is for the same connections
module _ (a : IpRepr) (first : TcpHeader) (b : IpRepr) (other : TcpHeader) (came : CameBetween (pair_in a first) b other) where
  source_alike : source_of b ≡ source_of a
  source_alike = came.source ∙ by a where
    by : (h : IpRepr) → remote_of (addresses_in h) ≡ source_of h
    by (Ip.Ipv4 v) = refl
    by (Ip.Ipv6 v) = refl

  destination_alike : destination_of b ≡ destination_of a
  destination_alike = came.destination ∙ by a where
    by : (h : IpRepr) → local_of (addresses_in h) ≡ destination_of h
    by (Ip.Ipv4 v) = refl
    by (Ip.Ipv6 v) = refl

  between_alike : (pair : FourTuple) → is_between pair b other ≡ is_between pair a first
  between_alike pair k =
      is_same_address (local_of pair.addresses) (destination_alike k) && (is_same_address (remote_of pair.addresses) (source_alike k)
      && ((pair.local_port == came.destination_port k) && (pair.remote_port == came.source_port k)))

  pair_alike : (o : Option FourTuple) → is_connected_by o b other ≡ is_connected_by o a first
  pair_alike None = refl
  pair_alike (Some pair) = between_alike pair

  state_alike : (state : TcpState) (x : Tcb) → (not (is_listening state) && accepts_in state x b other) ≡ (not (is_listening state) && accepts_in state x a first)
  state_alike In.Closed x = refl
  state_alike In.Listen x = refl
  state_alike In.SynSent x = pair_alike x.names.pair
  state_alike In.SynReceived x = pair_alike x.names.pair
  state_alike In.Established x = pair_alike x.names.pair
  state_alike In.FinWait1 x = pair_alike x.names.pair
  state_alike In.FinWait2 x = pair_alike x.names.pair
  state_alike In.CloseWait x = pair_alike x.names.pair
  state_alike In.Closing x = pair_alike x.names.pair
  state_alike In.LastAck x = pair_alike x.names.pair
  state_alike In.TimeWait x = pair_alike x.names.pair

  pub alike_connected : (s : Socket) → is_connected s a first ≡ is_connected s b other
  alike_connected (Kind.Tcp v) = sym (state_alike v.tcb.state v.tcb)
  alike_connected (Kind.Raw v) = refl
  alike_connected (Kind.Icmp v) = refl
  alike_connected (Kind.Udp v) = refl
  alike_connected (Kind.Dhcpv4 v) = refl
  alike_connected (Kind.Dns v) = refl

module _ (a b : IpRepr) (source : source_of a ≡ source_of b) (destination : destination_of a ≡ destination_of b) (header : TcpHeader) where
  between_same : (pair : FourTuple) → is_between pair a header ≡ is_between pair b header
  between_same pair k =
      is_same_address (local_of pair.addresses) (destination k) && (is_same_address (remote_of pair.addresses) (source k)
      && ((pair.local_port == header.dst_port) && (pair.remote_port == header.src_port)))

  connected_same : (o : Option FourTuple) → is_connected_by o a header ≡ is_connected_by o b header
  connected_same None = refl
  connected_same (Some pair) = between_same pair

  listener_same : (x : Tcb) → accepts_in In.Listen x a header ≡ accepts_in In.Listen x b header
  listener_same x k =
      (x.names.listen.port == header.dst_port)
      && (takes_address x.names.listen.addr (destination k) && is_bare header.ack_number header.control)

  accepts_same : (state : TcpState) (x : Tcb) → accepts_in state x a header ≡ accepts_in state x b header
  accepts_same In.Closed x = refl
  accepts_same In.Listen x = listener_same x
  accepts_same In.SynSent x = connected_same x.names.pair
  accepts_same In.SynReceived x = connected_same x.names.pair
  accepts_same In.Established x = connected_same x.names.pair
  accepts_same In.FinWait1 x = connected_same x.names.pair
  accepts_same In.FinWait2 x = connected_same x.names.pair
  accepts_same In.CloseWait x = connected_same x.names.pair
  accepts_same In.Closing x = connected_same x.names.pair
  accepts_same In.LastAck x = connected_same x.names.pair
  accepts_same In.TimeWait x = connected_same x.names.pair

  taken_same : (s : Socket) → accepts_segment s a header ≡ accepts_segment s b header
  taken_same (Kind.Tcp v) = accepts_same v.tcb.state v.tcb
  taken_same (Kind.Raw v) = refl
  taken_same (Kind.Icmp v) = refl
  taken_same (Kind.Udp v) = refl
  taken_same (Kind.Dhcpv4 v) = refl
  taken_same (Kind.Dns v) = refl

  pub named_same : (i : InnerValue) → names_no_endpoint i a ≡ names_no_endpoint i b
  named_same i k = is_unspecified (source k) || (is_unspecified (destination k) || is_for_many i (destination k))

  first_same : (test test' : Socket → Bool) → ((s : Socket) → test s ≡ test' s) → (ps : Slots) → first_slot test ps ≡ first_slot test' ps
  first_same test test' same ps = same_position (passes test) (passes test') (in_place test test' same) ps

  pub slot_same : (ps : Slots) → segment_slot a header ps ≡ segment_slot b header ps
  slot_same ps =
      ap (λ (o : Option ℕ). or_else o (first_slot (λ s. accepts_segment s a header) ps))
      (first_same (λ s. is_connected s a header) (λ s. is_connected s b header)
      (λ s. ap (λ (accepted : Bool). not (is_listener s) && accepted) (taken_same s)) ps)
      ∙ ap (λ (o : Option ℕ). or_else (first_slot (λ s. is_connected s b header) ps) o)
      (first_same (λ s. accepts_segment s a header) (λ s. accepts_segment s b header) taken_same ps)

-- THE SOCKET GETS IT

gets : (i : InnerValue) (ps : Slots) (ip : IpRepr) (header : TcpHeader) (bytes : List ℕ) (m : ℕ) (meta : Meta) (w : TcpValue)
    → names_no_endpoint i ip ≡ false → segment_slot ip header ps ≡ Some m → slice_get ps m ≡ Some (tcp_slot meta w)
    → slice_get (segment_slots i ps ip header bytes) m ≡ Some (tcp_slot meta (arrives (context_of i) w ip header bytes).socket)
gets i ps ip header bytes m meta w named slot stands =
    let change : Socket → Socket = with_segment (context_of i) ip header bytes in
    ap (λ (nobody : Bool). slice_get (if nobody then ps else segment_delivered (context_of i) ip header bytes ps) m) named
    ∙ ap (λ (o : Option ℕ). slice_get (changed_at change o ps) m) slot
    ∙ ap (λ (o : Option (SocketStorage Socket)). slice_get (changed_in change (Some m) o ps) m) stands
    ∙ get_set ps m (tcp_slot meta w) (with_change change (tcp_slot meta w)) stands

-- IT IS READ

module _ {E : Type 0} (moves : E → Move → E → Type 0) (i : InnerValue) (u : ℤ) (r r' : State E) (m : ℕ) (w : TcpValue) (meta : Meta) (v : TcpValue)
    (ip : IpRepr) (header : TcpHeader) (bytes : List ℕ) (offers : OffersSegment i v ip header bytes) (to : HardwareAddress)
    (can : CanTransmit i to (packet_of ip (Segment header bytes))) (formed : IsWellFormed (packet_of ip (Segment header bytes)))
    (reads : CanRead i to (reader_of r.host.inner)) (ident : ℕ) (wide : HasWidths (with_ident i ident)) (padding : List ℕ) where
  abbrev p : PacketValue
  p = packet_of ip (Segment header bytes)

  abbrev then_host : InnerValue
  then_host = with_ident i ident

  abbrev there : InnerValue
  there = at_instant u r.host.inner

  abbrev read : IpRepr
  read = as_read then_host ip

  abbrev payload : List ℕ
  payload = payload_written i.checksums (numbered then_host p).header p.payload

  abbrev link : Option EthernetRepr
  link = link_of i.hardware to (ether_for (numbered then_host p).header)

  pub carries : IsBrought there.checksums read payload (Some (Segment header bytes))
  carries =
      subst (λ (h : TcpHeader). IsBrought there.checksums read payload (Some (Segment h bytes))) (as_written i v ip header bytes offers)
      (brings i ident to p (reader_of r.host.inner) wide can formed reads (can_be_read i v ip header bytes offers formed))

  pub comes : IsNext moves u r.device (frame_under i ident to p ++ padding) → IngressStep moves u r (Some true) r'
      → IsAwaited there r.slots to ip header m meta w → HasComeTo there r'.slots ip header bytes m meta w
  comes next step expected = record {
    read = read;
    source = same_source then_host ip;
    destination = same_destination then_host ip;
    stands = ap (λ (ps : Slots). slice_get ps m) handed
        ∙ gets (renewed there link read) (packet_delivered read payload r.slots) read header bytes m meta w
        (same_names there link read ∙ named_same read ip (same_source then_host ip) (same_destination then_host ip) header there ∙ expected.named)
        (same_segment_slot read payload header r.slots
        ∙ slot_same read ip (same_source then_host ip) (same_destination then_host ip) header r.slots ∙ expected.slot)
        (stands_still read payload r.slots m meta (Kind.Tcp w) (λ x same. cc) expected.stands)
        ∙ ap (λ (c : ContextValue). Some (tcp_slot meta (arrives c w read header bytes).socket)) (same_context there link read);
  }
    where
      handed : r'.slots ≡ segment_slots (renewed there link read) (packet_delivered read payload r.slots) read header bytes
      handed =
          hands_over moves u r r' (frame_under i ident to p ++ padding) link read payload (Segment header bytes) carries next
          (packet_read i ident to p (reader_of r.host.inner) wide can formed reads padding)
          (no_fragment read payload Protocol.Tcp carries.protocol (λ same. cc))
          (taken_in then_host there i.hardware to ip payload expected.heard expected.framed expected.sender expected.here)
          (ap (λ (a : IpAddress). is_for_us there a) (same_destination then_host ip) ∙ expected.ours) step

-- IT GOES

pub goes : {D : Type 0} (out : D → Move → D → Type 0) (t : ℤ) (s s' : State D) (answer : Option Bool) (n : ℕ) (v : TcpValue) (ip : IpRepr)
    (header : TcpHeader) (bytes : List ℕ) (to : HardwareAddress) → IsItsTurn (at_instant t s.host.inner) s.slots n (Kind.Tcp v)
    → OffersSegment (at_instant t s.host.inner) v ip header bytes → CanTransmit (at_instant t s.host.inner) to (packet_of ip (Segment header bytes))
    → EgressStep out t s answer s'
    → LeavesAtOnce out (at_instant t s.host.inner) n (Kind.Tcp (asked_by (at_instant t s.host.inner) v)) to (packet_of ip (Segment header bytes)) s.device
    s'.device answer s'.slots
goes out t s s' answer n v ip header bytes to turn offers can step =
    let only = offers_only (at_instant t s.host.inner) v ip header bytes offers in
    offer_goes out t s s' answer n (Kind.Tcp v) (Kind.Tcp (asked_by (at_instant t s.host.inner) v)) only.0 to (packet_of ip (Segment header bytes)) turn only.1
    can step

-- so in the egress path of a poll
pub proceeds_the_way : {D : Type 0} (out : D → Move → D → Type 0) (t : ℤ) (budget : ℕ) (s s' : State D) (before changed : Bool) (n : ℕ) (v : TcpValue)
    (ip : IpRepr) (header : TcpHeader) (bytes : List ℕ) (to : HardwareAddress) → IsItsTurn (at_instant t s.host.inner) s.slots n (Kind.Tcp v)
    → OffersSegment (at_instant t s.host.inner) v ip header bytes → CanTransmit (at_instant t s.host.inner) to (packet_of ip (Segment header bytes))
    → Repeats (EgressStep out t) (suc budget) s before s' changed
    → GoesInTurn out (at_instant t s.host.inner) to (packet_of ip (Segment header bytes)) s.device s'.device
proceeds_the_way out t budget s s' before changed n v ip header bytes to turn offers can steps =
    let only = offers_only (at_instant t s.host.inner) v ip header bytes offers in
    now_goes out t n to (packet_of ip (Segment header bytes)) budget s s' before changed (Kind.Tcp v) (Kind.Tcp (asked_by (at_instant t s.host.inner) v)) only.0
    turn only.1 can steps

-- where the device refuses nothing, its socket is told so
pub settles : {D : Type 0} (out : D → Move → D → Type 0) (t : ℤ) (s s' : State D) (answer : Option Bool) (n : ℕ) (v : TcpValue) (ip : IpRepr)
    (header : TcpHeader) (bytes : List ℕ) (to : HardwareAddress) → IsItsTurn (at_instant t s.host.inner) s.slots n (Kind.Tcp v)
    → OffersSegment (at_instant t s.host.inner) v ip header bytes → CanTransmit (at_instant t s.host.inner) to (packet_of ip (Segment header bytes))
    → EgressStep out t s answer s' → RefusesNothing out s.device s'.device
    → slice_get s'.slots n ≡ Some (unmarked (Kind.Tcp (settled true (asked_by (at_instant t s.host.inner) v))))
settles out t s s' answer n v ip header bytes to turn offers can step freely = by left.what where
  left : LeavesAtOnce out (at_instant t s.host.inner) n (Kind.Tcp (asked_by (at_instant t s.host.inner) v)) to (packet_of ip (Segment header bytes)) s.device
      s'.device answer s'.slots
  left = goes out t s s' answer n v ip header bytes to turn offers can step

  by : (list_any is_refused left.all ≡ true)
      ⊎ WentBy (at_instant t s.host.inner) n (Kind.Tcp (asked_by (at_instant t s.host.inner) v)) to (packet_of ip (Segment header bytes)) left.all answer s'.slots
      → slice_get s'.slots n ≡ Some (unmarked (Kind.Tcp (settled true (asked_by (at_instant t s.host.inner) v))))
  by (inl refused) = absurd (let clash : true ≡ false = sym refused ∙ freely left.all left.are in cc)
  by (inr went) = went.stands

pub arrives_then : {D E : Type 0} (out : D → Move → D → Type 0) (back : E → Move → E → Type 0) (t u : ℤ) (s s' : State D) (r r' : State E)
    (answer : Option Bool) (n m : ℕ) (v w : TcpValue) (ip : IpRepr) (header : TcpHeader) (bytes : List ℕ) (to : HardwareAddress) (meta : Meta)
    → HasWidths (at_instant t s.host.inner) → IsItsTurn (at_instant t s.host.inner) s.slots n (Kind.Tcp v)
    → OffersSegment (at_instant t s.host.inner) v ip header bytes → CanTransmit (at_instant t s.host.inner) to (packet_of ip (Segment header bytes))
    → EgressStep out t s answer s' → RefusesNothing out s.device s'.device
    → Brings out back (at_instant t s.host.inner) to (packet_of ip (Segment header bytes)) s.device s'.device u r.device
    → CanRead (at_instant t s.host.inner) to (reader_of r.host.inner) → IsAwaited (at_instant u r.host.inner) r.slots to ip header m meta w
    → IngressStep back u r (Some true) r' → HasComeTo (at_instant u r.host.inner) r'.slots ip header bytes m meta w
arrives_then {D} {E} out back t u s s' r r' answer n m v w ip header bytes to meta wide turn offers can step freely brings reads expected taken = by left.what
  where
    left : LeavesAtOnce out (at_instant t s.host.inner) n (Kind.Tcp (asked_by (at_instant t s.host.inner) v)) to
        (packet_of ip (Segment header bytes)) s.device s'.device answer s'.slots
    left = goes out t s s' answer n v ip header bytes to turn offers can step

    by : (list_any is_refused left.all ≡ true) ⊎ WentBy (at_instant t s.host.inner) n (Kind.Tcp (asked_by (at_instant t s.host.inner) v)) to
        (packet_of ip (Segment header bytes)) left.all answer s'.slots
        → HasComeTo (at_instant u r.host.inner) r'.slots ip header bytes m meta w
    by (inl refused) = absurd (let clash : true ≡ false = sym refused ∙ freely left.all left.are in cc)
    by (inr went) =
        let next : ArrivesNext back u r.device (at_instant t s.host.inner) to (packet_of ip (Segment header bytes)) left.all =
        brings left.all left.are (record { ident = went.sent.0; wide = went.wide wide.ident; sent = went.sent.1 }) in
        comes back (at_instant t s.host.inner) u r r' m w meta v ip header bytes offers to can went.formed reads next.went.ident
        (record { mtu = wide.mtu; ident = next.went.wide }) next.padding next.next taken expected
