-- A datagram goes from one host, and waits at another.
use Rattle.std.proofs.Common.{◌≡◌, ◌≢◌, ℕ, ◌+◌, ◌<◌, ◌^◌, ◌==◌, ◌&&◌, Bool, true, false, not, ◌⊎◌, inl, inr, cond, ℤ, List, [], ◌∷◌, ◌++◌, length, Option, Some, None}
use Rattle.std.proofs.Common.{refl, sym, ap, ◌∙◌}
use Rattle.std.specs.Prelude.{slice_get, position, nat_lt}
use Rattle.std.specs.List.{list_any, AllByRecursion}
use Rattle.std.proofs.lemmas.Bool.{and_from, or_left}
use Rattle.net_base.specs.Device.{Move}
use Rattle.net_base.specs.Packets.{contents, is_full_for}
use Rattle.wire_address.specs.declared.ip.IpAddress.{IpAddress}
use Rattle.wire_address.specs.declared.ip.IpAddress.TheVariants as Address
use Rattle.ip_wire.specs.Ipv4Address.{Ipv4Address}
use Rattle.wire_address.specs.declared.ip.IpProtocol.TheVariants as Protocol
use Rattle.wire_address.specs.declared.hardware.HardwareAddress.{HardwareAddress}
use Rattle.wire_address.specs.declared.hardware.HardwareAddress.TheVariants as Hardware
use Rattle.wire_ip.specs.Ip as Ips
use Rattle.wire_ip.specs.Ip.{destination_of, source_of}
use Rattle.wire_ip.specs.declared.ip.repr.IpRepr.{IpRepr}
use Rattle.wire_ip.specs.declared.ip.repr.IpRepr.TheVariants as Ip
use Rattle.wire_ip.specs.declared.udp.repr.UdpRepr.{UdpRepr}
use Rattle.ip_wire.specs.AddressTests.{is_same_address}
use Rattle.ip_wire.specs.EthernetProtocol.{EthernetProtocol}
use Rattle.socket_datagram.specs.Header.{header_between, hop_limit_or_default}
use Rattle.sockets.specs.Socket.{accepts_datagram}
use Rattle.socket_datagram.specs.Udp.{UdpValue, UdpSettings, source_for, header_from, process_after, metadata_of}
use Rattle.socket_datagram.specs.declared.udp.UdpMetadata.{UdpMetadata}
use Rattle.socket_datagram.specs.DnsClient.Processed as Processed
use Rattle.socket_datagram.specs.declared.dns.state.State.TheVariants as Dns
use Rattle.iface_ingress.specs.Context.{ContextValue}
use Rattle.iface_ingress.specs.Delivered.{datagram_slot, passes, passes_in}
use Rattle.iface_ingress.specs.Packet.{PacketValue, payload_written}
use Rattle.iface_ingress.specs.Reassembled.{is_astray, is_misframed, passes_filter, is_sender, is_taken_in}
use Rattle.iface_ingress.specs.Sent.{ether_for, uncut}
use Rattle.iface_ingress.specs.Socket.{Socket}
use Rattle.iface_ingress.specs.Socket.TheVariants as Kind
use Rattle.iface_ingress.specs.WellFormed.{IsWellFormed}
use Rattle.iface_tables.specs.Inner.{InnerValue, at_instant, context_of, is_for_us}
use Rattle.iface_egress.specs.IsTransmitted.{numbered, numbered_header}
use Rattle.iface_egress.specs.declared.socket_meta.Meta.{Meta}
use Rattle.iface_egress.specs.declared.socket_set.Item.{Item}
use Rattle.iface_egress.specs.declared.socket_set.SocketStorage.{SocketStorage}
use Rattle.interface.specs.Delivered.{link_of}
use Rattle.interface.specs.Egress.{EgressStep}
use Rattle.interface.specs.Ingress.{IngressStep}
use Rattle.interface.specs.Polls.{Polls}
use Rattle.interface.specs.QuietPoll.{HasNoFrame}
use Rattle.interface.specs.State.{State}
use Rattle.interface.specs.TransmittedFrame.{CanRead, HasWidths}
use Rattle.proof_stack.specs.Progress.NeighborResolution.{IsNext}
use Rattle.proof_stack.specs.Progress.Delivered.{Brings, ArrivesNext, IsExpected, RefusesNothing, WaitsFollowing, as_received, hears, is_misframed_to, may_be_sender, reader_of}
use Rattle.proof_stack.specs.Progress.Moves.{AreMoves, is_refused}
use Rattle.proof_stack.specs.Progress.Queued.{CanGo, GoesAtOnce, GoesInTurn, HasTurn, HasWay, WentFrom, WentOut, ports_of, frame_under, with_ident}
use Rattle.proof_stack.specs.Progress.Reached.{IsFor, udp_slot}
use Rattle.proof_stack.proofs.Polls.Goes.{step_goes}
use Rattle.proof_stack.proofs.Polls.InTurn.{poll_goes}
use Rattle.proof_stack.proofs.Polls.Reached.{reached, waits_following}
use Rattle.proof_stack.proofs.Polls.Readers.{is_read, finds}

abbrev Slots : Type 0
Slots = List (SocketStorage Socket)

-- THE FIRST PLACE, BY TESTS THAT AGREE

pub same_position : (test test' : SocketStorage Socket → Bool) → ((p : SocketStorage Socket) → test p ≡ test' p) → (ps : Slots)
    → position test ps ≡ position test' ps
same_position test test' same ps k = position (λ p. same p k) ps

-- A HEADER AS IT IS READ has the addresses of the one that was queued

module _ (j : InnerValue) where
  abbrev pub as_read : IpRepr → IpRepr
  as_read h = Ips.normal (numbered_header j h)

  pub same_destination : (h : IpRepr) → destination_of (as_read h) ≡ destination_of h
  same_destination (Ip.Ipv4 v) = refl
  same_destination (Ip.Ipv6 v) = refl

  pub same_source : (h : IpRepr) → source_of (as_read h) ≡ source_of h
  same_source (Ip.Ipv4 v) = refl
  same_source (Ip.Ipv6 v) = refl

  module _ (cx : ContextValue) (udp : UdpRepr) where
    asked_by : (v : Rattle.socket_datagram.specs.declared.dns.state.State.State) (h : IpRepr)
        → Processed.accepts v (as_read h) udp ≡ Processed.accepts v h udp
    asked_by Dns.Idle h = refl
    asked_by (Dns.Pending q) h = server q.asked where
      server : (o : Option IpAddress) → Processed.is_from o q (as_read h) udp ≡ Processed.is_from o q h udp
      server None = refl
      server (Some a) = ap (λ (source : IpAddress). (udp.src_port == 53) && (udp.dst_port == q.port) && is_same_address a source) (same_source h)
    asked_by (Dns.Completed found) h = refl
    asked_by Dns.Failed h = refl
    asked_by Dns.Unanswered h = refl

    same_acceptance : (s : Socket) (h : IpRepr) → accepts_datagram cx s (as_read h) udp ≡ accepts_datagram cx s h udp
    same_acceptance (Kind.Udp v) (Ip.Ipv4 header) = refl
    same_acceptance (Kind.Udp v) (Ip.Ipv6 header) = refl
    same_acceptance (Kind.Dhcpv4 v) (Ip.Ipv4 header) = refl
    same_acceptance (Kind.Dhcpv4 v) (Ip.Ipv6 header) = refl
    same_acceptance (Kind.Dns v) h = asked_by v.state h
    same_acceptance (Kind.Raw v) h = refl
    same_acceptance (Kind.Icmp v) h = refl
    same_acceptance (Kind.Tcp v) h = refl

    same_slot : (h : IpRepr) (slots : Slots) → datagram_slot cx (as_read h) udp slots ≡ datagram_slot cx h udp slots
    same_slot h slots =
        same_position (passes (λ s. accepts_datagram cx s (as_read h) udp)) (passes (λ s. accepts_datagram cx s h udp)) (λ p. by p.inner) slots
      where
        by : (o : Option (Item Socket)) → passes_in (λ s. accepts_datagram cx s (as_read h) udp) o ≡ passes_in (λ s. accepts_datagram cx s h udp) o
        by None = refl
        by (Some item) = same_acceptance item.socket h

  -- what is heard and comes from one host is taken in
  heard_on : (i : InnerValue) (own to : HardwareAddress) (carried : EthernetProtocol) → hears i to ≡ true → passes_filter i (link_of own to carried) ≡ true
  heard_on i (Hardware.Ethernet from) (Hardware.Ethernet node) carried is = is
  heard_on i (Hardware.Ethernet from) Hardware.Ip carried is = refl
  heard_on i Hardware.Ip (Hardware.Ethernet node) carried is = refl
  heard_on i Hardware.Ip Hardware.Ip carried is = refl

  framed_on : (i : InnerValue) (own to : HardwareAddress) (carried : EthernetProtocol) (destination : Ipv4Address)
      → is_misframed_to i to (Address.Ipv4 destination) ≡ false → is_misframed i (link_of own to carried) destination ≡ false
  framed_on i (Hardware.Ethernet from) (Hardware.Ethernet node) carried destination is = is
  framed_on i (Hardware.Ethernet from) Hardware.Ip carried destination is = refl
  framed_on i Hardware.Ip (Hardware.Ethernet node) carried destination is = refl
  framed_on i Hardware.Ip Hardware.Ip carried destination is = refl

  pub taken_in : (i : InnerValue) (own to : HardwareAddress) (h : IpRepr) (payload : List ℕ) → hears i to ≡ true
      → is_misframed_to i to (destination_of h) ≡ false → may_be_sender i (source_of h) ≡ true
      → is_astray i (source_of h) (destination_of h) ≡ false → is_taken_in i (uncut (link_of own to (ether_for (numbered_header j h))) (as_read h) payload) ≡ true
  taken_in i own to (Ip.Ipv4 v) payload heard framed sender here =
      and_from (passes_filter i (link_of own to (ether_for (Ip.Ipv4 v))) && is_sender i v.src_addr
      && not (is_astray i (Address.Ipv4 v.src_addr) (Address.Ipv4 v.dst_addr))) _
      (and_from (passes_filter i (link_of own to (ether_for (Ip.Ipv4 v))) && is_sender i v.src_addr) _
      (and_from _ _ (heard_on i own to (ether_for (Ip.Ipv4 v)) heard) sender) (ap not here))
      (ap not (framed_on i own to (ether_for (Ip.Ipv4 v)) v.dst_addr framed))
  taken_in i own to (Ip.Ipv6 v) payload heard framed sender here =
      and_from _ _ (and_from _ _ (heard_on i own to (ether_for (Ip.Ipv6 v)) heard) (or_left _ _ sender)) (ap not here)

-- THE DESTINATION OF A DATAGRAM

abbrev no_header : Option IpRepr
no_header = None

module _ (to : IpAddress) where
  abbrev GoesTo : Option IpRepr → IpRepr → Type 0
  GoesTo o h = o ≡ Some h → destination_of h ≡ to

  none_goes : (h : IpRepr) → GoesTo None h
  none_goes h is = absurd (let never : no_header ≡ Some h = is in cc)

  some_goes : (k h : IpRepr) → destination_of k ≡ to → GoesTo (Some k) h
  some_goes k h there is = ap destination_of (sym (let same : Some k ≡ Some h = is in let at : k ≡ h = cc in at)) ∙ there

if_goes : (test : Bool) (to : IpAddress) (k h : IpRepr) → destination_of k ≡ to → GoesTo to (cond test (Some k) None) h
if_goes true to k h there = some_goes to k h there
if_goes false to k h there = none_goes to h

between : (source destination : IpAddress) (len limit : ℕ) (h : IpRepr) → GoesTo destination (header_between source destination Protocol.Udp len limit) h
between (Address.Ipv4 source) (Address.Ipv4 destination) len limit h =
    if_goes (nat_lt (20 + len) (2 ^ 16)) (Address.Ipv4 destination) (Ip.Ipv4 (record {
      src_addr = source;
      dst_addr = destination;
      next_header = Protocol.Udp;
      payload_len = len;
      hop_limit = limit;
      ident = 0;
      dont_frag = false;
    })) h refl
between (Address.Ipv6 source) (Address.Ipv6 destination) len limit h =
    if_goes (nat_lt len (2 ^ 16)) (Address.Ipv6 destination)
    (Ip.Ipv6 (record { src_addr = source; dst_addr = destination; next_header = Protocol.Udp; payload_len = len; hop_limit = limit })) h refl
between (Address.Ipv4 source) (Address.Ipv6 destination) len limit h = none_goes (Address.Ipv6 destination) h
between (Address.Ipv6 source) (Address.Ipv4 destination) len limit h = none_goes (Address.Ipv4 destination) h

from : (o : Option IpAddress) (settings : UdpSettings) (destination : IpAddress) (size : ℕ) (h : IpRepr)
    → GoesTo destination (header_from o settings destination size) h
from None settings destination size h = none_goes destination h
from (Some source) settings destination size h = between source destination (8 + size) (hop_limit_or_default settings.hop_limit) h

pub goes_to : (i : InnerValue) (settings : UdpSettings) (d : UdpMetadata × List ℕ) (to : HardwareAddress) (p : PacketValue) → CanGo i settings d to p
    → destination_of p.header ≡ d.0.endpoint.addr
goes_to i settings d to p can = from (source_for (context_of i) settings d.0) settings d.0.endpoint.addr (length d.1) p.header can.takes.0

-- IT IS READ

module _ {E : Type 0} (moves : E → Move → E → Type 0) (i : InnerValue) (u : ℤ) (r r' : State E) (m : ℕ) (w : UdpValue) (meta : Meta) (settings : UdpSettings)
    (d : UdpMetadata × List ℕ) (to : HardwareAddress) (p : PacketValue) (some : d.0.endpoint.port ≢ 0) (can : CanGo i settings d to p)
    (formed : IsWellFormed p) (reads : CanRead i to (reader_of r.host.inner))
    (expected : IsExpected (at_instant u r.host.inner) r.slots to p.header (ports_of settings d) m meta w)
    (room : is_full_for w.received (length d.1) ≡ false) (ident : ℕ) (wide : HasWidths (with_ident i ident)) (padding : List ℕ) where
  abbrev then_host : InnerValue
  then_host = with_ident i ident

  abbrev header : IpRepr
  header = as_read then_host p.header

  abbrev bytes : List ℕ
  bytes = payload_written i.checksums (numbered then_host p).header p.payload

  abbrev then_value : UdpValue
  then_value = process_after w header (ports_of settings d) d.1

  is_for : IsFor (at_instant u r.host.inner) r.slots (link_of i.hardware to (ether_for (numbered then_host p).header)) header bytes (ports_of settings d) d.1
      m meta w
  is_for = record {
    carries = finds i ident settings d to p (reader_of r.host.inner) wide can formed reads some;
    listens = taken_in then_host (at_instant u r.host.inner) i.hardware to p.header bytes expected.heard expected.framed expected.sender
        expected.here;
    ours = ap (λ (a : IpAddress). is_for_us (at_instant u r.host.inner) a) (same_destination then_host p.header) ∙ expected.ours;
    slot = same_slot then_host (context_of (at_instant u r.host.inner)) (ports_of settings d) p.header r.slots ∙ expected.slot;
    stands = expected.stands;
  }

  stands_then : IsNext moves u r.device (frame_under i ident to p ++ padding) → IngressStep moves u r (Some true) r'
      → slice_get r'.slots m ≡ Some (udp_slot meta then_value)
  stands_then next step =
      reached moves u r r' (frame_under i ident to p ++ padding) (link_of i.hardware to (ether_for (numbered then_host p).header)) header bytes
      (ports_of settings d) d.1 m meta w next (is_read i ident settings d to p (reader_of r.host.inner) wide can formed reads padding) is_for step

  same_metadata : metadata_of header (ports_of settings d) ≡ (as_received (source_of p.header) settings d).0
  same_metadata =
      ap (λ (a : IpAddress). (as_received a settings (record d.0 { endpoint = record d.0.endpoint { addr = destination_of header } }, d.1)).0)
      (same_source then_host p.header)
      ∙ ap (λ (a : IpAddress). (as_received (source_of p.header) settings (record d.0 { endpoint = record d.0.endpoint { addr = a } }, d.1)).0)
      (same_destination then_host p.header ∙ goes_to i settings d to p can)

  pub waits : IsNext moves u r.device (frame_under i ident to p ++ padding) → IngressStep moves u r (Some true) r'
      → WaitsFollowing r'.slots m meta w (as_received (source_of p.header) settings d)
  waits next step = record {
    new = then_value;
    stands = stands_then next step;
    settings = refl;
    queued = refl;
    following = waits_following w header (ports_of settings d) d.1 room
        ∙ ap (λ (x : UdpMetadata). contents w.received ++ (x, d.1) ∷ []) same_metadata;
  }

-- IT GOES, AND IS READ

-- where the packet went as the one device moved, and the link brings it
went_and_read : {D E : Type 0} (out : D → Move → D → Type 0) (back : E → Move → E → Type 0) (i : InnerValue) (old new : D) (u : ℤ) (r r' : State E)
    (m : ℕ) (w : UdpValue) (meta : Meta) (settings : UdpSettings) (d : UdpMetadata × List ℕ) (to : HardwareAddress) (p : PacketValue) (all : List Move)
    → HasWidths i → d.0.endpoint.port ≢ 0 → CanGo i settings d to p → WentOut i to p all → AreMoves out all old new
    → Brings out back i to p old new u r.device → CanRead i to (reader_of r.host.inner)
    → IsExpected (at_instant u r.host.inner) r.slots to p.header (ports_of settings d) m meta w → is_full_for w.received (length d.1) ≡ false
    → IngressStep back u r (Some true) r' → WaitsFollowing r'.slots m meta w (as_received (source_of p.header) settings d)
went_and_read out back i old new u r r' m w meta settings d to p all wide some can went are brings reads expected room taken =
    let comes : ArrivesNext back u r.device i to p all =
    brings all are (record { ident = went.sent.0; wide = went.wide wide.ident; sent = went.sent.1 }) in
    waits back i u r r' m w meta settings d to p some can went.formed reads expected room comes.went.ident
    (record { mtu = wide.mtu; ident = comes.went.wide }) comes.padding comes.next taken

pub arrives : {D E : Type 0} (out : D → Move → D → Type 0) (back : E → Move → E → Type 0) (t u : ℤ) (s s' : State D) (r r' : State E)
    (answer : Option Bool) (n m : ℕ) (v w : UdpValue) (d : UdpMetadata × List ℕ) (more : List (UdpMetadata × List ℕ)) (to : HardwareAddress)
    (p : PacketValue) (meta : Meta) → HasWidths (at_instant t s.host.inner) → HasTurn (at_instant t s.host.inner) s.slots n v → contents v.queued ≡ d ∷ more
    → d.0.endpoint.port ≢ 0 → CanGo (at_instant t s.host.inner) v.settings d to p → EgressStep out t s answer s' → RefusesNothing out s.device s'.device
    → Brings out back (at_instant t s.host.inner) to p s.device s'.device u r.device → CanRead (at_instant t s.host.inner) to (reader_of r.host.inner)
    → IsExpected (at_instant u r.host.inner) r.slots to p.header (ports_of v.settings d) m meta w → is_full_for w.received (length d.1) ≡ false
    → IngressStep back u r (Some true) r' → WaitsFollowing r'.slots m meta w (as_received (source_of p.header) v.settings d)
arrives {D} {E} out back t u s s' r r' answer n m v w d more to p meta wide turn queued some can step freely brings reads expected room taken =
    by goes.what
  where
    goes : GoesAtOnce out (at_instant t s.host.inner) n v to p s.device s'.device answer s'.slots
    goes = step_goes out t s s' answer n v d more to p turn queued can step

    by : (list_any is_refused goes.all ≡ true) ⊎ WentFrom (at_instant t s.host.inner) n v to p goes.all answer s'.slots
        → WaitsFollowing r'.slots m meta w (as_received (source_of p.header) v.settings d)
    by (inl refused) = absurd (let clash : true ≡ false = sym refused ∙ freely goes.all goes.are in cc)
    by (inr went) =
        went_and_read out back (at_instant t s.host.inner) s.device s'.device u r r' m w meta v.settings d to p goes.all wide some can
        (record { sent = went.sent; wide = went.wide; formed = went.formed }) goes.are brings reads expected room taken

-- the same of a poll of the one
pub arrives_in_turn : {D E : Type 0} (out : D → Move → D → Type 0) (back : E → Move → E → Type 0) (t u : ℤ) (budget : ℕ) (s s' : State D) (r r' : State E)
    (changed : Bool) (n m : ℕ) (v w : UdpValue) (before : List (UdpMetadata × List ℕ)) (d : UdpMetadata × List ℕ) (more : List (UdpMetadata × List ℕ))
    (to : HardwareAddress) (p : PacketValue) (meta : Meta) → HasWidths (at_instant t s.host.inner) → HasTurn (at_instant t s.host.inner) s.slots n v
    → contents v.queued ≡ before ++ d ∷ more → length before < budget → AllByRecursion (HasWay (at_instant t s.host.inner) v.settings) before
    → d.0.endpoint.port ≢ 0 → CanGo (at_instant t s.host.inner) v.settings d to p → HasNoFrame out t s.device → Polls out t budget s changed s'
    → RefusesNothing out s.device s'.device → Brings out back (at_instant t s.host.inner) to p s.device s'.device u r.device
    → CanRead (at_instant t s.host.inner) to (reader_of r.host.inner)
    → IsExpected (at_instant u r.host.inner) r.slots to p.header (ports_of v.settings d) m meta w → is_full_for w.received (length d.1) ≡ false
    → IngressStep back u r (Some true) r' → WaitsFollowing r'.slots m meta w (as_received (source_of p.header) v.settings d)
arrives_in_turn {D} {E} out back t u budget s s' r r' changed n m v w before d more to p meta wide turn queued short ways some can none polls freely brings
    reads expected room taken = by goes.what
  where
    goes : GoesInTurn out (at_instant t s.host.inner) to p s.device s'.device
    goes = poll_goes out t budget s s' changed n v before d more to p turn queued short ways can none polls

    by : (list_any is_refused goes.all ≡ true) ⊎ WentOut (at_instant t s.host.inner) to p goes.all
        → WaitsFollowing r'.slots m meta w (as_received (source_of p.header) v.settings d)
    by (inl refused) = absurd (let clash : true ≡ false = sym refused ∙ freely goes.all goes.are in cc)
    by (inr went) =
        went_and_read out back (at_instant t s.host.inner) s.device s'.device u r r' m w meta v.settings d to p goes.all wide some can went goes.are brings reads
        expected room taken
