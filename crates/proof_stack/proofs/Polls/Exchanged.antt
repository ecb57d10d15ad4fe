-- A neighbour that isn't known is asked for, answers, and gets the datagram.
use Rattle.std.proofs.Common.{◌≡◌, ◌≢◌, ℕ, ◌^◌, ◌<◌, ◌≤◌, arith, Bool, true, false, not, ◌&&◌, if◌then◌else◌, ◌⊎◌, inl, inr, int_lt, pos, ◌+ℤ◌}
use Rattle.std.proofs.Common.{List, ◌∷◌, ◌++◌, length, Option, Some, None, refl, sym, ap, ◌∙◌, subst}
use Rattle.std.specs.Prelude.{slice_get}
use Rattle.std.specs.List.{list_any}
use Rattle.net_base.specs.Device.{Move}
use Rattle.net_base.specs.Packets.{contents, is_full_for}
use Rattle.wire_ip.specs.Ip.{destination_of, source_of}
use Rattle.wire_ip.specs.declared.ip.repr.IpRepr.{IpRepr}
use Rattle.wire_ip.specs.declared.ip.repr.IpRepr.TheVariants as Ip
use Rattle.wire_ip.specs.declared.udp.repr.UdpRepr.{UdpRepr}
use Rattle.ip_wire.specs.Arp as Arps
use Rattle.ip_wire.specs.EthernetAddress.{EthernetAddress}
use Rattle.ip_wire.specs.HardwareAddress.{HardwareAddress}
use Rattle.ip_wire.specs.HardwareAddress.TheVariants as Hardware
use Rattle.ip_wire.specs.IpAddress.{IpAddress}
use Rattle.ip_wire.specs.IpAddress.TheVariants as Address
use Rattle.ip_wire.specs.Ipv4Address.{Ipv4Address}
use Rattle.ip_wire.specs.declared.arp.repr.ArpRepr.{ArpRepr}
use Rattle.socket_datagram.specs.Udp.{UdpValue, UdpSettings}
use Rattle.socket_datagram.specs.declared.udp.UdpMetadata.{UdpMetadata}
use Rattle.iface_ingress.specs.Arp.{arp_arrived, learned, teaches}
use Rattle.iface_ingress.specs.Packet.{PacketValue}
use Rattle.iface_ingress.specs.Sent.{AreSealed}
use Rattle.iface_ingress.specs.Socket.{Socket}
use Rattle.iface_tables.specs.Inner.{InnerValue, at_instant, has_neighbor, is_known_hop, is_known_on, is_local, mtu_to, next_hop, with_neighbor}
use Rattle.iface_tables.specs.Neighbor.{CacheValue, entry_lifetime, is_found}
use Rattle.iface_tables.specs.Source.{source_v4}
use Rattle.iface_egress.specs.Departure as Departures
use Rattle.iface_egress.specs.Departure.{Asks, arp_request, target_of}
use Rattle.iface_egress.specs.IsTransmitted.{frame_of}
use Rattle.iface_egress.specs.Meta.{neighbor_by, waits_by}
use Rattle.iface_egress.specs.Plan.{total_len}
use Rattle.iface_egress.specs.declared.frame.NeighborQuery.{NeighborQuery}
use Rattle.iface_egress.specs.declared.frame.NeighborQuery.TheVariants as Query
use Rattle.iface_egress.specs.declared.socket_meta.Meta.{Meta}
use Rattle.iface_egress.specs.declared.socket_meta.Waiting.{Waiting}
use Rattle.iface_egress.specs.declared.socket_set.SocketStorage.{SocketStorage}
use Rattle.interface.specs.Delivered.{AreOfOneMedium}
use Rattle.interface.specs.Egress.{sending}
use Rattle.interface.specs.SameHost.{IsSameHost}
use Rattle.interface.specs.State.{State}
use Rattle.interface.specs.TransmittedFrame.{CanRead, HasWidths}
use Rattle.interface.specs.Serve.{is_known, is_waiting}
use Rattle.interface.proofs.Alone.{same_alone}
use Rattle.interface.proofs.SameHost.{egress_same_host}
use Rattle.proof_stack.specs.Progress.NeighborResolution as Asked
use Rattle.proof_stack.specs.Progress.NeighborResolution.{AsksFirst, HasToAsk, IsFrom, IsNeighbor, IsNext, IsVia, arp_reply}
use Rattle.proof_stack.specs.Progress.Delivered.{IsExpected, WaitsFollowing, as_received, reader_of}
use Rattle.proof_stack.specs.Progress.Exchanged.{AreNeighbors, AsksFor, AsksForIt, Exchange, IsMarkFor, IsServed, IsStillFirst}
use Rattle.proof_stack.specs.Progress.Moves.{AreMoves, is_refused}
use Rattle.proof_stack.specs.Progress.Queued.{CanGo, Sends, ports_of}
use Rattle.proof_stack.proofs.Polls.Answered as Answered
use Rattle.proof_stack.proofs.Polls.Answered.{question_answered, goes_there, known_now, lives}
use Rattle.proof_stack.proofs.Polls.Delivered.{arrives}
use Rattle.proof_stack.proofs.Polls.First.{step_asks_for_it}
use Rattle.proof_stack.proofs.Polls.Numbers.{IsSmall, step_small}
use Rattle.proof_stack.proofs.Polls.Silenced.{IsSought, sought}

-- THE QUESTION

question_is : (i : InnerValue) (own : EthernetAddress) (a asked : Ipv4Address) → i.hardware ≡ Hardware.Ethernet own → source_v4 i.addresses asked ≡ Some a
    → (q : NeighborQuery) → IsFrom i.hardware i.addresses q → target_of q ≡ Address.Ipv4 asked → q ≡ Query.Arp own a asked
question_is i own a asked here source (Query.Arp node address target) from whom =
    let there : target ≡ asked = (let is : Address.Ipv4 target ≡ Address.Ipv4 asked = whom in cc) in
    let same : node ≡ own = (let is : Hardware.Ethernet node ≡ Hardware.Ethernet own = sym from.0 ∙ here in cc) in
    let some : Some address ≡ Some a = sym from.1 ∙ ap (λ (x : Ipv4Address). source_v4 i.addresses x) there ∙ source in
    let its : address ≡ a = cc in
    ap (λ (x : EthernetAddress). Query.Arp x address target) same ∙ ap (λ (x : Ipv4Address). Query.Arp own x target) its
    ∙ ap (λ (x : Ipv4Address). Query.Arp own a x) there
question_is i own a asked here source (Query.Neighbor node address target) from whom =
    absurd (let never : Address.Ipv6 target ≡ Address.Ipv4 asked = whom in cc)

-- A HOST THAT KNOWS SOMEONE MORE expects the same datagrams

expected_still : (i : InnerValue) (c : CacheValue) (slots : List (SocketStorage Socket)) (to : HardwareAddress) (h : IpRepr) (ports : UdpRepr) (m : ℕ)
    (meta : Meta) (w : UdpValue) → IsExpected i slots to h ports m meta w → IsExpected (record i { neighbors = c }) slots to h ports m meta w
expected_still i c slots (Hardware.Ethernet node) (Ip.Ipv4 header) ports m meta w is = record {
  heard = is.heard;
  framed = is.framed;
  sender = is.sender;
  here = is.here;
  ours = is.ours;
  slot = is.slot;
  stands = is.stands;
}
expected_still i c slots (Hardware.Ethernet node) (Ip.Ipv6 header) ports m meta w is = record {
  heard = is.heard;
  framed = is.framed;
  sender = is.sender;
  here = is.here;
  ours = is.ours;
  slot = is.slot;
  stands = is.stands;
}
expected_still i c slots Hardware.Ip (Ip.Ipv4 header) ports m meta w is = record {
  heard = is.heard;
  framed = is.framed;
  sender = is.sender;
  here = is.here;
  ours = is.ours;
  slot = is.slot;
  stands = is.stands;
}
expected_still i c slots Hardware.Ip (Ip.Ipv6 header) ports m meta w is = record {
  heard = is.heard;
  framed = is.framed;
  sender = is.sender;
  here = is.here;
  ours = is.ours;
  slot = is.slot;
  stands = is.stands;
}

arrived_keeps : (i : InnerValue) (own : EthernetAddress) (a asked : Ipv4Address) → (teaches : Bool)
    → (if teaches then learned i (arp_request own a asked) else i)
    ≡ record i { neighbors = (if teaches then learned i (arp_request own a asked) else i).neighbors }
arrived_keeps i own a asked true = refl
arrived_keeps i own a asked false = refl

-- THE EXCHANGE

module _ {D E : Type 0} {from : D → Move → D → Type 0} {at : E → Move → E → Type 0} (x : Exchange from at) (n m : ℕ) (v w : UdpValue)
    (d : UdpMetadata × List ℕ) (more : List (UdpMetadata × List ℕ)) (own node : EthernetAddress) (a asked : Ipv4Address) (p : PacketValue) (meta : Meta)
    (wide : HasWidths (at_instant x.asked x.s0.host.inner)) (both : AreNeighbors x.s0.host.inner x.r0.host.inner own node a asked)
    (has : HasToAsk (at_instant x.asked x.s0.host.inner) v.settings d (Address.Ipv4 asked) p)
    (via : next_hop (at_instant x.heard x.s0.host.inner) (destination_of p.header) ≡ Some (Address.Ipv4 asked))
    (short : total_len p.header ≤ mtu_to (at_instant x.heard x.s0.host.inner) (destination_of p.header))
    (served : IsServed x own node a asked p) where
  abbrev start : InnerValue
  start = at_instant x.asked x.s0.host.inner

  abbrev hop : IpAddress
  hop = Address.Ipv4 asked

  abbrev reply : ArpRepr
  reply = arp_reply node asked own a

  -- the question comes next at the other host
  asked_next : (all : List Move) → AreMoves from all x.s0.device x.s1.device → AsksFor start hop all
      → (padding : List ℕ) × IsNext at x.answered x.r0.device (frame_of start (Asks (Query.Arp own a asked)) ++ padding)
  asked_next all are it =
      served.question_comes all are
      (subst (λ (q : NeighborQuery). Sends (frame_of start (Asks q)) all) (question_is start own a asked both.here both.source it.question it.from it.whom) it.sent)

  -- and its answer at the one
  answer_next : Asked.Tells at x.r0.host.inner reply x.r0.device x.r1.device
      → (padding : List ℕ) × IsNext from x.heard x.s2.device (frame_of x.r0.host.inner (Departures.Tells reply) ++ padding)
  answer_next tells = by tells.what where
    by : (list_any is_refused tells.all ≡ true) ⊎ Sends (frame_of x.r0.host.inner (Departures.Tells reply)) tells.all
        → (padding : List ℕ) × IsNext from x.heard x.s2.device (frame_of x.r0.host.inner (Departures.Tells reply) ++ padding)
    by (inl refused) = absurd (let clash : true ≡ false = sym refused ∙ served.answers_freely tells.all tells.are in cc)
    by (inr sent) = served.answer_arrives tells.all tells.are sent

  -- THE ONE, after its question and after the answer

  abbrev waiting : InnerValue
  waiting = record start {
    ident = x.s1.host.inner.ident;
    neighbors = record start.neighbors { silent = x.s1.host.inner.neighbors.silent; searches = x.s1.host.inner.neighbors.searches };
  }

  ends_at : x.s1.host.inner ≡ x.asks.0.sender.inner
  ends_at = ap (λ (y : State D). y.host.inner) x.asks.2

  is_waiting_host : x.s2.host.inner ≡ waiting
  is_waiting_host =
      ap (λ (y : State D). y.host.inner) x.waits
      ∙ same_alone start x.s1.host.inner has.alone
      (subst (IsSameHost start) (sym ends_at) (egress_same_host from (sending x.asked x.s0) x.s0.slots x.asks.0 x.asks.1))

  small : x.s1.host.inner.ident < 2 ^ 16
  small = subst IsSmall (sym ends_at) (step_small from (sending x.asked x.s0) x.s0.slots x.asks.0 x.asks.1 wide.ident)

  abbrev knowing : InnerValue
  knowing = with_neighbor (at_instant x.heard waiting) hop (Hardware.Ethernet node)

  record Hears (y : InnerValue) : Type 0 where
    on : y.hardware ≡ Hardware.Ethernet own
    sealed : AreSealed x.r0.host.inner.checksums y.checksums
    mine : is_local y (Address.Ipv4 a) ≡ true
    near : IsNeighbor y node asked

  hears : Hears x.s2.host.inner
  hears = subst Hears (sym is_waiting_host) (record {
    on = both.here;
    sealed = both.sealed_here;
    mine = both.ours;
    near = record { one = both.seen.one; sound = both.seen.sound; near = both.seen.near };
  })

  value : Arps.IsValue reply
  value = (let two : 2 < 2 ^ 16 = omega arith in two, both.node_is, both.asked_is, both.own_is, both.a_is)

  heard_it : (padding : List ℕ) → IsNext from x.heard x.s2.device (frame_of x.r0.host.inner (Departures.Tells reply) ++ padding)
      → (x.s3.host.inner ≡ with_neighbor (at_instant x.heard x.s2.host.inner) hop (Hardware.Ethernet node)) × (x.s3.slots ≡ x.s2.slots)
  heard_it padding next =
      Answered.learned from x.heard x.s2 x.s3 x.r0.host.inner padding own node hears.on hears.sealed a asked hears.mine hears.near value next x.hears

  is_knowing : x.s3.host.inner ≡ with_neighbor (at_instant x.heard x.s2.host.inner) hop (Hardware.Ethernet node)
      → at_instant x.heard x.s4.host.inner ≡ knowing
  is_knowing it =
      ap (λ (y : State D). at_instant x.heard y.host.inner) x.looks ∙ ap (at_instant x.heard) it
      ∙ ap (λ (y : InnerValue). at_instant x.heard (with_neighbor (at_instant x.heard y) hop (Hardware.Ethernet node))) is_waiting_host

  via_then : IsVia (at_instant x.heard waiting) (destination_of p.header) hop
  via_then =
      let there : IsSought start (destination_of p.header) hop = sought start (destination_of p.header) hop has.alone has.unknown in
      record { one = there.one; group = there.group; hop_is = via }

  can_then : CanGo knowing v.settings d (Hardware.Ethernet node) p
  can_then = record {
    takes = has.takes;
    may = has.may;
    known = goes_there (at_instant x.heard waiting) own node hop (destination_of p.header) both.here via_then;
    short = short;
  }

  hop_known : has_neighbor knowing (destination_of p.header) ≡ true
  hop_known =
      ap (is_known_hop knowing) via
      ∙ ap (λ (h : HardwareAddress). is_known_on h knowing hop) both.here
      ∙ ap is_found (known_now waiting.neighbors (record {
        protocol_addr = hop;
        hardware_addr = Hardware.Ethernet node;
        expires_at = x.heard +ℤ pos entry_lifetime;
      }) x.heard (lives x.heard entry_lifetime (omega arith)))

  -- its socket waits for nobody who isn't known
  ready_then : (o : Option Waiting) → IsMarkFor o (destination_of p.header) → waits_by o (is_known knowing (neighbor_by o)) x.heard ≡ false
  ready_then None mark = refl
  ready_then (Some mark) is =
      ap (λ (known : Bool). not known && int_lt x.heard mark.silent_until) (ap (has_neighbor knowing) is ∙ hop_known)

  -- THE OTHER, after the question

  abbrev answering : InnerValue
  answering = arp_arrived (at_instant x.answered x.r0.host.inner) (arp_request own a asked)

  abbrev reading : InnerValue
  reading = record (at_instant x.answered x.r0.host.inner) { neighbors = answering.neighbors }

  is_reading : x.r1.host.inner ≡ answering → x.r2.host.inner ≡ reading
  is_reading it =
      ap (λ (y : State E). y.host.inner) x.rests ∙ it
      ∙ arrived_keeps (at_instant x.answered x.r0.host.inner) own a asked
      (teaches (at_instant x.answered x.r0.host.inner) (arp_request own a asked))

  reads_then : CanRead knowing (Hardware.Ethernet node) (reader_of reading)
  reads_then = record {
    medium = subst (λ (h : HardwareAddress). AreOfOneMedium h (Hardware.Ethernet node) x.r0.host.inner.hardware) (sym both.here)
        (subst (λ (h : HardwareAddress). AreOfOneMedium (Hardware.Ethernet own) (Hardware.Ethernet node) h) (sym both.there)
        (record { from = both.own_is; receiver = both.node_is }));
    sealed = both.sealed_there;
  }

  -- THE DATAGRAM GOES, AND IS READ

  module _ (some : d.0.endpoint.port ≢ 0) (still : IsStillFirst x.s1.slots n v d (destination_of p.header))
      (expected : IsExpected (at_instant x.read x.r0.host.inner) x.r0.slots (Hardware.Ethernet node) p.header (ports_of v.settings d) m meta w)
      (room : is_full_for w.received (length d.1) ≡ false) where
    goes : at_instant x.heard x.s4.host.inner ≡ knowing → x.s4.slots ≡ x.s1.slots → x.r2.host.inner ≡ reading → x.r2.slots ≡ x.r0.slots
        → WaitsFollowing x.r3.slots m meta w (as_received (source_of p.header) v.settings d)
    goes knows slots reads their_slots =
        subst (λ (settings : UdpSettings). WaitsFollowing x.r3.slots m meta w (as_received (source_of p.header) settings d)) still.settings
        (arrives from at x.heard x.read x.s4 x.s5 x.r2 x.r3 x.second n m still.value w d still.more (Hardware.Ethernet node) p meta
        (subst HasWidths (sym knows) (record { mtu = wide.mtu; ident = small }))
        (record {
          meta = still.meta;
          stands = ap (λ (ps : List (SocketStorage Socket)). slice_get ps n) slots ∙ still.stands;
          ready = subst (λ (i : InnerValue). is_waiting i still.meta ≡ false) (sym knows) (ready_then still.meta.waiting still.mark);
        })
        still.first some
        (subst (λ (settings : UdpSettings). CanGo (at_instant x.heard x.s4.host.inner) settings d (Hardware.Ethernet node) p) (sym still.settings)
        (subst (λ (i : InnerValue). CanGo i v.settings d (Hardware.Ethernet node) p) (sym knows) can_then))
        x.sends served.sends_freely served.packet_comes
        (subst (λ (i : InnerValue). CanRead i (Hardware.Ethernet node) (reader_of x.r2.host.inner)) (sym knows)
        (subst (λ (i : InnerValue). CanRead knowing (Hardware.Ethernet node) (reader_of i)) (sym reads) reads_then))
        (subst (λ (settings : UdpSettings). IsExpected (at_instant x.read x.r2.host.inner) x.r2.slots (Hardware.Ethernet node) p.header (ports_of settings d) m
        meta w) (sym still.settings)
        (subst (λ (ps : List (SocketStorage Socket)). IsExpected (at_instant x.read x.r2.host.inner) ps (Hardware.Ethernet node) p.header
        (ports_of v.settings d) m meta w) (sym their_slots)
        (subst (λ (i : InnerValue). IsExpected (at_instant x.read i) x.r0.slots (Hardware.Ethernet node) p.header (ports_of v.settings d) m meta w) (sym reads)
        (expected_still (at_instant x.read x.r0.host.inner) answering.neighbors x.r0.slots (Hardware.Ethernet node) p.header (ports_of v.settings d) m meta w
        expected))))
        room x.reads)

    exchanged : (padding : List ℕ) × IsNext at x.answered x.r0.device (frame_of start (Asks (Query.Arp own a asked)) ++ padding)
        → WaitsFollowing x.r3.slots m meta w (as_received (source_of p.header) v.settings d)
    exchanged question =
        let answer : (padding : List ℕ) × IsNext from x.heard x.s2.device (frame_of x.r0.host.inner (Departures.Tells reply) ++ padding) =
        answer_next (question_answered at x.answered x.r0 x.r1 start question.0 node own a asked both.there both.sealed_there both.theirs both.sees
        (both.own_is, both.a_is, both.asked_is) question.1 x.answers) in
        let known : (x.r1.host.inner ≡ answering) × (x.r1.slots ≡ x.r0.slots) =
        Answered.asker_known at x.answered x.r0 x.r1 start question.0 node own both.there both.sealed_there a asked both.theirs both.sees
        (both.own_is, both.a_is, both.asked_is) question.1 x.answers in
        let heard : (x.s3.host.inner ≡ with_neighbor (at_instant x.heard x.s2.host.inner) hop (Hardware.Ethernet node)) × (x.s3.slots ≡ x.s2.slots) =
        heard_it answer.0 answer.1 in
        goes (is_knowing heard.0) (ap (λ (y : State D). y.slots) x.looks ∙ heard.1 ∙ ap (λ (y : State D). y.slots) x.waits) (is_reading known.0)
        (ap (λ (y : State E). y.slots) x.rests ∙ known.1)

pub exchanged_with : {D E : Type 0} (from : D → Move → D → Type 0) (at : E → Move → E → Type 0) (x : Exchange from at) (n m : ℕ) (v w : UdpValue)
    (d : UdpMetadata × List ℕ) (more : List (UdpMetadata × List ℕ)) (own node : EthernetAddress) (a asked : Ipv4Address) (p : PacketValue) (meta : Meta)
    → HasWidths (at_instant x.asked x.s0.host.inner) → AreNeighbors x.s0.host.inner x.r0.host.inner own node a asked
    → AsksFirst (at_instant x.asked x.s0.host.inner) x.s0.slots n v (Address.Ipv4 asked) (destination_of p.header)
    → contents v.queued ≡ d ∷ more → d.0.endpoint.port ≢ 0
    → HasToAsk (at_instant x.asked x.s0.host.inner) v.settings d (Address.Ipv4 asked) p
    → next_hop (at_instant x.heard x.s0.host.inner) (destination_of p.header) ≡ Some (Address.Ipv4 asked)
    → total_len p.header ≤ mtu_to (at_instant x.heard x.s0.host.inner) (destination_of p.header)
    → IsExpected (at_instant x.read x.r0.host.inner) x.r0.slots (Hardware.Ethernet node) p.header (ports_of v.settings d) m meta w
    → is_full_for w.received (length d.1) ≡ false → IsServed x own node a asked p
    → WaitsFollowing x.r3.slots m meta w (as_received (source_of p.header) v.settings d)
exchanged_with {D} {E} from at x n m v w d more own node a asked p meta wide both asks queued some has via short expected room served = by it.what where
  it : AsksForIt from (at_instant x.asked x.s0.host.inner) (Address.Ipv4 asked) (destination_of p.header) n v d x.s0.device x.s1.device x.s1.slots
  it = step_asks_for_it from x.asked x.s0 x.s1 x.first n v d more (Address.Ipv4 asked) p asks queued has x.asks

  by : (list_any is_refused it.all ≡ true)
      ⊎ (AsksFor (at_instant x.asked x.s0.host.inner) (Address.Ipv4 asked) it.all × IsStillFirst x.s1.slots n v d (destination_of p.header))
      → WaitsFollowing x.r3.slots m meta w (as_received (source_of p.header) v.settings d)
  by (inl refused) = absurd (let clash : true ≡ false = sym refused ∙ served.asks_freely it.all it.are in cc)
  by (inr this) =
      exchanged x n m v w d more own node a asked p meta wide both has via short served some this.1 expected room
      (asked_next x n m v w d more own node a asked p meta wide both has via short served it.all it.are this.0)
