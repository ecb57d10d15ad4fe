-- Where it is the turn of the next hop that a UDP socket waits for, the socket's packet asks first; so its datagram arrives.
use Rattle.std.proofs.Common.{◌≡◌, ◌≢◌, ℕ, zero, suc, ◌<◌, ◌≤◌, Bool, true, false, not, if◌then◌else◌, inl, inr, ℤ, pos, ◌+ℤ◌, ◌≤ℤ◌, List, [], ◌∷◌, length}
use Rattle.std.proofs.Common.{Option, Some, None, is_some, refl, sym, ap, ◌∙◌, subst, arith}
use Rattle.std.specs.Prelude.{nat_lt, slice_get}
use Rattle.std.specs.List.{AllByRecursion, Any}
use Rattle.std.proofs.lemmas.Int.{ints}
use Rattle.net_base.specs.Device.{Move}
use Rattle.ip_wire.specs.AddressTests.{is_same_address}
use Rattle.ip_wire.specs.EthernetAddress.{EthernetAddress}
use Rattle.ip_wire.specs.Ip.{destination_of, source_of}
use Rattle.ip_wire.specs.IpAddress.{IpAddress}
use Rattle.ip_wire.specs.IpAddress.TheVariants as Address
use Rattle.ip_wire.specs.Ipv4Address.{Ipv4Address}
use Rattle.ip_wire.specs.HardwareAddress.TheVariants as Hardware
use Rattle.socket_datagram.specs.Udp.{UdpValue, UdpSettings}
use Rattle.socket_datagram.specs.declared.udp.UdpMetadata.{UdpMetadata}
use Rattle.iface_ingress.specs.Packet.{PacketValue}
use Rattle.iface_ingress.specs.Socket.{Socket}
use Rattle.iface_tables.specs.Inner as Tables
use Rattle.iface_tables.specs.Inner.{InnerValue, at_instant, awaited_hop, is_awaited}
use Rattle.iface_tables.specs.Neighbor.{CacheValue, last_request, silent_time}
use Rattle.iface_tables.specs.declared.neighbor.Answer.{Answer}
use Rattle.iface_tables.proofs.PathMtu.{itself}
use Rattle.iface_egress.specs.declared.socket_meta.Meta.{Meta}
use Rattle.iface_egress.specs.declared.socket_meta.Waiting.{Waiting}
use Rattle.iface_egress.specs.declared.socket_set.SocketStorage.{SocketStorage}
use Rattle.interface.specs.Awaited.{awaited_by, awaited_in, awaited_of, hop_of, next_awaited, turn_of}
use Rattle.interface.specs.declared.awaited.Awaited.{Awaited}
use Rattle.interface.specs.Serve.{is_other}
use Rattle.interface.proofs.Alone.{turn_alone}
use Rattle.proof_stack.specs.Progress.NeighborResolution.{AsksFirst, HasToAsk}
use Rattle.proof_stack.specs.Progress.Delivered.{IsExpected, WaitsFollowing, as_received}
use Rattle.proof_stack.specs.Progress.Exchanged.{Exchange, IsMarkFor, IsStillFirst}
use Rattle.proof_stack.specs.Progress.Queued.{ports_of}
use Rattle.proof_stack.specs.Progress.Reached.{udp_slot}
use Rattle.proof_stack.specs.Progress.Rounds.{IsOneOf}
use Rattle.proof_stack.specs.Progress.Served.{ArrivesFrom, CanDeliver, WaitsForHop, first_of}
use Rattle.proof_stack.specs.Progress.EgressSteps.{AreInOrder, AsksThen, IsAskedFor, IsWaitedFor, OutStep, WaitsOn, host_in}
use Rattle.proof_stack.proofs.Polls.Exchanged.{exchanged_with}
use Rattle.proof_stack.proofs.Polls.First.{same_address}
use Rattle.proof_stack.proofs.Polls.Rotates.{has_its_turn, has_room}
use Rattle.proof_stack.proofs.Polls.Searches.{others_stay, someone_next}
use Rattle.proof_stack.proofs.Polls.Silenced.{IsSought, counted, sought}
use Rattle.proof_stack.proofs.Polls.Waited.{step_asks_in_turn}

abbrev Place : Type 0
Place = SocketStorage Socket

abbrev no_slot : Option Place
no_slot = None

abbrev no_turn : Option IpAddress
no_turn = None

-- what holds of each slot holds of this one
at_slot : (All : Place → Type 0) (ps : List Place) (n : ℕ) (slot : Place) → AllByRecursion All ps → slice_get ps n ≡ Some slot → All slot
at_slot All [] n slot all stands = absurd (let never : no_slot ≡ Some slot = stands in cc)
at_slot All (p ∷ ps) zero slot all stands =
    subst All (let same : Some p ≡ Some slot = stands in let at : p ≡ slot = cc in at) all.0
at_slot All (p ∷ ps) (suc n) slot all stands = at_slot All ps n slot all.1 stands

some_mark : (o : Option Waiting) (to : IpAddress) → is_some o ≡ true → IsMarkFor o to → (w : Waiting) × (o ≡ Some w) × (w.neighbor ≡ to)
some_mark None to some is = absurd (let clash : false ≡ true = some in cc)
some_mark (Some w) to some is = (w, refl, is)

-- a second is over no earlier than it begins
never_over : (m : ℤ) → (m +ℤ pos 1_000_000) ≤ℤ m → ⊥
never_over m is = grind (arith, ints)

-- THE STEP THAT ASKS

module _ {D : Type 0} (moves : D → Move → D → Type 0) (hops : List IpAddress) (n : ℕ) (v : UdpValue) (d : UdpMetadata × List ℕ) (hop : IpAddress)
    (p : PacketValue) (x : OutStep moves) (waits : WaitsForHop moves hops n v d hop p x) where
  abbrev now : InnerValue
  now = host_in moves x

  abbrev known : CacheValue
  known = x.old.host.inner.neighbors

  abbrev to : IpAddress
  to = destination_of p.header

  abbrev slot : Place
  slot = udp_slot waits.first.meta waits.first.value

  mark : (w : Waiting) × (waits.first.meta.waiting ≡ Some w) × (w.neighbor ≡ to)
  mark = some_mark waits.first.meta.waiting to waits.waits waits.first.mark

  link : IsSought now to hop
  link = sought now to hop waits.freely.alone waits.needs.unknown

  abbrev awaited : Awaited
  awaited = record { hop = hop; last_request = last_request known hop; since = mark.0.since }

  hop_awaited : awaited_hop now mark.0.neighbor ≡ Some hop
  hop_awaited =
      ap (awaited_hop now) mark.2 ∙ ap (λ (o : Option IpAddress). Tables.awaited_by o now) link.hop_is
      ∙ ap (λ (answer : Answer). if is_awaited answer then Some hop else None) link.unknown

  is_awaited_now : awaited_in now slot ≡ Some awaited
  is_awaited_now = ap (awaited_by now) mark.1 ∙ ap (awaited_of now mark.0) hop_awaited

  pub waited_for : IsWaitedFor moves hop hops x
  waited_for = record {
    freely = waits.freely;
    awaited = record {
      n = n;
      slot = slot;
      awaited = awaited;
      stands = waits.first.stands;
      waits = is_awaited_now;
      whom = refl;
      over = waits.over;
    };
  }

  module _ (asks : AsksThen moves x hop) where
    next : (b : Awaited) × (next_awaited now x.old.slots ≡ Some b)
    next = someone_next now x.old.slots n slot awaited waits.first.stands is_awaited_now

    theirs : AsksThen moves x next.0.hop
    theirs = step_asks_in_turn moves hops x next.0 waits.freely next.1

    -- were it the turn of another, a question for this hop would have gone less than a second ago
    asked_lately : is_same_address next.0.hop hop ≡ false → last_request known hop ≡ Some (x.instant +ℤ pos silent_time)
    asked_lately apart =
        sym (others_stay known next.0.hop hop x.instant apart
        (has_room now.host_requirements (nat_lt (length known.searches) known.search_room) waits.freely.alone waits.freely.room))
        ∙ ap (λ (c : CacheValue). last_request c hop) (sym theirs.counts ∙ asks.counts) ∙ counted known hop x.instant

    whose_turn : (b : Bool) → is_same_address next.0.hop hop ≡ b → next.0.hop ≡ hop
    whose_turn true same = same_address next.0.hop hop same
    whose_turn false apart =
        absurd (never_over x.instant (waits.over (x.instant +ℤ pos silent_time) (asked_lately apart)))

    ours : turn_of now x.old.slots ≡ Some hop
    ours = turn_alone now x.old.slots waits.freely.alone ∙ ap hop_of next.1 ∙ ap (λ (h : IpAddress). Some h) (whose_turn (is_same_address next.0.hop hop) refl)

    pub asks_first : AsksFirst now x.old.slots n waits.first.value hop to
    asks_first = record {
      turn = record {
        meta = waits.first.meta;
        stands = waits.first.stands;
        ready = (at_slot (WaitsOn now hops) x.old.slots n slot waits.freely.waiting waits.first.stands awaited is_awaited_now).1.0;
      };
      whose = ap (λ (o : Option IpAddress). is_other o hop) ours ∙ ap not (itself hop);
      alone = λ nobody. absurd (let clash : no_turn ≡ Some hop = sym nobody ∙ ours in cc);
      spared = waits.spared;
    }

-- THE EXCHANGE

module _ {D E : Type 0} (from : D → Move → D → Type 0) (at : E → Move → E → Type 0) (hops : List IpAddress) (n : ℕ) (v : UdpValue)
    (d : UdpMetadata × List ℕ) (own node : EthernetAddress) (a asked : Ipv4Address) (p : PacketValue) (some : d.0.endpoint.port ≢ 0) where
  abbrev hop : IpAddress
  hop = Address.Ipv4 asked

  abbrev Waits : OutStep from → Type 0
  Waits x = WaitsForHop from hops n v d hop p x

  abbrev Arrives : OutStep from → Type 0
  Arrives x = ArrivesFrom from at own node a asked p v.settings d x

  pub delivered : (e : Exchange from at) (m : ℕ) (meta : Meta) (w : UdpValue) → Waits (first_of e) → AsksThen from (first_of e) hop
      → CanDeliver e own node a asked p v.settings d m meta w → WaitsFollowing e.r3.slots m meta w (as_received (source_of p.header) v.settings d)
  delivered e m meta w waits asks can =
      let first : IsStillFirst e.s0.slots n v d (destination_of p.header) = waits.first in
      subst (λ (settings : UdpSettings). WaitsFollowing e.r3.slots m meta w (as_received (source_of p.header) settings d)) first.settings
      (exchanged_with from at e n m first.value w d first.more own node a asked p meta can.wide can.both
      (asks_first from hops n v d hop p (first_of e) waits asks) first.first some
      (subst (λ (settings : UdpSettings). HasToAsk (at_instant e.asked e.s0.host.inner) settings d hop p) (sym first.settings) waits.needs) can.via can.short
      (subst (λ (settings : UdpSettings). IsExpected (at_instant e.read e.r0.host.inner) e.r0.slots (Hardware.Ethernet node) p.header (ports_of settings d) m
      meta w) (sym first.settings) can.expected)
      can.room can.served)

  arrives_from : (x : OutStep from) → Waits x → AsksThen from x hop → Arrives x
  arrives_from x waits asks = record {
    asks = asks;
    arrives = λ e m meta w is can. delivered e m meta w (subst Waits (sym is) waits)
        (subst (λ (y : OutStep from). AsksThen from y hop) (sym is) asks) can;
  }

  once : (steps : List (OutStep from)) → AllByRecursion Waits steps → IsAskedFor from hop steps → Any Arrives steps
  once [] waits asked = absurd asked
  once (x ∷ more) waits (inl asks) = (0, x, (let one : 0 < suc (length more) = omega arith in one), refl, arrives_from x waits.0 asks)
  once (x ∷ more) waits (inr later) =
      let it : Any Arrives more = once more waits.1 later in
      let less : it.0 < length more = it.2 in
      (suc it.0, it.1, (let then_less : suc it.0 < suc (length more) = omega (arith, less) in then_less), it.3, it.4)

  each_waited_for : (steps : List (OutStep from)) → AllByRecursion Waits steps → AllByRecursion (IsWaitedFor from hop hops) steps
  each_waited_for [] waits = tt
  each_waited_for (x ∷ more) waits = (waited_for from hops n v d hop p x waits.0, each_waited_for more waits.1)

  pub arrives_once : (steps : List (OutStep from)) → AreInOrder from steps → AllByRecursion Waits steps → IsOneOf hop hops → length hops ≤ length steps
      → Any Arrives steps
  arrives_once steps order waits ours enough =
      once steps waits (has_its_turn from hops hop steps order (each_waited_for steps waits) ours enough)
