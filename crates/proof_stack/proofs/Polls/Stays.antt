-- A datagram that a UDP socket expects is expected by it wherever a poll has come.
use Rattle.std.proofs.Common.{◌≡◌, ℕ, zero, suc, ◌+◌, ◌<◌, Bool, true, false, cond, not, ◌&&◌, ◌||◌, inl, inr, ℤ, List, [], ◌∷◌, length, get_or, Option, Some, None}
use Rattle.std.proofs.Common.{refl, sym, ap, ◌∙◌, subst, arith}
use Rattle.std.specs.Prelude.{nat_lt, position, slice_get}
use Rattle.std.specs.List.{list_any, prefix_len}
use Rattle.std.proofs.lemmas.Bool.Decides.{Decides-ltb}
use Rattle.std.proofs.lemmas.Option.{get_or_from_slice_get}
use Rattle.std.proofs.lemmas.List.Folds.{list_any_at}
use Rattle.std.proofs.lemmas.List.Quantifiers.{position-Some}
use Rattle.net_base.specs.Device.{Move}
use Rattle.wire_ip.specs.Ip.{destination_of, source_of}
use Rattle.wire_ip.specs.declared.ip.repr.IpRepr.{IpRepr}
use Rattle.wire_ip.specs.declared.udp.repr.UdpRepr.{UdpRepr}
use Rattle.ip_wire.specs.AddressTests.{is_broadcast_v4, is_ethernet_broadcast, is_ethernet_multicast, is_loopback, is_same_hardware, is_unicast_v4}
use Rattle.ip_wire.specs.AddressTests.{is_multicast, is_unspecified, is_unspecified_v4}
use Rattle.ip_wire.specs.HardwareAddress.{HardwareAddress}
use Rattle.ip_wire.specs.HardwareAddress.TheVariants as Hardware
use Rattle.ip_wire.specs.IpAddress.{IpAddress}
use Rattle.ip_wire.specs.IpAddress.TheVariants as Address
use Rattle.ip_wire.specs.IpCidr.{IpCidr}
use Rattle.sockets.specs.Context.{ContextValue}
use Rattle.sockets.specs.Socket.{accepts_datagram}
use Rattle.socket_datagram.specs.Udp as Udps
use Rattle.socket_datagram.specs.Udp.{UdpValue, UdpSettings}
use Rattle.sockets.specs.declared.socket.Socket.{Socket}
use Rattle.socket_datagram.specs.declared.udp.UdpMetadata.{UdpMetadata}
use Rattle.sockets.specs.declared.socket.Socket.TheVariants as Kind
use Rattle.iface_ingress.specs.Delivered.{Slots, datagram_slot, passes, passes_in}
use Rattle.iface_ingress.specs.Processed.{names_no_endpoint}
use Rattle.iface_ingress.specs.FragmentStored.{HasSameSettings}
use Rattle.iface_ingress.specs.Packet.{PacketValue}
use Rattle.iface_ingress.specs.Reassembled.{is_astray}
use Rattle.iface_tables.specs.Groups.{is_joined}
use Rattle.iface_tables.specs.Inner.{InnerValue, at_instant, context_of, is_address_of, is_all_nodes, is_broadcast_of, is_for_us, is_foreign_loopback}
use Rattle.iface_tables.specs.Inner.{is_local_broadcast, is_loopback_in, is_loopback_of, is_mapped, is_member_of, is_local, is_all_systems, solicits_cidr}
use Rattle.iface_egress.specs.Departing.{HasSettingsOf}
use Rattle.iface_egress.specs.Set.{free, socket_in}
use Rattle.iface_egress.specs.declared.socket_meta.Meta.{Meta}
use Rattle.iface_egress.specs.declared.socket_set.Item.{Item}
use Rattle.interface.specs.Ingress.{Takes}
use Rattle.interface.specs.SameHost.{IsSameHost}
use Rattle.interface.specs.State.{State, at_device}
use Rattle.interface.specs.TransmittedFrame.{CanRead}
use Rattle.interface.proofs.Runs.{receives_same}
use Rattle.interface.proofs.SameHost.{serves_same, slot_same, same_where}
use Rattle.interface.proofs.Settings.{settings_then}
use Rattle.proof_stack.specs.PeerHost.ReceivedPackets.{Came}
use Rattle.lan.specs.Worlds.PollSteps.{Reaches, Step, Steps}
use Rattle.proof_stack.specs.Progress.Delivered.{IsExpected, hears, is_misframed_to, may_be_sender, reader_of}
use Rattle.proof_stack.specs.Progress.Inbox.{IsReady}
use Rattle.proof_stack.specs.Progress.Queued.{ports_of}
use Rattle.proof_stack.specs.Progress.Reached.{udp_slot}
use Rattle.proof_stack.specs.Progress.Ready.{HasRoomThroughout, IsExpectedThroughout, IsStillExpected, waits_for}
use Rattle.proof_stack.proofs.Peers.Place.{AtOr, Found, HoldsAt, ItemOr, found_holds, holds_found}
use Rattle.proof_stack.proofs.Peers.Taken.{reached}
use Rattle.proof_stack.proofs.Peers.Udp.{GotMore, got_law, got_first}
use Rattle.proof_stack.proofs.Polls.Refusals.{Refuses, not_accepted, refuses_law, refuses_where, same_udp}

-- THE HOST'S SETTINGS STAY

settings_out : (i i' : InnerValue) → IsSameHost i i' → HasSettingsOf i i'
settings_out i i' is = record {
  hardware = ap (λ (x : InnerValue). x.hardware) is;
  mtu = ap (λ (x : InnerValue). x.mtu) is;
  checksums = ap (λ (x : InnerValue). x.checksums) is;
  addresses = ap (λ (x : InnerValue). x.addresses) is;
  isn_key = ap (λ (x : InnerValue). x.isn_key) is;
  any_ip = ap (λ (x : InnerValue). x.any_ip) is;
  groups = ap (λ (x : InnerValue). x.groups) is;
  host_requirements = ap (λ (x : InnerValue). x.host_requirements) is;
  routes = ap (λ (x : InnerValue). x.routes) is;
}

settings_at : (i i' : InnerValue) → i' ≡ i → HasSettingsOf i i'
settings_at i i' is = settings_out i i' (same_where i i' is)

settings_in : (i i' : InnerValue) → HasSameSettings i i' → HasSettingsOf i i'
settings_in i i' same = record {
  hardware = same.hardware;
  mtu = same.mtu;
  checksums = same.checksums;
  addresses = same.addresses;
  isn_key = same.isn_key;
  any_ip = same.any_ip;
  groups = same.groups;
  host_requirements = same.host_requirements;
  routes = same.routes;
}

module _ {E : Type 0} (moves : E → Move → E → Type 0) (u : ℤ) where
  takes_same : (s s' : State E) (answer : Option Bool) → Takes moves s answer s' → HasSettingsOf s.host.inner s'.host.inner
  takes_same s s' None takes = settings_at s.host.inner s'.host.inner (ap (λ (x : State E). x.host.inner) takes.1)
  takes_same s s' (Some false) takes = settings_at s.host.inner s'.host.inner (ap (λ (x : State E). x.host.inner) takes.3)
  takes_same s s' (Some true) takes =
      let reads = takes.4 in
      let same = receives_same moves reads.0 (at_device s takes.1) s' reads.2 in
      settings_then s.host.inner reads.2.0.inner s'.host.inner (settings_in s.host.inner reads.2.0.inner same.0)
      (settings_out reads.2.0.inner s'.host.inner same.1)

  pub step_same : (s s' : State E) → Step moves u s s' → HasSettingsOf s.host.inner s'.host.inner
  step_same s s' (inl begins) =
      subst (λ (x : State E). HasSettingsOf s.host.inner x.host.inner) (sym begins)
      (record { hardware = refl; mtu = refl; checksums = refl; addresses = refl; isn_key = refl; any_ip = refl; groups = refl; host_requirements = refl; routes = refl })
  step_same s s' (inr (inl takes)) = takes_same s s' takes.0 takes.1
  step_same s s' (inr (inr (inl fragment))) =
      settings_at s.host.inner s'.host.inner
      (ap (λ (x : State E). x.host.inner) fragment.is ∙ fragment.same ∙ sym (ap (λ (x : State E). x.host.inner) fragment.was))
  step_same s s' (inr (inr (inr (inr waits)))) =
      settings_then s.host.inner waits.from.inner s'.host.inner
      (settings_at s.host.inner waits.from.inner (sym (ap (λ (x : State E). x.host.inner) waits.was)))
      (settings_then waits.from.inner waits.to.inner s'.host.inner
      (settings_out waits.from.inner waits.to.inner (serves_same moves waits.from waits.to waits.all waits.many waits.serves))
      (settings_at waits.to.inner s'.host.inner (ap (λ (x : State E). x.host.inner) waits.is)))
  step_same s s' (inr (inr (inr (inl turn)))) =
      settings_then s.host.inner turn.from.inner s'.host.inner
      (settings_at s.host.inner turn.from.inner (sym (ap (λ (x : State E). x.host.inner) turn.was)))
      (settings_then turn.from.inner turn.to.inner s'.host.inner
      (settings_out turn.from.inner turn.to.inner (slot_same moves turn.asked turn.from turn.to turn.slot turn.slot_after turn.turned turn.turns))
      (settings_at turn.to.inner s'.host.inner (ap (λ (x : State E). x.host.inner) turn.is)))

  pub steps_same : (n : ℕ) (s s' : State E) → Steps moves u n s s' → HasSettingsOf s.host.inner s'.host.inner
  steps_same zero s s' steps = settings_at s.host.inner s'.host.inner (ap (λ (x : State E). x.host.inner) steps)
  steps_same (suc n) s s' steps =
      settings_then s.host.inner steps.0.host.inner s'.host.inner (steps_same n s steps.0 steps.1) (step_same steps.0 s' steps.2)

  pub reached_same : (s s' : State E) → Reaches moves u s s' → HasSettingsOf (at_instant u s.host.inner) (at_instant u s'.host.inner)
  reached_same s s' so =
      let it : HasSettingsOf s.host.inner s'.host.inner = steps_same so.count s s' so.steps in
      record {
        hardware = it.hardware;
        mtu = it.mtu;
        checksums = it.checksums;
        addresses = it.addresses;
        isn_key = it.isn_key;
        any_ip = it.any_ip;
        groups = it.groups;
        host_requirements = it.host_requirements;
        routes = it.routes;
      }

  -- and so does what it reads
  pub reads_then : (s s' : State E) → Reaches moves u s s' → (i : InnerValue) (to : HardwareAddress) → CanRead i to (reader_of s.host.inner)
      → CanRead i to (reader_of s'.host.inner)
  reads_then s s' so i to reads =
      let same : HasSettingsOf (at_instant u s.host.inner) (at_instant u s'.host.inner) = reached_same s s' so in
      subst (CanRead i to) (λ k. record { hardware = sym same.hardware k; checksums = sym same.checksums k }) reads

-- WHAT A HOST ACCEPTS BY ITS SETTINGS

module _ (i i' : InnerValue) (same : HasSettingsOf i i') where
  pub broadcast : (a : IpAddress) → is_local_broadcast i' a ≡ is_local_broadcast i a
  broadcast (Address.Ipv4 a) = ap (λ (bs : List IpCidr). is_broadcast_v4 a || list_any (is_broadcast_of a) bs) same.addresses
  broadcast (Address.Ipv6 a) = refl

  member : (a : IpAddress) → is_member_of i' a ≡ is_member_of i a
  member (Address.Ipv4 a) k = is_all_systems a || is_joined (same.groups k) (Address.Ipv4 a)
  member (Address.Ipv6 a) k = is_all_nodes a || list_any (solicits_cidr a) (same.addresses k) || is_joined (same.groups k) (Address.Ipv6 a)

  own : (a : IpAddress) → is_local i' a ≡ is_local i a
  own a k = same.any_ip k || list_any (is_address_of a) (same.addresses k)

  pub for_us : (a : IpAddress) → is_for_us i' a ≡ is_for_us i a
  for_us a k = own a k || member a k || broadcast a k || is_loopback_in a

  pub foreign : (a : IpAddress) → is_foreign_loopback i' a ≡ is_foreign_loopback i a
  foreign a = ap (λ (bs : List IpCidr). is_loopback a && not (list_any (is_loopback_of a) bs)) same.addresses

  pub astray : (a b : IpAddress) → is_astray i' a b ≡ is_astray i a b
  astray a b k = foreign a k || (foreign b k || (same.host_requirements k
      && ((not (is_unspecified a) && list_any (is_address_of a) (same.addresses k)) || (is_mapped a || is_mapped b))))

  pub sender : (a : IpAddress) → may_be_sender i' a ≡ may_be_sender i a
  sender (Address.Ipv4 a) = ap (λ (b : Bool). (is_unicast_v4 a && not b) || is_unspecified_v4 a) (broadcast (Address.Ipv4 a))
  sender (Address.Ipv6 a) = refl

  pub heard : (to : HardwareAddress) → hears i' to ≡ hears i to
  heard Hardware.Ip = refl
  heard (Hardware.Ethernet node) =
      ap (λ (h : HardwareAddress). is_same_hardware h (Hardware.Ethernet node) || (is_ethernet_broadcast node || is_ethernet_multicast node))
      same.hardware

  pub framed : (to : HardwareAddress) (a : IpAddress) → is_misframed_to i' to a ≡ is_misframed_to i to a
  framed Hardware.Ip a = refl
  framed (Hardware.Ethernet node) (Address.Ipv4 a) = λ k.
      (same.host_requirements k && (is_ethernet_broadcast node || is_ethernet_multicast node))
      && (is_unicast_v4 a && not (broadcast (Address.Ipv4 a) k))
  framed (Hardware.Ethernet node) (Address.Ipv6 a) = refl

  pub nobody : (ip : IpRepr) → names_no_endpoint i' ip ≡ names_no_endpoint i ip
  nobody ip k = is_unspecified (source_of ip) || (is_unspecified (destination_of ip) || (broadcast (destination_of ip) k || is_multicast (destination_of ip)))

  still : (slots slots' : Slots) (to : HardwareAddress) (header : IpRepr) (ports : UdpRepr) (m : ℕ) (meta meta' : Meta) (w w' : UdpValue)
      → IsExpected i slots to header ports m meta w → datagram_slot (context_of i') header ports slots' ≡ Some m
      → slice_get slots' m ≡ Some (udp_slot meta' w') → IsExpected i' slots' to header ports m meta' w'
  still slots slots' to header ports m meta meta' w w' is slot stands = record {
    heard = heard to ∙ is.heard;
    framed = framed to (destination_of header) ∙ is.framed;
    sender = sender (source_of header) ∙ is.sender;
    here = astray (source_of header) (destination_of header) ∙ is.here;
    ours = for_us (destination_of header) ∙ is.ours;
    slot = slot;
    stands = stands;
  }

-- THE FIRST PLACE

module _ {X : Type 0} (p : X → Bool) (d : X) where
  denied : (x y : ℕ) (b : Bool) → b ≡ true → cond (not b) x y ≡ y
  denied x y true is = refl
  denied x y false is = absurd (cc)

  passed : (x y : ℕ) (b : Bool) → b ≡ false → cond (not b) x y ≡ x
  passed x y false is = refl
  passed x y true is = absurd (cc)

  prefix : (xs : List X) (m : ℕ) → m < length xs → p (get_or xs m d) ≡ true → ((k : ℕ) → k < m → p (get_or xs k d) ≡ false)
      → prefix_len (λ x. not (p x)) xs ≡ m
  prefix [] m within is before = absurd (omega (arith, within))
  prefix (x ∷ xs) zero within is before = denied (1 + prefix_len (λ x. not (p x)) xs) 0 (p x) is
  prefix (x ∷ xs) (suc m) within is before =
      passed (1 + prefix_len (λ x. not (p x)) xs) 0 (p x) (before zero (omega arith))
      ∙ omega (arith, prefix xs m (omega (arith, within)) is (λ k less. before (suc k) (omega (arith, less))))

  pub position_is : (xs : List X) (m : ℕ) → m < length xs → p (get_or xs m d) ≡ true → ((k : ℕ) → k < m → p (get_or xs k d) ≡ false)
      → position p xs ≡ Some m
  position_is xs m within is before =
      ap (λ (n : ℕ). cond (nat_lt n (length xs)) (Some n) None) (prefix xs m within is before)
      ∙ ap (λ (b : Bool). cond b (Some m) None) ((Decides-ltb m (length xs)).1 within)

-- A PLACE AND WHAT IS FOUND THERE

module _ (F : Type 0) (W : Socket → Type 0) where
  pub at_from : (slots : Slots) (k : ℕ) → k < length slots → ItemOr F W (get_or slots k free).inner → AtOr F W slots k
  at_from [] k within holds = absurd (omega (arith, within))
  at_from (p ∷ ps) zero within holds = holds
  at_from (p ∷ ps) (suc k) within holds = at_from ps k (omega (arith, within)) holds

  pub from_at : (slots : Slots) (k : ℕ) → AtOr F W slots k → ItemOr F W (get_or slots k free).inner
  from_at [] k holds = absurd holds
  from_at (p ∷ ps) zero holds = holds
  from_at (p ∷ ps) (suc k) holds = from_at ps k holds

pub record Stands (slots : Slots) (m : ℕ) (s : Socket) : Type 0 where
  pub meta : Meta
  pub within : m < length slots
  pub here : get_or slots m free ≡ record { inner = Some (record { meta = meta; socket = s }) }
  pub stands : slice_get slots m ≡ Some (record { inner = Some (record { meta = meta; socket = s }) })

pub stands_at : (slots : Slots) (m : ℕ) (s : Socket) → HoldsAt (λ x. x ≡ s) slots m → Stands slots m s
stands_at [] m s holds = absurd holds
stands_at (p ∷ ps) zero s holds = by p.inner holds where
  by : (o : Option (Item Socket)) → ItemOr ⊥ (λ x. x ≡ s) o → Stands (record { inner = o } ∷ ps) zero s
  by None none = absurd none
  by (Some item) is = record {
    meta = item.meta;
    within = omega arith;
    here = ap (λ (x : Socket). record { inner = Some (record { meta = item.meta; socket = x }) }) is;
    stands = ap (λ (x : Socket). Some (record { inner = Some (record { meta = item.meta; socket = x }) })) is;
  }
stands_at (p ∷ ps) (suc m) s holds =
    let rest = stands_at ps m s holds in
    record { meta = rest.meta; within = omega (arith, rest.within); here = rest.here; stands = rest.stands }

-- THE SOCKETS STAY AS THEY ARE FOR THIS DATAGRAM

module _ {E : Type 0} (moves : E → Move → E → Type 0) (u : ℤ) (r : State E) (to : HardwareAddress) (header : IpRepr) (ports : UdpRepr) (m : ℕ) (meta : Meta)
    (w : UdpValue) (is : IsExpectedThroughout (at_instant u r.host.inner) r.slots to header ports m meta w) where
  abbrev at_first : ContextValue
  at_first = context_of (at_instant u r.host.inner)

  abbrev Refused : Socket → Type 0
  Refused = Refuses (Came moves u r) at_first header ports

  first : (m < length r.slots) × (passes (λ s. accepts_datagram at_first s header ports) (get_or r.slots m free) ≡ true)
      × ((k : ℕ) → k < m → passes (λ s. accepts_datagram at_first s header ports) (get_or r.slots k free) ≡ false)
  first = position-Some (passes (λ s. accepts_datagram at_first s header ports)) r.slots m free is.expected.slot

  no_query : (k : ℕ) → k < length r.slots → passes (waits_for ports) (get_or r.slots k free) ≡ false
  no_query k within = by (passes (waits_for ports) (get_or r.slots k free)) refl where
    by : (b : Bool) → passes (waits_for ports) (get_or r.slots k free) ≡ b → b ≡ false
    by false at = refl
    by true at =
        absurd (let clash : true ≡ false = sym (list_any_at (passes (waits_for ports)) r.slots k free within at) ∙ is.no_answer in cc)

  refuses : (o : Option (Item Socket)) → passes_in (λ s. accepts_datagram at_first s header ports) o ≡ false → passes_in (waits_for ports) o ≡ false
      → ItemOr (Unit {0}) Refused o
  refuses None refused none = tt
  refuses (Some item) refused none = refuses_where (Came moves u r) at_first header ports item.socket refused none

  before : (k : ℕ) → k < m → AtOr (Unit {0}) Refused r.slots k
  before k less =
      let within : k < length r.slots = omega (arith, less, first.0) in
      at_from (Unit {0}) Refused r.slots k within (refuses (get_or r.slots k free).inner (first.2 k less) (no_query k within))

  module _ (x : State E) (so : Reaches moves u r x) where
    abbrev then_host : InnerValue
    then_host = at_instant u x.host.inner

    same : HasSettingsOf (at_instant u r.host.inner) then_host
    same = reached_same moves u r x so

    broadcasts : (context_of then_host).is_broadcast (destination_of header) ≡ at_first.is_broadcast (destination_of header)
    broadcasts = broadcast (at_instant u r.host.inner) then_host same (destination_of header)

    got : Found (GotMore moves u r w) x.slots m
    got =
        holds_found (GotMore moves u r w) x.slots m
        (reached moves u r ⊥ (GotMore moves u r w) (got_law moves u r w) m so.count x
        (found_holds (GotMore moves u r w) r.slots m (Kind.Udp w) (ap socket_in is.expected.stands) (got_first moves u r w)) so.steps).1

    there : Stands x.slots m (Kind.Udp got.holds.new)
    there = stands_at x.slots m (Kind.Udp got.holds.new) (found_holds (λ s. s ≡ Kind.Udp got.holds.new) x.slots m got.socket got.is got.holds.is)

    accepted : Udps.accepts at_first w header ports ≡ true
    accepted =
        ap (passes (λ s. accepts_datagram at_first s header ports))
        (sym (get_or_from_slice_get r.slots m (udp_slot meta w) free is.expected.stands)) ∙ first.1

    accepts_then : passes (λ s. accepts_datagram (context_of then_host) s header ports) (get_or x.slots m free) ≡ true
    accepts_then =
        ap (passes (λ s. accepts_datagram (context_of then_host) s header ports)) there.here
        ∙ same_udp (Came moves u r) at_first header ports (context_of then_host) broadcasts got.holds.new
        ∙ ap (λ (s : UdpSettings). Udps.accepts at_first (record got.holds.new { settings = s }) header ports) got.holds.bound
        ∙ accepted

    refused_in : (o : Option (Item Socket)) → ItemOr (Unit {0}) Refused o
        → passes_in (λ s. accepts_datagram (context_of then_host) s header ports) o ≡ false
    refused_in None refused = refl
    refused_in (Some item) refused = not_accepted (Came moves u r) at_first header ports (context_of then_host) broadcasts item.socket refused

    refused_then : (k : ℕ) → k < m → passes (λ s. accepts_datagram (context_of then_host) s header ports) (get_or x.slots k free) ≡ false
    refused_then k less =
        refused_in (get_or x.slots k free).inner
        (from_at (Unit {0}) Refused x.slots k
        (reached moves u r (Unit {0}) Refused (refuses_law (Came moves u r) at_first header ports) k so.count x (before k less) so.steps).1)

    slot_then : datagram_slot (context_of then_host) header ports x.slots ≡ Some m
    slot_then =
        position_is (passes (λ s. accepts_datagram (context_of then_host) s header ports)) free x.slots m there.within accepts_then refused_then

    pub still_expected : IsStillExpected then_host x.slots to header ports m w
    still_expected = record {
      meta = there.meta;
      value = got.holds.new;
      expected =
          still (at_instant u r.host.inner) then_host same r.slots x.slots to header ports m meta there.meta w got.holds.new is.expected slot_then
          there.stands;
      settings = got.holds.bound;
    }

    pub reads_still : (i : InnerValue) → CanRead i to (reader_of r.host.inner) → CanRead i to (reader_of x.host.inner)
    reads_still i reads = reads_then moves u r x so i to reads

-- so, with room throughout, it is ready
pub is_ready : {E : Type 0} (moves : E → Move → E → Type 0) (frames_at : E → List (List ℕ)) (u : ℤ) (r : State E) (i : InnerValue) (to : HardwareAddress)
    (p : PacketValue) (settings : UdpSettings) (d : UdpMetadata × List ℕ) (m : ℕ) (meta : Meta) (w : UdpValue)
    → IsExpectedThroughout (at_instant u r.host.inner) r.slots to p.header (ports_of settings d) m meta w
    → CanRead i to (reader_of r.host.inner) → HasRoomThroughout moves frames_at u r i to p (length d.1) m
    → IsReady moves frames_at u r i to p settings d m
is_ready moves frames_at u r i to p settings d m meta w is reads room x ident padding more so next =
    let then_ = still_expected moves u r to p.header (ports_of settings d) m meta w is x so in record {
      meta = then_.meta;
      value = then_.value;
      expected = then_.expected;
      room = room x ident padding more then_.value so next (ap socket_in then_.expected.stands);
      reads = reads_still moves u r to p.header (ports_of settings d) m meta w is x so i reads;
    }
