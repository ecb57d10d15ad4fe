-- What holds of the item at a slot, as a TCP socket with its mark, holds after what frames bring.
use Rattle.std.proofs.Common.{◌≡◌, ℕ, zero, suc, Bool, true, false, if◌then◌else◌, List, [], ◌∷◌, ◌++◌, Option, Some, None, refl, sym, subst}
use Rattle.std.specs.Prelude.{slice_get, slice_set}
use Rattle.ip_wire.specs.IpRepr.{IpRepr}
use Rattle.ip_wire.specs.IpRepr.TheVariants as Ip
use Rattle.ip_wire.specs.TcpHeader.{TcpHeader}
use Rattle.tcp_block.specs.Value.{TcpValue}
use Rattle.iface_ingress.specs.Arrives.{Arrived, ArrivesV4, ArrivesV6, Brings, Hands, renewed}
use Rattle.iface_ingress.specs.Context.{ContextValue}
use Rattle.iface_ingress.specs.Datagrams.{GivenAt, GivenIn, ItemTakes, TakesDatagram}
use Rattle.iface_ingress.specs.Delivered.{all_given, changed_at, changed_in, datagram_slot, given, packet_delivered, is_taken_raw, segment_delivered}
use Rattle.iface_ingress.specs.Delivered.{segment_slot, with_change, with_icmpv4, with_icmpv6, with_packet, with_segment}
use Rattle.iface_ingress.specs.EthernetRepr.{EthernetRepr}
use Rattle.iface_ingress.specs.Processed.{HandsTo, control_v4_slots, control_v6_slots, names_no_endpoint}
use Rattle.iface_ingress.specs.Icmpv4Header.{Icmpv4Header}
use Rattle.iface_ingress.specs.Icmpv6.{MessageValue}
use Rattle.iface_ingress.specs.Incoming.{Arp, IncomingValue, Ip4, Ip6}
use Rattle.iface_ingress.specs.IpAddress.TheVariants as Address
use Rattle.iface_ingress.specs.Packet.{Bytes, ControlV4, ControlV6, Datagram, PayloadValue, Segment}
use Rattle.iface_ingress.specs.Socket.{Socket}
use Rattle.iface_ingress.specs.Socket.TheVariants as Kind
use Rattle.sockets.specs.Socket.{accepts_icmpv4, accepts_icmpv6, accepts_packet}
use Rattle.iface_tables.specs.Inner.{InnerValue, context_of, is_for_us}
use Rattle.iface_egress.specs.declared.socket_set.Item.{Item}
use Rattle.iface_egress.specs.declared.socket_set.SocketStorage.{SocketStorage}
use Rattle.interface.specs.UdpRepr.{UdpRepr}

abbrev pub Slots : Type 0
Slots = List (SocketStorage Socket)

-- THE ITEM AT A PLACE

abbrev pub HasItem : (Item Socket → Type 0) → Option (Item Socket) → Type 0
HasItem P None = ⊥
HasItem P (Some item) = P item

abbrev pub AtItem : (Item Socket → Type 0) → Slots → ℕ → Type 0
AtItem P [] n = ⊥
AtItem P (p ∷ ps) zero = HasItem P p.inner
AtItem P (p ∷ ps) (suc n) = AtItem P ps n

module _ (P Q : Item Socket → Type 0) where
  pub has_so : ((item : Item Socket) → P item → Q item) → (o : Option (Item Socket)) → HasItem P o → HasItem Q o
  has_so so None here = here
  has_so so (Some item) here = so item here

  pub at_so : ((item : Item Socket) → P item → Q item) → (ps : Slots) (n : ℕ) → AtItem P ps n → AtItem Q ps n
  at_so so [] n here = absurd here
  at_so so (p ∷ ps) zero here = has_so so p.inner here
  at_so so (p ∷ ps) (suc n) here = at_so so ps n here

  -- one place is exchanged
  pub exchanged : ((item : Item Socket) → P item → Q item) → (before after : Slots) (p p' : SocketStorage Socket) (n : ℕ)
      → (HasItem P p.inner → HasItem Q p'.inner) → AtItem P (before ++ p ∷ after) n → AtItem Q (before ++ p' ∷ after) n
  exchanged so [] after p p' zero new here = new here
  exchanged so [] after p p' (suc n) new here = at_so so after n here
  exchanged so (x ∷ before) after p p' zero new here = has_so so x.inner here
  exchanged so (x ∷ before) after p p' (suc n) new here = exchanged so before after p p' n new here

  both_has : (o : Option (Item Socket)) → HasItem P o → HasItem Q o → HasItem (λ item. P item × Q item) o
  both_has None one two = one
  both_has (Some item) one two = (one, two)

  pub both_at : (ps : Slots) (n : ℕ) → AtItem P ps n → AtItem Q ps n → AtItem (λ item. P item × Q item) ps n
  both_at [] n one two = absurd one
  both_at (p ∷ ps) zero one two = both_has p.inner one two
  both_at (p ∷ ps) (suc n) one two = both_at ps n one two

  -- by what is there
  has_by : (o : Option (Item Socket)) → ((item : Item Socket) → o ≡ Some item → Q item) → HasItem P o → HasItem Q o
  has_by None all here = here
  has_by (Some item) all here = all item refl

  pub at_by : (ps : Slots) (n : ℕ) → ((at : SocketStorage Socket) (item : Item Socket) → slice_get ps n ≡ Some at → at.inner ≡ Some item → Q item) → AtItem P ps n
      → AtItem Q ps n
  at_by [] n all here = absurd here
  at_by (p ∷ ps) zero all here = has_by p.inner (λ item is. all p item refl is) here
  at_by (p ∷ ps) (suc n) all here = at_by ps n all here

module _ (P : Item Socket → Type 0) where
  has_found : (o : Option (Item Socket)) (item : Item Socket) → o ≡ Some item → HasItem P o → P item
  has_found o item is here = subst (HasItem P) is here

  pub at_found : (ps : Slots) (n : ℕ) (at : SocketStorage Socket) (item : Item Socket) → slice_get ps n ≡ Some at → at.inner ≡ Some item → AtItem P ps n → P item
  at_found [] n at item there is here = absurd here
  at_found (p ∷ ps) zero at item there is here =
      let same : p ≡ at = cc in has_found at.inner item is (subst (λ (x : SocketStorage Socket). HasItem P x.inner) same here)
  at_found (p ∷ ps) (suc n) at item there is here = at_found ps n at item there is here

  -- a slot is set
  pub set_at : (ps : Slots) (at n : ℕ) (p new : SocketStorage Socket) → slice_get ps at ≡ Some p → (HasItem P p.inner → HasItem P new.inner) → AtItem P ps n
      → AtItem P (slice_set ps at new) n
  set_at [] at n p new is so here = absurd here
  set_at (q ∷ qs) zero zero p new is so here = let same : q ≡ p = cc in so (subst (λ (x : SocketStorage Socket). HasItem P x.inner) same here)
  set_at (q ∷ qs) zero (suc n) p new is so here = here
  set_at (q ∷ qs) (suc at) zero p new is so here = here
  set_at (q ∷ qs) (suc at) (suc n) p new is so here = set_at qs at n p new is so here

  -- WHAT FRAMES BRING, if it stays as a TCP socket stays, and as segments come to it

  module _ (quiet : (item : Item Socket) (s : Socket) → P item → ((u : TcpValue) → item.socket ≡ Kind.Tcp u → s ≡ Kind.Tcp u) → P (record item { socket = s }))
      (segment : (cx : ContextValue) (ip : IpRepr) (header : TcpHeader) (bytes : List ℕ) (item : Item Socket) → P item
      → P (record item { socket = with_segment cx ip header bytes item.socket })) (n : ℕ) where
    abbrev At : Slots → Type 0
    At ps = AtItem P ps n

    abbrev Changes : (Socket → Socket) → Type 0
    Changes change = (item : Item Socket) → P item → P (record item { socket = change item.socket })

    item_changed : (change : Socket → Socket) → Changes change → (o : Option (Item Socket)) → HasItem P o → HasItem P (with_change change (record { inner = o })).inner
    item_changed change so None here = here
    item_changed change so (Some item) here = so item here

    changed_by : (change : Socket → Socket) → Changes change → (at : ℕ) (o : Option (SocketStorage Socket)) (ps : Slots) → slice_get ps at ≡ o → At ps →
        At (changed_in change (Some at) o ps)
    changed_by change so at None ps is here = here
    changed_by change so at (Some p) ps is here = set_at ps at n p (with_change change p) is (item_changed change so p.inner) here

    changed : (change : Socket → Socket) → Changes change → (at : Option ℕ) (ps : Slots) → At ps → At (changed_at change at ps)
    changed change so None ps here = here
    changed change so (Some at) ps here = changed_by change so at (slice_get ps at) ps refl here

    given_so : (test : Socket → Bool) (change : Socket → Socket) → Changes change → Changes (given test change)
    given_so test change so item here =
        elim (test item.socket) as (λ (b : Bool). P (record item { socket = if b then change item.socket else item.socket })) [
          | true ↦ so item here
          | false ↦ here
        ]

    all_so : (test : Socket → Bool) (change : Socket → Socket) → Changes change → (ps : Slots) (k : ℕ) → AtItem P ps k → AtItem P (all_given test change ps) k
    all_so test change so [] k here = absurd here
    all_so test change so (p ∷ ps) zero here = item_changed (given test change) (given_so test change so) p.inner here
    all_so test change so (p ∷ ps) (suc k) here = all_so test change so ps k here

    -- a change that leaves TCP sockets as they are
    still : (change : Socket → Socket) → ((u : TcpValue) → change (Kind.Tcp u) ≡ Kind.Tcp u) → Changes change
    still change same item here = quiet item (change item.socket) here (λ u is. subst (λ (s : Socket). change s ≡ Kind.Tcp u) (sym is) (same u))

    messages : (ip : IpRepr) (message : Icmpv4Header) (bytes : List ℕ) (ps : Slots) → At ps → At (control_v4_slots ip message bytes ps)
    messages (Ip.Ipv4 header) message bytes ps here =
        all_so (λ s. accepts_icmpv4 s (Address.Ipv4 header.dst_addr) message bytes) (with_icmpv4 header message bytes)
        (still (with_icmpv4 header message bytes) (λ u. refl)) ps n here
    messages (Ip.Ipv6 header) message bytes ps here = here

    messages_v6 : (ip : IpRepr) (message : MessageValue) (bytes : List ℕ) (ps : Slots) → At ps → At (control_v6_slots ip message bytes ps)
    messages_v6 (Ip.Ipv4 header) message bytes ps here = here
    messages_v6 (Ip.Ipv6 header) message bytes ps here =
        all_so (λ s. accepts_icmpv6 s (Address.Ipv6 header.dst_addr) message bytes) (with_icmpv6 header message bytes)
        (still (with_icmpv6 header message bytes) (λ u. refl)) ps n here

    segments : (nobody : Bool) (cx : ContextValue) (ip : IpRepr) (header : TcpHeader) (bytes : List ℕ) (ps : Slots) → At ps →
        At (if nobody then ps else segment_delivered cx ip header bytes ps)
    segments true cx ip header bytes ps here = here
    segments false cx ip header bytes ps here =
        changed (with_segment cx ip header bytes) (segment cx ip header bytes) (segment_slot ip header ps) ps here

    datagram_item : (cx : ContextValue) (ip : IpRepr) (udp : UdpRepr) (bytes : List ℕ) (o o' : Option (Item Socket)) → ItemTakes cx ip udp bytes o o' → HasItem P o →
        HasItem P o'
    datagram_item cx ip udp bytes None o' takes here = absurd here
    datagram_item cx ip udp bytes (Some item) o' takes here =
        subst (HasItem P) (sym takes.2)
        (quiet item takes.0 here (λ u is. subst (λ (s : Socket). TakesDatagram cx ip udp bytes s takes.0) is takes.1))

    datagram_in : (cx : ContextValue) (ip : IpRepr) (udp : UdpRepr) (bytes : List ℕ) (at : ℕ) (o : Option (SocketStorage Socket)) (ps qs : Slots) →
        slice_get ps at ≡ o → GivenIn cx ip udp bytes at o ps qs → At ps → At qs
    datagram_in cx ip udp bytes at None ps qs there goes here = subst At (sym goes) here
    datagram_in cx ip udp bytes at (Some slot) ps qs there goes here =
        subst At (sym goes.2) (set_at ps at n slot goes.0 there (datagram_item cx ip udp bytes slot.inner goes.0.inner goes.1) here)

    datagrams : (cx : ContextValue) (ip : IpRepr) (udp : UdpRepr) (bytes : List ℕ) (at : Option ℕ) (ps qs : Slots) → GivenAt cx ip udp bytes at ps qs → At ps → At qs
    datagrams cx ip udp bytes None ps qs goes here = subst At (sym goes) here
    datagrams cx ip udp bytes (Some at) ps qs goes here = datagram_in cx ip udp bytes at (slice_get ps at) ps qs refl goes here

    handed : (i : InnerValue) (ps : Slots) (ip : IpRepr) (carried : Option PayloadValue) (qs : Slots) → HandsTo i ps ip carried qs → At ps → At qs
    handed i ps ip None qs to here = subst At (sym to) here
    handed i ps ip (Some (ControlV4 message bytes)) qs to here = subst At (sym to) (messages ip message bytes ps here)
    handed i ps ip (Some (ControlV6 message bytes)) qs to here = subst At (sym to) (messages_v6 ip message bytes ps here)
    handed i ps ip (Some (Bytes bytes)) qs to here = subst At (sym to) here
    handed i ps ip (Some (Datagram udp bytes)) qs to here = datagrams (context_of i) ip udp bytes (datagram_slot (context_of i) ip udp ps) ps qs to here
    handed i ps ip (Some (Segment header bytes)) qs to here = subst At (sym to) (segments (names_no_endpoint i ip) (context_of i) ip header bytes ps here)

    packets : (ip : IpRepr) (payload : List ℕ) (ps : Slots) → At ps → At (packet_delivered ip payload ps)
    packets ip payload ps here = all_so (λ s. accepts_packet s ip) (with_packet ip payload) (still (with_packet ip payload) (λ u. refl)) ps n here

    hands : (i : InnerValue) (ps : Slots) (ip : IpRepr) (payload : List ℕ) (taken : Bool) (a : Arrived) → Hands i ps ip payload taken a → At ps → At a.slots
    hands i ps ip payload taken a (carried, is, so) here = handed i ps ip carried a.slots so.slots_are here

    v4 : (ours : Bool) (i : InnerValue) (ps : Slots) (link : Option EthernetRepr) (ip : IpRepr) (payload : List ℕ) (a : Arrived) →
        ArrivesV4 ours i ps link ip payload a → At ps → At a.slots
    v4 true i ps link ip payload a is here =
        hands (renewed i link ip) (packet_delivered ip payload ps) ip payload (is_taken_raw ip ps) a is (packets ip payload ps here)
    v4 false i ps link ip payload a is here = subst At (sym is.slots_are) (packets ip payload ps here)

    v6 : (ours : Bool) (i : InnerValue) (ps : Slots) (link : Option EthernetRepr) (ip : IpRepr) (payload : List ℕ) (a : Arrived) →
        ArrivesV6 ours i ps link ip payload a → At ps → At a.slots
    v6 true i ps link ip payload a is here =
        hands (renewed i link ip) (packet_delivered ip payload ps) ip payload (is_taken_raw ip ps) a is (packets ip payload ps here)
    v6 false i ps link ip payload a is here = subst At (sym is.slots_are) here

    pub brings : (i : InnerValue) (ps : Slots) (content : Option IncomingValue) (a : Arrived) → Brings i ps content a → At ps → At a.slots
    brings i ps None a is here = subst At (sym is.slots_are) here
    brings i ps (Some (Arp link packet)) a is here = subst At (sym is.slots_are) here
    brings i ps (Some (Ip4 link header fragment payload)) a is here = v4 (is_for_us i (Address.Ipv4 header.dst_addr)) i ps link (Ip.Ipv4 header) payload a is here
    brings i ps (Some (Ip6 link header payload)) a is here = v6 (is_for_us i (Address.Ipv6 header.dst_addr)) i ps link (Ip.Ipv6 header) payload a is here
