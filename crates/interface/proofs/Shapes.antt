-- An arrival leaves each slot with a socket, or free, as it was.
use Rattle.std.proofs.Common.{◌≡◌, ℕ, zero, suc, ◌+◌, Bool, true, false, cond, if◌then◌else◌, List, [], ◌∷◌, ◌++◌, length, map, Option, Some, None, refl, ap}
use Rattle.std.proofs.Common.{◌∙◌, sym}
use Rattle.std.specs.Prelude.{not, is_none, slice_get, slice_set}
use Rattle.std.proofs.lemmas.List.{length-map}
use Rattle.std.proofs.lemmas.List.Sums.{sum_by-cons}
use Rattle.net_base.specs.Device.{Move}
use Rattle.iface_ingress.specs.Icmpv4Header.{Icmpv4Header}
use Rattle.iface_ingress.specs.Icmpv6.{MessageValue}
use Rattle.ip_wire.specs.IpRepr.{IpRepr}
use Rattle.ip_wire.specs.IpRepr.TheVariants as Ip
use Rattle.ip_wire.specs.TcpHeader.{TcpHeader}
use Rattle.ip_wire.specs.UdpRepr.{UdpRepr}
use Rattle.ip_wire.specs.declared.ethernet.repr.EthernetRepr.{EthernetRepr}
use Rattle.iface_ingress.specs.Context.{ContextValue}
use Rattle.iface_ingress.specs.Packet.{PayloadValue, ControlV4, ControlV6, Bytes, Datagram, Segment}
use Rattle.iface_ingress.specs.Socket.{Socket}
use Rattle.iface_ingress.specs.Incoming.{IncomingValue, Arp, Ip4, Ip6}
use Rattle.iface_egress.specs.declared.socket_set.Item.{Item}
use Rattle.iface_egress.specs.declared.socket_set.SocketStorage.{SocketStorage}
use Rattle.iface_tables.specs.Inner.{InnerValue, context_of}
use Rattle.iface_ingress.specs.Arrives.{Arrived, ArrivesV4, ArrivesV6, Brings, Hands, renewed, whole_arrived}
use Rattle.iface_ingress.specs.Delivered.{Slots, with_change, changed_item, changed_in, changed_at, packet_delivered, is_taken_raw, datagram_slot}
use Rattle.iface_ingress.specs.Datagrams.{ItemTakes, GivenIn, GivenAt}
use Rattle.iface_ingress.specs.Delivered.{segment_delivered, segment_slot, with_segment}
use Rattle.iface_ingress.specs.Processed.{HandsTo, control_v4_slots, control_v6_slots, segment_slots, names_no_endpoint}
use Rattle.interface.specs.State.{State}
use Rattle.interface.specs.Ingress.{Takes}
use Rattle.interface.specs.Used.{is_used, sockets_in}

-- which slots have sockets
abbrev pub shape : Slots → List Bool
shape slots = map is_used slots

abbrev pub trues : List Bool → ℕ
trues [] = 0
trues (b ∷ bs) = cond b 1 0 + trues bs

pub sockets_so : (slots : Slots) → sockets_in slots ≡ trues (shape slots)
sockets_so [] = refl
sockets_so (p ∷ ps) = sum_by-cons (λ (x : SocketStorage Socket). cond (is_used x) 1 0) p ps ∙ ap (λ (n : ℕ). cond (is_used p) 1 0 + n) (sockets_so ps)

pub same_length : (slots slots' : Slots) → shape slots' ≡ shape slots → length slots' ≡ length slots
same_length slots slots' same = sym (length-map slots' is_used) ∙ ap length same ∙ length-map slots is_used

-- one place among others
pub one_slot : (before after : Slots) (p p' : SocketStorage Socket) → is_used p' ≡ is_used p → shape (before ++ p' ∷ after) ≡ shape (before ++ p ∷ after)
one_slot [] after p p' same = ap (λ (b : Bool). b ∷ shape after) same
one_slot (x ∷ before) after p p' same = ap (λ (bs : List Bool). is_used x ∷ bs) (one_slot before after p p' same)

-- A CHANGE OF SOCKETS

item_used : (change : Socket → Socket) (o : Option (Item Socket)) → not (is_none (changed_item change o)) ≡ not (is_none o)
item_used change None = refl
item_used change (Some item) = refl

all_shape : (change : Socket → Socket) (slots : Slots) → shape (map (with_change change) slots) ≡ shape slots
all_shape change [] = refl
all_shape change (p ∷ ps) = λ k. item_used change p.inner k ∷ all_shape change ps k

set_shape : (slots : Slots) (at : ℕ) (p p' : SocketStorage Socket) → slice_get slots at ≡ Some p → is_used p' ≡ is_used p →
    shape (slice_set slots at p') ≡ shape slots
set_shape [] at p p' is same = refl
set_shape (x ∷ xs) zero p p' is same = let e : p ≡ x = cc in ap (λ (b : Bool). b ∷ shape xs) (same ∙ ap is_used e)
set_shape (x ∷ xs) (suc at) p p' is same = ap (λ (bs : List Bool). is_used x ∷ bs) (set_shape xs at p p' is same)

changed_in_shape : (change : Socket → Socket) (at : ℕ) (o : Option (SocketStorage Socket)) (slots : Slots) → slice_get slots at ≡ o →
    shape (changed_in change (Some at) o slots) ≡ shape slots
changed_in_shape change at (Some slot) slots is = set_shape slots at slot (with_change change slot) is (item_used change slot.inner)
changed_in_shape change at None slots is = refl

changed_shape : (change : Socket → Socket) (at : Option ℕ) (slots : Slots) → shape (changed_at change at slots) ≡ shape slots
changed_shape change (Some at) slots = changed_in_shape change at (slice_get slots at) slots refl
changed_shape change None slots = refl

-- AN ARRIVAL

packet_shape : (ip : IpRepr) (payload : List ℕ) (slots : Slots) → shape (packet_delivered ip payload slots) ≡ shape slots
packet_shape ip payload slots = all_shape _ slots

v4_shape : (ip : IpRepr) (message : Icmpv4Header) (bytes : List ℕ) (slots : Slots) → shape (control_v4_slots ip message bytes slots) ≡ shape slots
v4_shape (Ip.Ipv4 header) message bytes slots = all_shape _ slots
v4_shape (Ip.Ipv6 header) message bytes slots = refl

v6_shape : (ip : IpRepr) (message : MessageValue) (bytes : List ℕ) (slots : Slots) → shape (control_v6_slots ip message bytes slots) ≡ shape slots
v6_shape (Ip.Ipv4 header) message bytes slots = refl
v6_shape (Ip.Ipv6 header) message bytes slots = all_shape _ slots

segment_shape : (i : InnerValue) (slots : Slots) (ip : IpRepr) (header : TcpHeader) (bytes : List ℕ) →
    shape (segment_slots i slots ip header bytes) ≡ shape slots
segment_shape i slots ip header bytes =
    elim (names_no_endpoint i ip) as (λ b. shape (if b then slots else segment_delivered (context_of i) ip header bytes slots) ≡ shape slots) [
      | true ↦ refl
      | false ↦ changed_shape (with_segment (context_of i) ip header bytes) (segment_slot ip header slots) slots
    ]

item_takes : (cx : ContextValue) (ip : IpRepr) (udp : UdpRepr) (bytes : List ℕ) (o o' : Option (Item Socket)) → ItemTakes cx ip udp bytes o o' →
    not (is_none o') ≡ not (is_none o)
item_takes cx ip udp bytes None o' takes = ap (λ (x : Option (Item Socket)). not (is_none x)) takes
item_takes cx ip udp bytes (Some item) o' takes = ap (λ (x : Option (Item Socket)). not (is_none x)) takes.2

given_in_shape : (cx : ContextValue) (ip : IpRepr) (udp : UdpRepr) (bytes : List ℕ) (at : ℕ) (o : Option (SocketStorage Socket)) (slots qs : Slots) →
    slice_get slots at ≡ o → GivenIn cx ip udp bytes at o slots qs → shape qs ≡ shape slots
given_in_shape cx ip udp bytes at None slots qs is given = ap shape given
given_in_shape cx ip udp bytes at (Some slot) slots qs is given =
    ap shape given.2 ∙ set_shape slots at slot given.0 is (item_takes cx ip udp bytes slot.inner given.0.inner given.1)

given_shape : (cx : ContextValue) (ip : IpRepr) (udp : UdpRepr) (bytes : List ℕ) (at : Option ℕ) (slots qs : Slots) →
    GivenAt cx ip udp bytes at slots qs → shape qs ≡ shape slots
given_shape cx ip udp bytes None slots qs given = ap shape given
given_shape cx ip udp bytes (Some at) slots qs given = given_in_shape cx ip udp bytes at (slice_get slots at) slots qs refl given

handed_shape : (i : InnerValue) (slots : Slots) (ip : IpRepr) (carried : Option PayloadValue) (qs : Slots) → HandsTo i slots ip carried qs →
    shape qs ≡ shape slots
handed_shape i slots ip (Some (ControlV4 message bytes)) qs is = ap shape is ∙ v4_shape ip message bytes slots
handed_shape i slots ip (Some (ControlV6 message bytes)) qs is = ap shape is ∙ v6_shape ip message bytes slots
handed_shape i slots ip (Some (Bytes bytes)) qs is = ap shape is
handed_shape i slots ip (Some (Datagram udp bytes)) qs is =
    given_shape (context_of i) ip udp bytes (datagram_slot (context_of i) ip udp slots) slots qs is
handed_shape i slots ip (Some (Segment header bytes)) qs is = ap shape is ∙ segment_shape i slots ip header bytes
handed_shape i slots ip None qs is = ap shape is

abbrev HasShapeOf : Arrived → Slots → Type 0
HasShapeOf a slots = shape a.slots ≡ shape slots

hands_shape : (i : InnerValue) (slots : Slots) (ip : IpRepr) (payload : List ℕ) (taken : Bool) (a : Arrived) → Hands i slots ip payload taken a →
    HasShapeOf a slots
hands_shape i slots ip payload taken a (carried, is, handed) = handed_shape i slots ip carried a.slots handed.slots_are

of_v4_shape : (ours : Bool) (i : InnerValue) (slots : Slots) (link : Option EthernetRepr) (ip : IpRepr) (payload : List ℕ) (a : Arrived) →
    ArrivesV4 ours i slots link ip payload a → HasShapeOf a slots
of_v4_shape true i slots link ip payload a h =
    hands_shape (renewed i link ip) (packet_delivered ip payload slots) ip payload (is_taken_raw ip slots) a h ∙ packet_shape ip payload slots
of_v4_shape false i slots link ip payload a h = ap shape h.slots_are ∙ packet_shape ip payload slots

of_v6_shape : (ours : Bool) (i : InnerValue) (slots : Slots) (link : Option EthernetRepr) (ip : IpRepr) (payload : List ℕ) (a : Arrived) →
    ArrivesV6 ours i slots link ip payload a → HasShapeOf a slots
of_v6_shape true i slots link ip payload a h =
    hands_shape (renewed i link ip) (packet_delivered ip payload slots) ip payload (is_taken_raw ip slots) a h ∙ packet_shape ip payload slots
of_v6_shape false i slots link ip payload a h = ap shape h.slots_are

brings_shape : (i : InnerValue) (slots : Slots) (content : Option IncomingValue) (a : Arrived) → Brings i slots content a → HasShapeOf a slots
brings_shape i slots None a h = ap shape h.slots_are
brings_shape i slots (Some (Arp link packet)) a h = ap shape h.slots_are
brings_shape i slots (Some (Ip4 link header fragment payload)) a h = of_v4_shape _ i slots link (Ip.Ipv4 header) payload a h
brings_shape i slots (Some (Ip6 link header payload)) a h = of_v6_shape _ i slots link (Ip.Ipv6 header) payload a h

module _ {D : Type 0} (moves : D → Move → D → Type 0) where
  pub takes_shape : (s s' : State D) (answer : Option Bool) → Takes moves s answer s' → shape s'.slots ≡ shape s.slots
  takes_shape s s' None takes = ap (λ (x : State D). shape x.slots) takes.1
  takes_shape s s' (Some false) takes = ap (λ (x : State D). shape x.slots) takes.3
  takes_shape s s' (Some true) takes =
      let reads = takes.4 in
      let arrives = reads.2 in
      ap shape arrives.2 ∙ brings_shape s.host.inner s.slots (whole_arrived s.host.inner s.host.timeout s.host.assemblers reads.0)
      arrives.0 arrives.1.1
