-- Over a medium that has no hardware addresses no socket waits for a neighbour.
use Rattle.std.proofs.Common.{◌≡◌, inl, inr, ℕ, zero, suc, ℤ, Bool, true, false, nat_le, if◌then◌else◌, List, [], ◌∷◌, ◌++◌, Option, Some, None, refl, sym, ap, ◌∙◌, subst}
use Rattle.std.specs.Prelude.{is_some, slice_get, slice_set}
use Rattle.net_base.specs.Device.{Move}
use Rattle.ip_wire.specs.HardwareAddress.{HardwareAddress}
use Rattle.ip_wire.specs.HardwareAddress.TheVariants as Hardware
use Rattle.ip_wire.specs.Ip.{destination_of}
use Rattle.ip_wire.specs.IpAddress.{IpAddress}
use Rattle.ip_wire.specs.IpRepr.{IpRepr}
use Rattle.ip_wire.specs.IpRepr.TheVariants as Ip
use Rattle.ip_wire.specs.TcpHeader.{TcpHeader}
use Rattle.iface_ingress.specs.Arrives.{Arrived, ArrivesV4, ArrivesV6, Brings, Hands, renewed}
use Rattle.iface_ingress.specs.Context.{ContextValue}
use Rattle.iface_ingress.specs.Datagrams.{GivenAt, GivenIn, ItemTakes}
use Rattle.iface_ingress.specs.Delivered.{all_given, changed_at, changed_in, datagram_slot, given, packet_delivered, is_taken_raw, segment_delivered}
use Rattle.iface_ingress.specs.Delivered.{segment_slot, with_change, with_icmpv4, with_icmpv6, with_packet, with_segment}
use Rattle.iface_ingress.specs.EthernetRepr.{EthernetRepr}
use Rattle.iface_ingress.specs.Processed.{HandsTo, control_v4_slots, control_v6_slots, names_no_endpoint}
use Rattle.iface_ingress.specs.Icmpv4Header.{Icmpv4Header}
use Rattle.iface_ingress.specs.Icmpv6.{MessageValue}
use Rattle.iface_ingress.specs.Incoming.{Arp, IncomingValue, Ip4, Ip6}
use Rattle.iface_ingress.specs.IpAddress.TheVariants as Address
use Rattle.iface_ingress.specs.Offer as Answer
use Rattle.iface_ingress.specs.Offer.TheVariants as Offer
use Rattle.iface_ingress.specs.Packet.{Bytes, ControlV4, ControlV6, Datagram, PacketValue, PayloadValue, Segment}
use Rattle.iface_ingress.specs.Socket.{Socket}
use Rattle.iface_ingress.specs.Sockets.{offered_by}
use Rattle.sockets.specs.Socket.{accepts_icmpv4, accepts_icmpv6, accepts_packet}
use Rattle.iface_tables.specs.Inner.{InnerValue, context_of, is_for_us, link_address, link_on, mtu_to}
use Rattle.iface_tables.specs.declared.link.LinkAddress.{LinkAddress}
use Rattle.iface_tables.specs.declared.link.LinkAddress.TheVariants as Link
use Rattle.iface_egress.specs.Fragments.{LeftValue}
use Rattle.iface_egress.specs.IsTransmitted.{IsTransmitted}
use Rattle.iface_egress.specs.Meta.{freed, unmarked}
use Rattle.iface_egress.specs.Plan.{can_be_cut, comes_from_here, cut_if_idle, plan_by, plan_of, stays, total_len}
use Rattle.iface_egress.specs.declared.plan.Plan.{Plan}
use Rattle.iface_egress.specs.declared.plan.Plan.TheVariants as Way
use Rattle.iface_egress.specs.declared.socket_meta.Meta.{Meta}
use Rattle.iface_egress.specs.declared.socket_set.Item.{Item}
use Rattle.iface_egress.specs.declared.socket_set.SocketStorage.{SocketStorage}
use Rattle.iface_egress.specs.declared.egress_path.Sent.{Sent}
use Rattle.iface_egress.specs.declared.egress_path.Sent.TheVariants as Outcome
use Rattle.interface.specs.Host.{Sender}
use Rattle.interface.specs.Ingress.{Takes}
use Rattle.interface.specs.Polls.{Polls as Polled}
use Rattle.interface.specs.State.{State}
use Rattle.interface.specs.UdpRepr.{UdpRepr}
use Rattle.interface.specs.Serve.{Answers, ItemTurns, Leaves, LeavesOrParks, SendsBy, TurnsIf, held, passes_filter, is_waiting, let_through, marked, outcome_by, plan_at, waits_until}
use Rattle.interface.specs.declared.serve.Served.{Served}
use Rattle.interface.proofs.Hosts.{hosts_keep}
use Rattle.iface_egress.specs.Parked.{is_searched}
use Rattle.interface.proofs.Alone.{leaves_unsearched}
use Rattle.interface.proofs.Keep.{polls_keep}
use Rattle.interface.proofs.Kept.{IsKept}
use Rattle.proof_stack.specs.Progress.AtOnce.{AreUnmarked, IsUnmarked}

-- NO PACKET WAITS

-- a packet with this plan goes, or is dropped, or the host is busy
abbrev pub IsSure : Plan → Type 0
IsSure (Way.Go to) = Unit {0}
IsSure (Way.Cut to) = Unit {0}
IsSure Way.Busy = Unit {0}
IsSure Way.Drop = Unit {0}
IsSure plan = ⊥

sure_if_long : (short cut busy : Bool) (to : HardwareAddress) →
    IsSure (if short then Way.Go to else if cut then cut_if_idle busy to else Way.Drop)
sure_if_long true cut busy to = tt
sure_if_long false true true to = tt
sure_if_long false true false to = tt
sure_if_long false false busy to = tt

pub sure_where_known : (i : InnerValue) (busy : Bool) (h : IpRepr) (to : HardwareAddress) → link_address i (destination_of h) ≡ Link.Known to →
    IsSure (plan_of i busy h)
sure_where_known i busy h to known = by (stays i (comes_from_here i h) (destination_of h)) where
  goes : IsSure (plan_by (link_address i (destination_of h)) i busy h)
  goes = subst (λ (a : LinkAddress). IsSure (plan_by a i busy h)) (sym known)
      (sure_if_long (nat_le (total_len h) (mtu_to i (destination_of h))) (can_be_cut h) busy to)

  by : (stays : Bool) → IsSure (if stays then Way.Drop else plan_by (link_address i (destination_of h)) i busy h)
  by true = tt
  by false = goes

plan_sure : (i : InnerValue) (busy : Bool) (h : IpRepr) → i.hardware ≡ Hardware.Ip → IsSure (plan_of i busy h)
plan_sure i busy h ip = sure_where_known i busy h Hardware.Ip (ap (λ (own : HardwareAddress). link_on own i (destination_of h)) ip)

-- a socket whose packet is done with is unmarked, and any other is as it was
abbrev pub IsEnded : Sent → Type 0
IsEnded Outcome.Waits = ⊥
IsEnded sent = Unit {0}

pub mark_stays : (sent : Sent) (instant until : ℤ) (to : IpAddress) (m : Meta) → IsEnded sent → m ≡ unmarked → marked sent instant until to m ≡ unmarked
mark_stays Outcome.Waits instant until to m ended is = absurd ended
mark_stays Outcome.Gone instant until to m ended is = refl
mark_stays Outcome.Dropped instant until to m ended is = refl
mark_stays Outcome.Busy instant until to m ended is = is
mark_stays Outcome.Refused instant until to m ended is = is

-- who doesn't hold a packet back answers that the device does
not_held : (given : Bool) (sent : Sent) → outcome_by given None ≡ Some sent → IsEnded sent
not_held true sent is = absurd cc
not_held false sent is = let same : Outcome.Refused ≡ sent = cc in subst IsEnded same tt

-- nor is its next hop searched for
sure_off : (plan : Plan) → IsSure plan → is_searched plan ≡ false
sure_off (Way.Go hop) sure = refl
sure_off (Way.Cut hop) sure = refl
sure_off Way.Busy sure = refl
sure_off Way.Drop sure = refl
sure_off Way.NoRoute sure = refl
sure_off Way.Wait sure = absurd sure
sure_off (Way.Ask question) sure = absurd sure

held_none : (turn : Option IpAddress) (m : Meta) (i : InnerValue) (to : IpAddress) (plan : Plan) → IsSure plan → held turn m i to plan ≡ None
held_none turn m i to (Way.Go hop) sure = refl
held_none turn m i to (Way.Cut hop) sure = refl
held_none turn m i to Way.Busy sure = refl
held_none turn m i to Way.Drop sure = refl
held_none turn m i to Way.NoRoute sure = absurd sure
held_none turn m i to Way.Wait sure = absurd sure
held_none turn m i to (Way.Ask question) sure = absurd sure

module _ {D : Type 0} (moves : D → Move → D → Type 0) (turn : Option IpAddress) where
  out_ended : (old new : D) (i i' : InnerValue) (l l' : Option LeftValue) (p : PacketValue) (plan : Plan) (sent : Sent) → IsSure plan
      → IsTransmitted moves old i l p plan sent new i' l' → IsEnded sent
  out_ended old new i i' l l' p (Way.Go to) Outcome.Waits sure goes = absurd goes.0
  out_ended old new i i' l l' p (Way.Go to) Outcome.Gone sure goes = tt
  out_ended old new i i' l l' p (Way.Go to) Outcome.Dropped sure goes = tt
  out_ended old new i i' l l' p (Way.Go to) Outcome.Busy sure goes = tt
  out_ended old new i i' l l' p (Way.Go to) Outcome.Refused sure goes = tt
  out_ended old new i i' l l' p (Way.Cut to) Outcome.Waits sure goes = absurd goes
  out_ended old new i i' l l' p (Way.Cut to) Outcome.Gone sure goes = tt
  out_ended old new i i' l l' p (Way.Cut to) Outcome.Dropped sure goes = tt
  out_ended old new i i' l l' p (Way.Cut to) Outcome.Busy sure goes = tt
  out_ended old new i i' l l' p (Way.Cut to) Outcome.Refused sure goes = tt
  out_ended old new i i' l l' p Way.Busy sent sure goes = subst IsEnded (sym goes.0) tt
  out_ended old new i i' l l' p Way.Drop sent sure goes = subst IsEnded (sym goes.0) tt
  out_ended old new i i' l l' p Way.NoRoute sent sure goes = absurd sure
  out_ended old new i i' l l' p Way.Wait sent sure goes = absurd sure
  out_ended old new i i' l l' p (Way.Ask question) sent sure goes = absurd sure

  left_sure : (x x' : Sender D) (m : Meta) (p : PacketValue) (sent : Sent) → IsSure (plan_at x p) → Leaves moves turn x m p sent x' → IsEnded sent
  left_sure x x' m p sent sure (inl (given, allowed, same, left, outcome)) =
      not_held given sent (sym (ap (outcome_by given) (held_none turn m x.inner (destination_of p.header) (plan_at x p) sure)) ∙ outcome)
  left_sure x x' m p sent sure (inr (mid, allowed, goes, none)) =
      out_ended mid x'.device x.inner x'.inner x.left x'.left p (plan_at x p) sent sure goes

  -- nor is it parked
  pub leaves_sure : (x x' : Sender D) (m : Meta) (p : PacketValue) (sent : Sent) → IsSure (plan_at x p) → LeavesOrParks moves turn x m p sent x' → IsEnded sent
  leaves_sure x x' m p sent sure leaves =
      left_sure x x' m p sent sure (leaves_unsearched moves turn x m p sent x' (sure_off (plan_at x p) sure) leaves)

  module _ (x x' : Sender D) (ip : x.inner.hardware ≡ Hardware.Ip) where
    leaves_ended : (m : Meta) (p : PacketValue) (sent : Sent) → LeavesOrParks moves turn x m p sent x' → IsEnded sent
    leaves_ended m p sent leaves = leaves_sure x x' m p sent (plan_sure x.inner (is_some x.left) p.header ip) leaves

    -- A TURN leaves its socket unmarked

    sends_so : (o : Option PacketValue) (item item' : Item Socket) (changed : Bool) (turned : Served) → item.meta ≡ unmarked
        → SendsBy moves turn o x item changed turned x' item' → item'.meta ≡ unmarked
    sends_so None item item' changed turned is sends = absurd sends
    sends_so (Some p) item item' changed turned is (leaving, from, formed, (sent, leaves, next, settles, well)) =
        ap (λ (y : Item Socket). y.meta) settles
        ∙ mark_stays sent x.inner.instant (waits_until (plan_at x leaving) x'.inner) (destination_of leaving.header) item.meta
        (leaves_ended item.meta leaving sent leaves) is

    answers_so : (answer : Answer.Offer) (item item' : Item Socket) (turned : Served) → item.meta ≡ unmarked
        → Answers moves turn answer x item turned x' item' → item'.meta ≡ unmarked
    answers_so (Offer.Silent changed) item item' turned is answers = ap (λ (y : Item Socket). y.meta) answers.2
    answers_so (Offer.Packet changed) item item' turned is answers = sends_so (offered_by item.socket) item item' changed turned is answers

    freed_so : (m : Meta) (known : Bool) → m ≡ unmarked → freed m known ≡ unmarked
    freed_so m true is = refl
    freed_so m false is = is

    turns_so : (waits : Bool) (item item' : Item Socket) (turned : Served) → item.meta ≡ unmarked
        → TurnsIf moves turn waits x (let_through x.inner item) turned x' item' → item'.meta ≡ unmarked
    turns_so true item item' turned is turns = ap (λ (y : Item Socket). y.meta) turns.2 ∙ freed_so item.meta (passes_filter x.inner item.meta) is
    turns_so false item item' turned is (answer, offered, offers, answers) =
        answers_so answer (record (let_through x.inner item) { socket = offered }) item' turned (freed_so item.meta (passes_filter x.inner item.meta) is) answers

    item_so : (o o' : Option (Item Socket)) (turned : Served) → IsUnmarked o → ItemTurns moves turn o x turned x' o' → IsUnmarked o'
    item_so None None turned is turns = tt
    item_so (Some item) (Some item') turned is turns = turns_so (is_waiting x.inner item.meta) item item' turned is turns
    item_so None (Some item') turned is turns = absurd turns
    item_so (Some item) None turned is turns = absurd turns

-- PLACES

abbrev Slots : Type 0
Slots = List (SocketStorage Socket)

middle : (before after : Slots) (p : SocketStorage Socket) → AreUnmarked (before ++ p ∷ after) → IsUnmarked p.inner
middle [] after p all = all.0
middle (x ∷ before) after p all = middle before after p all.1

exchanged : (before after : Slots) (p p' : SocketStorage Socket) → IsUnmarked p'.inner → AreUnmarked (before ++ p ∷ after) → AreUnmarked (before ++ p' ∷ after)
exchanged [] after p p' new all = (new, all.1)
exchanged (x ∷ before) after p p' new all = (all.0, exchanged before after p p' new all.1)

pub found : (slots : Slots) (at : ℕ) (slot : SocketStorage Socket) → slice_get slots at ≡ Some slot → AreUnmarked slots → IsUnmarked slot.inner
found [] zero slot is all = absurd cc
found [] (suc at) slot is all = absurd cc
found (p ∷ ps) zero slot is all = let same : p ≡ slot = cc in subst (λ (x : SocketStorage Socket). IsUnmarked x.inner) same all.0
found (p ∷ ps) (suc at) slot is all = found ps at slot is all.1

pub with_set : (slots : Slots) (at : ℕ) (slot : SocketStorage Socket) → IsUnmarked slot.inner → AreUnmarked slots → AreUnmarked (slice_set slots at slot)
with_set [] zero slot new all = tt
with_set [] (suc at) slot new all = tt
with_set (p ∷ ps) zero slot new all = (new, all.1)
with_set (p ∷ ps) (suc at) slot new all = (all.0, with_set ps at slot new all.1)

-- ARRIVALS change no mark

item_changed : (change : Socket → Socket) (o : Option (Item Socket)) → IsUnmarked o → IsUnmarked (with_change change (record { inner = o })).inner
item_changed change None is = tt
item_changed change (Some item) is = is

changed_by : (change : Socket → Socket) (at : ℕ) (o : Option (SocketStorage Socket)) (slots : Slots) → slice_get slots at ≡ o → AreUnmarked slots →
    AreUnmarked (changed_in change (Some at) o slots)
changed_by change at None slots is all = all
changed_by change at (Some slot) slots is all =
    with_set slots at (with_change change slot) (item_changed change slot.inner (found slots at slot is all)) all

changed : (change : Socket → Socket) (at : Option ℕ) (slots : Slots) → AreUnmarked slots → AreUnmarked (changed_at change at slots)
changed change None slots all = all
changed change (Some at) slots all = changed_by change at (slice_get slots at) slots refl all

all_so : (test : Socket → Bool) (change : Socket → Socket) (slots : Slots) → AreUnmarked slots → AreUnmarked (all_given test change slots)
all_so test change [] all = tt
all_so test change (p ∷ ps) all = (item_changed (given test change) p.inner all.0, all_so test change ps all.1)

messages : (ip : IpRepr) (message : Icmpv4Header) (bytes : List ℕ) (slots : Slots) → AreUnmarked slots → AreUnmarked (control_v4_slots ip message bytes slots)
messages (Ip.Ipv4 header) message bytes slots all =
    all_so (λ s. accepts_icmpv4 s (Address.Ipv4 header.dst_addr) message bytes) (with_icmpv4 header message bytes) slots all
messages (Ip.Ipv6 header) message bytes slots all = all

messages_v6 : (ip : IpRepr) (message : MessageValue) (bytes : List ℕ) (slots : Slots) → AreUnmarked slots → AreUnmarked (control_v6_slots ip message bytes slots)
messages_v6 (Ip.Ipv4 header) message bytes slots all = all
messages_v6 (Ip.Ipv6 header) message bytes slots all =
    all_so (λ s. accepts_icmpv6 s (Address.Ipv6 header.dst_addr) message bytes) (with_icmpv6 header message bytes) slots all

segments : (nobody : Bool) (cx : ContextValue) (ip : IpRepr) (header : TcpHeader) (bytes : List ℕ) (slots : Slots) → AreUnmarked slots →
    AreUnmarked (if nobody then slots else segment_delivered cx ip header bytes slots)
segments true cx ip header bytes slots all = all
segments false cx ip header bytes slots all = changed (with_segment cx ip header bytes) (segment_slot ip header slots) slots all

datagram_item : (cx : ContextValue) (ip : IpRepr) (udp : UdpRepr) (bytes : List ℕ) (o o' : Option (Item Socket)) → ItemTakes cx ip udp bytes o o' → IsUnmarked o → IsUnmarked o'
datagram_item cx ip udp bytes None o' takes is = subst IsUnmarked (sym takes) tt
datagram_item cx ip udp bytes (Some item) o' takes is = subst IsUnmarked (sym takes.2) is

datagram_in : (cx : ContextValue) (ip : IpRepr) (udp : UdpRepr) (bytes : List ℕ) (at : ℕ) (o : Option (SocketStorage Socket)) (slots qs : Slots) →
    slice_get slots at ≡ o → GivenIn cx ip udp bytes at o slots qs → AreUnmarked slots → AreUnmarked qs
datagram_in cx ip udp bytes at None slots qs here given all = subst AreUnmarked (sym given) all
datagram_in cx ip udp bytes at (Some slot) slots qs here given all =
    subst AreUnmarked (sym given.2) (with_set slots at given.0
    (datagram_item cx ip udp bytes slot.inner given.0.inner given.1 (found slots at slot here all)) all)

datagrams : (cx : ContextValue) (ip : IpRepr) (udp : UdpRepr) (bytes : List ℕ) (at : Option ℕ) (slots qs : Slots) → GivenAt cx ip udp bytes at slots qs →
    AreUnmarked slots → AreUnmarked qs
datagrams cx ip udp bytes None slots qs given all = subst AreUnmarked (sym given) all
datagrams cx ip udp bytes (Some at) slots qs given all = datagram_in cx ip udp bytes at (slice_get slots at) slots qs refl given all

handed : (i : InnerValue) (slots : Slots) (ip : IpRepr) (carried : Option PayloadValue) (qs : Slots) → HandsTo i slots ip carried qs → AreUnmarked slots → AreUnmarked qs
handed i slots ip None qs to all = subst AreUnmarked (sym to) all
handed i slots ip (Some (ControlV4 message bytes)) qs to all = subst AreUnmarked (sym to) (messages ip message bytes slots all)
handed i slots ip (Some (ControlV6 message bytes)) qs to all = subst AreUnmarked (sym to) (messages_v6 ip message bytes slots all)
handed i slots ip (Some (Bytes bytes)) qs to all = subst AreUnmarked (sym to) all
handed i slots ip (Some (Datagram udp bytes)) qs to all =
    datagrams (context_of i) ip udp bytes (datagram_slot (context_of i) ip udp slots) slots qs to all
handed i slots ip (Some (Segment header bytes)) qs to all =
    subst AreUnmarked (sym to) (segments (names_no_endpoint i ip) (context_of i) ip header bytes slots all)

packets : (ip : IpRepr) (payload : List ℕ) (slots : Slots) → AreUnmarked slots → AreUnmarked (packet_delivered ip payload slots)
packets ip payload slots all = all_so (λ s. accepts_packet s ip) (with_packet ip payload) slots all

hands : (i : InnerValue) (slots : Slots) (ip : IpRepr) (payload : List ℕ) (taken : Bool) (a : Arrived) → Hands i slots ip payload taken a → AreUnmarked slots →
    AreUnmarked a.slots
hands i slots ip payload taken a (carried, is, so) all = handed i slots ip carried a.slots so.slots_are all

v4 : (ours : Bool) (i : InnerValue) (slots : Slots) (link : Option EthernetRepr) (ip : IpRepr) (payload : List ℕ) (a : Arrived) →
    ArrivesV4 ours i slots link ip payload a → AreUnmarked slots → AreUnmarked a.slots
v4 true i slots link ip payload a is all =
    hands (renewed i link ip) (packet_delivered ip payload slots) ip payload (is_taken_raw ip slots) a is (packets ip payload slots all)
v4 false i slots link ip payload a is all = subst AreUnmarked (sym is.slots_are) (packets ip payload slots all)

v6 : (ours : Bool) (i : InnerValue) (slots : Slots) (link : Option EthernetRepr) (ip : IpRepr) (payload : List ℕ) (a : Arrived) →
    ArrivesV6 ours i slots link ip payload a → AreUnmarked slots → AreUnmarked a.slots
v6 true i slots link ip payload a is all =
    hands (renewed i link ip) (packet_delivered ip payload slots) ip payload (is_taken_raw ip slots) a is (packets ip payload slots all)
v6 false i slots link ip payload a is all = subst AreUnmarked (sym is.slots_are) all

brings : (i : InnerValue) (slots : Slots) (content : Option IncomingValue) (a : Arrived) → Brings i slots content a → AreUnmarked slots → AreUnmarked a.slots
brings i slots None a is all = subst AreUnmarked (sym is.slots_are) all
brings i slots (Some (Arp link packet)) a is all = subst AreUnmarked (sym is.slots_are) all
brings i slots (Some (Ip4 link header fragment payload)) a is all =
    v4 (is_for_us i (Address.Ipv4 header.dst_addr)) i slots link (Ip.Ipv4 header) payload a is all
brings i slots (Some (Ip6 link header payload)) a is all = v6 (is_for_us i (Address.Ipv6 header.dst_addr)) i slots link (Ip.Ipv6 header) payload a is all

-- A POLL

module _ {D : Type 0} (moves : D → Move → D → Type 0) (t : ℤ) where
  abbrev IsBare : InnerValue → Type 0
  IsBare i = i.hardware ≡ Hardware.Ip

  abbrev Waitless : State D → Type 0
  Waitless s = IsBare s.host.inner × AreUnmarked s.slots

  hosts : IsKept moves t (λ s. IsBare s.host.inner)
  hosts = hosts_keep moves t IsBare (λ i i' same ip. same.hardware ∙ ip) (λ i i' same ip. ap (λ (x : InnerValue). x.hardware) same ∙ ip) (λ i ip. ip)

  takes : (s s' : State D) (answer : Option Bool) → AreUnmarked s.slots → Takes moves s answer s' → AreUnmarked s'.slots
  takes s s' None all is = subst (λ (x : State D). AreUnmarked x.slots) (sym is.1) all
  takes s s' (Some false) all is = subst (λ (x : State D). AreUnmarked x.slots) (sym is.3) all
  takes s s' (Some true) all (frame, mid, took, reads, (content, read, receives, hears)) =
      subst AreUnmarked (sym receives.2) (brings s.host.inner s.slots _ receives.0 receives.1.1 all)

  kept : IsKept moves t Waitless
  kept = record {
    maintenance = λ s all. (hosts.maintenance s all.0, all.1);
    arrivals = λ s s' answer runs all is. (hosts.arrivals s s' answer runs all.0 is, takes s s' answer all.1 is);
    fragments = λ h ps x x' l gone runs is all leaves same. (hosts.fragments h ps x x' l gone runs is all.0 leaves same, all.1);
    parked = λ h ps x x' taken runs many all serves. (hosts.parked h ps x x' taken runs many all.0 serves, all.1);
    turns = λ turn h before after p p' x x' turned runs all is. (
      hosts.turns turn h before after p p' x x' turned runs all.0 is,
      exchanged before after p p' (item_so moves turn x x' all.0 p.inner p'.inner turned (middle before after p all.1) is) all.1,
    );
  }

  pub polled_unmarked : (budget : ℕ) (s s' : State D) (changes : Bool) → IsBare s.host.inner → AreUnmarked s.slots → Polled moves t budget s changes s' → AreUnmarked s'.slots
  polled_unmarked budget s s' changes ip all polls = (polls_keep moves t Waitless kept budget s s' changes (ip, all) polls).0.1
