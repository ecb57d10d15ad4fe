-- A question for an own address is answered, and whose answer is heard is known.
use Rattle.std.proofs.Common.{◌≡◌, ℕ, ◌<◌, Bool, true, false, ◌||◌, if◌then◌else◌, inl, inr, ℤ, pos, ◌+ℤ◌, int_lt, List, [], ◌∷◌, ◌++◌, length}
use Rattle.std.proofs.Common.{Option, Some, None, refl, sym, ap, ◌∙◌, subst, arith}
use Rattle.std.specs.Prelude.{nat_lt, find, position, remove}
use Rattle.std.proofs.lemmas.Bool.{and_from, or_left, or_right}
use Rattle.std.proofs.lemmas.Int.{ints}
use Rattle.std.proofs.lemmas.Slice.Eq.{bytes_eq-Decides}
use Rattle.net_base.specs.Device.{Move, Took, Emitted, Denied}
use Rattle.ip_wire.specs.AddressTests.{is_multicast, is_same_hardware}
use Rattle.ip_wire.specs.EthernetAddress.{EthernetAddress}
use Rattle.ip_wire.specs.HardwareAddress.{HardwareAddress}
use Rattle.ip_wire.specs.HardwareAddress.TheVariants as Hardware
use Rattle.ip_wire.specs.IpAddress.{IpAddress}
use Rattle.ip_wire.specs.IpAddress.TheVariants as Address
use Rattle.ip_wire.specs.Ipv4Address.{Ipv4Address}
use Rattle.ip_wire.specs.Arp as Arps
use Rattle.ip_wire.specs.declared.arp.repr.ArpRepr.{ArpRepr}
use Rattle.iface_ingress.specs.Arp.{arp_arrived, arp_answer, answer_at, is_for_local, is_from_known, counts, probes}
use Rattle.iface_ingress.specs.Arrives.{Arrived, Brings, told, whole_after}
use Rattle.iface_ingress.specs.Incoming as Incoming
use Rattle.iface_ingress.specs.Incoming.{IncomingValue, IsContent}
use Rattle.iface_ingress.specs.Reassembled.{passes_filter, with_room}
use Rattle.iface_ingress.specs.Sent.{AreSealed}
use Rattle.iface_ingress.proofs.OneContent.{one-content}
use Rattle.iface_tables.specs.Best.{at_index}
use Rattle.iface_tables.specs.Inner.{asked_of, InnerValue, at_instant, is_local, next_hop, link_by, link_of_hop, link_on, link_address}
use Rattle.iface_tables.specs.Inner.{all_stations, group_hardware_addr, with_neighbor}
use Rattle.iface_tables.specs.Neighbor.{CacheValue, lookup, missing, answer_by, neighbor_index_of, is_of, unless_failed, has_failed, filled, filled_at, victim}
use Rattle.iface_tables.specs.Neighbor.{entry_lifetime}
use Rattle.iface_tables.specs.declared.link.LinkAddress.TheVariants as Link
use Rattle.iface_tables.specs.declared.neighbor.Answer.{Answer}
use Rattle.iface_tables.specs.declared.neighbor.Answer.TheVariants as Known
use Rattle.iface_tables.specs.declared.neighbor.Neighbor.{Neighbor}
use Rattle.iface_tables.proofs.PathMtu.{at_first, find_last, is_found, itself, none_found, none_removed}
use Rattle.iface_egress.specs.Departure.{Asks, Tells, arp_frame, arp_link, arp_request, every_hardware_addr}
use Rattle.iface_egress.specs.IsTransmitted.{Departs, frame_of}
use Rattle.iface_egress.specs.declared.frame.NeighborQuery.TheVariants as Query
use Rattle.interface.specs.Delivered.{IsNeighborQuery, read_of}
use Rattle.interface.specs.Host.{Sender, sender, maintained}
use Rattle.interface.specs.Ingress.{IngressStep, Reads, Receives, Replied, is_awaited, sender_of}
use Rattle.interface.specs.State.{State, state, at_device}
use Rattle.interface.proofs.Arrives.{arrives}
use Rattle.proof_stack.specs.Progress.NeighborResolution as Asked
use Rattle.proof_stack.specs.Progress.NeighborResolution.{IsNext, IsNeighbor, IsVia, arp_reply}

-- WHO WAS HEARD IS KNOWN

module _ (room : ℕ) (entries : List Neighbor) (new : Neighbor) where
  abbrev ours : Neighbor → Bool
  ours = is_of new.protocol_addr

  entered : (o : Option ℕ) → position ours entries ≡ o → find ours (filled_at o room entries new) ≡ Some new
  entered (Some at) is = is_found ours entries at new is (itself new.protocol_addr)
  entered None is = by (nat_lt (length entries) room) where
    none : find ours entries ≡ None
    none = none_found ours entries is

    by : (b : Bool) → find ours (if b then entries ++ new ∷ [] else remove entries (victim entries) ++ new ∷ []) ≡ Some new
    by true = find_last ours entries new none (itself new.protocol_addr)
    by false = find_last ours (remove entries (victim entries)) new (none_removed ours entries (victim entries) none) (itself new.protocol_addr)

  entry : at_index (neighbor_index_of (filled_at (neighbor_index_of entries new.protocol_addr) room entries new) new.protocol_addr)
      (filled_at (neighbor_index_of entries new.protocol_addr) room entries new) ≡ Some new
  entry =
      at_first ours (filled_at (neighbor_index_of entries new.protocol_addr) room entries new)
      ∙ entered (neighbor_index_of entries new.protocol_addr) refl

pub known_now : (c : CacheValue) (new : Neighbor) (instant : ℤ) → int_lt instant new.expires_at ≡ true
    → lookup (filled c new) new.protocol_addr instant ≡ Known.Found new.hardware_addr
known_now c new instant early =
    ap (λ (o : Option Neighbor). unless_failed (has_failed (filled c new) new.protocol_addr instant) (answer_by o (filled c new) instant))
    (entry c.room c.entries new)
    ∙ ap (λ (b : Bool). unless_failed (has_failed (filled c new) new.protocol_addr instant)
    (if b then Known.Found new.hardware_addr else missing (filled c new) instant)) early

pub lives : (t : ℤ) (n : ℕ) → 0 < n → int_lt t (t +ℤ pos n) ≡ true
lives t n some = grind (arith, ints)

module _ (i : InnerValue) (own node : EthernetAddress) (hop to : IpAddress) (on : i.hardware ≡ Hardware.Ethernet own) (via : IsVia i to hop) where
  abbrev then_host : InnerValue
  then_host = with_neighbor i hop (Hardware.Ethernet node)

  abbrev entry_of : Neighbor
  entry_of = record { protocol_addr = hop; hardware_addr = Hardware.Ethernet node; expires_at = i.instant +ℤ pos entry_lifetime }

  pub goes_there : link_address then_host to ≡ Link.Known (Hardware.Ethernet node)
  goes_there =
      ap (λ (h : HardwareAddress). link_on h then_host to) on
      ∙ ap (λ (all : Bool). if all then Link.Known (Hardware.Ethernet all_stations)
      else if is_multicast to then Link.Known (Hardware.Ethernet (group_hardware_addr to)) else link_of_hop then_host (next_hop then_host to)) via.one
      ∙ ap (λ (group : Bool). if group then Link.Known (Hardware.Ethernet (group_hardware_addr to)) else link_of_hop then_host (next_hop then_host to)) via.group
      ∙ ap (link_of_hop then_host) via.hop_is
      ∙ ap (λ (a : Answer). link_by a hop) (known_now (record i.neighbors { silent = (asked_of then_host hop).silent }) entry_of i.instant
      (lives i.instant entry_lifetime (omega arith)))

-- AN ARP PACKET COMES

module _ {D : Type 0} (moves : D → Move → D → Type 0) (t : ℤ) (s s' : State D) (frame : List ℕ) (packet : ArpRepr) where
  abbrev host : InnerValue
  host = at_instant t s.host.inner

  -- the frame was taken, and what the packet brings is answered
  record Came : Type 0 where
    mid : D
    took : moves s.device (Took t frame) mid
    awaited : Bool
    replied : Replied moves awaited (told (arp_answer host packet)) (sender mid (arp_arrived host packet) s.host.left) (sender_of moves s')
    slots : s'.slots ≡ s.slots

  came : IsNext moves t s.device frame → IsContent s.host.inner.hardware s.host.inner.checksums frame (Some (Incoming.Arp (arp_link packet) packet))
      → passes_filter host (Some (arp_link packet)) ≡ true → IngressStep moves t s (Some true) s' → Came
  came only content heard step =
      let i : InnerValue = host in
      let before : State D = at_device (state s.device (maintained t s.host) s.slots) step.1 in
      let v : Option IncomingValue = Some (Incoming.Arp (arp_link packet) packet) in
      let this : step.0 ≡ frame = only step.0 step.1 step.2 in
      let reads : Reads moves frame before s' = subst (λ (f : List ℕ). Reads moves f before s') this step.4 in
      let same : reads.0 ≡ v = one-content i.hardware i.checksums frame reads.0 v reads.1 content in
      let receives : Receives moves v before s' = subst (λ (x : Option IncomingValue). Receives moves x before s') same reads.2 in
      let a : Arrived = receives.0 in
      let brings : Brings i s.slots v a =
      subst (λ (b : Bool). Brings i s.slots (whole_after i s.host.timeout (with_room i (maintained t s.host).assemblers (if b then v else None))
      (if b then v else None)) a) heard receives.1.1 in
      record {
        mid = step.1;
        took = subst (λ (f : List ℕ). moves s.device (Took t f) step.1) this step.2;
        awaited = is_awaited a;
        replied = subst (λ (x : InnerValue). Replied moves (is_awaited a) (told (arp_answer i packet)) (sender step.1 x s.host.left) (sender_of moves s'))
            brings.inner
            (subst (λ (r : Option Rattle.iface_ingress.specs.Arrives.ReplyValue). Replied moves (is_awaited a) r (sender step.1 a.inner s.host.left) (sender_of moves s'))
            brings.reply receives.3);
        slots = receives.2 ∙ brings.slots_are;
      }

-- THE QUESTION IS ANSWERED

module _ {D : Type 0} (moves : D → Move → D → Type 0) (t : ℤ) (s s' : State D) (i : InnerValue) (padding : List ℕ) (own node : EthernetAddress)
    (on : s.host.inner.hardware ≡ Hardware.Ethernet own) (sealed : AreSealed i.checksums s.host.inner.checksums) where
  abbrev asking : Ipv4Address → Ipv4Address → List ℕ
  asking a asked = frame_of i (Asks (Query.Arp node a asked)) ++ padding

  request_came : (a asked : Ipv4Address) → IsNeighborQuery (Query.Arp node a asked) → IsNext moves t s.device (asking a asked)
      → IngressStep moves t s (Some true) s' → Came moves t s s' (asking a asked) (arp_request node a asked)
  request_came a asked question only step =
      came moves t s s' (asking a asked) (arp_request node a asked) only
      (subst (λ (h : HardwareAddress). IsContent h s.host.inner.checksums (asking a asked) (Some (read_of i (Asks (Query.Arp node a asked))))) (sym on)
      (arrives i (Hardware.Ethernet own) s.host.inner.checksums (Asks (Query.Arp node a asked)) padding sealed (tt, question)))
      (or_right (is_same_hardware s.host.inner.hardware (Hardware.Ethernet every_hardware_addr)) true refl) step

  module _ (a asked : Ipv4Address) (mine : is_local s.host.inner (Address.Ipv4 asked) ≡ true) (near : IsNeighbor s.host.inner node a) where
    abbrev then_inner : InnerValue
    then_inner = arp_arrived (at_instant t s.host.inner) (arp_request node a asked)

    answer : arp_answer (at_instant t s.host.inner) (arp_request node a asked) ≡ Some (arp_reply own asked node a)
    answer =
        ap (λ (b : Bool). if b then answer_at s.host.inner.hardware (arp_request node a asked) else None)
        (or_left (counts (at_instant t s.host.inner) (arp_request node a asked)) (probes (at_instant t s.host.inner) (arp_request node a asked))
        (and_from (is_local s.host.inner (Address.Ipv4 asked)) _ mine (and_from _ _ (and_from _ _ near.one near.sound) near.near)))
        ∙ ap (λ (h : HardwareAddress). answer_at h (arp_request node a asked)) on

    -- what is answered, of the host that has heard the question
    replies : (it : Came moves t s s' (asking a asked) (arp_request node a asked))
        → Replied moves it.awaited (told (Some (arp_reply own asked node a))) (sender it.mid then_inner s.host.left) (sender_of moves s')
    replies it =
        subst (λ (o : Option ArpRepr). Replied moves it.awaited (told o) (sender it.mid then_inner s.host.left) (sender_of moves s')) answer it.replied

    answers : IsNeighborQuery (Query.Arp node a asked) → IsNext moves t s.device (asking a asked) → IngressStep moves t s (Some true) s'
        → Asked.Tells moves s.host.inner (arp_reply own asked node a) s.device s'.device
    answers question only step =
        let it : Came moves t s s' (asking a asked) (arp_request node a asked) = request_came a asked question only step in
        by it.mid it.took it.awaited (replies it)
      where
        by : (mid : D) → moves s.device (Took t (asking a asked)) mid → (awaited : Bool)
            → Replied moves awaited (told (Some (arp_reply own asked node a))) (sender mid then_inner s.host.left) (sender_of moves s')
            → Asked.Tells moves s.host.inner (arp_reply own asked node a) s.device s'.device
        by mid took awaited goes = gone goes.0 goes.1 where
          gone : (is : Bool) → Departs moves mid then_inner (Tells (arp_reply own asked node a)) is s'.device
              → Asked.Tells moves s.host.inner (arp_reply own asked node a) s.device s'.device
          gone true departs = record {
            all = Took t (asking a asked) ∷ Emitted (arp_frame (arp_reply own asked node a)) ∷ [];
            are = (mid, took, (s'.device, departs.0, refl));
            what = inr (inr (inl refl));
          }
          gone false departs = record {
            all = Took t (asking a asked) ∷ Denied 42 ∷ [];
            are = (mid, took, (s'.device, departs, refl));
            what = inl refl;
          }

    -- the host knows who asked, and its sockets are as they were
    pub asker_known : IsNeighborQuery (Query.Arp node a asked) → IsNext moves t s.device (asking a asked) → IngressStep moves t s (Some true) s'
        → (s'.host.inner ≡ arp_arrived (at_instant t s.host.inner) (arp_request node a asked)) × (s'.slots ≡ s.slots)
    asker_known question only step =
        let it : Came moves t s s' (asking a asked) (arp_request node a asked) = request_came a asked question only step in
        ((replies it).2, it.slots)

  -- THE ANSWER IS HEARD

  -- who answered is known, and the sockets are as they were
  pub learned : (a asked : Ipv4Address) → is_local s.host.inner (Address.Ipv4 a) ≡ true → IsNeighbor s.host.inner node asked
      → Arps.IsValue (arp_reply node asked own a) → IsNext moves t s.device (frame_of i (Tells (arp_reply node asked own a)) ++ padding)
      → IngressStep moves t s (Some true) s'
      → (s'.host.inner ≡ with_neighbor (at_instant t s.host.inner) (Address.Ipv4 asked) (Hardware.Ethernet node)) × (s'.slots ≡ s.slots)
  learned a asked mine near value only step =
      let reply : ArpRepr = arp_reply node asked own a in
      let read : IsContent s.host.inner.hardware s.host.inner.checksums (frame_of i (Tells reply) ++ padding) (Some (read_of i (Tells reply))) =
      subst (λ (h : HardwareAddress). IsContent h s.host.inner.checksums (frame_of i (Tells reply) ++ padding) (Some (read_of i (Tells reply)))) (sym on)
      (arrives i (Hardware.Ethernet own) s.host.inner.checksums (Tells reply) padding sealed (tt, value)) in
      let heard : passes_filter (at_instant t s.host.inner) (Some (arp_link reply)) ≡ true =
      or_left (is_same_hardware s.host.inner.hardware (Hardware.Ethernet own)) _
      (ap (λ (h : HardwareAddress). is_same_hardware h (Hardware.Ethernet own)) on ∙ (bytes_eq-Decides own.0 own.0).1 refl) in
      let came_in : Came moves t s s' (frame_of i (Tells reply) ++ padding) reply =
      came moves t s s' (frame_of i (Tells reply) ++ padding) reply only read heard step in
      let learns : arp_arrived (at_instant t s.host.inner) reply
      ≡ with_neighbor (at_instant t s.host.inner) (Address.Ipv4 asked) (Hardware.Ethernet node) =
      ap (λ (b : Bool). if b then with_neighbor (at_instant t s.host.inner) (Address.Ipv4 asked) (Hardware.Ethernet node) else at_instant t s.host.inner)
      (and_from (is_for_local (at_instant t s.host.inner) reply || is_from_known (at_instant t s.host.inner) reply) _ (or_left _ _ mine)
      (and_from _ _ (and_from _ _ near.one near.sound) near.near)) in
      let ends : sender_of moves s' ≡ sender came_in.mid (arp_arrived (at_instant t s.host.inner) reply) s.host.left =
      silent came_in.mid (arp_arrived (at_instant t s.host.inner) reply) came_in.awaited came_in.replied in
      (ap (λ (x : Sender D). x.inner) ends ∙ learns, came_in.slots)
    where
      -- a reply isn't answered
      no_answer : (b : Bool) (h : HardwareAddress) → (if b then answer_at h (arp_reply node asked own a) else None) ≡ None
      no_answer true (Hardware.Ethernet node) = refl
      no_answer true Hardware.Ip = refl
      no_answer false h = refl

      silent : (mid : D) (then_inner : InnerValue) (awaited : Bool)
          → Replied moves awaited (told (arp_answer (at_instant t s.host.inner) (arp_reply node asked own a))) (sender mid then_inner s.host.left) (sender_of moves s')
          → sender_of moves s' ≡ sender mid then_inner s.host.left
      silent mid then_inner awaited replied =
          subst (λ (o : Option ArpRepr). Replied moves awaited (told o) (sender mid then_inner s.host.left) (sender_of moves s'))
          (no_answer (counts (at_instant t s.host.inner) (arp_reply node asked own a) || probes (at_instant t s.host.inner) (arp_reply node asked own a))
          s.host.inner.hardware) replied

  knows : (a asked : Ipv4Address) → is_local s.host.inner (Address.Ipv4 a) ≡ true → IsNeighbor s.host.inner node asked
      → Arps.IsValue (arp_reply node asked own a) → IsNext moves t s.device (frame_of i (Tells (arp_reply node asked own a)) ++ padding)
      → IngressStep moves t s (Some true) s' → (to : IpAddress) → IsVia (at_instant t s.host.inner) to (Address.Ipv4 asked)
      → link_address s'.host.inner to ≡ Link.Known (Hardware.Ethernet node)
  knows a asked mine near value only step to via =
      ap (λ (x : InnerValue). link_address x to) (learned a asked mine near value only step).0
      ∙ goes_there (at_instant t s.host.inner) own node (Address.Ipv4 asked) to on via

pub question_answered : {D : Type 0} (moves : D → Move → D → Type 0) (t : ℤ) (s s' : State D) (i : InnerValue) (padding : List ℕ)
    (own node : EthernetAddress) (a asked : Ipv4Address)
    → s.host.inner.hardware ≡ Hardware.Ethernet own → AreSealed i.checksums s.host.inner.checksums → is_local s.host.inner (Address.Ipv4 asked) ≡ true
    → IsNeighbor s.host.inner node a → IsNeighborQuery (Query.Arp node a asked)
    → IsNext moves t s.device (frame_of i (Asks (Query.Arp node a asked)) ++ padding)
    → IngressStep moves t s (Some true) s' → Asked.Tells moves s.host.inner (arp_reply own asked node a) s.device s'.device
question_answered {D} moves t s s' i padding own node a asked on sealed mine near question only step =
    answers moves t s s' i padding own node on sealed a asked mine near question only step

pub answer_known : {D : Type 0} (moves : D → Move → D → Type 0) (t : ℤ) (s s' : State D) (i : InnerValue) (padding : List ℕ)
    (own node : EthernetAddress) (a asked : Ipv4Address) (to : IpAddress)
    → s.host.inner.hardware ≡ Hardware.Ethernet own → AreSealed i.checksums s.host.inner.checksums → is_local s.host.inner (Address.Ipv4 a) ≡ true
    → IsNeighbor s.host.inner node asked → Arps.IsValue (arp_reply node asked own a)
    → IsNext moves t s.device (frame_of i (Tells (arp_reply node asked own a)) ++ padding)
    → IngressStep moves t s (Some true) s' → IsVia (at_instant t s.host.inner) to (Address.Ipv4 asked)
    → link_address s'.host.inner to ≡ Link.Known (Hardware.Ethernet node)
answer_known {D} moves t s s' i padding own node a asked to on sealed mine near value only step via =
    knows moves t s s' i padding own node on sealed a asked mine near value only step to via
