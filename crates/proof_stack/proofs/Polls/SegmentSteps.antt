-- As a host reads a frame, no socket before that of a connection comes to have the connection, too.
use Rattle.std.proofs.Common.{◌≡◌, ℕ, zero, suc, ◌<◌, Bool, true, false, if◌then◌else◌, ℤ, List, [], ◌∷◌, Option, Some, None, refl, sym, ap, ◌∙◌, subst, arith}
use Rattle.std.specs.Prelude.{slice_set}
use Rattle.net_base.specs.Device.{Move}
use Rattle.wire_address.specs.declared.ip.IpAddress.TheVariants as Address
use Rattle.wire_ip.specs.declared.ip.repr.IpRepr.{IpRepr}
use Rattle.wire_ip.specs.declared.ip.repr.IpRepr.TheVariants as Ip
use Rattle.ip_wire.specs.TcpHeader.{TcpHeader}
use Rattle.ip_wire.specs.declared.ethernet.repr.EthernetRepr.{EthernetRepr}
use Rattle.sockets.specs.Socket.{accepts_packet, accepts_segment}
use Rattle.tcp_state.specs.Endpoints.{is_between, pair_in}
use Rattle.tcp_refinement.specs.Endpoints.{CameBetween}
use Rattle.iface_ingress.specs.Arrives.{Arrived, ArrivesV4, ArrivesV6, Brings, renewed, whole_arrived}
use Rattle.iface_ingress.specs.UpperLayer.{IsCarriedContent}
use Rattle.iface_ingress.specs.Delivered.{Slots, changed_at, changed_in, first_slot, packet_delivered, passes, segment_delivered}
use Rattle.iface_ingress.specs.Delivered.{segment_slot, with_change, with_packet, with_segment}
use Rattle.iface_ingress.specs.Processed.{HandsTo, names_no_endpoint, segment_slots}
use Rattle.iface_ingress.specs.Incoming.{IncomingValue, Arp, Ip4, Ip6}
use Rattle.iface_ingress.specs.Packet.{PayloadValue, Bytes, ControlV4, ControlV6, Datagram, Segment}
use Rattle.iface_ingress.specs.Socket.{Socket}
use Rattle.iface_ingress.specs.Upper.{upper_header, upper_payload}
use Rattle.iface_ingress.proofs.OneContent.{one-carried-content}
use Rattle.iface_tables.specs.Best.{at_index}
use Rattle.iface_tables.specs.Inner.{InnerValue, at_instant, context_of, is_for_us}
use Rattle.iface_tables.specs.Reassembly.{or_else}
use Rattle.iface_egress.specs.declared.socket_set.SocketStorage.{SocketStorage}
use Rattle.interface.specs.Host.{maintained}
use Rattle.interface.specs.Ingress.{IngressStep}
use Rattle.interface.specs.State.{State}
use Rattle.proof_stack.proofs.Peers.Arrivals.{handed}
use Rattle.proof_stack.proofs.Peers.Place.{AtOr, all_hold}
use Rattle.proof_stack.proofs.Polls.Connected.{Has, HasNot, IsApart, NoneBefore, not_law}
use Rattle.proof_stack.proofs.Polls.Delivered.{same_position}
use Rattle.proof_stack.proofs.Polls.Reached.{same_connected}
use Rattle.proof_stack.proofs.Polls.Segments.{alike_connected, came_between, in_place}

clash : {X : Type 0} → true ≡ false → X
clash {X} e = absurd cc

module _ (ip : IpRepr) (header : TcpHeader) (m : ℕ) where
  -- a segment between the same endpoints
  abbrev ours_in : Option PayloadValue → IpRepr → Bool
  ours_in (Some (Segment header' bytes)) ip' = is_between (pair_in ip' header') ip header
  ours_in other ip' = false

  -- another slot is changed
  set_after : (slots : Slots) (at k : ℕ) (put : SocketStorage Socket) → k < at → AtOr (Unit {0}) (HasNot ip header) slots k
      → AtOr (Unit {0}) (HasNot ip header) (slice_set slots at put) k
  set_after [] at k put less none = absurd none
  set_after (p ∷ ps) zero k put less none = absurd (omega (arith, less))
  set_after (p ∷ ps) (suc at) zero put less none = none
  set_after (p ∷ ps) (suc at) (suc k) put less none = set_after ps at k put (omega (arith, less)) none

  changed_after : (change : Socket → Socket) (o : Option (SocketStorage Socket)) (slots : Slots) (k : ℕ) → k < m
      → AtOr (Unit {0}) (HasNot ip header) slots k → AtOr (Unit {0}) (HasNot ip header) (changed_in change (Some m) o slots) k
  changed_after change None slots k less none = none
  changed_after change (Some slot) slots k less none = set_after slots m k (with_change change slot) less none

  raw_not : (ip' : IpRepr) (payload : List ℕ) (s : Socket) → HasNot ip header s → HasNot ip header (with_packet ip' payload s)
  raw_not ip' payload s none = (not_law ip header).packet ip' payload s none

  module _ (i : InnerValue) (slots : Slots) (ip' : IpRepr) (payload : List ℕ) (first : first_slot (Has ip header) slots ≡ Some m)
      (none : NoneBefore ip header m slots) where
    abbrev then_slots : Slots
    then_slots = packet_delivered ip' payload slots

    then_none : NoneBefore ip header m then_slots
    then_none k less =
        all_hold (Unit {0}) (HasNot ip header) (HasNot ip header) (λ s it. it) (λ s. accepts_packet s ip') (with_packet ip' payload) (raw_not ip' payload) slots k
        (none k less)

    then_first : first_slot (Has ip header) then_slots ≡ Some m
    then_first = same_connected ip' payload ip header slots ∙ first

    -- a segment of the connection goes to its socket
    to_it : (header' : TcpHeader) (bytes : List ℕ) → is_between (pair_in ip' header') ip header ≡ true
        → NoneBefore ip header m (segment_slots i then_slots ip' header' bytes)
    to_it header' bytes ours k less = by (names_no_endpoint i ip') where
      between : CameBetween (pair_in ip' header') ip header
      between = came_between (pair_in ip' header') ip header ours

      at_it : segment_slot ip' header' then_slots ≡ Some m
      at_it =
          ap (λ (o : Option ℕ). or_else o (first_slot (λ s. accepts_segment s ip' header') then_slots))
          (same_position (passes (Has ip' header')) (passes (Has ip header))
          (in_place (Has ip' header') (Has ip header) (alike_connected ip' header' ip header between)) then_slots
          ∙ then_first)

      by : (nobody : Bool)
          → AtOr (Unit {0}) (HasNot ip header) (if nobody then then_slots else segment_delivered (context_of i) ip' header' bytes then_slots) k
      by true = then_none k less
      by false =
          subst (λ (o : Option ℕ). AtOr (Unit {0}) (HasNot ip header) (changed_at (with_segment (context_of i) ip' header' bytes) o then_slots) k) (sym at_it)
          (changed_after (with_segment (context_of i) ip' header' bytes) (at_index (Some m) then_slots) then_slots k less (then_none k less))

    hands_ours : (carried : Option PayloadValue) (to : Slots) → ours_in carried ip' ≡ true → HandsTo i then_slots ip' carried to → NoneBefore ip header m to
    hands_ours (Some (Segment header' bytes)) to ours hands = subst (λ (ps : Slots). NoneBefore ip header m ps) (sym hands) (to_it header' bytes ours)
    hands_ours (Some (ControlV4 message bytes)) to ours hands = clash (sym ours)
    hands_ours (Some (ControlV6 message bytes)) to ours hands = clash (sym ours)
    hands_ours (Some (Bytes bytes)) to ours hands = clash (sym ours)
    hands_ours (Some (Datagram udp bytes)) to ours hands = clash (sym ours)
    hands_ours None to ours hands = clash (sym ours)

    -- whatever the packet carries
    hands : (carried : Option PayloadValue) (to : Slots) → IsCarriedContent i.checksums (upper_header ip' payload) (upper_payload ip' payload) carried
        → HandsTo i then_slots ip' carried to → NoneBefore ip header m to
    hands carried to is so = by (ours_in carried ip') refl where
      by : (ours : Bool) → ours_in carried ip' ≡ ours → NoneBefore ip header m to
      by true ours k less = hands_ours carried to ours so k less
      by false ours k less =
          handed (IsApart ip header) (Unit {0}) (HasNot ip header) (HasNot ip header) (not_law ip header) k i then_slots ip' payload carried
          (λ header' bytes segment.
          ap (λ (o : Option PayloadValue). ours_in o ip')
          (sym (one-carried-content i.checksums (upper_header ip' payload) (upper_payload ip' payload) carried (Some (Segment header' bytes)) is segment))
          ∙ ours)
          is to so (then_none k less)

  module _ (slots : Slots) (first : first_slot (Has ip header) slots ≡ Some m) (none : NoneBefore ip header m slots) where
    silent : (ip' : IpRepr) (payload : List ℕ) → NoneBefore ip header m (packet_delivered ip' payload slots)
    silent ip' payload k less =
        all_hold (Unit {0}) (HasNot ip header) (HasNot ip header) (λ s it. it) (λ s. accepts_packet s ip') (with_packet ip' payload) (raw_not ip' payload) slots k
        (none k less)

    v4 : (ours : Bool) (i : InnerValue) (link : Option EthernetRepr) (ip' : IpRepr) (payload : List ℕ) (a : Arrived)
        → ArrivesV4 ours i slots link ip' payload a → NoneBefore ip header m a.slots
    v4 true i link ip' payload a is = hands (renewed i link ip') slots ip' payload first none is.0 a.slots is.1 is.2.slots_are
    v4 false i link ip' payload a is = subst (λ (ps : Slots). NoneBefore ip header m ps) (sym is.slots_are) (silent ip' payload)

    v6 : (ours : Bool) (i : InnerValue) (link : Option EthernetRepr) (ip' : IpRepr) (payload : List ℕ) (a : Arrived)
        → ArrivesV6 ours i slots link ip' payload a → NoneBefore ip header m a.slots
    v6 true i link ip' payload a is = hands (renewed i link ip') slots ip' payload first none is.0 a.slots is.1 is.2.slots_are
    v6 false i link ip' payload a is = subst (λ (ps : Slots). NoneBefore ip header m ps) (sym is.slots_are) none

    brings : (i : InnerValue) (content : Option IncomingValue) (a : Arrived) → Brings i slots content a → NoneBefore ip header m a.slots
    brings i None a is = subst (λ (ps : Slots). NoneBefore ip header m ps) (sym is.slots_are) none
    brings i (Some (Arp link packet)) a is = subst (λ (ps : Slots). NoneBefore ip header m ps) (sym is.slots_are) none
    brings i (Some (Ip4 link h fragment payload)) a is = v4 (is_for_us i (Address.Ipv4 h.dst_addr)) i link (Ip.Ipv4 h) payload a is
    brings i (Some (Ip6 link h payload)) a is = v6 (is_for_us i (Address.Ipv6 h.dst_addr)) i link (Ip.Ipv6 h) payload a is

  -- a step of the ingress path
  pub step_none : {E : Type 0} (moves : E → Move → E → Type 0) (u : ℤ) (s s' : State E) (answer : Option Bool)
      → first_slot (Has ip header) s.slots ≡ Some m → NoneBefore ip header m s.slots → IngressStep moves u s answer s'
      → NoneBefore ip header m s'.slots
  step_none {E} moves u s s' None first none step = subst (λ (x : State E). NoneBefore ip header m x.slots) (sym step.1) none
  step_none {E} moves u s s' (Some false) first none step = subst (λ (x : State E). NoneBefore ip header m x.slots) (sym step.3) none
  step_none {E} moves u s s' (Some true) first none step =
      let receives = step.4.2 in
      subst (λ (ps : Slots). NoneBefore ip header m ps) (sym receives.2) (brings s.slots first none (at_instant u s.host.inner)
      (whole_arrived (at_instant u s.host.inner) s.host.timeout (maintained u s.host).assemblers step.4.0) receives.0 receives.1.1)
