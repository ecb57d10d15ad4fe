-- With host requirements a packet that waits for its next hop goes once that one's hardware address is known.
use Rattle.std.proofs.Common.{◌≡◌, ℕ, zero, suc, Bool, true, false, ◌⊎◌, inl, inr, ℤ, List, [], ◌∷◌, ◌++◌, Option, Some, None, is_some, refl, sym, ap, ◌∙◌, subst}
use Rattle.std.specs.Prelude.{slice_get}
use Rattle.std.specs.List.{list_any}
use Rattle.net_base.specs.Capabilities.{computes}
use Rattle.net_base.specs.Device.{Move, Allowed, Emitted, Denied}
use Rattle.ip_wire.specs.HardwareAddress.{HardwareAddress}
use Rattle.ip_wire.specs.Ip as Ips
use Rattle.ip_wire.specs.IpAddress.{IpAddress}
use Rattle.ip_wire.specs.IpRepr.{IpRepr}
use Rattle.ip_wire.specs.IpRepr.TheVariants as Ip
use Rattle.iface_ingress.specs.Packet.{PacketValue, PayloadValue, Bytes, ControlV4, ControlV6, Datagram, Segment, payload_written}
use Rattle.iface_tables.specs.Inner.{InnerValue, at_instant}
use Rattle.iface_tables.specs.Parking.{ParkedValue, empty_parking, parked_as}
use Rattle.iface_egress.specs.Departure.{Whole, ether_for, link_header}
use Rattle.iface_egress.specs.IsTransmitted.{WasSent, frame_len_of, frame_of, numbered, numbered_header}
use Rattle.iface_egress.specs.Parked.{GoesOn, LeavesBy, ServesEach, ServesParked, lent, packet_in}
use Rattle.iface_egress.specs.Parked as Parking
use Rattle.iface_egress.specs.Plan.{plan_of}
use Rattle.iface_egress.specs.declared.egress_path.Sent.{Sent}
use Rattle.iface_egress.specs.declared.egress_path.Sent.TheVariants as Outcome
use Rattle.iface_egress.specs.declared.plan.Plan.{Plan}
use Rattle.iface_egress.specs.declared.plan.Plan.TheVariants as Way
use Rattle.iface_egress.specs.declared.socket_set.SocketStorage.{SocketStorage}
use Rattle.iface_ingress.specs.Socket.{Socket}
use Rattle.interface.specs.Awaited.{turn_of}
use Rattle.interface.specs.Egress.{EgressStep, sending}
use Rattle.interface.specs.EgressPath.{ClearsIf, Egress}
use Rattle.interface.specs.Host.{Sender}
use Rattle.interface.specs.Pass.{Passed}
use Rattle.interface.specs.SameHost.{IsSameHost}
use Rattle.interface.specs.State.{State}
use Rattle.interface.proofs.Parked.{HasLeft, left_by}
use Rattle.interface.proofs.SameHost.{is_transmitted_same, same_parked, same_where}
use Rattle.proof_stack.specs.Progress.Moves.{AreMoves, is_refused}
use Rattle.proof_stack.specs.Progress.Parked.{GoesFromThere}
use Rattle.proof_stack.specs.Progress.Queued.{Sends, SendsPacket, frame_under, with_ident}
use Rattle.proof_stack.specs.Progress.Segments.{CanTransmit}
use Rattle.proof_stack.proofs.Polls.AnyTurn.{Left, Moved, Refused, Through, cleared, each_through, left_through, pass_through}
use Rattle.proof_stack.proofs.Polls.Passes.{clears_same}
use Rattle.proof_stack.proofs.Polls.Walks.{joined, refused_before, refused_following, sends_before, sends_following}
use Rattle.proof_stack.proofs.Polls.Ways.{goes_by_plan, leave_still, same_frame, under_still}

abbrev no_packet : Option ParkedValue
no_packet = None

module _ {D : Type 0} (moves : D → Move → D → Type 0) (k : ParkedValue) (to : HardwareAddress) where
  abbrev p : PacketValue
  p = packet_in k

  abbrev Goes : InnerValue → D → D → Type 0
  Goes i old new = GoesFromThere moves i to p old new

  -- after moves of others
  goes_later : (i j : InnerValue) (xs : List Move) (old mid new : D) → IsSameHost i j → AreMoves moves xs old mid → Goes j mid new → Goes i old new
  goes_later i j xs old mid new same are rest = record {
    all = xs ++ rest.all;
    are = joined moves xs rest.all old mid new are rest.are;
    what = by rest.all rest.what;
  }
    where
      by : (ys : List Move) → (list_any is_refused ys ≡ true) ⊎ SendsPacket j to p ys → (list_any is_refused (xs ++ ys) ≡ true) ⊎ SendsPacket i to p (xs ++ ys)
      by ys (inl refused) = inl (refused_following xs ys refused)
      by ys (inr sent) = inr (
        sent.0,
        sends_following (frame_under i sent.0 to p) xs ys (subst (λ (frame : List ℕ). Sends frame ys) (under_still i j sent.0 to p same) sent.1),
      )

  -- and before them
  goes_first : (i : InnerValue) (ys : List Move) (old mid new : D) → Goes i old mid → AreMoves moves ys mid new → Goes i old new
  goes_first i ys old mid new first are = record {
    all = first.all ++ ys;
    are = joined moves first.all ys old mid new first.are are;
    what = by first.all first.what;
  }
    where
      by : (xs : List Move) → (list_any is_refused xs ≡ true) ⊎ SendsPacket i to p xs → (list_any is_refused (xs ++ ys) ≡ true) ⊎ SendsPacket i to p (xs ++ ys)
      by xs (inl refused) = inl (refused_before xs ys refused)
      by xs (inr sent) = inr (sent.0, sends_before (frame_under i sent.0 to p) xs ys sent.1)

  goes_at : (i : InnerValue) (old new new' : D) → new' ≡ new → Goes i old new → Goes i old new'
  goes_at i old new new' is goes = subst (Goes i old) (sym is) goes

  only_refused : (i : InnerValue) (all : List Move) (old new : D) → AreMoves moves all old new → list_any is_refused all ≡ true → Goes i old new
  only_refused i all old new are refused = record { all = all; are = are; what = inl refused }

  -- ITS OWN TURN

  module _ (x x' : Sender D) where
    whole : (mid : D) (sent : Sent) → moves x.device (Allowed x.inner.instant true) mid
        → WasSent moves mid x.inner p.header (Whole to (numbered x.inner p)) sent x'.device x'.inner → Goes x.inner x.device x'.device
    whole mid Outcome.Gone leave goes = record {
      all = Allowed x.inner.instant true ∷ Emitted (frame_of x.inner (Whole to (numbered x.inner p))) ∷ [];
      are = (mid, leave, (x'.device, goes.0.0, refl));
      what = inr (
        x.inner.ident,
        subst (λ (frame : List ℕ). Sends frame (Allowed x.inner.instant true ∷ Emitted (frame_of x.inner (Whole to (numbered x.inner p))) ∷ []))
            (same_frame x.inner x.inner to p (same_where x.inner x.inner refl)) (inr (inl refl)),
      );
    }
    whole mid Outcome.Refused leave goes =
        only_refused x.inner (Allowed x.inner.instant true ∷ Denied (frame_len_of x.inner (Whole to (numbered x.inner p))) ∷ []) x.device x'.device
        (mid, leave, (x'.device, goes.0, refl)) refl
    whole mid Outcome.Waits leave goes = absurd goes
    whole mid Outcome.Dropped leave goes = absurd goes
    whole mid Outcome.Busy leave goes = absurd goes

    by_plan : (sent : Sent) → LeavesBy moves (Way.Go to) x p sent x' → Goes x.inner x.device x'.device
    by_plan sent (inl refused) = only_refused x.inner (Allowed x.inner.instant false ∷ []) x.device x'.device (x'.device, refused.0, refl) refl
    by_plan sent (inr goes) = whole goes.0 sent goes.1 goes.2.0

    one_goes : (sent : Sent) → CanTransmit x.inner to p → Parking.Leaves moves x p sent x' → Goes x.inner x.device x'.device
    one_goes sent can goes =
        by_plan sent (subst (λ (plan : Plan). LeavesBy moves plan x p sent x') (goes_by_plan x.inner (is_some x.left) to p can) goes)

    -- another one's leaves the host
    left_same : (q : ParkedValue) (sent : Sent) → HasLeft moves x (packet_in q) sent x' → IsSameHost x.inner x'.inner
    left_same q sent (inl stays) = same_where x.inner x'.inner (ap (λ (y : Sender D). y.inner) stays)
    left_same q sent (inr (inl refused)) = same_where x.inner x'.inner refused.1
    left_same q sent (inr (inr goes)) =
        is_transmitted_same moves goes.0 x'.device x.inner x'.inner x.left x'.left (packet_in q) (is_some x.left) sent goes.2

  -- ALL OF THEM

  is_it : (q : ParkedValue) → Some q ≡ Some k → q ≡ k
  is_it q stands = cc

  each_goes : (rest kept : List ParkedValue) (n : ℕ) (x : Sender D) (all : Bool) (x' : Sender D) (left : List ParkedValue) → slice_get rest n ≡ Some k
      → CanTransmit x.inner to p → ServesEach moves rest kept x all x' left → Goes x.inner x.device x'.device
  each_goes [] kept n x all x' left stands can serves = absurd (let never : no_packet ≡ Some k = stands in cc)
  each_goes (q ∷ rest) kept zero x all x' left stands can serves =
      by serves.0 (one_goes x mid serves.0 can (subst (λ (o : ParkedValue). Parking.Leaves moves x (packet_in o) serves.0 mid) (is_it q stands) serves.2)) serves.3
    where
      mid : Sender D
      mid = serves.1

      on : (kept' : List ParkedValue) → Goes x.inner x.device mid.device → ServesEach moves rest kept' mid all x' left → Goes x.inner x.device x'.device
      on kept' goes later =
          let more : Through moves (all ≡ true) mid.device x'.device = each_through moves rest kept' mid all x' left later in
          goes_first x.inner more.all x.device mid.device x'.device goes more.are

      by : (sent : Sent) → Goes x.inner x.device mid.device
          → GoesOn moves sent (ServesEach moves rest kept mid all x' left) (ServesEach moves rest (kept ++ q ∷ []) mid all x' left)
          ((all ≡ false) × (x' ≡ mid) × (left ≡ kept ++ q ∷ rest)) → Goes x.inner x.device x'.device
      by Outcome.Gone goes later = on kept goes later
      by Outcome.Dropped goes later = on kept goes later
      by Outcome.Waits goes later = on (kept ++ q ∷ []) goes later
      by Outcome.Busy goes later = on (kept ++ q ∷ []) goes later
      by Outcome.Refused goes later = goes_at x.inner x.device mid.device x'.device (ap (λ (y : Sender D). y.device) later.1) goes
  each_goes (q ∷ rest) kept (suc n) x all x' left stands can serves =
      by serves.0 (left_through moves plan x mid (packet_in q) serves.0 serves.2) serves.3
      (λ on later. each_goes rest on n mid all x' left stands (leave_still x.inner mid.inner to p same can) later)
    where
      mid : Sender D
      mid = serves.1

      plan : Plan
      plan = plan_of x.inner (is_some x.left) q.header

      same : IsSameHost x.inner mid.inner
      same = left_same x mid q serves.0 (left_by moves plan x (packet_in q) serves.0 mid serves.2)

      by : (sent : Sent) → Left moves x mid (packet_in q) sent x.device
          → GoesOn moves sent (ServesEach moves rest kept mid all x' left) (ServesEach moves rest (kept ++ q ∷ []) mid all x' left)
          ((all ≡ false) × (x' ≡ mid) × (left ≡ kept ++ q ∷ rest))
          → ((on : List ParkedValue) → ServesEach moves rest on mid all x' left → Goes mid.inner mid.device x'.device) → Goes x.inner x.device x'.device
      by Outcome.Gone one later more = goes_later x.inner mid.inner one.all x.device mid.device x'.device same one.are (more kept later)
      by Outcome.Dropped one later more = goes_later x.inner mid.inner one.all x.device mid.device x'.device same one.are (more kept later)
      by Outcome.Waits one later more = goes_later x.inner mid.inner one.all x.device mid.device x'.device same one.are (more (kept ++ q ∷ []) later)
      by Outcome.Busy one later more = goes_later x.inner mid.inner one.all x.device mid.device x'.device same one.are (more (kept ++ q ∷ []) later)
      by Outcome.Refused one later more =
          goes_at x.inner x.device mid.device x'.device (ap (λ (y : Sender D). y.device) later.1)
          (only_refused x.inner one.all x.device mid.device one.are (refused one.what))
        where
          refused : Refused moves one.all ⊎ (Outcome.Refused ≡ Outcome.Refused → ⊥) → Refused moves one.all
          refused (inl is) = is
          refused (inr never) = absurd (never refl)

  parked_goes : (x x' : Sender D) (all : Bool) (n : ℕ) → x.inner.host_requirements ≡ true → slice_get x.inner.parking.packets n ≡ Some k
      → CanTransmit x.inner to p → ServesParked moves x all x' → Goes x.inner x.device x'.device
  parked_goes x x' all n many stands can serves =
      let same : IsSameHost x.inner (lent moves x).inner = same_parked x.inner (empty_parking 0) many in
      goes_at x.inner x.device serves.0.device x'.device (ap (λ (y : Sender D). y.device) serves.3)
      (goes_later x.inner (lent moves x).inner [] x.device (lent moves x).device serves.0.device same refl
      (each_goes x.inner.parking.packets [] n (lent moves x) all serves.0 serves.1 stands (leave_still x.inner (lent moves x).inner to p same can) serves.2))

  -- THE STEP

  module _ (s : Sender D) (n : ℕ) (many : s.inner.host_requirements ≡ true) (stands : slice_get s.inner.parking.packets n ≡ Some k)
      (can : CanTransmit s.inner to p) where
    clears_goes : (mid : Sender D) (clear : Bool) → ClearsIf moves true s clear mid → Goes s.inner s.device mid.device
    clears_goes mid clear (inl stops) =
        let first : Through moves (false ≡ true) s.device mid.device = cleared moves s.left s mid false stops.0 in
        only_refused s.inner first.all s.device mid.device first.are (refused first.all first.what)
      where
        refused : (all : List Move) → Refused moves all ⊎ (false ≡ true) → Refused moves all
        refused all (inl is) = is
        refused all (inr is) = absurd (let clash : false ≡ true = is in cc)
    clears_goes mid clear (inr goes) =
        let first : Through moves (true ≡ true) s.device goes.0.device = cleared moves s.left s goes.0 true goes.1 in
        let is : goes.0.inner ≡ s.inner = clears_same moves s.left s goes.0 true goes.1 in
        goes_later s.inner goes.0.inner first.all s.device goes.0.device mid.device (same_where s.inner goes.0.inner is) first.are
        (parked_goes goes.0 mid clear n (ap (λ (i : InnerValue). i.host_requirements) is ∙ many)
        (ap (λ (i : InnerValue). slice_get i.parking.packets n) is ∙ stands) (subst (λ (i : InnerValue). CanTransmit i to p) (sym is) can) goes.2)

    all_goes : (mid : Sender D) (clear : Bool) → ClearsIf moves s.inner.host_requirements s clear mid → Goes s.inner s.device mid.device
    all_goes mid clear goes = clears_goes mid clear (subst (λ (b : Bool). ClearsIf moves b s clear mid) many goes)

    egress_goes : (ps : List (SocketStorage Socket)) (e : Passed D) → Egress moves s ps e → Goes s.inner s.device e.sender.device
    egress_goes ps e (inl stops) =
        goes_at s.inner s.device stops.0.device e.sender.device (ap (λ (x : Passed D). x.sender.device) stops.2) (all_goes stops.0 false stops.1)
    egress_goes ps e (inr goes) =
        let rest : Moved moves goes.0.device e.sender.device = pass_through moves (turn_of goes.0.inner ps) goes.0 [] false ps e goes.2 in
        goes_first s.inner rest.all s.device goes.0.device e.sender.device (all_goes goes.0 true goes.1) rest.are

pub step_goes : {D : Type 0} (moves : D → Move → D → Type 0) (t : ℤ) (s s' : State D) (answer : Option Bool) (n : ℕ) (k : ParkedValue)
    (to : HardwareAddress) → s.host.inner.host_requirements ≡ true → slice_get s.host.inner.parking.packets n ≡ Some k
    → CanTransmit (at_instant t s.host.inner) to (packet_in k) → EgressStep moves t s answer s'
    → GoesFromThere moves (at_instant t s.host.inner) to (packet_in k) s.device s'.device
step_goes {D} moves t s s' answer n k to many stands can step =
    goes_at moves k to (at_instant t s.host.inner) s.device step.0.sender.device s'.device (ap (λ (x : State D). x.device) step.2)
    (egress_goes moves k to (sending t s) n many stands can s.slots step.0 step.1)

-- AS IT WOULD HAVE GONE, at once

-- a number isn't among what a payload is written of
written_as : (i : InnerValue) (h : IpRepr) (x : PayloadValue) → payload_written i.checksums h x ≡ payload_written i.checksums (numbered_header i h) x
written_as i (Ip.Ipv4 v) (ControlV4 message bytes) = refl
written_as i (Ip.Ipv4 v) (ControlV6 message bytes) = refl
written_as i (Ip.Ipv4 v) (Bytes bytes) = refl
written_as i (Ip.Ipv4 v) (Datagram header bytes) = refl
written_as i (Ip.Ipv4 v) (Segment header bytes) = refl
written_as i (Ip.Ipv6 v) x = refl

pub same_frame_then : (i : InnerValue) (ident : ℕ) (to : HardwareAddress) (hop : IpAddress) (p : PacketValue)
    → frame_under i ident to (packet_in (parked_as i.checksums hop p)) ≡ frame_under i ident to p
same_frame_then i ident to hop p =
    let j : InnerValue = with_ident i ident in
    ap (λ (bytes : List ℕ). link_header j.hardware to (ether_for (numbered_header j p.header))
    ++ (Ips.written (computes j.checksums.ipv4) (numbered_header j p.header) ++ bytes)) (written_as j p.header p.payload)
