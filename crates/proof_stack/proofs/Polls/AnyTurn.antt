-- What each part of a step of the egress path asks of the device, and that what couldn't go was refused.
use Rattle.std.proofs.Common.{◌≡◌, ℕ, Bool, true, false, ◌||◌, ◌⊎◌, inl, inr, List, [], ◌∷◌, ◌++◌, Option, Some, None, is_some, refl, sym, ap, ◌∙◌, subst}
use Rattle.std.specs.List.{list_any}
use Rattle.net_base.specs.Device.{Move, Allowed, Emitted, Denied}
use Rattle.ip_wire.specs.Ip.{destination_of}
use Rattle.ip_wire.specs.IpAddress.{IpAddress}
use Rattle.iface_ingress.specs.Offer as Answer
use Rattle.iface_ingress.specs.Offer.TheVariants as Offer
use Rattle.iface_ingress.specs.Packet.{PacketValue}
use Rattle.iface_ingress.specs.Socket.{Socket}
use Rattle.iface_ingress.specs.Sockets.{offered_by}
use Rattle.iface_tables.specs.Parking.{ParkedValue}
use Rattle.iface_egress.specs.Departure as Departures
use Rattle.iface_egress.specs.Departure.{Departure}
use Rattle.iface_egress.specs.Fragments.{LeftValue, departure_from}
use Rattle.iface_egress.specs.IsTransmitted.{Asked, FragmentIsTransmitted, IsTransmitted, WasCut, WasSent, cut_of, frame_len_of, frame_of, numbered}
use Rattle.iface_egress.specs.Parked.{GoesOn, LeavesBy, ServesEach, ServesParked, Tries, lent, outcome_of, packet_in, parks}
use Rattle.iface_egress.specs.Plan.{plan_of}
use Rattle.iface_egress.specs.declared.egress_path.Sent.{Sent}
use Rattle.iface_egress.specs.declared.egress_path.Sent.TheVariants as Outcome
use Rattle.iface_egress.specs.declared.frame.NeighborQuery.{NeighborQuery}
use Rattle.iface_egress.specs.declared.plan.Plan.{Plan}
use Rattle.iface_egress.specs.declared.plan.Plan.TheVariants as Way
use Rattle.iface_egress.specs.declared.socket_set.Item.{Item}
use Rattle.iface_egress.specs.declared.socket_set.SocketStorage.{SocketStorage}
use Rattle.interface.specs.Awaited.{turn_of}
use Rattle.interface.specs.EgressPath.{Clears, ClearsIf, Egress, FragmentLeaves}
use Rattle.interface.specs.Host.{Sender}
use Rattle.interface.specs.Pass.{Pass, Passed}
use Rattle.interface.specs.Serve.{Answers, ItemTurns, LeavesIf, SendsBy, ServesSlot, TurnsIf, is_waiting, let_through, plan_at, settled_by, turned_by, waits_until}
use Rattle.interface.specs.declared.serve.Served.{Served}
use Rattle.interface.specs.declared.serve.Served.TheVariants as Turn
use Rattle.proof_stack.specs.Progress.Moves.{AreMoves, is_refused}
use Rattle.proof_stack.proofs.Polls.Turns.{Ends, leaves}
use Rattle.proof_stack.proofs.Polls.Walks.{joined, refused_before, refused_following}

module _ {D : Type 0} (moves : D → Move → D → Type 0) where
  -- moves, among them one that the device refused, or this
  pub record Through (Else : Type 0) (old new : D) : Type 0 where
    pub all : List Move
    pub are : AreMoves moves all old new
    pub what : (list_any is_refused all ≡ true) ⊎ Else

  abbrev pub Refused : List Move → Type 0
  Refused all = list_any is_refused all ≡ true

  -- one after the other
  pub then_through : (Else More : Type 0) (old mid new : D) → Through Else old mid → (Else → Through More mid new) → Through More mid new → Through More old new
  then_through Else More old mid new first more rest = by first.what where
    by : Refused first.all ⊎ Else → Through More old new
    by (inl refused) = record {
      all = first.all ++ rest.all;
      are = joined moves first.all rest.all old mid new first.are rest.are;
      what = inl (refused_before first.all rest.all refused);
    }
    by (inr is) =
        let later : Through More mid new = more is in
        record {
          all = first.all ++ later.all;
          are = joined moves first.all later.all old mid new first.are later.are;
          what = so later.all later.what;
        }
      where
        so : (ys : List Move) → Refused ys ⊎ More → Refused (first.all ++ ys) ⊎ More
        so ys (inl refused) = inl (refused_following first.all ys refused)
        so ys (inr is) = inr is

  unmoved : (Else : Type 0) (old new : D) → new ≡ old → Else → Through Else old new
  unmoved Else old new same is = record { all = []; are = same; what = inr is }

  -- A TURN

  abbrev pub Next : Served → Type 0
  Next turned = (b : Bool) × (turned ≡ Turn.Next b)

  module _ (turn : Option IpAddress) (x x' : Sender D) where
    abbrev Took : Served → Type 0
    Took turned = Through (Next turned) x.device x'.device

    rests : (turned : Served) (changed : Bool) → x' ≡ x → turned ≡ Turn.Next changed → Took turned
    rests turned changed same next = unmoved (Next turned) x.device x'.device (ap (λ (y : Sender D). y.device) same) (changed, next)

    -- a packet is sent, or waits, and may be parked
    sends_if : (many : Bool) (p : PacketValue) (item item' : Item Socket) (changed : Bool) (turned : Served) (sent : Sent)
        → LeavesIf moves turn many x item.meta p sent x' → turned ≡ turned_by sent changed
        → item' ≡ settled_by sent x.inner.instant (waits_until (plan_at x p) x'.inner) (destination_of p.header) item → Took turned
    sends_if false p item item' changed turned sent goes next settles =
        let ends : Ends moves (Unit {0}) x x' turned (Some item') = leaves moves (Unit {0}) turn x x' p item item' changed turned sent goes (next, settles) in
        record { all = ends.all; are = ends.are; what = ends.stops }
    sends_if true p item item' changed turned sent (came, mid, goes, outcome, after) next settles =
        let then_item : Item Socket = settled_by came x.inner.instant (waits_until (plan_at x p) mid.inner) (destination_of p.header) item in
        let ends : Ends moves (Unit {0}) x mid (turned_by came changed) (Some then_item) =
        leaves moves (Unit {0}) turn x mid p item then_item changed (turned_by came changed) came goes (refl, refl) in
        record {
          all = ends.all;
          are = subst (λ (d : D). AreMoves moves ends.all x.device d) (sym (ap (λ (y : Sender D). y.device) after)) ends.are;
          what = by (parks mid.inner p (plan_at x p) came) outcome ends.all ends.stops;
        }
      where
        by : (b : Bool) → sent ≡ outcome_of b came → (all : List Move) → Refused all ⊎ Next (turned_by came changed) → Refused all ⊎ Next turned
        by true is all what = inr (true, next ∙ ap (λ (s : Sent). turned_by s changed) is)
        by false is all (inl refused) = inl refused
        by false is all (inr on) = inr (on.0, next ∙ ap (λ (s : Sent). turned_by s changed) is ∙ on.1)

    sends : (o : Option PacketValue) (item item' : Item Socket) (changed : Bool) (turned : Served) → SendsBy moves turn o x item changed turned x' item'
        → Took turned
    sends None item item' changed turned goes = absurd goes
    sends (Some p) item item' changed turned goes =
        sends_if x.inner.host_requirements goes.0 item item' changed turned goes.3.0 goes.3.1 goes.3.2 goes.3.3

    answers : (answer : Answer.Offer) (item item' : Item Socket) (turned : Served) → Answers moves turn answer x item turned x' item' → Took turned
    answers (Offer.Packet changed) item item' turned goes = sends (offered_by item.socket) item item' changed turned goes
    answers (Offer.Silent changed) item item' turned goes = rests turned changed goes.1 goes.0

    turns_if : (waits : Bool) (item item' : Item Socket) (turned : Served) → TurnsIf moves turn waits x item turned x' item' → Took turned
    turns_if true item item' turned goes = rests turned false goes.1 goes.0
    turns_if false item item' turned goes = answers goes.0 (record item { socket = goes.1 }) item' turned goes.3

    items : (o o' : Option (Item Socket)) (turned : Served) → ItemTurns moves turn o x turned x' o' → Took turned
    items None None turned goes = rests turned false goes.1 goes.0
    items (Some item) (Some item') turned goes = turns_if (is_waiting x.inner item.meta) (let_through x.inner item) item' turned goes
    items None (Some item') turned goes = absurd goes
    items (Some item) None turned goes = absurd goes

    pub slot_through : (p p' : SocketStorage Socket) (turned : Served) → ServesSlot moves turn x p turned x' p' → Took turned
    slot_through p p' turned goes = items p.inner p'.inner turned goes

  abbrev pub Moved : D → D → Type 0
  Moved old new = Through (Unit {0}) old new

  -- a pass, whatever is refused in it
  pub pass_through : (turn : Option IpAddress) (s : Sender D) (before : List (SocketStorage Socket)) (changed : Bool) (ps : List (SocketStorage Socket))
      (e : Passed D) → Pass moves turn s before changed ps e → Moved s.device e.sender.device
  pass_through turn s before changed [] e ends = unmoved (Unit {0}) s.device e.sender.device (ap (λ (x : Passed D). x.sender.device) ends) tt
  pass_through turn s before changed (p ∷ ps) e (inl goes) =
      let rest : Moved goes.1.device e.sender.device = pass_through turn goes.1 (before ++ goes.2 ∷ []) (changed || goes.0) ps e goes.4 in
      then_through (Next (Turn.Next goes.0)) (Unit {0}) s.device goes.1.device e.sender.device
      (slot_through turn s goes.1 p goes.2 (Turn.Next goes.0) goes.3) (λ on. rest) rest
  pass_through turn s before changed (p ∷ ps) e (inr stops) =
      let rest : Moved stops.1.device e.sender.device =
      unmoved (Unit {0}) stops.1.device e.sender.device (ap (λ (x : Passed D). x.sender.device) stops.4) tt in
      then_through (Next (Turn.Stop stops.0)) (Unit {0}) s.device stops.1.device e.sender.device
      (slot_through turn s stops.1 p stops.2 (Turn.Stop stops.0) stops.3) (λ on. rest) rest

  -- A PACKET THAT WAITED for its next hop

  module _ (x x' : Sender D) (p : PacketValue) (sent : Sent) where
    abbrev pub NotRefused : Type 0
    NotRefused = sent ≡ Outcome.Refused → ⊥

    abbrev pub Left : D → Type 0
    Left old = Through NotRefused old x'.device

    stays : (o : Sent) → (o ≡ Outcome.Refused → ⊥) → sent ≡ o → x' ≡ x → Left x.device
    stays o never is same =
        unmoved NotRefused x.device x'.device (ap (λ (y : Sender D). y.device) same) (λ refused. never (sym is ∙ refused))

    module _ (mid : D) (leave : moves x.device (Allowed x.inner.instant true) mid) where
      none_went : (o : Sent) → (o ≡ Outcome.Refused → ⊥) → sent ≡ o → x'.device ≡ mid → Left x.device
      none_went o never is same = record {
        all = Allowed x.inner.instant true ∷ [];
        are = (x'.device, subst (λ (d : D). moves x.device (Allowed x.inner.instant true) d) (sym same) leave, refl);
        what = inr (λ refused. never (sym is ∙ refused));
      }

      went : (frame : List ℕ) → NotRefused → moves mid (Emitted frame) x'.device → Left x.device
      went frame never move = record {
        all = Allowed x.inner.instant true ∷ Emitted frame ∷ [];
        are = (mid, leave, (x'.device, move, refl));
        what = inr never;
      }

      denied : (len : ℕ) → moves mid (Denied len) x'.device → Left x.device
      denied len move = record {
        all = Allowed x.inner.instant true ∷ Denied len ∷ [];
        are = (mid, leave, (x'.device, move, refl));
        what = inl refl;
      }

  module _ (x x' : Sender D) (p : PacketValue) (mid : D) (leave : moves x.device (Allowed x.inner.instant true) mid) where
    asked : (q : NeighborQuery) (sent : Sent) → Asked moves mid x.inner q sent x'.device x'.inner → Left x x' p sent x.device
    asked q Outcome.Waits goes = went x x' p Outcome.Waits mid leave (frame_of x.inner (Departures.Asks q)) (λ is. cc) goes.0.0
    asked q Outcome.Refused goes = denied x x' p Outcome.Refused mid leave (frame_len_of x.inner (Departures.Asks q)) goes.0
    asked q Outcome.Gone goes = absurd goes
    asked q Outcome.Dropped goes = absurd goes
    asked q Outcome.Busy goes = absurd goes

    whole : (d : Departure) (sent : Sent) → WasSent moves mid x.inner p.header d sent x'.device x'.inner → Left x x' p sent x.device
    whole d Outcome.Gone goes = went x x' p Outcome.Gone mid leave (frame_of x.inner d) (λ is. cc) goes.0.0
    whole d Outcome.Refused goes = denied x x' p Outcome.Refused mid leave (frame_len_of x.inner d) goes.0
    whole d Outcome.Waits goes = absurd goes
    whole d Outcome.Dropped goes = absurd goes
    whole d Outcome.Busy goes = absurd goes

    cut : (c : LeftValue) (sent : Sent) → WasCut moves mid x.inner x.left c sent x'.device x'.inner x'.left → Left x x' p sent x.device
    cut c Outcome.Gone goes = went x x' p Outcome.Gone mid leave (frame_of x.inner (departure_from x.inner c)) (λ is. cc) goes.0.0
    cut c Outcome.Refused goes = denied x x' p Outcome.Refused mid leave (frame_len_of x.inner (departure_from x.inner c)) goes.0
    cut c Outcome.Waits goes = absurd goes
    cut c Outcome.Dropped goes = absurd goes
    cut c Outcome.Busy goes = absurd goes

    out : (plan : Plan) (sent : Sent) → IsTransmitted moves mid x.inner x.left p plan sent x'.device x'.inner x'.left → Left x x' p sent x.device
    out Way.Drop sent goes = none_went x x' p sent mid leave Outcome.Dropped (λ is. cc) goes.0 goes.1.0
    out Way.NoRoute sent goes = none_went x x' p sent mid leave Outcome.Waits (λ is. cc) goes.0 goes.1.0
    out Way.Wait sent goes = none_went x x' p sent mid leave Outcome.Waits (λ is. cc) goes.0 goes.1.0
    out Way.Busy sent goes = none_went x x' p sent mid leave Outcome.Busy (λ is. cc) goes.0 goes.1.0
    out (Way.Ask q) sent goes = asked q sent goes.0
    out (Way.Go to) sent goes = whole (Departures.Whole to (numbered x.inner p)) sent goes.0
    out (Way.Cut to) sent goes = cut (cut_of x.inner to p) sent goes

  tries : (plan : Plan) (x x' : Sender D) (p : PacketValue) (sent : Sent) → Tries moves x p plan sent x' → Left x x' p sent x.device
  tries plan x x' p sent (inl refused) = record {
    all = Allowed x.inner.instant false ∷ [];
    are = (x'.device, refused.0, refl);
    what = inl refl;
  }
  tries plan x x' p sent (inr goes) = out x x' p goes.0 goes.1 plan sent goes.2

  pub left_through : (plan : Plan) (x x' : Sender D) (p : PacketValue) (sent : Sent) → LeavesBy moves plan x p sent x' → Left x x' p sent x.device
  left_through Way.Wait x x' p sent goes = stays x x' p sent Outcome.Waits (λ is. cc) goes.0 goes.1
  left_through Way.Busy x x' p sent goes = stays x x' p sent Outcome.Busy (λ is. cc) goes.0 goes.1
  left_through Way.NoRoute x x' p sent goes = stays x x' p sent Outcome.Dropped (λ is. cc) goes.0 goes.1
  left_through Way.Drop x x' p sent goes = stays x x' p sent Outcome.Dropped (λ is. cc) goes.0 goes.1
  left_through (Way.Ask q) x x' p sent goes = tries (Way.Ask q) x x' p sent goes
  left_through (Way.Go to) x x' p sent goes = tries (Way.Go to) x x' p sent goes
  left_through (Way.Cut to) x x' p sent goes = tries (Way.Cut to) x x' p sent goes

  pub each_through : (rest kept : List ParkedValue) (x : Sender D) (all : Bool) (x' : Sender D) (left : List ParkedValue)
      → ServesEach moves rest kept x all x' left → Through (all ≡ true) x.device x'.device
  each_through [] kept x all x' left serves = unmoved (all ≡ true) x.device x'.device (ap (λ (y : Sender D). y.device) serves.1) serves.0
  each_through (k ∷ rest) kept x all x' left serves =
      by serves.0 (left_through (plan_of x.inner (is_some x.left) k.header) x serves.1 (packet_in k) serves.0 serves.2) serves.3
      (λ on later. each_through rest on serves.1 all x' left later)
    where
      mid : Sender D
      mid = serves.1

      further : (sent : Sent) → Left x mid (packet_in k) sent x.device → Through (all ≡ true) mid.device x'.device → Through (all ≡ true) x.device x'.device
      further sent one more =
          then_through (sent ≡ Outcome.Refused → ⊥) (all ≡ true) x.device mid.device x'.device one (λ never. more) more

      by : (sent : Sent) → Left x mid (packet_in k) sent x.device
          → GoesOn moves sent (ServesEach moves rest kept mid all x' left) (ServesEach moves rest (kept ++ k ∷ []) mid all x' left)
          ((all ≡ false) × (x' ≡ mid) × (left ≡ kept ++ k ∷ rest))
          → ((on : List ParkedValue) → ServesEach moves rest on mid all x' left → Through (all ≡ true) mid.device x'.device)
          → Through (all ≡ true) x.device x'.device
      by Outcome.Gone one later more = further Outcome.Gone one (more kept later)
      by Outcome.Dropped one later more = further Outcome.Dropped one (more kept later)
      by Outcome.Waits one later more = further Outcome.Waits one (more (kept ++ k ∷ []) later)
      by Outcome.Busy one later more = further Outcome.Busy one (more (kept ++ k ∷ []) later)
      by Outcome.Refused one later more = record {
        all = one.all;
        are = subst (λ (d : D). AreMoves moves one.all x.device d) (sym (ap (λ (y : Sender D). y.device) later.1)) one.are;
        what = inl (refused one.what);
      } where
        refused : Refused one.all ⊎ (Outcome.Refused ≡ Outcome.Refused → ⊥) → Refused one.all
        refused (inl is) = is
        refused (inr never) = absurd (never refl)

  parked_through : (x x' : Sender D) (all : Bool) → ServesParked moves x all x' → Through (all ≡ true) x.device x'.device
  parked_through x x' all serves =
      let each : Through (all ≡ true) x.device serves.0.device = each_through x.inner.parking.packets [] (lent moves x) all serves.0 serves.1 serves.2 in
      record {
        all = each.all;
        are = subst (λ (d : D). AreMoves moves each.all x.device d) (sym (ap (λ (y : Sender D). y.device) serves.3)) each.are;
        what = each.what;
      }

  -- THE FRAGMENT THAT WAITS, AND THOSE THAT WAIT FOR THEIR NEXT HOPS

  fragment : (l : LeftValue) (x x' : Sender D) (gone : Bool) → FragmentLeaves moves l x gone x' → Through (gone ≡ true) x.device x'.device
  fragment l x x' gone (inl stays) = record { all = Allowed x.inner.instant false ∷ []; are = (x'.device, stays.0, refl); what = inl refl }
  fragment l x x' gone (inr goes) = by gone goes.2 where
    by : (gone : Bool) → FragmentIsTransmitted moves goes.0 x.inner l gone x'.device x'.left → Through (gone ≡ true) x.device x'.device
    by true sent = record {
      all = Allowed x.inner.instant true ∷ Emitted (frame_of x.inner (departure_from x.inner l)) ∷ [];
      are = (goes.0, goes.1, (x'.device, sent.0.0, refl));
      what = inr refl;
    }
    by false sent = record {
      all = Allowed x.inner.instant true ∷ Denied (frame_len_of x.inner (departure_from x.inner l)) ∷ [];
      are = (goes.0, goes.1, (x'.device, sent.0, refl));
      what = inl refl;
    }

  pub cleared : (l : Option LeftValue) (x x' : Sender D) (clear : Bool) → Clears moves l x clear x' → Through (clear ≡ true) x.device x'.device
  cleared None x x' clear goes = unmoved (clear ≡ true) x.device x'.device (ap (λ (y : Sender D). y.device) goes.1) goes.0
  cleared (Some l) x x' clear goes = fragment l x x' clear goes.0

  pub clears_through : (many : Bool) (x x' : Sender D) (clear : Bool) → ClearsIf moves many x clear x' → Through (clear ≡ true) x.device x'.device
  clears_through false x x' clear goes = cleared x.left x x' clear goes
  clears_through true x x' clear (inl goes) =
      let one : Through (false ≡ true) x.device x'.device = cleared x.left x x' false goes.0 in
      record { all = one.all; are = one.are; what = by one.all one.what }
    where
      by : (all : List Move) → Refused all ⊎ (false ≡ true) → Refused all ⊎ (clear ≡ true)
      by all (inl refused) = inl refused
      by all (inr is) = absurd (let clash : false ≡ true = is in cc)
  clears_through true x x' clear (inr goes) =
      let rest : Through (clear ≡ true) goes.0.device x'.device = parked_through goes.0 x' clear goes.2 in
      then_through (true ≡ true) (clear ≡ true) x.device goes.0.device x'.device (cleared x.left x goes.0 true goes.1) (λ is. rest) rest

  -- a step, whatever is refused in it
  pub egress_through : (s : Sender D) (ps : List (SocketStorage Socket)) (e : Passed D) → Egress moves s ps e → Moved s.device e.sender.device
  egress_through s ps e (inl stops) =
      let rest : Moved stops.0.device e.sender.device =
      unmoved (Unit {0}) stops.0.device e.sender.device (ap (λ (x : Passed D). x.sender.device) stops.2) tt in
      then_through (false ≡ true) (Unit {0}) s.device stops.0.device e.sender.device
      (clears_through s.inner.host_requirements s stops.0 false stops.1) (λ is. rest) rest
  egress_through s ps e (inr goes) =
      let rest : Moved goes.0.device e.sender.device = pass_through (turn_of goes.0.inner ps) goes.0 [] false ps e goes.2 in
      then_through (true ≡ true) (Unit {0}) s.device goes.0.device e.sender.device
      (clears_through s.inner.host_requirements s goes.0 true goes.1) (λ is. rest) rest
