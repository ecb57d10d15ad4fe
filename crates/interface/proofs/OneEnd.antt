-- At a device whose moves are determined a poll has one end.
use Rattle.std.proofs.Common.{◌≡◌, ◌≤◌, ℕ, zero, suc, ℤ, Bool, true, false, ◌||◌, ◌&&◌, inl, inr, List, [], ◌∷◌, ◌++◌, Option, Some, None, is_some, refl, sym}
use Rattle.std.proofs.Common.{ap, ◌∙◌, subst, arith}
use Rattle.net_base.specs.Device.{Move, Took, Empty, Allowed, Emitted, Denied}
use Rattle.ip_wire.specs.Ip.{destination_of}
use Rattle.ip_wire.specs.IpAddress.{IpAddress}
use Rattle.iface_ingress.specs.Context.{ContextValue}
use Rattle.iface_ingress.specs.Packet.{PacketValue}
use Rattle.iface_ingress.specs.Offer as Answer
use Rattle.iface_ingress.specs.Offer.TheVariants as Offer
use Rattle.iface_ingress.specs.Sockets.{Offers, offered_by}
use Rattle.iface_ingress.specs.Socket.{Socket}
use Rattle.iface_tables.specs.Inner.{InnerValue}
use Rattle.iface_egress.specs.declared.socket_meta.Meta.{Meta}
use Rattle.iface_egress.specs.declared.socket_set.Item.{Item}
use Rattle.iface_egress.specs.declared.socket_set.SocketStorage.{SocketStorage}
use Rattle.iface_egress.specs.Departing.{SendsOnce, departure_by, was_taken}
use Rattle.iface_egress.specs.Departure as Departures
use Rattle.iface_egress.specs.Departure.{Departure}
use Rattle.iface_egress.specs.Determined.{IsDetermined}
use Rattle.iface_egress.specs.Fragments.{LeftValue, departure_from}
use Rattle.iface_egress.specs.IsTransmitted.{IsTransmitted, FragmentIsTransmitted, Departs, frame_of, frame_len_of}
use Rattle.iface_egress.specs.Plan.{plan_of}
use Rattle.iface_egress.specs.declared.egress_path.Sent.{Sent}
use Rattle.iface_egress.proofs.Changes.{changes, fragment_sends}
use Rattle.iface_egress.proofs.OneWay.{one_way, one_fragment}
use Rattle.iface_ingress.specs.Incoming.{IncomingValue}
use Rattle.iface_ingress.proofs.OneContent.{one-content}
use Rattle.iface_ingress.specs.Arrives as Replies
use Rattle.iface_ingress.specs.Arrives.{ReplyValue, Arrived}
use Rattle.iface_ingress.proofs.OneArrival.{one_arrives_as}
use Rattle.interface.specs.Remote.{context_for}
use Rattle.interface.specs.Awaited.{turn_of}
use Rattle.interface.specs.Host.{Sender}
use Rattle.interface.specs.Pass.{Pass, Passed, passed}
use Rattle.iface_tables.specs.Parking.{ParkedValue}
use Rattle.iface_egress.specs.Parked.{GoesOn, LeavesBy, ServesEach, ServesParked, Tries, lent, outcome_of, packet_in, parks, put_back, sender_after}
use Rattle.iface_egress.specs.Parked as Parking
use Rattle.iface_egress.specs.declared.plan.Plan.{Plan}
use Rattle.iface_egress.specs.declared.plan.Plan.TheVariants as Way
use Rattle.iface_egress.specs.declared.egress_path.Sent.TheVariants as Outcome
use Rattle.interface.specs.EgressPath.{Clears, ClearsAll, ClearsIf, Egress, FragmentLeaves}
use Rattle.interface.specs.Serve.{Leaves, LeavesIf, SendsAs, SendsBy, Answers, TurnsIf, ItemTurns, ServesSlot, is_waiting, let_through, turned_by, settled_by}
use Rattle.interface.specs.Serve.{plan_at, held_at}
use Rattle.interface.specs.Serve.{outcome_by, waits_until}
use Rattle.interface.specs.declared.serve.Served.{Served}
use Rattle.interface.specs.declared.serve.Served.TheVariants as Turn
use Rattle.interface.specs.State.{State, at_device}
use Rattle.interface.specs.Egress.{EgressStep, sending, following, if_changed}
use Rattle.interface.proofs.Parked.{HasLeft, left_by, parked_keep}
use Rattle.interface.specs.Ingress.{AnswerGoes, IngressStep, Takes, Receives, Reads, Replied, is_awaited, would_solicit, is_read, sender_of, sender_with}
use Rattle.interface.specs.Polls.{Repeats, Polls, begun}
use Rattle.interface.specs.Steady.{IsSteady}

-- what an offer answers and leaves is determined
abbrev pub OneOffer : Type 0
OneOffer = (cx : ContextValue) (s left right : Socket) (answer other : Answer.Offer) → Offers cx s answer left → Offers cx s other right → (answer ≡ other) ×
    (left ≡ right)

same_sender : {D : Type 0} (x y : Sender D) → x.device ≡ y.device → x.inner ≡ y.inner → x.left ≡ y.left → x ≡ y
same_sender x y devices inners lefts = λ k. record { device = devices k; inner = inners k; left = lefts k }

both_read : (b : Bool) → b ≡ true → b ≡ false → ⊥
both_read true is not = cc
both_read false is not = cc

next_or_stop : (a b : Bool) → Turn.Next a ≡ Turn.Stop b → ⊥
next_or_stop a b is = cc

same_next : (a b : Bool) → Turn.Next a ≡ Turn.Next b → a ≡ b
same_next a b is = cc

same_stop : (a b : Bool) → Turn.Stop a ≡ Turn.Stop b → a ≡ b
same_stop a b is = cc

module _ (one_offer : OneOffer) {D : Type 0} (moves : D → Move → D → Type 0) (longest : ℕ) (steady : IsSteady moves longest) where
  abbrev Det : D → Type 0
  Det d = IsDetermined moves longest d

  -- ONE FRAME

  -- frames of any length are taken or refused
  of_length : (n : ℕ) (here : D) → Det here → IsDetermined moves n here
  of_length n here det = record {
    one_end = det.one_end;
    one_frame = det.one_frame;
    looks = det.looks;
    gives = det.gives;
    takes = λ one other frame short a b. steady.clear here one other frame det a b;
  }

  abbrev len_by : InnerValue → Option Departure → ℕ
  len_by i None = 0
  len_by i (Some d) = frame_len_of i d

  as_long : (i : InnerValue) (o : Option Departure) (d : Departure) → o ≡ Some d → frame_len_of i d ≤ len_by i o
  as_long i o d is = subst (λ (x : Option Departure). frame_len_of i d ≤ len_by i x) (sym is) (omega arith)

  det_of : (old new : D) (i : InnerValue) (d : Departure) (taken : Bool) → Departs moves old i d taken new → Det old → Det new
  det_of old new i d true goes det = steady.stays old new (Emitted (frame_of i d)) det goes.0
  det_of old new i d false goes det = steady.stays old new (Denied (frame_len_of i d)) det goes

  det_once : (old new : D) (i : InnerValue) (o : Option Departure) (taken : Bool) → SendsOnce moves old i o taken new → Det old → Det new
  det_once old new i None taken once det = subst Det (sym once) det
  det_once old new i (Some d) taken once det = det_of old new i d taken once det

  det_out : (old new : D) (i i' : InnerValue) (l l' : Option LeftValue) (p : PacketValue) (busy : Bool) (sent : Sent) →
      IsTransmitted moves old i l p (plan_of i busy p.header) sent new i' l' → Det old → Det new
  det_out old new i i' l l' p busy sent goes =
      det_once old new i (departure_by i p (plan_of i busy p.header)) (was_taken sent) (changes moves old new i i' l l' p busy sent goes).0

  differ : (old new other : D) (i : InnerValue) (d : Departure) → Det old → Departs moves old i d true new → Departs moves old i d false other → ⊥
  differ old new other i d det was_sent denied =
      steady.clear old new other (frame_of i d) det was_sent.0 (subst (λ (n : ℕ). moves old (Denied n) other) (sym was_sent.1) denied)

  one_sent : (d : Departure) (old new other : D) (i : InnerValue) (a b : Bool) → Det old → Departs moves old i d a new →
      Departs moves old i d b other → new ≡ other
  one_sent d old new other i true true det one two = det.one_end new other (Emitted (frame_of i d)) one.0 two.0
  one_sent d old new other i false false det one two = det.one_end new other (Denied (frame_len_of i d)) one two
  one_sent d old new other i true false det one two = absurd (differ old new other i d det one two)
  one_sent d old new other i false true det one two = absurd (differ old other new i d det two one)

  abbrev SameOut : Sent → D → InnerValue → Option LeftValue → Sent → D → InnerValue → Option LeftValue → Type 0
  SameOut s new j k t other j' k' = (s ≡ t) × (new ≡ other) × (j ≡ j') × (k ≡ k')

  one_out : (old new other : D) (i j j' : InnerValue) (l k k' : Option LeftValue) (p : PacketValue) (busy : Bool) (s t : Sent) → Det old
      → IsTransmitted moves old i l p (plan_of i busy p.header) s new j k → IsTransmitted moves old i l p (plan_of i busy p.header) t other j' k' →
      SameOut s new j k t other j' k'
  one_out old new other i j j' l k k' p busy s t det one two =
      let o : Option Departure = departure_by i p (plan_of i busy p.header) in
      one_way moves (len_by i o) old (of_length (len_by i o) old det) i l p (plan_of i busy p.header) (as_long i o) s t new other j j' k k' one two

  -- TURNS

  module _ (turn : Option IpAddress) where
    one_given : (at : ℤ) (g h : Bool) (x y z : D) → Det x → moves x (Allowed at g) y → moves x (Allowed at h) z → g ≡ h
    one_given at true true x y z det one two = refl
    one_given at false false x y z det one two = refl
    one_given at true false x y z det one two = absurd (det.gives at y z one two)
    one_given at false true x y z det one two = absurd (det.gives at z y two one)

    same_sent : (s t : Sent) → Some s ≡ Some t → s ≡ t
    same_sent s t is = cc

    rests_or_goes : (at : ℤ) (g : Bool) (h : Option Sent) (s : Sent) (x y mid : D) → Det x → moves x (Allowed at g) y → outcome_by g h ≡ Some s →
        moves x (Allowed at true) mid → h ≡ None → ⊥
    rests_or_goes at false h s x y mid det rests is goes none = det.gives at mid y goes rests
    rests_or_goes at true h s x y mid det rests is goes none = let off = sym none ∙ is in cc

    one_leaves : (x y z : Sender D) (m : Meta) (p : PacketValue) (s t : Sent) → Det x.device → Leaves moves turn x m p s y → Leaves moves turn x m p t z →
        (s ≡ t) × (y ≡ z)
    one_leaves x y z m p s t det (inl a) (inl b) =
        let given : a.0 ≡ b.0 = one_given x.inner.instant a.0 b.0 x.device y.device z.device det a.1 b.1 in
        let again : moves x.device (Allowed x.inner.instant a.0) z.device = subst (λ (g : Bool). moves x.device (Allowed x.inner.instant g) z.device)
        (sym given) b.1 in (
          same_sent s t (sym a.4 ∙ ap (λ (g : Bool). outcome_by g (held_at moves turn x m p)) given ∙ b.4),
          same_sender y z (det.one_end y.device z.device (Allowed x.inner.instant a.0) a.1 again) (a.2 ∙ sym b.2) (a.3 ∙ sym b.3),
        )
    one_leaves x y z m p s t det (inl a) (inr b) = absurd
        (rests_or_goes x.inner.instant a.0 (held_at moves turn x m p) s x.device y.device b.0 det a.1 a.4 b.1 b.3)
    one_leaves x y z m p s t det (inr a) (inl b) = absurd
        (rests_or_goes x.inner.instant b.0 (held_at moves turn x m p) t x.device z.device a.0 det b.1 b.4 a.1 a.3)
    one_leaves x y z m p s t det (inr a) (inr b) =
        let mids : b.0 ≡ a.0 = det.one_end b.0 a.0 (Allowed x.inner.instant true) b.1 a.1 in
        let two : IsTransmitted moves a.0 x.inner x.left p (plan_of x.inner (is_some x.left) p.header) t z.device z.inner z.left =
        subst (λ (d : D). IsTransmitted moves d x.inner x.left p (plan_of x.inner (is_some x.left) p.header) t z.device z.inner z.left) mids b.2 in
        let same = one_out a.0 y.device z.device x.inner y.inner z.inner x.left y.left z.left p (is_some x.left) s t
        (steady.stays x.device a.0 (Allowed x.inner.instant true) det a.1) a.2 two in
        (same.0, same_sender y z same.1 same.2 same.3)

    det_leaves : (x y : Sender D) (m : Meta) (p : PacketValue) (s : Sent) → Leaves moves turn x m p s y → Det x.device → Det y.device
    det_leaves x y m p s (inl a) det = steady.stays x.device y.device (Allowed x.inner.instant a.0) det a.1
    det_leaves x y m p s (inr a) det =
        det_out a.0 y.device x.inner y.inner x.left y.left p (is_some x.left) s a.2 (steady.stays x.device a.0 (Allowed x.inner.instant true) det a.1)

    same_after : (b c : Bool) (p : PacketValue) (y z y' z' : Sender D) → b ≡ c → y ≡ z → y' ≡ sender_after b p y → z' ≡ sender_after c p z → y' ≡ z'
    same_after b c p y z y' z' flags senders one two =
        one ∙ ap (λ (a : Bool). sender_after a p y) flags ∙ ap (sender_after c p) senders ∙ sym two

    one_leaves_if : (many : Bool) (x y z : Sender D) (m : Meta) (p : PacketValue) (s t : Sent) → Det x.device → LeavesIf moves turn many x m p s y →
        LeavesIf moves turn many x m p t z → (s ≡ t) × (y ≡ z)
    one_leaves_if false x y z m p s t det one two = one_leaves x y z m p s t det one two
    one_leaves_if true x y z m p s t det one two =
        let same = one_leaves x one.1 two.1 m p one.0 two.0 det one.2 two.2 in
        let parked : parks one.1.inner p (plan_at x p) one.0 ≡ parks two.1.inner p (plan_at x p) two.0 =
        ap (λ (v : Sender D). parks v.inner p (plan_at x p) one.0) same.1 ∙ ap (parks two.1.inner p (plan_at x p)) same.0 in (
          one.3 ∙ ap (λ (b : Bool). outcome_of b one.0) parked ∙ ap (outcome_of (parks two.1.inner p (plan_at x p) two.0)) same.0 ∙ sym two.3,
          same_after (parks one.1.inner p (plan_at x p) one.0) (parks two.1.inner p (plan_at x p) two.0) p one.1 two.1 y z parked same.1 one.4 two.4,
        )

    det_after : (b : Bool) (p : PacketValue) (y z : Sender D) → z ≡ sender_after b p y → Det y.device → Det z.device
    det_after b p y z is det = subst (λ (v : Sender D). Det v.device) (sym is) det

    det_leaves_if : (many : Bool) (x y : Sender D) (m : Meta) (p : PacketValue) (s : Sent) → LeavesIf moves turn many x m p s y → Det x.device → Det y.device
    det_leaves_if false x y m p s one det = det_leaves x y m p s one det
    det_leaves_if true x y m p s one det =
        det_after (parks one.1.inner p (plan_at x p) one.0) p one.1 y one.4 (det_leaves x one.1 m p one.0 one.2 det)

    abbrev SameTurn : {A : Type 0} → Served → Sender D → A → Served → Sender D → A → Type 0
    SameTurn a y p b z q = (a ≡ b) × (y ≡ z) × (p ≡ q)

    one_as : (p : PacketValue) (x y z : Sender D) (item m n : Item Socket) (changed : Bool) (a b : Served) → Det x.device
        → SendsAs moves turn p x item changed a y m → SendsAs moves turn p x item changed b z n → SameTurn a y m b z n
    one_as p x y z item m n changed a b det one two =
        let same = one_leaves_if x.inner.host_requirements x y z item.meta p one.0 two.0 det one.1 two.1 in (
          one.2 ∙ ap (λ (s : Sent). turned_by s changed) same.0 ∙ sym two.2,
          same.1,
          one.3 ∙ ap (λ (s : Sent). settled_by s x.inner.instant (waits_until (plan_at x p) y.inner) (destination_of p.header) item) same.0
              ∙ ap (λ (v : Sender D). settled_by two.0 x.inner.instant (waits_until (plan_at x p) v.inner) (destination_of p.header) item) same.1 ∙ sym two.3,
        )

    one_sends : (o : Option PacketValue) (x y z : Sender D) (item m n : Item Socket) (changed : Bool) (a b : Served) → Det x.device
        → SendsBy moves turn o x item changed a y m → SendsBy moves turn o x item changed b z n → SameTurn a y m b z n
    one_sends None x y z item m n changed a b det one two = absurd one
    one_sends (Some p) x y z item m n changed a b det one two =
        let same : two.0 ≡ one.0 = two.1 ∙ sym one.1 in
        one_as one.0 x y z item m n changed a b det one.3
        (subst (λ (q : PacketValue). SendsAs moves turn q x item changed b z n) same two.3)

    det_sends : (o : Option PacketValue) (x y : Sender D) (item m : Item Socket) (changed : Bool) (a : Served) → SendsBy moves turn o x item changed a y m →
        Det x.device → Det y.device
    det_sends None x y item m changed a one det = absurd one
    det_sends (Some p) x y item m changed a one det = det_leaves_if x.inner.host_requirements x y item.meta one.0 one.3.0 one.3.1 det

    one_answers : (answer : Answer.Offer) (x y z : Sender D) (item m n : Item Socket) (a b : Served) → Det x.device
        → Answers moves turn answer x item a y m → Answers moves turn answer x item b z n → SameTurn a y m b z n
    one_answers (Offer.Silent changed) x y z item m n a b det one two = (one.0 ∙ sym two.0, one.1 ∙ sym two.1, one.2 ∙ sym two.2)
    one_answers (Offer.Packet changed) x y z item m n a b det one two = one_sends (offered_by item.socket) x y z item m n changed a b det one two

    det_same : (x y : Sender D) → y ≡ x → Det x.device → Det y.device
    det_same x y is det = subst (λ (v : Sender D). Det v.device) (sym is) det

    det_answers : (answer : Answer.Offer) (x y : Sender D) (item m : Item Socket) (a : Served) → Answers moves turn answer x item a y m → Det x.device →
        Det y.device
    det_answers (Offer.Silent changed) x y item m a one det = det_same x y one.1 det
    det_answers (Offer.Packet changed) x y item m a one det = det_sends (offered_by item.socket) x y item m changed a one det

    one_turn : (waits : Bool) (x y z : Sender D) (item m n : Item Socket) (a b : Served) → Det x.device
        → TurnsIf moves turn waits x item a y m → TurnsIf moves turn waits x item b z n → SameTurn a y m b z n
    one_turn true x y z item m n a b det one two = (one.0 ∙ sym two.0, one.1 ∙ sym two.1, one.2 ∙ sym two.2)
    one_turn false x y z item m n a b det one two =
        let same = one_offer (context_for x.inner item.socket) item.socket two.1 one.1 two.0 one.0 two.2 one.2 in
        let again : Answers moves turn one.0 x (record item { socket = one.1 }) b z n =
        subst (λ (s : Socket). Answers moves turn one.0 x (record item { socket = s }) b z n) same.1
        (subst (λ (answer : Answer.Offer). Answers moves turn answer x (record item { socket = two.1 }) b z n) same.0 two.3) in
        one_answers one.0 x y z (record item { socket = one.1 }) m n a b det one.3 again

    det_turn : (waits : Bool) (x y : Sender D) (item m : Item Socket) (a : Served) → TurnsIf moves turn waits x item a y m → Det x.device → Det y.device
    det_turn true x y item m a one det = det_same x y one.1 det
    det_turn false x y item m a one det = det_answers one.0 x y (record item { socket = one.1 }) m a one.3 det

    one_item : (o p q : Option (Item Socket)) (x y z : Sender D) (a b : Served) → Det x.device → ItemTurns moves turn o x a y p →
        ItemTurns moves turn o x b z q → SameTurn a y p b z q
    one_item None None None x y z a b det one two = (one.0 ∙ sym two.0, one.1 ∙ sym two.1, refl)
    one_item (Some item) (Some m) (Some n) x y z a b det one two =
        let same = one_turn (is_waiting x.inner item.meta) x y z (let_through x.inner item) m n a b det one two in
        (same.0, same.1, ap (λ (v : Item Socket). Some v) same.2)
    one_item None (Some m) q x y z a b det one two = absurd one
    one_item None None (Some n) x y z a b det one two = absurd two
    one_item (Some item) None q x y z a b det one two = absurd one
    one_item (Some item) (Some m) None x y z a b det one two = absurd two

    det_item : (o p : Option (Item Socket)) (x y : Sender D) (a : Served) → ItemTurns moves turn o x a y p → Det x.device → Det y.device
    det_item None None x y a one det = det_same x y one.1 det
    det_item (Some item) (Some m) x y a one det = det_turn (is_waiting x.inner item.meta) x y (let_through x.inner item) m a one det
    det_item None (Some m) x y a one det = absurd one
    det_item (Some item) None x y a one det = absurd one

    one_slot : (o p q : SocketStorage Socket) (x y z : Sender D) (a b : Served) → Det x.device → ServesSlot moves turn x o a y p →
        ServesSlot moves turn x o b z q → SameTurn a y p b z q
    one_slot o p q x y z a b det one two =
        let same = one_item o.inner p.inner q.inner x y z a b det one two in
        (same.0, same.1, λ k. record { inner = same.2 k })

    det_slot : (o p : SocketStorage Socket) (x y : Sender D) (a : Served) → ServesSlot moves turn x o a y p → Det x.device → Det y.device
    det_slot o p x y a one det = det_item o.inner p.inner x y a one det

  -- THE WAY OUT

  abbrev Slots : Type 0
  Slots = List (SocketStorage Socket)

  one_pass : (turn : Option IpAddress) (ps before : Slots) (x : Sender D) (changed : Bool) (e f : Passed D) → Det x.device →
      Pass moves turn x before changed ps e → Pass moves turn x before changed ps f → e ≡ f
  one_pass turn [] before x changed e f det one two = one ∙ sym two
  one_pass turn (p ∷ ps) before x changed e f det (inl a) (inl b) =
      let same = one_slot turn p b.2 a.2 x b.1 a.1 (Turn.Next b.0) (Turn.Next a.0) det b.3 a.3 in
      let two : Pass moves turn a.1 (before ++ a.2 ∷ []) (changed || a.0) ps f =
      subst (λ (v : Bool). Pass moves turn a.1 (before ++ a.2 ∷ []) (changed || v) ps f) (same_next b.0 a.0 same.0)
      (subst (λ (v : SocketStorage Socket). Pass moves turn a.1 (before ++ v ∷ []) (changed || b.0) ps f) same.2
      (subst (λ (v : Sender D). Pass moves turn v (before ++ b.2 ∷ []) (changed || b.0) ps f) same.1 b.4)) in
      one_pass turn ps (before ++ a.2 ∷ []) a.1 (changed || a.0) e f (det_slot turn p a.2 x a.1 (Turn.Next a.0) a.3 det) a.4 two
  one_pass turn (p ∷ ps) before x changed e f det (inl a) (inr b) =
      absurd (next_or_stop a.0 b.0 (one_slot turn p a.2 b.2 x a.1 b.1 (Turn.Next a.0) (Turn.Stop b.0) det a.3 b.3).0)
  one_pass turn (p ∷ ps) before x changed e f det (inr a) (inl b) =
      absurd (next_or_stop b.0 a.0 (one_slot turn p b.2 a.2 x b.1 a.1 (Turn.Next b.0) (Turn.Stop a.0) det b.3 a.3).0)
  one_pass turn (p ∷ ps) before x changed e f det (inr a) (inr b) =
      let same = one_slot turn p a.2 b.2 x a.1 b.1 (Turn.Stop a.0) (Turn.Stop b.0) det a.3 b.3 in
      a.4 ∙ ap (λ (v : Bool). passed a.1 (before ++ a.2 ∷ ps) (changed || v)) (same_stop a.0 b.0 same.0)
      ∙ ap (λ (v : SocketStorage Socket). passed a.1 (before ++ v ∷ ps) (changed || b.0)) same.2
      ∙ ap (λ (v : Sender D). passed v (before ++ b.2 ∷ ps) (changed || b.0)) same.1 ∙ sym b.4

  det_pass : (turn : Option IpAddress) (ps before : Slots) (x : Sender D) (changed : Bool) (e : Passed D) → Pass moves turn x before changed ps e →
      Det x.device → Det e.sender.device
  det_pass turn [] before x changed e one det = subst (λ (v : Passed D). Det v.sender.device) (sym one) det
  det_pass turn (p ∷ ps) before x changed e (inl a) det =
      det_pass turn ps (before ++ a.2 ∷ []) a.1 (changed || a.0) e a.4 (det_slot turn p a.2 x a.1 (Turn.Next a.0) a.3 det)
  det_pass turn (p ∷ ps) before x changed e (inr a) det =
      subst (λ (v : Passed D). Det v.sender.device) (sym a.4) (det_slot turn p a.2 x a.1 (Turn.Stop a.0) a.3 det)

  one_fragment_leaves : (l : LeftValue) (x y z : Sender D) (a b : Bool) → Det x.device → y.inner ≡ x.inner → z.inner ≡ x.inner → FragmentLeaves moves l x a y →
      FragmentLeaves moves l x b z → (a ≡ b) × (y ≡ z)
  one_fragment_leaves l x y z a b det i j (inl one) (inl two) =
      (one.1 ∙ sym two.1, same_sender y z (det.one_end y.device z.device (Allowed x.inner.instant false) one.0 two.0) (i ∙ sym j) (one.2 ∙ sym two.2))
  one_fragment_leaves l x y z a b det i j (inl one) (inr two) = absurd (det.gives x.inner.instant two.0 y.device two.1 one.0)
  one_fragment_leaves l x y z a b det i j (inr one) (inl two) = absurd (det.gives x.inner.instant one.0 z.device one.1 two.0)
  one_fragment_leaves l x y z a b det i j (inr one) (inr two) =
      let mids : two.0 ≡ one.0 = det.one_end two.0 one.0 (Allowed x.inner.instant true) two.1 one.1 in
      let again : FragmentIsTransmitted moves one.0 x.inner l b z.device z.left = subst (λ (d : D). FragmentIsTransmitted moves d x.inner l b z.device z.left) mids two.2 in
      let here : Det one.0 = steady.stays x.device one.0 (Allowed x.inner.instant true) det one.1 in
      let n : ℕ = frame_len_of x.inner (departure_from x.inner l) in
      let same = one_fragment moves n one.0 (of_length n one.0 here) x.inner l (omega arith) a b y.device z.device y.left z.left one.2 again in
      (same.0, same_sender y z same.1 (i ∙ sym j) same.2)

  det_fragment_leaves : (l : LeftValue) (x y : Sender D) (a : Bool) → FragmentLeaves moves l x a y → Det x.device → Det y.device
  det_fragment_leaves l x y a (inl one) det = steady.stays x.device y.device (Allowed x.inner.instant false) det one.0
  det_fragment_leaves l x y a (inr one) det =
      det_of one.0 y.device x.inner (departure_from x.inner l) a (fragment_sends moves one.0 y.device x.inner l y.left a one.2)
      (steady.stays x.device one.0 (Allowed x.inner.instant true) det one.1)

  one_clears : (l : Option LeftValue) (x y z : Sender D) (a b : Bool) → Det x.device → Clears moves l x a y → Clears moves l x b z → (a ≡ b) × (y ≡ z)
  one_clears None x y z a b det one two = (one.0 ∙ sym two.0, one.1 ∙ sym two.1)
  one_clears (Some l) x y z a b det one two = one_fragment_leaves l x y z a b det one.1 two.1 one.0 two.0

  det_clears : (l : Option LeftValue) (x y : Sender D) (a : Bool) → Clears moves l x a y → Det x.device → Det y.device
  det_clears None x y a one det = det_same None x y one.1 det
  det_clears (Some l) x y a one det = det_fragment_leaves l x y a one.0 det

  -- PACKETS THAT WAIT

  module _ (x : Sender D) (p : PacketValue) (det : Det x.device) where
    abbrev plan_here : Plan
    plan_here = plan_of x.inner (is_some x.left) p.header

    one_tries : (plan : Plan) → plan_here ≡ plan → (y z : Sender D) (s t : Sent) → Tries moves x p plan s y → Tries moves x p plan t z → (s ≡ t) × (y ≡ z)
    one_tries plan is y z s t (inl a) (inl b) = (
      a.3 ∙ sym b.3,
      same_sender y z (det.one_end y.device z.device (Allowed x.inner.instant false) a.0 b.0) (a.1 ∙ sym b.1) (a.2 ∙ sym b.2),
    )
    one_tries plan is y z s t (inl a) (inr b) = absurd (det.gives x.inner.instant b.0 y.device b.1 a.0)
    one_tries plan is y z s t (inr a) (inl b) = absurd (det.gives x.inner.instant a.0 z.device a.1 b.0)
    one_tries plan is y z s t (inr a) (inr b) =
        let mids : b.0 ≡ a.0 = det.one_end b.0 a.0 (Allowed x.inner.instant true) b.1 a.1 in
        let first : IsTransmitted moves a.0 x.inner x.left p plan_here s y.device y.inner y.left =
        subst (λ (w : Plan). IsTransmitted moves a.0 x.inner x.left p w s y.device y.inner y.left) (sym is) a.2 in
        let second : IsTransmitted moves a.0 x.inner x.left p plan_here t z.device z.inner z.left =
        subst (λ (w : Plan). IsTransmitted moves a.0 x.inner x.left p w t z.device z.inner z.left) (sym is)
        (subst (λ (d : D). IsTransmitted moves d x.inner x.left p plan t z.device z.inner z.left) mids b.2) in
        let same = one_out a.0 y.device z.device x.inner y.inner z.inner x.left y.left z.left p (is_some x.left) s t
        (steady.stays x.device a.0 (Allowed x.inner.instant true) det a.1) first second in
        (same.0, same_sender y z same.1 same.2 same.3)

    one_by : (plan : Plan) → plan_here ≡ plan → (y z : Sender D) (s t : Sent) → LeavesBy moves plan x p s y → LeavesBy moves plan x p t z →
        (s ≡ t) × (y ≡ z)
    one_by Way.Wait is y z s t one two = (one.0 ∙ sym two.0, one.1 ∙ sym two.1)
    one_by Way.Busy is y z s t one two = (one.0 ∙ sym two.0, one.1 ∙ sym two.1)
    one_by Way.NoRoute is y z s t one two = (one.0 ∙ sym two.0, one.1 ∙ sym two.1)
    one_by Way.Drop is y z s t one two = (one.0 ∙ sym two.0, one.1 ∙ sym two.1)
    one_by (Way.Ask query) is y z s t one two = one_tries (Way.Ask query) is y z s t one two
    one_by (Way.Go to) is y z s t one two = one_tries (Way.Go to) is y z s t one two
    one_by (Way.Cut to) is y z s t one two = one_tries (Way.Cut to) is y z s t one two

    det_left : (y : Sender D) (s : Sent) → HasLeft moves x p s y → Det y.device
    det_left y s (inl stays) = det_same None x y stays det
    det_left y s (inr (inl refused)) = steady.stays x.device y.device (Allowed x.inner.instant false) det refused.0
    det_left y s (inr (inr goes)) =
        det_out goes.0 y.device x.inner y.inner x.left y.left p (is_some x.left) s goes.2 (steady.stays x.device goes.0 (Allowed x.inner.instant true) det goes.1)

  abbrev SameServed : Bool → Sender D → List ParkedValue → Bool → Sender D → List ParkedValue → Type 0
  SameServed a y ks b z ls = (a ≡ b) × (y ≡ z) × (ks ≡ ls)

  det_parked : (x y : Sender D) (k : ParkedValue) (s : Sent) → Parking.Leaves moves x (packet_in k) s y → Det x.device → Det y.device
  det_parked x y k s one det =
      det_left x (packet_in k) det y s (left_by moves (plan_of x.inner (is_some x.left) k.header) x (packet_in k) s y one)

  one_each : (rest kept : List ParkedValue) (x y z : Sender D) (a b : Bool) (ks ls : List ParkedValue) → Det x.device
      → ServesEach moves rest kept x a y ks → ServesEach moves rest kept x b z ls → SameServed a y ks b z ls
  one_each [] kept x y z a b ks ls det one two = (one.0 ∙ sym two.0, one.1 ∙ sym two.1, one.2 ∙ sym two.2)
  one_each (k ∷ rest) kept x y z a b ks ls det one two =
      by one.0 one.3 again (λ on first second. one_each rest on one.1 y z a b ks ls here first second)
    where
      same : (one.0 ≡ two.0) × (one.1 ≡ two.1)
      same = one_by x (packet_in k) det (plan_of x.inner (is_some x.left) k.header) refl one.1 two.1 one.0 two.0 one.2 two.2

      On : Sender D → Bool → Sender D → List ParkedValue → Sent → Type 0
      On mid c end left sent =
          GoesOn moves sent (ServesEach moves rest kept mid c end left) (ServesEach moves rest (kept ++ k ∷ []) mid c end left)
          ((c ≡ false) × (end ≡ mid) × (left ≡ kept ++ k ∷ rest))

      again : On one.1 b z ls one.0
      again = subst (λ (v : Sender D). On v b z ls one.0) (sym same.1) (subst (On two.1 b z ls) (sym same.0) two.3)

      here : Det one.1.device
      here = det_parked x one.1 k one.0 one.2 det

      by : (sent : Sent) → On one.1 a y ks sent → On one.1 b z ls sent
          → ((on : List ParkedValue) → ServesEach moves rest on one.1 a y ks → ServesEach moves rest on one.1 b z ls → SameServed a y ks b z ls)
          → SameServed a y ks b z ls
      by Outcome.Gone first second further = further kept first second
      by Outcome.Dropped first second further = further kept first second
      by Outcome.Waits first second further = further (kept ++ k ∷ []) first second
      by Outcome.Busy first second further = further (kept ++ k ∷ []) first second
      by Outcome.Refused first second further = (first.0 ∙ sym second.0, first.1 ∙ sym second.1, first.2 ∙ sym second.2)

  one_served : (x y z : Sender D) (a b : Bool) → Det x.device → ServesParked moves x a y → ServesParked moves x b z → (a ≡ b) × (y ≡ z)
  one_served x y z a b det one two =
      let same = one_each x.inner.parking.packets [] (lent moves x) one.0 two.0 a b one.1 two.1 det one.2 two.2 in (
        same.0,
        one.3 ∙ ap (λ (v : Sender D). put_back moves x.inner.parking.room one.1 v) same.1
            ∙ ap (λ (ks : List ParkedValue). put_back moves x.inner.parking.room ks two.0) same.2 ∙ sym two.3,
      )

  det_served : (x y : Sender D) (a : Bool) → ServesParked moves x a y → Det x.device → Det y.device
  det_served x y a one det =
      parked_keep moves (λ (v : Sender D). Det v.device) (λ v w p s here left. det_left v p here w s left) (λ v k here. here) x y a det one

  one_clears_if : (many : Bool) (x y z : Sender D) (a b : Bool) → Det x.device → ClearsIf moves many x a y → ClearsIf moves many x b z → (a ≡ b) × (y ≡ z)
  one_clears_if false x y z a b det one two = one_clears x.left x y z a b det one two
  one_clears_if true x y z a b det (inl one) (inl two) = (one.1 ∙ sym two.1, (one_clears x.left x y z false false det one.0 two.0).1)
  one_clears_if true x y z a b det (inl one) (inr two) = absurd (let off = (one_clears x.left x y two.0 false true det one.0 two.1).0 in cc)
  one_clears_if true x y z a b det (inr one) (inl two) = absurd (let off = (one_clears x.left x one.0 z true false det one.1 two.0).0 in cc)
  one_clears_if true x y z a b det (inr one) (inr two) =
      let same = (one_clears x.left x two.0 one.0 true true det two.1 one.1).1 in
      one_served one.0 y z a b (det_clears x.left x one.0 true one.1 det) one.2 (subst (λ (v : Sender D). ServesParked moves v b z) same two.2)

  det_clears_if : (many : Bool) (x y : Sender D) (a : Bool) → ClearsIf moves many x a y → Det x.device → Det y.device
  det_clears_if false x y a one det = det_clears x.left x y a one det
  det_clears_if true x y a (inl one) det = det_clears x.left x y false one.0 det
  det_clears_if true x y a (inr one) det = det_served one.0 y a one.2 (det_clears x.left x one.0 true one.1 det)

  one_ready : (x y z : Sender D) (a b : Bool) → Det x.device → ClearsAll moves x a y → ClearsAll moves x b z → (a ≡ b) × (y ≡ z)
  one_ready x y z a b det one two = one_clears_if x.inner.host_requirements x y z a b det one two

  det_ready : (x y : Sender D) (a : Bool) → ClearsAll moves x a y → Det x.device → Det y.device
  det_ready x y a one det = det_clears_if x.inner.host_requirements x y a one det

  one_egress : (x : Sender D) (ps : Slots) (e f : Passed D) → Det x.device → Egress moves x ps e → Egress moves x ps f → e ≡ f
  one_egress x ps e f det (inl a) (inl b) =
      a.2 ∙ ap (λ (v : Sender D). passed v ps false) (one_ready x a.0 b.0 false false det a.1 b.1).1 ∙ sym b.2
  one_egress x ps e f det (inl a) (inr b) = absurd (let same = (one_ready x a.0 b.0 false true det a.1 b.1).0 in cc)
  one_egress x ps e f det (inr a) (inl b) = absurd (let same = (one_ready x a.0 b.0 true false det a.1 b.1).0 in cc)
  one_egress x ps e f det (inr a) (inr b) =
      let same = one_ready x b.0 a.0 true true det b.1 a.1 in
      one_pass (turn_of a.0.inner ps) ps [] a.0 false e f (det_ready x a.0 true a.1 det) a.2
      (subst (λ (v : Sender D). Pass moves (turn_of v.inner ps) v [] false ps f) same.1 b.2)

  det_egress : (x : Sender D) (ps : Slots) (e : Passed D) → Egress moves x ps e → Det x.device → Det e.sender.device
  det_egress x ps e (inl a) det = subst (λ (v : Passed D). Det v.sender.device) (sym a.2) (det_ready x a.0 false a.1 det)
  det_egress x ps e (inr a) det = det_pass (turn_of a.0.inner ps) ps [] a.0 false e a.2 (det_ready x a.0 true a.1 det)

  abbrev SameStep : Option Bool → State D → Option Bool → State D → Type 0
  SameStep a s b r = (a ≡ b) × (s ≡ r)

  module _ (t : ℤ) where
    out_one : (o s r : State D) (a b : Option Bool) → Det o.device → EgressStep moves t o a s → EgressStep moves t o b r → SameStep a s b r
    out_one o s r a b det one two =
        let same : one.0 ≡ two.0 = one_egress (sending t o) o.slots one.0 two.0 det one.1 two.1 in
        (one.3 ∙ ap (λ (v : Passed D). if_changed v.changed) same ∙ sym two.3, one.2 ∙ ap (following o.host) same ∙ sym two.2)

    out_det : (o s : State D) (a : Option Bool) → EgressStep moves t o a s → Det o.device → Det s.device
    out_det o s a one det = subst (λ (v : State D). Det v.device) (sym one.2) (det_egress (sending t o) o.slots one.0 one.1 det)

  -- THE WAY IN

  one_answered : (many : Bool) (p : PacketValue) (kept_back : Bool) (x y z : Sender D) → Det x.device → AnswerGoes moves many p kept_back x y →
      AnswerGoes moves many p kept_back x z → y ≡ z
  one_answered false p kept_back x y z det one two =
      let same = one_out x.device y.device z.device x.inner y.inner z.inner x.left y.left z.left p (is_some x.left) one.0 two.0 det one.1 two.1 in
      same_sender y z same.1 same.2 same.3
  one_answered true p kept_back x y z det one two =
      let plan : Plan = plan_of x.inner (is_some x.left) p.header in
      let a : Sender D = one.1 in
      let b : Sender D = two.1 in
      let same = one_out x.device a.device b.device x.inner a.inner b.inner x.left a.left b.left p (is_some x.left) one.0 two.0 det one.2 two.2 in
      let mids : a ≡ b = same_sender a b same.1 same.2 same.3 in
      let parked : parks a.inner p plan one.0 ≡ parks b.inner p plan two.0 =
      ap (λ (v : Sender D). parks v.inner p plan one.0) mids ∙ ap (parks b.inner p plan) same.0 in
      same_after None (parks a.inner p plan one.0) (parks b.inner p plan two.0) p a b y z parked mids one.3 two.3

  both_kept : (many : Bool) (p : PacketValue) (kept_back : Bool) (x y : Sender D) → kept_back ≡ true → AnswerGoes moves many p kept_back x y → ⊥
  both_kept false p kept_back x y is one = both_read kept_back is one.3
  both_kept true p kept_back x y is one = both_read kept_back is one.5

  det_answered : (many : Bool) (p : PacketValue) (kept_back : Bool) (x y : Sender D) → AnswerGoes moves many p kept_back x y → Det x.device → Det y.device
  det_answered false p kept_back x y one det =
      det_out x.device y.device x.inner y.inner x.left y.left p (is_some x.left) one.0 one.1 det
  det_answered true p kept_back x y one det =
      let mid : Sender D = one.1 in
      det_after None (parks mid.inner p (plan_of x.inner (is_some x.left) p.header) one.0) p mid y one.3
      (det_out x.device mid.device x.inner mid.inner x.left mid.left p (is_some x.left) one.0 one.2 det)

  one_replied : (awaited : Bool) (reply : Option ReplyValue) (x y z : Sender D) → Det x.device → Replied moves awaited reply x y →
      Replied moves awaited reply x z → y ≡ z
  one_replied awaited None x y z det one two = one ∙ sym two
  one_replied awaited (Some (Replies.Tells packet)) x y z det one two =
      same_sender y z (one_sent (Departures.Tells packet) x.device y.device z.device x.inner one.0 two.0 det one.1 two.1) (one.2 ∙
      sym two.2) (one.3 ∙ sym two.3)
  one_replied awaited (Some (Replies.Answers p)) x y z det (inl one) (inl two) = one.0 ∙ sym two.0
  one_replied awaited (Some (Replies.Answers p)) x y z det (inl one) (inr two) = absurd (both_kept x.inner.host_requirements p (awaited && would_solicit x p) x z one.1 two)
  one_replied awaited (Some (Replies.Answers p)) x y z det (inr one) (inl two) = absurd (both_kept x.inner.host_requirements p (awaited && would_solicit x p) x y two.1 one)
  one_replied awaited (Some (Replies.Answers p)) x y z det (inr one) (inr two) =
      one_answered x.inner.host_requirements p (awaited && would_solicit x p) x y z det one two

  det_replied : (awaited : Bool) (reply : Option ReplyValue) (x y : Sender D) → Replied moves awaited reply x y → Det x.device → Det y.device
  det_replied awaited None x y one det = det_same None x y one det
  det_replied awaited (Some (Replies.Tells packet)) x y one det = det_of x.device y.device x.inner (Departures.Tells packet) one.0 one.1 det
  det_replied awaited (Some (Replies.Answers p)) x y (inl one) det = det_same None x y one.0 det
  det_replied awaited (Some (Replies.Answers p)) x y (inr one) det = det_answered x.inner.host_requirements p (awaited && would_solicit x p) x y one det

  same_state : (s r : State D) → s.device ≡ r.device → s.host.inner ≡ r.host.inner → s.host.left ≡ r.host.left → s.host.assemblers ≡ r.host.assemblers →
      s.host.timeout ≡ r.host.timeout → s.host.reports ≡ r.host.reports → s.slots ≡ r.slots → s ≡ r
  same_state s r devices inners lefts assemblers timeouts reports slots =
      λ k. record { device = devices k; host = record { inner = inners k; left = lefts k; assemblers = assemblers k; timeout = timeouts k; reports = reports k }; slots = slots k }

  one_receives : (content : Option IncomingValue) (o s r : State D) → s.host.reports ≡ r.host.reports → Det o.device → Receives moves content o s
      → Receives moves content o r → s ≡ r
  one_receives content o s r reports det one two =
      let same = one_arrives_as o.host.inner o.host.timeout o.host.assemblers o.slots content r.host.assemblers s.host.assemblers two.0 one.0 two.1 one.1 in
      let again : Replied moves (is_awaited one.0) one.0.reply (sender_with moves o one.0) (sender_of moves r) =
      subst (λ (a : Arrived). Replied moves (is_awaited a) a.reply (sender_with moves o a) (sender_of moves r)) same.1 two.3 in
      let senders : sender_of moves s ≡ sender_of moves r =
      one_replied (is_awaited one.0) one.0.reply (sender_with moves o one.0) (sender_of moves s) (sender_of moves r) det one.3 again in
      same_state s r (ap (λ (x : Sender D). x.device) senders) (ap (λ (x : Sender D). x.inner) senders) (ap (λ (x : Sender D). x.left) senders)
      (sym same.0) (one.4 ∙ sym two.4) reports (one.2 ∙ ap (λ (a : Arrived). a.slots) (sym same.1) ∙ sym two.2)

  one_reads : (frame : List ℕ) (o s r : State D) → Det o.device → Reads moves frame o s → Reads moves frame o r → s ≡ r
  one_reads frame o s r det one two =
      let same = one-content o.host.inner.hardware o.host.inner.checksums frame two.0 one.0 two.1 one.1 in
      one_receives one.0 o s r (one.3 ∙ sym two.3) det one.2 (subst (λ (c : Option IncomingValue). Receives moves c o r) same two.2)

  one_takes : (o s r : State D) (a b : Option Bool) → Det o.device → Takes moves o a s → Takes moves o b r → SameStep a s b r
  one_takes o s r None None det one two =
      (refl, one.1 ∙ ap (at_device o) (det.one_end s.device r.device (Empty o.host.inner.instant) one.0 two.0) ∙ sym two.1)
  one_takes o s r None (Some false) det one two = absurd (det.looks o.host.inner.instant r.device s.device two.0 two.1 one.0)
  one_takes o s r None (Some true) det one two = absurd (det.looks o.host.inner.instant two.1 s.device two.0 two.2 one.0)
  one_takes o s r (Some false) None det one two = absurd (det.looks o.host.inner.instant s.device r.device one.0 one.1 two.0)
  one_takes o s r (Some true) None det one two = absurd (det.looks o.host.inner.instant one.1 r.device one.0 one.2 two.0)
  one_takes o s r (Some false) (Some false) det one two =
      let frames = det.one_frame o.host.inner.instant r.device s.device two.0 one.0 two.1 one.1 in
      let again : moves o.device (Took o.host.inner.instant one.0) r.device = subst
      (λ (f : List ℕ). moves o.device (Took o.host.inner.instant f) r.device) frames two.1 in
      (refl, one.3 ∙ ap (at_device o) (det.one_end s.device r.device (Took o.host.inner.instant one.0) one.1 again) ∙ sym two.3)
  one_takes o s r (Some false) (Some true) det one two =
      let frames = det.one_frame o.host.inner.instant s.device two.1 one.0 two.0 one.1 two.2 in
      absurd (both_read (is_read two.0) two.3 (ap is_read (sym frames) ∙ one.2))
  one_takes o s r (Some true) (Some false) det one two =
      let frames = det.one_frame o.host.inner.instant one.1 r.device one.0 two.0 one.2 two.1 in
      absurd (both_read (is_read one.0) one.3 (ap is_read frames ∙ two.2))
  one_takes o s r (Some true) (Some true) det one two =
      let frames : two.0 ≡ one.0 = det.one_frame o.host.inner.instant two.1 one.1 two.0 one.0 two.2 one.2 in
      let took : moves o.device (Took o.host.inner.instant one.0) two.1 = subst
      (λ (f : List ℕ). moves o.device (Took o.host.inner.instant f) two.1) frames two.2 in
      let mids : two.1 ≡ one.1 = det.one_end two.1 one.1 (Took o.host.inner.instant one.0) took one.2 in
      let again : Reads moves one.0 (at_device o one.1) r =
      subst (λ (f : List ℕ). Reads moves f (at_device o one.1) r) frames (subst (λ (d : D). Reads moves two.0 (at_device o d) r) mids two.4) in
      (refl, one_reads one.0 (at_device o one.1) s r (steady.stays o.device one.1 (Took o.host.inner.instant one.0) det one.2) one.4 again)

  det_takes : (o s : State D) (a : Option Bool) → Takes moves o a s → Det o.device → Det s.device
  det_takes o s None one det = steady.stays o.device s.device (Empty o.host.inner.instant) det one.0
  det_takes o s (Some false) one det = steady.stays o.device s.device (Took o.host.inner.instant one.0) det one.1
  det_takes o s (Some true) one det =
      let receives = one.4.2 in
      det_replied (is_awaited receives.0) receives.0.reply (sender_with moves (at_device o one.1) receives.0) (sender_of moves s) receives.3
      (steady.stays o.device one.1 (Took o.host.inner.instant one.0) det one.2)

  -- STEPS

  none_or_some : (b : Bool) → None ≡ Some b → ⊥
  none_or_some b is = cc

  same_some : (a b : Bool) → Some a ≡ Some b → a ≡ b
  same_some a b is = cc

  module _ (step : State D → Option Bool → State D → Type 0)
      (one_step : (o s r : State D) (a b : Option Bool) → Det o.device → step o a s → step o b r → SameStep a s b r)
      (det_step : (o s : State D) (a : Option Bool) → step o a s → Det o.device → Det s.device) where
    one_end : (n : ℕ) (o s r : State D) (c x y : Bool) → Det o.device → Repeats step n o c s x → Repeats step n o c r y → (s ≡ r) × (x ≡ y)
    one_end zero o s r c x y det one two = (one.0 ∙ sym two.0, one.1 ∙ sym two.1)
    one_end (suc n) o s r c x y det (inl a) (inl b) = ((one_step o s r None None det a.0 b.0).1, a.1 ∙ sym b.1)
    one_end (suc n) o s r c x y det (inl a) (inr b) = absurd (none_or_some b.0 (one_step o s b.1 None (Some b.0) det a.0 b.2).0)
    one_end (suc n) o s r c x y det (inr a) (inl b) = absurd (none_or_some a.0 (one_step o r a.1 None (Some a.0) det b.0 a.2).0)
    one_end (suc n) o s r c x y det (inr a) (inr b) =
        let same = one_step o b.1 a.1 (Some b.0) (Some a.0) det b.2 a.2 in
        let again : Repeats step n a.1 (c || a.0) r y =
        subst (λ (v : Bool). Repeats step n a.1 (c || v) r y) (same_some b.0 a.0 same.0)
        (subst (λ (v : State D). Repeats step n v (c || b.0) r y) same.1 b.3) in
        one_end n a.1 s r (c || a.0) x y (det_step o a.1 (Some a.0) a.2 det) a.3 again

    det_end : (n : ℕ) (o s : State D) (c x : Bool) → Repeats step n o c s x → Det o.device → Det s.device
    det_end zero o s c x one det = subst (λ (v : State D). Det v.device) (sym one.0) det
    det_end (suc n) o s c x (inl a) det = det_step o s None a.0 det
    det_end (suc n) o s c x (inr a) det = det_end n a.1 s (c || a.0) x a.3 (det_step o a.1 (Some a.0) a.2 det)

  pub one_poll : (t : ℤ) (budget : ℕ) (o s r : State D) (x y : Bool) → Det o.device → Polls moves t budget o x s → Polls moves t budget o y r →
      (s ≡ r) × (x ≡ y)
  one_poll t budget o s r x y det one two =
      let enters : (p q v : State D) (a b : Option Bool) → Det p.device → IngressStep moves t p a q → IngressStep moves t p b v → SameStep a q b v =
      λ p q v a b here here_one here_two. one_takes (begun t p) q v a b here here_one here_two in
      let stays : (p q : State D) (a : Option Bool) → IngressStep moves t p a q → Det p.device → Det q.device =
      λ p q a here_one here. det_takes (begun t p) q a here_one here in
      let same = one_end (IngressStep moves t) enters stays budget (begun t o) two.0 one.0 false two.1 one.1 det two.2 one.2 in
      let again : Repeats (EgressStep moves t) budget one.0 one.1 r y =
      subst (λ (c : Bool). Repeats (EgressStep moves t) budget one.0 c r y) same.1
      (subst (λ (v : State D). Repeats (EgressStep moves t) budget v two.1 r y) same.0 two.3) in
      one_end (EgressStep moves t) (out_one t) (out_det t) budget one.0 s r one.1 x y
      (det_end (IngressStep moves t) enters stays budget (begun t o) one.0 false one.1 one.2 det) one.3 again
