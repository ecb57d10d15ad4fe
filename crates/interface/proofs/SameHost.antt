-- A step of the egress path leaves the host's settings.
use Rattle.std.proofs.Common.{◌≡◌, Bool, true, false, inl, inr, List, [], ◌∷◌, ◌++◌, ◌||◌, if◌then◌else◌, Option, Some, None, is_some, refl, sym, ap, ◌∙◌, subst}
use Rattle.net_base.specs.Device.{Move}
use Rattle.ip_wire.specs.IpRepr.{IpRepr}
use Rattle.ip_wire.specs.IpAddress.{IpAddress}
use Rattle.iface_ingress.specs.Packet.{PacketValue}
use Rattle.iface_ingress.specs.Offer as Answer
use Rattle.iface_ingress.specs.Offer.TheVariants as Offer
use Rattle.iface_ingress.specs.Sockets.{offered_by}
use Rattle.iface_ingress.specs.Socket.{Socket}
use Rattle.iface_tables.specs.Inner.{InnerValue}
use Rattle.iface_egress.specs.declared.socket_set.Item.{Item}
use Rattle.iface_egress.specs.declared.socket_set.SocketStorage.{SocketStorage}
use Rattle.iface_egress.specs.Departing.{host_after}
use Rattle.iface_egress.specs.Fragments.{LeftValue}
use Rattle.iface_egress.specs.IsTransmitted.{IsTransmitted}
use Rattle.iface_egress.specs.Plan.{plan_of}
use Rattle.iface_egress.specs.declared.plan.Plan.{Plan}
use Rattle.iface_egress.specs.declared.plan.Plan.TheVariants as Way
use Rattle.iface_egress.specs.declared.egress_path.Sent.{Sent}
use Rattle.iface_egress.specs.declared.egress_path.Sent.TheVariants as Outcome
use Rattle.iface_egress.specs.declared.socket_meta.Meta.{Meta}
use Rattle.iface_egress.proofs.Changes.{changes}
use Rattle.interface.specs.Awaited.{turn_of}
use Rattle.interface.specs.Host.{Sender}
use Rattle.interface.specs.Pass.{Pass, Passed}
use Rattle.iface_tables.specs.Parking.{ParkingValue}
use Rattle.iface_egress.specs.Parked.{ServesParked, sender_after, parks}
use Rattle.interface.specs.EgressPath.{Clears, ClearsIf, Egress}
use Rattle.interface.specs.SameHost.{IsSameHost}
use Rattle.interface.specs.Serve.{Leaves, LeavesIf, SendsBy, Answers, TurnsIf, ItemTurns, ServesSlot, is_waiting, let_through, plan_at}
use Rattle.interface.specs.declared.serve.Served.{Served}
use Rattle.interface.proofs.Parked.{HasLeft, parked_keep}

-- with host requirements what is parked may be another, else it is what it was
pub parked_so : (many : Bool) (k l : ParkingValue) → k ≡ l → k ≡ (if many then k else l)
parked_so true k l is = refl
parked_so false k l is = is

abbrev pub same_but : InnerValue → InnerValue → ParkingValue → InnerValue
same_but old new parking =
    record old { ident = new.ident; neighbors = record old.neighbors { silent = new.neighbors.silent; searches = new.neighbors.searches }; parking = parking }

pub same_where : (i i' : InnerValue) → i' ≡ i → IsSameHost i i'
same_where i i' is =
    subst (λ (x : InnerValue). IsSameHost i x) (sym is) (ap (same_but i i) (parked_so i.host_requirements i.parking i.parking refl))

pub two_parked : (many : Bool) (a b c : ParkingValue) → b ≡ (if many then b else a) → (if many then c else b) ≡ (if many then c else a)
two_parked true a b c is = refl
two_parked false a b c is = is

pub same_flag : (i i' : InnerValue) → IsSameHost i i' → i'.host_requirements ≡ i.host_requirements
same_flag i i' same = ap (λ (x : InnerValue). x.host_requirements) same

pub same_then : (a b c : InnerValue) → IsSameHost a b → IsSameHost b c → IsSameHost a c
same_then a b c first second =
    second
    ∙ ap (λ (x : InnerValue). same_but x c (if b.host_requirements then c.parking else b.parking)) first
    ∙ ap (λ (many : Bool). same_but a c (if many then c.parking else b.parking)) (same_flag a b first)
    ∙ ap (same_but a c) (two_parked a.host_requirements a.parking b.parking c.parking (ap (λ (x : InnerValue). x.parking) first))

-- with host requirements another one may be parked
pub same_parked : (i : InnerValue) (k : ParkingValue) → i.host_requirements ≡ true → IsSameHost i (record i { parking = k })
same_parked i k many = ap (same_but i i) (by i.host_requirements many) where
  by : (b : Bool) → b ≡ true → k ≡ (if b then k else i.parking)
  by true is = refl
  by false is = absurd cc

-- another identification, and other searches
pub same_made : (i i' : InnerValue) → i' ≡ same_but i i' i.parking → IsSameHost i i'
same_made i i' is =
    is ∙ ap (same_but i i') (parked_so i.host_requirements i.parking i.parking refl
    ∙ ap (λ (k : ParkingValue). if i.host_requirements then k else i.parking) (sym (ap (λ (x : InnerValue). x.parking) is)))

after_same : (plan : Plan) (sent : Sent) (h : IpRepr) (i : InnerValue) → IsSameHost i (host_after plan sent h i)
after_same plan sent h i = same_made i (host_after plan sent h i) (by plan sent) where
  by : (plan : Plan) (sent : Sent) → host_after plan sent h i ≡ same_but i (host_after plan sent h i) i.parking
  by (Way.Ask neighbor_query) Outcome.Waits = refl
  by (Way.Ask neighbor_query) Outcome.Gone = refl
  by (Way.Ask neighbor_query) Outcome.Dropped = refl
  by (Way.Ask neighbor_query) Outcome.Busy = refl
  by (Way.Ask neighbor_query) Outcome.Refused = refl
  by Way.Drop sent = refl
  by Way.NoRoute sent = refl
  by Way.Wait sent = refl
  by Way.Busy sent = refl
  by (Way.Go to) sent = refl
  by (Way.Cut to) sent = refl

-- with host requirements a packet may be parked
pub same_sender_after : {D : Type 0} (b : Bool) (p : PacketValue) (x : Sender D) → x.inner.host_requirements ≡ true →
    IsSameHost x.inner (sender_after b p x).inner
same_sender_after true p x many = same_parked x.inner _ many
same_sender_after false p x many = same_where x.inner x.inner refl

module _ {D : Type 0} (moves : D → Move → D → Type 0) where
  pub is_transmitted_same : (old new : D) (i i' : InnerValue) (l l' : Option LeftValue) (p : PacketValue) (busy : Bool) (sent : Sent)
      → IsTransmitted moves old i l p (plan_of i busy p.header) sent new i' l' → IsSameHost i i'
  is_transmitted_same old new i i' l l' p busy sent goes =
      let is = (changes moves old new i i' l l' p busy sent goes).1 in
      subst (IsSameHost i) (sym is) (after_same (plan_of i busy p.header) sent p.header i)

  module _ (turn : Option IpAddress) (s s' : Sender D) where
    pub leaves_same : (m : Meta) (p : PacketValue) (sent : Sent) → Leaves moves turn s m p sent s' → IsSameHost s.inner s'.inner
    leaves_same m p sent (inl rests) = same_where s.inner s'.inner rests.2
    leaves_same m p sent (inr goes) = is_transmitted_same goes.0 s'.device s.inner s'.inner s.left s'.left p (is_some s.left) sent goes.2

  -- what is parked was first let leave, and the host has host requirements
  pub parked_same : (s mid s' : Sender D) (b : Bool) (p : PacketValue) → s.inner.host_requirements ≡ true → IsSameHost s.inner mid.inner →
      s' ≡ sender_after b p mid → IsSameHost s.inner s'.inner
  parked_same s mid s' b p many first is =
      same_then s.inner mid.inner s'.inner first
      (subst (λ (x : Sender D). IsSameHost mid.inner x.inner) (sym is) (same_sender_after b p mid (same_flag s.inner mid.inner first ∙ many)))

  module _ (turn : Option IpAddress) (s s' : Sender D) where
    leaves_if_same : (many : Bool) (m : Meta) (p : PacketValue) (sent : Sent) → s.inner.host_requirements ≡ many → LeavesIf moves turn many s m p sent s' →
        IsSameHost s.inner s'.inner
    leaves_if_same false m p sent is leaves = leaves_same turn s s' m p sent leaves
    leaves_if_same true m p sent is leaves =
        parked_same s leaves.1 s' (parks leaves.1.inner p (plan_at s p) leaves.0) p is (leaves_same turn s leaves.1 m p leaves.0 leaves.2) leaves.4

    state_same : s' ≡ s → IsSameHost s.inner s'.inner
    state_same is = same_where s.inner s'.inner (ap (λ (x : Sender D). x.inner) is)

    sends_same : (o : Option PacketValue) (item item' : Item Socket) (changed : Bool) (turned : Served) → SendsBy moves turn o s item changed turned s' item' →
        IsSameHost s.inner s'.inner
    sends_same None item item' changed turned sends = absurd sends
    sends_same (Some p) item item' changed turned sends = leaves_if_same s.inner.host_requirements item.meta sends.0 sends.3.0 refl sends.3.1

    answers_same : (answer : Answer.Offer) (item item' : Item Socket) (turned : Served) → Answers moves turn answer s item turned s' item' →
        IsSameHost s.inner s'.inner
    answers_same (Offer.Silent changed) item item' turned answers = state_same answers.1
    answers_same (Offer.Packet changed) item item' turned answers = sends_same (offered_by item.socket) item item' changed turned answers

    turns_same : (waits : Bool) (item item' : Item Socket) (turned : Served) → TurnsIf moves turn waits s item turned s' item' → IsSameHost s.inner s'.inner
    turns_same true item item' turned turns = state_same turns.1
    turns_same false item item' turned turns = answers_same turns.0 (record item { socket = turns.1 }) item' turned turns.3

    item_same : (o o' : Option (Item Socket)) (turned : Served) → ItemTurns moves turn o s turned s' o' → IsSameHost s.inner s'.inner
    item_same None None turned turns = state_same turns.1
    item_same (Some item) (Some item') turned turns = turns_same (is_waiting s.inner item.meta) (let_through s.inner item) item' turned turns
    item_same None (Some item') turned turns = absurd turns
    item_same (Some item) None turned turns = absurd turns

    pub slot_same : (p p' : SocketStorage Socket) (turned : Served) → ServesSlot moves turn s p turned s' p' → IsSameHost s.inner s'.inner
    slot_same p p' turned turns = item_same p.inner p'.inner turned turns

    clears_same : (l : Option LeftValue) (clear : Bool) → Clears moves l s clear s' → IsSameHost s.inner s'.inner
    clears_same None clear clears = state_same clears.1
    clears_same (Some l) clear clears = same_where s.inner s'.inner clears.1

  -- PACKETS THAT WAIT

  left_same : (x x' : Sender D) (p : PacketValue) (sent : Sent) → HasLeft moves x p sent x' → IsSameHost x.inner x'.inner
  left_same x x' p sent (inl stays) = same_where x.inner x'.inner (ap (λ (y : Sender D). y.inner) stays)
  left_same x x' p sent (inr (inl refused)) = same_where x.inner x'.inner refused.1
  left_same x x' p sent (inr (inr goes)) = is_transmitted_same goes.0 x'.device x.inner x'.inner x.left x'.left p (is_some x.left) sent goes.2

  pub serves_same : (s s' : Sender D) (all : Bool) → s.inner.host_requirements ≡ true → ServesParked moves s all s' → IsSameHost s.inner s'.inner
  serves_same s s' all many serves =
      parked_keep moves (λ (x : Sender D). IsSameHost s.inner x.inner)
      (λ x x' p sent so left. same_then s.inner x.inner x'.inner so (left_same x x' p sent left))
      (λ x k so. same_then s.inner x.inner (record x.inner { parking = k }) so (same_parked x.inner k (same_flag s.inner x.inner so ∙ many)))
      s s' all (same_where s.inner s.inner refl) serves

  pub flag_cleared : (s s' : Sender D) (l : Option LeftValue) (clear : Bool) → Clears moves l s clear s' → s'.inner.host_requirements ≡ s.inner.host_requirements
  flag_cleared s s' l clear clears = same_flag s.inner s'.inner (clears_same None s s' l clear clears)

  clears_if_same : (many : Bool) (s s' : Sender D) (clear : Bool) → s.inner.host_requirements ≡ many → ClearsIf moves many s clear s' →
      IsSameHost s.inner s'.inner
  clears_if_same false s s' clear is clears = clears_same None s s' s.left clear clears
  clears_if_same true s s' clear is (inl stays) = clears_same None s s' s.left false stays.0
  clears_if_same true s s' clear is (inr serves) =
      let first = clears_same None s serves.0 s.left true serves.1 in
      same_then s.inner serves.0.inner s'.inner first (serves_same serves.0 s' clear (same_flag s.inner serves.0.inner first ∙ is) serves.2)

  pub clears_all_same : (s s' : Sender D) (clear : Bool) → ClearsIf moves s.inner.host_requirements s clear s' → IsSameHost s.inner s'.inner
  clears_all_same s s' clear clears = clears_if_same s.inner.host_requirements s s' clear refl clears

  pass_same : (turn : Option IpAddress) (ps : List (SocketStorage Socket)) (s : Sender D) (before : List (SocketStorage Socket)) (changed : Bool) (e : Passed D)
      → Pass moves turn s before changed ps e → IsSameHost s.inner e.sender.inner
  pass_same turn [] s before changed e ends = same_where s.inner e.sender.inner (ap (λ (x : Passed D). x.sender.inner) ends)
  pass_same turn (p ∷ ps) s before changed e (inl goes) =
      same_then s.inner goes.1.inner e.sender.inner (slot_same turn s goes.1 p goes.2 _ goes.3)
      (pass_same turn ps goes.1 (before ++ goes.2 ∷ []) (changed || goes.0) e goes.4)
  pass_same turn (p ∷ ps) s before changed e (inr stops) =
      same_then s.inner stops.1.inner e.sender.inner (slot_same turn s stops.1 p stops.2 _ stops.3)
      (same_where stops.1.inner e.sender.inner (ap (λ (x : Passed D). x.sender.inner) stops.4))

  pub egress_same_host : (s : Sender D) (ps : List (SocketStorage Socket)) (e : Passed D) → Egress moves s ps e → IsSameHost s.inner e.sender.inner
  egress_same_host s ps e (inl stays) =
      same_then s.inner stays.0.inner e.sender.inner (clears_all_same s stays.0 false stays.1)
      (same_where stays.0.inner e.sender.inner (ap (λ (x : Passed D). x.sender.inner) stays.2))
  egress_same_host s ps e (inr goes) =
      same_then s.inner goes.0.inner e.sender.inner (clears_all_same s goes.0 true goes.1)
      (pass_same (turn_of goes.0.inner ps) ps goes.0 [] false e goes.2)
