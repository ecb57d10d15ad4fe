-- What packets that go by their plans, and packets that are parked, keep of a host is kept by a socket's turn, and by a step of the egress path.
use Rattle.std.proofs.Common.{◌≡◌, Bool, true, false, ◌||◌, inl, inr, List, [], ◌∷◌, ◌++◌, Option, Some, None, is_some, sym, subst}
use Rattle.net_base.specs.Device.{Move}
use Rattle.ip_wire.specs.IpAddress.{IpAddress}
use Rattle.ip_wire.specs.IpRepr.{IpRepr}
use Rattle.iface_ingress.specs.Offer as Answer
use Rattle.iface_ingress.specs.Offer.TheVariants as Offer
use Rattle.iface_ingress.specs.Packet.{PacketValue}
use Rattle.iface_ingress.specs.Socket.{Socket}
use Rattle.iface_ingress.specs.Sockets.{offered_by}
use Rattle.iface_tables.specs.Inner.{InnerValue, with_packet_parked}
use Rattle.iface_tables.specs.Parking.{ParkingValue}
use Rattle.iface_egress.specs.Departing.{host_after}
use Rattle.iface_egress.specs.Fragments.{LeftValue}
use Rattle.iface_egress.specs.IsTransmitted.{IsTransmitted}
use Rattle.iface_egress.specs.Parked.{parks, sender_after}
use Rattle.iface_egress.specs.Plan.{plan_of}
use Rattle.iface_egress.specs.declared.socket_meta.Meta.{Meta}
use Rattle.iface_egress.specs.declared.socket_set.Item.{Item}
use Rattle.iface_egress.specs.declared.socket_set.SocketStorage.{SocketStorage}
use Rattle.iface_egress.specs.declared.egress_path.Sent.{Sent}
use Rattle.iface_egress.proofs.Changes.{changes}
use Rattle.interface.specs.Awaited.{turn_of}
use Rattle.interface.specs.EgressPath.{Clears, ClearsIf, Egress}
use Rattle.interface.specs.Host.{Sender}
use Rattle.interface.specs.Pass.{Pass, Passed}
use Rattle.interface.specs.Serve.{Answers, ItemTurns, Leaves, LeavesIf, SendsBy, ServesSlot, TurnsIf, is_waiting, let_through, plan_at}
use Rattle.interface.specs.declared.serve.Served.{Served}
use Rattle.interface.specs.declared.serve.Served.TheVariants as Turn
use Rattle.interface.proofs.Parked.{HasLeft, parked_keep}

module _ {D : Type 0} (moves : D → Move → D → Type 0) (P : InnerValue → Type 0)
    (goes_so : (i : InnerValue) (busy : Bool) (h : IpRepr) (sent : Sent) → P i → P (host_after (plan_of i busy h) sent h i))
    (parks_so : (i : InnerValue) (k : ParkingValue) → P i → P (record i { parking = k })) where
  -- A TURN

  module _ (turn : Option IpAddress) (x x' : Sender D) (holds : P x.inner) where
    rests : x' ≡ x → P x'.inner
    rests is = subst (λ (y : Sender D). P y.inner) (sym is) holds

    out : (d : D) (y : Sender D) (p : PacketValue) (sent : Sent)
        → IsTransmitted moves d x.inner x.left p (plan_of x.inner (is_some x.left) p.header) sent y.device y.inner y.left → P y.inner
    out d y p sent goes =
        subst P (sym (changes moves d y.device x.inner y.inner x.left y.left p (is_some x.left) sent goes).1)
        (goes_so x.inner (is_some x.left) p.header sent holds)

    leaves : (y : Sender D) (m : Meta) (p : PacketValue) (sent : Sent) → Leaves moves turn x m p sent y → P y.inner
    leaves y m p sent (inl rests) = subst P (sym rests.2) holds
    leaves y m p sent (inr goes) = out goes.0 y p sent goes.2

    -- whether it is parked or not
    parked_or_not : (b : Bool) (y : Sender D) (p : PacketValue) → P y.inner → P (sender_after b p y).inner
    parked_or_not true y p so = parks_so y.inner (with_packet_parked y.inner p).parking so
    parked_or_not false y p so = so

    leaves_if : (many : Bool) (m : Meta) (p : PacketValue) (sent : Sent) → LeavesIf moves turn many x m p sent x' → P x'.inner
    leaves_if false m p sent goes = leaves x' m p sent goes
    leaves_if true m p sent goes =
        subst (λ (y : Sender D). P y.inner) (sym goes.4)
        (parked_or_not (parks goes.1.inner p (plan_at x p) goes.0) goes.1 p (leaves goes.1 m p goes.0 goes.2))

    offers : (o : Option PacketValue) (item item' : Item Socket) (changed : Bool) (turned : Served) → SendsBy moves turn o x item changed turned x' item'
        → P x'.inner
    offers None item item' changed turned sends = absurd sends
    offers (Some p) item item' changed turned sends = leaves_if x.inner.host_requirements item.meta sends.0 sends.3.0 sends.3.1

    answers : (answer : Answer.Offer) (item item' : Item Socket) (turned : Served) → Answers moves turn answer x item turned x' item' → P x'.inner
    answers (Offer.Silent changed) item item' turned is = rests is.1
    answers (Offer.Packet changed) item item' turned is = offers (offered_by item.socket) item item' changed turned is

    asked : (waits : Bool) (item item' : Item Socket) (turned : Served) → TurnsIf moves turn waits x item turned x' item' → P x'.inner
    asked true item item' turned turns = rests turns.1
    asked false item item' turned turns = answers turns.0 (record item { socket = turns.1 }) item' turned turns.3

    items : (o o' : Option (Item Socket)) (turned : Served) → ItemTurns moves turn o x turned x' o' → P x'.inner
    items None None turned turns = rests turns.1
    items (Some item) (Some item') turned turns = asked (is_waiting x.inner item.meta) (let_through x.inner item) item' turned turns
    items None (Some item') turned turns = absurd turns
    items (Some item) None turned turns = absurd turns

  pub slot_kept : (turn : Option IpAddress) (x x' : Sender D) (slot slot' : SocketStorage Socket) (turned : Served)
      → ServesSlot moves turn x slot turned x' slot' → P x.inner → P x'.inner
  slot_kept turn x x' slot slot' turned turns holds = items turn x x' holds slot.inner slot'.inner turned turns

  -- THE STEP

  pass_kept : (turn : Option IpAddress) (ps : List (SocketStorage Socket)) (x : Sender D) (before : List (SocketStorage Socket)) (changed : Bool)
      (e : Passed D) → Pass moves turn x before changed ps e → P x.inner → P e.sender.inner
  pass_kept turn [] x before changed e ends holds = subst (λ (y : Passed D). P y.sender.inner) (sym ends) holds
  pass_kept turn (p ∷ ps) x before changed e (inl goes) holds =
      pass_kept turn ps goes.1 (before ++ goes.2 ∷ []) (changed || goes.0) e goes.4
      (slot_kept turn x goes.1 p goes.2 (Turn.Next goes.0) goes.3 holds)
  pass_kept turn (p ∷ ps) x before changed e (inr stops) holds =
      subst (λ (y : Passed D). P y.sender.inner) (sym stops.4) (slot_kept turn x stops.1 p stops.2 (Turn.Stop stops.0) stops.3 holds)

  clears_kept : (l : Option LeftValue) (clear : Bool) (x x' : Sender D) → Clears moves l x clear x' → P x.inner → P x'.inner
  clears_kept None clear x x' goes holds = subst (λ (y : Sender D). P y.inner) (sym goes.1) holds
  clears_kept (Some l) clear x x' goes holds = subst P (sym goes.1) holds

  -- a packet that waited for its next hop
  left_kept : (x x' : Sender D) (p : PacketValue) (sent : Sent) → P x.inner → HasLeft moves x p sent x' → P x'.inner
  left_kept x x' p sent holds (inl is) = subst (λ (y : Sender D). P y.inner) (sym is) holds
  left_kept x x' p sent holds (inr (inl stays)) = subst P (sym stays.1) holds
  left_kept x x' p sent holds (inr (inr goes)) = out None x x' holds goes.0 x' p sent goes.2

  pub clears_all_kept : (many clear : Bool) (x x' : Sender D) → ClearsIf moves many x clear x' → P x.inner → P x'.inner
  clears_all_kept false clear x x' goes holds = clears_kept x.left clear x x' goes holds
  clears_all_kept true clear x x' (inl goes) holds = clears_kept x.left false x x' goes.0 holds
  clears_all_kept true clear x x' (inr goes) holds =
      parked_keep moves (λ (y : Sender D). P y.inner) left_kept (λ y k so. parks_so y.inner k so) goes.0 x' clear
      (clears_kept x.left true x goes.0 goes.1 holds) goes.2

  pub step_kept : (x : Sender D) (ps : List (SocketStorage Socket)) (e : Passed D) → Egress moves x ps e → P x.inner → P e.sender.inner
  step_kept x ps e (inl stays) holds =
      subst (λ (y : Passed D). P y.sender.inner) (sym stays.2) (clears_all_kept x.inner.host_requirements false x stays.0 stays.1 holds)
  step_kept x ps e (inr goes) holds =
      pass_kept (turn_of goes.0.inner ps) ps goes.0 [] false e goes.2
      (clears_all_kept x.inner.host_requirements true x goes.0 goes.1 holds)
