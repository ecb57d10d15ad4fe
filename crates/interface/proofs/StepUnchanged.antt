-- A pass that says that nothing changed.
use Rattle.std.proofs.Common.{◌≡◌, ℤ, Bool, true, false, ◌||◌, inl, inr, List, [], ◌∷◌, ◌++◌, Option, Some, None, refl, sym, ap, ◌∙◌, subst, append_assoc}
use Rattle.std.proofs.Common.{append-nil}
use Rattle.net_base.specs.Device.{Move}
use Rattle.iface_ingress.specs.Packet.{PacketValue}
use Rattle.iface_ingress.specs.Offer as Answer
use Rattle.iface_ingress.specs.Offer.TheVariants as Offer
use Rattle.ip_wire.specs.IpAddress.{IpAddress}
use Rattle.iface_ingress.proofs.AnyKind.{same}
use Rattle.iface_ingress.specs.Sockets.{Offers, offered_by, settled, IsSameButForSlots}
use Rattle.iface_ingress.specs.Socket.{Socket}
use Rattle.iface_ingress.specs.Socket.TheVariants as Kind
use Rattle.iface_egress.specs.declared.socket_set.Item.{Item}
use Rattle.iface_egress.specs.declared.socket_set.SocketStorage.{SocketStorage}
use Rattle.iface_egress.specs.declared.egress_path.Sent.{Sent}
use Rattle.iface_egress.specs.declared.egress_path.Sent.TheVariants as Outcome
use Rattle.interface.specs.Remote.{context_for}
use Rattle.interface.specs.Awaited.{turn_of}
use Rattle.interface.specs.Host.{Sender}
use Rattle.interface.specs.Pass.{Pass, Passed}
use Rattle.interface.specs.EgressPath.{Egress}
use Rattle.interface.specs.Serve.{Answers, Asks, SendsBy, TurnsIf, ItemTurns, ServesSlot, is_waiting, let_through, settled_by, turned_by, plan_at, waits_until}
use Rattle.interface.specs.QuietStep.{IsUnchanged, IsItemUnchanged, AreUnchanged}
use Rattle.interface.specs.declared.serve.Served.{Served}
use Rattle.interface.specs.declared.serve.Served.TheVariants as Turn

-- what a turn says
abbrev said : Served → Bool
said (Turn.Next b) = b
said (Turn.Stop b) = b

neither : (a b : Bool) → (a || b) ≡ false → (a ≡ false) × (b ≡ false)
neither true b off = absurd (cc)
neither false b off = (refl, off)

-- SOCKETS

unchanged_self : (s : Socket) → IsUnchanged s s
unchanged_self (Kind.Raw v) = record { received = refl; settings = refl; queued = refl; positions = refl; room = refl }
unchanged_self (Kind.Icmp v) = record { received = refl; settings = refl; queued = refl; positions = refl; room = refl }
unchanged_self (Kind.Udp v) = record { received = refl; settings = refl; queued = refl; positions = refl; room = refl }
unchanged_self (Kind.Tcp v) = record { state = refl; names = refl; settings = refl; received = refl; queued = refl }
unchanged_self (Kind.Dhcpv4 v) = refl
unchanged_self (Kind.Dns v) = refl

settled_once : (s : Socket) → settled false (settled false s) ≡ settled false s
settled_once (Kind.Raw v) = refl
settled_once (Kind.Icmp v) = refl
settled_once (Kind.Udp v) = refl
settled_once (Kind.Tcp v) = refl
settled_once (Kind.Dhcpv4 v) = refl
settled_once (Kind.Dns v) = refl

-- TURNS

module _ {D : Type 0} (moves : D → Move → D → Type 0) (turn : Option IpAddress) (s s' : Sender D) where
  -- a packet that stays
  kept : (until : ℤ) (sent : Sent) (changed : Bool) (before : Socket) (item item' : Item Socket) (turned : Served) (p : PacketValue) →
      (changed ≡ false → IsUnchanged before item.socket)
      → turned ≡ turned_by sent changed → item' ≡ settled_by sent s.inner.instant until (Rattle.ip_wire.specs.Ip.destination_of p.header) item →
      said turned ≡ false → IsUnchanged before item'.socket
  kept until sent changed before item item' turned p same_offered is settles quiet = by sent is settles where
    stays : changed ≡ false → item'.socket ≡ settled false item.socket → IsUnchanged before item'.socket
    stays off kept =
        subst (λ (x : Socket). IsSameButForSlots before x) (sym (settled_once item.socket) ∙ sym (ap (settled false) kept)) (same_offered off)

    by : (sent : Sent) → turned ≡ turned_by sent changed → item' ≡ settled_by sent s.inner.instant until (Rattle.ip_wire.specs.Ip.destination_of p.header) item →
        IsUnchanged before item'.socket
    by Outcome.Gone is settles = absurd (let off = ap said is in cc)
    by Outcome.Dropped is settles = absurd (let off = ap said is in cc)
    by Outcome.Waits is settles = stays (sym (ap said is) ∙ quiet) (ap (λ (x : Item Socket). x.socket) settles)
    by Outcome.Busy is settles = stays (sym (ap said is) ∙ quiet) (ap (λ (x : Item Socket). x.socket) settles)
    by Outcome.Refused is settles = stays (sym (ap said is) ∙ quiet) (ap (λ (x : Item Socket). x.socket) settles)

  sends_same : (o : Option PacketValue) (changed : Bool) (before : Socket) (item item' : Item Socket) (turned : Served) →
      (changed ≡ false → IsUnchanged before item.socket)
      → SendsBy moves turn o s item changed turned s' item' → said turned ≡ false → IsUnchanged before item'.socket
  sends_same None changed before item item' turned same_offered sends quiet = absurd sends
  sends_same (Some p) changed before item item' turned same_offered sends quiet =
      kept (waits_until (plan_at s sends.0) s'.inner) sends.3.0 changed before item item' turned sends.0 same_offered sends.3.2 sends.3.3 quiet

  asks_same : (item item' : Item Socket) (turned : Served) → Asks moves turn s item turned s' item' → said turned ≡ false → IsUnchanged item.socket item'.socket
  asks_same item item' turned a quiet = by a.0 a.2 a.3 where
    by : (answer : Answer.Offer) → Offers (context_for s.inner item.socket) item.socket answer a.1 →
        Answers moves turn answer s (record item { socket = a.1 }) turned s' item' → IsUnchanged item.socket item'.socket
    by (Offer.Silent changed) offers answers =
        subst (λ (x : Item Socket). IsUnchanged item.socket x.socket) (sym answers.2)
        (same item.socket a.1 (context_for s.inner item.socket) (Offer.Silent changed) offers (sym (ap said answers.0) ∙ quiet))
    by (Offer.Packet changed) offers answers =
        sends_same (offered_by a.1) changed item.socket (record item { socket = a.1 }) item' turned
        (λ off. same item.socket a.1 (context_for s.inner item.socket) (Offer.Packet changed) offers off) answers quiet

  turns_same : (waits : Bool) (item item' : Item Socket) (turned : Served) → TurnsIf moves turn waits s item turned s' item' → said turned ≡ false →
      IsUnchanged item.socket item'.socket
  turns_same true item item' turned turns quiet = subst (λ (x : Item Socket). IsUnchanged item.socket x.socket) (sym turns.2) (unchanged_self item.socket)
  turns_same false item item' turned turns quiet = asks_same item item' turned turns quiet

  item_same : (o o' : Option (Item Socket)) (turned : Served) → ItemTurns moves turn o s turned s' o' → said turned ≡ false → IsItemUnchanged o o'
  item_same None None turned turns quiet = tt
  item_same (Some item) (Some item') turned turns quiet =
      turns_same (is_waiting s.inner item.meta) (let_through s.inner item) item' turned turns quiet
  item_same None (Some item') turned turns quiet = absurd turns
  item_same (Some item) None turned turns quiet = absurd turns

  pub slot_same : (p p' : SocketStorage Socket) (turned : Served) → ServesSlot moves turn s p turned s' p' → said turned ≡ false →
      IsItemUnchanged p.inner p'.inner
  slot_same p p' turned turns quiet = item_same p.inner p'.inner turned turns quiet

-- PLACES

item_self : (o : Option (Item Socket)) → IsItemUnchanged o o
item_self None = tt
item_self (Some item) = unchanged_self item.socket

pub unchanged_slots : (ps : List (SocketStorage Socket)) → AreUnchanged ps ps
unchanged_slots [] = tt
unchanged_slots (p ∷ ps) = (item_self p.inner, unchanged_slots ps)

unchanged_append : (ps ps' qs qs' : List (SocketStorage Socket)) → AreUnchanged ps ps' → AreUnchanged qs qs' → AreUnchanged (ps ++ qs) (ps' ++ qs')
unchanged_append [] [] qs qs' front back = back
unchanged_append (p ∷ ps) (p' ∷ ps') qs qs' front back = (front.0, unchanged_append ps ps' qs qs' front.1 back)
unchanged_append [] (p' ∷ ps') qs qs' front back = absurd front
unchanged_append (p ∷ ps) [] qs qs' front back = absurd front

module _ {D : Type 0} (moves : D → Move → D → Type 0) where
  pass_flag : (turn : Option IpAddress) (ps : List (SocketStorage Socket)) (s : Sender D) (before : List (SocketStorage Socket)) (changed : Bool)
      (e : Passed D) → Pass moves turn s before changed ps e → e.changed ≡ false → changed ≡ false
  pass_flag turn [] s before changed e ends quiet = sym (ap (λ (x : Passed D). x.changed) ends) ∙ quiet
  pass_flag turn (p ∷ ps) s before changed e (inl goes) quiet =
      (neither changed goes.0 (pass_flag turn ps goes.1 (before ++ goes.2 ∷ []) (changed || goes.0) e goes.4 quiet)).0
  pass_flag turn (p ∷ ps) s before changed e (inr stops) quiet =
      (neither changed stops.0 (sym (ap (λ (x : Passed D). x.changed) stops.4) ∙ quiet)).0

  pass_same : (turn : Option IpAddress) (ps : List (SocketStorage Socket)) (s : Sender D) (old before : List (SocketStorage Socket)) (changed : Bool)
      (e : Passed D)
      → AreUnchanged old before → Pass moves turn s before changed ps e → e.changed ≡ false → AreUnchanged (old ++ ps) e.slots
  pass_same turn [] s old before changed e front ends quiet =
      subst (λ (xs : List (SocketStorage Socket)). AreUnchanged xs e.slots) (sym (append-nil old))
      (subst (λ (x : Passed D). AreUnchanged old x.slots) (sym ends) front)
  pass_same turn (p ∷ ps) s old before changed e front (inl goes) quiet =
      let flag = neither changed goes.0 (pass_flag turn ps goes.1 (before ++ goes.2 ∷ []) (changed || goes.0) e goes.4 quiet) in
      let here = slot_same moves turn s goes.1 p goes.2 (Turn.Next goes.0) goes.3 flag.1 in
      subst (λ (xs : List (SocketStorage Socket)). AreUnchanged xs e.slots) (append_assoc old (p ∷ []) ps)
      (pass_same turn ps goes.1 (old ++ p ∷ []) (before ++
      goes.2 ∷ []) (changed || goes.0) e (unchanged_append old before (p ∷ []) (goes.2 ∷ []) front (here, tt)) goes.4 quiet)
  pass_same turn (p ∷ ps) s old before changed e front (inr stops) quiet =
      let flag = neither changed stops.0 (sym (ap (λ (x : Passed D). x.changed) stops.4) ∙ quiet) in
      let here = slot_same moves turn s stops.1 p stops.2 (Turn.Stop stops.0) stops.3 flag.1 in
      subst (λ (x : Passed D). AreUnchanged (old ++ p ∷ ps) x.slots) (sym stops.4)
      (unchanged_append old before (p ∷ ps) (stops.2 ∷ ps) front (here, unchanged_slots ps))

  pub egress_same : (s : Sender D) (ps : List (SocketStorage Socket)) (e : Passed D) → Egress moves s ps e → e.changed ≡ false → AreUnchanged ps e.slots
  egress_same s ps e (inl stays) quiet = subst (λ (x : Passed D). AreUnchanged ps x.slots) (sym stays.2) (unchanged_slots ps)
  egress_same s ps e (inr goes) quiet = pass_same (turn_of goes.0.inner ps) ps goes.0 [] [] false e tt goes.2 quiet
