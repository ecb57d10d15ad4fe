-- A host without host requirements parks nothing: its turns, passes and steps of the egress path.
use Rattle.std.proofs.Common.{◌≡◌, ℕ, zero, suc, Bool, true, false, ◌||◌, ◌⊎◌, inl, inr, ℤ, List, [], ◌∷◌, ◌++◌, Option, Some, None, sym, ap, ◌∙◌, append-nil, append_assoc}
use Rattle.net_base.specs.Device.{Move}
use Rattle.ip_wire.specs.Ip.{destination_of}
use Rattle.ip_wire.specs.IpAddress.{IpAddress}
use Rattle.iface_ingress.specs.Offer as Answer
use Rattle.iface_ingress.specs.Offer.TheVariants as Offer
use Rattle.iface_ingress.specs.Packet.{PacketValue}
use Rattle.iface_ingress.specs.Socket.{Socket}
use Rattle.iface_ingress.specs.Sockets.{Offers, offered_by}
use Rattle.iface_ingress.specs.WellFormed.{IsWellFormed}
use Rattle.iface_egress.specs.declared.egress_path.Sent.{Sent}
use Rattle.iface_egress.specs.declared.socket_set.Item.{Item}
use Rattle.iface_egress.specs.declared.socket_set.SocketStorage.{SocketStorage}
use Rattle.interface.specs.Awaited.{turn_of}
use Rattle.interface.specs.Egress.{EgressStep, sending}
use Rattle.interface.specs.EgressPath.{Clears}
use Rattle.interface.specs.EgressPath as Real
use Rattle.interface.specs.Host.{Sender}
use Rattle.interface.specs.Ingress.{Takes, IngressStep}
use Rattle.interface.specs.Pass.{Passed, passed}
use Rattle.interface.specs.Pass as Passes
use Rattle.interface.specs.Polls.{Repeats, begun}
use Rattle.interface.specs.Remote.{context_for}
use Rattle.interface.specs.SameHost.{IsSameHost}
use Rattle.interface.specs.Serve.{Leaves, is_waiting, let_through, plan_at, settled_by, sourced, turned_by, waits_until}
use Rattle.interface.specs.Serve as Turning
use Rattle.interface.specs.State.{State}
use Rattle.interface.specs.declared.serve.Served.{Served}
use Rattle.interface.specs.declared.serve.Served.TheVariants as Turn
use Rattle.interface.proofs.Alone as Parking
use Rattle.interface.proofs.Alone.{leaves_alone}
use Rattle.interface.proofs.Runs.{receives_same}
use Rattle.interface.proofs.SameHost.{egress_same_host, leaves_same, same_flag, same_where}
use Rattle.interface.proofs.SameHost as Hosts

-- A TURN

module _ {D : Type 0} (moves : D → Move → D → Type 0) (turn : Option IpAddress) where
  abbrev pub SendsAs : PacketValue → Sender D → Item Socket → Bool → Served → Sender D → Item Socket → Type 0
  SendsAs p s item changed turned s' item' =
      (sent : Sent) × Leaves moves turn s item.meta p sent s' × (turned ≡ turned_by sent changed)
      × (item' ≡ settled_by sent s.inner.instant (waits_until (plan_at s p) s'.inner) (destination_of p.header) item) × IsWellFormed p

  abbrev pub SendsBy : Option PacketValue → Sender D → Item Socket → Bool → Served → Sender D → Item Socket → Type 0
  SendsBy None s item changed turned s' item' = ⊥
  SendsBy (Some p) s item changed turned s' item' =
      (leaving : PacketValue) × (leaving ≡ sourced s.inner p) × IsWellFormed p × SendsAs leaving s item changed turned s' item'

  abbrev pub Sends : Sender D → Item Socket → Bool → Served → Sender D → Item Socket → Type 0
  Sends s item changed turned s' item' = SendsBy (offered_by item.socket) s item changed turned s' item'

  abbrev pub Answers : Answer.Offer → Sender D → Item Socket → Served → Sender D → Item Socket → Type 0
  Answers (Offer.Silent changed) s item turned s' item' =
      (turned ≡ Turn.Next changed) × (s' ≡ s) × (item' ≡ record item { meta = Rattle.iface_egress.specs.Meta.unmarked })
  Answers (Offer.Packet changed) s item turned s' item' = Sends s item changed turned s' item'

  abbrev pub Asks : Sender D → Item Socket → Served → Sender D → Item Socket → Type 0
  Asks s item turned s' item' =
      (answer : Answer.Offer) × (offered : Socket) × Offers (context_for s.inner item.socket) item.socket answer offered
      × Answers answer s (record item { socket = offered }) turned s' item'

  abbrev pub TurnsIf : Bool → Sender D → Item Socket → Served → Sender D → Item Socket → Type 0
  TurnsIf true s item turned s' item' = (turned ≡ Turn.Next false) × (s' ≡ s) × (item' ≡ item)
  TurnsIf false s item turned s' item' = Asks s item turned s' item'

  abbrev pub Turns : Sender D → Item Socket → Served → Sender D → Item Socket → Type 0
  Turns s item turned s' item' = TurnsIf (is_waiting s.inner item.meta) s (let_through s.inner item) turned s' item'

  abbrev pub ItemTurns : Option (Item Socket) → Sender D → Served → Sender D → Option (Item Socket) → Type 0
  ItemTurns None s turned s' None = (turned ≡ Turn.Next false) × (s' ≡ s)
  ItemTurns (Some item) s turned s' (Some item') = Turns s item turned s' item'
  ItemTurns None s turned s' (Some item') = ⊥
  ItemTurns (Some item) s turned s' None = ⊥

  abbrev pub ServesSlot : Sender D → SocketStorage Socket → Served → Sender D → SocketStorage Socket → Type 0
  ServesSlot s slot turned s' slot' = ItemTurns slot.inner s turned s' slot'.inner

  -- A PASS

  abbrev pub Pass : Sender D → List (SocketStorage Socket) → Bool → List (SocketStorage Socket) → Passed D → Type 0
  Pass s before changed [] e = e ≡ passed s before changed
  Pass s before changed (p ∷ ps) e =
      ((b : Bool) × (mid : Sender D) × (p' : SocketStorage Socket)
      × ServesSlot s p (Turn.Next b) mid p' × Pass mid (before ++ p' ∷ []) (changed || b) ps e)
      ⊎ ((b : Bool) × (mid : Sender D) × (p' : SocketStorage Socket)
      × ServesSlot s p (Turn.Stop b) mid p' × (e ≡ passed mid (before ++ p' ∷ ps) (changed || b)))

-- A STEP OF THE EGRESS PATH

abbrev pub Egress : {D : Type 0} → (D → Move → D → Type 0) → Sender D → List (SocketStorage Socket) → Passed D → Type 0
Egress {D} moves s ps e =
    ((mid : Sender D) × Clears moves s.left s false mid × (e ≡ passed mid ps false))
    ⊎ ((mid : Sender D) × Clears moves s.left s true mid × Pass moves (turn_of mid.inner ps) mid [] false ps e)

-- THEY ARE THOSE OF SUCH A HOST

module _ {D : Type 0} (moves : D → Move → D → Type 0) (turn : Option IpAddress) (x x' : Sender D) (alone : x.inner.host_requirements ≡ false) where
  sends_alone : (o : Option PacketValue) (item item' : Item Socket) (changed : Bool) (turned : Served) → Turning.SendsBy moves turn o x item changed turned x' item' →
      SendsBy moves turn o x item changed turned x' item'
  sends_alone None item item' changed turned sends = absurd sends
  sends_alone (Some p) item item' changed turned sends = (
    sends.0,
    sends.1,
    sends.2,
    (sends.3.0, leaves_alone moves turn x x' item.meta sends.0 sends.3.0 alone sends.3.1, sends.3.2, sends.3.3, sends.3.4),
  )

  answers_alone : (answer : Answer.Offer) (item item' : Item Socket) (turned : Served) → Turning.Answers moves turn answer x item turned x' item' →
      Answers moves turn answer x item turned x' item'
  answers_alone (Offer.Silent changed) item item' turned answers = answers
  answers_alone (Offer.Packet changed) item item' turned answers = sends_alone (offered_by item.socket) item item' changed turned answers

  turns_alone : (waits : Bool) (item item' : Item Socket) (turned : Served) → Turning.TurnsIf moves turn waits x item turned x' item' →
      TurnsIf moves turn waits x item turned x' item'
  turns_alone true item item' turned turns = turns
  turns_alone false item item' turned turns =
      (turns.0, turns.1, turns.2, answers_alone turns.0 (record item { socket = turns.1 }) item' turned turns.3)

  item_alone : (o o' : Option (Item Socket)) (turned : Served) → Turning.ItemTurns moves turn o x turned x' o' → ItemTurns moves turn o x turned x' o'
  item_alone None None turned turns = turns
  item_alone (Some item) (Some item') turned turns = turns_alone (is_waiting x.inner item.meta) (let_through x.inner item) item' turned turns
  item_alone None (Some item') turned turns = absurd turns
  item_alone (Some item) None turned turns = absurd turns

  pub slot_alone : (p p' : SocketStorage Socket) (turned : Served) → Turning.ServesSlot moves turn x p turned x' p' → ServesSlot moves turn x p turned x' p'
  slot_alone p p' turned turns = item_alone p.inner p'.inner turned turns

module _ {D : Type 0} (moves : D → Move → D → Type 0) where
  flag_kept : (turn : Option IpAddress) (x x' : Sender D) (p p' : SocketStorage Socket) (turned : Served) → Turning.ServesSlot moves turn x p turned x' p' →
      x.inner.host_requirements ≡ false → x'.inner.host_requirements ≡ false
  flag_kept turn x x' p p' turned turns alone = same_flag x.inner x'.inner (Hosts.slot_same moves turn x x' p p' turned turns) ∙ alone

  pass_alone : (turn : Option IpAddress) (ps : List (SocketStorage Socket)) (s : Sender D) (before : List (SocketStorage Socket)) (changed : Bool) (e : Passed D) →
      s.inner.host_requirements ≡ false → Passes.Pass moves turn s before changed ps e → Pass moves turn s before changed ps e
  pass_alone turn [] s before changed e alone ends = ends
  pass_alone turn (p ∷ ps) s before changed e alone (inl goes) = inl (
    goes.0,
    goes.1,
    goes.2,
    slot_alone moves turn s goes.1 alone p goes.2 (Turn.Next goes.0) goes.3,
    pass_alone turn ps goes.1 (before ++ goes.2 ∷ []) (changed || goes.0) e (flag_kept turn s goes.1 p goes.2 (Turn.Next goes.0) goes.3 alone) goes.4,
  )
  pass_alone turn (p ∷ ps) s before changed e alone (inr stops) =
      inr (stops.0, stops.1, stops.2, slot_alone moves turn s stops.1 alone p stops.2 (Turn.Stop stops.0) stops.3, stops.4)

  pub egress_alone : (s : Sender D) (ps : List (SocketStorage Socket)) (e : Passed D) → s.inner.host_requirements ≡ false → Real.Egress moves s ps e →
      Egress moves s ps e
  egress_alone s ps e alone goes = by (Parking.egress_alone moves s ps e alone goes) where
    by : Parking.EgressAlone moves s ps e → Egress moves s ps e
    by (inl stays) = inl stays
    by (inr passes) = inr (
      passes.0,
      passes.1,
      pass_alone (turn_of passes.0.inner ps) ps passes.0 [] false e
          (Hosts.flag_cleared moves s passes.0 s.left true passes.1 ∙ alone) passes.2,
    )

  -- the slots before stay
  pub kept : (turn : Option IpAddress) (s : Sender D) (before : List (SocketStorage Socket)) (changed : Bool) (ps : List (SocketStorage Socket)) (e : Passed D)
      → Pass moves turn s before changed ps e → (more : List (SocketStorage Socket)) × (e.slots ≡ before ++ more)
  kept turn s before changed [] e ends = ([], ap (λ (x : Passed D). x.slots) ends ∙ sym (append-nil before))
  kept turn s before changed (p ∷ ps) e (inl goes) =
      let more = kept turn goes.1 (before ++ goes.2 ∷ []) (changed || goes.0) ps e goes.4 in
      (goes.2 ∷ more.0, more.1 ∙ append_assoc before (goes.2 ∷ []) more.0)
  kept turn s before changed (p ∷ ps) e (inr stops) = (stops.2 ∷ ps, ap (λ (x : Passed D). x.slots) stops.4)

  -- a step leaves it such a host
  pub step_flag : (t : ℤ) (s s' : State D) (answer : Option Bool) → EgressStep moves t s answer s' → s.host.inner.host_requirements ≡ false →
      s'.host.inner.host_requirements ≡ false
  step_flag t s s' answer step alone =
      ap (λ (x : State D). x.host.inner.host_requirements) step.2
      ∙ same_flag (sending t s).inner step.0.sender.inner (egress_same_host moves (sending t s) s.slots step.0 step.1) ∙ alone

  takes_flag : (s s' : State D) (answer : Option Bool) → Takes moves s answer s' → s'.host.inner.host_requirements ≡ s.host.inner.host_requirements
  takes_flag s s' None takes = ap (λ (x : State D). x.host.inner.host_requirements) takes.1
  takes_flag s s' (Some false) takes = ap (λ (x : State D). x.host.inner.host_requirements) takes.3
  takes_flag s s' (Some true) takes =
      let reads = takes.4 in
      let same = receives_same moves reads.0 (record s { device = takes.1 }) s' reads.2 in
      same_flag reads.2.0.inner s'.host.inner same.1 ∙ same.0.host_requirements

  pub ingress_flag : (t : ℤ) (s s' : State D) (answer : Option Bool) → IngressStep moves t s answer s' → s.host.inner.host_requirements ≡ false →
      s'.host.inner.host_requirements ≡ false
  ingress_flag t s s' answer step alone = takes_flag (begun t s) s' answer step ∙ alone

  pub outs_flag : (t : ℤ) (n : ℕ) (s s' : State D) (c c' : Bool) → Repeats (EgressStep moves t) n s c s' c' → s.host.inner.host_requirements ≡ false →
      s'.host.inner.host_requirements ≡ false
  outs_flag t zero s s' c c' steps alone = ap (λ (x : State D). x.host.inner.host_requirements) steps.0 ∙ alone
  outs_flag t (suc n) s s' c c' (inl ends) alone = step_flag t s s' None ends.0 alone
  outs_flag t (suc n) s s' c c' (inr goes) alone = outs_flag t n goes.1 s' (c || goes.0) c' goes.3 (step_flag t s goes.1 (Some goes.0) goes.2 alone)

  pub ins_flag : (t : ℤ) (n : ℕ) (s s' : State D) (c c' : Bool) → Repeats (IngressStep moves t) n s c s' c' → s.host.inner.host_requirements ≡ false →
      s'.host.inner.host_requirements ≡ false
  ins_flag t zero s s' c c' steps alone = ap (λ (x : State D). x.host.inner.host_requirements) steps.0 ∙ alone
  ins_flag t (suc n) s s' c c' (inl ends) alone = ingress_flag t s s' None ends.0 alone
  ins_flag t (suc n) s s' c c' (inr goes) alone = ins_flag t n goes.1 s' (c || goes.0) c' goes.3 (ingress_flag t s goes.1 (Some goes.0) goes.2 alone)

  -- THE HOST STAYS

  module _ (turn : Option IpAddress) (s s' : Sender D) where
    state_same : s' ≡ s → IsSameHost s.inner s'.inner
    state_same is = same_where s.inner s'.inner (ap (λ (x : Sender D). x.inner) is)

    sends_same : (o : Option PacketValue) (item item' : Item Socket) (changed : Bool) (turned : Served) → SendsBy moves turn o s item changed turned s' item' →
        IsSameHost s.inner s'.inner
    sends_same None item item' changed turned sends = absurd sends
    sends_same (Some p) item item' changed turned sends = leaves_same moves turn s s' item.meta sends.0 sends.3.0 sends.3.1

    answers_same : (answer : Answer.Offer) (item item' : Item Socket) (turned : Served) → Answers moves turn answer s item turned s' item' →
        IsSameHost s.inner s'.inner
    answers_same (Offer.Silent changed) item item' turned answers = state_same answers.1
    answers_same (Offer.Packet changed) item item' turned answers = sends_same (offered_by item.socket) item item' changed turned answers

    turns_same : (waits : Bool) (item item' : Item Socket) (turned : Served) → TurnsIf moves turn waits s item turned s' item' → IsSameHost s.inner s'.inner
    turns_same true item item' turned turns = state_same turns.1
    turns_same false item item' turned turns = answers_same turns.0 (record item { socket = turns.1 }) item' turned turns.3

    item_same : (o o' : Option (Item Socket)) (turned : Served) → ItemTurns moves turn o s turned s' o' → IsSameHost s.inner s'.inner
    item_same None None turned turns = state_same turns.1
    item_same (Some item) (Some item') turned turns = turns_same (is_waiting s.inner item.meta) (let_through s.inner item) item' turned turns
    item_same None (Some item') turned turns = absurd turns
    item_same (Some item) None turned turns = absurd turns

    pub slot_same : (p p' : SocketStorage Socket) (turned : Served) → ServesSlot moves turn s p turned s' p' → IsSameHost s.inner s'.inner
    slot_same p p' turned turns = item_same p.inner p'.inner turned turns
