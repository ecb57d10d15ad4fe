-- What a host holds of fragments and what waits for it, along a poll.
use Rattle.std.proofs.Common.{◌≡◌, inl, inr, ℕ, zero, suc, ℤ, Bool, true, false, ◌&&◌, List, ◌∷◌, ◌++◌, Option, Some, None, is_some, refl, sym, ◌∙◌, ap, subst}
use Rattle.sim_link.specs.Device.{Allowed}
use Rattle.iface_ingress.specs.IpAddress.{IpAddress}
use Rattle.sockets.specs.Packet.{PacketValue}
use Rattle.sockets.specs.Offer as Answer
use Rattle.sockets.specs.Offer.TheVariants as Offer
use Rattle.sockets.specs.Socket.{offered_by}
use Rattle.sockets.specs.declared.socket.Socket.{Socket}
use Rattle.iface_tables.specs.Inner.{InnerValue}
use Rattle.iface_tables.specs.Assemblers.{without_expired}
use Rattle.iface_egress.specs.Departure.{Tells}
use Rattle.iface_egress.specs.Departing.{departure_by, was_taken}
use Rattle.iface_egress.specs.Fragments.{LeftValue, departure_from}
use Rattle.iface_egress.specs.IsTransmitted.{IsTransmitted, frame_of, frame_len_of}
use Rattle.iface_egress.specs.Parked.{ServesParked}
use Rattle.iface_egress.specs.Plan.{plan_of}
use Rattle.iface_egress.specs.declared.socket_meta.Meta.{Meta}
use Rattle.iface_egress.specs.declared.socket_set.Item.{Item}
use Rattle.iface_egress.specs.declared.socket_set.SocketStorage.{SocketStorage}
use Rattle.iface_egress.specs.declared.egress_path.Sent.{Sent}
use Rattle.iface_egress.proofs.Changes.{changes, fragment_sends}
use Rattle.iface_ingress.specs.Arrives as Replies
use Rattle.iface_ingress.specs.Arrives.{Arrived, ArrivesAs, ReplyValue}
use Rattle.iface_ingress.specs.Delivered.{Slots}
use Rattle.iface_ingress.specs.Incoming.{IncomingValue, IsContent}
use Rattle.iface_ingress.specs.Reassembled.{Assemblers}
use Rattle.interface.specs.Host.{HostValue, Sender}
use Rattle.interface.specs.Ingress.{AnswerGoes, Takes, Replied, is_awaited, sender_of, sender_with, would_solicit}
use Rattle.interface.specs.Polls.{begun}
use Rattle.interface.proofs.Kept.{IsKept}
use Rattle.interface.specs.State.{State, at_device, sending_as}
use Rattle.interface.specs.Serve.{Leaves, LeavesIf, SendsBy, Answers, ServesSlot, TurnsIf, ItemTurns, is_waiting, let_through}
use Rattle.interface.specs.EgressPath.{FragmentLeaves}
use Rattle.interface.specs.declared.serve.Served.{Served}
use Rattle.interface.proofs.Keep.{polls_keep}
use Rattle.interface.proofs.Runs.{receives_same}
use Rattle.interface.proofs.Parked.{HasLeft, parked_keep}
use Rattle.interface.proofs.SameHost.{serves_same, slot_same}
use Rattle.lan.specs.Worlds.AtLink.Port.{LinkEnd, PortValue, PortMove}
use Rattle.lan.specs.Worlds.AtLink.Node.{NodeValue, at_port}
use Rattle.lan.specs.Worlds.AtLink.Steps.{PollsAt}
use Rattle.lan.specs.Worlds.PollSteps.{Step, Steps}
use Rattle.lan.specs.Worlds.ReassembledDatagram.{IsPolled}
use Rattle.lan.proofs.Worlds.Keeps.{waits_same, once_waits, taken_frame}

-- A PORT LEAVES WHAT WAITS

abbrev Waits : PortValue → List (List ℕ)
Waits d = d.link.waiting

goes_waits : (d d' : PortValue) (i i' : InnerValue) (l l' : Option LeftValue) (p : PacketValue) (sent : Sent) →
    IsTransmitted PortMove d i l p (plan_of i (is_some l) p.header) sent d' i' l' → Waits d' ≡ Waits d
goes_waits d d' i i' l l' p sent goes =
    once_waits d d' i (departure_by i p (plan_of i (is_some l) p.header)) (was_taken sent) (changes PortMove d d' i i' l l' p (is_some l) sent goes).0

leave_waits : (t : ℤ) (d d' : PortValue) (given : Bool) → PortMove d (Allowed t given) d' → Waits d' ≡ Waits d
leave_waits t d d' given move = ap Waits move.0

module _ (turn : Option IpAddress) where
  leaves_waits : (x x' : Sender PortValue) (m : Meta) (p : PacketValue) (sent : Sent) → Leaves PortMove turn x m p sent x' → Waits x'.device ≡ Waits x.device
  leaves_waits x x' m p sent (inl rests) = leave_waits x.inner.instant x.device x'.device rests.0 rests.1
  leaves_waits x x' m p sent (inr admits) =
      goes_waits admits.0 x'.device x.inner x'.inner x.left x'.left p sent admits.2 ∙ leave_waits x.inner.instant x.device admits.0 true admits.1

  leaves_if_waits : (many : Bool) (x x' : Sender PortValue) (m : Meta) (p : PacketValue) (sent : Sent) → LeavesIf PortMove turn many x m p sent x' →
      Waits x'.device ≡ Waits x.device
  leaves_if_waits false x x' m p sent goes = leaves_waits x x' m p sent goes
  leaves_if_waits true x x' m p sent goes =
      ap (λ (y : Sender PortValue). Waits y.device) goes.4 ∙ leaves_waits x goes.1 m p goes.0 goes.2

  offer_waits : (o : Option PacketValue) (x x' : Sender PortValue) (item item' : Item Socket) (changed : Bool) (turned : Served) →
      SendsBy PortMove turn o x item changed turned x' item' → Waits x'.device ≡ Waits x.device
  offer_waits None x x' item item' changed turned sends = absurd sends
  offer_waits (Some p) x x' item item' changed turned sends = leaves_if_waits x.inner.host_requirements x x' item.meta sends.0 sends.3.0 sends.3.1

  answer_waits : (answer : Answer.Offer) (x x' : Sender PortValue) (item item' : Item Socket) (turned : Served) →
      Answers PortMove turn answer x item turned x' item' → Waits x'.device ≡ Waits x.device
  answer_waits (Offer.Silent changed) x x' item item' turned is = ap (λ (y : Sender PortValue). Waits y.device) is.1
  answer_waits (Offer.Packet changed) x x' item item' turned is = offer_waits (offered_by item.socket) x x' item item' changed turned is

  if_waits : (waiting : Bool) (x x' : Sender PortValue) (item item' : Item Socket) (turned : Served) → TurnsIf PortMove turn waiting x item turned x' item' →
      Waits x'.device ≡ Waits x.device
  if_waits true x x' item item' turned is = ap (λ (y : Sender PortValue). Waits y.device) is.1
  if_waits false x x' item item' turned is = answer_waits is.0 x x' (record item { socket = is.1 }) item' turned is.3

  turn_waits : (o o' : Option (Item Socket)) (x x' : Sender PortValue) (turned : Served) → ItemTurns PortMove turn o x turned x' o' →
      Waits x'.device ≡ Waits x.device
  turn_waits None None x x' turned is = ap (λ (y : Sender PortValue). Waits y.device) is.1
  turn_waits None (Some item') x x' turned is = absurd is
  turn_waits (Some item) None x x' turned is = absurd is
  turn_waits (Some item) (Some item') x x' turned is = if_waits (is_waiting x.inner item.meta) x x' (let_through x.inner item) item' turned is

fragment_waits : (l : LeftValue) (x x' : Sender PortValue) (gone : Bool) → FragmentLeaves PortMove l x gone x' → Waits x'.device ≡ Waits x.device
fragment_waits l x x' gone (inl denied) = leave_waits x.inner.instant x.device x'.device false denied.0
fragment_waits l x x' gone (inr goes) =
    once_waits goes.0 x'.device x.inner (Some (departure_from x.inner l)) gone (fragment_sends PortMove goes.0 x'.device x.inner l x'.left gone goes.2)
    ∙ leave_waits x.inner.instant x.device goes.0 true goes.1

answer_waits_if : (many : Bool) (p : PacketValue) (kept_back : Bool) (x x' : Sender PortValue) → AnswerGoes PortMove many p kept_back x x' →
    Waits x'.device ≡ Waits x.device
answer_waits_if false p kept_back x x' goes = goes_waits x.device x'.device x.inner x'.inner x.left x'.left p goes.0 goes.1
answer_waits_if true p kept_back x x' goes =
    ap (λ (y : Sender PortValue). Waits y.device) goes.3 ∙ goes_waits x.device goes.1.device x.inner goes.1.inner x.left goes.1.left p goes.0 goes.2

-- a packet that waited
parked_waits : (x x' : Sender PortValue) (p : PacketValue) (sent : Sent) → HasLeft PortMove x p sent x' → Waits x'.device ≡ Waits x.device
parked_waits x x' p sent (inl stays) = ap (λ (y : Sender PortValue). Waits y.device) stays
parked_waits x x' p sent (inr (inl refused)) = leave_waits x.inner.instant x.device x'.device false refused.0
parked_waits x x' p sent (inr (inr goes)) =
    goes_waits goes.0 x'.device x.inner x'.inner x.left x'.left p sent goes.2 ∙ leave_waits x.inner.instant x.device goes.0 true goes.1

served_waits : (x x' : Sender PortValue) (all : Bool) → ServesParked PortMove x all x' → Waits x'.device ≡ Waits x.device
served_waits x x' all serves =
    parked_keep PortMove (λ (y : Sender PortValue). Waits y.device ≡ Waits x.device) (λ y z p sent so left. parked_waits y z p sent left ∙ so)
    (λ y k so. so) x x' all refl serves

replied_waits : (awaited : Bool) (reply : Option ReplyValue) (x x' : Sender PortValue) → Replied PortMove awaited reply x x' → Waits x'.device ≡ Waits x.device
replied_waits awaited None x x' is = ap (λ (y : Sender PortValue). Waits y.device) is
replied_waits awaited (Some (Replies.Tells packet)) x x' is =
    waits_same x.device x'.device (frame_of x.inner (Tells packet)) (frame_len_of x.inner (Tells packet)) is.0 is.1
replied_waits awaited (Some (Replies.Answers p)) x x' (inl held) = ap (λ (y : Sender PortValue). Waits y.device) held.0
replied_waits awaited (Some (Replies.Answers p)) x x' (inr goes) = answer_waits_if x.inner.host_requirements p (awaited && would_solicit x p) x x' goes

-- WHAT LASTS

-- What holds of a host's settings, of its slots and of the frames that wait for it holds after each thing that a poll does: whatever else of the host
-- changes, as slots are given up, and as a frame is skipped or taken.
pub record IsLasting (R : InnerValue → Assemblers → List (List ℕ) → Type 0) : Type 0 where
  pub same : (i i' : InnerValue) (assemblers : Assemblers) (waiting : List (List ℕ)) → i'.checksums ≡ i.checksums → i'.hardware ≡ i.hardware →
      R i assemblers waiting → R i' assemblers waiting
  pub expired : (i : InnerValue) (assemblers : Assemblers) (waiting : List (List ℕ)) (instant : ℤ) → R i assemblers waiting →
      R i (without_expired assemblers instant) waiting
  pub skips : (i : InnerValue) (assemblers : Assemblers) (frame : List ℕ) (rest : List (List ℕ)) → R i assemblers (frame ∷ rest) → R i assemblers rest
  pub takes : (i : InnerValue) (timeout : ℕ) (assemblers : Assemblers) (slots : Slots) (frame : List ℕ) (rest : List (List ℕ)) (content : Option IncomingValue)
      (assemblers' : Assemblers) (a : Arrived) → R i assemblers (frame ∷ rest) → IsContent i.hardware i.checksums frame content →
      ArrivesAs i timeout assemblers slots content assemblers' a → R a.inner assemblers' rest

module _ (R : InnerValue → Assemblers → List (List ℕ) → Type 0) (lasts : IsLasting R) where
  abbrev P : State PortValue → Type 0
  P s = R s.host.inner s.host.assemblers (Waits s.device)

  -- A STEP OF A POLL

  begun_keeps : (t : ℤ) (s : State PortValue) → P s → P (begun t s)
  begun_keeps t s h =
      lasts.same s.host.inner (begun t s).host.inner (begun t s).host.assemblers (Waits s.device) refl refl
      (lasts.expired s.host.inner s.host.assemblers (Waits s.device) t h)

  takes_keep : (s s' : State PortValue) (answer : Option Bool) → P s → Takes PortMove s answer s' → P s'
  takes_keep s s' None h takes =
      subst P (sym takes.1) (subst (λ (w : List (List ℕ)). R s.host.inner s.host.assemblers w) (sym (ap Waits takes.0.0)) h)
  takes_keep s s' (Some false) h takes =
      subst P (sym takes.3) (lasts.skips s.host.inner s.host.assemblers takes.0 (Waits s'.device)
      (subst (λ (w : List (List ℕ)). R s.host.inner s.host.assemblers w) (taken_frame s.host.inner.instant s.device s'.device takes.0 takes.1) h))
  takes_keep s s' (Some true) h takes =
      let mid : PortValue = takes.1 in
      let reads = takes.4 in
      let first : R s.host.inner s.host.assemblers (takes.0 ∷ Waits mid) =
      subst (λ (w : List (List ℕ)). R s.host.inner s.host.assemblers w) (taken_frame s.host.inner.instant s.device mid takes.0 takes.2) h in
      let same = receives_same PortMove reads.0 (at_device s mid) s' reads.2 in
      let arrived : R reads.2.0.inner s'.host.assemblers (Waits mid) =
      lasts.takes s.host.inner s.host.timeout s.host.assemblers s.slots takes.0 (Waits mid) reads.0 s'.host.assemblers reads.2.0 first reads.1 reads.2.1 in
      subst (λ (w : List (List ℕ)). R s'.host.inner s'.host.assemblers w)
      (sym (replied_waits (is_awaited reads.2.0) reads.2.0.reply (sender_with PortMove (at_device s mid) reads.2.0) (sender_of PortMove s') reads.2.3))
      (lasts.same reads.2.0.inner s'.host.inner s'.host.assemblers (Waits mid) (ap (λ (x : InnerValue). x.checksums) same.1)
      (ap (λ (x : InnerValue). x.hardware) same.1) arrived)

  fragment_keeps : (h : HostValue) (ps : List (SocketStorage Socket)) (x x' : Sender PortValue) (l : LeftValue) (gone : Bool) →
      FragmentLeaves PortMove l x gone x' → x'.inner ≡ x.inner → P (sending_as h x ps) → P (sending_as h x' ps)
  fragment_keeps h ps x x' l gone leaves same so =
      subst (λ (i : InnerValue). R i h.assemblers (Waits x'.device)) (sym same)
      (subst (λ (w : List (List ℕ)). R x.inner h.assemblers w) (sym (fragment_waits l x x' gone leaves)) so)

  turn_keeps : (turn : Option IpAddress) (h : HostValue) (before after : List (SocketStorage Socket)) (p p' : SocketStorage Socket) (x x' : Sender PortValue)
      (turned : Served) → ServesSlot PortMove turn x p turned x' p' → P (sending_as h x (before ++ p ∷ after)) → P (sending_as h x' (before ++ p' ∷ after))
  turn_keeps turn h before after p p' x x' turned turns so =
      let same = slot_same PortMove turn x x' p p' turned turns in
      lasts.same x.inner x'.inner h.assemblers (Waits x'.device) (ap (λ (i : InnerValue). i.checksums) same) (ap (λ (i : InnerValue). i.hardware) same)
      (subst (λ (w : List (List ℕ)). R x.inner h.assemblers w) (sym (turn_waits turn p.inner p'.inner x x' turned turns)) so)

  parked_keeps : (h : HostValue) (ps : List (SocketStorage Socket)) (x x' : Sender PortValue) (all : Bool) → x.inner.host_requirements ≡ true →
      ServesParked PortMove x all x' → P (sending_as h x ps) → P (sending_as h x' ps)
  parked_keeps h ps x x' all many serves so =
      let same = serves_same PortMove x x' all many serves in
      lasts.same x.inner x'.inner h.assemblers (Waits x'.device) (ap (λ (i : InnerValue). i.checksums) same) (ap (λ (i : InnerValue). i.hardware) same)
      (subst (λ (w : List (List ℕ)). R x.inner h.assemblers w) (sym (served_waits x x' all serves)) so)

  step_keeps : (t : ℤ) (s s' : State PortValue) → Step PortMove t s s' → P s → P s'
  step_keeps t s s' (inl is) h = subst P (sym is) (begun_keeps t s h)
  step_keeps t s s' (inr (inl is)) h = takes_keep s s' is.0 h is.1
  step_keeps t s s' (inr (inr (inl f))) h =
      subst P (sym f.is) (fragment_keeps f.host f.slots f.from f.to f.left f.gone f.leaves f.same (subst P f.was h))
  step_keeps t s s' (inr (inr (inr (inl u)))) h =
      subst P (sym u.is) (turn_keeps u.asked u.host u.before u.after u.slot u.slot_after u.from u.to u.turned u.turns (subst P u.was h))
  step_keeps t s s' (inr (inr (inr (inr k)))) h = subst P (sym k.is) (parked_keeps k.host k.slots k.from k.to k.all k.many k.serves (subst P k.was h))

  -- ALL OF THEM

  steps_keep : (t : ℤ) (count : ℕ) (from to : State PortValue) → Steps PortMove t count from to → P from → P to
  steps_keep t zero from to steps h = subst P (sym steps) h
  steps_keep t (suc count) from to steps h = step_keeps t steps.0 to steps.2 (steps_keep t count from steps.0 steps.1 h)

  kept : (t : ℤ) → IsKept PortMove t P
  kept t = record {
    maintenance = λ s h. begun_keeps t s h;
    arrivals = λ s s' answer runs h takes. takes_keep s s' answer h takes;
    fragments = λ h ps x x' l gone runs is so leaves same. fragment_keeps h ps x x' l gone leaves same so;
    parked = λ h ps x x' all runs many so serves. parked_keeps h ps x x' all many serves so;
    turns = λ turn h before after p p' x x' turned runs so turns. turn_keeps turn h before after p p' x x' turned turns so;
  }

  -- wherever a poll comes
  pub polled_so_far : (s now : NodeValue) → IsPolled s now → R s.host.inner s.host.assemblers s.link.waiting → R now.host.inner now.host.assemblers now.link.waiting
  polled_so_far s now p h =
      subst (λ (e : LinkEnd). R now.host.inner now.host.assemblers e.waiting) p.after
      (steps_keep p.instant p.reached.count (at_port p.port s) (at_port p.port_now now) p.reached.steps
      (subst (λ (e : LinkEnd). R s.host.inner s.host.assemblers e.waiting) (sym p.before) h))

  -- and where it ends
  pub polled_whole : (s s' : NodeValue) (t : ℤ) (budget : ℕ) (changed : Bool) → PollsAt s t budget changed s' → R s.host.inner s.host.assemblers s.link.waiting →
      R s'.host.inner s'.host.assemblers s'.link.waiting
  polled_whole s s' t budget changed at h =
      subst (λ (e : LinkEnd). R s'.host.inner s'.host.assemblers e.waiting) at.after
      (polls_keep PortMove t P (kept t) budget (at_port at.port s) (at_port at.port_after s') changed
      (subst (λ (e : LinkEnd). R s.host.inner s.host.assemblers e.waiting) (sym at.before) h) at.polls).0
