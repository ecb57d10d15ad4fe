-- A poll at a port with buffers for all that it may send: none is refused.
use Rattle.std.proofs.Common.{◌≡◌, ℕ, ◌+◌, ◌-◌, ◌*◌, ◌≤◌, ℤ, Bool, true, false, ◌&&◌, List, length, Option, None, Some, is_some, inl, inr, refl, sym, ap, ◌∙◌}
use Rattle.std.proofs.Common.{subst, arith}
use Rattle.std.specs.Prelude.{nat_le, if◌then◌else◌}
use Rattle.net_base.specs.Device.{Took, Emitted, Denied}
use Rattle.sockets.specs.Packet.{PacketValue}
use Rattle.sockets.specs.Offer as Answer
use Rattle.sockets.specs.Offer.TheVariants as Offer
use Rattle.sockets.specs.Socket.{offered_by}
use Rattle.sockets.specs.declared.socket.Socket.{Socket}
use Rattle.iface_egress.specs.Inner.{InnerValue, at_instant}
use Rattle.iface_egress.specs.declared.socket_set.Item.{Item}
use Rattle.iface_egress.specs.declared.socket_set.SocketStorage.{SocketStorage}
use Rattle.iface_egress.specs.Departing.{SendsOnce, HasSettingsOf, departure_by, was_taken, link_room}
use Rattle.iface_egress.specs.Departure as Departures
use Rattle.ip_wire.specs.IpAddress.{IpAddress}
use Rattle.iface_egress.specs.Departure.{Departure}
use Rattle.iface_egress.specs.declared.socket_meta.Meta.{Meta}
use Rattle.iface_egress.specs.Fragments.{LeftValue, departure_from}
use Rattle.iface_egress.specs.IsTransmitted.{IsTransmitted, FragmentIsTransmitted, Departs, frame_of, frame_len_of}
use Rattle.iface_egress.specs.Plan.{plan_of}
use Rattle.iface_egress.specs.declared.egress_path.Sent.{Sent}
use Rattle.iface_egress.proofs.Changes.{changes, fragment_sends, same_settings}
use Rattle.iface_egress.proofs.Short.{planned_short, fragment_short}
use Rattle.iface_ingress.specs.Arrives as Replies
use Rattle.iface_ingress.specs.Arrives.{ReplyValue, whole_arrived}
use Rattle.iface_ingress.specs.FragmentStored.{HasSameSettings}
use Rattle.interface.specs.Host.{Sender}
use Rattle.interface.specs.Ingress.{Takes, Replied, is_awaited, would_solicit}
use Rattle.interface.specs.Polls.{Polls}
use Rattle.interface.specs.State.{State}
use Rattle.interface.specs.Serve.{Leaves, SendsBy, Answers, TurnsIf, ItemTurns, ServesSlot, is_waiting, let_through}
use Rattle.interface.specs.EgressPath.{FragmentLeaves}
use Rattle.interface.specs.declared.serve.Served.{Served}
use Rattle.interface.proofs.Alone.{answers_alone, leaves_alone}
use Rattle.interface.proofs.Kept.{IsCountedAlone}
use Rattle.interface.proofs.KeepAlone.{polls_count_alone}
use Rattle.interface.proofs.Runs.{receives_same}
use Rattle.sim_link.specs.Port.{PortValue, PortMove}
use Rattle.lan.proofs.Worlds.AtLink.Replies.{IsMeasured, IfReplyMeasured, brings_so}

-- THE PORT

left_most : (b : Bool) (n : ℕ) → n ≤ (if b then n - 1 else n) + 1
left_most true n = omega arith
left_most false n = omega arith

-- With so many sends so far at most: buffers lie ready for the others of so many, each fits the longest frame of this host, and none was
-- refused.
record Stocked (most refusals n : ℕ) (d : PortValue) (i : InnerValue) : Type 0 where
  low : 576 ≤ i.mtu
  fits : link_room i.hardware + i.mtu ≤ d.size
  ready : most ≤ d.ready + n
  none_refused : d.link.refusals ≡ refusals

module _ (most refusals : ℕ) where
  abbrev So : ℕ → PortValue → InnerValue → Type 0
  So n d i = Stocked most refusals n d i

  so_more : (n m : ℕ) (d : PortValue) (i : InnerValue) → n ≤ m → So n d i → So m d i
  so_more n m d i up so = record { low = so.low; fits = so.fits; ready = let few = so.ready in omega (arith, few, up); none_refused = so.none_refused }

  so_port : (n : ℕ) (d d' : PortValue) (i : InnerValue) → d'.size ≡ d.size → d'.ready ≡ d.ready → d'.link.refusals ≡ d.link.refusals → So n d i → So n d' i
  so_port n d d' i size ready refused so = record {
    low = so.low;
    fits = let fits = so.fits in omega (arith, fits, size);
    ready = let few = so.ready in omega (arith, few, ready);
    none_refused = refused ∙ so.none_refused;
  }

  so_same : (n : ℕ) (d d' : PortValue) (i : InnerValue) → d' ≡ d → So n d i → So n d' i
  so_same n d d' i is so = subst (λ (x : PortValue). So n x i) (sym is) so

  -- a host with the same hardware address and MTU
  so_host : (n : ℕ) (d : PortValue) (i i' : InnerValue) → i'.hardware ≡ i.hardware → i'.mtu ≡ i.mtu → So n d i → So n d i'
  so_host n d i i' hardware mtu so = record {
    low = let low = so.low in omega (arith, low, mtu);
    fits = let fits = so.fits in let room = ap link_room hardware in omega (arith, fits, mtu, room);
    ready = so.ready;
    none_refused = so.none_refused;
  }

  so_took : (n : ℕ) (d d' : PortValue) (i : InnerValue) (frame : List ℕ) → PortMove d (Took i.instant frame) d' → So n d i → So n d' i
  so_took n d d' i frame took so =
      so_port n d d' i (ap (λ (x : PortValue). x.size) (sym took.1)) (ap (λ (x : PortValue). x.ready) (sym took.1))
      (ap (λ (x : PortValue). x.link.refusals) (sym took.1)) so

  so_emitted : (n : ℕ) (d d' : PortValue) (i : InnerValue) (frame : List ℕ) → PortMove d (Emitted frame) d' → So n d i → So (n + 1) d' i
  so_emitted n d d' i frame is so = record {
    low = so.low;
    fits = let fits = so.fits in let size = ap (λ (x : PortValue). x.size) is in omega (arith, fits, size);
    ready =
        let few = so.ready in
        let left = ap (λ (x : PortValue). x.ready) is in
        let cost = left_most (nat_le (length frame) d.size) d.ready in
        omega (arith, few, left, cost);
    none_refused = ap (λ (x : PortValue). x.link.refusals) is ∙ so.none_refused;
  }

  -- a frame that fits isn't refused
  so_denied : (n len : ℕ) (d d' : PortValue) (i : InnerValue) → n + 1 ≤ most → len ≤ link_room i.hardware + i.mtu → PortMove d (Denied len) d' → So n d i → ⊥
  so_denied n len d d' i within short denied so =
      let fits = so.fits in
      let few = so.ready in
      let none = denied.1 (omega (arith, fits, short)) in
      omega (arith, few, none, within)

  so_sends : (n : ℕ) (x : Departure) (taken : Bool) (d d' : PortValue) (i : InnerValue) → n + 1 ≤ most → frame_len_of i x ≤ link_room i.hardware + i.mtu →
      Departs PortMove d i x taken d' → So n d i → So (n + 1) d' i
  so_sends n x true d d' i within short goes so = so_emitted n d d' i (frame_of i x) goes.0 so
  so_sends n x false d d' i within short goes so = absurd (so_denied n (frame_len_of i x) d d' i within short goes so)

  -- THE WAY OUT

  so_once : (n : ℕ) (o : Option Departure) (taken : Bool) (d d' : PortValue) (i : InnerValue) → n + 1 ≤ most
      → ((x : Departure) → o ≡ Some x → frame_len_of i x ≤ link_room i.hardware + i.mtu) → SendsOnce PortMove d i o taken d' → So n d i → So (n + 1) d' i
  so_once n None taken d d' i within short goes so = so_more n (n + 1) d' i (omega arith) (so_same n d d' i goes so)
  so_once n (Some x) taken d d' i within short goes so = so_sends n x taken d d' i within (short x refl) goes so

  so_out : (n : ℕ) (d d' : PortValue) (i i' : InnerValue) (l l' : Option LeftValue) (p : PacketValue) (busy : Bool) (sent : Sent) → n + 1 ≤ most → IsMeasured p
      → IsTransmitted PortMove d i l p (plan_of i busy p.header) sent d' i' l' → So n d i → So (n + 1) d' i'
  so_out n d d' i i' l l' p busy sent within len goes so =
      let all = changes PortMove d d' i i' l l' p busy sent goes in
      let settings : HasSettingsOf i i' = same_settings i i' (plan_of i busy p.header) sent p.header all.1 in
      so_host (n + 1) d' i i' settings.hardware settings.mtu
      (so_once n (departure_by i p (plan_of i busy p.header)) (was_taken sent) d d' i within (λ x is. planned_short i busy p x so.low len is) all.0 so)

  so_fragment : (n : ℕ) (l : LeftValue) (gone : Bool) (d d' : PortValue) (i : InnerValue) (l' : Option LeftValue) → n + 1 ≤ most →
      FragmentIsTransmitted PortMove d i l gone d' l' → So n d i → So (n + 1) d' i
  so_fragment n l gone d d' i l' within goes so =
      so_sends n (departure_from i l) gone d d' i within (fragment_short i l so.low) (fragment_sends PortMove d d' i l l' gone goes) so

  -- ARRIVALS

  so_told : (n : ℕ) (i : InnerValue) → 576 ≤ i.mtu → 42 ≤ link_room i.hardware + i.mtu
  so_told n i low = omega (arith, low)

  so_replied : (n : ℕ) (awaited : Bool) (reply : Option ReplyValue) (x x' : Sender PortValue) → x.inner.host_requirements ≡ false → n + 1 ≤ most →
      IfReplyMeasured reply →
      Replied PortMove awaited reply x x' → So n x.device x.inner → So (n + 1) x'.device x'.inner
  so_replied n awaited None x x' alone within so_long is so =
      so_more n (n + 1) x'.device x'.inner (omega arith) (subst (λ (y : Sender PortValue). So n y.device y.inner) (sym is) so)
  so_replied n awaited (Some (Replies.Tells packet)) x x' alone within so_long tells so =
      subst (λ (i : InnerValue). So (n + 1) x'.device i) (sym tells.2)
      (so_sends n (Departures.Tells packet) tells.0 x.device x'.device x.inner within (so_told n x.inner so.low) tells.1 so)
  so_replied n awaited (Some (Replies.Answers p)) x x' alone within so_long (inl held) so =
      so_more n (n + 1) x'.device x'.inner (omega arith) (subst (λ (y : Sender PortValue). So n y.device y.inner) (sym held.0) so)
  so_replied n awaited (Some (Replies.Answers p)) x x' alone within so_long (inr goes) so =
      let answers = answers_alone PortMove p (awaited && would_solicit x p) x x' alone goes in
      so_out n x.device x'.device x.inner x'.inner x.left x'.left p (is_some x.left) answers.0 within so_long answers.1 so

  so_takes : (n : ℕ) (s s' : State PortValue) (answer : Option Bool) → s.host.inner.host_requirements ≡ false → n + 1 ≤ most → So n s.device s.host.inner → Takes PortMove s answer s' →
      So (n + 1) s'.device s'.host.inner
  so_takes n s s' None alone within so takes =
      so_more n (n + 1) s'.device s'.host.inner (omega arith)
      (subst (λ (i : InnerValue). So n s'.device i) (sym (ap (λ (x : State PortValue). x.host.inner) takes.1))
      (so_same n s.device s'.device s.host.inner takes.0.0 so))
  so_takes n s s' (Some false) alone within so takes =
      so_more n (n + 1) s'.device s'.host.inner (omega arith)
      (subst (λ (i : InnerValue). So n s'.device i) (sym (ap (λ (x : State PortValue). x.host.inner) takes.3))
      (so_took n s.device s'.device s.host.inner takes.0 takes.1 so))
  so_takes n s s' (Some true) alone within so takes =
      let reads = takes.4 in
      let i : InnerValue = s.host.inner in
      let j : InnerValue = reads.2.0.inner in
      let same : HasSameSettings i j = (receives_same PortMove reads.0 (record s { device = takes.1 }) s' reads.2).0 in
      let took : So n takes.1 i = so_took n s.device takes.1 i takes.0 takes.2 so in
      so_replied n (is_awaited reads.2.0) reads.2.0.reply (record { device = takes.1; inner = j; left = s.host.left })
      (record { device = s'.device; inner = s'.host.inner; left = s'.host.left })
      (same.host_requirements ∙ alone) within
      (brings_so i s.slots (whole_arrived i s.host.timeout s.host.assemblers reads.0) reads.2.0 reads.2.1.1) reads.2.3
      (so_host n takes.1 i j same.hardware same.mtu took)

  -- PIECES AND TURNS

  so_fragment_leaves : (n : ℕ) (l : LeftValue) (x x' : Sender PortValue) (gone : Bool) → n + 1 ≤ most → FragmentLeaves PortMove l x gone x' → x'.inner ≡ x.inner →
      So n x.device x.inner → So (n + 1) x'.device x'.inner
  so_fragment_leaves n l x x' gone within (inl stays) is so =
      subst (λ (i : InnerValue). So (n + 1) x'.device i) (sym is)
      (so_more n (n + 1) x'.device x.inner (omega arith) (so_same n x.device x'.device x.inner stays.0.0 so))
  so_fragment_leaves n l x x' gone within (inr goes) is so =
      subst (λ (i : InnerValue). So (n + 1) x'.device i) (sym is)
      (so_fragment n l gone goes.0 x'.device x.inner x'.left within goes.2 (so_same n x.device goes.0 x.inner goes.1.0 so))

  module _ (turn : Option IpAddress) (n : ℕ) (within : n + 1 ≤ most) (x x' : Sender PortValue) (alone : x.inner.host_requirements ≡ false)
      (so : So n x.device x.inner) where
    abbrev Next : Type 0
    Next = So (n + 1) x'.device x'.inner

    so_stays : x' ≡ x → Next
    so_stays is = so_more n (n + 1) x'.device x'.inner (omega arith) (subst (λ (y : Sender PortValue). So n y.device y.inner) (sym is) so)

    so_leaves : (m : Meta) (p : PacketValue) (sent : Sent) → IsMeasured p → Leaves PortMove turn x m p sent x' → Next
    so_leaves m p sent len (inl rests) =
        subst (λ (i : InnerValue). So (n + 1) x'.device i) (sym rests.2)
        (so_more n (n + 1) x'.device x.inner (omega arith) (so_same n x.device x'.device x.inner rests.1.0 so))
    so_leaves m p sent len (inr goes) =
        so_out n goes.0 x'.device x.inner x'.inner x.left x'.left p (is_some x.left) sent within len goes.2 (so_same n x.device goes.0 x.inner goes.1.0 so)

    so_sent : (o : Option PacketValue) (item item' : Item Socket) (changed : Bool) (turned : Served) →
        SendsBy PortMove turn o x item changed turned x' item' → Next
    so_sent None item item' changed turned sends = absurd sends
    so_sent (Some p) item item' changed turned sends =
        so_leaves item.meta sends.0 sends.3.0 sends.3.4.sendable.len (leaves_alone PortMove turn x x' item.meta sends.0 sends.3.0 alone sends.3.1)

    so_answers : (answer : Answer.Offer) (item item' : Item Socket) (turned : Served) → Answers PortMove turn answer x item turned x' item' → Next
    so_answers (Offer.Silent changed) item item' turned answers = so_stays answers.1
    so_answers (Offer.Packet changed) item item' turned answers = so_sent (offered_by item.socket) item item' changed turned answers

    so_turns : (waits : Bool) (item item' : Item Socket) (turned : Served) → TurnsIf PortMove turn waits x item turned x' item' → Next
    so_turns true item item' turned turns = so_stays turns.1
    so_turns false item item' turned turns = so_answers turns.0 (record item { socket = turns.1 }) item' turned turns.3

    so_item : (o o' : Option (Item Socket)) (turned : Served) → ItemTurns PortMove turn o x turned x' o' → Next
    so_item None None turned turns = so_stays turns.1
    so_item (Some item) (Some item') turned turns = so_turns (is_waiting x.inner item.meta) (let_through x.inner item) item' turned turns
    so_item None (Some item') turned turns = absurd turns
    so_item (Some item) None turned turns = absurd turns

    so_slot : (p p' : SocketStorage Socket) (turned : Served) → ServesSlot PortMove turn x p turned x' p' → Next
    so_slot p p' turned turns = so_item p.inner p'.inner turned turns

module _ (t : ℤ) (most refusals : ℕ) where
  -- within the count that was asked for
  abbrev Within : ℕ → State PortValue → Type 0
  Within n s = n ≤ most → Stocked most refusals n s.device s.host.inner

  before : (n : ℕ) → n + 1 ≤ most → n ≤ most
  before n within = omega (arith, within)

  counted : IsCountedAlone PortMove t Within
  counted = record {
    more = λ n m s up so within. so_more most refusals n m s.device s.host.inner up (so (omega (arith, up, within)));
    maintenance = λ n s so within. so_host most refusals n s.device s.host.inner (at_instant t s.host.inner) refl refl (so within);
    arrivals = λ n s s' answer runs so takes within. so_takes most refusals n s s' answer runs.2 within (so (before n within)) takes;
    fragments = λ n h ps x x' l gone runs is so leaves same within. so_fragment_leaves most refusals n l x x' gone within leaves same (so (before n within));
    turns = λ turn n h earlier after p p' x x' turned runs so turns within. so_slot most refusals turn n within x x' runs.2 (so (before n within)) p p' turned turns;
  }

  start : (d : PortValue) (i : InnerValue) → 576 ≤ i.mtu → link_room i.hardware + i.mtu ≤ d.size → most ≤ d.ready → d.link.refusals ≡ refusals →
      Stocked most refusals 0 d i
  start d i low fits ready none = record { low = low; fits = fits; ready = omega (arith, ready); none_refused = none }

-- a poll at a port with so many buffers that fit
pub none_refused : (t : ℤ) (budget : ℕ) (s s' : State PortValue) (changed : Bool) → s.host.inner.host_requirements ≡ false → 576 ≤ s.host.inner.mtu →
    link_room s.host.inner.hardware + s.host.inner.mtu ≤ s.device.size
    → budget * (length s.slots + 2) ≤ s.device.ready → Polls PortMove t budget s changed s' → s'.device.link.refusals ≡ s.device.link.refusals
none_refused t budget s s' changed alone low fits ready polls =
    let most : ℕ = budget * (length s.slots + 2) in
    let first : Within t most s.device.link.refusals 0 s =
    λ within. start t most s.device.link.refusals s.device s.host.inner low fits ready refl in
    let last : Stocked most s.device.link.refusals (0 + most) s'.device s'.host.inner =
    (polls_count_alone PortMove t (Within t most s.device.link.refusals) (counted t most s.device.link.refusals) budget 0 s s' changed alone first
    polls).0 (omega arith) in
    last.none_refused
