-- All that a poll asks of its device.
use Rattle.std.proofs.Common.{◌≡◌, ℕ, ◌+◌, ◌*◌, ◌≤◌, length, arith, ℤ, Bool, true, false, ◌&&◌, int_lt, inl, inr, List, [], ◌∷◌, Option, Some, None, is_some, refl}
use Rattle.std.proofs.Common.{sym, ap, ◌∙◌, subst}
use Rattle.net_base.specs.ChecksumCapabilities.{ChecksumCapabilities}
use Rattle.net_base.specs.Device.{Move, Took, Empty, Allowed}
use Rattle.ip_wire.specs.HardwareAddress.{HardwareAddress}
use Rattle.ip_wire.specs.IpAddress.{IpAddress}
use Rattle.ip_wire.specs.IpRepr.{IpRepr}
use Rattle.ip_wire.specs.IpRepr.TheVariants as Ip
use Rattle.ip_wire.specs.declared.arp.repr.ArpRepr.{ArpRepr}
use Rattle.iface_ingress.specs.Packet.{PacketValue}
use Rattle.iface_ingress.specs.Offer as Answer
use Rattle.iface_ingress.specs.Offer.TheVariants as Offer
use Rattle.iface_ingress.specs.Sockets.{offered_by}
use Rattle.iface_ingress.specs.Socket.{Socket}
use Rattle.iface_tables.specs.Inner.{InnerValue, at_instant, with_request, with_next_ident}
use Rattle.iface_egress.specs.declared.socket_meta.Meta.{Meta}
use Rattle.iface_egress.specs.declared.socket_set.Item.{Item}
use Rattle.iface_egress.specs.declared.socket_set.SocketStorage.{SocketStorage}
use Rattle.iface_egress.specs.Departure as Departures
use Rattle.iface_egress.specs.Departure.{Departure, frame_from, len_from, target_of}
use Rattle.iface_egress.specs.Emits.{Emits}
use Rattle.iface_egress.specs.Fragments.{LeftValue, departure_from}
use Rattle.iface_egress.specs.IsTransmitted.{IsTransmitted, FragmentIsTransmitted, Departs, Asked, WasSent, WasCut, numbered, cut_of, after_header}
use Rattle.iface_egress.specs.Plan.{plan_of}
use Rattle.iface_egress.specs.declared.frame.NeighborQuery.{NeighborQuery}
use Rattle.iface_egress.specs.declared.egress_path.Sent.{Sent}
use Rattle.iface_egress.specs.declared.egress_path.Sent.TheVariants as Outcome
use Rattle.iface_egress.proofs.Planned.{plan_cases, MayAsk}
use Rattle.iface_ingress.specs.Arrives as Replies
use Rattle.iface_ingress.specs.Arrives.{ReplyValue}
use Rattle.iface_ingress.specs.FragmentStored.{HasSameSettings}
use Rattle.interface.specs.Host.{Sender}
use Rattle.interface.specs.EgressPath.{FragmentLeaves}
use Rattle.iface_tables.specs.Inner.{with_packet_parked}
use Rattle.iface_egress.specs.Parked.{ServesParked, parks, sender_after}
use Rattle.interface.specs.Serve.{Leaves, LeavesIf, SendsBy, Answers, TurnsIf, ItemTurns, ServesSlot, is_waiting, let_through, plan_at}
use Rattle.interface.specs.declared.serve.Served.{Served}
use Rattle.interface.specs.State.{State}
use Rattle.interface.specs.Ingress.{AnswerGoes, Takes, Replied, is_awaited, would_solicit}
use Rattle.interface.specs.Polls.{Polls}
use Rattle.interface.proofs.Kept.{RunsAt, IsCounted}
use Rattle.interface.specs.Touches.{Touch, Looks, Leave, Sends, Traced, TracedAlone, Does, departed, sends_in, Silences, SilencesIf, second_after}
use Rattle.interface.specs.Used.{most_if, most_parked}
use Rattle.interface.proofs.Parked.{HasLeft, parked_go}
use Rattle.interface.proofs.SameHost.{is_transmitted_same}
use Rattle.interface.proofs.Runs.{receives_same}
use Rattle.interface.proofs.Count.{polls_count}
use Rattle.interface.proofs.Priced.{none_added}

module _ {D : Type 0} (moves : D → Move → D → Type 0) (t : ℤ) (d0 : D) (i0 : InnerValue) (n : ℕ) where
  -- so far, with `n` sends at most; and after one more at most
  abbrev By : ℕ → D → InnerValue → Type 0
  By m d i = Traced moves t m d0 i0 d i

  abbrev So : D → InnerValue → Type 0
  So d i = By n d i

  abbrev To : D → InnerValue → Type 0
  To d i = By (n + 1) d i

  pub so_more : (k m : ℕ) (d : D) (i : InnerValue) → k ≤ m → By k d i → By m d i
  so_more k m d i up so =
      let few = so.sends in
      record { touches = so.touches; path = so.path; sends = omega (arith, up, few); silence = so.silence; hardware = so.hardware; checksums = so.checksums; host_requirements = so.host_requirements }

  to_where : (d d' : D) (i i' : InnerValue) → d' ≡ d → i' ≡ i → To d i → To d' i'
  to_where d d' i i' device inner so = subst (λ (x : D). To x i') (sym device) (subst (To d) (sym inner) so)

  so_where : (d d' : D) (i i' : InnerValue) → d' ≡ d → i' ≡ i → So d i → To d' i'
  so_where d d' i i' device inner so = to_where d d' i i' device inner (so_more n (n + 1) d i (omega arith) so)

  -- a host with the same hardware address, checksums and silence
  pub so_host : (m : ℕ) (d : D) (i i' : InnerValue) → i'.hardware ≡ i.hardware → i'.checksums ≡ i.checksums →
      i'.host_requirements ≡ i.host_requirements → i'.neighbors.silent ≡ i.neighbors.silent → By m d i → By m d i'
  so_host m d i i' hardware checksums many silent so =
      record {
        touches = so.touches;
        path = so.path;
        sends = so.sends;
        silence = subst (SilencesIf i0.host_requirements t (departed so.touches) i0.neighbors.silent) (sym silent) so.silence;
        hardware = hardware ∙ so.hardware;
        checksums = checksums ∙ so.checksums;
        host_requirements = many ∙ so.host_requirements;
      }

  so_looks : (found : Option (List ℕ)) (d d' : D) (i : InnerValue) → Does moves t i0.hardware i0.checksums (Looks found) d d' → So d i → So d' i
  so_looks found d d' i does so =
      record {
        touches = Looks found ∷ so.touches;
        path = (d, so.path, does);
        sends = so.sends;
        silence = so.silence;
        hardware = so.hardware;
        checksums = so.checksums;
        host_requirements = so.host_requirements;
      }

  so_leave : (given : Bool) (d d' : D) (i : InnerValue) → i.instant ≡ t → moves d (Allowed i.instant given) d' → So d i → So d' i
  so_leave given d d' i now does so =
      record {
        touches = Leave given ∷ so.touches;
        path = (d, so.path, subst (λ (m : ℤ). moves d (Allowed m given) d') now does);
        sends = so.sends;
        silence = so.silence;
        hardware = so.hardware;
        checksums = so.checksums;
        host_requirements = so.host_requirements;
      }

  -- what a host sends is what the one that began sends
  as_begun : (x : Departure) (taken : Bool) (d d' : D) (i : InnerValue) → i.hardware ≡ i0.hardware → i.checksums ≡ i0.checksums → Departs moves d i x taken d' →
      Does moves t i0.hardware i0.checksums (Sends x taken) d d'
  as_begun x taken d d' i hardware checksums goes =
      subst (λ (local : HardwareAddress). Emits moves d (frame_from local i0.checksums x) (len_from local x) taken d') hardware
      (subst (λ (caps : ChecksumCapabilities). Emits moves d (frame_from i.hardware caps x) (len_from i.hardware x) taken d') checksums goes)

  abbrev SilencesBy : List Departure → ℤ → Type 0
  SilencesBy ds after = SilencesIf i0.host_requirements t ds i0.neighbors.silent after

  so_sends : (x : Departure) (taken : Bool) (d d' : D) (i i' : InnerValue) → Departs moves d i x taken d' → i'.hardware ≡ i.hardware →
      i'.checksums ≡ i.checksums → i'.host_requirements ≡ i.host_requirements
      → ((ts : List Touch) → SilencesBy (departed ts) i.neighbors.silent → SilencesBy (departed (Sends x taken ∷ ts)) i'.neighbors.silent) → So d i → To d' i'
  so_sends x taken d d' i i' goes hardware checksums many silence so =
      record {
        touches = Sends x taken ∷ so.touches;
        path = (d, so.path, as_begun x taken d d' i so.hardware so.checksums goes);
        sends = let few = so.sends in omega (arith, few);
        silence = silence so.touches so.silence;
        hardware = hardware ∙ so.hardware;
        checksums = checksums ∙ so.checksums;
        host_requirements = many ∙ so.host_requirements;
      }

  -- A PACKET'S WAY OUT

  so_refused : (x : Departure) (d d' : D) (i i' : InnerValue) → Departs moves d i x false d' → i' ≡ i → So d i → To d' i'
  so_refused x d d' i i' goes is so =
      to_where d' d' i i' refl is (so_sends x false d d' i i goes refl refl refl (λ ts silence. silence) so)

  so_told : (packet : ArpRepr) (taken : Bool) (d d' : D) (i : InnerValue) → Departs moves d i (Departures.Tells packet) taken d' → So d i → To d' i
  so_told packet true d d' i goes so = so_sends (Departures.Tells packet) true d d' i i goes refl refl refl (λ ts silence. silence) so
  so_told packet false d d' i goes so = so_refused (Departures.Tells packet) d d' i i goes refl so

  so_fragment : (l : LeftValue) (gone : Bool) (d d' : D) (i : InnerValue) (l' : Option LeftValue) → FragmentIsTransmitted moves d i l gone d' l' → So d i → To d' i
  so_fragment l true d d' i l' goes so = so_sends (departure_from i l) true d d' i i goes.0 refl refl refl (λ ts silence. silence) so
  so_fragment l false d d' i l' goes so = so_refused (departure_from i l) d d' i i goes.0 refl so

  so_asked : (q : NeighborQuery) (sent : Sent) (d d' : D) (i i' : InnerValue) → i.instant ≡ t → MayAsk i → Asked moves d i q sent d' i' → So d i → To d' i'
  so_asked q Outcome.Waits d d' i i' now may goes so =
      to_where d' d' (with_request i (target_of q)) i' refl goes.1
      (so_sends (Departures.Asks q) true d d' i (with_request i (target_of q)) goes.0 refl refl refl
      (λ ts silence. (i.neighbors.silent, silence, may_then, ap second_after now)) so) where
        may_then : i0.host_requirements ≡ false → int_lt t i.neighbors.silent ≡ false
        may_then alone = subst (λ (m : ℤ). int_lt m i.neighbors.silent ≡ false) now (may (so.host_requirements ∙ alone))
  so_asked q Outcome.Refused d d' i i' now may goes so = so_refused (Departures.Asks q) d d' i i' goes.0 goes.1 so
  so_asked q Outcome.Gone d d' i i' now may goes so = absurd goes
  so_asked q Outcome.Dropped d d' i i' now may goes so = absurd goes
  so_asked q Outcome.Busy d d' i i' now may goes so = absurd goes

  so_numbered : (h : IpRepr) (d : D) (i : InnerValue) → To d i → To d (after_header h i)
  so_numbered (Ip.Ipv4 v) d i so = so_host (n + 1) d i (with_next_ident i) refl refl refl refl so
  so_numbered (Ip.Ipv6 v) d i so = so

  so_was_sent : (to : HardwareAddress) (p : PacketValue) (sent : Sent) (d d' : D) (i i' : InnerValue) →
      WasSent moves d i p.header (Departures.Whole to (numbered i p)) sent d' i' → So d i → To d' i'
  so_was_sent to p Outcome.Gone d d' i i' goes so =
      to_where d' d' (after_header p.header i) i' refl goes.1
      (so_numbered p.header d' i (so_sends (Departures.Whole to (numbered i p)) true d d' i i goes.0 refl refl refl (λ ts silence. silence) so))
  so_was_sent to p Outcome.Refused d d' i i' goes so = so_refused (Departures.Whole to (numbered i p)) d d' i i' goes.0 goes.1 so
  so_was_sent to p Outcome.Waits d d' i i' goes so = absurd goes
  so_was_sent to p Outcome.Dropped d d' i i' goes so = absurd goes
  so_was_sent to p Outcome.Busy d d' i i' goes so = absurd goes

  so_cut : (c : LeftValue) (sent : Sent) (d d' : D) (i i' : InnerValue) (l l' : Option LeftValue) → WasCut moves d i l c sent d' i' l' → So d i → To d' i'
  so_cut c Outcome.Gone d d' i i' l l' goes so =
      to_where d' d' (with_next_ident i) i' refl goes.1
      (so_host (n + 1) d' i (with_next_ident i) refl refl refl refl (so_sends (departure_from i c) true d d' i i goes.0 refl refl refl (λ ts silence. silence) so))
  so_cut c Outcome.Refused d d' i i' l l' goes so = so_refused (departure_from i c) d d' i i' goes.0 goes.1 so
  so_cut c Outcome.Waits d d' i i' l l' goes so = absurd goes
  so_cut c Outcome.Dropped d d' i i' l l' goes so = absurd goes
  so_cut c Outcome.Busy d d' i i' l l' goes so = absurd goes

  so_out : (d d' : D) (i i' : InnerValue) (l l' : Option LeftValue) (p : PacketValue) (busy : Bool) (sent : Sent) → i.instant ≡ t →
      IsTransmitted moves d i l p (plan_of i busy p.header) sent d' i' l' → So d i → To d' i'
  so_out d d' i i' l l' p busy sent now =
      plan_cases i busy p.header (λ plan. IsTransmitted moves d i l p plan sent d' i' l' → So d i → To d' i')
      (λ goes so. so_where d d' i i' goes.1.0 goes.1.1 so)
      (λ goes so. so_where d d' i i' goes.1.0 goes.1.1 so)
      (λ goes so. so_where d d' i i' goes.1.0 goes.1.1 so)
      (λ goes so. so_where d d' i i' goes.1.0 goes.1.1 so)
      (λ q may from goes so. so_asked q sent d d' i i' now may goes.0 so)
      (λ to short goes so. so_was_sent to p sent d d' i i' goes.0 so)
      (λ to long short bare idle goes so. so_cut (cut_of i to p) sent d d' i i' l l' goes so)

  -- ARRIVALS

  -- with host requirements a packet may be parked
  so_parked : (m : ℕ) (b : Bool) (p : PacketValue) (x x' : Sender D) → x' ≡ sender_after b p x → By m x.device x.inner → By m x'.device x'.inner
  so_parked m true p x x' is so =
      subst (λ (y : Sender D). By m y.device y.inner) (sym is) (so_host m x.device x.inner (with_packet_parked x.inner p) refl refl refl refl so)
  so_parked m false p x x' is so = subst (λ (y : Sender D). By m y.device y.inner) (sym is) so

  so_answered : (many : Bool) (p : PacketValue) (kept_back : Bool) (x x' : Sender D) → x.inner.instant ≡ t → AnswerGoes moves many p kept_back x x' →
      So x.device x.inner → To x'.device x'.inner
  so_answered false p kept_back x x' now goes so =
      so_out x.device x'.device x.inner x'.inner x.left x'.left p (is_some x.left) goes.0 now goes.1 so
  so_answered true p kept_back x x' now goes so =
      let mid : Sender D = goes.1 in
      so_parked (n + 1) (parks mid.inner p (plan_of x.inner (is_some x.left) p.header) goes.0) p mid x' goes.3
      (so_out x.device mid.device x.inner mid.inner x.left mid.left p (is_some x.left) goes.0 now goes.2 so)

  so_replied : (awaited : Bool) (reply : Option ReplyValue) (x x' : Sender D) → x.inner.instant ≡ t → Replied moves awaited reply x x' → So x.device x.inner →
      To x'.device x'.inner
  so_replied awaited None x x' now is so =
      so_where x.device x'.device x.inner x'.inner (ap (λ (y : Sender D). y.device) is) (ap (λ (y : Sender D). y.inner) is) so
  so_replied awaited (Some (Replies.Tells packet)) x x' now tells so =
      to_where x'.device x'.device x.inner x'.inner refl tells.2 (so_told packet tells.0 x.device x'.device x.inner tells.1 so)
  so_replied awaited (Some (Replies.Answers p)) x x' now (inl held) so =
      so_where x.device x'.device x.inner x'.inner (ap (λ (y : Sender D). y.device) held.0) (ap (λ (y : Sender D). y.inner) held.0) so
  so_replied awaited (Some (Replies.Answers p)) x x' now (inr answers) so =
      so_answered x.inner.host_requirements p (awaited && would_solicit x p) x x' now answers so

  abbrev SoAt : State D → Type 0
  SoAt s = So s.device s.host.inner

  abbrev ToAt : State D → Type 0
  ToAt s = To s.device s.host.inner

  so_takes : (s s' : State D) (answer : Option Bool) → RunsAt t s.host.inner → SoAt s → Takes moves s answer s' → ToAt s'
  so_takes s s' None runs so takes =
      so_where s'.device s'.device s.host.inner s'.host.inner refl (ap (λ (x : State D). x.host.inner) takes.1)
      (so_looks None s.device s'.device s.host.inner (subst (λ (m : ℤ). moves s.device (Empty m) s'.device) runs.0 takes.0) so)
  so_takes s s' (Some false) runs so takes =
      so_where s'.device s'.device s.host.inner s'.host.inner refl (ap (λ (x : State D). x.host.inner) takes.3)
      (so_looks (Some takes.0) s.device s'.device s.host.inner (subst (λ (m : ℤ). moves s.device (Took m takes.0) s'.device) runs.0 takes.1) so)
  so_takes s s' (Some true) runs so takes =
      let reads = takes.4 in
      let i : InnerValue = s.host.inner in
      let j : InnerValue = reads.2.0.inner in
      let same : HasSameSettings i j = (receives_same moves reads.0 (record s { device = takes.1 }) s' reads.2).0 in
      let took : So takes.1 i = so_looks (Some takes.0) s.device takes.1 i (subst (λ (m : ℤ). moves s.device (Took m takes.0) takes.1) runs.0 takes.2) so in
      so_replied (is_awaited reads.2.0) reads.2.0.reply (record { device = takes.1; inner = j; left = s.host.left })
      (record { device = s'.device; inner = s'.host.inner; left = s'.host.left })
      (same.instant ∙ runs.0) reads.2.3 (so_host n takes.1 i j same.hardware same.checksums same.host_requirements same.silent took)

  -- THE WAY OUT

  so_fragment_leaves : (l : LeftValue) (x x' : Sender D) (gone : Bool) → x.inner.instant ≡ t → FragmentLeaves moves l x gone x' → x'.inner ≡ x.inner →
      So x.device x.inner → To x'.device x'.inner
  so_fragment_leaves l x x' gone now (inl stays) is so =
      so_where x'.device x'.device x.inner x'.inner refl is (so_leave false x.device x'.device x.inner now stays.0 so)
  so_fragment_leaves l x x' gone now (inr goes) is so =
      to_where x'.device x'.device x.inner x'.inner refl is
      (so_fragment l gone goes.0 x'.device x.inner x'.left goes.2 (so_leave true x.device goes.0 x.inner now goes.1 so))

  module _ (turn : Option IpAddress) (x x' : Sender D) (now : x.inner.instant ≡ t) (so : So x.device x.inner) where
    abbrev Next : Type 0
    Next = To x'.device x'.inner

    so_same : x' ≡ x → Next
    so_same is = so_where x.device x'.device x.inner x'.inner (ap (λ (y : Sender D). y.device) is) (ap (λ (y : Sender D). y.inner) is) so

    so_leaves : (y : Sender D) (m : Meta) (p : PacketValue) (sent : Sent) → Leaves moves turn x m p sent y → To y.device y.inner
    so_leaves y m p sent (inl rests) = so_where y.device y.device x.inner y.inner refl rests.2 (so_leave rests.0 x.device y.device x.inner now rests.1 so)
    so_leaves y m p sent (inr goes) =
        so_out goes.0 y.device x.inner y.inner x.left y.left p (is_some x.left) sent now goes.2 (so_leave true x.device goes.0 x.inner now goes.1 so)

    so_leaves_if : (many : Bool) (m : Meta) (p : PacketValue) (sent : Sent) → LeavesIf moves turn many x m p sent x' → Next
    so_leaves_if false m p sent goes = so_leaves x' m p sent goes
    so_leaves_if true m p sent goes =
        so_parked (n + 1) (parks goes.1.inner p (plan_at x p) goes.0) p goes.1 x' goes.4 (so_leaves goes.1 m p goes.0 goes.2)

    so_sent : (o : Option PacketValue) (item item' : Item Socket) (changed : Bool) (turned : Served) →
        SendsBy moves turn o x item changed turned x' item' → Next
    so_sent None item item' changed turned sends = absurd sends
    so_sent (Some p) item item' changed turned sends = so_leaves_if x.inner.host_requirements item.meta sends.0 sends.3.0 sends.3.1

    so_answers : (answer : Answer.Offer) (item item' : Item Socket) (turned : Served) → Answers moves turn answer x item turned x' item' → Next
    so_answers (Offer.Silent changed) item item' turned answers = so_same answers.1
    so_answers (Offer.Packet changed) item item' turned answers = so_sent (offered_by item.socket) item item' changed turned answers

    so_turns : (waits : Bool) (item item' : Item Socket) (turned : Served) → TurnsIf moves turn waits x item turned x' item' → Next
    so_turns true item item' turned turns = so_same turns.1
    so_turns false item item' turned turns = so_answers turns.0 (record item { socket = turns.1 }) item' turned turns.3

    so_item : (o o' : Option (Item Socket)) (turned : Served) → ItemTurns moves turn o x turned x' o' → Next
    so_item None None turned turns = so_same turns.1
    so_item (Some item) (Some item') turned turns = so_turns (is_waiting x.inner item.meta) (let_through x.inner item) item' turned turns
    so_item None (Some item') turned turns = absurd turns
    so_item (Some item) None turned turns = absurd turns

    so_slot : (p p' : SocketStorage Socket) (turned : Served) → ServesSlot moves turn x p turned x' p' → Next
    so_slot p p' turned turns = so_item p.inner p'.inner turned turns

-- PACKETS THAT WAIT

module _ {D : Type 0} (moves : D → Move → D → Type 0) (t : ℤ) (d0 : D) (i0 : InnerValue) where
  -- so many sends, at an instant
  record Within (n : ℕ) (x : Sender D) : Type 0 where
    now : x.inner.instant ≡ t
    so : Traced moves t n d0 i0 x.device x.inner

  left_within : (n : ℕ) (x x' : Sender D) (p : PacketValue) (sent : Sent) → Within n x → HasLeft moves x p sent x' → Within (n + 1) x'
  left_within n x x' p sent w (inl stays) =
      subst (Within (n + 1)) (sym stays) (record { now = w.now; so = so_more moves t d0 i0 n n (n + 1) x.device x.inner (omega arith) w.so })
  left_within n x x' p sent w (inr (inl refused)) = record {
    now = ap (λ (i : InnerValue). i.instant) refused.1 ∙ w.now;
    so = so_where moves t d0 i0 n x'.device x'.device x.inner x'.inner refl refused.1 (so_leave moves t d0 i0 n false x.device x'.device x.inner w.now refused.0 w.so);
  }
  left_within n x x' p sent w (inr (inr goes)) = record {
    now = ap (λ (i : InnerValue). i.instant) (is_transmitted_same moves goes.0 x'.device x.inner x'.inner x.left x'.left p (is_some x.left) sent goes.2) ∙ w.now;
    so = so_out moves t d0 i0 n goes.0 x'.device x.inner x'.inner x.left x'.left p (is_some x.left) sent w.now goes.2
        (so_leave moves t d0 i0 n true x.device goes.0 x.inner w.now goes.1 w.so);
  }

  parked_within : (n : ℕ) (x x' : Sender D) (all : Bool) → Within n x → ServesParked moves x all x' → Within (n + length x.inner.parking.packets) x'
  parked_within n x x' all w serves =
      parked_go moves Within
      (λ k m y up holds. record { now = holds.now; so = so_more moves t d0 i0 k k m y.device y.inner up holds.so })
      (λ k y y' p sent holds left. left_within k y y' p sent holds left)
      (λ k y parking holds. record {
        now = holds.now;
        so = so_host moves t d0 i0 k k y.device y.inner (record y.inner { parking = parking }) refl refl refl refl holds.so;
      }) n x x' all w serves

  abbrev Trace : ℕ → State D → Type 0
  Trace n s = Traced moves t n d0 i0 s.device s.host.inner

  traced : IsCounted moves t Trace
  traced = record {
    more = λ n m s up so. so_more moves t d0 i0 n n m s.device s.host.inner up so;
    maintenance = λ n s so. so_host moves t d0 i0 n n s.device s.host.inner (at_instant t s.host.inner) refl refl refl refl so;
    arrivals = λ n s s' answer runs so takes. so_takes moves t d0 i0 n s s' answer runs so takes;
    fragments = λ n h ps x x' l gone runs is so leaves same. so_fragment_leaves moves t d0 i0 n l x x' gone runs.0 leaves same so;
    parked = λ n h ps x x' all runs many so serves. (parked_within n x x' all (record { now = runs.0; so = so }) serves).so;
    turns = λ turn n h before after p p' x x' turned runs so turns. so_slot moves t d0 i0 n turn x x' runs.0 so p p' turned turns;
  }

pub polls_traced : {D : Type 0} (moves : D → Move → D → Type 0) (t : ℤ) (budget : ℕ) (s s' : State D) (changed : Bool) → Polls moves t budget s changed s'
    → Traced moves t (budget * (most_parked s.host.inner + (length s.slots + 2))) s.device s.host.inner s'.device s'.host.inner
polls_traced {D} moves t budget s s' changed polls =
    let start : Traced moves t 0 s.device s.host.inner s.device s.host.inner =
    record { touches = []; path = refl; sends = omega arith; silence = refl; hardware = refl; checksums = refl; host_requirements = refl } in
    let most : ℕ = budget * (most_parked s.host.inner + (length s.slots + 2)) in
    so_more moves t s.device s.host.inner 0 (0 + most) most s'.device s'.host.inner (omega arith)
    (polls_count moves t (Trace moves t s.device s.host.inner) (traced moves t s.device s.host.inner) budget 0 s s' changed start polls).0

-- WITHOUT HOST REQUIREMENTS

pub one_silence : (t : ℤ) (ds : List Departure) (before after : ℤ) → SilencesIf false t ds before after → Silences t ds before after
one_silence t [] before after is = is
one_silence t (Departures.Asks q ∷ ds) before after is = (is.0, one_silence t ds before is.0 is.1, is.2 refl, is.3)
one_silence t (Departures.Tells packet ∷ ds) before after is = one_silence t ds before after is
one_silence t (Departures.Whole to p ∷ ds) before after is = one_silence t ds before after is
one_silence t (Departures.Part to header fragment ∷ ds) before after is = one_silence t ds before after is

pub polls_traced_alone : {D : Type 0} (moves : D → Move → D → Type 0) (t : ℤ) (budget : ℕ) (s s' : State D) (changed : Bool)
    → s.host.inner.host_requirements ≡ false → Polls moves t budget s changed s'
    → TracedAlone moves t (budget * (length s.slots + 2)) s.device s.host.inner s'.device s'.host.inner
polls_traced_alone moves t budget s s' changed alone polls =
    let all = polls_traced moves t budget s s' changed polls in
    record {
      touches = all.touches;
      path = all.path;
      sends = subst (λ (n : ℕ). sends_in all.touches ≤ budget * n) (none_added (length s.slots + 2))
          (subst (λ (many : Bool). sends_in all.touches ≤ budget * (most_if many (length s.host.inner.parking.packets) + (length s.slots + 2))) alone all.sends);
      silence = one_silence t (departed all.touches) s.host.inner.neighbors.silent s'.host.inner.neighbors.silent
          (subst (λ (many : Bool). SilencesIf many t (departed all.touches) s.host.inner.neighbors.silent s'.host.inner.neighbors.silent) alone all.silence);
      hardware = all.hardware;
      checksums = all.checksums;
    }
