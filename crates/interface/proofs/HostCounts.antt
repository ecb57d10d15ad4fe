-- A count that is said of a host's addresses and tables alone, and that each packet's egress path raises by one at most.
use Rattle.std.proofs.Common.{◌≡◌, ℕ, ◌+◌, ◌≤◌, arith, Bool, true, false, inl, inr, Option, Some, None, is_some, refl, sym, ap, ◌∙◌, subst}
use Rattle.std.specs.Prelude.{ℤ}
use Rattle.net_base.specs.Device.{Move}
use Rattle.ip_wire.specs.IpRepr.{IpRepr}
use Rattle.ip_wire.specs.IpAddress.{IpAddress}
use Rattle.iface_ingress.specs.Packet.{PacketValue}
use Rattle.iface_ingress.specs.Offer as Answer
use Rattle.iface_ingress.specs.Offer.TheVariants as Offer
use Rattle.iface_ingress.specs.Sockets.{offered_by}
use Rattle.iface_ingress.specs.Socket.{Socket}
use Rattle.iface_tables.specs.Inner.{InnerValue, at_instant}
use Rattle.iface_egress.specs.Departing.{host_after}
use Rattle.iface_egress.specs.Fragments.{LeftValue}
use Rattle.iface_egress.specs.IsTransmitted.{IsTransmitted}
use Rattle.iface_egress.specs.Plan.{plan_of}
use Rattle.iface_egress.specs.declared.plan.Plan.{Plan}
use Rattle.iface_egress.specs.declared.socket_meta.Meta.{Meta}
use Rattle.iface_egress.specs.declared.socket_set.Item.{Item}
use Rattle.iface_egress.specs.declared.egress_path.Sent.{Sent}
use Rattle.iface_tables.specs.Inner.{with_packet_parked}
use Rattle.iface_tables.specs.Parking.{ParkingValue}
use Rattle.iface_egress.specs.Parked.{parks, sender_after}
use Rattle.iface_egress.proofs.Changes.{changes}
use Rattle.iface_ingress.specs.Arrives as Replies
use Rattle.iface_ingress.specs.Arrives.{ReplyValue}
use Rattle.iface_ingress.specs.FragmentStored.{HasSameSettings}
use Rattle.interface.specs.Host.{Sender}
use Rattle.interface.specs.Ingress.{AnswerGoes, Takes, Replied, is_awaited, sender_of, sender_with}
use Rattle.interface.specs.State.{State}
use Rattle.interface.specs.Serve.{Leaves, LeavesIf, SendsBy, Answers, TurnsIf, ItemTurns, is_waiting, let_through, plan_at}
use Rattle.interface.specs.declared.serve.Served.{Served}
use Rattle.interface.proofs.Kept.{IsPriced}
use Rattle.interface.proofs.Parked.{HasLeft, parked_go}
use Rattle.interface.proofs.SameHost.{is_transmitted_same, leaves_same, same_flag}
use Rattle.interface.proofs.Runs.{receives_same}

-- what is asked of the count
pub record IsHostCount (t : ℤ) (Q : ℕ → InnerValue → Type 0) : Type 0 where
  pub more : (n m : ℕ) (i : InnerValue) → n ≤ m → Q n i → Q m i
  pub begins : (n : ℕ) (i : InnerValue) → Q n i → Q n (at_instant t i)
  pub arrives : (n : ℕ) (i i' : InnerValue) → HasSameSettings i i' → Q n i → Q n i'
  pub goes : (n : ℕ) (i i' : InnerValue) (plan : Plan) (sent : Sent) (h : IpRepr) → i' ≡ host_after plan sent h i → Q n i → Q (n + 1) i'
  pub parks : (n : ℕ) (i : InnerValue) (p : PacketValue) → i.host_requirements ≡ true → Q n i → Q n (with_packet_parked i p)

module _ {D : Type 0} (moves : D → Move → D → Type 0) (t : ℤ) (Q : ℕ → InnerValue → Type 0) (kept : IsHostCount t Q) (n : ℕ) where
  still : (i i' : InnerValue) → i' ≡ i → Q n i → Q (n + 1) i'
  still i i' is so = kept.more n (n + 1) i' (omega arith) (subst (Q n) (sym is) so)

  out : (d d' : D) (i i' : InnerValue) (l l' : Option LeftValue) (p : PacketValue) (busy : Bool) (sent : Sent) →
      IsTransmitted moves d i l p (plan_of i busy p.header) sent d' i' l' → Q n i → Q (n + 1) i'
  out d d' i i' l l' p busy sent goes so = kept.goes n i i' (plan_of i busy p.header) sent p.header (changes moves d d' i i' l l' p busy sent goes).1 so

  -- with host requirements a packet may be parked
  parked_or_not : (m : ℕ) (b : Bool) (x x' : Sender D) (p : PacketValue) → x.inner.host_requirements ≡ true → x' ≡ sender_after b p x → Q m x.inner →
      Q m x'.inner
  parked_or_not m true x x' p many is so = subst (λ (y : Sender D). Q m y.inner) (sym is) (kept.parks m x.inner p many so)
  parked_or_not m false x x' p many is so = subst (λ (y : Sender D). Q m y.inner) (sym is) so

  -- ARRIVALS

  answered : (many : Bool) (p : PacketValue) (kept_back : Bool) (x x' : Sender D) → x.inner.host_requirements ≡ many → AnswerGoes moves many p kept_back x x' →
      Q n x.inner → Q (n + 1) x'.inner
  answered false p kept_back x x' is goes so = out x.device x'.device x.inner x'.inner x.left x'.left p (is_some x.left) goes.0 goes.1 so
  answered true p kept_back x x' is goes so =
      let mid : Sender D = goes.1 in
      let same = is_transmitted_same moves x.device mid.device x.inner mid.inner x.left mid.left p (is_some x.left) goes.0 goes.2 in
      parked_or_not (n + 1) (parks mid.inner p (plan_of x.inner (is_some x.left) p.header) goes.0) mid x' p (same_flag x.inner mid.inner same ∙ is) goes.3
      (out x.device mid.device x.inner mid.inner x.left mid.left p (is_some x.left) goes.0 goes.2 so)

  replied : (awaited : Bool) (reply : Option ReplyValue) (x x' : Sender D) → Replied moves awaited reply x x' → Q n x.inner → Q (n + 1) x'.inner
  replied awaited None x x' is so = still x.inner x'.inner (ap (λ (y : Sender D). y.inner) is) so
  replied awaited (Some (Replies.Tells packet)) x x' tells so = still x.inner x'.inner tells.2 so
  replied awaited (Some (Replies.Answers p)) x x' (inl held) so = still x.inner x'.inner (ap (λ (y : Sender D). y.inner) held.0) so
  replied awaited (Some (Replies.Answers p)) x x' (inr answers) so = answered x.inner.host_requirements p _ x x' refl answers so

  pub takes_count : (s s' : State D) (answer : Option Bool) → Q n s.host.inner → Takes moves s answer s' → Q (n + 1) s'.host.inner
  takes_count s s' None so takes = still s.host.inner s'.host.inner (ap (λ (x : State D). x.host.inner) takes.1) so
  takes_count s s' (Some false) so takes = still s.host.inner s'.host.inner (ap (λ (x : State D). x.host.inner) takes.3) so
  takes_count s s' (Some true) so takes =
      let reads = takes.4 in
      let receives = reads.2 in
      let at : State D = record s { device = takes.1 } in
      replied (is_awaited receives.0) receives.0.reply (sender_with moves at receives.0) (sender_of moves s') receives.3
      (kept.arrives n s.host.inner receives.0.inner (receives_same moves reads.0 at s' receives).0 so)

  -- TURNS

  module _ (turn : Option IpAddress) (x x' : Sender D) (so : Q n x.inner) where
    abbrev Next : Type 0
    Next = Q (n + 1) x'.inner

    rests : x' ≡ x → Next
    rests is = still x.inner x'.inner (ap (λ (y : Sender D). y.inner) is) so

    leaves : (y : Sender D) (m : Meta) (p : PacketValue) (sent : Sent) → Leaves moves turn x m p sent y → Q (n + 1) y.inner
    leaves y m p sent (inl rests) = still x.inner y.inner rests.2 so
    leaves y m p sent (inr goes) = out goes.0 y.device x.inner y.inner x.left y.left p (is_some x.left) sent goes.2 so

    leaves_if : (many : Bool) (m : Meta) (p : PacketValue) (sent : Sent) → x.inner.host_requirements ≡ many → LeavesIf moves turn many x m p sent x' → Next
    leaves_if false m p sent is goes = leaves x' m p sent goes
    leaves_if true m p sent is goes =
        let mid : Sender D = goes.1 in
        parked_or_not (n + 1) (parks mid.inner p (plan_at x p) goes.0) mid x' p
        (same_flag x.inner mid.inner (leaves_same moves turn x mid m p goes.0 goes.2) ∙ is) goes.4 (leaves mid m p goes.0 goes.2)

    offers : (o : Option PacketValue) (item item' : Item Socket) (changed : Bool) (turned : Served) → SendsBy moves turn o x item changed turned x' item' → Next
    offers None item item' changed turned sends = absurd sends
    offers (Some p) item item' changed turned sends = leaves_if x.inner.host_requirements item.meta sends.0 sends.3.0 refl sends.3.1

    answers : (answer : Answer.Offer) (item item' : Item Socket) (turned : Served) → Answers moves turn answer x item turned x' item' → Next
    answers (Offer.Silent changed) item item' turned is = rests is.1
    answers (Offer.Packet changed) item item' turned is = offers (offered_by item.socket) item item' changed turned is

    asked : (waits : Bool) (item item' : Item Socket) (turned : Served) → TurnsIf moves turn waits x item turned x' item' → Next
    asked true item item' turned turns = rests turns.1
    asked false item item' turned turns = answers turns.0 (record item { socket = turns.1 }) item' turned turns.3

    pub turns_count : (o o' : Option (Item Socket)) (turned : Served) → ItemTurns moves turn o x turned x' o' → Next
    turns_count None None turned turns = rests turns.1
    turns_count (Some item) (Some item') turned turns = asked (is_waiting x.inner item.meta) (let_through x.inner item) item' turned turns
    turns_count None (Some item') turned turns = absurd turns
    turns_count (Some item) None turned turns = absurd turns

-- of which what is parked is no part
abbrev pub IsOfNoParking : (ℕ → InnerValue → Type 0) → Type 0
IsOfNoParking Q = (n : ℕ) (i : InnerValue) (k : ParkingValue) → Q n i → Q n (record i { parking = k })

module _ {D : Type 0} (moves : D → Move → D → Type 0) (t : ℤ) (Q : ℕ → InnerValue → Type 0) (kept : IsHostCount t Q) where
  left_counts : (n : ℕ) (x x' : Sender D) (p : PacketValue) (sent : Sent) → Q n x.inner → HasLeft moves x p sent x' → Q (n + 1) x'.inner
  left_counts n x x' p sent so (inl stays) = still moves t Q kept n x.inner x'.inner (ap (λ (y : Sender D). y.inner) stays) so
  left_counts n x x' p sent so (inr (inl refused)) = still moves t Q kept n x.inner x'.inner refused.1 so
  left_counts n x x' p sent so (inr (inr goes)) =
      out moves t Q kept n goes.0 x'.device x.inner x'.inner x.left x'.left p (is_some x.left) sent goes.2 so

-- a fragment has its number already
pub hosts_priced : {D : Type 0} (moves : D → Move → D → Type 0) (t : ℤ) (Q : ℕ → InnerValue → Type 0) → IsHostCount t Q → IsOfNoParking Q →
    IsPriced moves t 0 (λ (n : ℕ) (s : State D). Q n s.host.inner)
hosts_priced {D} moves t Q kept parking = record {
  more = λ n m s up so. kept.more n m s.host.inner up so;
  maintenance = λ n s so. kept.begins n s.host.inner so;
  arrivals = λ n s s' answer runs so takes. takes_count moves t Q kept n s s' answer so takes;
  fragments = λ n h ps x x' l gone runs is so leaves same. kept.more n (n + 0) x'.inner (omega arith) (subst (Q n) (sym same) so);
  parked = λ n h ps x x' all runs many so serves.
      parked_go moves (λ (m : ℕ) (y : Sender D). Q m y.inner) (λ m k y up holds. kept.more m k y.inner up holds)
      (λ m y y' p sent holds left. left_counts moves t Q kept m y y' p sent holds left) (λ m y k holds. parking m y.inner k holds) n x x' all so serves;
  turns = λ turn n h before after p p' x x' turned used runs so turns. turns_count moves t Q kept n turn x x' so p.inner p'.inner turned turns;
}
