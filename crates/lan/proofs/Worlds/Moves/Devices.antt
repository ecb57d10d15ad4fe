-- What each move of a device keeps of it is kept by each thing that a poll does.
use Rattle.std.proofs.Common.{◌≡◌, ℕ, Bool, true, false, ◌&&◌, inl, inr, List, Option, Some, None, is_some, sym, ap, subst}
use Rattle.net_base.specs.Device.{Move, Took, Empty, Allowed, Emitted, Denied}
use Rattle.ip_wire.specs.IpAddress.{IpAddress}
use Rattle.ip_wire.specs.IpRepr.{IpRepr}
use Rattle.sockets.specs.Offer as Answer
use Rattle.sockets.specs.Offer.TheVariants as Offer
use Rattle.sockets.specs.Packet.{PacketValue}
use Rattle.sockets.specs.Socket.{offered_by}
use Rattle.sockets.specs.declared.socket.Socket.{Socket}
use Rattle.iface_egress.specs.Inner.{InnerValue}
use Rattle.iface_egress.specs.Departure as Departures
use Rattle.iface_egress.specs.Departure.{Departure}
use Rattle.iface_egress.specs.Emits.{Emits}
use Rattle.iface_egress.specs.Fragments.{LeftValue}
use Rattle.iface_egress.specs.IsTransmitted.{IsTransmitted, FragmentIsTransmitted, Asked, WasSent, WasCut, cut_of, numbered, frame_of, frame_len_of}
use Rattle.iface_egress.specs.Plan.{plan_of}
use Rattle.iface_egress.specs.declared.frame.NeighborQuery.{NeighborQuery}
use Rattle.iface_egress.specs.declared.plan.Plan.{Plan}
use Rattle.iface_egress.specs.declared.plan.Plan.TheVariants as Way
use Rattle.iface_egress.specs.declared.socket_meta.Meta.{Meta}
use Rattle.iface_egress.specs.declared.socket_set.Item.{Item}
use Rattle.iface_egress.specs.declared.socket_set.SocketStorage.{SocketStorage}
use Rattle.iface_egress.specs.declared.egress_path.Sent.{Sent}
use Rattle.iface_egress.specs.declared.egress_path.Sent.TheVariants as Outcome
use Rattle.iface_ingress.specs.Arrives as Replies
use Rattle.iface_ingress.specs.Arrives.{ReplyValue}
use Rattle.interface.specs.Host.{Sender}
use Rattle.interface.specs.Ingress.{AnswerGoes, Takes, Replied, is_awaited, sender_of, would_solicit}
use Rattle.interface.specs.State.{State}
use Rattle.interface.specs.Serve.{Leaves, LeavesIf, SendsBy, Answers, TurnsIf, ItemTurns, ServesSlot, is_waiting, let_through}
use Rattle.interface.specs.EgressPath.{FragmentLeaves}
use Rattle.interface.specs.declared.serve.Served.{Served}
use Rattle.interface.proofs.Parked.{HasLeft, parked_keep}
use Rattle.iface_egress.specs.Parked.{ServesParked}
use Rattle.lan.proofs.Worlds.Moves.Frames.{IsNoTake}

module _ {D : Type 0} (moves : D → Move → D → Type 0) (Q : D → Type 0) (keeps : (d d' : D) (m : Move) → IsNoTake m → moves d m d' → Q d → Q d') where
  pub same : (d d' : D) → d' ≡ d → Q d → Q d'
  same d d' is holds = subst Q (sym is) holds

  -- A FRAME GOES, OR IS REFUSED

  emits : (d d' : D) (frame : List ℕ) (len : ℕ) (gone : Bool) → Emits moves d frame len gone d' → Q d → Q d'
  emits d d' frame len true is holds = keeps d d' (Emitted frame) tt is.0 holds
  emits d d' frame len false is holds = keeps d d' (Denied len) tt is holds

  asked : (d d' : D) (i i' : InnerValue) (q : NeighborQuery) (sent : Sent) → Asked moves d i q sent d' i' → Q d → Q d'
  asked d d' i i' q Outcome.Waits is holds = keeps d d' (Emitted _) tt is.0.0 holds
  asked d d' i i' q Outcome.Refused is holds = keeps d d' (Denied _) tt is.0 holds
  asked d d' i i' q Outcome.Gone is holds = absurd is
  asked d d' i i' q Outcome.Dropped is holds = absurd is
  asked d d' i i' q Outcome.Busy is holds = absurd is

  was_sent : (d d' : D) (i i' : InnerValue) (header : IpRepr) (p : Departure) (sent : Sent) → WasSent moves d i header p sent d' i' → Q d → Q d'
  was_sent d d' i i' header p Outcome.Gone is holds = keeps d d' (Emitted _) tt is.0.0 holds
  was_sent d d' i i' header p Outcome.Refused is holds = keeps d d' (Denied _) tt is.0 holds
  was_sent d d' i i' header p Outcome.Waits is holds = absurd is
  was_sent d d' i i' header p Outcome.Dropped is holds = absurd is
  was_sent d d' i i' header p Outcome.Busy is holds = absurd is

  was_cut : (d d' : D) (i i' : InnerValue) (l l' : Option LeftValue) (c : LeftValue) (sent : Sent) → WasCut moves d i l c sent d' i' l' → Q d → Q d'
  was_cut d d' i i' l l' c Outcome.Gone is holds = keeps d d' (Emitted _) tt is.0.0 holds
  was_cut d d' i i' l l' c Outcome.Refused is holds = keeps d d' (Denied _) tt is.0 holds
  was_cut d d' i i' l l' c Outcome.Waits is holds = absurd is
  was_cut d d' i i' l l' c Outcome.Dropped is holds = absurd is
  was_cut d d' i i' l l' c Outcome.Busy is holds = absurd is

  goes : (d d' : D) (i i' : InnerValue) (l l' : Option LeftValue) (p : PacketValue) (plan : Plan) (sent : Sent) → IsTransmitted moves d i l p plan sent d' i' l' →
      Q d → Q d'
  goes d d' i i' l l' p Way.Drop sent is holds = same d d' is.1.0 holds
  goes d d' i i' l l' p Way.NoRoute sent is holds = same d d' is.1.0 holds
  goes d d' i i' l l' p Way.Wait sent is holds = same d d' is.1.0 holds
  goes d d' i i' l l' p Way.Busy sent is holds = same d d' is.1.0 holds
  goes d d' i i' l l' p (Way.Ask q) sent is holds = asked d d' i i' q sent is.0 holds
  goes d d' i i' l l' p (Way.Go to) sent is holds = was_sent d d' i i' p.header (Departures.Whole to (numbered i p)) sent is.0 holds
  goes d d' i i' l l' p (Way.Cut to) sent is holds = was_cut d d' i i' l l' (cut_of i to p) sent is holds

  fragment_goes : (d d' : D) (i : InnerValue) (l : LeftValue) (gone : Bool) (l' : Option LeftValue) → FragmentIsTransmitted moves d i l gone d' l' → Q d → Q d'
  fragment_goes d d' i l true l' is holds = keeps d d' (Emitted _) tt is.0.0 holds
  fragment_goes d d' i l false l' is holds = keeps d d' (Denied _) tt is.0 holds

  pub fragment_leaves : (l : LeftValue) (x x' : Sender D) (gone : Bool) → FragmentLeaves moves l x gone x' → Q x.device → Q x'.device
  fragment_leaves l x x' gone (inl stays) holds = keeps x.device x'.device (Allowed x.inner.instant false) tt stays.0 holds
  fragment_leaves l x x' gone (inr (mid, leave, out)) holds =
      fragment_goes mid x'.device x.inner l gone x'.left out (keeps x.device mid (Allowed x.inner.instant true) tt leave holds)

  -- A FRAME COMES

  answered : (many : Bool) (p : PacketValue) (kept_back : Bool) (x x' : Sender D) → AnswerGoes moves many p kept_back x x' → Q x.device → Q x'.device
  answered false p kept_back x x' is holds =
      goes x.device x'.device x.inner x'.inner x.left x'.left p (plan_of x.inner (is_some x.left) p.header) is.0 is.1 holds
  answered true p kept_back x x' is holds =
      subst (λ (y : Sender D). Q y.device) (sym is.3)
      (goes x.device is.1.device x.inner is.1.inner x.left is.1.left p (plan_of x.inner (is_some x.left) p.header) is.0 is.2 holds)

  replied : (awaited : Bool) (reply : Option ReplyValue) (x x' : Sender D) → Replied moves awaited reply x x' → Q x.device → Q x'.device
  replied awaited None x x' is holds = same x.device x'.device (ap (λ (y : Sender D). y.device) is) holds
  replied awaited (Some (Replies.Tells packet)) x x' is holds =
      emits x.device x'.device (frame_of x.inner (Departures.Tells packet)) (frame_len_of x.inner (Departures.Tells packet)) is.0 is.1 holds
  replied awaited (Some (Replies.Answers p)) x x' (inl held) holds = same x.device x'.device (ap (λ (y : Sender D). y.device) held.0) holds
  replied awaited (Some (Replies.Answers p)) x x' (inr answers) holds =
      answered x.inner.host_requirements p (awaited && would_solicit x p) x x' answers holds

  -- from where it was taken
  pub reads : (s s' : State D) (is : Takes moves s (Some true) s') → Q is.1 → Q s'.device
  reads s s' (frame, mid, took, read, (content, so, receives, hears)) holds =
      replied (is_awaited receives.0) receives.0.reply (record { device = mid; inner = receives.0.inner; left = s.host.left }) (sender_of moves s') receives.3 holds

  -- A TURN

  module _ (turn : Option IpAddress) (x x' : Sender D) (holds : Q x.device) where
    pub leaves : (m : Meta) (p : PacketValue) (sent : Sent) → Leaves moves turn x m p sent x' → Q x'.device
    leaves m p sent (inl rests) = keeps x.device x'.device (Allowed x.inner.instant rests.0) tt rests.1 holds
    leaves m p sent (inr (mid, leave, out, free)) =
        goes mid x'.device x.inner x'.inner x.left x'.left p (plan_of x.inner (is_some x.left) p.header) sent out
        (keeps x.device mid (Allowed x.inner.instant true) tt leave holds)

  -- PACKETS THAT WAIT for their next hops

  left_parked : (x x' : Sender D) (p : PacketValue) (sent : Sent) → Q x.device → HasLeft moves x p sent x' → Q x'.device
  left_parked x x' p sent holds (inl is) = same x.device x'.device (ap (λ (y : Sender D). y.device) is) holds
  left_parked x x' p sent holds (inr (inl stays)) = keeps x.device x'.device (Allowed x.inner.instant false) tt stays.0 holds
  left_parked x x' p sent holds (inr (inr (mid, leave, out))) =
      goes mid x'.device x.inner x'.inner x.left x'.left p (plan_of x.inner (is_some x.left) p.header) sent out
      (keeps x.device mid (Allowed x.inner.instant true) tt leave holds)

  pub parked : (x x' : Sender D) (all : Bool) → Q x.device → ServesParked moves x all x' → Q x'.device
  parked x x' all holds serves =
      parked_keep moves (λ (y : Sender D). Q y.device) left_parked (λ y k so. so) x x' all holds serves

  module _ (turn : Option IpAddress) (x x' : Sender D) (holds : Q x.device) where
    leaves_if : (many : Bool) (m : Meta) (p : PacketValue) (sent : Sent) → LeavesIf moves turn many x m p sent x' → Q x'.device
    leaves_if false m p sent is = leaves turn x x' holds m p sent is
    leaves_if true m p sent is = subst (λ (y : Sender D). Q y.device) (sym is.4) (leaves turn x is.1 holds m p is.0 is.2)

    unmoved : x' ≡ x → Q x'.device
    unmoved is = same x.device x'.device (ap (λ (y : Sender D). y.device) is) holds

    sends : (o : Option PacketValue) (item item' : Item Socket) (changed : Bool) (turned : Served) → SendsBy moves turn o x item changed turned x' item' →
        Q x'.device
    sends None item item' changed turned is = absurd is
    sends (Some p) item item' changed turned is = leaves_if x.inner.host_requirements item.meta is.0 is.3.0 is.3.1

    answers : (answer : Answer.Offer) (item item' : Item Socket) (turned : Served) → Answers moves turn answer x item turned x' item' → Q x'.device
    answers (Offer.Silent changed) item item' turned is = unmoved is.1
    answers (Offer.Packet changed) item item' turned is = sends (offered_by item.socket) item item' changed turned is

    turns : (waits : Bool) (item item' : Item Socket) (turned : Served) → TurnsIf moves turn waits x item turned x' item' → Q x'.device
    turns true item item' turned is = unmoved is.1
    turns false item item' turned (answer, offered, offers, is) = answers answer (record item { socket = offered }) item' turned is

    items : (o o' : Option (Item Socket)) (turned : Served) → ItemTurns moves turn o x turned x' o' → Q x'.device
    items None None turned is = unmoved is.1
    items (Some item) (Some item') turned is = turns (is_waiting x.inner item.meta) (let_through x.inner item) item' turned is
    items None (Some item') turned is = absurd is
    items (Some item) None turned is = absurd is

    pub slot_turns : (p p' : SocketStorage Socket) (turned : Served) → ServesSlot moves turn x p turned x' p' → Q x'.device
    slot_turns p p' turned is = items p.inner p'.inner turned is

-- what each move keeps, a frame that is taken too
module _ {D : Type 0} (moves : D → Move → D → Type 0) (Q : D → Type 0) (keeps : (d d' : D) (m : Move) → moves d m d' → Q d → Q d') where
  pub takes : (s s' : State D) (answer : Option Bool) → Takes moves s answer s' → Q s.device → Q s'.device
  takes s s' None is holds = keeps s.device s'.device (Empty s.host.inner.instant) is.0 holds
  takes s s' (Some false) is holds = keeps s.device s'.device (Took s.host.inner.instant is.0) is.1 holds
  takes s s' (Some true) is holds =
      reads moves Q (λ d d' m none. keeps d d' m) s s' is (keeps s.device is.1 (Took s.host.inner.instant is.0) is.2 holds)
