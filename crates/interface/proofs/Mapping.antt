-- A poll at one device is a poll at another, where each of its moves is one there.
use Rattle.std.proofs.Common.{◌≡◌, ℕ, zero, suc, ℤ, Bool, true, false, ◌&&◌, ◌||◌, inl, inr, List, [], ◌∷◌, ◌++◌, Option, Some, None, is_some, sym, ap, subst}
use Rattle.net_base.specs.Device.{Move, Took, Empty, Allowed, Emitted, Denied}
use Rattle.iface_ingress.specs.Packet.{PacketValue}
use Rattle.iface_ingress.specs.Offer as Answer
use Rattle.iface_ingress.specs.Offer.TheVariants as Offer
use Rattle.iface_ingress.specs.Sockets.{offered_by}
use Rattle.iface_ingress.specs.Socket.{Socket}
use Rattle.iface_tables.specs.Inner.{InnerValue, at_instant}
use Rattle.iface_egress.specs.declared.socket_set.Item.{Item}
use Rattle.iface_egress.specs.declared.socket_set.SocketStorage.{SocketStorage}
use Rattle.iface_egress.specs.Departure as Departures
use Rattle.iface_egress.specs.Departure.{Departure}
use Rattle.iface_egress.specs.Fragments.{LeftValue, departure_from}
use Rattle.iface_egress.specs.IsTransmitted.{IsTransmitted, FragmentIsTransmitted, Departs, Asked, WasSent, WasCut, frame_of, frame_len_of, numbered, cut_of}
use Rattle.iface_egress.specs.Plan.{plan_of}
use Rattle.iface_egress.specs.declared.plan.Plan.{Plan}
use Rattle.iface_egress.specs.declared.plan.Plan.TheVariants as Way
use Rattle.iface_egress.specs.declared.egress_path.Sent.{Sent}
use Rattle.iface_egress.specs.declared.egress_path.Sent.TheVariants as Outcome
use Rattle.ip_wire.specs.IpRepr.{IpRepr}
use Rattle.iface_ingress.specs.Arrives as Replies
use Rattle.iface_ingress.specs.Arrives.{ReplyValue}
use Rattle.iface_ingress.specs.Incoming.{IncomingValue}
use Rattle.ip_wire.specs.IpAddress.{IpAddress}
use Rattle.iface_egress.specs.declared.frame.NeighborQuery.{NeighborQuery}
use Rattle.iface_egress.specs.declared.socket_meta.Meta.{Meta}
use Rattle.interface.specs.Awaited.{turn_of}
use Rattle.interface.specs.Host.{Sender, sender}
use Rattle.interface.specs.Pass.{Pass, Passed, passed}
use Rattle.iface_tables.specs.Parking.{ParkedValue}
use Rattle.iface_egress.specs.Parked.{GoesOn, LeavesBy, ServesEach, ServesParked, Tries, lent, packet_in, parks, put_back, sender_after}
use Rattle.iface_egress.specs.Parked as Parking
use Rattle.interface.specs.EgressPath.{Clears, ClearsAll, ClearsIf, Egress, FragmentLeaves}
use Rattle.interface.specs.Serve.{Leaves, LeavesIf, SendsBy, Answers, TurnsIf, ItemTurns, ServesSlot, is_waiting, let_through, plan_at}
use Rattle.interface.specs.declared.serve.Served.{Served}
use Rattle.interface.specs.declared.serve.Served.TheVariants as Turn
use Rattle.interface.specs.State.{State, state, at_device}
use Rattle.interface.specs.Egress.{EgressStep, sending}
use Rattle.interface.specs.Ingress.{AnswerGoes, IngressStep, Takes, Receives, Replied, is_awaited, sender_of, sender_with, would_solicit}
use Rattle.interface.specs.Polls.{Repeats, Polls, HostPolls, begun}
use Rattle.interface.specs.OwnWork.{OwnWork, TellsIf, ChecksPathsIf}
use Rattle.iface_egress.specs.Emits.{Emits}
use Rattle.iface_reports.specs.Frames.{report_frame, report_frame_len}
use Rattle.iface_reports.specs.Reports.{ReportsValue, micros}
use Rattle.iface_reports.specs.Told.{ReportValue, first_due, report_at, v4_family, v6_family}
use Rattle.iface_reports.specs.Transmits.{GoesIf, Tells, TellsAt, Transmits}

-- How moves of one device are moves of another: what holds of the devices before is kept, and what holds of those after held before.
pub record IsMapped {D E : Type 0} (f : D → E) (moves : D → Move → D → Type 0) (others : E → Move → E → Type 0) (Before After : D → Type 0) : Type 0 where
  pub up : (old new : D) (m : Move) → moves old m new → Before old → Before new
  pub down : (old new : D) (m : Move) → moves old m new → After new → After old
  pub there : (old new : D) (m : Move) → moves old m new → Before old → After new → others (f old) m (f new)

module _ {D E : Type 0} (f : D → E) (moves : D → Move → D → Type 0) (others : E → Move → E → Type 0) (Before After : D →
    Type 0) (mapped : IsMapped f moves others Before After) where
  -- between two devices something holds at the other device
  record Leads (old new : D) (R : Type 0) : Type 0 where
    there : Before old → After new → R
    up : Before old → Before new
    down : After new → After old

  -- COMBINED

  stays : (old new : D) (R : Type 0) → new ≡ old → R → Leads old new R
  stays old new R is so = record { there = λ b a. so; up = subst Before (sym is); down = subst After is }

  moves_so : (old new : D) (m : Move) → moves old m new → Leads old new (others (f old) m (f new))
  moves_so old new m goes = record { there = mapped.there old new m goes; up = mapped.up old new m goes; down = mapped.down old new m goes }

  so : (old new : D) (R S : Type 0) → (R → S) → Leads old new R → Leads old new S
  so old new R S by leads = record { there = λ b a. by (leads.there b a); up = leads.up; down = leads.down }

  both : (old mid new : D) (Q R S : Type 0) → (Q → R → S) → Leads old mid Q → Leads mid new R → Leads old new S
  both old mid new Q R S by first second = record {
    there = λ b a. by (first.there b (second.down a)) (second.there (first.up b) a);
    up = λ b. second.up (first.up b);
    down = λ a. first.down (second.down a);
  }

  -- VALUES

  abbrev pub on_sender : Sender D → Sender E
  on_sender x = sender (f x.device) x.inner x.left

  abbrev pub on_state : State D → State E
  on_state s = state (f s.device) s.host s.slots

  abbrev pub on_passed : Passed D → Passed E
  on_passed e = passed (on_sender e.sender) e.slots e.changed

  -- A FRAME

  departs : (old new : D) (i : InnerValue) (d : Departure) (taken : Bool) → Departs moves old i d taken new →
      Leads old new (Departs others (f old) i d taken (f new))
  departs old new i d true goes =
      so old new (others (f old) (Emitted (frame_of i d)) (f new)) (Departs others (f old) i d true (f new)) (λ x. (x, goes.1))
      (moves_so old new (Emitted (frame_of i d)) goes.0)
  departs old new i d false goes = moves_so old new (Denied (frame_len_of i d)) goes

  departs_and : (old new : D) (i : InnerValue) (d : Departure) (taken : Bool) (S : Type 0) → (Departs others (f old) i d taken (f new) → S) →
      Departs moves old i d taken new → Leads old new S
  departs_and old new i d taken S by goes = so old new (Departs others (f old) i d taken (f new)) S by (departs old new i d taken goes)

  -- A PACKET'S WAY OUT

  asked : (old new : D) (i i' : InnerValue) (q : NeighborQuery) (sent : Sent) → Asked moves old i q sent new i' →
      Leads old new (Asked others (f old) i q sent (f new) i')
  asked old new i i' q Outcome.Waits goes =
      departs_and old new i (Departures.Asks q) true (Asked others (f old) i q Outcome.Waits (f new) i') (λ x. (x, goes.1)) goes.0
  asked old new i i' q Outcome.Refused goes =
      departs_and old new i (Departures.Asks q) false (Asked others (f old) i q Outcome.Refused (f new) i') (λ x. (x, goes.1)) goes.0
  asked old new i i' q Outcome.Gone goes = absurd goes
  asked old new i i' q Outcome.Dropped goes = absurd goes
  asked old new i i' q Outcome.Busy goes = absurd goes

  was_sent : (old new : D) (i i' : InnerValue) (h : IpRepr) (d : Departure) (sent : Sent) → WasSent moves old i h d sent new i' →
      Leads old new (WasSent others (f old) i h d sent (f new) i')
  was_sent old new i i' h d Outcome.Gone goes = departs_and old new i d true (WasSent others (f old) i h d Outcome.Gone (f new) i') (λ x. (x, goes.1)) goes.0
  was_sent old new i i' h d Outcome.Refused goes = departs_and old new i d false (WasSent others (f old) i h d Outcome.Refused (f new) i') (λ x. (x, goes.1)) goes.0
  was_sent old new i i' h d Outcome.Waits goes = absurd goes
  was_sent old new i i' h d Outcome.Dropped goes = absurd goes
  was_sent old new i i' h d Outcome.Busy goes = absurd goes

  was_cut : (old new : D) (i i' : InnerValue) (l l' : Option LeftValue) (c : LeftValue) (sent : Sent) → WasCut moves old i l c sent new i' l' →
      Leads old new (WasCut others (f old) i l c sent (f new) i' l')
  was_cut old new i i' l l' c Outcome.Gone goes =
      departs_and old new i (departure_from i c) true (WasCut others (f old) i l c Outcome.Gone (f new) i' l') (λ x. (x, goes.1, goes.2)) goes.0
  was_cut old new i i' l l' c Outcome.Refused goes =
      departs_and old new i (departure_from i c) false (WasCut others (f old) i l c Outcome.Refused (f new) i' l') (λ x. (x, goes.1, goes.2)) goes.0
  was_cut old new i i' l l' c Outcome.Waits goes = absurd goes
  was_cut old new i i' l l' c Outcome.Dropped goes = absurd goes
  was_cut old new i i' l l' c Outcome.Busy goes = absurd goes

  is_transmitted : (old new : D) (i i' : InnerValue) (l l' : Option LeftValue) (p : PacketValue) (plan : Plan) (sent : Sent) →
      IsTransmitted moves old i l p plan sent new i' l'
      → Leads old new (IsTransmitted others (f old) i l p plan sent (f new) i' l')
  is_transmitted old new i i' l l' p Way.Drop sent goes =
      stays old new (IsTransmitted others (f old) i l p Way.Drop sent (f new) i' l') goes.1.0 (goes.0, (ap f goes.1.0, goes.1.1, goes.1.2))
  is_transmitted old new i i' l l' p Way.NoRoute sent goes =
      stays old new (IsTransmitted others (f old) i l p Way.NoRoute sent (f new) i' l') goes.1.0 (goes.0, (ap f goes.1.0, goes.1.1, goes.1.2))
  is_transmitted old new i i' l l' p Way.Wait sent goes =
      stays old new (IsTransmitted others (f old) i l p Way.Wait sent (f new) i' l') goes.1.0 (goes.0, (ap f goes.1.0, goes.1.1, goes.1.2))
  is_transmitted old new i i' l l' p Way.Busy sent goes =
      stays old new (IsTransmitted others (f old) i l p Way.Busy sent (f new) i' l') goes.1.0 (goes.0, (ap f goes.1.0, goes.1.1, goes.1.2))
  is_transmitted old new i i' l l' p (Way.Ask neighbor_query) sent goes =
      so old new (Asked others (f old) i neighbor_query sent (f new) i') (IsTransmitted others (f old) i l p (Way.Ask neighbor_query) sent (f new) i' l') (λ x. (x, goes.1))
      (asked old new i i' neighbor_query sent goes.0)
  is_transmitted old new i i' l l' p (Way.Go to) sent goes =
      so old new (WasSent others (f old) i p.header (Departures.Whole to (numbered i p)) sent (f new) i')
      (IsTransmitted others (f old) i l p (Way.Go to) sent (f new) i' l') (λ x. (x, goes.1))
      (was_sent old new i i' p.header (Departures.Whole to (numbered i p)) sent goes.0)
  is_transmitted old new i i' l l' p (Way.Cut to) sent goes = was_cut old new i i' l l' (cut_of i to p) sent goes

  fragment_out : (old new : D) (i : InnerValue) (l : LeftValue) (gone : Bool) (l' : Option LeftValue) → FragmentIsTransmitted moves old i l gone new l' →
      Leads old new (FragmentIsTransmitted others (f old) i l gone (f new) l')
  fragment_out old new i l true l' goes =
      departs_and old new i (departure_from i l) true (FragmentIsTransmitted others (f old) i l true (f new) l') (λ x. (x, goes.1)) goes.0
  fragment_out old new i l false l' goes =
      departs_and old new i (departure_from i l) false (FragmentIsTransmitted others (f old) i l false (f new) l') (λ x. (x, goes.1)) goes.0

  -- TURNS

  module _ (turn : Option IpAddress) where
    leaves : (x y : Sender D) (mark : Meta) (p : PacketValue) (sent : Sent) → Leaves moves turn x mark p sent y →
        Leads x.device y.device (Leaves others turn (on_sender x) mark p sent (on_sender y))
    leaves x y mark p sent (inl a) =
        so x.device y.device (others (f x.device) (Allowed x.inner.instant a.0) (f y.device)) (Leaves others turn (on_sender x) mark p sent (on_sender y))
        (λ n. inl (a.0, n, a.2, a.3, a.4))
        (moves_so x.device y.device (Allowed x.inner.instant a.0) a.1)
    leaves x y mark p sent (inr a) =
        both x.device a.0 y.device (others (f x.device) (Allowed x.inner.instant true) (f a.0))
        (IsTransmitted others (f a.0) x.inner x.left p (plan_of x.inner (is_some x.left) p.header) sent (f y.device) y.inner y.left)
        (Leaves others turn (on_sender x) mark p sent (on_sender y)) (λ n g. inr (f a.0, n, g, a.3)) (moves_so x.device a.0 (Allowed x.inner.instant true) a.1)
        (is_transmitted a.0 y.device x.inner y.inner x.left y.left p (plan_of x.inner (is_some x.left) p.header) sent a.2)

    parked : (b : Bool) (x y z : Sender D) (p : PacketValue) (R S : Type 0) → z ≡ sender_after b p y → (R → on_sender z ≡ sender_after b p (on_sender y) → S)
        → Leads x.device y.device R → Leads x.device z.device S
    parked true x y z p R S is by leads =
        both x.device y.device z.device R (on_sender z ≡ sender_after true p (on_sender y)) S by leads
        (stays y.device z.device (on_sender z ≡ sender_after true p (on_sender y)) (ap (λ (v : Sender D). v.device) is) (ap on_sender is))
    parked false x y z p R S is by leads =
        both x.device y.device z.device R (on_sender z ≡ sender_after false p (on_sender y)) S by leads
        (stays y.device z.device (on_sender z ≡ sender_after false p (on_sender y)) (ap (λ (v : Sender D). v.device) is) (ap on_sender is))

    leaves_if : (many : Bool) (x y : Sender D) (mark : Meta) (p : PacketValue) (sent : Sent) → LeavesIf moves turn many x mark p sent y →
        Leads x.device y.device (LeavesIf others turn many (on_sender x) mark p sent (on_sender y))
    leaves_if false x y mark p sent one = leaves x y mark p sent one
    leaves_if true x y mark p sent one =
        parked (parks one.1.inner p (plan_at x p) one.0) x one.1 y p (Leaves others turn (on_sender x) mark p one.0 (on_sender one.1))
        (LeavesIf others turn true (on_sender x) mark p sent (on_sender y)) one.4
        (λ n is. (one.0, on_sender one.1, n, one.3, is)) (leaves x one.1 mark p one.0 one.2)

    sends : (o : Option PacketValue) (x y : Sender D) (item m : Item Socket) (changed : Bool) (a : Served) → SendsBy moves turn o x item changed a y m
        → Leads x.device y.device (SendsBy others turn o (on_sender x) item changed a (on_sender y) m)
    sends None x y item m changed a one = absurd one
    sends (Some p) x y item m changed a one =
        so x.device y.device (LeavesIf others turn x.inner.host_requirements (on_sender x) item.meta one.0 one.3.0 (on_sender y))
        (SendsBy others turn (Some p) (on_sender x) item changed a (on_sender y) m)
        (λ n. (one.0, one.1, one.2, (one.3.0, n, one.3.2, one.3.3, one.3.4)))
        (leaves_if x.inner.host_requirements x y item.meta one.0 one.3.0 one.3.1)

    same_device : (x y : Sender D) → y ≡ x → y.device ≡ x.device
    same_device x y is = ap (λ (v : Sender D). v.device) is

    answers : (answer : Answer.Offer) (x y : Sender D) (item m : Item Socket) (a : Served) → Answers moves turn answer x item a y m
        → Leads x.device y.device (Answers others turn answer (on_sender x) item a (on_sender y) m)
    answers (Offer.Silent changed) x y item m a one =
        stays x.device y.device (Answers others turn (Offer.Silent changed) (on_sender x) item a (on_sender y) m) (same_device x y one.1) (
          one.0,
          ap on_sender one.1,
          one.2,
        )
    answers (Offer.Packet changed) x y item m a one = sends (offered_by item.socket) x y item m changed a one

    turns_if : (waits : Bool) (x y : Sender D) (item m : Item Socket) (a : Served) → TurnsIf moves turn waits x item a y m
        → Leads x.device y.device (TurnsIf others turn waits (on_sender x) item a (on_sender y) m)
    turns_if true x y item m a one =
        stays x.device y.device (TurnsIf others turn true (on_sender x) item a (on_sender y) m) (same_device x y one.1) (one.0, ap on_sender one.1, one.2)
    turns_if false x y item m a one =
        so x.device y.device (Answers others turn one.0 (on_sender x) (record item { socket = one.1 }) a (on_sender y) m)
        (TurnsIf others turn false (on_sender x) item a (on_sender y) m)
        (λ n. (one.0, one.1, one.2, n)) (answers one.0 x y (record item { socket = one.1 }) m a one.3)

    item_turns : (o p : Option (Item Socket)) (x y : Sender D) (a : Served) → ItemTurns moves turn o x a y p →
        Leads x.device y.device (ItemTurns others turn o (on_sender x) a (on_sender y) p)
    item_turns None None x y a one =
        stays x.device y.device (ItemTurns others turn None (on_sender x) a (on_sender y) None) (same_device x y one.1) (one.0, ap on_sender one.1)
    item_turns (Some item) (Some m) x y a one = turns_if (is_waiting x.inner item.meta) x y (let_through x.inner item) m a one
    item_turns None (Some m) x y a one = absurd one
    item_turns (Some item) None x y a one = absurd one

    slot_turns : (o p : SocketStorage Socket) (x y : Sender D) (a : Served) → ServesSlot moves turn x o a y p →
        Leads x.device y.device (ServesSlot others turn (on_sender x) o a (on_sender y) p)
    slot_turns o p x y a one = item_turns o.inner p.inner x y a one

  -- THE WAY OUT

  abbrev Slots : Type 0
  Slots = List (SocketStorage Socket)

  pass : (turn : Option IpAddress) (ps before : Slots) (x : Sender D) (changed : Bool) (e : Passed D) → Pass moves turn x before changed ps e →
      Leads x.device e.sender.device (Pass others turn (on_sender x) before changed ps (on_passed e))
  pass turn [] before x changed e one =
      stays x.device e.sender.device (Pass others turn (on_sender x) before changed [] (on_passed e)) (ap (λ (v : Passed D). v.sender.device) one)
      (ap on_passed one)
  pass turn (p ∷ ps) before x changed e (inl a) =
      both x.device a.1.device e.sender.device (ServesSlot others turn (on_sender x) p (Turn.Next a.0) (on_sender a.1) a.2)
      (Pass others turn (on_sender a.1) (before ++ a.2 ∷ []) (changed || a.0) ps (on_passed e))
      (Pass others turn (on_sender x) before changed (p ∷ ps) (on_passed e))
      (λ n g. inl (a.0, on_sender a.1, a.2, n, g)) (slot_turns turn p a.2 x a.1 (Turn.Next a.0) a.3)
      (pass turn ps (before ++ a.2 ∷ []) a.1 (changed || a.0) e a.4)
  pass turn (p ∷ ps) before x changed e (inr a) =
      both x.device a.1.device e.sender.device (ServesSlot others turn (on_sender x) p (Turn.Stop a.0) (on_sender a.1) a.2)
      (on_passed e ≡ passed (on_sender a.1) (before ++ a.2 ∷ ps) (changed || a.0)) (Pass others turn (on_sender x) before changed (p ∷ ps) (on_passed e))
      (λ n g. inr (a.0, on_sender a.1, a.2, n, g)) (slot_turns turn p a.2 x a.1 (Turn.Stop a.0) a.3)
      (stays a.1.device e.sender.device (on_passed e ≡ passed (on_sender a.1) (before ++ a.2 ∷ ps) (changed || a.0))
      (ap (λ (v : Passed D). v.sender.device) a.4) (ap on_passed a.4))

  fragment_leaves : (l : LeftValue) (x y : Sender D) (gone : Bool) → FragmentLeaves moves l x gone y →
      Leads x.device y.device (FragmentLeaves others l (on_sender x) gone (on_sender y))
  fragment_leaves l x y gone (inl a) =
      so x.device y.device (others (f x.device) (Allowed x.inner.instant false) (f y.device)) (FragmentLeaves others l (on_sender x) gone (on_sender y))
      (λ n. inl (n, a.1, a.2))
      (moves_so x.device y.device (Allowed x.inner.instant false) a.0)
  fragment_leaves l x y gone (inr a) =
      both x.device a.0 y.device (others (f x.device) (Allowed x.inner.instant true) (f a.0)) (FragmentIsTransmitted others (f a.0) x.inner l gone (f y.device) y.left)
      (FragmentLeaves others l (on_sender x) gone (on_sender y))
      (λ n g. inr (f a.0, n, g)) (moves_so x.device a.0 (Allowed x.inner.instant true) a.1) (fragment_out a.0 y.device x.inner l gone y.left a.2)

  clears : (l : Option LeftValue) (x y : Sender D) (clear : Bool) → Clears moves l x clear y →
      Leads x.device y.device (Clears others l (on_sender x) clear (on_sender y))
  clears None x y clear one =
      stays x.device y.device (Clears others None (on_sender x) clear (on_sender y)) (same_device None x y one.1) (one.0, ap on_sender one.1)
  clears (Some l) x y clear one =
      so x.device y.device (FragmentLeaves others l (on_sender x) clear (on_sender y)) (Clears others (Some l) (on_sender x) clear (on_sender y)) (λ n. (n, one.1))
      (fragment_leaves l x y clear one.0)

  -- PACKETS THAT WAIT

  tries : (x y : Sender D) (p : PacketValue) (plan : Plan) (sent : Sent) → Tries moves x p plan sent y →
      Leads x.device y.device (Tries others (on_sender x) p plan sent (on_sender y))
  tries x y p plan sent (inl a) =
      so x.device y.device (others (f x.device) (Allowed x.inner.instant false) (f y.device)) (Tries others (on_sender x) p plan sent (on_sender y))
      (λ n. inl (n, a.1, a.2, a.3)) (moves_so x.device y.device (Allowed x.inner.instant false) a.0)
  tries x y p plan sent (inr a) =
      both x.device a.0 y.device (others (f x.device) (Allowed x.inner.instant true) (f a.0))
      (IsTransmitted others (f a.0) x.inner x.left p plan sent (f y.device) y.inner y.left)
      (Tries others (on_sender x) p plan sent (on_sender y)) (λ n g. inr (f a.0, n, g)) (moves_so x.device a.0 (Allowed x.inner.instant true) a.1)
      (is_transmitted a.0 y.device x.inner y.inner x.left y.left p plan sent a.2)

  leaves_by : (plan : Plan) (x y : Sender D) (p : PacketValue) (sent : Sent) → LeavesBy moves plan x p sent y →
      Leads x.device y.device (LeavesBy others plan (on_sender x) p sent (on_sender y))
  leaves_by Way.Wait x y p sent one =
      stays x.device y.device (LeavesBy others Way.Wait (on_sender x) p sent (on_sender y)) (same_device None x y one.1) (one.0, ap on_sender one.1)
  leaves_by Way.Busy x y p sent one =
      stays x.device y.device (LeavesBy others Way.Busy (on_sender x) p sent (on_sender y)) (same_device None x y one.1) (one.0, ap on_sender one.1)
  leaves_by Way.NoRoute x y p sent one =
      stays x.device y.device (LeavesBy others Way.NoRoute (on_sender x) p sent (on_sender y)) (same_device None x y one.1) (one.0, ap on_sender one.1)
  leaves_by Way.Drop x y p sent one =
      stays x.device y.device (LeavesBy others Way.Drop (on_sender x) p sent (on_sender y)) (same_device None x y one.1) (one.0, ap on_sender one.1)
  leaves_by (Way.Ask query) x y p sent one = tries x y p (Way.Ask query) sent one
  leaves_by (Way.Go to) x y p sent one = tries x y p (Way.Go to) sent one
  leaves_by (Way.Cut to) x y p sent one = tries x y p (Way.Cut to) sent one

  parked_leaves : (x y : Sender D) (p : PacketValue) (sent : Sent) → Parking.Leaves moves x p sent y →
      Leads x.device y.device (Parking.Leaves others (on_sender x) p sent (on_sender y))
  parked_leaves x y p sent one = leaves_by (plan_of x.inner (is_some x.left) p.header) x y p sent one

  each : (rest kept : List ParkedValue) (x : Sender D) (all : Bool) (y : Sender D) (left : List ParkedValue) → ServesEach moves rest kept x all y left →
      Leads x.device y.device (ServesEach others rest kept (on_sender x) all (on_sender y) left)
  each [] kept x all y left one =
      stays x.device y.device (ServesEach others [] kept (on_sender x) all (on_sender y) left) (same_device None x y one.1) (one.0, ap on_sender one.1, one.2)
  each (k ∷ rest) kept x all y left one =
      both x.device one.1.device y.device (Parking.Leaves others (on_sender x) (packet_in k) one.0 (on_sender one.1)) (On one.0)
      (ServesEach others (k ∷ rest) kept (on_sender x) all (on_sender y) left) (λ n g. (one.0, on_sender one.1, n, g))
      (parked_leaves x one.1 (packet_in k) one.0 one.2) (by one.0 one.3 (λ on later. each rest on one.1 all y left later)) where
        On : Sent → Type 0
        On sent =
            GoesOn others sent (ServesEach others rest kept (on_sender one.1) all (on_sender y) left)
            (ServesEach others rest (kept ++ k ∷ []) (on_sender one.1) all (on_sender y) left)
            ((all ≡ false) × (on_sender y ≡ on_sender one.1) × (left ≡ kept ++ k ∷ rest))

        by : (sent : Sent) → GoesOn moves sent (ServesEach moves rest kept one.1 all y left) (ServesEach moves rest (kept ++ k ∷ []) one.1 all y left)
            ((all ≡ false) × (y ≡ one.1) × (left ≡ kept ++ k ∷ rest))
            → ((on : List ParkedValue) → ServesEach moves rest on one.1 all y left
            → Leads one.1.device y.device (ServesEach others rest on (on_sender one.1) all (on_sender y) left)) → Leads one.1.device y.device (On sent)
        by Outcome.Gone later further = further kept later
        by Outcome.Dropped later further = further kept later
        by Outcome.Waits later further = further (kept ++ k ∷ []) later
        by Outcome.Busy later further = further (kept ++ k ∷ []) later
        by Outcome.Refused later further =
            stays one.1.device y.device (On Outcome.Refused) (same_device None one.1 y later.1) (later.0, ap on_sender later.1, later.2)

  serves_parked : (x y : Sender D) (all : Bool) → ServesParked moves x all y → Leads x.device y.device (ServesParked others (on_sender x) all (on_sender y))
  serves_parked x y all one =
      both x.device one.0.device y.device (ServesEach others x.inner.parking.packets [] (on_sender (lent moves x)) all (on_sender one.0) one.1)
      (on_sender y ≡ put_back others x.inner.parking.room one.1 (on_sender one.0))
      (ServesParked others (on_sender x) all (on_sender y)) (λ n g. (on_sender one.0, one.1, n, g))
      (each x.inner.parking.packets [] (lent moves x) all one.0 one.1 one.2)
      (stays one.0.device y.device (on_sender y ≡ put_back others x.inner.parking.room one.1 (on_sender one.0)) (ap (λ (v : Sender D). v.device) one.3)
      (ap on_sender one.3))

  clears_if : (many : Bool) (x y : Sender D) (clear : Bool) → ClearsIf moves many x clear y →
      Leads x.device y.device (ClearsIf others many (on_sender x) clear (on_sender y))
  clears_if false x y clear one = clears x.left x y clear one
  clears_if true x y clear (inl one) =
      so x.device y.device (Clears others x.left (on_sender x) false (on_sender y)) (ClearsIf others true (on_sender x) clear (on_sender y))
      (λ n. inl (n, one.1)) (clears x.left x y false one.0)
  clears_if true x y clear (inr one) =
      both x.device one.0.device y.device (Clears others x.left (on_sender x) true (on_sender one.0)) (ServesParked others (on_sender one.0) clear (on_sender y))
      (ClearsIf others true (on_sender x) clear (on_sender y)) (λ n g. inr (on_sender one.0, n, g)) (clears x.left x one.0 true one.1)
      (serves_parked one.0 y clear one.2)

  egress : (x : Sender D) (ps : Slots) (e : Passed D) → Egress moves x ps e → Leads x.device e.sender.device (Egress others (on_sender x) ps (on_passed e))
  egress x ps e (inl a) =
      both x.device a.0.device e.sender.device (ClearsAll others (on_sender x) false (on_sender a.0)) (on_passed e ≡ passed (on_sender a.0) ps false)
      (Egress others (on_sender x) ps (on_passed e))
      (λ n g. inl (on_sender a.0, n, g)) (clears_if x.inner.host_requirements x a.0 false a.1)
      (stays a.0.device e.sender.device (on_passed e ≡ passed (on_sender a.0) ps false) (ap (λ (v : Passed D). v.sender.device) a.2) (ap on_passed a.2))
  egress x ps e (inr a) =
      both x.device a.0.device e.sender.device (ClearsAll others (on_sender x) true (on_sender a.0))
      (Pass others (turn_of a.0.inner ps) (on_sender a.0) [] false ps (on_passed e)) (Egress others (on_sender x) ps (on_passed e))
      (λ n g. inr (on_sender a.0, n, g)) (clears_if x.inner.host_requirements x a.0 true a.1) (pass (turn_of a.0.inner ps) ps [] a.0 false e a.2)

  out_step : (t : ℤ) (s s' : State D) (answer : Option Bool) → EgressStep moves t s answer s' →
      Leads s.device s'.device (EgressStep others t (on_state s) answer (on_state s'))
  out_step t s s' answer one =
      both s.device one.0.sender.device s'.device (Egress others (on_sender (sending t s)) s.slots (on_passed one.0)) (on_state s' ≡
      on_state (Rattle.interface.specs.Egress.following s.host one.0))
      (EgressStep others t (on_state s) answer (on_state s')) (λ n g. (on_passed one.0, n, g, one.3)) (egress (sending t s) s.slots one.0 one.1)
      (stays one.0.sender.device s'.device (on_state s' ≡ on_state (Rattle.interface.specs.Egress.following s.host one.0)) (ap (λ (v : State D). v.device) one.2)
      (ap on_state one.2))

  -- THE WAY IN

  answered : (many : Bool) (p : PacketValue) (kept_back : Bool) (x y : Sender D) → AnswerGoes moves many p kept_back x y →
      Leads x.device y.device (AnswerGoes others many p kept_back (on_sender x) (on_sender y))
  answered false p kept_back x y one =
      so x.device y.device (IsTransmitted others (f x.device) x.inner x.left p (plan_of x.inner (is_some x.left) p.header) one.0 (f y.device) y.inner y.left)
      (AnswerGoes others false p kept_back (on_sender x) (on_sender y)) (λ n. (one.0, n, one.2, one.3))
      (is_transmitted x.device y.device x.inner y.inner x.left y.left p (plan_of x.inner (is_some x.left) p.header) one.0 one.1)
  answered true p kept_back x y one =
      let mid : Sender D = one.1 in
      parked None (parks mid.inner p (plan_of x.inner (is_some x.left) p.header) one.0) x mid y p
      (IsTransmitted others (f x.device) x.inner x.left p (plan_of x.inner (is_some x.left) p.header) one.0 (f mid.device) mid.inner mid.left)
      (AnswerGoes others true p kept_back (on_sender x) (on_sender y)) one.3 (λ n is. (one.0, on_sender mid, n, is, one.4, one.5))
      (is_transmitted x.device mid.device x.inner mid.inner x.left mid.left p (plan_of x.inner (is_some x.left) p.header) one.0 one.2)

  replied : (awaited : Bool) (reply : Option ReplyValue) (x y : Sender D) → Replied moves awaited reply x y →
      Leads x.device y.device (Replied others awaited reply (on_sender x) (on_sender y))
  replied awaited None x y one = stays x.device y.device (Replied others awaited None (on_sender x) (on_sender y)) (same_device None x y one) (ap on_sender one)
  replied awaited (Some (Replies.Tells packet)) x y one =
      so x.device y.device (Departs others (f x.device) x.inner (Departures.Tells packet) one.0 (f y.device))
      (Replied others awaited (Some (Replies.Tells packet)) (on_sender x) (on_sender y))
      (λ n. (one.0, n, one.2, one.3)) (departs x.device y.device x.inner (Departures.Tells packet) one.0 one.1)
  replied awaited (Some (Replies.Answers p)) x y (inl held) =
      stays x.device y.device (Replied others awaited (Some (Replies.Answers p)) (on_sender x) (on_sender y)) (same_device None x y held.0)
      (inl (ap on_sender held.0, held.1))
  replied awaited (Some (Replies.Answers p)) x y (inr one) =
      so x.device y.device (AnswerGoes others x.inner.host_requirements p (awaited && would_solicit x p) (on_sender x) (on_sender y))
      (Replied others awaited (Some (Replies.Answers p)) (on_sender x) (on_sender y)) (λ n. inr n)
      (answered x.inner.host_requirements p (awaited && would_solicit x p) x y one)

  receives : (content : Option IncomingValue) (s s' : State D) → Receives moves content s s' →
      Leads s.device s'.device (Receives others content (on_state s) (on_state s'))
  receives content s s' one =
      so s.device s'.device (Replied others (is_awaited one.0) one.0.reply (on_sender (sender_with moves s one.0)) (on_sender (sender_of moves s')))
      (Receives others content (on_state s) (on_state s'))
      (λ n. (one.0, one.1, one.2, n, one.4)) (replied (is_awaited one.0) one.0.reply (sender_with moves s one.0) (sender_of moves s') one.3)

  takes : (s s' : State D) (answer : Option Bool) → Takes moves s answer s' → Leads s.device s'.device (Takes others (on_state s) answer (on_state s'))
  takes s s' None one =
      so s.device s'.device (others (f s.device) (Empty s.host.inner.instant) (f s'.device)) (Takes others (on_state s) None (on_state s'))
      (λ n. (n, ap on_state one.1))
      (moves_so s.device s'.device (Empty s.host.inner.instant) one.0)
  takes s s' (Some false) one =
      so s.device s'.device (others (f s.device) (Took s.host.inner.instant one.0) (f s'.device)) (Takes others (on_state s) (Some false) (on_state s'))
      (λ n. (one.0, n, one.2, ap on_state one.3))
      (moves_so s.device s'.device (Took s.host.inner.instant one.0) one.1)
  takes s s' (Some true) one =
      both s.device one.1 s'.device (others (f s.device) (Took s.host.inner.instant one.0) (f one.1))
      (Receives others one.4.0 (on_state (at_device s one.1)) (on_state s'))
      (Takes others (on_state s) (Some true) (on_state s'))
      (λ n g. (one.0, f one.1, n, one.3, (one.4.0, one.4.1, g, one.4.3))) (moves_so s.device one.1 (Took s.host.inner.instant one.0) one.2)
      (receives one.4.0 (at_device s one.1) s' one.4.2)

  -- STEPS

  module _ (step : State D → Option Bool → State D → Type 0) (step' : State E → Option Bool → State E → Type 0)
      (steps : (s s' : State D) (answer : Option Bool) → step s answer s' → Leads s.device s'.device (step' (on_state s) answer (on_state s'))) where
    repeats : (n : ℕ) (s s' : State D) (c c' : Bool) → Repeats step n s c s' c' → Leads s.device s'.device (Repeats step' n (on_state s) c (on_state s') c')
    repeats zero s s' c c' one =
        stays s.device s'.device (Repeats step' zero (on_state s) c (on_state s') c') (ap (λ (v : State D). v.device) one.0) (ap on_state one.0, one.1)
    repeats (suc n) s s' c c' (inl a) =
        so s.device s'.device (step' (on_state s) None (on_state s')) (Repeats step' (suc n) (on_state s) c (on_state s') c') (λ x. inl (x, a.1))
        (steps s s' None a.0)
    repeats (suc n) s s' c c' (inr a) =
        both s.device a.1.device s'.device (step' (on_state s) (Some a.0) (on_state a.1)) (Repeats step' n (on_state a.1) (c || a.0) (on_state s') c')
        (Repeats step' (suc n) (on_state s) c (on_state s') c')
        (λ x y. inr (a.0, on_state a.1, x, y)) (steps s a.1 (Some a.0) a.2) (repeats n a.1 s' (c || a.0) c' a.3)

  polled : (t : ℤ) (budget : ℕ) (s s' : State D) (changed : Bool) → Polls moves t budget s changed s' →
      Leads s.device s'.device (Polls others t budget (on_state s) changed (on_state s'))
  polled t budget s s' changed polls =
      let first = repeats (IngressStep moves t) (IngressStep others t) (λ x y answer one. takes (begun t x) y answer one) budget (begun t s) polls.0 false
      polls.1 polls.2 in
      let second = repeats (EgressStep moves t) (EgressStep others t) (out_step t) budget polls.0 s' polls.1 changed polls.3 in
      both s.device polls.0.device s'.device (Repeats (IngressStep others t) budget (on_state (begun t s)) false (on_state polls.0) polls.1)
      (Repeats (EgressStep others t) budget (on_state polls.0) polls.1 (on_state s') changed) (Polls others t budget (on_state s) changed (on_state s'))
      (λ x y. (on_state polls.0, polls.1, x, y)) first second

  pub polls_there : (t : ℤ) (budget : ℕ) (s s' : State D) (changed : Bool) → Polls moves t budget s changed s' → Before s.device → After s'.device →
      Polls others t budget (on_state s) changed (on_state s')
  polls_there t budget s s' changed polls before after = (polled t budget s s' changed polls).there before after

  -- WHAT THE HOST DOES OF ITS OWN

  emits : (old new : D) (frame : List ℕ) (len : ℕ) (taken : Bool) → Emits moves old frame len taken new → Leads old new (Emits others (f old) frame len taken (f new))
  emits old new frame len true goes =
      so old new (others (f old) (Emitted frame) (f new)) (Emits others (f old) frame len true (f new)) (λ x. (x, goes.1)) (moves_so old new (Emitted frame) goes.0)
  emits old new frame len false goes = moves_so old new (Denied len) goes

  goes_if : (i : InnerValue) (old new : D) (report : ReportValue) (went : Bool) → GoesIf moves i old report went new →
      Leads old new (GoesIf others i (f old) report went (f new))
  goes_if i old new report true one =
      both old one.0 new (others (f old) (Allowed i.instant true) (f one.0)) (Emits others (f one.0) (report_frame i report) (report_frame_len i report) true (f new))
      (GoesIf others i (f old) report true (f new)) (λ x y. (f one.0, x, y)) (moves_so old one.0 (Allowed i.instant true) one.1)
      (emits one.0 new (report_frame i report) (report_frame_len i report) true one.2)
  goes_if i old new report false (inl none) =
      so old new (others (f old) (Allowed i.instant false) (f new)) (GoesIf others i (f old) report false (f new)) (λ x. inl x)
      (moves_so old new (Allowed i.instant false) none)
  goes_if i old new report false (inr one) =
      both old one.0 new (others (f old) (Allowed i.instant true) (f one.0)) (Emits others (f one.0) (report_frame i report) (report_frame_len i report) false (f new))
      (GoesIf others i (f old) report false (f new)) (λ x y. inr (f one.0, x, y)) (moves_so old one.0 (Allowed i.instant true) one.1)
      (emits one.0 new (report_frame i report) (report_frame_len i report) false one.2)

  tells_at : (i : InnerValue) (family : IpAddress) (old new : D) (r after : ReportsValue) (at : Option ℕ) (went : Bool) → TellsAt moves i old family r at went new after →
      Leads old new (TellsAt others i (f old) family r at went (f new) after)
  tells_at i family old new r after None went one =
      stays old new (TellsAt others i (f old) family r None went (f new) after) one.1 (one.0, ap f one.1, one.2)
  tells_at i family old new r after (Some at) true one =
      so old new (GoesIf others i (f old) (report_at i family r at) true (f new)) (TellsAt others i (f old) family r (Some at) true (f new) after)
      (λ n. (n, one.1)) (goes_if i old new (report_at i family r at) true one.0)
  tells_at i family old new r after (Some at) false one =
      so old new (GoesIf others i (f old) (report_at i family r at) false (f new)) (TellsAt others i (f old) family r (Some at) false (f new) after)
      (λ n. (n, one.1)) (goes_if i old new (report_at i family r at) false one.0)

  tells : (i : InnerValue) (family : IpAddress) (old new : D) (r after : ReportsValue) (went : Bool) → Tells moves i old family r went new after →
      Leads old new (Tells others i (f old) family r went (f new) after)
  tells i family old new r after went one = tells_at i family old new r after (first_due family (micros i) r.rows) went one

  transmits : (i : InnerValue) (old new : D) (r after : ReportsValue) (went : Bool) → Transmits moves i old r went new after →
      Leads old new (Transmits others i (f old) r went (f new) after)
  transmits i old new r after went (inl one) =
      so old new (Tells others i (f old) v4_family r false (f new) after) (Transmits others i (f old) r went (f new) after) (λ n. inl (n, one.1))
      (tells i v4_family old new r after false one.0)
  transmits i old new r after went (inr one) =
      both old one.0 new (Tells others i (f old) v4_family r true (f one.0) one.1) (Tells others i (f one.0) v6_family one.1 went (f new) after)
      (Transmits others i (f old) r went (f new) after) (λ x y. inr (f one.0, one.1, x, y))
      (tells i v4_family old one.0 r one.1 true one.2) (tells i v6_family one.0 new one.1 after went one.3)

  module _ (t : ℤ) where
    tells_if : (reports : Option ReportsValue) (s s' : State D) → TellsIf moves t reports s s' →
        Leads s.device s'.device (TellsIf others t reports (on_state s) (on_state s'))
    tells_if None s s' one = stays s.device s'.device (TellsIf others t None (on_state s) (on_state s')) (ap (λ (x : State D). x.device) one) (ap on_state one)
    tells_if (Some r) s s' one =
        both s.device one.1 s'.device (Transmits others (at_instant t s.host.inner) (f s.device) r one.0 (f one.1) one.2) (Unit {0})
        (TellsIf others t (Some r) (on_state s) (on_state s')) (λ n u. (one.0, f one.1, one.2, n, ap on_state one.4))
        (transmits (at_instant t s.host.inner) s.device one.1 r one.2 one.0 one.3)
        (stays one.1 s'.device (Unit {0}) (ap (λ (x : State D). x.device) one.4) tt)

    checks_paths : (many : Bool) (s s' : State D) → ChecksPathsIf moves t many s s' → Leads s.device s'.device (ChecksPathsIf others t many (on_state s) (on_state s'))
    checks_paths false s s' one = stays s.device s'.device (ChecksPathsIf others t false (on_state s) (on_state s')) (ap (λ (x : State D). x.device) one) (ap on_state one)
    checks_paths true s s' one = stays s.device s'.device (ChecksPathsIf others t true (on_state s) (on_state s')) (ap (λ (x : State D). x.device) one) (ap on_state one)

    own_work : (s s' : State D) → OwnWork moves t s s' → Leads s.device s'.device (OwnWork others t (on_state s) (on_state s'))
    own_work s s' one =
        both s.device one.0.device s'.device (TellsIf others t s.host.reports (on_state s) (on_state one.0))
        (ChecksPathsIf others t s.host.inner.host_requirements (on_state one.0) (on_state s')) (OwnWork others t (on_state s) (on_state s'))
        (λ x y. (on_state one.0, x, y)) (tells_if s.host.reports s one.0 one.1) (checks_paths s.host.inner.host_requirements one.0 s' one.2)

  pub host_polls_there : (t : ℤ) (budget : ℕ) (s s' : State D) (changed : Bool) → HostPolls moves t budget s changed s' → Before s.device → After s'.device →
      HostPolls others t budget (on_state s) changed (on_state s')
  host_polls_there t budget s s' changed polls before after =
      let leads = both s.device polls.0.device s'.device (OwnWork others t (on_state s) (on_state polls.0))
      (Polls others t budget (on_state polls.0) changed (on_state s')) (HostPolls others t budget (on_state s) changed (on_state s'))
      (λ x y. (on_state polls.0, x, y)) (own_work t s polls.0 polls.1) (polled t budget polls.0 s' changed polls.2) in
      leads.there before after
