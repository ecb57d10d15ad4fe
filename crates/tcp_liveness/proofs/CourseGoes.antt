-- In a course in which each side is asked in time, and each segment comes in time, a connection goes on.
use Rattle.std.proofs.Common.{◌≡◌, ◌⊎◌, inl, inr, ℕ, zero, suc, ◌+◌, ◌-◌, ◌<◌, ◌≤◌, ◌==◌, nat_le, ℤ, pos, ◌+ℤ◌, ◌≤ℤ◌, ◌<ℤ◌, Bool, true, false}
use Rattle.std.proofs.Common.{List, [], ◌∷◌, length, Option, Some, slice_get, refl, sym, ap, ◌∙◌, subst, arith}
use Rattle.std.proofs.lemmas.Bool.{leb-false, leb-true}
use Rattle.std.proofs.lemmas.Int.{ints}
use Rattle.std.proofs.lemmas.Option.{slice_get_within}
use Rattle.net_base.specs.Ring.{Ring}
use Rattle.tcp_refinement.specs.Context.{ContextValue}
use Rattle.tcp_invariants.specs.Ends.{Proceeds}
use Rattle.tcp_invariants.specs.Moments.{is_due}
use Rattle.tcp_invariants.specs.OpenOffer.{OpenOffer}
use Rattle.tcp_invariants.specs.Timing.{carries}
use Rattle.tcp_invariants.proofs.OrderSteps.{clash}
use Rattle.tcp_block.specs.Offers.{offer_of}
use Rattle.tcp_block.specs.Segments.{segment_len}
use Rattle.tcp_block.specs.Settled.{settled}
use Rattle.tcp_refinement.specs.Pair.Sides.{at, other}
use Rattle.tcp_refinement.specs.Pair.Steps.{Steps, offered_at}
use Rattle.tcp_block.specs.Value.{TcpValue, room_of}
use Rattle.tcp_refinement.specs.Pair.Values.{PairSide, PairValue, and_offer, context_at, past_at}
use Rattle.tcp_refinement.specs.declared.pair.event.PairEvent.{PairEvent}
use Rattle.tcp_refinement.specs.declared.pair.event.PairEvent.TheVariants.{Listen, Connect, Send, Recv, Close, Abort, TcpSetting, Clock, Offer, Deliver}
use Rattle.tcp_refinement.specs.declared.pair.event.SentSegment.{SentSegment}
use Rattle.tcp_refinement.specs.declared.pair.event.Side.{Side}
use Rattle.tcp_refinement.specs.declared.pair.event.Side.TheVariants.{A, B}
use Rattle.tcp_liveness.specs.Anew.{BeginsAnew, BeginsAnewIn, put_off_in}
use Rattle.tcp_liveness.specs.Arrivals.{is_synchronized}
use Rattle.tcp_liveness.specs.BothWays.{AreThere, total_in}
use Rattle.tcp_liveness.specs.Course.{AreTaken, DeliversWithin, IsSentInTime, IsClocked, IsHinderedAmong, IsHinderedIn, IsShutAmong}
use Rattle.tcp_liveness.specs.Course.{IsTaken, end_of, events_of, span_of}
use Rattle.tcp_liveness.specs.Exchange.{IsOpen, left_of, data_of}
use Rattle.tcp_liveness.specs.DelayedSegment.{GoesFrom, sent_by}
use Rattle.tcp_liveness.specs.Onward.{AreOpen, HasRisen, acked_in}
use Rattle.tcp_liveness.specs.Pair.{HasStream, context_of, left_in, next_sent, socket_of}
use Rattle.tcp_liveness.specs.PutOff.{RunsOutIn}
use Rattle.tcp_liveness.specs.Reached.{IsReached}
use Rattle.tcp_liveness.specs.Restart.{Sends, first_cwnd, worth_sending}
use Rattle.tcp_liveness.specs.Rounds.{takes}
use Rattle.tcp_liveness.proofs.AgainGoes.{anew_some, survives}
use Rattle.tcp_liveness.proofs.CourseExchange.{exchange_in_time}
use Rattle.tcp_liveness.proofs.CourseParts.{Midway, midway}
use Rattle.tcp_liveness.proofs.CourseRuns.{Start, starts_in_course}
use Rattle.tcp_liveness.proofs.Exchange.{last_of}
use Rattle.tcp_liveness.proofs.Kept.{reached_keeps}
use Rattle.tcp_liveness.proofs.LateExchange.{goes_last, goes_now}
use Rattle.tcp_liveness.proofs.LatePayload.{left_within, open_of, risen_since, stream_since, there_of}
use Rattle.tcp_liveness.proofs.Left.{left_same}
use Rattle.tcp_liveness.proofs.MendingEvents.{is_sure}
use Rattle.tcp_liveness.proofs.Mirrored.{named_in}
use Rattle.tcp_liveness.proofs.OfItself.{side_sends}
use Rattle.tcp_liveness.proofs.Offered.{IsTransmitted, is_transmitted_of}
use Rattle.tcp_liveness.proofs.OnwardPairs.{IsBegun, MovesIn, begun, then_moves}
use Rattle.tcp_liveness.proofs.Pair.{late_in, not_closed}
use Rattle.tcp_liveness.proofs.Positions.{IsPlaced, placed}
use Rattle.tcp_liveness.proofs.Ready.{ready_side}
use Rattle.tcp_liveness.proofs.Roused.{refused_same}

-- WHAT THE SIDE SENDS

-- with this event a segment goes from SND.UNA on
pub record Goes (p : PairValue) (side : Side) (event : PairEvent) : Type 0 where
  pub x : SentSegment
  pub goes : GoesFrom (takes p event) side x
  pub sent : slice_get (at (takes p event).sides side).sent (next_sent p side) ≡ Some x

-- what goes so comes in time, and so does its answer: SND.UNA or RCV.NXT rises, or the other's window is closed as it comes
pub exchanges :
    (p q : PairValue) (side : Side) (x : ℤ × PairEvent) (course : List (ℤ × PairEvent)) (delay : ℕ) → Goes p side x.1 → IsReached (takes p x.1)
    → AreOpen (takes p x.1) → Steps (takes p x.1) (events_of course) q → AreThere q → HasStream (past_at (takes p x.1) side)
    → 1 ≤ room_of (socket_of (takes p x.1) (other side)).received → DeliversWithin delay p (x ∷ course) → IsClocked x.0 course
    → ((x.0 +ℤ pos delay) +ℤ pos delay) <ℤ end_of x.0 course
    → HasRisen (takes p x.1) q side ⊎ (HasRisen (takes p x.1) q (other side) ⊎ IsShutAmong (takes p x.1) side (next_sent p side) course)
exchanges p q side x course delay it r o s there stream room delivers clocked over =
    exchange_in_time (takes p x.1) q side (next_sent p side) it.x course delay x.0 r o s there stream room it.goes it.sent
    (delivers.0 side (next_sent p side) (itself (next_sent p side))
    (slice_get_within (at (takes p x.1).sides side).sent (next_sent p side) it.x it.sent))
    clocked delivers.1 over
  where
    itself : (n : ℕ) → n ≤ n
    itself n = omega arith

-- a side with its connection, which it keeps with the event
pub record IsThere (p : PairValue) (side : Side) (event : PairEvent) : Type 0 where
  pub reached : IsReached p
  pub mine : IsOpen (socket_of p side).tcb
  pub owes : 1 ≤ left_in p side
  pub snd_max : 1 ≤ (socket_of p side).tcb.sender.snd_max
  pub stays : is_synchronized (socket_of (takes p event) side).tcb.state ≡ true

pub offered_there : (p : PairValue) (side : Side) (instant : ℤ) → is_synchronized (socket_of (takes p (Offer side instant true)) side).tcb.state ≡ true →
    is_synchronized (settled true (offer_of (context_of p side instant) (socket_of p side)).socket).tcb.state ≡ true
offered_there p A instant e = e
offered_there p B instant e = e

lasts : (p : PairValue) (side : Side) (instant : ℤ) → IsThere p side (Offer side instant true) → Proceeds (context_of p side instant) (socket_of p side)
lasts p side instant h =
    let named = named_in p side h.reached h.mine.synchronized in
    survives (context_of p side instant) (socket_of p side) h.mine.synchronized named.0 named.1 (offered_there p side instant h.stays)

-- the timer has run out: it sends, or a window holds it back
runs_out :
    (p : PairValue) (side : Side) (instant : ℤ) → IsThere p side (Offer side instant true)
    → is_due instant (socket_of p side).tcb.timers.retransmit_at ≡ true
    → IsHinderedIn p side (Offer side instant true) ⊎ Goes p side (Offer side instant true)
runs_out p side instant h due = by (nat_le worth window) (nat_le worth cwnd) refl refl where
  v : TcpValue
  v = socket_of p side

  worth : ℕ
  worth = worth_sending v

  window : ℕ
  window = v.tcb.peer.window

  cwnd : ℕ
  cwnd = first_cwnd (context_of p side instant) v.tcb

  sends : worth ≤ window → worth ≤ cwnd → Sends (context_of p side instant) v
  sends e f =
      side_sends p side instant h.reached
      (record { own = h.mine; owes = h.owes; over = inr due; goes = lasts p side instant h; window = e; cwnd = f })

  goes : Sends (context_of p side instant) v → Goes p side (Offer side instant true)
  goes s = record {
    x = sent_by p side s.o;
    goes = goes_now p side instant s.o h.reached h.mine (inr due) s.offered s.kind s.some;
    sent = goes_last p side instant s.o h.reached h.mine (inr due) s.offered s.kind;
  }

  by :
      (a b : Bool) → nat_le worth window ≡ a → nat_le worth cwnd ≡ b → IsHinderedIn p side (Offer side instant true) ⊎ Goes p side (Offer side instant true)
  by true true e f = inr (goes (sends (leb-true worth window e) (leb-true worth cwnd f)))
  by false b e f = inl (refl, (due, inl (leb-false worth window e)))
  by true false e f = inl (refl, (due, inr (leb-false worth cwnd f)))

-- what an offer of a side leaves of it, and of what it sent
module _ (side : Side) (s : PairSide) (instant : ℤ) (o : OpenOffer) (syn : s.socket.tcb.sender.syn_unacked ≡ false)
    (offered : (offer_of (context_at side (record s { instant = instant })) s.socket).socket.offered ≡ Some o) (kind : carries o.kind ≡ true) where
  abbrev cx : ContextValue
  cx = context_at side (record s { instant = instant })

  abbrev asked_side : PairSide
  asked_side = offered_at side (record s { instant = instant }) true

  out : IsTransmitted s.socket (offer_of cx s.socket).socket o
  out = is_transmitted_of cx s.socket o syn offered kind

  abbrev gone : SentSegment
  gone = record { header = o.header; segment = o.segment; bytes = data_of s.socket o }

  sent_last : slice_get asked_side.sent (length s.sent) ≡ Some (record { header = o.header; segment = o.segment; bytes = data_of s.socket o })
  sent_last =
      ap (λ (x : Option OpenOffer). slice_get (and_offer s.sent x (offer_of cx s.socket).socket.queued.queue) (length s.sent)) offered
      ∙ (ap (λ (queued : Ring ℕ). slice_get (and_offer s.sent (Some o) queued.queue) (length s.sent)) out.queued ∙ last_of s.sent gone)

  left_after : left_of asked_side.socket ≡ left_of s.socket
  left_after =
      left_same s.socket asked_side.socket (record { state = out.sent.state; syn_unacked = out.sent.syn_unacked; queued = out.sent_queued })

-- it begins again at SND.UNA
number_of : (p : PairValue) (side : Side) (instant : ℤ) → IsOpen (socket_of p side).tcb → (it : BeginsAnew (offer_of (context_of p side instant) (socket_of p side)).socket)
    → it.o.segment.seq_number ≡ (socket_of p side).tcb.sender.una
number_of p side instant mine it =
    it.number
    ∙ (refused_same (context_of p side instant) (socket_of p side) (late_in (socket_of p side).tcb.state mine.synchronized)).una

some_of :
    (p : PairValue) (side : Side) (instant : ℤ) → IsThere p side (Offer side instant true)
    → (it : BeginsAnew (offer_of (context_of p side instant) (socket_of p side)).socket)
    → 1 ≤ segment_len it.o.segment (length (data_of (socket_of p side) it.o))
some_of p side instant h it =
    let k = reached_keeps p side h.reached in
    let a : IsPlaced (socket_of p side) k.side = placed (socket_of p side) k.side k.fits k.holds.0.well_formed h.mine.synchronized in
    anew_some (context_of p side instant) (socket_of p side) (ready_side p side h.reached).order.number h.mine.acknowledged h.snd_max a.few a.snd_max it
    (number_of p side instant h.mine it)

pub begins_anew :
    (p : PairValue) (side : Side) (instant : ℤ) → IsThere p side (Offer side instant true)
    → BeginsAnew (offer_of (context_of p side instant) (socket_of p side)).socket → Goes p side (Offer side instant true)
begins_anew p A instant h it = record {
  x = sent_by p A it.o;
  goes = record {
    number = number_of p A instant h.mine it ∙ sym g.sent.una;
    acknowledges = g.acknowledges ∙ ap Some (sym g.sent.next);
    some = some_of p A instant h it;
    ends =
        subst (λ (n : ℕ). segment_len it.o.segment (length (data_of p.sides.a.socket it.o)) ≤ n)
        (sym (left_after A p.sides.a instant it.o h.mine.acknowledged it.offered (ap carries it.kind))) g.ends;
    no_syn = g.no_syn;
    no_reset = g.no_reset;
  };
  sent = sent_last A p.sides.a instant it.o h.mine.acknowledged it.offered (ap carries it.kind);
}
  where
    g : IsTransmitted p.sides.a.socket (offer_of (context_of p A instant) p.sides.a.socket).socket it.o
    g = out A p.sides.a instant it.o h.mine.acknowledged it.offered (ap carries it.kind)
begins_anew p B instant h it = record {
  x = sent_by p B it.o;
  goes = record {
    number = number_of p B instant h.mine it ∙ sym g.sent.una;
    acknowledges = g.acknowledges ∙ ap Some (sym g.sent.next);
    some = some_of p B instant h it;
    ends =
        subst (λ (n : ℕ). segment_len it.o.segment (length (data_of p.sides.b.socket it.o)) ≤ n)
        (sym (left_after B p.sides.b instant it.o h.mine.acknowledged it.offered (ap carries it.kind))) g.ends;
    no_syn = g.no_syn;
    no_reset = g.no_reset;
  };
  sent = sent_last B p.sides.b instant it.o h.mine.acknowledged it.offered (ap carries it.kind);
}
  where
    g : IsTransmitted p.sides.b.socket (offer_of (context_of p B instant) p.sides.b.socket).socket it.o
    g = out B p.sides.b instant it.o h.mine.acknowledged it.offered (ap carries it.kind)

-- either way
sends_in :
    (p : PairValue) (side : Side) (event : PairEvent) → RunsOutIn p side event ⊎ BeginsAnewIn p side event → IsTaken event → IsThere p side event
    → IsHinderedIn p side event ⊎ Goes p side event
sends_in p A (Offer A instant true) (inl out) taken h = runs_out p A instant h out.1
sends_in p B (Offer B instant true) (inl out) taken h = runs_out p B instant h out.1
sends_in p A (Offer A instant true) (inr anew) taken h = inr (begins_anew p A instant h anew.1)
sends_in p B (Offer B instant true) (inr anew) taken h = inr (begins_anew p B instant h anew.1)
sends_in p A (Offer B instant true) (inl out) taken h = absurd (let no = out.0 in cc)
sends_in p B (Offer A instant true) (inl out) taken h = absurd (let no = out.0 in cc)
sends_in p A (Offer B instant true) (inr anew) taken h = absurd (let no = anew.0 in cc)
sends_in p B (Offer A instant true) (inr anew) taken h = absurd (let no = anew.0 in cc)
sends_in p side (Offer of instant false) starts taken h = clash (sym taken)
sends_in p side (Listen of endpoint) (inl never) taken h = absurd never
sends_in p side (Listen of endpoint) (inr never) taken h = absurd never
sends_in p side (Connect of remote local) (inl never) taken h = absurd never
sends_in p side (Connect of remote local) (inr never) taken h = absurd never
sends_in p side (Send of bytes) (inl never) taken h = absurd never
sends_in p side (Send of bytes) (inr never) taken h = absurd never
sends_in p side (Recv of count) (inl never) taken h = absurd never
sends_in p side (Recv of count) (inr never) taken h = absurd never
sends_in p side (Close of) (inl never) taken h = absurd never
sends_in p side (Close of) (inr never) taken h = absurd never
sends_in p side (Abort of) (inl never) taken h = absurd never
sends_in p side (Abort of) (inr never) taken h = absurd never
sends_in p side (TcpSetting of setting) (inl never) taken h = absurd never
sends_in p side (Clock of instant) (inl never) taken h = absurd never
sends_in p side (TcpSetting of setting) (inr never) taken h = absurd never
sends_in p side (Clock of instant) (inr never) taken h = absurd never
sends_in p side (Deliver from k) (inl never) taken h = absurd never
sends_in p side (Deliver from k) (inr never) taken h = absurd never

-- A closed window stands in the way.
pub shut_hinders : (p : PairValue) (side : Side) (k : ℕ) (course : List (ℤ × PairEvent)) → IsShutAmong p side k course → IsHinderedAmong p side (events_of course)
shut_hinders p side k [] never = absurd never
shut_hinders p side k (x ∷ course) (inl it) = inl (subst (λ (event : PairEvent). IsHinderedIn p side event) (sym it.0.1) (refl, it.1))
shut_hinders p side k (x ∷ course) (inr it) = inr (shut_hinders (takes p x.1) side k course it)

-- MOMENTS

sum_of : (now : ℤ) (a b c : ℕ) → (now +ℤ pos (a + b + c + c)) ≡ (((now +ℤ pos a) +ℤ pos b) +ℤ pos c) +ℤ pos c
sum_of now a b c = first_of (omega (arith, ints), grind (arith, ints))

less_time : (a end : ℤ) (n : ℕ) → ((a +ℤ pos n) +ℤ pos n) <ℤ end → a <ℤ end
less_time a end n e = first_of (omega (arith, ints), grind (arith, ints))

sooner : (a b end : ℤ) (n : ℕ) → a ≤ℤ b → ((b +ℤ pos n) +ℤ pos n) <ℤ end → ((a +ℤ pos n) +ℤ pos n) <ℤ end
sooner a b end n e f = first_of (omega (arith, ints), grind (arith, ints))

-- THE COURSE

pub sent_all : (p : PairValue) (side : Side) → IsReached p → IsOpen (socket_of p side).tcb
    → (socket_of p side).tcb.sender.flight_size ≤ (socket_of p side).tcb.sender.snd_max
sent_all p side r mine = (is_sure p side r (not_closed (socket_of p side).tcb.state mine.synchronized) mine.synchronized mine.acknowledged).sent

-- what of a course is left with each event
abbrev Lasts : ℕ → PairValue → List (ℤ × PairEvent) → Type 0
Lasts delay p course = AreTaken course × DeliversWithin delay p course

lasts_on : (delay : ℕ) (p : PairValue) (x : ℤ × PairEvent) (course : List (ℤ × PairEvent)) → Lasts delay p (x ∷ course) → Lasts delay (takes p x.1) course
lasts_on delay p x course l = (l.0.1, l.1.1)

module _ (p q : PairValue) (side : Side) (course : List (ℤ × PairEvent)) (wait delay : ℕ) (now : ℤ) (r : IsReached p) (o : AreOpen p)
    (there : AreThere q) (flight : ((socket_of p side).tcb.sender.flight_size == 0) ≡ false) (c : IsSentInTime wait delay now p side course)
    (same : acked_in q side ≤ acked_in p side)
    (st : Start (Lasts delay) p q side now ((now +ℤ pos (put_off_in p side)) +ℤ pos wait) course)
    (over : ((((now +ℤ pos (put_off_in p side)) +ℤ pos wait) +ℤ pos delay) +ℤ pos delay) <ℤ end_of now course) where
  abbrev Ways : Type 0
  Ways = HasRisen p q side ⊎ (HasRisen p q (other side) ⊎ IsHinderedAmong p side (events_of course))

  abbrev mid : PairValue
  mid = st.mid

  abbrev after : PairValue
  after = takes mid st.x.1

  begun_p : (of : Side) → IsBegun p of
  begun_p of = begun p of r (open_of p of o)

  at_mid : Midway p mid q
  at_mid = midway p mid q r begun_p there st.before_it (st.x.1 ∷ events_of st.rest) st.steps st.steps_on

  at_after : Midway mid after q
  at_after = midway mid after q at_mid.reached at_mid.begun there (st.x.1 ∷ []) (events_of st.rest) (st.steps_on.0, refl) st.steps_on.1

  p_after : (of : Side) → MovesIn p after of
  p_after of = then_moves p mid after of (at_mid.to of) (at_after.to of)

  some_flight : 1 ≤ (socket_of p side).tcb.sender.flight_size
  some_flight = positive (socket_of p side).tcb.sender.flight_size flight where
    positive : (n : ℕ) → (n == 0) ≡ false → 1 ≤ n
    positive zero e = clash e
    positive (suc n) e = one n where
      one : (n : ℕ) → 1 ≤ suc n
      one n = omega arith

  some_left : 1 ≤ left_in p side
  some_left =
      upto 1 (socket_of p side).tcb.sender.flight_size (left_in p side) some_flight
      ((ready_side p side r).order.within (not_closed (socket_of p side).tcb.state (open_of p side o).synchronized))
    where
      upto : (a b c : ℕ) → a ≤ b → b ≤ c → a ≤ c
      upto a b c e f = omega arith

  owes : 1 ≤ left_in mid side
  owes =
      by (total_in p side) (left_in p side) (total_in mid side) (left_in mid side) (total_in q side) (left_in q side) some_left
      (left_within p side r (open_of p side o)) (left_within mid side at_mid.reached (at_mid.opened side)) (at_mid.to side).total (at_mid.from side).acked same
    where
      by : (a b c d e f : ℕ) → 1 ≤ b → b ≤ a → d ≤ c → a ≤ c → c + f ≤ e + d → e - f ≤ a - b → 1 ≤ d
      by a b c d e f g h i j k l = omega arith

  snd_max : 1 ≤ (socket_of mid side).tcb.sender.snd_max
  snd_max = by ((at_mid.to side).una (not_closed (socket_of mid side).tcb.state (at_mid.opened side).synchronized)) where
    upto : (a b c : ℕ) → 1 ≤ a → a ≤ b → b ≤ c → 1 ≤ c
    upto a b c e f g = omega arith

    never : (a b c d e f : ℕ) → b ≤ a → d ≤ c → a + d < c + b → c + f ≤ e + d → e - f ≤ a - b → ⊥
    never a b c d e f g h i j k = absurd (omega arith)

    by :
        (((socket_of mid side).tcb.sender.una ≡ (socket_of p side).tcb.sender.una)
        × ((socket_of p side).tcb.sender.snd_max ≤ (socket_of mid side).tcb.sender.snd_max))
        ⊎ (total_in p side + left_in mid side < total_in mid side + left_in p side)
        → 1 ≤ (socket_of mid side).tcb.sender.snd_max
    by (inl it) =
        upto (socket_of p side).tcb.sender.flight_size (socket_of p side).tcb.sender.snd_max (socket_of mid side).tcb.sender.snd_max some_flight
        (sent_all p side r (open_of p side o)) it.1
    by (inr risen) =
        absurd
        (never (total_in p side) (left_in p side) (total_in mid side) (left_in mid side) (total_in q side) (left_in q side)
        (left_within p side r (open_of p side o)) (left_within mid side at_mid.reached (at_mid.opened side)) risen (at_mid.from side).acked same)

  -- the stream, and the other's buffer, are no less then
  stream : HasStream (past_at after side)
  stream = stream_since p after side r (open_of p side o) some_left (p_after side) c.stream

  room : 1 ≤ room_of (socket_of after (other side)).received
  room = subst (λ (n : ℕ). 1 ≤ n) (sym (p_after (other side)).room) c.room

  lifted : (of : Side) → HasRisen after q of → HasRisen p q of
  lifted of risen = risen_since p after q of (p_after of) risen

  exchanged : Goes mid side st.x.1 → Ways
  exchanged it =
      by
      (exchanges mid q side st.x st.rest delay it at_after.reached (at_after.opened A, at_after.opened B) st.steps_on.1 there stream room st.has.1 st.clocked
      (subst (λ (end : ℤ). ((st.x.0 +ℤ pos delay) +ℤ pos delay) <ℤ end) (sym st.same_end)
      (sooner st.x.0 ((now +ℤ pos (put_off_in p side)) +ℤ pos wait) (end_of now course) delay st.within over)))
    where
      by : HasRisen after q side ⊎ (HasRisen after q (other side) ⊎ IsShutAmong after side (next_sent mid side) st.rest) → Ways
      by (inl risen) = inl (lifted side risen)
      by (inr (inl risen)) = inr (inl (lifted (other side) risen))
      by (inr (inr shut)) = inr (inr (st.hindered (inr (shut_hinders after side (next_sent mid side) st.rest shut))))

  started : Ways
  started =
      by
      (sends_in mid side st.x.1 st.starts st.has.0.0
      (record { reached = at_mid.reached; mine = at_mid.opened side; owes = owes; snd_max = snd_max; stays = (at_after.opened side).synchronized }))
    where
      by : IsHinderedIn mid side st.x.1 ⊎ Goes mid side st.x.1 → Ways
      by (inl hindered) = inr (inr (st.hindered (inl hindered)))
      by (inr it) = exchanged it

pub proceeds_in_time :
    (p q : PairValue) (side : Side) (course : List (ℤ × PairEvent)) (wait delay : ℕ) (now : ℤ) → IsReached p → AreOpen p → Steps p (events_of course) q
    → AreThere q → ((socket_of p side).tcb.sender.flight_size == 0) ≡ false → IsSentInTime wait delay now p side course
    → (now +ℤ pos (span_of wait delay p side)) <ℤ end_of now course
    → HasRisen p q side ⊎ (HasRisen p q (other side) ⊎ IsHinderedAmong p side (events_of course))
proceeds_in_time p q side course wait delay now r o s there flight c over =
    by
    (starts_in_course (Lasts delay) (lasts_on delay) p q side course wait now r o s (there_of q side there) flight c.clock c.clocked c.asks
    (c.taken, c.delivers) (less_time ((now +ℤ pos (put_off_in p side)) +ℤ pos wait) (end_of now course) delay over_all))
  where
    over_all : ((((now +ℤ pos (put_off_in p side)) +ℤ pos wait) +ℤ pos delay) +ℤ pos delay) <ℤ end_of now course
    over_all = subst (λ (m : ℤ). m <ℤ end_of now course) (sum_of now (put_off_in p side) wait delay) over

    by :
        (acked_in p side < acked_in q side)
        ⊎ ((acked_in q side ≤ acked_in p side)
        × Start (Lasts delay) p q side now ((now +ℤ pos (put_off_in p side)) +ℤ pos wait) course)
        → HasRisen p q side ⊎ (HasRisen p q (other side) ⊎ IsHinderedAmong p side (events_of course))
    by (inl risen) = inl (inl risen)
    by (inr it) = started p q side course wait delay now r o there flight c it.0 it.1 over_all
