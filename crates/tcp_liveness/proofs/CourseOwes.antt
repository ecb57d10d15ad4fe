-- A side that owes something, and has nothing in flight, is asked and sends, where both windows let it.
use Rattle.std.proofs.Common.{◌≡◌, ◌⊎◌, inl, inr, ℕ, ◌+◌, ◌*◌, ◌<◌, ◌≤◌, ◌==◌, nat_le, nat_lt, max, ℤ, pos, ◌+ℤ◌, ◌≤ℤ◌, ◌<ℤ◌, Bool}
use Rattle.std.proofs.Common.{true, false, if◌then◌else◌, [], ◌∷◌, Some, refl, sym, ap, ◌∙◌, subst, arith}
use Rattle.std.proofs.lemmas.Bool.{eqb-true, leb-false, leb-true, ltb-false, ltb-true}
use Rattle.std.proofs.lemmas.Int.{ints}
use Rattle.tcp_refinement.specs.Offers.{IsBefore}
use Rattle.tcp_refinement.specs.PollAt.{PollAt}
use Rattle.tcp_block.proofs.Waits.{is_quiet}
use Rattle.tcp_invariants.specs.FourTuple.{FourTuple}
use Rattle.tcp_invariants.specs.Moments.{is_due}
use Rattle.tcp_invariants.proofs.OfferCases.{begun as asked_with}
use Rattle.tcp_invariants.proofs.OrderSteps.{clash}
use Rattle.tcp_refinement.specs.Pair.Sides.{other}
use Rattle.tcp_refinement.specs.Pair.Steps.{Steps}
use Rattle.tcp_block.specs.Value.{TcpValue, room_of}
use Rattle.tcp_refinement.specs.Pair.Values.{PairValue, past_at}
use Rattle.tcp_refinement.specs.declared.pair.event.PairEvent.{PairEvent}
use Rattle.tcp_refinement.specs.declared.pair.event.PairEvent.TheVariants.{Listen, Connect, Send, Recv, Close, Abort, TcpSetting, Clock, Offer, Deliver}
use Rattle.tcp_refinement.specs.declared.pair.event.Side.{Side}
use Rattle.tcp_refinement.specs.declared.pair.event.Side.TheVariants.{A, B}
use Rattle.tcp_liveness.specs.Arrivals.{is_synchronized}
use Rattle.tcp_liveness.specs.BothWays.{AreThere}
use Rattle.tcp_liveness.specs.Course.{Asks, DeliversWithin, IsSentInTime, IsAskedBy, IsHinderedAmong, IsHinderedIn, IsShutAmong, Wants, end_of, events_of, span_of}
use Rattle.tcp_liveness.specs.Exchange.{IsOpen}
use Rattle.tcp_liveness.specs.DelayedSegment.{sent_by}
use Rattle.tcp_liveness.specs.Onward.{AreOpen, HasRisen, acked_in}
use Rattle.tcp_liveness.specs.Pair.{HasStream, context_of, left_in, mtu_of, next_sent, socket_of}
use Rattle.tcp_liveness.specs.Reached.{IsReached}
use Rattle.tcp_liveness.specs.Restart.{Sends, first_cwnd, worth_sending}
use Rattle.tcp_liveness.specs.Rounds.{takes}
use Rattle.tcp_liveness.specs.Spans.{IsHeldAmong, IsHeldIn}
use Rattle.tcp_liveness.proofs.AgainGoes.{survives}
use Rattle.tcp_liveness.proofs.CourseGoes.{Goes, exchanges, proceeds_in_time, offered_there, shut_hinders}
use Rattle.tcp_liveness.proofs.CourseInstants.{later, less_time, not_both, sooner}
use Rattle.tcp_liveness.proofs.CourseRuns.{poll_is}
use Rattle.tcp_liveness.proofs.CourseParts.{Course, held_now}
use Rattle.tcp_liveness.proofs.CourseStands.{State as Owing, acked_to_end, moves, open_at, open_m, rm, still_owes, tail, there_m, timely}
use Rattle.tcp_liveness.proofs.LateExchange.{goes_last, goes_now}
use Rattle.tcp_liveness.proofs.LatePayload.{risen_since, stream_since}
use Rattle.tcp_liveness.proofs.Mirrored.{named_in}
use Rattle.tcp_liveness.proofs.OfItself.{sends_there, side_sends}
use Rattle.tcp_liveness.proofs.OnwardPairs.{MovesIn, begun}
use Rattle.tcp_liveness.proofs.Pair.{not_closed}
use Rattle.tcp_liveness.proofs.Resent.{again_sent}
use Rattle.tcp_liveness.proofs.Resumes.{StartsWith, payload}

-- WHAT IT WANTS

record IsWide (v : TcpValue) : Type 0 where
  pub window : worth_sending v ≤ v.tcb.peer.window
  pub cwnd : worth_sending v ≤ v.tcb.reno.cwnd

wide_or_held : (p : PairValue) (side : Side) → (socket_of p side).tcb.sender.flight_size ≡ 0 → IsWide (socket_of p side) ⊎ IsHeldIn p side
wide_or_held p side none = by (nat_le worth window) (nat_le worth cwnd) refl refl where
  worth : ℕ
  worth = worth_sending (socket_of p side)

  window : ℕ
  window = (socket_of p side).tcb.peer.window

  cwnd : ℕ
  cwnd = (socket_of p side).tcb.reno.cwnd

  by : (a b : Bool) → nat_le worth window ≡ a → nat_le worth cwnd ≡ b → IsWide (socket_of p side) ⊎ IsHeldIn p side
  by true true e f = inl (record { window = leb-true worth window e; cwnd = leb-true worth cwnd f })
  by false b e f = inr (none, inl (leb-false worth window e))
  by true false e f = inr (none, inr (leb-false worth cwnd f))

-- it has payload to send, and wants to be asked
wants_idle :
    (p : PairValue) (side : Side) (due : ℤ) → IsReached p → IsOpen (socket_of p side).tcb → 1 ≤ left_in p side
    → (socket_of p side).tcb.sender.flight_size ≡ 0 → IsWide (socket_of p side) → Wants due p side
wants_idle p side due r mine owes none wide before =
    clash
    (sym
    (payload (context_of p side due) (socket_of p side) named.0 (asked_with (context_of p side due) (socket_of p side)) starts
    (record { window = wide.window; cwnd = wide.cwnd }))
    ∙ (is_quiet (context_of p side due) (socket_of p side) named.0
    (subst (λ (at : PollAt). IsBefore due at)
    (poll_is (mtu_of p side) (socket_of p side) named.0 named.1 (not_closed (socket_of p side).tcb.state mine.synchronized)) before)).payload)
  where
    named : (pair : FourTuple) × ((socket_of p side).tcb.names.pair ≡ Some pair)
    named = named_in p side r mine.synchronized

    starts : StartsWith (context_of p side due) (socket_of p side) named.0 (asked_with (context_of p side due) (socket_of p side))
    starts = record {
      sends = sends_there p side r mine.synchronized mine.acknowledged owes;
      syn = mine.acknowledged;
      none = none;
      owes = owes;
      mss = refl;
      tsval = refl;
      again = again_sent p side r mine.acknowledged named.0.addresses (mtu_of p side) (socket_of p side).queued;
    }

-- WHAT IT SENDS

sends_idle :
    (p : PairValue) (side : Side) (instant : ℤ) → IsReached p → IsOpen (socket_of p side).tcb → 1 ≤ left_in p side
    → (socket_of p side).tcb.sender.flight_size ≡ 0 → IsWide (socket_of p side)
    → is_synchronized (socket_of (takes p (Offer side instant true)) side).tcb.state ≡ true
    → IsHinderedIn p side (Offer side instant true) ⊎ Goes p side (Offer side instant true)
sends_idle p side instant r mine owes none wide stays = by (nat_le worth cwnd) refl where
  v : TcpValue
  v = socket_of p side

  worth : ℕ
  worth = worth_sending v

  cwnd : ℕ
  cwnd = first_cwnd (context_of p side instant) v.tcb

  sends : worth ≤ cwnd → Sends (context_of p side instant) v
  sends e =
      let named = named_in p side r mine.synchronized in
      side_sends p side instant r
      (record {
        own = mine;
        owes = owes;
        over = inl none;
        goes = survives (context_of p side instant) v mine.synchronized named.0 named.1 (offered_there p side instant stays);
        window = wide.window;
        cwnd = e;
      })

  goes : Sends (context_of p side instant) v → Goes p side (Offer side instant true)
  goes s = record {
    x = sent_by p side s.o;
    goes = goes_now p side instant s.o r mine (inl none) s.offered s.kind s.some;
    sent = goes_last p side instant s.o r mine (inl none) s.offered s.kind;
  }

  -- the window of congestion control is small only where the timer has run out
  small : cwnd < worth → (due : Bool) → is_due instant v.tcb.timers.retransmit_at ≡ due → IsHinderedIn p side (Offer side instant true)
  small e true due = (refl, (due, inr e))
  small e false not =
      absurd
      (never worth v.tcb.reno.cwnd wide.cwnd
      (subst (λ (n : ℕ). n < worth) (ap (λ (t : Bool). if t then v.tcb.reno.mss else v.tcb.reno.cwnd) not) e))
    where
      never : (a b : ℕ) → a ≤ b → b < a → ⊥
      never a b e f = absurd (omega arith)

  by : (b : Bool) → nat_le worth cwnd ≡ b → IsHinderedIn p side (Offer side instant true) ⊎ Goes p side (Offer side instant true)
  by true e = inr (goes (sends (leb-true worth cwnd e)))
  by false e = inl (small (leb-false worth cwnd e) (is_due instant v.tcb.timers.retransmit_at) refl)

asked_sends :
    (p : PairValue) (side : Side) (event : PairEvent) → Asks side event → IsReached p → IsOpen (socket_of p side).tcb → 1 ≤ left_in p side
    → (socket_of p side).tcb.sender.flight_size ≡ 0 → IsWide (socket_of p side)
    → is_synchronized (socket_of (takes p event) side).tcb.state ≡ true → IsHinderedIn p side event ⊎ Goes p side event
asked_sends p A (Offer A instant true) asks r mine owes none wide stays = sends_idle p A instant r mine owes none wide stays
asked_sends p B (Offer B instant true) asks r mine owes none wide stays = sends_idle p B instant r mine owes none wide stays
asked_sends p A (Offer B instant true) asks r mine owes none wide stays = absurd (cc)
asked_sends p B (Offer A instant true) asks r mine owes none wide stays = absurd (cc)
asked_sends p side (Offer of instant false) never r mine owes none wide stays = absurd never
asked_sends p side (Listen of endpoint) never r mine owes none wide stays = absurd never
asked_sends p side (Connect of remote local) never r mine owes none wide stays = absurd never
asked_sends p side (Send of bytes) never r mine owes none wide stays = absurd never
asked_sends p side (Recv of count) never r mine owes none wide stays = absurd never
asked_sends p side (Close of) never r mine owes none wide stays = absurd never
asked_sends p side (Abort of) never r mine owes none wide stays = absurd never
asked_sends p side (TcpSetting of setting) never r mine owes none wide stays = absurd never
asked_sends p side (Clock of instant) never r mine owes none wide stays = absurd never
asked_sends p side (Deliver from k) never r mine owes none wide stays = absurd never

-- MOMENTS

two_segments : (a end : ℤ) (more delay : ℕ) → (a +ℤ pos (more + delay + delay)) <ℤ end → ((a +ℤ pos delay) +ℤ pos delay) <ℤ end
two_segments a end more delay e = first_of (omega (arith, ints), grind (arith, ints))

waits_first : (a end : ℤ) (wait span : ℕ) → (a +ℤ pos (wait + span)) <ℤ end → ((a +ℤ pos wait) +ℤ pos span) <ℤ end
waits_first a end wait span e = first_of (omega (arith, ints), grind (arith, ints))

-- THE COURSE

module _ (q : PairValue) (side : Side) (there : AreThere q) (wait delay : ℕ) where
  -- a side that owes something, in a course in which each segment comes in time
  record State (p : PairValue) (now : ℤ) (course : Course) : Type 0 where
    on : Owing q side there wait p now course
    delivers : DeliversWithin delay p course
    stream : HasStream (past_at p side)

  abbrev Ways : PairValue → Course → Type 0
  Ways p course =
      HasRisen p q side
      ⊎ (HasRisen p q (other side) ⊎ (IsHinderedAmong p side (events_of course) ⊎ IsHeldAmong p side (events_of course)))

  -- with something in flight
  flies : (p : PairValue) (now : ℤ) (course : Course) → State p now course → ((socket_of p side).tcb.sender.flight_size == 0) ≡ false
      → (now +ℤ pos (span_of wait delay p side)) <ℤ end_of now course → Ways p course
  flies p now course h flight over =
      by
      (proceeds_in_time p q side course wait delay now h.on.reached
      (open_at q side there wait p now course A h.on, open_at q side there wait p now course B h.on) h.on.steps there flight in_time over)
    where
      in_time : IsSentInTime wait delay now p side course
      in_time =
          let c = h.on.in_time in
          record {
            clock = c.clock;
            clocked = c.clocked;
            asks = c.asks;
            taken = c.taken;
            delivers = h.delivers;
            stream = h.stream;
            room = c.room;
          }

      by : HasRisen p q side ⊎ (HasRisen p q (other side) ⊎ IsHinderedAmong p side (events_of course)) → Ways p course
      by (inl risen) = inl risen
      by (inr (inl risen)) = inr (inl risen)
      by (inr (inr it)) = inr (inr (inl it))

  module _ (p : PairValue) (now : ℤ) (x : ℤ × PairEvent) (course : Course) (h : State p now (x ∷ course)) where
    abbrev m : PairValue
    m = takes p x.1

    first : (of : Side) → MovesIn p m of
    first of = moves q side there wait p now x course h.on of

    opened : (of : Side) → IsOpen (socket_of m of).tcb
    opened of = open_m q side there wait p now x course h.on of

    mine : IsOpen (socket_of p side).tcb
    mine = open_at q side there wait p now (x ∷ course) side h.on

    lifted : (of : Side) → HasRisen m q of → HasRisen p q of
    lifted of risen = risen_since p m q of (first of) risen

    lift : Ways m course → Ways p (x ∷ course)
    lift (inl risen) = inl (lifted side risen)
    lift (inr (inl risen)) = inr (inl (lifted (other side) risen))
    lift (inr (inr (inl it))) = inr (inr (inl (inr it)))
    lift (inr (inr (inr it))) = inr (inr (inr (inr it)))

    stream : HasStream (past_at m side)
    stream = stream_since p m side h.on.reached mine h.on.owes (first side) h.stream

    following : acked_in m side ≤ acked_in p side → State m x.0 course
    following e = record {
      on = tail q side there wait p now x course h.on (still_owes q side there wait p now x course h.on e);
      delivers = h.delivers.1;
      stream = stream;
    }

    risen_now : acked_in p side < acked_in m side → Ways p (x ∷ course)
    risen_now e = inl (inl (three (acked_in p side) (acked_in m side) (acked_in q side) e (acked_to_end q side there wait p now x course h.on))) where
      three : (a b c : ℕ) → a < b → b ≤ c → a < c
      three a b c e f = omega arith

    same_span : span_of wait delay m side ≡ span_of wait delay p side
    same_span = ap (λ (k : ℕ). (max 1 k + 2 + 2) * 60_000_000 + wait + delay + delay) (first (other side)).room

    -- the side is asked now
    asked_now : Asks side x.1 → (socket_of p side).tcb.sender.flight_size ≡ 0 → IsWide (socket_of p side)
        → ((x.0 +ℤ pos delay) +ℤ pos delay) <ℤ end_of x.0 course → Ways p (x ∷ course)
    asked_now asks none wide over =
        by
        (asked_sends p side x.1 asks h.on.reached mine h.on.owes none wide (there_m q side there wait p now x course h.on side))
      where
        exchanged : HasRisen m q side ⊎ (HasRisen m q (other side) ⊎ IsShutAmong m side (next_sent p side) course) → Ways p (x ∷ course)
        exchanged (inl risen) = inl (lifted side risen)
        exchanged (inr (inl risen)) = inr (inl (lifted (other side) risen))
        exchanged (inr (inr shut)) = inr (inr (inl (inr (shut_hinders m side (next_sent p side) course shut))))

        room : 1 ≤ room_of (socket_of m (other side)).received
        room = subst (λ (n : ℕ). 1 ≤ n) (sym (first (other side)).room) h.on.in_time.room

        by : IsHinderedIn p side x.1 ⊎ Goes p side x.1 → Ways p (x ∷ course)
        by (inl it) = inr (inr (inl (inl it)))
        by (inr it) =
            exchanged
            (exchanges p q side x course delay it (rm q side there wait p now x course h.on) (opened A, opened B) h.on.steps.1 there stream room h.delivers
            h.on.in_time.clocked.1.1 over)

  -- the side waits to be asked
  walk :
      (p : PairValue) (now : ℤ) (course : Course) (due last : ℤ) → State p now course → (socket_of p side).tcb.sender.flight_size ≡ 0 → now ≤ℤ last
      → IsAskedBy due last side p course → (last +ℤ pos (span_of wait delay p side)) <ℤ end_of now course → Ways p course
  walk p now [] due last h none before asked over =
      absurd (not_both last now before (less_time last now (span_of wait delay p side) over))
  walk p now (x ∷ course) due last h none before asked over =
      by
      (λ (h : State (takes p x.1) x.0 course) (none : (socket_of (takes p x.1) side).tcb.sender.flight_size ≡ 0)
      (more : IsAskedBy due last side (takes p x.1) course).
      walk (takes p x.1) x.0 course due last h none asked.0 more over_on)
      (wide_or_held p side none)
    where
      over_on : (last +ℤ pos (span_of wait delay (takes p x.1) side)) <ℤ end_of x.0 course
      over_on = subst (λ (n : ℕ). (last +ℤ pos n) <ℤ end_of x.0 course) (sym (same_span p now x course h)) over

      Rest : Type 0
      Rest =
          State (takes p x.1) x.0 course → (socket_of (takes p x.1) side).tcb.sender.flight_size ≡ 0 → IsAskedBy due last side (takes p x.1) course
          → Ways (takes p x.1) course

      -- it doesn't want to be asked any more
      unwilling :
          State (takes p x.1) x.0 course → (socket_of (takes p x.1) side).tcb.sender.flight_size ≡ 0 → (Wants due (takes p x.1) side → ⊥)
          → IsWide (socket_of (takes p x.1) side) ⊎ IsHeldIn (takes p x.1) side → Ways (takes p x.1) course
      unwilling on idle not (inl wide) =
          absurd (not (wants_idle (takes p x.1) side due on.on.reached (opened p now x course h side) on.on.owes idle wide))
      unwilling on idle not (inr held) = inr (inr (inr (held_now (takes p x.1) side course held)))

      idle_on :
          Rest → ((Wants due (takes p x.1) side → ⊥) ⊎ IsAskedBy due last side (takes p x.1) course) → State (takes p x.1) x.0 course
          → (empty : Bool) → ((socket_of (takes p x.1) side).tcb.sender.flight_size == 0) ≡ empty → Ways (takes p x.1) course
      idle_on rest next on false e =
          flies (takes p x.1) x.0 course on e (sooner x.0 last (end_of x.0 course) (span_of wait delay (takes p x.1) side) asked.0 over_on)
      idle_on rest (inl not) on true e =
          let idle = eqb-true (socket_of (takes p x.1) side).tcb.sender.flight_size 0 e in
          unwilling on idle not (wide_or_held (takes p x.1) side idle)
      idle_on rest (inr more) on true e = rest on (eqb-true (socket_of (takes p x.1) side).tcb.sender.flight_size 0 e) more

      goes_by :
          Rest → ((Wants due (takes p x.1) side → ⊥) ⊎ IsAskedBy due last side (takes p x.1) course) → (risen : Bool)
          → nat_lt (acked_in p side) (acked_in (takes p x.1) side) ≡ risen → Ways p (x ∷ course)
      goes_by rest next true e = risen_now p now x course h (ltb-true (acked_in p side) (acked_in (takes p x.1) side) e)
      goes_by rest next false e =
          lift p now x course h
          (idle_on rest next
          (following p now x course h (ltb-false (acked_in p side) (acked_in (takes p x.1) side) e))
          ((socket_of (takes p x.1) side).tcb.sender.flight_size == 0) refl)

      with_room : IsWide (socket_of p side) → Rest → Asks side x.1 ⊎ ((Wants due (takes p x.1) side → ⊥) ⊎ IsAskedBy due last side (takes p x.1) course)
          → Ways p (x ∷ course)
      with_room wide rest (inl asks) =
          asked_now p now x course h asks none wide
          (two_segments x.0 (end_of x.0 course) _ delay (sooner x.0 last (end_of x.0 course) (span_of wait delay p side) asked.0 over))
      with_room wide rest (inr next) = goes_by rest next (nat_lt (acked_in p side) (acked_in (takes p x.1) side)) refl

      by : Rest → IsWide (socket_of p side) ⊎ IsHeldIn p side → Ways p (x ∷ course)
      by rest (inr held) = inr (inr (inr (inl held)))
      by rest (inl wide) = with_room wide rest asked.1

  -- a side that owes something
  owed : (p : PairValue) (now : ℤ) (course : Course) → State p now course → (now +ℤ pos (wait + span_of wait delay p side)) <ℤ end_of now course → Ways p course
  owed p now course h over = by ((socket_of p side).tcb.sender.flight_size == 0) refl where
    in_two : ((now +ℤ pos wait) +ℤ pos (span_of wait delay p side)) <ℤ end_of now course
    in_two = waits_first now (end_of now course) wait (span_of wait delay p side) over

    starts :
        (course : Course) → State p now course → (socket_of p side).tcb.sender.flight_size ≡ 0
        → ((now +ℤ pos wait) +ℤ pos (span_of wait delay p side)) <ℤ end_of now course → IsWide (socket_of p side) → Ways p course
    starts [] h none over wide =
        absurd
        (not_both (now +ℤ pos wait) now (later now wait) (less_time (now +ℤ pos wait) now (span_of wait delay p side) over))
    starts (x ∷ course) h none over wide =
        walk p now (x ∷ course) now (now +ℤ pos wait) h none (later now wait)
        (h.on.in_time.asks.0 side now (itself now)
        (wants_idle p side now h.on.reached (open_at q side there wait p now (x ∷ course) side h.on) h.on.owes none wide))
        over
      where
        itself : (a : ℤ) → a ≤ℤ a
        itself a = grind arith

    idle : (socket_of p side).tcb.sender.flight_size ≡ 0 → IsWide (socket_of p side) ⊎ IsHeldIn p side → Ways p course
    idle none (inl wide) = starts course h none in_two wide
    idle none (inr held) = inr (inr (inr (held_now p side course held)))

    by : (empty : Bool) → ((socket_of p side).tcb.sender.flight_size == 0) ≡ empty → Ways p course
    by true e = let none = eqb-true (socket_of p side).tcb.sender.flight_size 0 e in idle none (wide_or_held p side none)
    by false e = flies p now course h e (sooner now (now +ℤ pos wait) (end_of now course) (span_of wait delay p side) (later now wait) in_two)

pub owed_in_time :
    (p q : PairValue) (side : Side) (course : Course) (wait delay : ℕ) (now : ℤ) → IsReached p → AreOpen p → Steps p (events_of course) q → AreThere q
    → 1 ≤ left_in p side → IsSentInTime wait delay now p side course → (now +ℤ pos (wait + span_of wait delay p side)) <ℤ end_of now course
    → HasRisen p q side ⊎ (HasRisen p q (other side) ⊎ (IsHinderedAmong p side (events_of course) ⊎ IsHeldAmong p side (events_of course)))
owed_in_time p q side course wait delay now r o s there owes c over =
    owed q side there wait delay p now course
    (record {
      on = record {
        reached = r;
        a = begun p A r o.0;
        b = begun p B r o.1;
        steps = s;
        owes = owes;
        in_time = timely wait delay now p side course c;
      };
      delivers = c.delivers;
      stream = c.stream;
    })
    over
