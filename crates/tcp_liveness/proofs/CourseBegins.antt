-- A side that owes something sends from SND.UNA on in time, whatever its windows are, where the other's user reads.
use Rattle.std.proofs.Common.{◌≡◌, ◌⊎◌, inl, inr, ℕ, zero, suc, ◌+◌, ◌-◌, ◌*◌, ◌<◌, ◌≤◌, ◌==◌, nat_lt, max, ℤ, pos, ◌+ℤ◌, ◌≤ℤ◌, ◌<ℤ◌, Bool, true, false}
use Rattle.std.proofs.Common.{List, [], ◌∷◌, ◌++◌, Option, Some, None, refl, sym, ap, ◌∙◌, subst, arith}
use Rattle.std.proofs.lemmas.Bool.{eqb-true, ltb-false, ltb-true}
use Rattle.std.proofs.lemmas.Int.{ints}
use Rattle.tcp_invariants.specs.Moments.{is_due}
use Rattle.tcp_invariants.specs.Timing.{carries}
use Rattle.tcp_invariants.proofs.OrderSteps.{clash}
use Rattle.tcp_block.specs.Offers.{offer_of}
use Rattle.tcp_refinement.specs.Pair.Sides.{at, other}
use Rattle.tcp_refinement.specs.Pair.Steps.{Steps, refusal}
use Rattle.tcp_block.specs.Value.{free_in}
use Rattle.tcp_refinement.specs.Pair.Values.{PairValue}
use Rattle.tcp_refinement.specs.declared.pair.event.PairEvent.{PairEvent}
use Rattle.tcp_refinement.specs.declared.pair.event.PairEvent.TheVariants.{Listen, Connect, Send, Recv, Close, Abort, TcpSetting, Clock, Offer, Deliver}
use Rattle.tcp_refinement.specs.declared.pair.event.Side.{Side}
use Rattle.tcp_refinement.specs.declared.pair.event.Side.TheVariants.{A, B}
use Rattle.tcp_liveness.specs.Anew.{BeginsAnew, BeginsAnewIn, put_off_in}
use Rattle.tcp_liveness.specs.Arrivals.{is_synchronized}
use Rattle.tcp_liveness.specs.BothWays.{AreThere, total_in}
use Rattle.tcp_liveness.specs.Course.{AreTaken, AsksWithin, IsAt, IsClocked, IsTaken, end_of, events_of}
use Rattle.tcp_liveness.specs.Exchange.{IsOpen}
use Rattle.tcp_liveness.specs.Onward.{acked_in}
use Rattle.tcp_liveness.specs.Pair.{context_of, left_in, socket_of}
use Rattle.tcp_liveness.specs.PutOff.{IsRunning, RunsOutIn}
use Rattle.tcp_liveness.specs.Reached.{IsReached}
use Rattle.tcp_liveness.specs.Readers.{IsReadBy, Reads, ReadsWithin}
use Rattle.tcp_liveness.specs.Rounds.{takes}
use Rattle.tcp_liveness.specs.Sent.{taken_in}
use Rattle.tcp_liveness.proofs.CourseGoes.{Goes, begins_anew, sent_all}
use Rattle.tcp_liveness.proofs.CourseIdle.{Open, idle_out}
use Rattle.tcp_liveness.proofs.CourseInstants.{at_most, later, less_time, not_both, sooner}
use Rattle.tcp_liveness.proofs.CourseStands.{Gets, Stands, State, acked_to_end, back, lift, moves, open_at, stands_first, stands_on, still_owes, tail}
use Rattle.tcp_liveness.proofs.CourseParts.{Course, Midway, midway, there_before}
use Rattle.tcp_liveness.proofs.CourseRuns.{Start, runs_in_course}
use Rattle.tcp_liveness.proofs.Frees.{frees_on, reads_free}
use Rattle.tcp_liveness.proofs.Idles.{IsIdle}
use Rattle.tcp_liveness.proofs.Kept.{reached_by}
use Rattle.tcp_liveness.proofs.LatePayload.{left_within, there_of}
use Rattle.tcp_liveness.proofs.OnwardPairs.{IsBegun, MovesIn, begun_after, by_steps, then_moves}
use Rattle.tcp_liveness.proofs.OrWaits.{IsBare, WaitsIn, goes_or_waits}
use Rattle.tcp_liveness.proofs.PutOff.{is_running}
use Rattle.tcp_liveness.proofs.PutOffRuns.{begun_of}

-- FREE SPACE, THROUGH EVENTS

pub free_through :
    (p m : PairValue) (side : Side) (events : List PairEvent) → IsReached p → IsBegun p A → IsBegun p B → Steps p events m
    → is_synchronized (socket_of m side).tcb.state ≡ true → 1 ≤ free_in (socket_of p side)
    → (1 ≤ free_in (socket_of m side)) ⊎ (taken_in p side < taken_in m side)
free_through p m side [] r a b s there free = inl (subst (λ (x : PairValue). 1 ≤ free_in (socket_of x side)) (sym s) free)
free_through p m side (event ∷ events) r a b s there free =
    by
    (λ (e : 1 ≤ free_in (socket_of n side)).
    free_through n m side events rn (begun_after p n A (first A) a) (begun_after p n B (first B) b) s.1 there e)
    (frees_on p event side (there_before p m side (begun_of p side a b) (by_steps p (event ∷ events) m r a b s side) there))
  where
    n : PairValue
    n = takes p event

    rn : IsReached n
    rn = reached_by p n (event ∷ []) r (s.0, refl)

    first : (of : Side) → MovesIn p n of
    first of = by_steps p (event ∷ []) n r a b (s.0, refl) of

    then : MovesIn n m side
    then = by_steps n events m rn (begun_after p n A (first A) a) (begun_after p n B (first B) b) s.1 side

    more : (a b : ℕ) → 1 ≤ a → a ≤ b → 1 ≤ b
    more a b e f = omega arith

    less : (a b c : ℕ) → a < b → b ≤ c → a < c
    less a b c e f = omega arith

    last : (a b c : ℕ) → a ≤ b → b < c → a < c
    last a b c e f = omega arith

    further : (1 ≤ free_in (socket_of m side)) ⊎ (taken_in n side < taken_in m side) → (1 ≤ free_in (socket_of m side)) ⊎ (taken_in p side < taken_in m side)
    further (inl e) = inl e
    further (inr e) = inr (last (taken_in p side) (taken_in n side) (taken_in m side) (first side).taken e)

    by :
        (1 ≤ free_in (socket_of n side) → (1 ≤ free_in (socket_of m side)) ⊎ (taken_in n side < taken_in m side))
        → (free_in (socket_of p side) ≤ free_in (socket_of n side)) ⊎ (taken_in p side < taken_in n side)
        → (1 ≤ free_in (socket_of m side)) ⊎ (taken_in p side < taken_in m side)
    by on (inl e) = further (on (more (free_in (socket_of p side)) (free_in (socket_of n side)) free e))
    by on (inr e) = inr (less (taken_in p side) (taken_in n side) (taken_in m side) e then.taken)

-- WHERE ITS TIMER RUNS OUT

-- with this event a segment goes, or the side has nothing in flight then, and no timer
abbrev GoesOrIdles : PairValue → Side → PairEvent → Type 0
GoesOrIdles p side event = Goes p side event ⊎ IsIdle (socket_of (takes p event) side)

record IsHere (p : PairValue) (side : Side) (event : PairEvent) : Type 0 where
  reached : IsReached p
  mine : IsOpen (socket_of p side).tcb
  owes : 1 ≤ left_in p side
  stays : is_synchronized (socket_of (takes p event) side).tcb.state ≡ true

out_or_idles :
    (p : PairValue) (side : Side) (instant : ℤ) → IsHere p side (Offer side instant true)
    → is_due instant (socket_of p side).tcb.timers.retransmit_at ≡ true → GoesOrIdles p side (Offer side instant true)
out_or_idles p side instant h due = by (goes_or_waits p side instant h.reached h.mine h.owes (inr due) h.stays) where
  by : {X : Type 0} → Goes p side (Offer side instant true) ⊎ (WaitsIn p side instant × X) → GoesOrIdles p side (Offer side instant true)
  by (inl it) = inl it
  by (inr w) = inr (record { none = w.0.waits.none; timer = w.0.waits.timer_is ∙ w.0.out due })

anew_goes :
    (p : PairValue) (side : Side) (instant : ℤ) → IsHere p side (Offer side instant true)
    → BeginsAnew (offer_of (context_of p side instant) (socket_of p side)).socket → Goes p side (Offer side instant true)
anew_goes p side instant h it = by ((socket_of p side).tcb.sender.flight_size == 0) refl where
  idle : Goes p side (Offer side instant true) ⊎ (WaitsIn p side instant × IsBare (offer_of (context_of p side instant) (socket_of p side)).socket.offered) →
      Goes p side (Offer side instant true)
  idle (inl goes) = goes
  idle (inr w) = clash (sym (ap carries it.kind) ∙ w.1 it.o it.offered)

  positive : (n : ℕ) → (n == 0) ≡ false → 1 ≤ n
  positive zero e = clash e
  positive (suc n) e = one n where
    one : (n : ℕ) → 1 ≤ suc n
    one n = omega arith

  more : (a b : ℕ) → 1 ≤ a → a ≤ b → 1 ≤ b
  more a b e f = omega arith

  by : (none : Bool) → ((socket_of p side).tcb.sender.flight_size == 0) ≡ none → Goes p side (Offer side instant true)
  by true e =
      idle
      (goes_or_waits p side instant h.reached h.mine h.owes (inl (eqb-true (socket_of p side).tcb.sender.flight_size 0 e)) h.stays)
  by false e =
      begins_anew p side instant
      (record {
        reached = h.reached;
        mine = h.mine;
        owes = h.owes;
        snd_max =
            more (socket_of p side).tcb.sender.flight_size (socket_of p side).tcb.sender.snd_max (positive (socket_of p side).tcb.sender.flight_size e)
            (sent_all p side h.reached h.mine);
        stays = h.stays;
      })
      it

starts_or_idles : (p : PairValue) (side : Side) (event : PairEvent) → RunsOutIn p side event ⊎ BeginsAnewIn p side event → IsTaken event → IsHere p side event →
    GoesOrIdles p side event
starts_or_idles p A (Offer A instant true) (inl out) taken h = out_or_idles p A instant h out.1
starts_or_idles p B (Offer B instant true) (inl out) taken h = out_or_idles p B instant h out.1
starts_or_idles p A (Offer A instant true) (inr anew) taken h = inl (anew_goes p A instant h anew.1)
starts_or_idles p B (Offer B instant true) (inr anew) taken h = inl (anew_goes p B instant h anew.1)
starts_or_idles p A (Offer B instant true) (inl out) taken h = absurd (let no = out.0 in cc)
starts_or_idles p B (Offer A instant true) (inl out) taken h = absurd (let no = out.0 in cc)
starts_or_idles p A (Offer B instant true) (inr anew) taken h = absurd (let no = anew.0 in cc)
starts_or_idles p B (Offer A instant true) (inr anew) taken h = absurd (let no = anew.0 in cc)
starts_or_idles p side (Offer of instant false) starts taken h = clash (sym taken)
starts_or_idles p side (Listen of endpoint) (inl never) taken h = absurd never
starts_or_idles p side (Listen of endpoint) (inr never) taken h = absurd never
starts_or_idles p side (Connect of remote local) (inl never) taken h = absurd never
starts_or_idles p side (Connect of remote local) (inr never) taken h = absurd never
starts_or_idles p side (Send of bytes) (inl never) taken h = absurd never
starts_or_idles p side (Send of bytes) (inr never) taken h = absurd never
starts_or_idles p side (Recv of count) (inl never) taken h = absurd never
starts_or_idles p side (Recv of count) (inr never) taken h = absurd never
starts_or_idles p side (Close of) (inl never) taken h = absurd never
starts_or_idles p side (Close of) (inr never) taken h = absurd never
starts_or_idles p side (Abort of) (inl never) taken h = absurd never
starts_or_idles p side (Abort of) (inr never) taken h = absurd never
starts_or_idles p side (TcpSetting of setting) (inl never) taken h = absurd never
starts_or_idles p side (Clock of instant) (inl never) taken h = absurd never
starts_or_idles p side (TcpSetting of setting) (inr never) taken h = absurd never
starts_or_idles p side (Clock of instant) (inr never) taken h = absurd never
starts_or_idles p side (Deliver from k) (inl never) taken h = absurd never
starts_or_idles p side (Deliver from k) (inr never) taken h = absurd never

-- the clock of a side that starts so is the one of the course
clock_at :
    (p : PairValue) (now : ℤ) (side : Side) (event : PairEvent) → RunsOutIn p side event ⊎ BeginsAnewIn p side event → IsTaken event → IsAt now event
    → (at (takes p event).sides side).instant ≤ℤ now
clock_at p now A (Offer A instant true) starts taken is = at_most instant now is
clock_at p now B (Offer B instant true) starts taken is = at_most instant now is
clock_at p now A (Offer B instant true) (inl out) taken is = absurd (let no = out.0 in cc)
clock_at p now B (Offer A instant true) (inl out) taken is = absurd (let no = out.0 in cc)
clock_at p now A (Offer B instant true) (inr anew) taken is = absurd (let no = anew.0 in cc)
clock_at p now B (Offer A instant true) (inr anew) taken is = absurd (let no = anew.0 in cc)
clock_at p now side (Offer of instant false) starts taken is = clash (sym taken)
clock_at p now side (Listen of endpoint) (inl never) taken is = absurd never
clock_at p now side (Listen of endpoint) (inr never) taken is = absurd never
clock_at p now side (Connect of remote local) (inl never) taken is = absurd never
clock_at p now side (Connect of remote local) (inr never) taken is = absurd never
clock_at p now side (Send of bytes) (inl never) taken is = absurd never
clock_at p now side (Send of bytes) (inr never) taken is = absurd never
clock_at p now side (Recv of count) (inl never) taken is = absurd never
clock_at p now side (Recv of count) (inr never) taken is = absurd never
clock_at p now side (Close of) (inl never) taken is = absurd never
clock_at p now side (Close of) (inr never) taken is = absurd never
clock_at p now side (Abort of) (inl never) taken is = absurd never
clock_at p now side (Abort of) (inr never) taken is = absurd never
clock_at p now side (TcpSetting of setting) (inl never) taken is = absurd never
clock_at p now side (Clock of instant) (inl never) taken is = absurd never
clock_at p now side (TcpSetting of setting) (inr never) taken is = absurd never
clock_at p now side (Clock of instant) (inr never) taken is = absurd never
clock_at p now side (Deliver from k) (inl never) taken is = absurd never
clock_at p now side (Deliver from k) (inr never) taken is = absurd never

-- THE COURSE

-- what is so after the first event of a course
abbrev Following : ℕ → PairValue → Course → Type 0
Following wait p [] = Unit {0}
Following wait p (x ∷ course) = IsAt x.0 x.1 × (IsClocked x.0 course × AsksWithin wait x.0 (takes p x.1) course)

following_on : (wait : ℕ) (p : PairValue) (x : ℤ × PairEvent) (course : Course) → Following wait p (x ∷ course) → Following wait (takes p x.1) course
following_on wait p x [] b = tt
following_on wait p x (y ∷ course) b = (b.1.0.1.0, (b.1.0.1.1, b.1.1.1))

following_of : (wait : ℕ) (now : ℤ) (p : PairValue) (course : Course) → IsClocked now course → AsksWithin wait now p course → Following wait p course
following_of wait now p [] clocked asks = tt
following_of wait now p (x ∷ course) clocked asks = (clocked.1.0, (clocked.1.1, asks.1))

module _ (q : PairValue) (side : Side) (there : AreThere q) (wait reserve : ℕ) where
  -- what is so of the rest of a course
  abbrev Lasts_ : PairValue → Course → PairValue → Course → Type 0
  Lasts_ p course m rest = AreTaken rest × (Following wait m rest × Stands p course m rest)

  lasts_all : (p : PairValue) (course : Course) (m : PairValue) (x : ℤ × PairEvent) (rest : Course) → Lasts_ p course m (x ∷ rest) →
      Lasts_ p course (takes m x.1) rest
  lasts_all p course m x rest l = (l.0.1, (following_on wait m x rest l.1.0, stands_on p course m x rest l.1.1))

  abbrev Gets_ : PairValue → Course → Type 0
  Gets_ p course = Gets q side reserve p course

  abbrev Open_ : PairValue → ℤ → Course → Type 0
  Open_ p now course = Open q side there wait reserve p now course

  idle_sum : (now end : ℤ) → (now +ℤ pos (wait + 60_000_000 + wait + reserve)) <ℤ end →
      ((((now +ℤ pos wait) +ℤ pos 60_000_000) +ℤ pos wait) +ℤ pos reserve) <ℤ end
  idle_sum now end e = first_of (omega (arith, ints), grind (arith, ints))

  idle_gets : (p : PairValue) (now : ℤ) (course : Course) → Open_ p now course → IsIdle (socket_of p side) →
      (now +ℤ pos (wait + 60_000_000 + wait + reserve)) <ℤ end_of now course → Gets_ p course
  idle_gets p now course o idle over = idle_out q side there wait reserve p now course o idle (idle_sum now (end_of now course) over)

  -- WITH A TIMER

  module _ (p : PairValue) (now : ℤ) (course : Course) (o : Open_ p now course) (same : acked_in q side ≤ acked_in p side)
      (st : Start (Lasts_ p course) p q side now ((now +ℤ pos (put_off_in p side)) +ℤ pos wait) course)
      (over : (((now +ℤ pos (put_off_in p side)) +ℤ pos wait) +ℤ pos (wait + 60_000_000 + wait + reserve)) <ℤ end_of now course) where
    abbrev h : State q side there wait p now course
    h = o.state

    abbrev mid : PairValue
    mid = st.mid

    abbrev after : PairValue
    after = takes mid st.x.1

    mine_p : IsOpen (socket_of p side).tcb
    mine_p = open_at q side there wait p now course side h

    at_mid : Midway p mid q
    at_mid = midway p mid q h.reached (λ of. begun_of p of h.a h.b) there st.before_it (st.x.1 ∷ events_of st.rest) st.steps st.steps_on

    at_after : Midway mid after q
    at_after = midway mid after q at_mid.reached at_mid.begun there (st.x.1 ∷ []) (events_of st.rest) (st.steps_on.0, refl) st.steps_on.1

    p_after : (of : Side) → MovesIn p after of
    p_after of = then_moves p mid after of (at_mid.to of) (at_after.to of)

    -- as long as no more is acknowledged, it owes something still
    owes_then : (m : PairValue) → MovesIn p m side → MovesIn m q side → left_in m side ≤ total_in m side → 1 ≤ left_in m side
    owes_then m to from within =
        by (total_in p side) (left_in p side) (total_in m side) (left_in m side) (total_in q side) (left_in q side) h.owes
        (left_within p side h.reached mine_p) within to.total from.acked same
      where
        by : (a b c d e f : ℕ) → 1 ≤ b → b ≤ a → d ≤ c → a ≤ c → c + f ≤ e + d → e - f ≤ a - b → 1 ≤ d
        by a b c d e f g h i j k l = omega arith

    -- it stands after that event
    stands_then : Stands p course after st.rest
    stands_then = stands_on p course mid st.x st.rest st.has.1.1

    following : Gets_ after st.rest → Gets_ p course
    following gets = back q side reserve p after course st.rest stands_then p_after gets

    here : IsHere mid side st.x.1
    here = record {
      reached = at_mid.reached;
      mine = at_mid.opened side;
      owes = owes_then mid (at_mid.to side) (at_mid.from side) (left_within mid side at_mid.reached (at_mid.opened side));
      stays = (at_after.opened side).synchronized;
    }

    -- the course as it is after that event
    after_open : 1 ≤ free_in (socket_of after (other side)) → Open_ after st.x.0 st.rest
    after_open free = record {
      state = record {
        reached = at_after.reached;
        a = at_after.begun A;
        b = at_after.begun B;
        steps = st.steps_on.1;
        owes = owes_then after (p_after side) (at_after.from side) (left_within after side at_after.reached (at_after.opened side));
        in_time = record {
          clock = clock_at mid st.x.0 side st.x.1 st.starts st.has.0.0 st.has.1.0.0;
          clocked = st.clocked;
          asks = st.has.1.0.1.1;
          taken = st.has.0.1;
          room = subst (λ (n : ℕ). 1 ≤ n) (sym (p_after (other side)).room) h.in_time.room;
        };
      };
      free = free;
    }

    over_then : (st.x.0 +ℤ pos (wait + 60_000_000 + wait + reserve)) <ℤ end_of st.x.0 st.rest
    over_then =
        subst (λ (end : ℤ). (st.x.0 +ℤ pos (wait + 60_000_000 + wait + reserve)) <ℤ end) (sym st.same_end)
        (sooner st.x.0 ((now +ℤ pos (put_off_in p side)) +ℤ pos wait) (end_of now course) (wait + 60_000_000 + wait + reserve) st.within over)

    enough : (a end : ℤ) (more : ℕ) → (a +ℤ pos (more + reserve)) <ℤ end → (a +ℤ pos reserve) <ℤ end
    enough a end more e = first_of (omega (arith, ints), grind (arith, ints))

    -- a segment went
    gone : Goes mid side st.x.1 → 1 ≤ free_in (socket_of after (other side)) → Gets_ p course
    gone it free =
        inr
        (inr
        (record {
          m = mid;
          x = st.x;
          rest = st.rest;
          stands = st.has.1.1;
          goes = it;
          free = free;
          over = enough st.x.0 (end_of st.x.0 st.rest) (wait + 60_000_000 + wait) over_then;
        }))

    started : Gets_ p course
    started =
        by_free
        (free_through p after (other side) (st.before_it ++ (st.x.1 ∷ [])) h.reached h.a h.b all_steps (at_after.opened (other side)).synchronized
        o.free)
      where
        steps_to : (a b c : PairValue) (before : List PairEvent) (event : PairEvent) → Steps a before b → refusal b event ≡ None →
            Steps a (before ++ (event ∷ [])) (takes b event)
        steps_to a b c [] event s e = subst (λ (x : PairValue). Steps x (event ∷ []) (takes b event)) s (e, refl)
        steps_to a b c (first ∷ before) event s e = (s.0, steps_to (takes a first) b c before event s.1 e)

        all_steps : Steps p (st.before_it ++ (st.x.1 ∷ [])) after
        all_steps = steps_to p mid after st.before_it st.x.1 st.steps st.steps_on.0

        open_then : 1 ≤ free_in (socket_of after (other side)) → GoesOrIdles mid side st.x.1 → Gets_ p course
        open_then free (inl it) = gone it free
        open_then free (inr idle) = following (idle_gets after st.x.0 st.rest (after_open free) idle over_then)

        less : (a b c : ℕ) → a < b → b ≤ c → a < c
        less a b c e f = omega arith

        by_free : (1 ≤ free_in (socket_of after (other side))) ⊎ (taken_in p (other side) < taken_in after (other side)) → Gets_ p course
        by_free (inl free) = open_then free (starts_or_idles mid side st.x.1 st.starts st.has.0.0 here)
        by_free (inr e) =
            inr (inl (inr (less (taken_in p (other side)) (taken_in after (other side)) (taken_in q (other side)) e (at_after.from (other side)).taken)))

  runs_sum : (now end : ℤ) (put : ℕ) → (now +ℤ pos (put + wait + (wait + 60_000_000 + wait + reserve))) <ℤ end →
      (((now +ℤ pos put) +ℤ pos wait) +ℤ pos (wait + 60_000_000 + wait + reserve)) <ℤ end
  runs_sum now end put e = first_of (omega (arith, ints), grind (arith, ints))

  -- a side with a timer, or with something in flight
  runs_gets : (p : PairValue) (now : ℤ) (course : Course) → Open_ p now course → IsRunning (socket_of p side) →
      (now +ℤ pos (put_off_in p side + wait + (wait + 60_000_000 + wait + reserve))) <ℤ end_of now course → Gets_ p course
  runs_gets p now course o it over =
      by
      (runs_in_course (Lasts_ p course) (lasts_all p course) p q side course wait now h.reached (opened A, opened B) h.steps (there_of q side there) it h.in_time.clock
      h.in_time.clocked h.in_time.asks
      (h.in_time.taken, (following_of wait now p course h.in_time.clocked h.in_time.asks, stands_first p course))
      (less_time ((now +ℤ pos (put_off_in p side)) +ℤ pos wait) (end_of now course) (wait + 60_000_000 + wait + reserve) over_all))
    where
      h : State q side there wait p now course
      h = o.state

      opened : (of : Side) → IsOpen (socket_of p of).tcb
      opened of = open_at q side there wait p now course of h

      over_all : (((now +ℤ pos (put_off_in p side)) +ℤ pos wait) +ℤ pos (wait + 60_000_000 + wait + reserve)) <ℤ end_of now course
      over_all = runs_sum now (end_of now course) (put_off_in p side) over

      by :
          (acked_in p side < acked_in q side)
          ⊎ ((acked_in q side ≤ acked_in p side) × Start (Lasts_ p course) p q side now ((now +ℤ pos (put_off_in p side)) +ℤ pos wait) course)
          → Gets_ p course
      by (inl risen) = inl (inl risen)
      by (inr it) = started p now course o it.0 it.1 over_all

  abbrev open_time : PairValue → ℕ
  open_time p = put_off_in p side + wait + (wait + 60_000_000 + wait + reserve)

  idle_less : (now end : ℤ) (put : ℕ) → (now +ℤ pos (put + wait + (wait + 60_000_000 + wait + reserve))) <ℤ end →
      (now +ℤ pos (wait + 60_000_000 + wait + reserve)) <ℤ end
  idle_less now end put e = first_of (omega (arith, ints), grind (arith, ints))

  -- where the other's window is open
  open_gets : (p : PairValue) (now : ℤ) (course : Course) → Open_ p now course → (now +ℤ pos (open_time p)) <ℤ end_of now course → Gets_ p course
  open_gets p now course o over = by (socket_of p side).tcb.timers.retransmit_at refl where
    r : IsReached p
    r = o.state.reached

    none_out : (socket_of p side).tcb.timers.retransmit_at ≡ None → (none : Bool) → ((socket_of p side).tcb.sender.flight_size == 0) ≡ none →
        (socket_of p side).tcb.sender.flight_size ≡ 0
    none_out e true is = eqb-true (socket_of p side).tcb.sender.flight_size 0 is
    none_out e false is = absurd (let it = is_running p side r is in let runs = it.runs in let never = sym e ∙ runs in cc)

    by : (timer : Option ℤ) → (socket_of p side).tcb.timers.retransmit_at ≡ timer → Gets_ p course
    by (Some when) e = runs_gets p now course o (record { at = when; runs = e }) over
    by None e =
        idle_gets p now course o
        (record { none = none_out e ((socket_of p side).tcb.sender.flight_size == 0) refl; timer = e })
        (idle_less now (end_of now course) (put_off_in p side) over)

  -- WHERE IT IS CLOSED

  -- a user whose buffer is full is waited for
  read_gets :
      (p : PairValue) (now : ℤ) (course : Course) (last : ℤ) → State q side there wait p now course → now ≤ℤ last
      → IsReadBy last (other side) course → (last +ℤ pos (open_time p)) <ℤ end_of now course → Gets_ p course
  read_gets p now [] last h before reads over = absurd (not_both last now before (less_time last now (open_time p) over))
  read_gets p now (x ∷ course) last h before reads over =
      by
      (λ (state : State q side there wait (takes p x.1) x.0 course) (more : IsReadBy last (other side) course).
      read_gets (takes p x.1) x.0 course last state reads.0 more over_on)
      (nat_lt (acked_in p side) (acked_in (takes p x.1) side)) refl
    where
      first : (of : Side) → MovesIn p (takes p x.1) of
      first of = moves q side there wait p now x course h of

      same_time : open_time (takes p x.1) ≡ open_time p
      same_time =
          ap (λ (k : ℕ). (max 1 k + 2 + 2) * 60_000_000 + wait + (wait + 60_000_000 + wait + reserve)) (first (other side)).room

      over_on : (last +ℤ pos (open_time (takes p x.1))) <ℤ end_of x.0 course
      over_on = subst (λ (n : ℕ). (last +ℤ pos n) <ℤ end_of x.0 course) (sym same_time) over

      lifted : Gets_ (takes p x.1) course → Gets_ p (x ∷ course)
      lifted gets = lift q side there wait p now x course h reserve gets

      Rest : Type 0
      Rest = State q side there wait (takes p x.1) x.0 course → IsReadBy last (other side) course → Gets_ (takes p x.1) course

      read_now : State q side there wait (takes p x.1) x.0 course → Reads (other side) x.1 → Gets_ (takes p x.1) course
      read_now state reads_it =
          open_gets (takes p x.1) x.0 course
          (record { state = state; free = reads_free p x.1 (other side) reads_it h.in_time.room })
          (sooner x.0 last (end_of x.0 course) (open_time (takes p x.1)) reads.0 over_on)

      on : Rest → State q side there wait (takes p x.1) x.0 course → Reads (other side) x.1 ⊎ IsReadBy last (other side) course → Gets_ (takes p x.1) course
      on rest state (inl reads_it) = read_now state reads_it
      on rest state (inr more) = rest state more

      less : (a b c : ℕ) → a < b → b ≤ c → a < c
      less a b c e f = omega arith

      by : Rest → (risen : Bool) → nat_lt (acked_in p side) (acked_in (takes p x.1) side) ≡ risen → Gets_ p (x ∷ course)
      by rest true e =
          inl
          (inl
          (less (acked_in p side) (acked_in (takes p x.1) side) (acked_in q side) (ltb-true (acked_in p side) (acked_in (takes p x.1) side) e)
          (acked_to_end q side there wait p now x course h)))
      by rest false e =
          lifted
          (on rest
          (tail q side there wait p now x course h
          (still_owes q side there wait p now x course h (ltb-false (acked_in p side) (acked_in (takes p x.1) side) e)))
          reads.1)

  whole_sum : (now end : ℤ) (read put : ℕ) → (now +ℤ pos (read + 60_000_000 + wait + wait + (put + wait + reserve))) <ℤ end →
      ((now +ℤ pos read) +ℤ pos (put + wait + (wait + 60_000_000 + wait + reserve))) <ℤ end
  whole_sum now end read put e = first_of (omega (arith, ints), grind (arith, ints))

  pub all_gets :
      (p : PairValue) (now : ℤ) (course : Course) (read : ℕ) → State q side there wait p now course
      → ReadsWithin read now p (other side) course → (now +ℤ pos (read + 60_000_000 + wait + wait + (put_off_in p side + wait + reserve))) <ℤ end_of now course → Gets_ p course
  all_gets p now course read h reads over = by (nat_lt 0 (free_in (socket_of p (other side)))) refl where
    over_all : ((now +ℤ pos read) +ℤ pos (open_time p)) <ℤ end_of now course
    over_all = whole_sum now (end_of now course) read (put_off_in p side) over

    closed : (n : ℕ) → n ≤ 0 → n ≡ 0
    closed n e = omega arith

    some : (n : ℕ) → 0 < n → 1 ≤ n
    some n e = omega arith

    shut :
        (course : Course) → State q side there wait p now course → ReadsWithin read now p (other side) course
        → ((now +ℤ pos read) +ℤ pos (open_time p)) <ℤ end_of now course → free_in (socket_of p (other side)) ≡ 0 → Gets_ p course
    shut [] h reads over none = absurd (not_both (now +ℤ pos read) now (later now read) (less_time (now +ℤ pos read) now (open_time p) over))
    shut (x ∷ course) h reads over none =
        read_gets p now (x ∷ course) (now +ℤ pos read) h (later now read) (reads.0 none) over

    by : (test : Bool) → nat_lt 0 (free_in (socket_of p (other side))) ≡ test → Gets_ p course
    by true e =
        open_gets p now course (record { state = h; free = some (free_in (socket_of p (other side))) (ltb-true 0 (free_in (socket_of p (other side))) e) })
        (sooner now (now +ℤ pos read) (end_of now course) (open_time p) (later now read) over_all)
    by false e =
        shut course h reads over_all (closed (free_in (socket_of p (other side))) (ltb-false 0 (free_in (socket_of p (other side))) e))
