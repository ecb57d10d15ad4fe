-- In a course a side is asked in time: so it begins at SND.UNA, or more is acknowledged.
use Rattle.std.proofs.Common.{◌≡◌, ◌⊎◌, inl, inr, ℕ, ◌+◌, ◌*◌, ◌<◌, ◌≤◌, ◌==◌, nat_lt, max, ℤ, pos, ◌+ℤ◌, ◌≤ℤ◌, ◌<ℤ◌, int_lt, Bool, true, false}
use Rattle.std.proofs.Common.{if◌then◌else◌, List, [], ◌∷◌, Option, Some, None, refl, sym, ap, ◌∙◌, subst, arith}
use Rattle.std.proofs.lemmas.Bool.{ltb-false, ltb-true}
use Rattle.std.proofs.lemmas.Int.{ints}
use Rattle.tcp_refinement.specs.Offers.{IsBefore}
use Rattle.tcp_refinement.specs.PollAt.{PollAt}
use Rattle.tcp_refinement.specs.PollAt.TheVariants as At
use Rattle.tcp_block.proofs.Waits.{is_quiet}
use Rattle.tcp_invariants.specs.FourTuple.{FourTuple}
use Rattle.tcp_invariants.specs.Moments.{is_due}
use Rattle.tcp_invariants.specs.States.{is_closed}
use Rattle.tcp_invariants.proofs.OrderSteps.{clash}
use Rattle.tcp_block.specs.Due.{poll_of, poll_open, poll_with}
use Rattle.tcp_refinement.specs.Pair.Sides.{at, other}
use Rattle.tcp_refinement.specs.Pair.Steps.{Steps, refusal}
use Rattle.tcp_block.specs.Value.{TcpValue, room_of}
use Rattle.tcp_refinement.specs.Pair.Values.{PairValue}
use Rattle.tcp_refinement.specs.declared.pair.event.PairEvent.{PairEvent}
use Rattle.tcp_refinement.specs.declared.pair.event.PairEvent.TheVariants.{Listen, Connect, Send, Recv, Close, Abort, TcpSetting, Clock, Offer, Deliver}
use Rattle.tcp_refinement.specs.declared.pair.event.Side.{Side}
use Rattle.tcp_refinement.specs.declared.pair.event.Side.TheVariants.{A, B}
use Rattle.tcp_liveness.specs.Anew.{BeginsAnewAmong, BeginsAnewIn, most_sent, put_off_in}
use Rattle.tcp_liveness.specs.Arrivals.{is_synchronized}
use Rattle.tcp_liveness.specs.Course.{Asks, AsksWithin, IsAskedBy, IsAt, IsClocked, IsHinderedAmong, Wants, end_of, events_of}
use Rattle.tcp_liveness.specs.Near.{IsNear}
use Rattle.tcp_liveness.specs.Onward.{AreOpen, acked_in}
use Rattle.tcp_liveness.specs.Pair.{context_of, mtu_of, socket_of}
use Rattle.tcp_liveness.specs.PutOff.{IsAskedBefore, IsRunning, RunsOutAmong, RunsOutAt, RunsOutIn}
use Rattle.tcp_liveness.specs.Reached.{IsReached}
use Rattle.tcp_liveness.specs.Rounds.{takes}
use Rattle.tcp_liveness.proofs.CourseInstants.{below, come, itself, later, not_below, not_both, upto}
use Rattle.tcp_liveness.proofs.LatePayload.{open_of}
use Rattle.tcp_liveness.proofs.Mending.{Few, few_first, mending_of}
use Rattle.tcp_liveness.proofs.MendingRuns.{Next, later_by, next_of, room_stays, when_before}
use Rattle.tcp_liveness.proofs.Mirrored.{named_in}
use Rattle.tcp_liveness.proofs.OnwardPairs.{IsBegun, begun}
use Rattle.tcp_liveness.proofs.Pair.{not_closed}
use Rattle.tcp_liveness.proofs.PairTimers.{timer_near}
use Rattle.tcp_liveness.proofs.PutOff.{is_running}
use Rattle.tcp_liveness.proofs.PutOffRuns.{Step, asked_then, step}

-- A SIDE WITH A TIMER WANTS TO BE ASKED

pub poll_is :
    (mtu : ℕ) (v : TcpValue) (pair : FourTuple) → v.tcb.names.pair ≡ Some pair → is_closed v.tcb.state ≡ false
    → poll_of mtu v ≡ poll_open mtu v pair
poll_is mtu v pair named alive =
    ap (λ (names : Option FourTuple). poll_with names mtu v) named
    ∙ ap (λ (closed : Bool). if closed then (if v.tcb.sender.reset_due then At.Now else At.Ingress) else poll_open mtu v pair) alive

pub wants :
    (p : PairValue) (side : Side) (when due : ℤ) → IsReached p → is_synchronized (socket_of p side).tcb.state ≡ true
    → RunsOutAt when (socket_of p side) → when ≤ℤ due → Wants due p side
wants p side when due r there runs e before =
    clash
    (sym (ap (is_due due) runs ∙ come when due e)
    ∙ (is_quiet (context_of p side due) (socket_of p side) named.0
    (subst (λ (at : PollAt). IsBefore due at)
    (poll_is (mtu_of p side) (socket_of p side) named.0 named.1 (not_closed (socket_of p side).tcb.state there)) before)).retransmission)
  where
    named : (pair : FourTuple) × ((socket_of p side).tcb.names.pair ≡ Some pair)
    named = named_in p side r there

-- a side that is asked at this instant isn't asked before its timer runs out
not_early :
    (side : Side) (event : PairEvent) (when now : ℤ) → Asks side event → IsAt now event → IsAskedBefore when side event → when ≤ℤ now → ⊥
not_early side (Offer of instant true) when now asks is before e =
    clash (sym (come when now e) ∙ (ap (λ (m : ℤ). is_due m (Some when)) (sym is) ∙ before asks))
not_early side (Offer of instant false) when now never is before e = never
not_early side (Listen of endpoint) when now never is before e = never
not_early side (Connect of remote local) when now never is before e = never
not_early side (Send of bytes) when now never is before e = never
not_early side (Recv of count) when now never is before e = never
not_early side (Close of) when now never is before e = never
not_early side (Abort of) when now never is before e = never
not_early side (TcpSetting of setting) when now never is before e = never
not_early side (Clock of instant) when now never is before e = never
not_early side (Deliver from k) when now never is before e = never

-- An offer of a side in a course with which its timer runs out, or it begins again at SND.UNA, before the clock passes an instant; and what holds
-- of the course from there on.
pub record Start (P : PairValue → List (ℤ × PairEvent) → Type 0) (p q : PairValue) (side : Side) (now last : ℤ) (course : List (ℤ × PairEvent)) : Type 0 where
  pub mid : PairValue
  pub x : ℤ × PairEvent
  pub rest : List (ℤ × PairEvent)
  pub before_it : List PairEvent
  pub steps : Steps p before_it mid
  pub steps_on : Steps mid (x.1 ∷ events_of rest) q
  pub starts : RunsOutIn mid side x.1 ⊎ BeginsAnewIn mid side x.1
  pub within : x.0 ≤ℤ last
  pub clocked : IsClocked x.0 rest
  pub has : P mid (x ∷ rest)
  pub same_end : end_of x.0 rest ≡ end_of now course
  pub among : RunsOutAmong p side (events_of course) ⊎ BeginsAnewAmong p side (events_of course)
  pub hindered : IsHinderedAmong mid side (x.1 ∷ events_of rest) → IsHinderedAmong p side (events_of course)

module _ (P : PairValue → List (ℤ × PairEvent) → Type 0)
    (tail : (p : PairValue) (x : ℤ × PairEvent) (course : List (ℤ × PairEvent)) → P p (x ∷ course) → P (takes p x.1) course) (side : Side) (q : PairValue)
    (there_q : is_synchronized (socket_of q side).tcb.state ≡ true) (due last : ℤ) (lasts : due ≤ℤ last) where
  -- a side with a timer, and the course that follows, through which no more is acknowledged
  record Runs (most n : ℕ) (p : PairValue) (course : List (ℤ × PairEvent)) (when now : ℤ) : Type 0 where
    reached : IsReached p
    a : IsBegun p A
    b : IsBegun p B
    steps : Steps p (events_of course) q
    there : is_synchronized (socket_of p side).tcb.state ≡ true
    acked : acked_in q side ≤ acked_in p side
    room : most_sent p side ≡ most
    few : Few most n (mending_of (socket_of p side).tcb)
    runs : RunsOutAt when (socket_of p side)
    within : later_by when n ≤ℤ due
    clocked : IsClocked now course
    has : P p course

  abbrev Out : PairValue → ℤ → List (ℤ × PairEvent) → Type 0
  Out p now course = Start P p q side now last course

  -- after the first event, where the side isn't asked when its timer has run out
  record On (most : ℕ) (p : PairValue) (x : ℤ × PairEvent) (course : List (ℤ × PairEvent)) : Type 0 where
    tries : ℕ
    when : ℤ
    on : Runs most tries (takes p x.1) course when x.0

  here_out :
      (most n : ℕ) (p : PairValue) (x : ℤ × PairEvent) (course : List (ℤ × PairEvent)) (when now : ℤ) → Runs most n p (x ∷ course) when now
      → x.0 ≤ℤ last → RunsOutIn p side x.1 ⊎ BeginsAnewIn p side x.1 → Out p now (x ∷ course)
  here_out most n p x course when now h soon starts = record {
    mid = p;
    x = x;
    rest = course;
    before_it = [];
    steps = refl;
    steps_on = h.steps;
    starts = starts;
    within = soon;
    clocked = h.clocked.1.1;
    has = h.has;
    same_end = refl;
    among = by starts;
    hindered = λ e. e;
  }
    where
      by :
          RunsOutIn p side x.1 ⊎ BeginsAnewIn p side x.1
          → RunsOutAmong p side (events_of (x ∷ course)) ⊎ BeginsAnewAmong p side (events_of (x ∷ course))
      by (inl out) = inl (inl out)
      by (inr anew) = inr (inl anew)

  later_out :
      (p : PairValue) (x : ℤ × PairEvent) (course : List (ℤ × PairEvent)) (now : ℤ) → refusal p x.1 ≡ None → Out (takes p x.1) x.0 course
      → Out p now (x ∷ course)
  later_out p x course now allowed it = record {
    mid = it.mid;
    x = it.x;
    rest = it.rest;
    before_it = x.1 ∷ it.before_it;
    steps = (allowed, it.steps);
    steps_on = it.steps_on;
    starts = it.starts;
    within = it.within;
    clocked = it.clocked;
    has = it.has;
    same_end = it.same_end;
    among = by it.among;
    hindered = λ e. inr (it.hindered e);
  }
    where
      by :
          RunsOutAmong (takes p x.1) side (events_of course) ⊎ BeginsAnewAmong (takes p x.1) side (events_of course)
          → RunsOutAmong p side (events_of (x ∷ course)) ⊎ BeginsAnewAmong p side (events_of (x ∷ course))
      by (inl out) = inl (inr out)
      by (inr anew) = inr (inr anew)

  proceed :
      (most n : ℕ) (p : PairValue) (x : ℤ × PairEvent) (course : List (ℤ × PairEvent)) (when now : ℤ) → Runs most n p (x ∷ course) when now
      → IsAskedBefore when side x.1 → BeginsAnewIn p side x.1 ⊎ On most p x course
  proceed most n p x course when now h e =
      by (next_of most n p q side x.1 when h.reached h.a h.b h.steps.0 it h.there h.room h.few h.runs e) where
        it : Step p q side x.1
        it = step p q side x.1 (events_of course) h.reached h.a h.b h.steps there_q h.acked

        by : BeginsAnewIn p side x.1 ⊎ Next most n p side x.1 when → BeginsAnewIn p side x.1 ⊎ On most p x course
        by (inl anew) = inl anew
        by (inr next) =
            inr
            (record {
              tries = next.tries;
              when = next.instant;
              on = record {
                reached = it.reached;
                a = it.a;
                b = it.b;
                steps = h.steps.1;
                there = it.there;
                acked = it.acked;
                room = room_stays p side x.1 h.reached h.a h.b h.steps.0 ∙ h.room;
                few = next.few;
                runs = next.runs;
                within = upto (later_by next.instant next.tries) (later_by when n) due next.within h.within;
                clocked = h.clocked.1.1;
                has = tail p x course h.has;
              };
            })

  run_out : (most n : ℕ) (p : PairValue) (course : List (ℤ × PairEvent)) (when now : ℤ) → Runs most n p course when now → when ≤ℤ due
  run_out most n p course when now h = upto when (later_by when n) due (when_before when n) h.within

  -- the instant has come, and the side is to be asked
  asked_out :
      (most n : ℕ) (p : PairValue) (course : List (ℤ × PairEvent)) (when now : ℤ) → Runs most n p course when now → due ≤ℤ now → now ≤ℤ last
      → IsAskedBy due last side p course → last <ℤ end_of now course → Out p now course
  asked_out most n p [] when now h after before asked over = absurd (not_both last now before over)
  asked_out most n p (x ∷ course) when now h after before asked over =
      by
      (λ (on : On most p x course) (waits : IsAskedBy due last side (takes p x.1) course).
      asked_out most on.tries (takes p x.1) course on.when x.0 on.on (upto due now x.0 after h.clocked.0) asked.0 waits over)
      (asked_then p side x.1 when h.runs)
    where
      Rest : Type 0
      Rest = On most p x course → IsAskedBy due last side (takes p x.1) course → Out (takes p x.1) x.0 course

      late : when ≤ℤ x.0
      late = upto when now x.0 (upto when due now (run_out most n p (x ∷ course) when now h) after) h.clocked.0

      rest :
          Rest → Asks side x.1 ⊎ ((Wants due (takes p x.1) side → ⊥) ⊎ IsAskedBy due last side (takes p x.1) course) → IsAskedBefore when side x.1
          → BeginsAnewIn p side x.1 ⊎ On most p x course → Out p now (x ∷ course)
      rest more is e (inl anew) = here_out most n p x course when now h asked.0 (inr anew)
      rest more (inl asks) e (inr on) = absurd (not_early side x.1 when x.0 asks h.clocked.1.0 e late)
      rest more (inr (inl not)) e (inr on) =
          absurd
          (not
          (wants (takes p x.1) side on.when due on.on.reached on.on.there on.on.runs (run_out most on.tries (takes p x.1) course on.when x.0 on.on)))
      rest more (inr (inr waits)) e (inr on) = later_out p x course now h.steps.0 (more on waits)

      by : Rest → RunsOutIn p side x.1 ⊎ IsAskedBefore when side x.1 → Out p now (x ∷ course)
      by more (inl out) = here_out most n p x course when now h asked.0 (inl out)
      by more (inr e) = rest more asked.1 e (proceed most n p x course when now h e)

  -- another clock before it changes nothing of what comes then
  same_out : (p : PairValue) (x : ℤ × PairEvent) (course : List (ℤ × PairEvent)) (old now : ℤ) → Out p old (x ∷ course) → Out p now (x ∷ course)
  same_out p x course old now it = record {
    mid = it.mid;
    x = it.x;
    rest = it.rest;
    before_it = it.before_it;
    steps = it.steps;
    steps_on = it.steps_on;
    starts = it.starts;
    within = it.within;
    clocked = it.clocked;
    has = it.has;
    same_end = it.same_end;
    among = it.among;
    hindered = it.hindered;
  }

  -- or has yet to come
  waits_out :
      (most n wait : ℕ) (p : PairValue) (course : List (ℤ × PairEvent)) (when now : ℤ) → Runs most n p course when now → now ≤ℤ due
      → last ≡ due +ℤ pos wait → AsksWithin wait now p course → last <ℤ end_of now course → Out p now course
  waits_out most n wait p [] when now h before is asks over = absurd (not_both last now (upto now due last before lasts) over)
  waits_out most n wait p (x ∷ course) when now h before is asks over =
      at (int_lt due x.0) refl
      (λ (on : On most p x course) (early : x.0 ≤ℤ due). waits_out most on.tries wait (takes p x.1) course on.when x.0 on.on early is asks.1 over)
    where
      Rest : Type 0
      Rest = On most p x course → x.0 ≤ℤ due → Out (takes p x.1) x.0 course

      next : Rest → x.0 ≤ℤ due → BeginsAnewIn p side x.1 ⊎ On most p x course → Out p now (x ∷ course)
      next more early (inl anew) = here_out most n p x course when now h (upto x.0 due last early lasts) (inr anew)
      next more early (inr on) = later_out p x course now h.steps.0 (more on early)

      by : Rest → RunsOutIn p side x.1 ⊎ IsAskedBefore when side x.1 → x.0 ≤ℤ due → Out p now (x ∷ course)
      by more (inl out) early = here_out most n p x course when now h (upto x.0 due last early lasts) (inl out)
      by more (inr e) early = next more early (proceed most n p x course when now h e)

      asked : IsAskedBy due last side p (x ∷ course)
      asked =
          subst (λ (m : ℤ). IsAskedBy due m side p (x ∷ course)) (sym is)
          (asks.0 side due before (wants p side when due h.reached h.there h.runs (run_out most n p (x ∷ course) when now h)))

      at : (passed : Bool) → int_lt due x.0 ≡ passed → Rest → Out p now (x ∷ course)
      at true e more =
          same_out p x course due now
          (asked_out most n p (x ∷ course) when due
          (record {
            reached = h.reached;
            a = h.a;
            b = h.b;
            steps = h.steps;
            there = h.there;
            acked = h.acked;
            room = h.room;
            few = h.few;
            runs = h.runs;
            within = h.within;
            clocked = (below due x.0 e, h.clocked.1);
            has = h.has;
          })
          (itself due) lasts asked over)
      at false e more = by more (asked_then p side x.1 when h.runs) (not_below due x.0 e)

-- WITHIN THE SPAN

-- from a side with a timer
pub runs_in_course :
    (P : PairValue → List (ℤ × PairEvent) → Type 0)
    → ((p : PairValue) (x : ℤ × PairEvent) (course : List (ℤ × PairEvent)) → P p (x ∷ course) → P (takes p x.1) course) → (p q : PairValue) (side : Side)
    → (course : List (ℤ × PairEvent)) (wait : ℕ) (now : ℤ) → IsReached p → AreOpen p → Steps p (events_of course) q
    → is_synchronized (socket_of q side).tcb.state ≡ true → IsRunning (socket_of p side)
    → (at p.sides side).instant ≤ℤ now → IsClocked now course → AsksWithin wait now p course → P p course
    → ((now +ℤ pos (put_off_in p side)) +ℤ pos wait) <ℤ end_of now course
    → (acked_in p side < acked_in q side)
    ⊎ ((acked_in q side ≤ acked_in p side) × Start P p q side now ((now +ℤ pos (put_off_in p side)) +ℤ pos wait) course)
runs_in_course P tail p q side course wait now r o s there_q it clock clocked asks has over = by (nat_lt (acked_in p side) (acked_in q side)) refl where
  near : it.at ≤ℤ ((at p.sides side).instant +ℤ pos 60_000_000)
  near = subst (λ (timer : Option ℤ). IsNear (at p.sides side).instant 60_000_000 timer) it.runs (timer_near p side r)

  within_all : (old now when : ℤ) (most : ℕ) → old ≤ℤ now → when ≤ℤ (old +ℤ pos 60_000_000) →
      (when +ℤ pos ((most + 1) * 60_000_000)) ≤ℤ (now +ℤ pos ((most + 2) * 60_000_000))
  within_all old now when most e f = first_of (omega (arith, ints), grind (arith, ints))

  more : (n : ℕ) → 1 ≤ max 1 n + 2
  more n = omega arith

  due : ℤ
  due = now +ℤ pos (put_off_in p side)

  by :
      (risen : Bool) → nat_lt (acked_in p side) (acked_in q side) ≡ risen
      → (acked_in p side < acked_in q side)
      ⊎ ((acked_in q side ≤ acked_in p side) × Start P p q side now ((now +ℤ pos (put_off_in p side)) +ℤ pos wait) course)
  by true e = inl (ltb-true (acked_in p side) (acked_in q side) e)
  by false e =
      inr (
        ltb-false (acked_in p side) (acked_in q side) e,
        waits_out P tail side q there_q due (due +ℤ pos wait) (later due wait) (most_sent p side) (most_sent p side + 1) wait p course it.at now
            (record {
              reached = r;
              a = begun p A r o.0;
              b = begun p B r o.1;
              steps = s;
              there = (open_of p side o).synchronized;
              acked = ltb-false (acked_in p side) (acked_in q side) e;
              room = refl;
              few = few_first (most_sent p side) (mending_of (socket_of p side).tcb) (more (room_of (socket_of p (other side)).received));
              runs = it.runs;
              within = within_all (at p.sides side).instant now it.at (most_sent p side) clock near;
              clocked = clocked;
              has = has;
            })
            (later now (put_off_in p side)) refl asks over,
      )

-- from one with something in flight
pub starts_in_course :
    (P : PairValue → List (ℤ × PairEvent) → Type 0)
    → ((p : PairValue) (x : ℤ × PairEvent) (course : List (ℤ × PairEvent)) → P p (x ∷ course) → P (takes p x.1) course) → (p q : PairValue) (side : Side)
    → (course : List (ℤ × PairEvent)) (wait : ℕ) (now : ℤ) → IsReached p → AreOpen p → Steps p (events_of course) q
    → is_synchronized (socket_of q side).tcb.state ≡ true → ((socket_of p side).tcb.sender.flight_size == 0) ≡ false
    → (at p.sides side).instant ≤ℤ now → IsClocked now course → AsksWithin wait now p course → P p course
    → ((now +ℤ pos (put_off_in p side)) +ℤ pos wait) <ℤ end_of now course
    → (acked_in p side < acked_in q side)
    ⊎ ((acked_in q side ≤ acked_in p side) × Start P p q side now ((now +ℤ pos (put_off_in p side)) +ℤ pos wait) course)
starts_in_course P tail p q side course wait now r o s there_q flight =
    runs_in_course P tail p q side course wait now r o s there_q (is_running p side r flight)

pub begins_in_course :
    (p q : PairValue) (side : Side) (course : List (ℤ × PairEvent)) (wait : ℕ) (now : ℤ) → IsReached p → AreOpen p → Steps p (events_of course) q
    → is_synchronized (socket_of q side).tcb.state ≡ true → ((socket_of p side).tcb.sender.flight_size == 0) ≡ false
    → (at p.sides side).instant ≤ℤ now → IsClocked now course → AsksWithin wait now p course
    → ((now +ℤ pos (put_off_in p side)) +ℤ pos wait) <ℤ end_of now course
    → (acked_in p side < acked_in q side) ⊎ (RunsOutAmong p side (events_of course) ⊎ BeginsAnewAmong p side (events_of course))
begins_in_course p q side course wait now r o s there_q flight clock clocked asks over =
    by (starts_in_course (λ _ _. Unit {0}) (λ _ _ _ _. tt) p q side course wait now r o s there_q flight clock clocked asks tt over) where
      by :
          (acked_in p side < acked_in q side)
          ⊎ ((acked_in q side ≤ acked_in p side)
          × Start (λ _ _. Unit {0}) p q side now ((now +ℤ pos (put_off_in p side)) +ℤ pos wait) course)
          → (acked_in p side < acked_in q side) ⊎ (RunsOutAmong p side (events_of course) ⊎ BeginsAnewAmong p side (events_of course))
      by (inl risen) = inl risen
      by (inr it) = inr it.1.among
