-- How far the clocks run in a turn, and what that leaves of their timestamps.
use Rattle.std.proofs.Common.{◌≡◌, inl, inr, ℕ, suc, ◌+◌, ◌*◌, ◌^◌, ◌-◌, ◌&&◌, not, ℤ, pos, ◌+ℤ◌, ◌≤ℤ◌, int_le, int_lt, Bool, true, false}
use Rattle.std.proofs.Common.{Option, Some, None, Result, Ok, Err, is_some, refl, sym, ap, ◌∙◌, subst, arith}
use Rattle.std.proofs.lemmas.Bool.{cond_both}
use Rattle.std.proofs.lemmas.Int.{ints}
use Rattle.net_base.specs.Time.{last_instant}
use Rattle.tcp_invariants.specs.Moments.{is_due, tsval_end_from}
use Rattle.tcp_invariants.specs.RecvError.{RecvError}
use Rattle.tcp_invariants.proofs.OrderSteps.{clash}
use Rattle.tcp_block.specs.Calls.{recv_answer}
use Rattle.tcp_block.specs.Probing.{probe_deadline}
use Rattle.tcp_refinement.specs.Pair.Sides.{other}
use Rattle.tcp_refinement.specs.Pair.Steps.{if_so, may_come, reads, refusal}
use Rattle.tcp_block.specs.Value.{queued_in}
use Rattle.tcp_refinement.specs.Pair.Values.{PairSide, PairValue}
use Rattle.tcp_refinement.specs.declared.pair.event.PairEvent.TheVariants.{Offer}
use Rattle.tcp_refinement.specs.declared.pair.event.PairRefused.TheVariants.{Moment}
use Rattle.tcp_refinement.specs.declared.pair.event.Side.{Side}
use Rattle.tcp_refinement.specs.declared.pair.event.Side.TheVariants.{A, B}
use Rattle.tcp_liveness.specs.BothWays.{roused_in, turn_in, waits_in, wake_in, woken_in}
use Rattle.tcp_liveness.specs.Clocks.{HasDays, HasStamps, IsTimed}
use Rattle.tcp_liveness.specs.Pair.{socket_of}
use Rattle.tcp_liveness.specs.Reached.{IsReached}
use Rattle.tcp_liveness.specs.Rounds.{later_of, takes}
use Rattle.tcp_liveness.specs.Settle.{read_in, restart_by, restart_in}
use Rattle.tcp_liveness.specs.Talking.{HasMinutes}
use Rattle.tcp_liveness.proofs.Moments.{apart, clock, exchange_clock, exchange_timed, offer_clock}
use Rattle.tcp_liveness.proofs.PairTimers.{restart_soon, wake_soon}
use Rattle.tcp_liveness.proofs.Roused.{roused_reached}
use Rattle.tcp_liveness.proofs.Ways.{BothCalm}

-- MOMENTS

is_le : (a b : ℤ) → a ≤ℤ b → int_le a b ≡ true
is_le a b e = grind arith

later_first : (a b : ℤ) → a ≤ℤ later_of a b
later_first a b = cond_both (int_lt a b) b a (λ (t : ℤ). a ≤ℤ t) (λ e. by e) (λ _. itself a) where
  by : int_lt a b ≡ true → a ≤ℤ b
  by e = grind arith

  itself : (a : ℤ) → a ≤ℤ a
  itself a = grind arith

later_second : (a b : ℤ) → b ≤ℤ later_of a b
later_second a b = cond_both (int_lt a b) b a (λ (t : ℤ). b ≤ℤ t) (λ _. itself b) (λ e. by e) where
  by : int_lt a b ≡ false → b ≤ℤ a
  by e = grind arith

  itself : (a : ℤ) → a ≤ℤ a
  itself a = grind arith

restart_first : (now : ℤ) (timer : Option ℤ) → now ≤ℤ restart_by now timer
restart_first now None = itself now where
  itself : (a : ℤ) → a ≤ℤ a
  itself a = grind arith
restart_first now (Some m) = later_first now m

-- a timer that runs has run out by then
pub runs_out : (now : ℤ) (timer : Option ℤ) → is_some timer ≡ true → is_due (restart_by now timer) timer ≡ true
runs_out now None e = clash (sym e)
runs_out now (Some m) e = is_le m (later_of now m) (later_second now m)

upto_int : (a b c : ℤ) → a ≤ℤ b → b ≤ℤ c → a ≤ℤ c
upto_int a b c e f = grind arith

allowed : (last instant : ℤ) → pos 0 ≤ℤ last → last ≤ℤ instant → instant ≤ℤ pos last_instant → if_so (not (may_come last instant)) Moment ≡ None
allowed last instant a b c =
    ap (λ (t : Bool). if_so (not t) Moment)
    (all (is_le (pos 0) instant (upto_int (pos 0) last instant a b)) (is_le instant (pos last_instant) c) (is_le last instant b))
  where
    all : {a b c : Bool} → a ≡ true → b ≡ true → c ≡ true → (a && (b && c)) ≡ true
    all {b = b} {c = c} e f g = ap (λ (t : Bool). t && (b && c)) e ∙ (ap (λ (t : Bool). t && c) f ∙ g)

-- two minutes less
less_time : (now new last : ℤ) (rest : ℕ) → new ≤ℤ (now +ℤ pos 120_000_000) → (now +ℤ pos (120_000_000 + rest)) ≤ℤ last → (new +ℤ pos rest) ≤ℤ last
less_time now new last rest a b = first_of (omega (arith, ints), grind (arith, ints))

in_time : (now last : ℤ) (rest : ℕ) → (now +ℤ pos rest) ≤ℤ last → now ≤ℤ last
in_time now last rest a = first_of (omega (arith, ints), grind (arith, ints))

two_minutes : (n : ℕ) → suc n * 120_000_000 ≡ 120_000_000 + n * 120_000_000
two_minutes n = omega arith

-- one after the other
pub both_minutes : (now first second : ℤ) → first ≤ℤ (now +ℤ pos 60_000_000) → second ≤ℤ (first +ℤ pos 60_000_000) → second ≤ℤ (now +ℤ pos 120_000_000)
both_minutes now first second a b = first_of (omega (arith, ints), grind (arith, ints))

in_first : (now last : ℤ) (rest : ℕ) → (now +ℤ pos (120_000_000 + rest)) ≤ℤ last → (now +ℤ pos 60_000_000) ≤ℤ last
in_first now last rest a = first_of (omega (arith, ints), grind (arith, ints))

in_both : (now last : ℤ) (rest : ℕ) → (now +ℤ pos (120_000_000 + rest)) ≤ℤ last → (now +ℤ pos 120_000_000) ≤ℤ last
in_both now last rest a = first_of (omega (arith, ints), grind (arith, ints))

-- THE CLOCKS IN A TURN

read_instant : (s : PairSide) (r : Result ℕ RecvError) → (reads s r).side.instant ≡ s.instant
read_instant s (Ok n) = refl
read_instant s (Err fault) = refl

pub read_clock : (p : PairValue) (side of : Side) → clock (read_in p side) of ≡ clock p of
read_clock p A A = refl
read_clock p A B = read_instant p.sides.b (recv_answer p.sides.b.socket (2 ^ 30))
read_clock p B A = read_instant p.sides.a (recv_answer p.sides.a.socket (2 ^ 30))
read_clock p B B = refl

refused_clock : (p : PairValue) (side : Side) (instant : ℤ) →
    (clock (takes p (Offer side instant false)) side ≡ instant) × (clock (takes p (Offer side instant false)) (other side) ≡ clock p (other side))
refused_clock p A instant = (refl, refl)
refused_clock p B instant = (refl, refl)

pub roused_clock : (p : PairValue) (side : Side) → clock (roused_in p side) side ≡ restart_in p side
roused_clock p side = (refused_clock (read_in p side) side (restart_in p side)).0

pub own_clock : (p : PairValue) (side : Side) → clock (woken_in p side) side ≡ wake_in (roused_in p side) side
own_clock p side =
    exchange_clock (roused_in p side) side (wake_in (roused_in p side) side) side
    ∙ (offer_clock (roused_in p side) side (wake_in (roused_in p side) side)).0

pub other_clock : (p : PairValue) (side : Side) → clock (woken_in p side) (other side) ≡ clock p (other side)
other_clock p side =
    exchange_clock (roused_in p side) side (wake_in (roused_in p side) side) (other side)
    ∙ ((offer_clock (roused_in p side) side (wake_in (roused_in p side) side)).1
    ∙ ((refused_clock (read_in p side) side (restart_in p side)).1 ∙ read_clock p side (other side)))

minutes_of : (n : ℕ) (p : PairValue) (side : Side) → HasMinutes (suc n) p side →
    (clock p side +ℤ pos (120_000_000 + n * 120_000_000)) ≤ℤ pos last_instant
minutes_of n p side m = subst (λ (k : ℕ). (clock p side +ℤ pos k) ≤ℤ pos last_instant) (two_minutes n) m.left

later_clock : (n : ℕ) (p q : PairValue) (side : Side) → HasMinutes (suc n) p side → clock p side ≤ℤ clock q side →
    clock q side ≤ℤ (clock p side +ℤ pos 120_000_000) → HasMinutes n q side
later_clock n p q side m a b = record {
  begun = upto_int (pos 0) (clock p side) (clock q side) m.begun a;
  left = less_time (clock p side) (clock q side) (pos last_instant) (n * 120_000_000) b (minutes_of n p side m);
}

-- when it is asked first
module _ (n : ℕ) (p : PairValue) (side : Side) (r : IsReached p) (m : HasMinutes (suc n) p side) where
  first_after : clock p side ≤ℤ restart_in p side
  first_after = restart_first (clock p side) (socket_of p side).tcb.timers.retransmit_at

  pub rouses : refusal (read_in p side) (Offer side (restart_in p side) false) ≡ None
  rouses =
      subst (λ (now : ℤ). if_so (not (may_come now (restart_in p side))) Moment ≡ None) (sym (read_clock p side side))
      (allowed (clock p side) (restart_in p side) m.begun first_after
      (upto_int (restart_in p side) (clock p side +ℤ pos 60_000_000) (pos last_instant) (restart_soon p side r)
      (in_first (clock p side) (pos last_instant) (n * 120_000_000) (minutes_of n p side m))))

  pub ry : IsReached (roused_in p side)
  ry = roused_reached p side r rouses

  abbrev second : ℤ
  second = wake_in (roused_in p side) side

  second_after : restart_in p side ≤ℤ second
  second_after =
      subst (λ (now : ℤ). now ≤ℤ second) (roused_clock p side)
      (restart_first (clock (roused_in p side) side)
      (probe_deadline (socket_of (roused_in p side) side).tcb (queued_in (socket_of (roused_in p side) side))))

  in_two : second ≤ℤ (clock p side +ℤ pos 120_000_000)
  in_two =
      both_minutes (clock p side) (restart_in p side) second (restart_soon p side r)
      (subst (λ (now : ℤ). second ≤ℤ (now +ℤ pos 60_000_000)) (roused_clock p side) (wake_soon (roused_in p side) side ry))

  pub wakes : refusal (roused_in p side) (Offer side second true) ≡ None
  wakes =
      subst (λ (now : ℤ). if_so (not (may_come now second)) Moment ≡ None) (sym (roused_clock p side))
      (allowed (restart_in p side) second (upto_int (pos 0) (clock p side) (restart_in p side) m.begun first_after) second_after
      (upto_int second (clock p side +ℤ pos 120_000_000) (pos last_instant) in_two
      (in_both (clock p side) (pos last_instant) (n * 120_000_000) (minutes_of n p side m))))

own_minutes : (n : ℕ) (p : PairValue) (side : Side) → IsReached p → HasMinutes (suc n) p side → HasMinutes n (turn_in p side) side
own_minutes n p side r m =
    cond_both (waits_in p side) (woken_in p side) p (λ (q : PairValue). HasMinutes n q side)
    (λ _.
    later_clock n p (woken_in p side) side m
    (subst (λ (t : ℤ). clock p side ≤ℤ t) (sym (own_clock p side))
    (upto_int (clock p side) (restart_in p side) (second n p side r m) (first_after n p side r m) (second_after n p side r m)))
    (subst (λ (t : ℤ). t ≤ℤ (clock p side +ℤ pos 120_000_000)) (sym (own_clock p side)) (in_two n p side r m)))
    (λ _. later_clock n p p side m (itself (clock p side)) (soon (clock p side)))
  where
    itself : (a : ℤ) → a ≤ℤ a
    itself a = grind arith

    soon : (a : ℤ) → a ≤ℤ (a +ℤ pos 120_000_000)
    soon a = first_of (omega (arith, ints), grind (arith, ints))

other_minutes : (n : ℕ) (p : PairValue) (side : Side) → HasMinutes n p (other side) → HasMinutes n (turn_in p side) (other side)
other_minutes n p side m =
    cond_both (waits_in p side) (woken_in p side) p (λ (q : PairValue). HasMinutes n q (other side))
    (λ _. record {
      begun = subst (λ (t : ℤ). pos 0 ≤ℤ t) (sym (other_clock p side)) m.begun;
      left = subst (λ (t : ℤ). (t +ℤ pos (n * 120_000_000)) ≤ℤ pos last_instant) (sym (other_clock p side)) m.left;
    })
    (λ _. m)

-- THE TIMESTAMPS IN A TURN

roused_timed : (since : ℤ) (of : Side) (p : PairValue) (side : Side) → (side ≡ of → since ≤ℤ restart_in p side) → IsTimed since of p.history →
    IsTimed since of (roused_in p side).history
roused_timed since of p side asked t = (asked, (λ _. tt, t))

-- what is over before two minutes and more is over before them
before_more : (now last : ℤ) (rest : ℕ) → (now +ℤ pos (120_000_000 + rest)) ≤ℤ last → (now +ℤ pos rest) ≤ℤ last
before_more now last rest a = first_of (omega (arith, ints), grind (arith, ints))

days_of : (n : ℕ) (now last : ℤ) → (now +ℤ pos (suc n * 120_000_000)) ≤ℤ last → (now +ℤ pos (120_000_000 + n * 120_000_000)) ≤ℤ last
days_of n now last e = subst (λ (k : ℕ). (now +ℤ pos k) ≤ℤ last) (two_minutes n) e

fewer_days : (n : ℕ) (p : PairValue) (side : Side) → HasDays p side (clock p side +ℤ pos (suc n * 120_000_000)) →
    HasDays p side (clock p side +ℤ pos (n * 120_000_000))
fewer_days n p side d = record {
  since = d.since;
  begun = d.begun;
  asked = d.asked;
  timed = d.timed;
  within = before_more (clock p side) (tsval_end_from d.since) (n * 120_000_000) (days_of n (clock p side) (tsval_end_from d.since) d.within);
}

module _ (n : ℕ) (p : PairValue) (side : Side) (r : IsReached p) (m : HasMinutes (suc n) p side)
    (d : HasDays p side (clock p side +ℤ pos (suc n * 120_000_000))) where
  on_first : d.since ≤ℤ restart_in p side
  on_first = upto_int d.since (clock p side) (restart_in p side) d.asked (first_after n p side r m)

  on_second : d.since ≤ℤ second n p side r m
  on_second = upto_int d.since (restart_in p side) (second n p side r m) on_first (second_after n p side r m)

  -- when it goes on
  pub wake_days : HasDays (roused_in p side) side (wake_in (roused_in p side) side)
  wake_days = record {
    since = d.since;
    begun = d.begun;
    asked = subst (λ (t : ℤ). d.since ≤ℤ t) (sym (roused_clock p side)) on_first;
    timed = roused_timed d.since side p side (λ _. on_first) d.timed;
    within =
        upto_int (second n p side r m) (clock p side +ℤ pos 120_000_000) (tsval_end_from d.since) (in_two n p side r m)
        (in_both (clock p side) (tsval_end_from d.since) (n * 120_000_000) (days_of n (clock p side) (tsval_end_from d.since) d.within));
  }

  own_days : HasDays (turn_in p side) side (clock (turn_in p side) side +ℤ pos (n * 120_000_000))
  own_days =
      cond_both (waits_in p side) (woken_in p side) p (λ (q : PairValue). HasDays q side (clock q side +ℤ pos (n * 120_000_000)))
      (λ _. record {
        since = d.since;
        begun = d.begun;
        asked = subst (λ (t : ℤ). d.since ≤ℤ t) (sym (own_clock p side)) on_second;
        timed =
            exchange_timed d.since side (roused_in p side) side (wake_in (roused_in p side) side) (λ _. on_second)
            (roused_timed d.since side p side (λ _. on_first) d.timed);
        within =
            less_time (clock p side) (clock (woken_in p side) side) (tsval_end_from d.since) (n * 120_000_000)
            (subst (λ (t : ℤ). t ≤ℤ (clock p side +ℤ pos 120_000_000)) (sym (own_clock p side)) (in_two n p side r m))
            (days_of n (clock p side) (tsval_end_from d.since) d.within);
      })
      (λ _. fewer_days n p side d)

pub wake_later : (p : PairValue) (side : Side) → clock p side ≤ℤ wake_in p side
wake_later p side = restart_first (clock p side) (probe_deadline (socket_of p side).tcb (queued_in (socket_of p side)))

-- the other waits meanwhile
pub there_days : (n : ℕ) (p : PairValue) (side : Side) → HasDays p (other side) (clock p (other side) +ℤ pos (n * 120_000_000)) →
    HasDays (roused_in p side) (other side) (clock (roused_in p side) (other side))
there_days n p side d = record {
  since = d.since;
  begun = d.begun;
  asked = subst (λ (t : ℤ). d.since ≤ℤ t) (sym same) d.asked;
  timed = roused_timed d.since (other side) p side (λ e. apart side e) d.timed;
  within = subst (λ (t : ℤ). t ≤ℤ tsval_end_from d.since) (sym same) (in_time (clock p (other side)) (tsval_end_from d.since) (n * 120_000_000) d.within);
}
  where
    same : clock (roused_in p side) (other side) ≡ clock p (other side)
    same = (refused_clock (read_in p side) side (restart_in p side)).1 ∙ read_clock p side (other side)

other_days : (n : ℕ) (p : PairValue) (side : Side) → HasDays p (other side) (clock p (other side) +ℤ pos (n * 120_000_000)) →
    HasDays (turn_in p side) (other side) (clock (turn_in p side) (other side) +ℤ pos (n * 120_000_000))
other_days n p side d =
    cond_both (waits_in p side) (woken_in p side) p (λ (q : PairValue). HasDays q (other side) (clock q (other side) +ℤ pos (n * 120_000_000)))
    (λ _. record {
      since = d.since;
      begun = d.begun;
      asked = subst (λ (t : ℤ). d.since ≤ℤ t) (sym (other_clock p side)) d.asked;
      timed =
          exchange_timed d.since (other side) (roused_in p side) side (wake_in (roused_in p side) side) (λ e. apart side e)
          (roused_timed d.since (other side) p side (λ e. apart side e) d.timed);
      within = subst (λ (t : ℤ). (t +ℤ pos (n * 120_000_000)) ≤ℤ tsval_end_from d.since) (sym (other_clock p side)) d.within;
    })
    (λ _. d)

abbrev agreed : PairValue → Side → Bool
agreed p side = (socket_of p side).tcb.peer.timestamps

fewer_stamps : (n : ℕ) (p : PairValue) (side : Side) → HasStamps (suc n) p side → HasStamps n p side
fewer_stamps n p side (inl none) = inl none
fewer_stamps n p side (inr d) = inr (fewer_days n p side d)

own_stamps :
    (n : ℕ) (p : PairValue) (side : Side) → IsReached p → HasMinutes (suc n) p side → agreed (turn_in p side) side ≡ agreed p side
    → HasStamps (suc n) p side → HasStamps n (turn_in p side) side
own_stamps n p side r m same (inl none) = inl (same ∙ none)
own_stamps n p side r m same (inr d) = inr (own_days n p side r m d)

other_stamps : (n : ℕ) (p : PairValue) (side : Side) → agreed (turn_in p side) (other side) ≡ agreed p (other side) → HasStamps n p (other side) →
    HasStamps n (turn_in p side) (other side)
other_stamps n p side same (inl none) = inl (same ∙ none)
other_stamps n p side same (inr d) = inr (other_days n p side d)

-- ROUNDS

-- what a turn asks of both clocks
pub record HasTurn (n : ℕ) (p : PairValue) (side : Side) : Type 0 where
  pub minutes : HasMinutes (suc n) p side
  pub own : HasStamps (suc n) p side
  pub theirs : HasStamps n p (other side)

-- so many rounds
pub record Minutes (n : ℕ) (p : PairValue) : Type 0 where
  pub a : HasMinutes n p A
  pub b : HasMinutes n p B
  pub stamps_a : HasStamps n p A
  pub stamps_b : HasStamps n p B

-- and the second turn of one more
pub record Midway (n : ℕ) (p : PairValue) : Type 0 where
  pub a : HasMinutes n p A
  pub b : HasMinutes (suc n) p B
  pub stamps_a : HasStamps n p A
  pub stamps_b : HasStamps (suc n) p B

pub first_turn : (n : ℕ) (p : PairValue) → Minutes (suc n) p → HasTurn n p A
first_turn n p m = record { minutes = m.a; own = m.stamps_a; theirs = fewer_stamps n p B m.stamps_b }

pub second_turn : (n : ℕ) (p : PairValue) → Midway n p → HasTurn n p B
second_turn n p m = record { minutes = m.b; own = m.stamps_b; theirs = m.stamps_a }

pub midway : (n : ℕ) (p : PairValue) → IsReached p → BothCalm p (turn_in p A) → Minutes (suc n) p → Midway n (turn_in p A)
midway n p r c m = record {
  a = own_minutes n p A r m.a;
  b = other_minutes (suc n) p A m.b;
  stamps_a = own_stamps n p A r m.a c.a.stamps m.stamps_a;
  stamps_b = other_stamps (suc n) p A c.b.stamps m.stamps_b;
}

pub next_round : (n : ℕ) (p : PairValue) → IsReached p → BothCalm p (turn_in p B) → Midway n p → Minutes n (turn_in p B)
next_round n p r c m = record {
  a = other_minutes n p B m.a;
  b = own_minutes n p B r m.b;
  stamps_a = other_stamps n p B c.a.stamps m.stamps_a;
  stamps_b = own_stamps n p B r m.b c.b.stamps m.stamps_b;
}
