-- Within as many minutes as there are positions, and two more, a side begins at SND.UNA, or more is acknowledged.
use Rattle.std.proofs.Common.{◌≡◌, ◌⊎◌, inl, inr, ℕ, ◌+◌, ◌-◌, ◌*◌, ◌<◌, ◌≤◌, ◌==◌, nat_lt, max, ℤ, pos, ◌+ℤ◌, ◌≤ℤ◌, int_le, Bool, true, false, List, [], ◌∷◌}
use Rattle.std.proofs.Common.{Option, Some, None, refl, ap, ◌∙◌, subst, arith}
use Rattle.std.proofs.lemmas.Bool.{ltb-false, ltb-true}
use Rattle.std.proofs.lemmas.Int.{ints}
use Rattle.tcp_invariants.specs.Moments.{is_due}
use Rattle.tcp_refinement.specs.Pair.Sides.{at, other}
use Rattle.tcp_refinement.specs.Pair.Steps.{Steps, refusal}
use Rattle.tcp_block.specs.Value.{room_of}
use Rattle.tcp_refinement.specs.Pair.Values.{PairValue}
use Rattle.tcp_refinement.specs.declared.pair.event.PairEvent.{PairEvent}
use Rattle.tcp_refinement.specs.declared.pair.event.PairEvent.TheVariants.{Listen, Connect, Send, Recv, Close, Abort, TcpSetting, Clock, Offer, Deliver}
use Rattle.tcp_refinement.specs.declared.pair.event.Side.{Side}
use Rattle.tcp_refinement.specs.declared.pair.event.Side.TheVariants.{A, B}
use Rattle.tcp_liveness.specs.Anew.{BeginsAnewAmong, BeginsAnewIn, most_sent, put_off_in}
use Rattle.tcp_liveness.specs.Arrivals.{is_synchronized}
use Rattle.tcp_liveness.specs.Near.{IsNear}
use Rattle.tcp_liveness.specs.Onward.{AreOpen, acked_in}
use Rattle.tcp_liveness.specs.Pair.{socket_of}
use Rattle.tcp_liveness.specs.PutOff.{AreAskedBefore, IsAskedBefore, IsAskedFromAmong, IsRunning, MendsIn, RunsOutAmong, RunsOutAt, RunsOutIn}
use Rattle.tcp_liveness.specs.Reached.{IsReached}
use Rattle.tcp_liveness.specs.Rounds.{takes}
use Rattle.tcp_liveness.proofs.Mending.{Few, few_first, mending_of}
use Rattle.tcp_liveness.proofs.MendingEvents.{few_after, is_sure}
use Rattle.tcp_liveness.proofs.LatePayload.{open_of}
use Rattle.tcp_liveness.proofs.OnwardPairs.{IsBegun, begun, by_steps}
use Rattle.tcp_liveness.proofs.Pair.{not_closed}
use Rattle.tcp_liveness.proofs.PairTimers.{timer_near}
use Rattle.tcp_liveness.proofs.PutOff.{in_time, is_running}
use Rattle.tcp_liveness.proofs.PutOffRuns.{Step, asked_then, begun_of, none_asked, step}
use Rattle.tcp_liveness.proofs.WindowPairs.{reached_windows}

-- what mends is an offer before the timer runs out, and starts it
mends_then :
    (p : PairValue) (side : Side) (event : PairEvent) (when : ℤ) → IsAskedBefore when side event → MendsIn p side event
    → IsRunning (socket_of (takes p event) side) × (is_due (at (takes p event).sides side).instant (Some when) ≡ false)
mends_then p A (Offer A instant true) when e m = (record { at = _; runs = m.1.anew }, e refl)
mends_then p B (Offer B instant true) when e m = (record { at = _; runs = m.1.anew }, e refl)
mends_then p A (Offer B instant true) when e m = absurd (let no = m.0 in cc)
mends_then p B (Offer A instant true) when e m = absurd (let no = m.0 in cc)
mends_then p side (Offer of instant false) when e never = absurd never
mends_then p side (Listen of endpoint) when e never = absurd never
mends_then p side (Connect of remote local) when e never = absurd never
mends_then p side (Send of bytes) when e never = absurd never
mends_then p side (Recv of count) when e never = absurd never
mends_then p side (Close of) when e never = absurd never
mends_then p side (Abort of) when e never = absurd never
mends_then p side (TcpSetting of setting) when e never = absurd never
mends_then p side (Clock of instant) when e never = absurd never
mends_then p side (Deliver from k) when e never = absurd never

-- a later instant hasn't come either
not_yet : (when last now : ℤ) → when ≤ℤ last → is_due now (Some when) ≡ false → is_due now (Some last) ≡ false
not_yet when last now e f = by (int_le last now) refl where
  never : int_le last now ≡ true → ⊥
  never so = first_of (omega (arith, ints), grind (arith, ints))

  by : (due : Bool) → int_le last now ≡ due → due ≡ false
  by true so = absurd (never so)
  by false so = refl

-- so much later
abbrev pub later_by : ℤ → ℕ → ℤ
later_by when n = when +ℤ pos (n * 60_000_000)

pub when_before : (when : ℤ) (n : ℕ) → when ≤ℤ later_by when n
when_before when n = first_of (omega (arith, ints), grind (arith, ints))

minute_less : (when new now : ℤ) (n : ℕ) → 1 ≤ n → new ≤ℤ (now +ℤ pos 60_000_000) → is_due now (Some when) ≡ false → later_by new (n - 1) ≤ℤ later_by when n
minute_less when new now n some near early = by n some where
  by : (n : ℕ) → 1 ≤ n → later_by new (n - 1) ≤ℤ later_by when n
  by n some = first_of (omega (arith, ints), grind (arith, ints))

less_time : (when : ℤ) (n : ℕ) → later_by when (n - 1) ≤ℤ later_by when n
less_time when n = first_of (omega (arith, ints), grind (arith, ints))

same_instant : (t : ℤ) → t ≤ℤ t
same_instant t = first_of (omega (arith, ints), grind (arith, ints))

-- A TRY LESS

-- after an event with which nothing begins again: how many tries are left, and when the timer runs out
pub record Next (most n : ℕ) (p : PairValue) (side : Side) (event : PairEvent) (when : ℤ) : Type 0 where
  pub tries : ℕ
  pub instant : ℤ
  pub few : Few most tries (mending_of (socket_of (takes p event) side).tcb)
  pub runs : RunsOutAt instant (socket_of (takes p event) side)
  pub within : later_by instant tries ≤ℤ later_by when n

pub room_stays :
    (p : PairValue) (side : Side) (event : PairEvent) → IsReached p → IsBegun p A → IsBegun p B → refusal p event ≡ None
    → most_sent (takes p event) side ≡ most_sent p side
room_stays p side event r a b allowed =
    ap (λ (n : ℕ). max 1 n + 2) (by_steps p (event ∷ []) (takes p event) r a b (allowed, refl) (other side)).room

pub next_of :
    (most n : ℕ) (p q : PairValue) (side : Side) (event : PairEvent) (when : ℤ) → IsReached p → IsBegun p A → IsBegun p B → refusal p event ≡ None
    → Step p q side event → is_synchronized (socket_of p side).tcb.state ≡ true → most_sent p side ≡ most
    → Few most n (mending_of (socket_of p side).tcb) → RunsOutAt when (socket_of p side) → IsAskedBefore when side event
    → BeginsAnewIn p side event ⊎ Next most n p side event when
next_of most n p q side event when r a b allowed it there is few runs e =
    next
    (few_after most n p side event when runs e few
    (is_sure p side r (not_closed (socket_of p side).tcb.state there) there (begun_of p side a b).syn) it.there it.una)
    (in_time p side event when runs e it.there it.una)
  where
    m : PairValue
    m = takes p event

    within : (socket_of m side).tcb.sender.snd_max ≤ most
    within =
        subst (λ (n : ℕ). (socket_of m side).tcb.sender.snd_max ≤ n) (room_stays p side event r a b allowed ∙ is)
        (reached_windows m side it.reached).sent

    -- a try less
    fewer : (1 ≤ n) × Few most (n - 1) (mending_of (socket_of m side).tcb) → RunsOutAt when (socket_of m side) ⊎ MendsIn p side event →
        Next most n p side event when
    fewer f (inl runs) = record { tries = n - 1; instant = when; few = f.1; runs = runs; within = less_time when n }
    fewer f (inr mends) =
        let then = mends_then p side event when e mends in
        record {
          tries = n - 1;
          instant = then.0.at;
          few = f.1;
          runs = then.0.runs;
          within =
              minute_less when then.0.at (at m.sides side).instant n f.0
              (subst (λ (timer : Option ℤ). IsNear (at m.sides side).instant 60_000_000 timer) then.0.runs (timer_near m side it.reached)) then.1;
        }

    next :
        ((MendsIn p side event → ⊥) × Few most n (mending_of (socket_of m side).tcb))
        ⊎ (BeginsAnewIn p side event
        ⊎ ((socket_of m side).tcb.sender.snd_max ≤ most → (1 ≤ n) × Few most (n - 1) (mending_of (socket_of m side).tcb)))
        → RunsOutAt when (socket_of m side) ⊎ MendsIn p side event → BeginsAnewIn p side event ⊎ Next most n p side event when
    next (inl held) (inl runs) = inr (record { tries = n; instant = when; few = held.1; runs = runs; within = same_instant (later_by when n) })
    next (inl held) (inr mends) = absurd (held.0 mends)
    next (inr (inl anew)) timer = inl anew
    next (inr (inr falls)) timer = inr (fewer (falls within) timer)

-- A SIDE THAT IS ASKED LATE

before_later : (side : Side) (event : PairEvent) (when last : ℤ) → when ≤ℤ last → IsAskedBefore when side event → IsAskedBefore last side event
before_later side (Offer of instant sent) when last e before = λ own. not_yet when last instant e (before own)
before_later side (Listen of endpoint) when last e before = tt
before_later side (Connect of remote local) when last e before = tt
before_later side (Send of bytes) when last e before = tt
before_later side (Recv of count) when last e before = tt
before_later side (Close of) when last e before = tt
before_later side (Abort of) when last e before = tt
before_later side (TcpSetting of setting) when last e before = tt
before_later side (Clock of instant) when last e before = tt
before_later side (Deliver of k) when last e before = tt

all_before_later :
    (side : Side) (events : List PairEvent) (when last : ℤ) → when ≤ℤ last → AreAskedBefore when side events → AreAskedBefore last side events
all_before_later side [] when last e before = tt
all_before_later side (event ∷ events) when last e before =
    (before_later side event when last e before.0, all_before_later side events when last e before.1)

module _ (side : Side) where
  -- an offer of the side that runs the timer out, or begins at SND.UNA; or it isn't asked at this instant or later
  abbrev Until : PairValue → List PairEvent → ℤ → Type 0
  Until p events last = (RunsOutAmong p side events ⊎ BeginsAnewAmong p side events) ⊎ AreAskedBefore last side events

  runs_down :
      (most n : ℕ) (p q : PairValue) (events : List PairEvent) (when : ℤ) → IsReached p → IsBegun p A → IsBegun p B → Steps p events q
      → is_synchronized (socket_of p side).tcb.state ≡ true → is_synchronized (socket_of q side).tcb.state ≡ true → acked_in q side ≤ acked_in p side
      → most_sent p side ≡ most → Few most n (mending_of (socket_of p side).tcb) → RunsOutAt when (socket_of p side)
      → Until p events (later_by when n)
  runs_down most n p q [] when r a b s there there_q acked is few runs = inr tt
  runs_down most n p q (event ∷ events) when r a b s there there_q acked is few runs =
      by
      (λ (next : Next most n p side event when).
      runs_down most next.tries (takes p event) q events next.instant it.reached it.a it.b s.1 it.there there_q it.acked
      (room_stays p side event r a b s.0 ∙ is) next.few next.runs)
      (asked_then p side event when runs)
    where
      it : Step p q side event
      it = step p q side event events r a b s there_q acked

      more : IsAskedBefore (later_by when n) side event → Until (takes p event) events (later_by when n) → Until p (event ∷ events) (later_by when n)
      more first (inl (inl out)) = inl (inl (inr out))
      more first (inl (inr anew)) = inl (inr (inr anew))
      more first (inr before) = inr (first, before)

      widened : (last wide : ℤ) → last ≤ℤ wide → Until (takes p event) events last → Until (takes p event) events wide
      widened last wide e (inl out) = inl out
      widened last wide e (inr before) = inr (all_before_later side events last wide e before)

      Rest : Type 0
      Rest = (next : Next most n p side event when) → Until (takes p event) events (later_by next.instant next.tries)

      on : Rest → IsAskedBefore when side event → BeginsAnewIn p side event ⊎ Next most n p side event when → Until p (event ∷ events) (later_by when n)
      on rest e (inl anew) = inl (inr (inl anew))
      on rest e (inr next) =
          more (before_later side event when (later_by when n) (when_before when n) e)
          (widened (later_by next.instant next.tries) (later_by when n) next.within (rest next))

      by : Rest → RunsOutIn p side event ⊎ IsAskedBefore when side event → Until p (event ∷ events) (later_by when n)
      by rest (inl out) = inl (inl (inl out))
      by rest (inr e) = on rest e (next_of most n p q side event when r a b s.0 it there is few runs e)

-- WITHIN SO MANY MINUTES

in_time_of : (old when : ℤ) (most : ℕ) → when ≤ℤ (old +ℤ pos 60_000_000) → later_by when (most + 1) ≤ℤ later_by old (most + 2)
in_time_of old when most e = first_of (omega (arith, ints), grind (arith, ints))

pub begins_in_time :
    (p q : PairValue) (side : Side) (events : List PairEvent) → IsReached p → AreOpen p → Steps p events q
    → ((socket_of p side).tcb.sender.flight_size == 0) ≡ false → IsAskedFromAmong ((at p.sides side).instant +ℤ pos (put_off_in p side)) side events
    → is_synchronized (socket_of q side).tcb.state ≡ true
    → (acked_in p side < acked_in q side) ⊎ (RunsOutAmong p side events ⊎ BeginsAnewAmong p side events)
begins_in_time p q side events r o s flight late there_q = by (nat_lt (acked_in p side) (acked_in q side)) refl where
  it : IsRunning (socket_of p side)
  it = is_running p side r flight

  near : it.at ≤ℤ ((at p.sides side).instant +ℤ pos 60_000_000)
  near = subst (λ (timer : Option ℤ). IsNear (at p.sides side).instant 60_000_000 timer) it.runs (timer_near p side r)

  more : (n : ℕ) → 1 ≤ max 1 n + 2
  more n = omega arith

  over : Until side p events (later_by it.at (most_sent p side + 1)) → (acked_in p side < acked_in q side) ⊎ (RunsOutAmong p side events ⊎ BeginsAnewAmong p side events)
  over (inl out) = inr out
  over (inr before) =
      absurd
      (none_asked side events (later_by (at p.sides side).instant (most_sent p side + 2)) (later_by it.at (most_sent p side + 1))
      (in_time_of (at p.sides side).instant it.at (most_sent p side) near) before late)

  by : (risen : Bool) → nat_lt (acked_in p side) (acked_in q side) ≡ risen → (acked_in p side < acked_in q side) ⊎ (RunsOutAmong p side events ⊎ BeginsAnewAmong p side events)
  by true e = inl (ltb-true (acked_in p side) (acked_in q side) e)
  by false e =
      over
      (runs_down side (most_sent p side) (most_sent p side + 1) p q events it.at r (begun p A r o.0) (begun p B r o.1) s (open_of p side o).synchronized there_q
      (ltb-false (acked_in p side) (acked_in q side) e) refl
      (few_first (most_sent p side) (mending_of (socket_of p side).tcb) (more (room_of (socket_of p (other side)).received))) it.runs)
