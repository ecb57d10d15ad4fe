-- Of each pair that events led to, what a side waits for of itself lies near its clock.
use Rattle.std.proofs.Common.{◌≡◌, ℕ, ℤ, pos, ◌+ℤ◌, ◌≤ℤ◌, int_lt, true, false, List, [], ◌∷◌, Option, Some, None, Result, Ok, Err, slice_get}
use Rattle.std.proofs.Common.{refl, sym, subst, arith}
use Rattle.std.proofs.lemmas.Bool.{cond_both}
use Rattle.std.proofs.lemmas.Int.{ints}
use Rattle.tcp_invariants.specs.Events.Event.{Comes, Asked, Listens, Connects, Sends, Reads, Closes, Aborts, Sets}
use Rattle.tcp_invariants.specs.Events.Setting.{Timeout, KeepAlive, AckDelay, Nagle, HopLimit, Timestamps, Paused, Retries, Congestion, MinRto, FineTimer}
use Rattle.tcp_invariants.specs.RecvError.{RecvError}
use Rattle.tcp_block.specs.Arrival.{arrives}
use Rattle.tcp_block.specs.Calls.{recv_answer}
use Rattle.tcp_refinement.specs.Pair.History.{side_of}
use Rattle.tcp_block.specs.Names.{accepts}
use Rattle.tcp_refinement.specs.Pair.Sides.{Both, at, put, other}
use Rattle.tcp_refinement.specs.Pair.Steps.{Steps, acting, acts, handed, happens, limit_of, reads, refusal, set_by, taken_at}
use Rattle.tcp_block.specs.declared.tcb.Tcb.{Tcb}
use Rattle.tcp_block.specs.Probing.{is_probing, probe_deadline}
use Rattle.tcp_block.specs.Value.{TcpValue, queued_in}
use Rattle.tcp_refinement.specs.Pair.Values.{PairSide, PairValue, context_at}
use Rattle.tcp_refinement.specs.declared.pair.event.PairEvent.{PairEvent}
use Rattle.tcp_refinement.specs.declared.pair.event.PairEvent.TheVariants.{Listen, Connect, Send, Recv, Close, Abort, TcpSetting, Clock, Offer, Deliver}
use Rattle.tcp_refinement.specs.declared.pair.event.SentSegment.{SentSegment}
use Rattle.tcp_refinement.specs.declared.pair.event.Side.{Side}
use Rattle.tcp_refinement.specs.declared.pair.event.Side.TheVariants.{A, B}
use Rattle.tcp_refinement.specs.declared.pair.event.TcpSetting.{TcpSetting as Setting}
use Rattle.tcp_refinement.specs.declared.pair.event.TcpSetting.TheVariants as Set
use Rattle.tcp_liveness.specs.BothWays.{wake_in}
use Rattle.tcp_liveness.specs.Near.{IsNear}
use Rattle.tcp_liveness.specs.Pair.{socket_of}
use Rattle.tcp_liveness.specs.Reached.{IsReached, both_started}
use Rattle.tcp_liveness.specs.Settle.{restart_by, restart_in}
use Rattle.tcp_liveness.proofs.Moments.{Proceeds, proceeds}
use Rattle.tcp_liveness.proofs.Timers.{Bounded, event_near, later_near, new_near}

abbrev NearSide : PairSide → Type 0
NearSide s = Bounded s.instant s.socket.tcb

weakened : (s : PairSide) (instant : ℤ) → s.instant ≤ℤ instant → NearSide s → Bounded instant s.socket.tcb
weakened s instant e h = record {
  good = h.good;
  timer = later_near s.instant instant 60_000_000 s.socket.tcb.timers.retransmit_at e h.timer;
  pause = later_near s.instant instant 1_000_000 s.socket.tcb.timers.challenges_from e h.pause;
  probe = later_near s.instant instant 60_000_000 s.socket.tcb.timers.probe_at e h.probe;
}

by_read : (s : PairSide) (r : Result ℕ RecvError) → NearSide s → NearSide (reads s r).side
by_read s (Ok n) h = event_near s.instant s.socket (Reads n) tt h
by_read s (Err fault) h = h

by_setting : (now : ℤ) (setting : Setting) (v : TcpValue) → Bounded now v.tcb → Bounded now (set_by setting v).tcb
by_setting now (Set.Timeout duration) v h = event_near now v (Sets (Timeout duration)) tt h
by_setting now (Set.AckDelay duration) v h = event_near now v (Sets (AckDelay duration)) tt h
by_setting now (Set.KeepAlive interval) v h = event_near now v (Sets (KeepAlive interval)) tt h
by_setting now (Set.NagleEnabled enabled) v h = event_near now v (Sets (Nagle enabled)) tt h
by_setting now (Set.HopLimit limit) v h = event_near now v (Sets (HopLimit (limit_of limit))) tt h
by_setting now (Set.TsvalGenerator generator) v h = event_near now v (Sets (Timestamps generator)) tt h
by_setting now (Set.CongestionControl control) v h = event_near now v (Sets (Congestion control)) tt h
by_setting now (Set.PauseSynack paused) v h = event_near now v (Sets (Paused paused)) tt h
by_setting now (Set.Retries limit) v h = event_near now v (Sets (Retries limit)) tt h
by_setting now (Set.MinRto duration) v h = event_near now v (Sets (MinRto duration)) tt h
by_setting now (Set.FineTimer fine) v h = event_near now v (Sets (FineTimer fine)) tt h

by_delivery : (side : Side) (s : PairSide) (x : Option SentSegment) → NearSide s → NearSide (handed side s x)
by_delivery side s None h = h
by_delivery side s (Some x) h =
    cond_both (accepts s.socket.tcb x.header x.segment) (taken_at s (arrives (context_at side s) s.socket x.header x.segment x.bytes)) s NearSide
    (λ _. event_near s.instant s.socket (Comes (context_at side s) x.header x.segment x.bytes) refl h)
    (λ _. h)

by_act : (s : PairSide) (others : List SentSegment) (event : PairEvent) → Proceeds s event → NearSide s → NearSide (acts s others event).side
by_act s others (Listen side endpoint) e h = event_near s.instant s.socket (Listens endpoint) tt h
by_act s others (Connect side remote local) e h = event_near s.instant s.socket (Connects (context_at side s) remote local) tt h
by_act s others (Send side bytes) e h = event_near s.instant s.socket (Sends bytes) tt h
by_act s others (Recv side count) e h = by_read s (recv_answer s.socket count) h
by_act s others (Close side) e h = event_near s.instant s.socket Closes tt h
by_act s others (Abort side) e h = event_near s.instant s.socket Aborts tt h
by_act s others (TcpSetting side setting) e h = by_setting s.instant setting s.socket h
by_act s others (Clock side instant) e h = weakened s instant e h
by_act s others (Offer side instant true) e h =
    event_near instant s.socket (Asked (context_at side (record s { instant = instant })) true) refl (weakened s instant e h)
by_act s others (Offer side instant false) e h =
    event_near instant s.socket (Asked (context_at side (record s { instant = instant })) false) refl (weakened s instant e h)
by_act s others (Deliver from k) e h = by_delivery (other from) s (slice_get others k) h

record BothNear (both : Both PairSide) : Type 0 where
  a : NearSide both.a
  b : NearSide both.b

near_of : (both : Both PairSide) (side : Side) → BothNear both → NearSide (at both side)
near_of both A n = n.a
near_of both B n = n.b

by_put : (both : Both PairSide) (side : Side) (new : PairSide) → BothNear both → NearSide new → BothNear (put both side new)
by_put both A new n h = record { a = h; b = n.b }
by_put both B new n h = record { a = n.a; b = h }

by_event : (p : PairValue) (event : PairEvent) → refusal p event ≡ None → BothNear p.sides → BothNear (happens p event).pair.sides
by_event p event e n =
    by_put p.sides (side_of event) (acting p event).side n
    (by_act (at p.sides (side_of event)) (at p.sides (other (side_of event))).sent event (proceeds p event e) (near_of p.sides (side_of event) n))

by_steps : (old : PairValue) (events : List PairEvent) (new : PairValue) → Steps old events new → BothNear old.sides → BothNear new.sides
by_steps old [] new is n = subst (λ (p : PairValue). BothNear p.sides) (sym is) n
by_steps old (event ∷ events) new s n = by_steps (happens old event).pair events new s.1 (by_event old event s.0 n)

reached_near : (p : PairValue) (side : Side) → IsReached p → NearSide (at p.sides side)
reached_near p side r =
    near_of p.sides side
    (by_steps (both_started r.a r.b) r.events p r.steps
    (record { a = new_near (pos 0) r.a.room r.a.ring; b = new_near (pos 0) r.b.room r.b.ring }))

pub timer_near : (p : PairValue) (side : Side) → IsReached p → IsNear (at p.sides side).instant 60_000_000 (socket_of p side).tcb.timers.retransmit_at
timer_near p side r = (reached_near p side r).timer

pub pause_near : (p : PairValue) (side : Side) → IsReached p → IsNear (at p.sides side).instant 1_000_000 (socket_of p side).tcb.timers.challenges_from
pause_near p side r = (reached_near p side r).pause

pub probe_near : (p : PairValue) (side : Side) → IsReached p → IsNear (at p.sides side).instant 60_000_000 (socket_of p side).tcb.timers.probe_at
probe_near p side r = (reached_near p side r).probe

now_within : (now : ℤ) → now ≤ℤ (now +ℤ pos 60_000_000)
now_within now = first_of (omega (arith, ints), grind (arith, ints))

restart_near : (now : ℤ) (timer : Option ℤ) → IsNear now 60_000_000 timer → restart_by now timer ≤ℤ (now +ℤ pos 60_000_000)
restart_near now None n = now_within now
restart_near now (Some m) n =
    cond_both (int_lt now m) m now (λ (t : ℤ). t ≤ℤ (now +ℤ pos 60_000_000)) (λ _. n) (λ _. now_within now)

pub restart_soon : (p : PairValue) (side : Side) → IsReached p → restart_in p side ≤ℤ ((at p.sides side).instant +ℤ pos 60_000_000)
restart_soon p side r = restart_near (at p.sides side).instant (socket_of p side).tcb.timers.retransmit_at (timer_near p side r)

-- so is the instant at which a side goes on, where its probe is waited for
pub wake_soon : (p : PairValue) (side : Side) → IsReached p → wake_in p side ≤ℤ ((at p.sides side).instant +ℤ pos 60_000_000)
wake_soon p side r =
    restart_near (at p.sides side).instant (probe_deadline b (queued_in (socket_of p side)))
    (cond_both (is_probing b (queued_in (socket_of p side))) b.timers.probe_at None (IsNear (at p.sides side).instant 60_000_000)
    (λ _. probe_near p side r) (λ _. tt))
  where
    b : Tcb
    b = (socket_of p side).tcb
