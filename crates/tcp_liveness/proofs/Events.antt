-- What each event of a socket keeps, each event of a pair keeps.
use Rattle.std.proofs.Common.{ℕ, true, false, List, [], ◌∷◌, Option, Some, None, Result, Ok, Err, slice_get, subst, sym}
use Rattle.std.proofs.lemmas.Bool.{cond_both}
use Rattle.tcp_block.specs.Arrival.{arrives}
use Rattle.tcp_block.specs.Calls.{recv_answer}
use Rattle.tcp_block.specs.Names.{accepts}
use Rattle.tcp_block.specs.Value.{TcpValue, unoffered}
use Rattle.tcp_invariants.specs.RecvError.{RecvError}
use Rattle.tcp_refinement.specs.declared.pair.event.Side.{Side}
use Rattle.tcp_refinement.specs.declared.pair.event.Side.TheVariants.{A, B}
use Rattle.tcp_refinement.specs.declared.pair.event.SentSegment.{SentSegment}
use Rattle.tcp_refinement.specs.declared.pair.event.PairEvent.{PairEvent}
use Rattle.tcp_refinement.specs.declared.pair.event.PairEvent.TheVariants.{Listen, Connect, Send, Recv, Close, Abort, TcpSetting, Clock, Offer, Deliver}
use Rattle.tcp_refinement.specs.declared.pair.event.TcpSetting.{TcpSetting as Setting}
use Rattle.tcp_refinement.specs.declared.pair.event.TcpSetting.TheVariants as Set
use Rattle.tcp_refinement.specs.Pair.History.{side_of}
use Rattle.tcp_refinement.specs.Pair.Sides.{Both, at, put, other}
use Rattle.tcp_refinement.specs.Pair.Steps.{Steps, happens, acts, acting, reads, set_by, limit_of, handed, taken_at}
use Rattle.tcp_refinement.specs.Pair.Values.{PairSide, PairValue, context_at}
use Rattle.tcp_invariants.specs.Events.{Event, after}
use Rattle.tcp_invariants.specs.Events.Event.{Comes, Asked, Listens, Connects, Sends, Reads, Closes, Aborts, Sets}
use Rattle.tcp_invariants.specs.Events.Setting.{Timeout, KeepAlive, AckDelay, Nagle, HopLimit, Timestamps, Paused, Retries, Congestion, MinRto, FineTimer}

-- both sockets of a pair are so
pub record BothAre (P : TcpValue → Type 0) (both : Both PairSide) : Type 0 where
  pub first : P both.a.socket
  pub second : P both.b.socket

pub of_side : (P : TcpValue → Type 0) (both : Both PairSide) (side : Side) → BothAre P both → P (at both side).socket
of_side P both A p = p.first
of_side P both B p = p.second

module _ (P : TcpValue → Type 0) (keeps : (v : TcpValue) (it : Event) → P v → P (after v it)) (unsettled : (v : TcpValue) → P v → P (unoffered v)) where
  by_read : (s : PairSide) (count : ℕ) (r : Result ℕ RecvError) → P s.socket → P (reads s r).side.socket
  by_read s count (Ok n) p = keeps s.socket (Reads n) p
  by_read s count (Err fault) p = unsettled s.socket p

  by_setting : (setting : Setting) (v : TcpValue) → P v → P (set_by setting v)
  by_setting (Set.Timeout duration) v p = keeps v (Sets (Timeout duration)) p
  by_setting (Set.AckDelay duration) v p = keeps v (Sets (AckDelay duration)) p
  by_setting (Set.KeepAlive interval) v p = keeps v (Sets (KeepAlive interval)) p
  by_setting (Set.NagleEnabled enabled) v p = keeps v (Sets (Nagle enabled)) p
  by_setting (Set.HopLimit limit) v p = keeps v (Sets (HopLimit (limit_of limit))) p
  by_setting (Set.TsvalGenerator generator) v p = keeps v (Sets (Timestamps generator)) p
  by_setting (Set.CongestionControl control) v p = keeps v (Sets (Congestion control)) p
  by_setting (Set.PauseSynack paused) v p = keeps v (Sets (Paused paused)) p
  by_setting (Set.Retries limit) v p = keeps v (Sets (Retries limit)) p
  by_setting (Set.MinRto duration) v p = keeps v (Sets (MinRto duration)) p
  by_setting (Set.FineTimer fine) v p = keeps v (Sets (FineTimer fine)) p

  by_delivery : (side : Side) (s : PairSide) (x : Option SentSegment) → P s.socket → P (handed side s x).socket
  by_delivery side s None p = p
  by_delivery side s (Some x) p =
      cond_both (accepts s.socket.tcb x.header x.segment) (taken_at s (arrives (context_at side s) s.socket x.header x.segment x.bytes)) s
      (λ (new : PairSide). P new.socket)
      (λ _. keeps s.socket (Comes (context_at side s) x.header x.segment x.bytes) p)
      (λ _. p)

  by_act : (s : PairSide) (others : List SentSegment) (event : PairEvent) → P s.socket → P (acts s others event).side.socket
  by_act s others (Listen side endpoint) p = keeps s.socket (Listens endpoint) p
  by_act s others (Connect side remote local) p = keeps s.socket (Connects (context_at side s) remote local) p
  by_act s others (Send side bytes) p = keeps s.socket (Sends bytes) p
  by_act s others (Recv side count) p = by_read s count (recv_answer s.socket count) p
  by_act s others (Close side) p = keeps s.socket Closes p
  by_act s others (Abort side) p = keeps s.socket Aborts p
  by_act s others (TcpSetting side setting) p = by_setting setting s.socket p
  by_act s others (Clock side instant) p = p
  by_act s others (Offer side instant true) p = keeps s.socket (Asked (context_at side (record s { instant = instant })) true) p
  by_act s others (Offer side instant false) p = keeps s.socket (Asked (context_at side (record s { instant = instant })) false) p
  by_act s others (Deliver from k) p = by_delivery (other from) s (slice_get others k) p

  by_put : (both : Both PairSide) (side : Side) (new : PairSide) → BothAre P both → P new.socket → BothAre P (put both side new)
  by_put both A new p q = record { first = q; second = p.second }
  by_put both B new p q = record { first = p.first; second = q }

  by_event : (p : PairValue) (event : PairEvent) → BothAre P p.sides → BothAre P (happens p event).pair.sides
  by_event p event q =
      by_put p.sides (side_of event) (acting p event).side q
      (by_act (at p.sides (side_of event)) (at p.sides (other (side_of event))).sent event (of_side P p.sides (side_of event) q))

  pub by_steps : (old : PairValue) (events : List PairEvent) (new : PairValue) → Steps old events new → BothAre P old.sides → BothAre P new.sides
  by_steps old [] new is q = subst (λ (p : PairValue). BothAre P p.sides) (sym is) q
  by_steps old (event ∷ events) new s q = by_steps (happens old event).pair events new s.1 (by_event old event q)
