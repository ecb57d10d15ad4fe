-- A side that starts over at SND.UNA sends of itself, where both windows let it (RFC 9293, 3.7.4 and 3.8; RFC 5681, 3.1; RFC 6298, 5.4).
use Rattle.std.specs.Prelude.{◌≡◌, ℕ, ◌≤◌, min, max, ℤ, true, false, if◌then◌else◌, length, Some}
use Rattle.tcp_refinement.specs.Context.{ContextValue}
use Rattle.tcp_invariants.specs.Ends.{Proceeds}
use Rattle.tcp_invariants.specs.Moments.{is_due}
use Rattle.tcp_invariants.specs.OpenOffer.{OpenOffer}
use Rattle.tcp_invariants.specs.Reply.{Reply}
use Rattle.tcp_invariants.specs.Timing.{carries}
use Rattle.tcp_block.specs.declared.tcb.Tcb.{Tcb}
use Rattle.tcp_block.specs.Offers.{offer_of}
use Rattle.tcp_block.specs.Segments.{segment_len, tsval_of}
use Rattle.tcp_refinement.specs.Pair.Sides.{at, other}
use Rattle.tcp_block.specs.Value.{TcpValue, free_in, queued_in}
use Rattle.tcp_refinement.specs.Pair.Values.{PairValue, context_at}
use Rattle.tcp_refinement.specs.declared.pair.event.Side.{Side}
use Rattle.tcp_liveness.specs.StartsOver.{StartsOver}
use Rattle.tcp_liveness.specs.Clocks.{arrives_stale}
use Rattle.tcp_liveness.specs.Exchange.{IsOpen, left_of, offer_arrives, data_of}
use Rattle.tcp_liveness.specs.Pair.{context_of, socket_of}

-- the congestion window then: a segment, where the timer ran out
abbrev pub first_cwnd : ContextValue → Tcb → ℕ
first_cwnd cx b = if is_due cx.instant b.timers.retransmit_at then b.reno.mss else b.reno.cwnd

-- a full segment, or all that is queued
abbrev pub worth_sending : TcpValue → ℕ
worth_sending v = min (max 1 v.tcb.peer.mss) (queued_in v)

-- A side with its connection that owes payload or a FIN, and starts over: the window of the remote and that of congestion control take a full
-- segment, or all that is queued.
pub record MaySend (cx : ContextValue) (v : TcpValue) : Type 0 where
  pub own : IsOpen v.tcb
  pub owes : 1 ≤ left_of v
  -- nothing is in flight, or the timer has run out
  pub over : StartsOver cx v
  pub goes : Proceeds cx v
  pub window : worth_sending v ≤ v.tcb.peer.window
  pub cwnd : worth_sending v ≤ first_cwnd cx v.tcb

-- it offers a part of its send queue, with payload or a FIN
pub record Sends (cx : ContextValue) (v : TcpValue) : Type 0 where
  pub o : OpenOffer
  pub offered : (offer_of cx v).socket.offered ≡ Some o
  pub kind : carries o.kind ≡ true
  pub some : 1 ≤ segment_len o.segment (length (data_of v o))

-- The side may send at this instant, and its peer is as an exchange asks for: nothing is said of what is offered.
pub record MayProceed (p : PairValue) (side : Side) (instant : ℤ) : Type 0 where
  pub sends : MaySend (context_of p side instant) (socket_of p side)
  pub theirs : IsOpen (socket_of p (other side)).tcb
  -- the peer has room for a byte
  pub room : 1 ≤ free_in (socket_of p (other side))
  -- neither segment has a timestamp that is older than TS.Recent
  pub initial : arrives_stale (socket_of p (other side)).tcb (tsval_of (socket_of p side).tcb instant) ≡ false
  pub answer_initial :
      (o : OpenOffer) (reply : Reply) → (offer_of (context_of p side instant) (socket_of p side)).socket.offered ≡ Some o
      → (offer_arrives (context_at (other side) (at p.sides (other side))) (socket_of p (other side)) (socket_of p side) o).answer ≡ Some reply
      → arrives_stale (socket_of p side).tcb reply.segment.options.timestamp ≡ false
