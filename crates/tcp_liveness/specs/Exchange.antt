-- An exchange (RFC 9293, 3.8.1 and 3.10.7.4): a side sends from SND.UNA on; its peer takes what is new of it, or has it already and
-- answers; and the answer comes.
use Rattle.std.specs.Prelude.{◌≡◌, ◌⊎◌, ℕ, ◌<◌, ◌≤◌, ◌+◌, ◌^◌, true, false, List, [], length, Some}
use Rattle.ip_wire.specs.Seq.{distance_of}
use Rattle.ip_wire.specs.SeqNumber.{SeqNumber}
use Rattle.ip_wire.specs.TcpHeader.{TcpHeader}
use Rattle.tcp_refinement.specs.Context.{ContextValue}
use Rattle.tcp_invariants.specs.Offsets.{advanced_by}
use Rattle.tcp_invariants.specs.OpenOffer.{OpenOffer}
use Rattle.tcp_invariants.specs.Reply.{Reply}
use Rattle.tcp_invariants.specs.Timing.{carries}
use Rattle.tcp_block.specs.Arrival.{arrives}
use Rattle.tcp_block.specs.declared.tcb.Tcb.{Tcb}
use Rattle.tcp_block.specs.TcbRules.{snd_max, unacked}
use Rattle.tcp_block.specs.Offers.{offer_of, payload_of}
use Rattle.tcp_block.specs.Segments.{segment_len}
use Rattle.tcp_block.specs.Settled.{settled}
use Rattle.tcp_block.specs.Value.{TcpValue, Arrived, free_in, queued_in, room_of}
use Rattle.tcp_liveness.specs.StartsOver.{StartsOver}
use Rattle.tcp_liveness.specs.Arrivals.{is_synchronized, EndsLastAck, Rises}
use Rattle.tcp_liveness.specs.Clocks.{arrives_stale}

-- ESTABLISHED or later, and the own SYN is acknowledged
pub record IsOpen (b : Tcb) : Type 0 where
  pub synchronized : is_synchronized b.state ≡ true
  pub acknowledged : b.sender.syn_unacked ≡ false
  pub opened : 1 ≤ b.sender.past_iss

-- a number moved on: by a position at least, and by less than a quarter of the circle of numbers
pub record MovesOn (old new : SeqNumber) : Type 0 where
  pub by : ℕ
  pub some : 1 ≤ by
  pub few : by < 2 ^ 30
  pub moved : new ≡ advanced_by old by

-- RCV.NXT of the peer lies within what the side ever sent
abbrev pub TookWhatWasSent : TcpValue → TcpValue → Type 0
TookWhatWasSent v peer_side = distance_of v.tcb.sender.una peer_side.tcb.receiver.next ≤ v.tcb.sender.snd_max

-- and what it took past SND.UNA is no longer than its buffer, a SYN and a FIN
abbrev pub FitsBuffer : TcpValue → TcpValue → Type 0
FitsBuffer v peer_side = distance_of v.tcb.sender.una peer_side.tcb.receiver.next ≤ room_of peer_side.received + 2

-- all that the peer ever sent came, or there is room after it in the window, so that a bare acknowledgement lies inside
abbrev pub HasSpace : TcpValue → TcpValue → Type 0
HasSpace v peer_side =
    (distance_of v.tcb.receiver.next (snd_max peer_side.tcb) ≡ 0) ⊎ (distance_of v.tcb.receiver.next (snd_max peer_side.tcb) < free_in v)

-- What the peer answers can lie inside the window; or the side knows of all that the peer took, so that what it sends is new, and is
-- taken whether or not the side hears of it.
abbrev pub CanHear : TcpValue → TcpValue → Type 0
CanHear v peer_side = HasSpace v peer_side ⊎ (peer_side.tcb.receiver.next ≡ v.tcb.sender.una)

-- the payload of an offer
abbrev pub data_of : TcpValue → OpenOffer → List ℕ
data_of v o = payload_of o o.kind v.queued.queue

-- a segment from SND.UNA on, with payload or a FIN, and no more than what isn't acknowledged
pub record GoesFromUna (v : TcpValue) (o : OpenOffer) : Type 0 where
  pub number : o.segment.seq_number ≡ v.tcb.sender.una
  pub acknowledges : o.segment.ack_number ≡ Some v.tcb.receiver.next
  pub ends : segment_len o.segment (length (data_of v o)) ≤ unacked v.tcb (queued_in v)

-- what comes when the offer of a side has come
abbrev pub offer_arrives : ContextValue → TcpValue → TcpValue → OpenOffer → Arrived
offer_arrives cx peer_side v o = arrives cx peer_side o.header o.segment (data_of v o)

-- The side and its peer, each with its connection, and an offer of the side with payload or a FIN that goes from SND.UNA on.
pub record MayExchange (cx cy : ContextValue) (v peer_side : TcpValue) (o : OpenOffer) : Type 0 where
  pub own : IsOpen v.tcb
  pub theirs : IsOpen peer_side.tcb
  -- nothing is in flight, or the timer has run out
  pub over : StartsOver cx v
  pub offered : (offer_of cx v).socket.offered ≡ Some o
  pub kind : carries o.kind ≡ true
  pub some : 1 ≤ segment_len o.segment (length (data_of v o))
  -- the peer has room for a byte
  pub room : 1 ≤ free_in peer_side
  -- the answer lies inside the window, if one is needed
  pub space : CanHear v peer_side
  -- neither segment has a timestamp that is older than TS.Recent
  pub initial : arrives_stale peer_side.tcb o.segment.options.timestamp ≡ false
  pub answer_initial :
      (reply : Reply) → (offer_arrives cy peer_side v o).answer ≡ Some reply → arrives_stale v.tcb reply.segment.options.timestamp ≡ false

-- What an exchange asks for, whether or not the answer can be heard.
pub record MayReach (cx cy : ContextValue) (u w : TcpValue) (o : OpenOffer) : Type 0 where
  pub own : IsOpen u.tcb
  pub theirs : IsOpen w.tcb
  pub over : StartsOver cx u
  pub offered : (offer_of cx u).socket.offered ≡ Some o
  pub kind : carries o.kind ≡ true
  pub some : 1 ≤ segment_len o.segment (length (data_of u o))
  pub room : 1 ≤ free_in w
  pub initial : arrives_stale w.tcb o.segment.options.timestamp ≡ false
  pub answer_initial :
      (reply : Reply) → (offer_arrives cy w u o).answer ≡ Some reply → arrives_stale u.tcb reply.segment.options.timestamp ≡ false

-- RCV.NXT of the peer rises, by what there is room for, and that is acknowledged at once, or its acknowledgement is due
pub record IsTaken (cy : ContextValue) (peer_side : TcpValue) (header : TcpHeader) (size : ℕ) (a : Arrived) : Type 0 where
  pub rises : Rises cy peer_side header size a
  pub next : MovesOn peer_side.tcb.receiver.next a.socket.tcb.receiver.next

-- how much isn't acknowledged
abbrev pub left_of : TcpValue → ℕ
left_of v = unacked v.tcb (queued_in v)

-- the side, once it has sent its offer and this answer has come
abbrev pub answer_arrives : ContextValue → ContextValue → TcpValue → Reply → TcpValue
answer_arrives cx cz v reply = (arrives cz (settled true (offer_of cx v).socket) reply.header reply.segment []).socket

-- The peer answers, and the answer raises SND.UNA of the side, which has sent its offer,
-- to all that the peer took
pub record IsTold (cx cz : ContextValue) (v peer_side : TcpValue) (a : Arrived) : Type 0 where
  pub reply : Reply
  pub answer : a.answer ≡ Some reply
  pub una : MovesOn v.tcb.sender.una (answer_arrives cx cz v reply).tcb.sender.una
  pub all : (answer_arrives cx cz v reply).tcb.sender.una ≡ peer_side.tcb.receiver.next
  pub had : 1 ≤ distance_of v.tcb.sender.una peer_side.tcb.receiver.next
  pub left : left_of (answer_arrives cx cz v reply) + distance_of v.tcb.sender.una peer_side.tcb.receiver.next ≡ left_of v
  pub still : a.socket.tcb.receiver.next ≡ peer_side.tcb.receiver.next

-- RCV.NXT of the peer rises; or it has all of it already, and what it answers raises SND.UNA; or its connection ends
abbrev pub HasMoved : ContextValue → ContextValue → ContextValue → TcpValue → TcpValue → OpenOffer → Type 0
HasMoved cx cy cz v peer_side o =
    IsTaken cy peer_side o.segment (length (data_of v o)) (offer_arrives cy peer_side v o)
    ⊎ (IsTold cx cz v peer_side (offer_arrives cy peer_side v o) ⊎ EndsLastAck peer_side (offer_arrives cy peer_side v o))
