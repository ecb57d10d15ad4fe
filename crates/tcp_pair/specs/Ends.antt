-- One of the two sockets with what a pair keeps of it, and what an event does to it.
use Rattle.std.specs.Prelude.{ℕ, ◌+◌, ◌^◌, ◌<◌, ◌≤◌, nat_lt, nat_le, not, ◌||◌, pos, Bool, true, false, List, [], length, Option, None, IfSome}
use Rattle.net_base.specs.Time.{IsMoment}
use Rattle.socket_context.specs.Packet.{PacketValue, PayloadValue, packet_of}
use Rattle.socket_context.specs.Packet as Carried
use Rattle.tcp_block.specs.Offers.{payload_of}
use Rattle.tcp_block.specs.Value.{TcpValue}
use Rattle.tcp_refinement.specs.declared.pair.event.Side.{Side}
use Rattle.tcp_refinement.specs.declared.pair.event.SentSegment.{SentSegment}
use Rattle.tcp_refinement.specs.declared.pair.event.PairEvent.{PairEvent}
use Rattle.tcp_refinement.specs.declared.pair.event.PairEvent.TheVariants.{Listen, Connect, Send, Recv, Close, Abort, TcpSetting, Clock, Offer, Deliver}
use Rattle.tcp_refinement.specs.declared.pair.event.PairAnswer.{PairAnswer}
use Rattle.tcp_refinement.specs.declared.pair.event.PairAnswer.TheVariants.{Done, Count, Bytes}
use Rattle.tcp_refinement.specs.declared.pair.event.PairRefused.{PairRefused}
use Rattle.tcp_refinement.specs.declared.pair.event.PairRefused.TheVariants.{NoSegment, OpenedTwice, TooManyBytes, Moment}
use Rattle.tcp_refinement.specs.Pair.History.{side_of}
use Rattle.tcp_refinement.specs.Pair.Sides.{Both, at, put, other}
use Rattle.tcp_refinement.specs.Pair.Steps.{Acted, acts, if_so, may_come}
use Rattle.tcp_refinement.specs.Pair.Values.{PairSide}
use Rattle.tcp_pair.specs.Context.{seed_of}
use Rattle.tcp_pair.specs.States.{SideState, bare, side_on}

-- Which side it is; its socket, segments, last instant and random words; whether it was opened; how many bytes it took for sending.
pub record EndValue : Type 0 where
  pub side : Side
  pub own : SideState
  pub opened : Bool
  pub accepted : ℕ

-- a socket to which nothing happened yet
abbrev pub initial_end : Side → TcpValue → EndValue
initial_end side socket = record {
  side = side;
  own = record { socket = socket; sent = []; instant = pos 0; random = seed_of side };
  opened = false;
  accepted = 0;
}

-- WHAT A SIDE REFUSES

-- the side that an event names
abbrev pub named : PairEvent → Side
named (Listen side endpoint) = side
named (Connect side remote local) = side
named (Send side bytes) = side
named (Recv side count) = side
named (Close side) = side
named (Abort side) = side
named (TcpSetting side setting) = side
named (Clock side instant) = side
named (Offer side instant sent) = side
named (Deliver from k) = from

abbrev pub refusal_at : EndValue → PairEvent → Option PairRefused
refusal_at e (Deliver from k) = if_so (not (nat_lt k (length e.own.sent))) NoSegment
refusal_at e (Listen side endpoint) = if_so e.opened OpenedTwice
refusal_at e (Connect side remote local) = if_so e.opened OpenedTwice
refusal_at e (Send side bytes) = if_so (nat_le (2 ^ 29) (e.accepted + length bytes)) TooManyBytes
refusal_at e (Clock side instant) = if_so (not (may_come e.own.instant instant)) Moment
refusal_at e (Offer side instant sent) = if_so (not (may_come e.own.instant instant)) Moment
refusal_at e event = None

-- what is known of an event that isn't refused
abbrev pub MayAct : EndValue → PairEvent → Type 0
MayAct e (Send side bytes) = e.accepted + length bytes < 2 ^ 29
MayAct e (Clock side instant) = IsMoment instant
MayAct e (Offer side instant sent) = IsMoment instant
MayAct e event = Unit {0}

-- WHAT A SIDE DOES

abbrev pub is_done : PairAnswer → Bool
is_done Done = true
is_done answer = false

abbrev pub count_in : PairAnswer → ℕ
count_in (Count n) = n
count_in answer = 0

-- the event opens the socket
abbrev pub opens : PairEvent → PairAnswer → Bool
opens (Listen side endpoint) answer = is_done answer
opens (Connect side remote local) answer = is_done answer
opens event answer = false

-- so many bytes were taken for sending
abbrev pub counts : PairEvent → PairAnswer → ℕ
counts (Send side bytes) answer = count_in answer
counts event answer = 0

-- as it stands on its host
abbrev pub on_host : EndValue → PairSide
on_host e = side_on e.side e.own

abbrev pub with_own : EndValue → PairSide → EndValue
with_own e own = record e { own = bare own }

-- with what the answer says of opening and writing
abbrev pub tallied : EndValue → PairEvent → PairAnswer → EndValue
tallied e event answer = record e { opened = opens event answer || e.opened; accepted = e.accepted + counts event answer }

-- the side after an event, by its answer
abbrev pub after_event : EndValue → List SentSegment → PairEvent → PairAnswer → EndValue
after_event e others event answer = tallied (with_own e (acts (on_host e) others event).side) event answer

-- an answer without bytes
abbrev pub IsShort : PairAnswer → Type 0
IsShort (Bytes bytes) = ⊥
IsShort answer = Unit {0}

-- SEGMENTS

-- a sent segment as a packet
abbrev pub carried : SentSegment → PacketValue
carried x = packet_of x.header (Carried.Segment x.segment x.bytes)

-- a segment of at most so many bytes
abbrev pub FitsRoom : ℕ → PayloadValue → Type 0
FitsRoom room (Carried.Segment header bytes) = length bytes ≤ room
FitsRoom room payload = ⊥

-- so many bytes hold the payload of an open offer
abbrev pub HasRoom : ℕ → TcpValue → Type 0
HasRoom room v = IfSome v.offered (λ o. length (payload_of o o.kind v.queued.queue) ≤ room)

-- BOTH SIDES

-- by the side that the event is for
abbrev pub acted_at : Both EndValue → PairEvent → Acted
acted_at ends event = acts (on_host (at ends (side_of event))) (at ends (other (side_of event))).own.sent event

-- the other side is left as it was
abbrev pub ends_after : Both EndValue → PairEvent → Both EndValue
ends_after ends event = put ends (side_of event)
    (after_event (at ends (side_of event)) (at ends (other (side_of event))).own.sent event (acted_at ends event).answer)
