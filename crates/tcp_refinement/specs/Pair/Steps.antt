-- What each event does and answers, and which are refused.
use Rattle.std.specs.Prelude.{◌≡◌, ℕ, ◌+◌, ◌^◌, ◌==◌, nat_lt, nat_le, not, ◌&&◌, ℤ, pos, int_le, Bool, true, false, if◌then◌else◌, List, [], ◌∷◌, length, take}
use Rattle.std.specs.Prelude.{Option, Some, None, Result, Ok, Err, slice_get}
use Rattle.net_base.specs.RandomWords.{next_state}
use Rattle.net_base.specs.Time.{last_instant}
use Rattle.ip_wire.specs.IpEndpoint.{IpEndpoint}
use Rattle.ip_wire.specs.IpListenEndpoint.{IpListenEndpoint}
use Rattle.tcp_theory.specs.Side.{Opening}
use Rattle.tcp_theory.specs.Side.Opening.{NotYet, Passive, Active}
use Rattle.tcp_block.specs.ConnectError.{ConnectError}
use Rattle.tcp_block.specs.ConnectError.TheVariants as Connecting
use Rattle.tcp_block.specs.ListenError.{ListenError}
use Rattle.tcp_block.specs.ListenError.TheVariants as Listening
use Rattle.tcp_block.specs.RecvError.{RecvError}
use Rattle.tcp_block.specs.RecvError.TheVariants as Receiving
use Rattle.tcp_block.specs.SendError.{SendError}
use Rattle.tcp_block.specs.Arrival.{arrives}
use Rattle.tcp_block.specs.Calls.{listen_answer, listen_after, connect_answer, connect_after, connect_draws, send_answer, send_after, recv_answer, recv_after}
use Rattle.tcp_block.specs.Calls.{close_after, abort_after}
use Rattle.tcp_block.specs.Names.{accepts}
use Rattle.tcp_block.specs.Offers.{offer_of}
use Rattle.tcp_block.specs.Settings.{set_timeout, set_ack_delay, set_keep_alive, set_nagle_enabled, set_hop_limit, set_tsval_generator, set_congestion_control}
use Rattle.tcp_block.specs.Settings.{pause_synack, set_retries, set_min_rto, set_fine_timer}
use Rattle.tcp_block.specs.Settled.{settled}
use Rattle.tcp_block.specs.Value.{TcpValue, Arrived, unoffered}
use Rattle.tcp_refinement.specs.declared.pair.event.Side.{Side}
use Rattle.tcp_refinement.specs.declared.pair.event.SentSegment.{SentSegment}
use Rattle.tcp_refinement.specs.declared.pair.event.PairEvent.{PairEvent}
use Rattle.tcp_refinement.specs.declared.pair.event.PairEvent.TheVariants.{Listen, Connect, Send, Recv, Close, Abort, TcpSetting, Clock, Offer, Deliver}
use Rattle.tcp_refinement.specs.declared.pair.event.PairAnswer.{PairAnswer}
use Rattle.tcp_refinement.specs.declared.pair.event.PairAnswer.TheVariants.{Done, Count, Bytes, Error}
use Rattle.tcp_refinement.specs.declared.pair.event.PairRefused.{PairRefused}
use Rattle.tcp_refinement.specs.declared.pair.event.PairRefused.TheVariants.{NoSegment, OpenedTwice, TooManyBytes, Moment, Memory}
use Rattle.tcp_refinement.specs.declared.pair.event.TcpFault.TheVariants as Fault
use Rattle.tcp_refinement.specs.declared.pair.event.TcpSetting.{TcpSetting as Setting}
use Rattle.tcp_refinement.specs.declared.pair.event.TcpSetting.TheVariants as Set
use Rattle.tcp_refinement.specs.Pair.History.{Entry, side_of, pasts}
use Rattle.tcp_refinement.specs.Pair.Sides.{Both, at, put, other}
use Rattle.tcp_refinement.specs.Pair.Values.{PairSide, PairValue, context_at, and_reply, and_offer}

-- REFUSALS

abbrev pub if_so : Bool → PairRefused → Option PairRefused
if_so test refused = if test then Some refused else None

abbrev pub was_opened : Opening → Bool
was_opened NotYet = false
was_opened Passive = true
was_opened Active = true

-- an instant that isn't before the last one
abbrev pub may_come : ℤ → ℤ → Bool
may_come last instant = int_le (pos 0) instant && (int_le instant (pos last_instant) && int_le last instant)

-- why an event isn't taken, but for lack of memory
abbrev pub refusal : PairValue → PairEvent → Option PairRefused
refusal p (Deliver from k) = if_so (not (nat_lt k (length (at p.sides from).sent))) NoSegment
refusal p (Listen side endpoint) = if_so (was_opened (at (pasts p.history) side).opening) OpenedTwice
refusal p (Connect side remote local) = if_so (was_opened (at (pasts p.history) side).opening) OpenedTwice
refusal p (Send side bytes) = if_so (nat_le (2 ^ 29) (length (at (pasts p.history) side).written + length bytes)) TooManyBytes
refusal p (Clock side instant) = if_so (not (may_come (at p.sides side).instant instant)) Moment
refusal p (Offer side instant sent) = if_so (not (may_come (at p.sides side).instant instant)) Moment
refusal p other = None

-- ANSWERS

abbrev pub listen_says : Result (Unit {0}) ListenError → PairAnswer
listen_says (Ok done) = Done
listen_says (Err Listening.InvalidState) = Error Fault.InvalidState
listen_says (Err Listening.Unaddressable) = Error Fault.Unaddressable

abbrev pub connect_says : Result (Unit {0}) ConnectError → PairAnswer
connect_says (Ok done) = Done
connect_says (Err Connecting.InvalidState) = Error Fault.InvalidState
connect_says (Err Connecting.Unaddressable) = Error Fault.Unaddressable

abbrev pub send_says : Result ℕ SendError → PairAnswer
send_says (Ok count) = Count count
send_says (Err refusal) = Error Fault.InvalidState

abbrev pub recv_fault : RecvError → PairAnswer
recv_fault Receiving.InvalidState = Error Fault.InvalidState
recv_fault Receiving.Finished = Error Fault.Finished

-- STEPS OF ONE SIDE

-- what an event does to the side that it is for
pub record Acted : Type 0 where
  pub answer : PairAnswer
  pub side : PairSide

abbrev pub acted : PairAnswer → PairSide → TcpValue → Acted
acted answer s socket = record { answer = answer; side = record s { socket = socket } }

abbrev pub with_random : Bool → PairSide → PairSide
with_random draws s = record s { random = if draws then next_state s.random else s.random }

abbrev pub reads : PairSide → Result ℕ RecvError → Acted
reads s (Ok count) = acted (Bytes (take count s.socket.received.waiting)) s (recv_after s.socket count)
reads s (Err fault) = acted (recv_fault fault) s (unoffered s.socket)

-- a hop limit of 0 counts as none
abbrev pub limit_of : Option ℕ → Option ℕ
limit_of None = None
limit_of (Some n) = if n == 0 then None else Some n

abbrev pub set_by : Setting → TcpValue → TcpValue
set_by (Set.Timeout duration) v = set_timeout v duration
set_by (Set.AckDelay duration) v = set_ack_delay v duration
set_by (Set.KeepAlive interval) v = set_keep_alive v interval
set_by (Set.NagleEnabled enabled) v = set_nagle_enabled v enabled
set_by (Set.HopLimit limit) v = set_hop_limit v (limit_of limit)
set_by (Set.TsvalGenerator generator) v = set_tsval_generator v generator
set_by (Set.CongestionControl control) v = set_congestion_control v control
set_by (Set.PauseSynack paused) v = pause_synack v paused
set_by (Set.Retries limit) v = set_retries v limit
set_by (Set.MinRto duration) v = set_min_rto v duration
set_by (Set.FineTimer fine) v = set_fine_timer v fine

-- its host knows a later instant
abbrev pub at_clock : PairSide → ℤ → PairSide
at_clock s instant = record s { instant = instant }

-- asked at its last instant, and told whether the segment was sent
abbrev pub offered_at : Side → PairSide → Bool → PairSide
offered_at side s false = record s { socket = settled false (offer_of (context_at side s) s.socket).socket }
offered_at side s true = record s {
  socket = settled true (offer_of (context_at side s) s.socket).socket;
  sent = and_offer s.sent (offer_of (context_at side s) s.socket).socket.offered (offer_of (context_at side s) s.socket).socket.queued.queue;
}

-- a segment comes that the socket accepts
abbrev pub taken_at : PairSide → Arrived → PairSide
taken_at s a = with_random a.draws (record s { socket = a.socket; sent = and_reply s.sent a.answer })

-- it is dropped where the socket doesn't accept it
abbrev pub comes_to : Side → PairSide → SentSegment → PairSide
comes_to side s x =
    if accepts s.socket.tcb x.header x.segment
    then taken_at s (arrives (context_at side s) s.socket x.header x.segment x.bytes)
    else s

abbrev pub handed : Side → PairSide → Option SentSegment → PairSide
handed side s None = s
handed side s (Some x) = comes_to side s x

-- by the side itself, and the segments that the other sent
abbrev pub acts : PairSide → List SentSegment → PairEvent → Acted
acts s others (Listen side endpoint) = acted (listen_says (listen_answer s.socket endpoint)) s (listen_after s.socket endpoint)
acts s others (Connect side remote local) =
    acted (connect_says (connect_answer (context_at side s) s.socket remote local))
    (with_random (connect_draws (context_at side s) s.socket remote local) s)
    (connect_after (context_at side s) s.socket remote local)
acts s others (Send side bytes) = acted (send_says (send_answer s.socket (length bytes))) s (send_after s.socket bytes)
acts s others (Recv side count) = reads s (recv_answer s.socket count)
acts s others (Close side) = acted Done s (close_after s.socket)
acts s others (Abort side) = acted Done s (abort_after s.socket)
acts s others (TcpSetting side setting) = acted Done s (set_by setting s.socket)
acts s others (Clock side instant) = record { answer = Done; side = at_clock s instant }
acts s others (Offer side instant sent) = record { answer = Done; side = offered_at side (at_clock s instant) sent }
acts s others (Deliver from k) = record { answer = Done; side = handed (other from) s (slice_get others k) }

-- STEPS OF THE PAIR

-- what an event answers, and the pair after it
pub record Happened : Type 0 where
  pub answer : PairAnswer
  pub pair : PairValue

-- the side that the event is for acts, and the other is left as it is
abbrev pub acting : PairValue → PairEvent → Acted
acting p event = acts (at p.sides (side_of event)) (at p.sides (other (side_of event))).sent event

abbrev pub entry : PairValue → PairEvent → Entry
entry p event = record { event = event; answer = (acting p event).answer; found = (at p.sides (side_of event)).socket.tcb.state }

abbrev pub happens : PairValue → PairEvent → Happened
happens p event = record {
  answer = (acting p event).answer;
  pair = record { sides = put p.sides (side_of event) (acting p event).side; history = entry p event ∷ p.history };
}

-- these events are taken, one after the other
abbrev pub Steps : PairValue → List PairEvent → PairValue → Type 0
Steps old [] new = new ≡ old
Steps old (event ∷ events) new = (refusal old event ≡ None) × Steps (happens old event).pair events new
