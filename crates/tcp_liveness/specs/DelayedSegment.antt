-- A segment that comes late: whatever happened since it was sent.
use Rattle.std.specs.Prelude.{◌≡◌, ◌⊎◌, ℕ, ◌<◌, ◌≤◌, true, false, [], ◌∷◌, ◌++◌, length, Some, slice_get}
use Rattle.ip_wire.specs.SeqNumber.{SeqNumber}
use Rattle.ip_wire.specs.TcpControl.TheVariants as Control
use Rattle.tcp_invariants.specs.Controls.{is_syn, is_rst}
use Rattle.tcp_invariants.specs.Offsets.{distance_after}
use Rattle.tcp_invariants.specs.OpenOffer.{OpenOffer}
use Rattle.tcp_invariants.specs.State.TheVariants as In
use Rattle.tcp_invariants.specs.States.{is_closed}
use Rattle.tcp_block.specs.Answers.{may_challenge}
use Rattle.tcp_block.specs.TcbRules.{snd_max}
use Rattle.tcp_block.specs.Segments.{segment_len}
use Rattle.tcp_refinement.specs.Pair.Sides.{at, other}
use Rattle.tcp_block.specs.Value.{free_in, room_of}
use Rattle.tcp_refinement.specs.Pair.Values.{PairValue, past_at}
use Rattle.tcp_refinement.specs.declared.pair.event.PairEvent.TheVariants.{Deliver}
use Rattle.tcp_refinement.specs.declared.pair.event.SentSegment.{SentSegment}
use Rattle.tcp_refinement.specs.declared.pair.event.Side.{Side}
use Rattle.tcp_liveness.specs.Arrivals.{IsNearWindow}
use Rattle.tcp_liveness.specs.Clocks.{arrives_stale}
use Rattle.tcp_liveness.specs.Exchange.{data_of}
use Rattle.tcp_liveness.specs.Onward.{HasRisen, Lasts}
use Rattle.tcp_liveness.specs.Pair.{HasStream, left_in, socket_of}
use Rattle.tcp_liveness.specs.Rounds.{takes}
use Rattle.tcp_liveness.specs.Sent.{taken_in}

-- A segment goes from SND.UNA of a side on, as it is in this pair: payload or a FIN, and the acknowledgement of all that the side took.
pub record GoesFrom (p : PairValue) (side : Side) (x : SentSegment) : Type 0 where
  pub number : x.segment.seq_number ≡ (socket_of p side).tcb.sender.una
  pub acknowledges : x.segment.ack_number ≡ Some (socket_of p side).tcb.receiver.next
  pub some : 1 ≤ segment_len x.segment (length x.bytes)
  pub ends : segment_len x.segment (length x.bytes) ≤ left_in p side
  pub no_syn : is_syn x.segment.control ≡ false
  pub no_reset : is_rst x.segment.control ≡ false

-- A segment of a side of this number can come: it was sent, and has no timestamp that is older than TS.Recent of the other.
pub record MayCome (p : PairValue) (side : Side) (k : ℕ) (x : SentSegment) : Type 0 where
  pub sent : slice_get (at p.sides side).sent k ≡ Some x
  pub initial : arrives_stale (socket_of p (other side)).tcb x.segment.options.timestamp ≡ false

-- the pair when it has come
abbrev pub come_in : PairValue → Side → ℕ → PairValue
come_in p side k = takes p (Deliver side k)

-- then RCV.NXT of the other has risen
abbrev pub IsTakenIn : PairValue → Side → ℕ → Type 0
IsTakenIn p side k = taken_in p (other side) < taken_in (come_in p side k) (other side)

-- or it is answered by RCV.NXT, at a number past all that the other ever sent
pub record IsAnsweredIn (p : PairValue) (side : Side) (k : ℕ) : Type 0 where
  pub answer : SentSegment
  pub sent : (at (come_in p side k).sides (other side)).sent ≡ (at p.sides (other side)).sent ++ answer ∷ []
  pub acknowledges : answer.segment.ack_number ≡ Some (socket_of p (other side)).tcb.receiver.next
  pub plain : answer.segment.control ≡ Control.None
  pub bare : answer.segment.seq_number ≡ snd_max (socket_of (come_in p side k) (other side)).tcb

-- or the window is closed, and the last answer was drawn less than a second ago
abbrev pub IsShutIn : PairValue → Side → Type 0
IsShutIn p side =
    (free_in (socket_of p (other side)) ≡ 0)
    × (may_challenge (at p.sides (other side)).instant (socket_of p (other side)).tcb.timers.challenges_from ≡ false)

-- or it ends LAST-ACK
abbrev pub EndsIn : PairValue → Side → ℕ → Type 0
EndsIn p side k =
    ((socket_of p (other side)).tcb.state ≡ In.LastAck) × (is_closed (socket_of (come_in p side k) (other side)).tcb.state ≡ true)

abbrev pub CountsIn : PairValue → Side → ℕ → Type 0
CountsIn p side k = IsTakenIn p side k ⊎ (IsAnsweredIn p side k ⊎ (IsShutIn p side ⊎ EndsIn p side k))

-- a number lies no further than SND.UNA
abbrev pub IsAckedTo : SeqNumber → SeqNumber → Type 0
IsAckedTo number una = distance_after una number ≡ 0

-- AN EXCHANGE

-- what an offer of a side sends
abbrev pub sent_by : PairValue → Side → OpenOffer → SentSegment
sent_by p side o = record { header = o.header; segment = o.segment; bytes = data_of (socket_of p side) o }

-- A segment of the other of this number can come to a side, near its window.
pub record MayHear (p : PairValue) (side : Side) (j : ℕ) (x : SentSegment) : Type 0 where
  pub sent : slice_get (at p.sides (other side)).sent j ≡ Some x
  pub initial : arrives_stale (socket_of p side).tcb x.segment.options.timestamp ≡ false
  pub near : IsNearWindow (socket_of p side) x.segment (length x.bytes)

abbrev pub heard_in : PairValue → Side → ℕ → PairValue
heard_in p side j = takes p (Deliver (other side) j)

-- A segment goes from SND.UNA of a side on as the pair is `p`, and comes when it is `q`; and what answers it, if anything does, comes when it is
-- `s`. Whatever happens between, both connections stay.
pub record TakesTime (p q s : PairValue) (side : Side) (k j : ℕ) (x : SentSegment) : Type 0 where
  pub stream : HasStream (past_at p side)
  -- the other has a receive buffer
  pub room : 1 ≤ room_of (socket_of p (other side)).received
  pub goes : GoesFrom p side x
  pub first : Lasts p q
  pub comes : MayCome q side k x
  pub second : Lasts (come_in q side k) s
  pub hears : (it : IsAnsweredIn q side k) → MayHear s side j it.answer

-- After the segment RCV.NXT or SND.UNA of the other has risen since it went; or the other's window was closed; or after the answer SND.UNA or
-- RCV.NXT of the side has; or the answer ended the side's connection.
abbrev pub ProceedsIn : PairValue → PairValue → PairValue → Side → ℕ → ℕ → Type 0
ProceedsIn p q s side k j =
    HasRisen p (come_in q side k) (other side)
    ⊎ ((free_in (socket_of q (other side)) ≡ 0)
    ⊎ (HasRisen p (heard_in s side j) side ⊎ (is_closed (socket_of (heard_in s side j) side).tcb.state ≡ true)))
