-- Segments of a connection that come: what makes them count, and what they bring about (RFC 9293, 3.10.7.4).
use Rattle.std.specs.Prelude.{◌≡◌, ◌⊎◌, ℕ, ◌+◌, ◌-◌, ◌^◌, ◌<◌, ◌≤◌, ◌&&◌, not, min, Bool, true, false, length, Some, None}
use Rattle.ip_wire.specs.Seq.{distance_of}
use Rattle.ip_wire.specs.SeqNumber.{SeqNumber}
use Rattle.ip_wire.specs.TcpControl.TheVariants as Control
use Rattle.ip_wire.specs.TcpHeader.{TcpHeader}
use Rattle.tcp_refinement.specs.Context.{ContextValue}
use Rattle.tcp_invariants.specs.Controls.{is_syn, is_rst}
use Rattle.tcp_invariants.specs.Offsets.{advanced_by}
use Rattle.tcp_invariants.specs.States.{is_answering, is_closed, accepts_data}
use Rattle.tcp_invariants.specs.Reply.{Reply}
use Rattle.tcp_invariants.specs.State.{State}
use Rattle.tcp_invariants.specs.State.TheVariants as In
use Rattle.tcp_block.specs.Answers.{delayed}
use Rattle.tcp_block.specs.TcbRules.{snd_max}
use Rattle.tcp_block.specs.Checks.{is_in_window, lies_before}
use Rattle.tcp_block.specs.Segments.{segment_len}
use Rattle.tcp_block.specs.Value.{TcpValue, Arrived, free_in, room_of}
use Rattle.tcp_block.specs.declared.tcb.Tcb.{Tcb}
use Rattle.tcp_invariants.specs.Acks.{IsAcknowledged, IsOwed}
use Rattle.tcp_invariants.specs.Events.{is_past}
use Rattle.tcp_liveness.specs.Clocks.{arrives_stale}

-- ESTABLISHED, and each later state up to TIME-WAIT
abbrev pub is_synchronized : State → Bool
is_synchronized state = is_past state && not (is_answering state)

-- The segment counts for the connection: both SYNs were acknowledged, it is neither a SYN nor a reset, its timestamp isn't older than
-- TS.Recent, and what it acknowledges lies between SND.UNA and all that was ever sent. What was sent is less than half of the circle of
-- numbers.
pub record Counts (b : Tcb) (header : TcpHeader) (number : SeqNumber) : Type 0 where
  pub synchronized : is_synchronized b.state ≡ true
  pub opened : 1 ≤ b.sender.past_iss
  pub no_syn : is_syn header.control ≡ false
  pub no_reset : is_rst header.control ≡ false
  pub initial : arrives_stale b header.options.timestamp ≡ false
  pub acknowledges : header.ack_number ≡ Some number
  pub sent : distance_of b.sender.una number ≤ b.sender.snd_max
  pub few : b.sender.snd_max < 2 ^ 31
  -- numbers of 32 bits
  pub number_small : number.0 < 2 ^ 32
  pub una_small : b.sender.una.0 < 2 ^ 32

-- it lies inside the receive window, or wholly before it, no further than a receive buffer reaches
abbrev pub IsNearWindow : TcpValue → TcpHeader → ℕ → Type 0
IsNearWindow v header size = (is_in_window v.tcb (free_in v) header size ≡ true) ⊎ (lies_before v.tcb (room_of v.received) header size ≡ true)

-- The segment begins at RCV.NXT, or so far before it that some of it is new.
pub record IsNew (v : TcpValue) (header : TcpHeader) (size : ℕ) : Type 0 where
  pub takes : accepts_data v.tcb.state ≡ true
  pub room : 1 ≤ free_in v
  pub begins : distance_of header.seq_number v.tcb.receiver.next < 2 ^ 31
  pub ends : distance_of header.seq_number v.tcb.receiver.next < segment_len header size
  -- numbers of 32 bits
  pub seq_small : header.seq_number.0 < 2 ^ 32
  pub next_small : v.tcb.receiver.next.0 < 2 ^ 32

-- how much of its payload is new
abbrev pub new_payload : TcpValue → TcpHeader → ℕ → ℕ
new_payload v header size = size - distance_of header.seq_number v.tcb.receiver.next

-- RCV.NXT rises: by one position at least, and by all new payload that the window has room for, and the connection goes on. What was taken is
-- acknowledged at once, or nothing answers it and an acknowledgement of it is due within the delay.
pub record Rises (cx : ContextValue) (v : TcpValue) (header : TcpHeader) (size : ℕ) (a : Arrived) : Type 0 where
  pub by : ℕ
  pub next : a.socket.tcb.receiver.next ≡ advanced_by v.tcb.receiver.next by
  pub some : 1 ≤ by
  pub all : min (new_payload v header size) (free_in v) ≤ by
  -- its payload waits to be read
  pub waits : by ≤ length a.socket.received.waiting + 1
  pub on : is_synchronized a.socket.tcb.state ≡ true
  pub acknowledged : IsAcknowledged a ⊎ IsOwed a (delayed cx.instant v.tcb.settings.ack_delay)

-- The segment lies wholly before RCV.NXT: all of it was taken already.
pub record IsAgain (v : TcpValue) (header : TcpHeader) (size : ℕ) : Type 0 where
  pub some : 1 ≤ segment_len header size
  pub begins : distance_of header.seq_number v.tcb.receiver.next < 2 ^ 31
  pub ends : segment_len header size ≤ distance_of header.seq_number v.tcb.receiver.next
  -- no further than a receive buffer, a SYN and a FIN reach
  pub near : distance_of header.seq_number v.tcb.receiver.next ≤ room_of v.received + 2
  -- numbers of 32 bits
  pub seq_small : header.seq_number.0 < 2 ^ 32
  pub next_small : v.tcb.receiver.next.0 < 2 ^ 32

-- its acknowledgement ends the connection: that of the FIN in LAST-ACK does (3.10.7.4, fifth)
pub record EndsLastAck (v : TcpValue) (a : Arrived) : Type 0 where
  pub last : v.tcb.state ≡ In.LastAck
  pub closed : is_closed a.socket.tcb.state ≡ true
  pub silent : a.answer ≡ None

-- it is answered at once: by a bare acknowledgement of RCV.NXT, past all that was sent
pub record IsAnswered (v : TcpValue) (a : Arrived) : Type 0 where
  pub reply : Reply
  pub answer : a.answer ≡ Some reply
  pub acknowledges : reply.segment.ack_number ≡ Some v.tcb.receiver.next
  pub bare : reply.segment.seq_number ≡ snd_max a.socket.tcb
  -- what was sent ends where it did
  pub same : snd_max a.socket.tcb ≡ snd_max v.tcb
  pub plain : reply.segment.control ≡ Control.None
  pub next : a.socket.tcb.receiver.next ≡ v.tcb.receiver.next

-- The window is closed, and some of the segment is new: it is outside, as a probe is (3.8.6.1).
pub record IsShutOut (v : TcpValue) (header : TcpHeader) (size : ℕ) : Type 0 where
  pub shut : free_in v ≡ 0
  pub begins : distance_of header.seq_number v.tcb.receiver.next < 2 ^ 31
  pub ends : distance_of header.seq_number v.tcb.receiver.next < segment_len header size
  -- numbers of 32 bits
  pub seq_small : header.seq_number.0 < 2 ^ 32
  pub next_small : v.tcb.receiver.next.0 < 2 ^ 32
