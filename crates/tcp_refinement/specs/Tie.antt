-- A socket is a side of the written machine: which side goes with a socket, and what its user and the network saw of it.
use Rattle.std.specs.Prelude.{◌≡◌, ◌≢◌, ◌⊎◌, ℕ, suc, ◌+◌, ◌-◌, ◌≤◌, ◌==◌, Bool, true, false, List, [], length, Option, Some, None}
use Rattle.ip_wire.specs.SeqNumber.{SeqNumber}
use Rattle.ip_wire.specs.TcpControl.{TcpControl}
use Rattle.ip_wire.specs.TcpControl.TheVariants as Bits
use Rattle.ip_wire.specs.TcpHeader.{TcpHeader}
use Rattle.tcp_theory.specs.Invariant.{HoldsBetween}
use Rattle.tcp_theory.specs.Numbers.{wire}
use Rattle.tcp_theory.specs.ReceiveMap.{space, front}
use Rattle.tcp_theory.specs.Segment.{Segment, Control}
use Rattle.tcp_theory.specs.Segment.Control.{Plain, Syn, Fin, Rst}
use Rattle.tcp_theory.specs.Side.{Side, Phase, Opening, rcv_next, send_end, send_queue, one_if, initial}
use Rattle.tcp_theory.specs.Side.Phase.{SynSent, SynReceived, Synchronized, Ended}
use Rattle.tcp_theory.specs.Side.Opening.{NotYet, Passive}
use Rattle.tcp_theory.specs.Move.{listening}
use Rattle.tcp_block.specs.FourTuple.{FourTuple}
use Rattle.tcp_block.specs.State.{State}
use Rattle.tcp_block.specs.State.TheVariants as In
use Rattle.tcp_block.specs.States.{owes_fin, sends_syn}
use Rattle.tcp_block.specs.Value.{TcpValue}

-- SEGMENTS AS THE MACHINE SEES THEM

abbrev pub control_of : TcpControl → Control
control_of Bits.None = Plain
control_of Bits.Psh = Plain
control_of Bits.Syn = Syn
control_of Bits.Fin = Fin
control_of Bits.Rst = Rst

abbrev pub ack_of : Option SeqNumber → Option ℕ
ack_of None = None
ack_of (Some n) = Some n.0

-- control, numbers and bytes; the machine reads no window and no option
abbrev pub segment_of : TcpHeader → List ℕ → Segment
segment_of header bytes =
    record { control = control_of header.control; seq = header.seq_number.0; ack = ack_of header.ack_number; bytes = bytes }

-- HISTORY

-- what was seen of a socket: how it was opened, what its user wrote and read, whether it was closed, and what it sent
pub record Past : Type 0 where
  pub opening : Opening
  pub written : List ℕ
  pub read : List ℕ
  pub closed : Bool
  pub sent : List Segment

abbrev pub past_of : Side → Past
past_of s = record { opening = s.opening; written = s.written; read = s.read; closed = s.closed; sent = s.sent }

-- before the OPEN, when its host may have sent resets for it
abbrev pub no_past : List Segment → Past
no_past resets = record { opening = NotYet; written = []; read = []; closed = false; sent = resets }

-- WHAT THE TIE READS OF A SOCKET

pub record Core : Type 0 where
  pub state : State
  pub listen_port : ℕ
  pub pair : Option FourTuple
  pub una : ℕ
  pub syn_unacked : Bool
  pub past_iss : ℕ
  pub snd_max : ℕ
  pub next : ℕ
  pub took_syn : Bool
  pub took_fin : Bool
  pub waiting : List ℕ
  pub map : List (Option ℕ)
  pub queue : List ℕ

abbrev pub core_of : TcpValue → Core
core_of v = record {
  state = v.tcb.state;
  listen_port = v.tcb.names.listen.port;
  pair = v.tcb.names.pair;
  una = v.tcb.sender.una.0;
  syn_unacked = v.tcb.sender.syn_unacked;
  past_iss = v.tcb.sender.past_iss;
  snd_max = v.tcb.sender.snd_max;
  next = v.tcb.receiver.next.0;
  took_syn = v.tcb.receiver.took_syn;
  took_fin = v.tcb.receiver.took_fin;
  waiting = v.received.waiting;
  map = v.received.map;
  queue = v.queued.queue;
}

-- nothing of a stream is kept, and all of the receive space is free
pub record IsBlank (c : Core) : Type 0 where
  pub waiting : c.waiting ≡ []
  pub map : c.map ≡ space (length c.map)
  pub queue : c.queue ≡ []
  pub unfinished : c.took_fin ≡ false

-- the side but for what it sent, of which no rule reads anything
abbrev pub unsent : Side → Side
unsent s = record s { sent = [] }

-- CLOSED before its OPEN. Its numbers and held bytes may be left from an earlier connection.
pub record IsUnopened (c : Core) (s : Side) : Type 0 where
  pub side : s ≡ initial (length c.map)
  pub waiting : c.waiting ≡ []
  pub queue : c.queue ≡ []
  pub unfinished : c.took_fin ≡ false

-- CLOSED after its OPEN
pub record IsEnded (c : Core) (s : Side) : Type 0 where
  pub once : s.opening ≢ NotYet
  pub phase : s.phase ≡ Ended
  pub took_fin : c.took_fin ≡ s.took_fin
  pub queue : c.queue ≡ send_queue s
  pub waiting : c.waiting ≡ s.waiting
  pub map : c.map ≡ s.window

-- LISTEN. A listener that fell back keeps the other SYN's position on record, which no rule reads.
pub record IsListening (c : Core) (s : Side) : Type 0 where
  pub side : s ≡ record (listening (length c.map)) { irs = s.irs }
  pub blank : IsBlank c
  pub unnamed : c.pair ≡ None

-- SYN-SENT. Nothing is held at RCV.NXT, here and later: what is there may be read.
pub record IsAsking (c : Core) (s : Side) : Type 0 where
  pub phase : s.phase ≡ SynSent
  pub una : c.una ≡ wire s.una
  pub syn_unacked : c.syn_unacked ≡ true
  pub past_iss : c.past_iss ≡ 0
  pub snd_max : c.snd_max ≤ 1
  pub first : s.una ≡ s.iss
  pub alone : c.took_syn ≡ false
  pub unfinished : c.took_fin ≡ false
  pub queue : c.queue ≡ []
  pub waiting : c.waiting ≡ s.waiting
  pub map : c.map ≡ s.window
  pub gap : front c.map ≡ []
  pub caller : c.listen_port ≡ 0

abbrev pub phase_of : State → Phase
phase_of In.SynReceived = SynReceived
phase_of other = Synchronized

-- a FIN was asked for
abbrev pub is_closed_in : State → Bool
is_closed_in In.FinWait1 = true
is_closed_in In.FinWait2 = true
is_closed_in In.Closing = true
is_closed_in In.LastAck = true
is_closed_in In.TimeWait = true
is_closed_in other = false

-- the peer's FIN was taken
abbrev pub is_finished_in : State → Bool
is_finished_in In.CloseWait = true
is_finished_in In.Closing = true
is_finished_in In.LastAck = true
is_finished_in In.TimeWait = true
is_finished_in other = false

-- from SYN-RECEIVED to TIME-WAIT
pub record IsConnectedAs (c : Core) (s : Side) : Type 0 where
  pub once : s.opening ≢ NotYet
  pub phase : s.phase ≡ phase_of c.state
  pub closed : s.closed ≡ is_closed_in c.state
  pub side_finished : s.took_fin ≡ is_finished_in c.state
  pub finished : c.took_fin ≡ is_finished_in c.state
  pub heard : c.took_syn ≡ true
  pub una : c.una ≡ wire s.una
  pub syn : one_if c.syn_unacked ≡ suc s.iss - s.una
  pub opened : (c.syn_unacked ≡ false) ⊎ (sends_syn c.state ≡ true)
  pub unopened : phase_of c.state ≡ SynReceived → c.syn_unacked ≡ true
  pub past_iss : c.syn_unacked ≡ true → c.past_iss ≡ 0
  pub snd_max : c.snd_max ≤ one_if c.syn_unacked + length c.queue + one_if (owes_fin c.state)
  pub end : s.una + (one_if c.syn_unacked + length c.queue + one_if (owes_fin c.state)) ≡ send_end s
  pub next : c.next ≡ wire (rcv_next s)
  pub queue : c.queue ≡ send_queue s
  pub waiting : c.waiting ≡ s.waiting
  pub map : c.map ≡ s.window
  pub gap : front c.map ≡ []
  pub listener : (c.listen_port == 0) ≡ false → s.opening ≡ Passive

-- by state
abbrev pub FitsIn : State → Core → Side → Type 0
FitsIn In.Closed c s = IsUnopened c s ⊎ IsEnded c s
FitsIn In.Listen c s = IsListening c s
FitsIn In.SynSent c s = IsAsking c s
FitsIn other c s = IsConnectedAs c s

-- the socket is this side of the machine
abbrev pub IsSideOf : TcpValue → Side → Type 0
IsSideOf v s = FitsIn v.tcb.state (core_of v) (unsent s)

-- Two sockets and what was seen of each: the invariant between them. It speaks of positions, which no socket has, and so says that
-- there are some.
pub record Keeps (v : TcpValue) (p : Past) (w : TcpValue) (q : Past) : Type 0 where
  pub side : Side
  pub peer_side : Side
  pub past : past_of side ≡ p
  pub peer_side_past : past_of peer_side ≡ q
  pub fits : IsSideOf v side
  pub peer_side_fits : IsSideOf w peer_side
  pub holds : HoldsBetween side peer_side
