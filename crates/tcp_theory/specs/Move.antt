-- The moves of a side: the calls of its user, the segments that it may send, and what it may take from a segment of its peer.
-- What a move asks for is less than what the rules of a socket ask for: where they say that a socket does so, here it may.
use Rattle.std.specs.Prelude.{◌≡◌, ℕ, suc, ◌+◌, ◌-◌, ◌^◌, ◌<◌, ◌≤◌, ◌≢◌, Bool, true, false, List, [], ◌∷◌, ◌++◌, length, take, drop, Option, Some, None}
use Rattle.std.specs.Prelude.{slice_get}
use Rattle.tcp_theory.specs.ReceiveMap.{store, front, following, space}
use Rattle.tcp_theory.specs.Numbers.{wire, IsFirst, IsNear}
use Rattle.tcp_theory.specs.Segment.{Segment, IsData, IsNoReset, fin_if}
use Rattle.tcp_theory.specs.Segment.Control.{Plain, Syn, Fin, Rst}
use Rattle.tcp_theory.specs.Side.{Side, rcv_next, send_end, IsConnected, initial}
use Rattle.tcp_theory.specs.Side.Phase.{Unopened, Listen, SynSent, SynReceived, Synchronized, Ended}
use Rattle.tcp_theory.specs.Side.Opening.{Passive, Active}

pub data Move : Type 0 where
  -- calls (RFC 9293, 3.9.1 and 3.10.1 to 3.10.5)
  Listens : Move  -- passive OPEN
  Connects : (iss : ℕ) → Move  -- active OPEN
  Writes : (bytes : List ℕ) → Move  -- SEND
  Reads : (count : ℕ) → Move  -- RECEIVE
  Closes : Move  -- CLOSE, where a FIN follows: in SYN-RECEIVED, ESTABLISHED or CLOSE-WAIT
  -- to CLOSED: a reset, a user timeout, ABORT, the end of LAST-ACK or TIME-WAIT, CLOSE in LISTEN or SYN-SENT
  Ends : Move
  -- a listener in SYN-RECEIVED, at a reset: to LISTEN, as its listen left it (3.5.3)
  FallsBack : Move
  -- segments that it sends
  SendsSyn : Move
  SendsSynAck : Move
  SendsAck : (at : ℕ) → Move
  -- bytes, or the FIN, or both, from a position: SND.NXT, SND.UNA again (3.8.1, 3.8.6.1), or any other
  SendsData : (at count : ℕ) (fin : Bool) → Move
  SendsKeepAlive : Move  -- 3.8.4
  SendsReset : (x : Segment) → Move
  -- what it takes from a segment of its peer (3.10.7.2 to 3.10.7.4)
  TakesSyn : (x : Segment) (iss : ℕ) → Move  -- in LISTEN
  TakesCrossedSyn : (x : Segment) → Move  -- in SYN-SENT, with no ACK: simultaneous open (3.5)
  TakesSynAck : (x : Segment) → Move  -- in SYN-SENT
  TakesAck : (x : Segment) (at : ℕ) → Move  -- the fifth check
  TakesBytes : (x : Segment) (at : ℕ) → Move  -- the segment payload
  TakesFin : (x : Segment) → Move  -- the FIN bit

-- a segment that its peer sent comes: it may arrive again, later than others, or never
abbrev pub Comes : Side → Segment → Type 0
Comes t x = (k : ℕ) × (slice_get t.sent k ≡ Some x)

-- the segments that it may send: each but a first SYN acknowledges what it took
abbrev pub syn : Side → Segment
syn s = record { control = Syn; seq = wire s.iss; ack = None; bytes = [] }

abbrev pub syn_ack : Side → Segment
syn_ack s = record { control = Syn; seq = wire s.iss; ack = Some (wire (rcv_next s)); bytes = [] }

abbrev pub bare_ack : Side → ℕ → Segment
bare_ack s at = record { control = Plain; seq = wire at; ack = Some (wire (rcv_next s)); bytes = [] }

-- at most so many of the written bytes, from this position on
abbrev pub bytes_from : Side → ℕ → ℕ → List ℕ
bytes_from s at count = take count (drop (at - suc s.iss) s.written)

abbrev pub data_segment : Side → ℕ → ℕ → Bool → Segment
data_segment s at count fin =
    record { control = fin_if fin; seq = wire at; ack = Some (wire (rcv_next s)); bytes = bytes_from s at count }

-- one byte below SND.UNA
abbrev pub keep_alive : Side → Segment
keep_alive s = record { control = Plain; seq = wire (s.una - 1); ack = Some (wire (rcv_next s)); bytes = 0 ∷ [] }

-- the bytes of a segment at this position, laid over the receive map; what lies below RCV.NXT is cut off
abbrev pub laid : Side → ℕ → List ℕ → List (Option ℕ)
laid s at bytes = store s.window (at - rcv_next s) (drop (rcv_next s - at) bytes)

-- bytes are accepted in the synchronized states until a close
pub record MayWrite (s : Side) (bytes : List ℕ) : Type 0 where
  pub running : s.phase ≡ Synchronized
  pub unclosed : s.closed ≡ false
  pub short : length (s.written ++ bytes) < 2 ^ 29

-- bytes from a position of the stream, and the FIN only right after the last byte of a closed side
pub record MaySendData (s : Side) (at count : ℕ) (fin : Bool) : Type 0 where
  pub running : s.phase ≡ Synchronized
  pub after_syn : s.iss < at
  pub within : at ≤ suc s.iss + length s.written
  pub last : fin ≡ true → (s.closed ≡ true) × (at + length (bytes_from s at count) ≡ suc s.iss + length s.written)

-- in LISTEN a SYN without ACK
pub record MayTakeSyn (s t : Side) (x : Segment) (iss : ℕ) : Type 0 where
  pub listening : s.phase ≡ Listen
  pub comes : Comes t x
  pub syn : x.control ≡ Syn
  pub bare : x.ack ≡ None
  pub first : IsFirst iss

-- in SYN-SENT a SYN without ACK
pub record MayTakeCrossedSyn (s t : Side) (x : Segment) : Type 0 where
  pub asking : s.phase ≡ SynSent
  pub comes : Comes t x
  pub syn : x.control ≡ Syn
  pub bare : x.ack ≡ None

-- in SYN-SENT a SYN that acknowledges its own SYN, and that alone
pub record MayTakeSynAck (s t : Side) (x : Segment) : Type 0 where
  pub asking : s.phase ≡ SynSent
  pub comes : Comes t x
  pub syn : x.control ≡ Syn
  pub acks_syn : x.ack ≡ Some (wire (suc s.iss))

-- an acknowledgement from SND.UNA up to all that was sent, in SYN-RECEIVED of its SYN alone
pub record MayTakeAck (s t : Side) (x : Segment) (at : ℕ) : Type 0 where
  pub connected : IsConnected s.phase
  pub comes : Comes t x
  pub no_reset : IsNoReset x.control
  pub number : x.ack ≡ Some (wire at)
  pub opens : s.phase ≡ SynReceived → at ≡ suc s.iss
  pub low : s.una ≤ at
  pub high : at ≤ send_end s

-- bytes at the position nearest to RCV.NXT that has their number
pub record MayTakeBytes (s t : Side) (x : Segment) (at : ℕ) : Type 0 where
  pub running : s.phase ≡ Synchronized
  pub unfinished : s.took_fin ≡ false
  pub comes : Comes t x
  pub kind : IsData x.control
  pub number : x.seq ≡ wire at
  pub near : IsNear (rcv_next s) at

-- a FIN whose number is that of RCV.NXT
pub record MayTakeFin (s t : Side) (x : Segment) : Type 0 where
  pub running : s.phase ≡ Synchronized
  pub unfinished : s.took_fin ≡ false
  pub comes : Comes t x
  pub fin : x.control ≡ Fin
  pub next : wire (x.seq + length x.bytes) ≡ wire (rcv_next s)

-- what a move asks for, of side s with peer t
abbrev pub May : Side → Side → Move → Type 0
May s t Listens = s.phase ≡ Unopened
May s t (Connects iss) = (s.phase ≡ Unopened) × IsFirst iss
May s t (Writes bytes) = MayWrite s bytes
May s t (Reads count) = Unit {0}
May s t Closes = IsConnected s.phase
May s t Ends = s.phase ≢ Unopened
May s t FallsBack = (s.phase ≡ SynReceived) × (s.opening ≡ Passive)
May s t SendsSyn = s.phase ≡ SynSent
May s t SendsSynAck = IsConnected s.phase
May s t (SendsAck at) = IsConnected s.phase
May s t (SendsData at count fin) = MaySendData s at count fin
May s t SendsKeepAlive = (s.phase ≡ Synchronized) × (s.iss < s.una)
May s t (SendsReset x) = x.control ≡ Rst
May s t (TakesSyn x iss) = MayTakeSyn s t x iss
May s t (TakesCrossedSyn x) = MayTakeCrossedSyn s t x
May s t (TakesSynAck x) = MayTakeSynAck s t x
May s t (TakesAck x at) = MayTakeAck s t x at
May s t (TakesBytes x at) = MayTakeBytes s t x at
May s t (TakesFin x) = MayTakeFin s t x

abbrev pub sends : Side → Segment → Side
sends s x = record s { sent = s.sent ++ x ∷ [] }

-- a side with so much receive space that listens: nothing is left of a connection
abbrev pub listening : ℕ → Side
listening capacity = record (initial capacity) { phase = Listen; opening = Passive }

-- the side after a move
abbrev pub after : Side → Move → Side
after s Listens = record s { phase = Listen; opening = Passive }
after s (Connects iss) = record s { phase = SynSent; opening = Active; iss = iss; una = iss }
after s (Writes bytes) = record s { written = s.written ++ bytes }
after s (Reads count) =
    record s {
      read = s.read ++ take count s.waiting;
      waiting = drop count s.waiting;
      window = s.window ++ space (length (take count s.waiting));
    }
after s Closes = record s { phase = Synchronized; closed = true }
after s Ends = record s { phase = Ended }
after s FallsBack = record (listening (length s.waiting + length s.window)) { irs = s.irs; sent = s.sent }
after s SendsSyn = sends s (syn s)
after s SendsSynAck = sends s (syn_ack s)
after s (SendsAck at) = sends s (bare_ack s at)
after s (SendsData at count fin) = sends s (data_segment s at count fin)
after s SendsKeepAlive = sends s (keep_alive s)
after s (SendsReset x) = sends s x
after s (TakesSyn x iss) = record s { phase = SynReceived; irs = 2 ^ 32 + x.seq; iss = iss; una = iss }
after s (TakesCrossedSyn x) = record s { phase = SynReceived; irs = 2 ^ 32 + x.seq }
after s (TakesSynAck x) = record s { phase = Synchronized; irs = 2 ^ 32 + x.seq; una = suc s.iss }
after s (TakesAck x at) = record s { phase = Synchronized; una = at }
after s (TakesBytes x at) = record s { waiting = s.waiting ++ front (laid s at x.bytes); window = following (laid s at x.bytes) }
after s (TakesFin x) = record s { took_fin = true }

-- these moves, one after the other, while its peer stays as it is: what one call, arrival or offer of a socket amounts to
abbrev pub MayAll : Side → Side → List Move → Type 0
MayAll s t [] = Unit {0}
MayAll s t (move ∷ moves) = May s t move × MayAll (after s move) t moves

abbrev pub after_all : Side → List Move → Side
after_all s [] = s
after_all s (move ∷ moves) = after_all (after s move) moves
