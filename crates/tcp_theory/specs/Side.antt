-- One side of a connection: what matters of a socket for what is read, freed and finished, with the record of what happened to it.
-- ISS, IRS, SND.UNA, RCV.NXT and RCV.WND are those of RFC 9293, 3.3.1. SND.NXT doesn't stand here: a side may send from any position.
use Rattle.std.specs.Prelude.{ℕ, suc, ◌+◌, ◌-◌, ◌^◌, Bool, true, false, List, [], ◌++◌, length, drop, Option}
use Rattle.tcp_theory.specs.ReceiveMap.{space}
use Rattle.tcp_theory.specs.Segment.{Segment}

-- the states of RFC 9293, 3.3.2, as far as they differ here
pub data Phase : Type 0 where
  Unopened : Phase  -- CLOSED, before its OPEN
  Listen : Phase
  SynSent : Phase
  SynReceived : Phase
  Synchronized : Phase  -- ESTABLISHED and each later state up to TIME-WAIT
  Ended : Phase  -- CLOSED, after its OPEN

-- how it was opened, once (RFC 9293, 3.9.1.1)
pub data Opening : Type 0 where
  NotYet : Opening
  Passive : Opening  -- by listen
  Active : Opening  -- by connect

pub record Side : Type 0 where
  pub phase : Phase
  pub opening : Opening
  pub iss : ℕ  -- ISS, the position of its SYN
  pub una : ℕ  -- SND.UNA, its first position that isn't acknowledged
  pub written : List ℕ  -- each byte that it accepted from its user
  pub closed : Bool  -- its user closed it: a FIN follows the last byte
  pub irs : ℕ  -- IRS, the position of the peer's SYN that it took last, 0 for none; on record also while it is back in LISTEN
  pub read : List ℕ  -- each byte that its user read
  pub waiting : List ℕ  -- the bytes that wait to be read
  pub window : List (Option ℕ)  -- the receive map after them; its length is RCV.WND
  pub took_fin : Bool  -- it took the peer's FIN
  pub sent : List Segment  -- each segment that it ever sent, in order

-- each byte that it took in
abbrev pub taken_in : Side → List ℕ
taken_in s = s.read ++ s.waiting

abbrev pub one_if : Bool → ℕ
one_if false = 0
one_if true = 1

-- RCV.NXT, the next position to receive: one past the SYN, the bytes and the FIN that it took
abbrev pub rcv_next : Side → ℕ
rcv_next s = suc s.irs + length (taken_in s) + one_if s.took_fin

-- one past the SYN, each byte and the FIN, if it is asked for: the highest position that may be acknowledged
abbrev pub send_end : Side → ℕ
send_end s = suc s.iss + length s.written + one_if s.closed

-- the send queue: the bytes that aren't acknowledged
abbrev pub send_queue : Side → List ℕ
send_queue s = drop (s.una - suc s.iss) s.written

-- so many bytes are acknowledged and freed
abbrev pub freed : Side → ℕ
freed s = length s.written - length (send_queue s)

-- the connection exists: a SYN was sent or is due, and a SYN was taken
abbrev pub IsConnected : Phase → Type 0
IsConnected SynReceived = Unit {0}
IsConnected Synchronized = Unit {0}
IsConnected Unopened = ⊥
IsConnected Listen = ⊥
IsConnected SynSent = ⊥
IsConnected Ended = ⊥

-- a side before its OPEN, with so much receive space
abbrev pub initial : ℕ → Side
initial capacity =
    record {
      phase = Unopened;
      opening = NotYet;
      iss = 2 ^ 32;
      una = 2 ^ 32;
      written = [];
      closed = false;
      irs = 0;
      read = [];
      waiting = [];
      window = space capacity;
      took_fin = false;
      sent = [];
    }
