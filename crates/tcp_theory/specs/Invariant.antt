-- What each move keeps, of a side s and its peer t. docs/TCP.md says why.
use Rattle.std.specs.Prelude.{◌≡◌, ◌⊎◌, ℕ, suc, ◌+◌, ◌-◌, ◌^◌, ◌<◌, ◌≤◌, true, false, [], length, drop, Some, None}
use Rattle.std.specs.List.{AllByRecursion}
use Rattle.tcp_theory.specs.ReceiveMap.{Begins, AgreesWith}
use Rattle.tcp_theory.specs.Numbers.{wire, IsFirst}
use Rattle.tcp_theory.specs.Segment.{Segment, IsData}
use Rattle.tcp_theory.specs.Segment.Control.{Plain, Syn, Fin, Rst}
use Rattle.tcp_theory.specs.Side.{Phase, Opening, Side, taken_in, rcv_next, send_end}
use Rattle.tcp_theory.specs.Side.Phase.{Unopened, Listen, SynSent, SynReceived, Synchronized, Ended}
use Rattle.tcp_theory.specs.Side.Opening.{NotYet, Passive, Active}
use Rattle.tcp_theory.specs.Run.{World}

-- its ISS stays from now on
abbrev pub IsLate : Phase → Type 0
IsLate Synchronized = Unit {0}
IsLate Ended = Unit {0}
IsLate Unopened = ⊥
IsLate Listen = ⊥
IsLate SynSent = ⊥
IsLate SynReceived = ⊥

-- before ESTABLISHED
abbrev pub IsEarly : Phase → Type 0
IsEarly Unopened = Unit {0}
IsEarly Listen = Unit {0}
IsEarly SynSent = Unit {0}
IsEarly SynReceived = Unit {0}
IsEarly Synchronized = ⊥
IsEarly Ended = ⊥

-- nothing was written or taken in, and neither way is finished
abbrev pub HasNoStream : Side → Type 0
HasNoStream s = (s.written ≡ []) × (taken_in s ≡ []) × (s.closed ≡ false) × (s.took_fin ≡ false)

-- how a side was opened, and whether it took a SYN, as its phase tells
abbrev pub FitsPhase : Phase → Opening → ℕ → Type 0
FitsPhase Unopened opening irs = (opening ≡ NotYet) × (irs ≡ 0)
FitsPhase Listen opening irs = opening ≡ Passive
FitsPhase SynSent opening irs = (opening ≡ Active) × (irs ≡ 0)
FitsPhase SynReceived opening irs = 2 ^ 32 ≤ irs
FitsPhase Synchronized opening irs = 2 ^ 32 ≤ irs
FitsPhase Ended opening irs = Unit {0}

-- of one side alone
pub record IsWellFormed (s : Side) : Type 0 where
  pub phase : FitsPhase s.phase s.opening s.irs
  pub early : IsEarly s.phase → HasNoStream s
  pub iss : IsFirst s.iss
  pub una_low : s.iss ≤ s.una
  pub una_high : s.una ≤ send_end s
  pub short : length s.written < 2 ^ 29
  pub irs : s.irs < 2 ^ 33

-- bytes of the stream, or its FIN, or both, at their position
pub record IsPiece (s : Side) (x : Segment) : Type 0 where
  pub late : IsLate s.phase
  pub kind : IsData x.control
  pub at : ℕ
  pub seq : x.seq ≡ wire at
  pub after_syn : s.iss < at
  pub bytes : Begins x.bytes (drop (at - suc s.iss) s.written)
  pub fits : at + length x.bytes ≤ suc s.iss + length s.written
  pub fin : x.control ≡ Fin → (s.closed ≡ true) × (at + length x.bytes ≡ suc s.iss + length s.written)

-- its bytes lie below RCV.NXT of t: a keep-alive
pub record IsBelow (t : Side) (x : Segment) : Type 0 where
  pub at : ℕ
  pub number : x.seq ≡ wire at
  pub heard : 2 ^ 32 ≤ t.irs
  pub low : t.irs ≤ at
  pub high : at + length x.bytes ≤ rcv_next t

-- an ACK at any sequence number, or a keep-alive
pub record IsPlain (t : Side) (x : Segment) : Type 0 where
  pub plain : x.control ≡ Plain
  pub bytes : (x.bytes ≡ []) ⊎ IsBelow t x

-- a SYN: a listener may have sent several, at different numbers; one without ACK only a connecting side at its ISS
pub record IsSyn (s : Side) (x : Segment) : Type 0 where
  pub syn : x.control ≡ Syn
  pub at : ℕ
  pub first : IsFirst at
  pub seq : x.seq ≡ wire at
  pub bare : x.ack ≡ None → (at ≡ s.iss) × (s.opening ≡ Active)

-- the number is that of a position past the SYN that t took, up to RCV.NXT of t
pub record HasReached (t : Side) (number : ℕ) : Type 0 where
  pub at : ℕ
  pub same : number ≡ wire at
  pub heard : 2 ^ 32 ≤ t.irs
  pub after_syn : t.irs < at
  pub high : at ≤ rcv_next t

-- a segment that s sent to t: of a reset nothing is known
abbrev pub IsHonest : Side → Side → Segment → Type 0
IsHonest s t x =
    (x.control ≡ Rst) ⊎ ((IsPiece s x ⊎ (IsPlain t x ⊎ IsSyn s x)) × ((x.ack ≡ None) ⊎ ((number : ℕ) × (x.ack ≡ Some number) × HasReached s number)))

-- t counts from the SYN that s has now, and what is acknowledged to s is what t has reached
pub record IsInStep (s t : Side) : Type 0 where
  pub counts : t.irs ≡ s.iss
  pub opened : s.iss < s.una
  pub reached : s.una ≤ rcv_next t

-- s wrote nothing, and can't write any more in this phase
pub record IsSilent (s t : Side) : Type 0 where
  pub unwritten : s.written ≡ []
  pub closed : s.phase ≡ Synchronized → s.closed ≡ true
  pub una : (s.una ≡ s.iss) ⊎ HasReached t (wire s.una)

-- s is closed, and t took in all that s wrote, from the SYN that s has now
pub record IsComplete (s t : Side) : Type 0 where
  pub closed : s.closed ≡ true
  pub whole : taken_in t ≡ s.written
  pub counts : t.irs ≡ s.iss

-- the stream from s to t
pub record OneWay (s t : Side) : Type 0 where
  pub well_formed : IsWellFormed s
  pub sync : IsInStep s t ⊎ IsSilent s t
  pub received : Begins (taken_in t) s.written
  pub held : AgreesWith t.window (drop (length (taken_in t)) s.written)
  pub fin : t.took_fin ≡ true → IsComplete s t
  pub listener : s.opening ≡ Passive → (s.irs ≡ 0) ⊎ ((s.irs ≡ t.iss) × (t.opening ≡ Active))
  pub sent : AllByRecursion (IsHonest s t) s.sent

-- the invariant between two sides: both streams
abbrev pub HoldsBetween : Side → Side → Type 0
HoldsBetween s t = OneWay s t × OneWay t s

abbrev pub Kept : World → Type 0
Kept w = HoldsBetween w.a w.b
