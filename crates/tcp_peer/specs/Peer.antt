-- A conforming peer: an end of a connection of which each segment but a reset says what is so. Nothing is asked of what runs there, nor of
-- order, loss, repetition, timing, sizes, windows or options, and of a reset nothing at all.
use Rattle.std.specs.Prelude.{◌≡◌, ◌⊎◌, ℕ, suc, ◌+◌, ◌-◌, ◌^◌, ◌<◌, ◌≤◌, Bool, true, List, [], length, drop, Some, None, slice_get}
use Rattle.tcp_theory.specs.ReceiveMap.{Begins}
use Rattle.tcp_theory.specs.Numbers.{wire, ahead, IsFirst}
use Rattle.tcp_theory.specs.Segment.{Segment, IsData, IsNoReset}
use Rattle.tcp_theory.specs.Segment.Control.{Plain, Syn, Fin, Rst}
use Rattle.tcp_theory.specs.Side.{Side, one_if}

-- an end of a connection, by what stays the same of it
pub record End : Type 0 where
  pub first : ℕ  -- the position of its SYN: 2 ^ 32 and its initial sequence number
  pub stream : List ℕ  -- each byte that it ever writes
  pub ends : Bool  -- a FIN follows the last byte
  pub heard : ℕ  -- the position of the other end's SYN that it counts from, if it ever takes one

-- one past its SYN, its bytes and its FIN: the highest position that may be acknowledged
abbrev pub end_of : End → ℕ
end_of e = suc e.first + length e.stream + one_if e.ends

-- its numbers are of 32 bits, and fewer than 2 ^ 29 bytes are written
pub record IsEnd (e : End) : Type 0 where
  pub first : IsFirst e.first
  pub heard : IsFirst e.heard
  pub short : length e.stream < 2 ^ 29

-- one of these segments, no reset, acknowledges this number
pub record IsAcknowledged (segments : List Segment) (number : ℕ) : Type 0 where
  pub offset : ℕ
  pub segment : Segment
  pub among : slice_get segments offset ≡ Some segment
  pub no_reset : IsNoReset segment.control
  pub acks : segment.ack ≡ Some number

-- the first position from this one on that has the number
abbrev pub counted : ℕ → ℕ → ℕ
counted from number = from + ahead from number

-- a SYN: at its initial sequence number, but that a listener may have acknowledged an earlier SYN at another, in an attempt that it gave up
pub record IsSyn (me : End) (x : Segment) : Type 0 where
  pub syn : x.control ≡ Syn
  pub number : x.seq < 2 ^ 32
  pub bare : x.ack ≡ None → x.seq ≡ wire me.first

-- bytes of its stream at their position, and the FIN only after the last; they go to an end that counts from its SYN, but for the
-- FIN of a stream without bytes
pub record IsPiece (me other : End) (x : Segment) : Type 0 where
  pub kind : IsData x.control
  pub at : ℕ
  pub number : x.seq ≡ wire at
  pub after_syn : me.first < at
  pub bytes : Begins x.bytes (drop (at - suc me.first) me.stream)
  pub fin : x.control ≡ Fin → (me.ends ≡ true) × (at + length x.bytes ≡ suc me.first + length me.stream)
  pub heard : (other.heard ≡ me.first) ⊎ (me.stream ≡ [])

-- no bytes, at any number
abbrev pub IsBare : Segment → Type 0
IsBare x = (x.control ≡ Plain) × (x.bytes ≡ [])

-- an end acknowledged all positions below this one, counted from the SYN that it took
pub record HasAckedTo (other : End) (theirs : List Segment) (position : ℕ) : Type 0 where
  pub number : ℕ
  pub acknowledged : IsAcknowledged theirs number
  pub far : position ≤ counted other.heard number

-- bytes of any value where the other end takes none any more: in the place of the SYN that it took, and below what it acknowledged (a
-- keep-alive, RFC 9293, 3.8.4)
pub record IsOld (other : End) (theirs : List Segment) (x : Segment) : Type 0 where
  pub plain : x.control ≡ Plain
  pub at : ℕ
  pub number : x.seq ≡ wire at
  pub heard : 2 ^ 32 ≤ other.heard
  pub low : other.heard ≤ at
  pub high : (at + length x.bytes ≤ suc other.heard) ⊎ HasAckedTo other theirs (at + length x.bytes)

-- it acknowledges the SYN that it counts from, and more only if that is the other end's SYN: no more than it sends
pub record HasReached (me other : End) (number : ℕ) : Type 0 where
  pub at : ℕ
  pub same : number ≡ wire at
  pub so_far : (at ≡ suc me.heard) ⊎ ((me.heard ≡ other.first) × (me.heard < at) × (at ≤ end_of other))

-- what a segment says of the end that sends it, and of the other
abbrev pub SaysOfItself : End → End → List Segment → Segment → Type 0
SaysOfItself me other theirs x = IsPiece me other x ⊎ (IsBare x ⊎ (IsOld other theirs x ⊎ IsSyn me x))

abbrev pub SaysOfTheOther : End → End → Segment → Type 0
SaysOfTheOther me other x = (x.ack ≡ None) ⊎ ((number : ℕ) × (x.ack ≡ Some number) × HasReached me other number)

-- a segment that `me` sends to `other`, of which it got some of `theirs`
abbrev pub IsHonest : End → End → List Segment → Segment → Type 0
IsHonest me other theirs x = (x.control ≡ Rst) ⊎ (SaysOfItself me other theirs x × SaysOfTheOther me other x)

-- a side of the machine is an end
abbrev pub as_end : Side → End
as_end s = record { first = s.iss; stream = s.written; ends = s.closed; heard = s.irs }
