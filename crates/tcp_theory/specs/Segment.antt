-- Segments, with what bears on the two byte streams (RFC 9293, 3.1).
use Rattle.std.specs.Prelude.{ℕ, Bool, true, false, List, Option}

-- at most one of SYN, FIN and RST; PSH says nothing here
pub data Control : Type 0 where
  Plain : Control
  Syn : Control
  Fin : Control
  Rst : Control

pub record Segment : Type 0 where
  pub control : Control
  pub seq : ℕ  -- SEG.SEQ, the wire number of the first position
  pub ack : Option ℕ  -- SEG.ACK, if the ACK bit is set
  pub bytes : List ℕ

-- it may carry bytes of the stream: neither SYN nor RST
abbrev pub IsData : Control → Type 0
IsData Plain = Unit {0}
IsData Fin = Unit {0}
IsData Syn = ⊥
IsData Rst = ⊥

-- it is no reset: its acknowledgement counts
abbrev pub IsNoReset : Control → Type 0
IsNoReset Plain = Unit {0}
IsNoReset Syn = Unit {0}
IsNoReset Fin = Unit {0}
IsNoReset Rst = ⊥

abbrev pub fin_if : Bool → Control
fin_if true = Fin
fin_if false = Plain
