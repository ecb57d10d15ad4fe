-- Wrong rules, each of which breaks the promise: a run in which one side follows it once, and everything else is right.
use Rattle.std.specs.Prelude.{◌≡◌, suc, ◌+◌, ◌≢◌, true, false, List, [], ◌∷◌, ◌++◌, length, Some, None}
use Rattle.tcp_theory.specs.Numbers.{wire}
use Rattle.tcp_theory.specs.Segment.{Segment}
use Rattle.tcp_theory.specs.Segment.Control.{Plain, Fin, Rst}
use Rattle.tcp_theory.specs.Side.{Side, rcv_next}
use Rattle.tcp_theory.specs.Side.Phase.{SynReceived, Synchronized, Ended}
use Rattle.tcp_theory.specs.Move.{Comes, sends}
use Rattle.tcp_theory.specs.Move.Move.{Listens, Connects, Writes, Closes, Ends, FallsBack, SendsSyn, SendsSynAck, SendsAck, SendsData, TakesSyn, TakesSynAck}
use Rattle.tcp_theory.specs.Move.Move.{TakesAck, TakesBytes, TakesFin}
use Rattle.tcp_theory.specs.Run.{World, Event, IsRun, run, start}
use Rattle.tcp_theory.specs.Run.Event.{A, B}
use Rattle.tcp_theory.specs.Safe.{AreSafe}
use Rattle.tcp_theory.specs.Examples.{at, syn, syn_ack, piece, last_piece, bare_ack, passive_first}

pub data WrongRule : Type 0 where
  -- in SYN-RECEIVED any acknowledgement opens, not that of its SYN alone
  AnyAckOpens : (x : Segment) → WrongRule
  -- a FIN is taken wherever it stands
  FinTakenAnywhere : (x : Segment) → WrongRule
  -- the end of TIME-WAIT throws unread bytes away
  UnreadDropped : WrongRule
  -- a segment that isn't accepted is acknowledged, in place of a reset
  AckForUnaccepted : (x : Segment) → WrongRule
  -- a reset is read as the end of the stream
  ResetReadAsFinished : (x : Segment) → WrongRule
  -- the keep-alive byte stands at SND.UNA, not below it
  KeepAliveAtUna : WrongRule

abbrev pub MayWrongly : Side → Side → WrongRule → Type 0
MayWrongly s t (AnyAckOpens x) = (s.phase ≡ SynReceived) × Comes t x × (x.control ≡ Plain) × (x.ack ≢ None)
MayWrongly s t (FinTakenAnywhere x) = (s.phase ≡ Synchronized) × (s.took_fin ≡ false) × Comes t x × (x.control ≡ Fin)
MayWrongly s t UnreadDropped = (s.phase ≡ Synchronized) × (s.closed ≡ true) × (s.took_fin ≡ true)
MayWrongly s t (AckForUnaccepted x) = (s.phase ≡ Ended) × Comes t x
MayWrongly s t (ResetReadAsFinished x) = (s.phase ≡ Synchronized) × Comes t x × (x.control ≡ Rst)
MayWrongly s t KeepAliveAtUna = s.phase ≡ Synchronized

abbrev pub after_wrong : Side → WrongRule → Side
after_wrong s (AnyAckOpens x) = record s { phase = Synchronized; una = suc s.iss }
after_wrong s (FinTakenAnywhere x) = record s { took_fin = true }
after_wrong s UnreadDropped = record s { phase = Ended; waiting = [] }
after_wrong s (AckForUnaccepted x) = sends s (record { control = Plain; seq = 0; ack = Some (wire (x.seq + length x.bytes)); bytes = [] })
after_wrong s (ResetReadAsFinished x) = record s { phase = Ended; took_fin = true }
after_wrong s KeepAliveAtUna = sends s (record { control = Plain; seq = wire s.una; ack = Some (wire (rcv_next s)); bytes = 0 ∷ [] })

-- b follows the rule once
abbrev pub follows : World → WrongRule → World
follows w rule = record w { b = after_wrong w.b rule }

-- after a run, the rule, and a run from there, a stream isn't safe
abbrev pub Breaks : List Event → WrongRule → List Event → Type 0
Breaks before rule later =
    IsRun (start 8 8) before
    × MayWrongly (run (start 8 8) before).b (run (start 8 8) before).a rule
    × IsRun (follows (run (start 8 8) before) rule) later
    × (AreSafe (run (follows (run (start 8 8) before) rule) later) → ⊥)

-- the first answer of b opens a, a reset sends b back to LISTEN, and b answers the old SYN from the number below
abbrev pub before_any_ack : List Event
before_any_ack =
    B Listens
    ∷ A (Connects (at 100))
    ∷ A SendsSyn
    ∷ B (TakesSyn (syn 100) (at 300))
    ∷ B SendsSynAck
    ∷ A (TakesSynAck (syn_ack 300 101))
    ∷ A (SendsAck (at 101))
    ∷ B FallsBack
    ∷ B (TakesSyn (syn 100) (at 299))
    ∷ []

-- a loses the first byte
abbrev pub after_any_ack : List Event
after_any_ack =
    B (Writes (7 ∷ 8 ∷ []))
    ∷ B (SendsData (at 300) 2 false)
    ∷ A (TakesBytes (piece 300 101 (7 ∷ 8 ∷ [])) (at 300))
    ∷ []

-- the byte of a is late, its FIN is not
abbrev pub before_fin : List Event
before_fin =
    passive_first
    ++ A (Writes (7 ∷ []))
    ∷ A Closes
    ∷ A (SendsData (at 101) 1 false)
    ∷ A (SendsData (at 102) 0 true)
    ∷ []

-- both close, b first, and b is in TIME-WAIT with a byte that its user hasn't read
abbrev pub before_drop : List Event
before_drop =
    passive_first
    ++ B Closes
    ∷ B (SendsData (at 301) 0 true)
    ∷ A (TakesFin (last_piece 301 101 []))
    ∷ A (SendsAck (at 101))
    ∷ B (TakesAck (bare_ack 101 302) (at 302))
    ∷ A (Writes (7 ∷ []))
    ∷ A Closes
    ∷ A (SendsData (at 101) 1 true)
    ∷ B (TakesBytes (last_piece 101 302 (7 ∷ [])) (at 101))
    ∷ B (TakesFin (last_piece 101 302 (7 ∷ [])))
    ∷ B (SendsAck (at 302))
    ∷ A (TakesAck (bare_ack 302 103) (at 103))
    ∷ []

-- b is aborted, and a byte of a comes
abbrev pub before_unaccepted : List Event
before_unaccepted =
    passive_first
    ++ B Ends
    ∷ A (Writes (7 ∷ []))
    ∷ A (SendsData (at 101) 1 false)
    ∷ []

abbrev pub after_unaccepted : List Event
after_unaccepted = A (TakesAck (bare_ack 0 102) (at 102)) ∷ []
