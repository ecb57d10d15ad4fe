-- Runs on numerals. Side a sends from number 100 on and side b from number 300 on, but where a run says otherwise.
use Rattle.std.specs.Prelude.{ℕ, ◌+◌, ◌-◌, ◌^◌, true, false, List, [], ◌∷◌, ◌++◌, Some, None}
use Rattle.tcp_theory.specs.Segment.{Segment}
use Rattle.tcp_theory.specs.Segment.Control.{Plain, Syn, Fin, Rst}
use Rattle.tcp_theory.specs.Move.Move.{Listens, Connects, Writes, Reads, Closes, Ends, FallsBack, SendsSyn, SendsSynAck, SendsAck, SendsData, SendsKeepAlive}
use Rattle.tcp_theory.specs.Move.Move.{SendsReset, TakesSyn, TakesCrossedSyn, TakesSynAck, TakesAck, TakesBytes, TakesFin}
use Rattle.tcp_theory.specs.Run.{World, Event, IsRun, run, start}
use Rattle.tcp_theory.specs.Run.Event.{A, B}

-- these events are a run of two new sides with room for 8 bytes each, and what they lead to is so
abbrev pub LeadsTo : List Event → (World → Type 0) → Type 0
LeadsTo events outcome = IsRun (start 8 8) events × outcome (run (start 8 8) events)

-- the position of a number that hasn't wrapped
abbrev pub at : ℕ → ℕ
at number = 2 ^ 32 + number

-- segments by their numbers
abbrev pub syn : ℕ → Segment
syn seq = record { control = Syn; seq = seq; ack = None; bytes = [] }

abbrev pub syn_ack : ℕ → ℕ → Segment
syn_ack seq ack = record { control = Syn; seq = seq; ack = Some ack; bytes = [] }

abbrev pub piece : ℕ → ℕ → List ℕ → Segment
piece seq ack bytes = record { control = Plain; seq = seq; ack = Some ack; bytes = bytes }

abbrev pub last_piece : ℕ → ℕ → List ℕ → Segment
last_piece seq ack bytes = record { control = Fin; seq = seq; ack = Some ack; bytes = bytes }

abbrev pub bare_ack : ℕ → ℕ → Segment
bare_ack seq ack = piece seq ack []

abbrev pub reset : ℕ → Segment
reset seq = record { control = Rst; seq = seq; ack = None; bytes = [] }

-- the three segments that open a connection
abbrev pub handshake : List Event
handshake =
    A SendsSyn
    ∷ B (TakesSyn (syn 100) (at 300))
    ∷ B SendsSynAck
    ∷ A (TakesSynAck (syn_ack 300 101))
    ∷ A (SendsAck (at 101))
    ∷ B (TakesAck (bare_ack 101 301) (at 301))
    ∷ []

abbrev pub passive_first : List Event
passive_first = B Listens ∷ A (Connects (at 100)) ∷ handshake

-- the first SYN comes before b is opened, and is sent again
abbrev pub active_first : List Event
active_first = A (Connects (at 100)) ∷ A SendsSyn ∷ B (SendsReset (reset 0)) ∷ B Listens ∷ handshake

-- the second segment comes first, and again, and so does the first
abbrev pub out_of_order : List Event
out_of_order =
    passive_first
    ++ A (Writes (1 ∷ 2 ∷ 3 ∷ 4 ∷ 5 ∷ []))
    ∷ A (SendsData (at 101) 2 false)
    ∷ A (SendsData (at 103) 3 false)
    ∷ B (TakesBytes (piece 103 301 (3 ∷ 4 ∷ 5 ∷ [])) (at 103))
    ∷ B (TakesBytes (piece 103 301 (3 ∷ 4 ∷ 5 ∷ [])) (at 103))
    ∷ B (TakesBytes (piece 101 301 (1 ∷ 2 ∷ [])) (at 101))
    ∷ B (TakesBytes (piece 101 301 (1 ∷ 2 ∷ [])) (at 101))
    ∷ B (Reads 2)
    ∷ B (SendsAck (at 301))
    ∷ A (TakesAck (bare_ack 301 106) (at 106))
    ∷ []

-- a keep-alive byte lies below what b takes next
abbrev pub keep_alive : List Event
keep_alive =
    passive_first
    ++ A SendsKeepAlive
    ∷ B (TakesBytes (piece 100 301 (0 ∷ [])) (at 100))
    ∷ A (Writes (1 ∷ []))
    ∷ A (SendsData (at 101) 1 false)
    ∷ B (TakesBytes (piece 101 301 (1 ∷ [])) (at 101))
    ∷ []

-- b has room for 8 of 9 bytes: the last is a probe, taken when there is room again
abbrev pub zero_window : List Event
zero_window =
    passive_first
    ++ A (Writes (1 ∷ 2 ∷ 3 ∷ 4 ∷ 5 ∷ 6 ∷ 7 ∷ 8 ∷ 9 ∷ []))
    ∷ A (SendsData (at 101) 8 false)
    ∷ B (TakesBytes (piece 101 301 (1 ∷ 2 ∷ 3 ∷ 4 ∷ 5 ∷ 6 ∷ 7 ∷ 8 ∷ [])) (at 101))
    ∷ B (SendsAck (at 301))
    ∷ A (TakesAck (bare_ack 301 109) (at 109))
    ∷ A (SendsData (at 109) 1 false)
    ∷ B (TakesBytes (piece 109 301 (9 ∷ [])) (at 109))
    ∷ B (Reads 3)
    ∷ B (TakesBytes (piece 109 301 (9 ∷ [])) (at 109))
    ∷ []

-- a closes with its last byte, b later
abbrev pub close_both_ways : List Event
close_both_ways =
    passive_first
    ++ A (Writes (7 ∷ []))
    ∷ A Closes
    ∷ A (SendsData (at 101) 1 true)
    ∷ B (TakesBytes (last_piece 101 301 (7 ∷ [])) (at 101))
    ∷ B (TakesFin (last_piece 101 301 (7 ∷ [])))
    ∷ B (SendsAck (at 301))
    ∷ A (TakesAck (bare_ack 301 103) (at 103))
    ∷ B (Writes (8 ∷ []))
    ∷ B (SendsData (at 301) 1 false)
    ∷ A (TakesBytes (piece 301 103 (8 ∷ [])) (at 301))
    ∷ B Closes
    ∷ B (SendsData (at 302) 0 true)
    ∷ A (TakesFin (last_piece 302 103 []))
    ∷ A (SendsAck (at 103))
    ∷ B (TakesAck (bare_ack 103 303) (at 303))
    ∷ B Ends
    ∷ A Ends
    ∷ B (Reads 1)
    ∷ []

-- both connect, and their SYNs cross
abbrev pub simultaneous_open : List Event
simultaneous_open =
    A (Connects (at 100))
    ∷ B (Connects (at 300))
    ∷ A SendsSyn
    ∷ B SendsSyn
    ∷ A (TakesCrossedSyn (syn 300))
    ∷ B (TakesCrossedSyn (syn 100))
    ∷ A SendsSynAck
    ∷ B SendsSynAck
    ∷ A (SendsAck (at 101))
    ∷ B (SendsAck (at 301))
    ∷ A (TakesAck (bare_ack 301 101) (at 101))
    ∷ B (TakesAck (bare_ack 101 301) (at 301))
    ∷ []

-- a reset sends b back to LISTEN, and the old SYN arrives again: b answers with another initial sequence number
abbrev pub fallback : List Event
fallback =
    B Listens
    ∷ A (Connects (at 100))
    ∷ A SendsSyn
    ∷ B (TakesSyn (syn 100) (at 300))
    ∷ B SendsSynAck
    ∷ B FallsBack
    ∷ B (TakesSyn (syn 100) (at 700))
    ∷ B SendsSynAck
    ∷ A (TakesSynAck (syn_ack 700 101))
    ∷ A (SendsAck (at 101))
    ∷ B (TakesAck (bare_ack 101 701) (at 701))
    ∷ B (Writes (1 ∷ 2 ∷ []))
    ∷ B (SendsData (at 701) 2 false)
    ∷ A (TakesBytes (piece 701 101 (1 ∷ 2 ∷ [])) (at 701))
    ∷ []

-- the same, but a takes the first answer: its acknowledgement is refused, and a reset ends it
abbrev pub old_answer : List Event
old_answer =
    B Listens
    ∷ A (Connects (at 100))
    ∷ A SendsSyn
    ∷ B (TakesSyn (syn 100) (at 300))
    ∷ B SendsSynAck
    ∷ B FallsBack
    ∷ B (TakesSyn (syn 100) (at 700))
    ∷ A (TakesSynAck (syn_ack 300 101))
    ∷ A (Writes (1 ∷ []))
    ∷ A (SendsData (at 101) 1 false)
    ∷ B (SendsReset (reset 301))
    ∷ A Ends
    ∷ []

-- the first byte of a has the number 2 ^ 32 - 1, the second one 0
abbrev pub wrap : List Event
wrap =
    B Listens
    ∷ A (Connects (at (2 ^ 32 - 2)))
    ∷ A SendsSyn
    ∷ B (TakesSyn (syn (2 ^ 32 - 2)) (at 300))
    ∷ B SendsSynAck
    ∷ A (TakesSynAck (syn_ack 300 (2 ^ 32 - 1)))
    ∷ A (SendsAck (2 ^ 33 - 1))
    ∷ B (TakesAck (bare_ack (2 ^ 32 - 1) 301) (at 301))
    ∷ A (Writes (1 ∷ 2 ∷ 3 ∷ []))
    ∷ A Closes
    ∷ A (SendsData (2 ^ 33 - 1) 2 false)
    ∷ A (SendsData (2 ^ 33 + 1) 1 true)
    ∷ B (TakesBytes (last_piece 1 301 (3 ∷ [])) (2 ^ 33 + 1))
    ∷ B (TakesBytes (piece (2 ^ 32 - 1) 301 (1 ∷ 2 ∷ [])) (2 ^ 33 - 1))
    ∷ B (TakesFin (last_piece 1 301 (3 ∷ [])))
    ∷ B (SendsAck (at 301))
    ∷ A (TakesAck (bare_ack 301 3) (2 ^ 33 + 3))
    ∷ []
