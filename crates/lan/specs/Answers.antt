-- What a script writes: the answer of a line, and the frames that were sent.
use Rattle.std.specs.Prelude.{ℕ, ◌+◌, ℤ, true, false, List, [], ◌∷◌, ◌++◌, codes, Some, None}
use Rattle.std.specs.Fmt.{decimal, signed_decimal}
use Rattle.wire_address.specs.Text.{endpoint_text, ip_text}
use Rattle.lan.specs.declared.at_link.history.event.Side.{Side}
use Rattle.lan.specs.declared.at_link.history.event.Side.TheVariants.{A, B}
use Rattle.lan.specs.declared.at_link.history.answer.Answer.{Answer}
use Rattle.lan.specs.declared.at_link.history.answer.Answer.TheVariants.{Done, Count, Bytes, State, FromEndpoint, FromAddr, Poll, At, Error}
use Rattle.lan.specs.declared.at_link.history.answer.Fault.{Fault}
use Rattle.lan.specs.declared.at_link.history.answer.Fault.TheVariants.{InvalidState, Unaddressable, BufferFull, Exhausted, Truncated, Finished, Medium, NotUnicast}
use Rattle.lan.specs.declared.at_link.history.answer.Fault.TheVariants.{RouteTableFull}
use Rattle.sim_link.specs.Text.{hex_word}
use Rattle.sockets.specs.TcpStates.{data_of}

abbrev pub side_name : Side → List ℕ
side_name A = codes "A"
side_name B = codes "B"

abbrev pub fault_name : Fault → List ℕ
fault_name InvalidState = codes "InvalidState"
fault_name Unaddressable = codes "Unaddressable"
fault_name BufferFull = codes "BufferFull"
fault_name Exhausted = codes "Exhausted"
fault_name Truncated = codes "Truncated"
fault_name Finished = codes "Finished"
fault_name Medium = codes "Medium"
fault_name NotUnicast = codes "NotUnicast"
fault_name RouteTableFull = codes "RouteTableFull"

-- the line that answers an event
abbrev pub answer_line : Answer → List ℕ
answer_line Done = codes "ok\n"
answer_line (Count count) = codes "ok " ++ (decimal count ++ codes "\n")
answer_line (Bytes bytes) = codes "data " ++ (hex_word bytes ++ codes "\n")
answer_line (State state) = codes "state " ++ (data_of state ++ codes "\n")
answer_line (FromEndpoint remote bytes) = codes "from " ++ (endpoint_text remote ++ (codes " " ++ (hex_word bytes ++ codes "\n")))
answer_line (FromAddr remote bytes) = codes "from " ++ (ip_text remote ++ (codes " " ++ (hex_word bytes ++ codes "\n")))
answer_line (Poll true) = codes "changed\n"
answer_line (Poll false) = codes "none\n"
answer_line (At (Some instant)) = codes "at " ++ (signed_decimal instant ++ codes "\n")
answer_line (At None) = codes "never\n"
answer_line (Error fault) = codes "error " ++ (fault_name fault ++ codes "\n")

-- the line of frame k of those that a host has sent
abbrev pub sent_line : Side → ℕ → List ℕ → List ℕ
sent_line side k frame = codes "sent " ++ (side_name side ++ (codes " " ++ (decimal k ++ (codes " " ++ (hex_word frame ++ codes "\n")))))

-- the lines of frames that a host has sent, the first of them being its frame k
abbrev pub sent_lines : Side → ℕ → List (List ℕ) → List ℕ
sent_lines side k [] = []
sent_lines side k (frame ∷ frames) = sent_line side k frame ++ sent_lines side (k + 1) frames
