-- Streams and frames without copies: what a program writes and reads where it stands.
use Rattle.std.specs.Prelude.{◌≡◌, ℕ, nat_le, ◌&&◌, if◌then◌else◌, List, [], ◌∷◌, length, Option, None, Some, Result, Ok, Err, IfErr}
use Rattle.net_base.specs.Ring.{anchored, contiguous, extended}
use Rattle.sockets.specs.TcpCalls.{sent_more, recv_refusal, recv_after}
use Rattle.sockets.specs.TcpReceive.{lent}
use Rattle.sockets.specs.TcpStates.{takes_writes}
use Rattle.sockets.specs.TcpValue.{TcpValue, unoffered}
use Rattle.tcp_state.specs.declared.error.RecvError.{RecvError}
use Rattle.c_calls.specs.Calls.{counted}
use Rattle.c_calls.specs.Codes.{of_stream_recv}
use Rattle.c_calls.specs.Host.{StackValue}
use Rattle.c_calls.specs.Link.{next_frame}
use Rattle.c_calls.specs.declared.code.Code.{Code}
use Rattle.c_calls.specs.declared.code.Code.TheVariants as Is

-- WHAT IS WRITTEN

-- how many free bytes lie after one another, after those that are queued
abbrev pub room_of : TcpValue → ℕ
room_of v = contiguous (anchored v.queued)

-- so many bytes are lent to be written
abbrev pub reserve_answer : TcpValue → Result ℕ Code
reserve_answer v = if takes_writes v.tcb.state then Ok (room_of v) else Err Is.InvalidState

-- none of them is queued
abbrev pub reserve_after : TcpValue → TcpValue
reserve_after v = if takes_writes v.tcb.state then sent_more v (anchored v.queued) else unoffered v

-- the first of them are queued, as many as are asked for; more than were lent never
abbrev pub commit_answer : ℕ → TcpValue → Result (Unit {0}) Code
commit_answer count v =
    if takes_writes v.tcb.state then (if nat_le count (room_of v) then Ok tt else Err Is.TooLong) else Err Is.InvalidState

abbrev pub commit_after : ℕ → TcpValue → TcpValue
commit_after count v =
    if takes_writes v.tcb.state && nat_le count (room_of v) then sent_more v (extended (anchored v.queued) count) else reserve_after v

-- WHAT IS READ

abbrev pub skip_answer_unless : Option RecvError → ℕ → TcpValue → Result (Unit {0}) Code
skip_answer_unless (Some refusal) count v = Err (of_stream_recv refusal)
skip_answer_unless None count v = if nat_le count (length (lent v.received)) then Ok tt else Err Is.TooLong

-- of the bytes that are lent for reading as many are given up as are asked for; more than were lent never
abbrev pub skip_answer : ℕ → TcpValue → Result (Unit {0}) Code
skip_answer count v = skip_answer_unless (recv_refusal v) count v

abbrev pub skip_after_unless : Option RecvError → ℕ → TcpValue → TcpValue
skip_after_unless (Some refusal) count v = v
skip_after_unless None count v = if nat_le count (length (lent v.received)) then recv_after v count else v

abbrev pub skip_after : ℕ → TcpValue → TcpValue
skip_after count v = skip_after_unless (recv_refusal v) count v

-- MEMORY FOR FRAMES

-- the host stays as it is, also where there is no memory
abbrev pub TakesMemory : StackValue → Result (Unit {0}) Code → StackValue → Type 0
TakesMemory s result s' = (s' ≡ s) × IfErr result (λ code. code ≡ Is.Memory)

-- FRAMES THAT ARE TO GO

abbrev pub or_empty : Option (List ℕ) → Result (List ℕ) Code
or_empty None = Err Is.Empty
or_empty (Some frame) = Ok frame

-- the first of them
abbrev pub first_frame : List (List ℕ) → Result (List ℕ) Code
first_frame frames = or_empty (next_frame frames)

abbrev pub skip_frame_answer : List (List ℕ) → Result (Unit {0}) Code
skip_frame_answer [] = Err Is.Empty
skip_frame_answer (frame ∷ _) = Ok tt

abbrev pub skipped_by : List (List ℕ) → StackValue → StackValue
skipped_by [] s = s
skipped_by (frame ∷ rest) s =
    record s { link = record s.link { sent = rest }; counters = record s.counters { frames_out = counted s.counters.frames_out } }

-- it went, and was counted
abbrev pub frame_skipped : StackValue → StackValue
frame_skipped s = skipped_by s.link.sent s
