-- A segment comes (RFC 9293, 3.10.7).
use Rattle.std.specs.Prelude.{ℕ, ◌==◌, not, ◌&&◌, ◌||◌, ℤ, Bool, false, if◌then◌else◌, List, length, Option, Some}
use Rattle.ip_wire.specs.IpRepr.{IpRepr}
use Rattle.ip_wire.specs.TcpHeader.{TcpHeader}
use Rattle.tcp_state.specs.Context.{ContextValue}
use Rattle.tcp_block.specs.declared.tcb.Tcb.{Tcb}
use Rattle.tcp_state.specs.declared.state.State.{State}
use Rattle.tcp_state.specs.declared.state.State.TheVariants as In
use Rattle.tcp_block.specs.Acknowledged.{acknowledged, window_set, ranges_taken, counted, duplicates_after}
use Rattle.tcp_block.specs.Answers.{acked, drawn, answer_for}
use Rattle.tcp_block.specs.Checks.{Check, acknowledgement_check, is_in_window, lies_before, taken_down}
use Rattle.tcp_block.specs.Checks.Check.{Passes, Old, Drops, Draws, Resets}
use Rattle.tcp_state.specs.Controls.{is_syn, is_fin, is_rst, is_zero}
use Rattle.tcp_state.specs.Moments.{time_wait_from}
use Rattle.tcp_block.specs.Opening.{opens, takes_answer}
use Rattle.tcp_block.specs.Probing.{probe_kept}
use Rattle.tcp_block.specs.Retries.{heard}
use Rattle.tcp_block.specs.Settled.{nxt_past_held}
use Rattle.tcp_block.specs.Segments.{no_ranges, has_length, rst_reply}
use Rattle.tcp_state.specs.States.{is_closed, is_answering, is_time_wait}
use Rattle.tcp_block.specs.Payload.{DataStored, with_payload, with_fin}
use Rattle.tcp_block.specs.Timeout.{timeout_restarted}
use Rattle.tcp_block.specs.Timestamps.{tsval_taken, tsecr_taken, is_stale}
use Rattle.tcp_block.specs.Undone.{undone, reordering_hinted}
use Rattle.tcp_block.specs.Value.{TcpValue, Arrived, with_tcb, dropped, answered_with, unoffered, queued_in, free_in, room_of}

-- a FIN that arrives again in TIME-WAIT restarts it
abbrev pub time_wait_after : Tcb → TcpHeader → ℤ → Option ℤ
time_wait_after b header now =
    if is_time_wait b.state && is_fin header.control then Some (time_wait_from now) else b.timers.time_wait_ends

abbrev pub waiting_anew : TcpValue → TcpHeader → ℤ → TcpValue
waiting_anew v header now =
    with_tcb v (record v.tcb { timers = record v.tcb.timers { time_wait_ends = time_wait_after v.tcb header now } })

-- Outside the window: an answer may be drawn. What arrives again is answered at once, since its acknowledgement may be lost (3.10.7.4); the
-- pause is for challenges (RFC 5961, 7).
abbrev pub outside : ContextValue → TcpValue → IpRepr → TcpHeader → Bool → Arrived
outside cx v ip header again =
    if is_closed v.tcb.state then dropped v
    else if again then acked cx (waiting_anew v header cx.instant) ip header no_ranges
    else drawn cx (waiting_anew v header cx.instant) ip header

-- a segment whose payload is old, past SYN-RECEIVED: its acknowledgement may be new
abbrev pub is_before_window : TcpValue → TcpHeader → ℕ → Bool
is_before_window v header size = not (is_answering v.tcb.state) && lies_before v.tcb (room_of v.received) header size

abbrev pub is_repeated : TcpValue → TcpHeader → ℕ → Bool
is_repeated v header size = is_before_window v header size && has_length header size

-- The round trip that the echo of a segment tells of. Where it says that nothing was lost, that is undone first; how soon it comes is a hint.
abbrev pub tsecr_heard : TcpValue → TcpHeader → ℕ → ℤ → TcpValue
tsecr_heard v header by now = with_tcb v (reordering_hinted (tsecr_taken (undone v.tcb header by (queued_in v)) header by now) by now)

-- Outside the window, with an acknowledgement that passes. The acknowledgement of a segment that lies just before the window is taken,
-- since the remote may have nothing else to say it in: all that it sends may be old here.
abbrev pub passed_outside : ContextValue → TcpValue → IpRepr → TcpHeader → ℕ → ℕ → Arrived
passed_outside cx v ip header size by =
    if is_before_window v header size then outside cx (acknowledged (tsecr_heard v header by cx.instant) by cx.instant) ip header (has_length header size)
    else outside cx v ip header false

-- its payload was taken: then its FIN is, and it may be answered. `old` is the block before the payload.
abbrev pub finished : ContextValue → Tcb → DataStored → IpRepr → TcpHeader → ℕ → Arrived
finished cx old t ip header size =
    answer_for cx
    (with_tcb t.socket (probe_kept (with_fin t.socket.tcb old header size t.advance cx.instant) (queued_in t.socket)))
    ip header size t.fills t.early

-- the payload and the FIN of a segment
abbrev pub with_content : ContextValue → TcpValue → IpRepr → TcpHeader → List ℕ → Arrived
with_content cx v ip header bytes = finished cx v.tcb (with_payload v header bytes) ip header (length bytes)

-- the window of a segment, what its ranges name, and which duplicate it is
abbrev pub told : TcpValue → TcpHeader → ℕ → ℤ → TcpValue
told v header duplicates now =
    with_tcb v
    (timeout_restarted (nxt_past_held (counted (ranges_taken (window_set v.tcb header now) header now) duplicates now) (queued_in v)) now (queued_in v))

-- its acknowledgement was taken: then its window and its payload are. `old` is the block as the segment found it.
abbrev pub continued : ContextValue → Tcb → TcpValue → IpRepr → TcpHeader → List ℕ → ℕ → Arrived
continued cx old v ip header bytes by =
    if is_closed v.tcb.state then dropped v
    else with_content cx (told v header (duplicates_after old header (length bytes) by) cx.instant) ip header bytes

-- an accepted segment; where it ends LAST-ACK nothing more is done
abbrev pub taken : ContextValue → TcpValue → IpRepr → TcpHeader → List ℕ → ℕ → Arrived
taken cx v ip header bytes by =
    continued cx v.tcb (acknowledged (tsecr_heard v header by cx.instant) by cx.instant) ip header bytes by

-- inside the window: in SYN-RECEIVED it may be a SYN still (fourth)
abbrev pub inside : ContextValue → TcpValue → IpRepr → TcpHeader → List ℕ → ℕ → Arrived
inside cx v ip header bytes by = if is_syn header.control then drawn cx v ip header else taken cx v ip header bytes by

-- from SYN-RECEIVED on (3.10.7.4), what is no reset
abbrev pub checked : Check → ContextValue → TcpValue → IpRepr → TcpHeader → List ℕ → Arrived
checked (Passes by) cx v ip header bytes =
    if is_in_window v.tcb (free_in v) header (length bytes) then inside cx v ip header bytes by
    else passed_outside cx v ip header (length bytes) by
checked Old cx v ip header bytes =
    if is_in_window v.tcb (free_in v) header (length bytes) then with_content cx (with_tcb v (tsval_taken (heard v.tcb) header cx.instant)) ip header bytes
    else outside cx v ip header (is_repeated v header (length bytes))
checked Drops cx v ip header bytes = dropped v
checked Draws cx v ip header bytes = drawn cx v ip header
checked Resets cx v ip header bytes = answered_with v (rst_reply ip header (length bytes))

-- A reset counts at RCV.NXT alone. Elsewhere in the window it may be forged: past SYN-RECEIVED it draws an ACK, which a remote that is
-- gone answers by a reset at RCV.NXT (RFC 5961, 3.2). In TIME-WAIT none counts (RFC 1337).
abbrev pub takes_reset : Tcb → TcpHeader → Bool
takes_reset b header = not (is_time_wait b.state) && (b.receiver.next.0 == header.seq_number.0)

-- a reset that doesn't count is challenged
abbrev pub challenges_reset : TcpValue → TcpHeader → ℕ → Bool
challenges_reset v header size =
    not (is_time_wait v.tcb.state || is_answering v.tcb.state) && is_in_window v.tcb (free_in v) header size

abbrev pub reset_arrives : ContextValue → TcpValue → IpRepr → TcpHeader → ℕ → Arrived
reset_arrives cx v ip header size =
    if takes_reset v.tcb header then dropped (taken_down v)
    else if challenges_reset v header size then drawn cx v ip header
    else dropped v

-- past SYN-RECEIVED a SYN draws an ACK, whatever its numbers: a remote that restarted answers it by a reset (RFC 5961, 4.2)
abbrev pub challenges_syn : Tcb → TcpHeader → Bool
challenges_syn b header = is_syn header.control && not (is_answering b.state)

-- an ACK answers it before its acknowledgement is looked at: its timestamp is too old (RFC 7323, 5.3, R1), or it is a SYN
abbrev pub challenges_first : Tcb → TcpHeader → ℤ → Bool
challenges_first b header now = is_stale b header now || challenges_syn b header

abbrev pub received : ContextValue → TcpValue → IpRepr → TcpHeader → List ℕ → Arrived
received cx v ip header bytes =
    if is_rst header.control then reset_arrives cx v ip header (length bytes)
    else if challenges_first v.tcb header cx.instant then drawn cx v ip header
    else checked (acknowledgement_check v.tcb header.ack_number) cx v ip header bytes

abbrev pub arrives_in : State → ContextValue → TcpValue → IpRepr → TcpHeader → List ℕ → Arrived
arrives_in In.Closed cx v ip header bytes = dropped v
arrives_in In.Listen cx v ip header bytes = opens cx v ip header
arrives_in In.SynSent cx v ip header bytes = takes_answer cx v ip header bytes
arrives_in state cx v ip header bytes = received cx v ip header bytes

-- a SYN that names an MSS of 0 is dropped in every state
abbrev pub is_void_syn : TcpHeader → Bool
is_void_syn header = is_syn header.control && is_zero header.options.max_seg_size

-- a segment for this socket comes; an offer that isn't settled counts as not sent
abbrev pub arrives : ContextValue → TcpValue → IpRepr → TcpHeader → List ℕ → Arrived
arrives cx v ip header bytes =
    if is_void_syn header then dropped (unoffered v)
    else arrives_in v.tcb.state cx (unoffered v) ip header bytes
