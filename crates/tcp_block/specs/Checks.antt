-- Whether a segment is acceptable, from SYN-RECEIVED on (RFC 9293, 3.10.7.4, first to fifth).
use Rattle.std.specs.Prelude.{ℕ, ◌+◌, ◌==◌, nat_le, nat_lt, not, ◌&&◌, Bool, if◌then◌else◌, Option, Some, None}
use Rattle.ip_wire.specs.Seq.{distance_of}
use Rattle.ip_wire.specs.SeqNumber.{SeqNumber}
use Rattle.ip_wire.specs.TcpHeader.{TcpHeader}
use Rattle.tcp_block.specs.declared.tcb.Tcb.{Tcb}
use Rattle.tcp_state.specs.Offsets.{distance_after, distance_before, overlaps_window}
use Rattle.tcp_block.specs.Segments.{segment_len}
use Rattle.tcp_state.specs.States.{is_answering}
use Rattle.tcp_block.specs.Value.{TcpValue, ended}
use Rattle.tcp_block.specs.Calls.{listening}

-- What becomes of a segment: it is taken and SND.UNA rises by so much, it is taken but for its acknowledgement, which is old, it is
-- dropped, an acknowledgement answers it, or a reset.
pub data Check : Type 0 where
  Passes : (by : ℕ) → Check
  Old : Check
  Drops : Check
  Draws : Check
  Resets : Check

-- in SYN-RECEIVED only the SYN may be acknowledged
abbrev pub opening_check : ℕ → Check
opening_check by = if by == 1 then Passes 1 else Resets

-- Later, of an acknowledgement so far past SND.UNA or before it: what was never sent can't be acknowledged. One that doesn't reach
-- past ISS doesn't count. An older one is ignored, and answered where no window of the remote reached so far (RFC 5961, 5.2).
abbrev pub synchronized_check : Tcb → ℕ → ℕ → Check
synchronized_check b past before =
    if nat_lt b.sender.snd_max past then Draws
    else if (past == 0) && nat_le b.sender.past_iss before then Drops
    else if before == 0 then Passes past
    else if nat_lt b.peer.largest_window before then Draws
    else Old

abbrev pub acknowledgement_check : Tcb → Option SeqNumber → Check
acknowledgement_check b None = Drops
acknowledgement_check b (Some n) =
    if is_answering b.state then opening_check (distance_of b.sender.una n)
    else synchronized_check b (distance_after b.sender.una n) (distance_before b.sender.una n)

-- the segment meets the receive window of so much space
abbrev pub is_in_window : Tcb → ℕ → TcpHeader → ℕ → Bool
is_in_window b space header size =
    overlaps_window (distance_before b.receiver.next header.seq_number) (distance_after b.receiver.next header.seq_number) (segment_len header size) space

-- it lies wholly before RCV.NXT, by no more than a receive buffer of this capacity holds, a SYN and a FIN
abbrev pub lies_before : Tcb → ℕ → TcpHeader → ℕ → Bool
lies_before b capacity header size =
    not (distance_before b.receiver.next header.seq_number == 0)
    && (nat_le (segment_len header size) (distance_before b.receiver.next header.seq_number)
    && nat_le (distance_before b.receiver.next header.seq_number) (capacity + 2))

-- it was opened by listen, and its connection isn't there yet
abbrev pub falls_back : Tcb → Bool
falls_back b = is_answering b.state && not (b.names.listen.port == 0)

-- a reset takes the socket down: a listener back to LISTEN, as its listen left it; any other to CLOSED
abbrev pub taken_down : TcpValue → TcpValue
taken_down v = if falls_back v.tcb then listening v v.tcb.names.listen else ended v
