-- A segment whose payload is gone through once: it is copied after what waits to be read, and summed by that.
use Rattle.std.specs.Prelude.{◌≡◌, ◌≤◌, ℕ, ℤ, ◌==◌, nat_le, nat_lt, not, ◌&&◌, ◌||◌, Bool, true, false, if◌then◌else◌, List, [], ◌∷◌, length, Option, Some, None, is_some, is_none}
use Rattle.ip_wire.specs.IpRepr.{IpRepr}
use Rattle.ip_wire.specs.TcpHeader.{TcpHeader}
use Rattle.socket_context.specs.Context.{ContextValue}
use Rattle.tcp_block.specs.Acknowledged.{acknowledged, counted, duplicates_after, ranges_taken, window_set}
use Rattle.tcp_block.specs.Arrival.{challenges_first, tsecr_heard, told, finished}
use Rattle.tcp_block.specs.Checks.{Check, acknowledgement_check}
use Rattle.tcp_block.specs.Checks.Check.{Passes}
use Rattle.tcp_block.specs.Controls.{is_syn, is_rst}
use Rattle.tcp_block.specs.States.{is_closed}
use Rattle.tcp_block.specs.Payload.{DataStored, has_out_of_order, with_next, with_payload, data_stored}
use Rattle.tcp_block.specs.Settled.{nxt_past_held}
use Rattle.tcp_block.specs.Timeout.{timeout_restarted}
use Rattle.tcp_block.specs.Value.{TcpValue, Received, Arrived, dropped, with_tcb, free_in}
use Rattle.tcp_block.specs.declared.tcb.Tcb.{Tcb}
use Rattle.tcp_block.specs.Scoreboard.{is_empty}
use Rattle.tcp_block.specs.State.{State}
use Rattle.tcp_block.specs.State.TheVariants as In
use Rattle.tcp_ranges.specs.ReceiveMap.{store, front}
use Rattle.tcp_socket.specs.Receive.{in_order, most_bytes}

abbrev pub is_established : State → Bool
is_established In.Established = true
is_established other = false

-- the acknowledgement is of what was sent and isn't acknowledged, or acknowledges nothing again
abbrev pub is_passed : Check → Bool
is_passed (Passes by) = true
is_passed other = false

-- it begins at RCV.NXT, and there is room for all of its payload, and for a byte
abbrev pub arrives_next : TcpValue → TcpHeader → List ℕ → Bool
arrives_next v header bytes =
    (v.tcb.receiver.next.0 == header.seq_number.0) && (nat_lt 0 (free_in v) && nat_le (length bytes) (free_in v))

-- Such is a segment that comes next in an open connection, while no payload is held early and no offer is open, if it is no SYN or reset,
-- isn't stale, and has an acknowledgement that passes.
abbrev pub is_in_fast_path : ℤ → TcpValue → TcpHeader → List ℕ → Bool
is_in_fast_path now v header bytes =
    is_established v.tcb.state && (not (is_some v.offered) && (not (has_out_of_order v) && (arrives_next v header bytes
    && (not (is_syn header.control || is_rst header.control) && (not (challenges_first v.tcb header now)
    && is_passed (acknowledgement_check v.tcb header.ack_number))))))

-- The socket with payload that came next after what waits to be read, before its block knows of it.
abbrev pub stored : TcpValue → List ℕ → TcpValue
stored v bytes = record v { received = in_order v.received bytes }

-- RCV.NXT rises by so much
abbrev pub advanced : TcpValue → ℕ → TcpValue
advanced v count = with_tcb v (with_next v.tcb count)

-- the payload of a segment; where so many bytes are stored already, RCV.NXT rises by them
abbrev pub payload_by : Option ℕ → TcpValue → TcpHeader → List ℕ → DataStored
payload_by None v header bytes = with_payload v header bytes
payload_by (Some count) v header bytes = data_stored (advanced v count) count false None

-- its payload and its FIN
abbrev pub content_by : Option ℕ → ContextValue → TcpValue → IpRepr → TcpHeader → List ℕ → Arrived
content_by stored cx v ip header bytes = finished cx v.tcb (payload_by stored v header bytes) ip header (length bytes)

-- what is left of it where its acknowledgement was taken, and so many duplicates came in a row
abbrev pub rest_by : Option ℕ → ContextValue → ℕ → TcpValue → IpRepr → TcpHeader → List ℕ → Arrived
rest_by stored cx duplicates v ip header bytes =
    if is_closed v.tcb.state then dropped v
    else content_by stored cx (told v header duplicates cx.instant) ip header bytes

-- an accepted segment
abbrev pub taken_by : Option ℕ → ContextValue → TcpValue → IpRepr → TcpHeader → List ℕ → ℕ → Arrived
taken_by stored cx v ip header bytes by =
    rest_by stored cx (duplicates_after v.tcb header (length bytes) by) (acknowledged (tsecr_heard v header by cx.instant) by cx.instant) ip header bytes

-- WHAT A SEGMENT LEAVES AS IT IS

-- its options name no range
abbrev pub names_no_range : List (Option (ℕ × ℕ)) → Bool
names_no_range (None ∷ None ∷ None ∷ []) = true
names_no_range ranges = false

-- A segment that is no duplicate neither tells of a loss nor ends a recovery: no range is named or held, and nothing is being recovered. Nor
-- does a user timeout run.
abbrev pub is_calm : Tcb → TcpHeader → Bool
is_calm b header =
    names_no_range header.options.sack_ranges && ((b.sender.recover == 0) && (not b.reno.recovers && (is_none b.settings.timeout
    && is_empty b.loss.board.runs)))

-- no acknowledgement tells of a round trip by its timestamp, or that a loss was none
abbrev pub tells_no_rtt : Tcb → Bool
tells_no_rtt b = not b.peer.timestamps && is_none b.loss.undo

-- its window is taken, and what its ranges name
abbrev pub window_taken : Tcb → TcpHeader → ℕ → ℕ → ℤ → Tcb
window_taken b header duplicates queued now =
    timeout_restarted (nxt_past_held (counted (ranges_taken (window_set b header now) header now) duplicates now) queued) now queued

-- STORED, or nothing to store: the receive buffer before and after. RCV.NXT is to rise by so much.
abbrev pub IsStoredAs : Option ℕ → Received → List ℕ → Received → Type 0
IsStoredAs None old bytes new = ((length bytes == 0) ≡ true) × (new ≡ old)
IsStoredAs (Some n) old bytes new =
    ((length bytes == 0) ≡ false) × (n ≡ length (front (store old.map 0 bytes))) × (n ≤ most_bytes) × (new ≡ in_order old bytes)
