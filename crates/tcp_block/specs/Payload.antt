-- The payload and the FIN of an accepted segment (RFC 9293, 3.10.7.4, seventh and eighth).
use Rattle.std.specs.Prelude.{ℕ, ◌+◌, ◌-◌, ◌==◌, nat_lt, nat_le, not, ◌&&◌, ℤ, Bool, true, false, if◌then◌else◌, List, ◌++◌, length, drop, Option, Some, None}
use Rattle.tcp_ranges.specs.OutOfOrder.{runs_of}
use Rattle.ip_wire.specs.TcpHeader.{TcpHeader}
use Rattle.tcp_ranges.specs.ReceiveMap.{store, front, following}
use Rattle.tcp_block.specs.declared.tcb.Tcb.{Tcb}
use Rattle.tcp_block.specs.Acknowledged.{in_state}
use Rattle.tcp_state.specs.Controls.{is_fin}
use Rattle.tcp_state.specs.Offsets.{distance_after, distance_before, advanced_by}
use Rattle.tcp_state.specs.States.{accepts_data, after_fin}
use Rattle.tcp_block.specs.Value.{TcpValue, received_of, free_in}

-- the socket with a segment's payload; how far RCV.NXT rose; whether the payload came in order while other payload was held; and of payload that is
-- held early the place of its first byte
pub record DataStored : Type 0 where
  pub socket : TcpValue
  pub advance : ℕ
  pub fills : Bool
  pub early : Option ℕ

abbrev pub data_stored : TcpValue → ℕ → Bool → Option ℕ → DataStored
data_stored v advance fills early = record { socket = v; advance = advance; fills = fills; early = early }

-- payload is held out of order
abbrev pub has_out_of_order : TcpValue → Bool
has_out_of_order v = not (length (runs_of v.received.map) == 0)

-- the map with these bytes at an offset
abbrev pub laid : TcpValue → ℕ → List ℕ → List (Option ℕ)
laid v offset bytes = store v.received.map offset bytes

-- bytes that are held out of order; at most thirty-two runs are
abbrev pub out_of_order : TcpValue → ℕ → List (Option ℕ) → DataStored
out_of_order v offset map =
    if nat_le (length (runs_of map)) 32
    then data_stored (record v { received = received_of v.received.waiting map v.received.start }) 0 false (Some offset)
    else data_stored v 0 false None

abbrev pub with_next : Tcb → ℕ → Tcb
with_next b advance =
    record b { receiver = record b.receiver { next = advanced_by b.receiver.next advance; rcv_adv = b.receiver.rcv_adv - advance } }

-- bytes from RCV.NXT on: they may be read at once, with those that were held after them
abbrev pub taken_in_order : TcpValue → List (Option ℕ) → DataStored
taken_in_order v map =
    data_stored
    (record v {
      tcb = with_next v.tcb (length (front map));
      received = received_of (v.received.waiting ++ front map) (following map) v.received.start;
    })
    (length (front map))
    (has_out_of_order v)
    None

-- bytes at a place of the window; what lies past it is cut off
abbrev pub with_bytes_at : TcpValue → ℕ → List ℕ → DataStored
with_bytes_at v offset bytes = if offset == 0 then taken_in_order v (laid v offset bytes) else out_of_order v offset (laid v offset bytes)

-- there is payload inside the window, after what is cut off at its front
abbrev pub has_new_payload : TcpValue → ℕ → List ℕ → Bool
has_new_payload v offset bytes = not (length bytes == 0) && nat_lt offset (free_in v)

abbrev pub with_payload_at : TcpValue → ℕ → List ℕ → DataStored
with_payload_at v offset bytes =
    if accepts_data v.tcb.state && has_new_payload v offset bytes then with_bytes_at v offset bytes else data_stored v 0 false None

abbrev pub with_payload : TcpValue → TcpHeader → List ℕ → DataStored
with_payload v header bytes =
    with_payload_at v (distance_after v.tcb.receiver.next header.seq_number) (drop (distance_before v.tcb.receiver.next header.seq_number) bytes)

-- THE FIN

-- the segment starts at or before the old RCV.NXT, and RCV.NXT is now the FIN's position
abbrev pub is_at_fin : Tcb → TcpHeader → ℕ → ℕ → Bool
is_at_fin old header size advance =
    (distance_after old.receiver.next header.seq_number == 0) && (distance_before old.receiver.next header.seq_number + advance == size)

abbrev pub takes_fin : Tcb → TcpHeader → ℕ → ℕ → Bool
takes_fin old header size advance = is_fin header.control && (accepts_data old.state && is_at_fin old header size advance)

abbrev pub fin_taken : Tcb → ℤ → Tcb
fin_taken b now =
    record (in_state b (after_fin b.state) now) {
      receiver =
          record b.receiver { next = advanced_by b.receiver.next 1; took_fin = true; rcv_adv = b.receiver.rcv_adv - 1 };
    }

-- `old` is the block before the segment's payload was taken
abbrev pub with_fin : Tcb → Tcb → TcpHeader → ℕ → ℕ → ℤ → Tcb
with_fin b old header size advance now = if takes_fin old header size advance then fin_taken b now else b
