-- What answers a segment, and which acknowledgement becomes due (RFC 9293, 3.8.6.3 and 3.10.7.4; RFC 5961, 5; RFC 2018).
use Rattle.std.specs.Prelude.{ℕ, ◌*◌, ◌^◌, ◌==◌, nat_le, nat_lt, not, ◌&&◌, ◌||◌, ℤ, Bool, true, false, if◌then◌else◌, List, [], ◌∷◌, map, filter, reverse}
use Rattle.std.specs.Prelude.{Option, Some, None}
use Rattle.tcp_ranges.specs.OutOfOrder.{runs_of}
use Rattle.ip_wire.specs.IpRepr.{IpRepr}
use Rattle.ip_wire.specs.Seq.{distance_of}
use Rattle.ip_wire.specs.SeqNumber.{SeqNumber}
use Rattle.ip_wire.specs.TcpHeader.{TcpHeader}
use Rattle.tcp_state.specs.Context.{ContextValue}
use Rattle.tcp_block.specs.declared.tcb.Tcb.{Tcb}
use Rattle.tcp_block.specs.TcbRules.{local_shift, rcv_adv_after}
use Rattle.tcp_state.specs.Controls.{is_fin}
use Rattle.tcp_state.specs.Moments.{is_due, later, earlier, next_challenge_from}
use Rattle.tcp_state.specs.Endpoints.{addresses_in, pair_in}
use Rattle.tcp_state.specs.Offsets.{advanced_by}
use Rattle.tcp_block.specs.Rules.{size_limit}
use Rattle.tcp_block.specs.Segments.{no_ranges, has_length, sack_segment, reply_to, hop_limit_of}
use Rattle.tcp_block.specs.Value.{TcpValue, Arrived, with_tcb, dropped, answered_with, room_of, window_of}

-- an acknowledgement of all that came was transmitted, with this window field, for a receive buffer of this capacity: none is due any more
abbrev pub ack_recorded : Tcb → ℕ → ℕ → Tcb
ack_recorded b capacity window = record b {
  receiver = record b.receiver { rcv_adv = rcv_adv_after b capacity (window * 2 ^ local_shift b capacity); last_ack = b.receiver.next };
  timers = record b.timers { ack_at = None; data_unacked = false };
}

-- an acknowledgement with these ranges answers the segment
abbrev pub acked : ContextValue → TcpValue → IpRepr → TcpHeader → List (Option (ℕ × ℕ)) → Arrived
acked cx v ip header ranges =
    answered_with
    (with_tcb v (ack_recorded v.tcb (room_of v.received) (window_of v)))
    (reply_to ip (hop_limit_of v.tcb.settings.hop_limit) (sack_segment v.tcb (pair_in ip header) cx.instant (window_of v) ranges))

-- DRAWN: at most once a second

abbrev pub may_challenge : ℤ → Option ℤ → Bool
may_challenge now None = true
may_challenge now (Some from) = is_due now (Some from)

abbrev pub with_draw : TcpValue → ℤ → TcpValue
with_draw v now = with_tcb v (record v.tcb { timers = record v.tcb.timers { challenges_from = Some (next_challenge_from now) } })

abbrev pub drawn : ContextValue → TcpValue → IpRepr → TcpHeader → Arrived
drawn cx v ip header =
    if may_challenge cx.instant v.tcb.timers.challenges_from then acked cx (with_draw v cx.instant) ip header no_ranges else dropped v

-- DUE

-- after the delay, if one is set
abbrev pub delayed : ℤ → Option ℕ → ℤ
delayed now None = now
delayed now (Some delay) = later now delay

abbrev pub sooner : Option ℤ → ℤ → ℤ
sooner None instant = instant
sooner (Some other) instant = earlier other instant

-- when an acknowledgement is due after a segment: at once for a FIN, for payload in order while other payload is held (RFC 5681, 4.2), or for a
-- second one with payload, and after the delay for a first
abbrev pub ack_instant_after : Tcb → TcpHeader → ℕ → Bool → ℤ → Option ℤ
ack_instant_after b header size fills now =
    if is_fin header.control || fills then Some now
    else if size == 0 then b.timers.ack_at
    else if b.timers.data_unacked then Some now
    else Some (sooner b.timers.ack_at (delayed now b.settings.ack_delay))

abbrev pub ack_due : Tcb → TcpHeader → ℕ → Bool → ℤ → Tcb
ack_due b header size fills now = record b {
  timers = record b.timers { ack_at = ack_instant_after b header size fills now; data_unacked = b.timers.data_unacked || not (size == 0) };
}

-- HELD (RFC 2018, 4)

abbrev pub lies_in : ℕ → ℕ × ℕ → Bool
lies_in offset run = nat_le run.0 offset && nat_lt offset run.1

-- the run that an offset lies in
abbrev pub run_at : List (ℕ × ℕ) → ℕ → Option (ℕ × ℕ)
run_at [] offset = None
run_at (run ∷ runs) offset = if lies_in offset run then Some run else run_at runs offset

-- the other runs, the highest first
abbrev pub others : ℕ → List (ℕ × ℕ) → List (ℕ × ℕ)
others offset runs = reverse (filter (λ run. not (lies_in offset run)) runs)

abbrev pub first_two : List (ℕ × ℕ) → List (Option (ℕ × ℕ))
first_two [] = None ∷ None ∷ []
first_two (run ∷ []) = Some run ∷ None ∷ []
first_two (run ∷ next ∷ runs) = Some run ∷ Some next ∷ []

-- the numbers of a run, where the first place has this one
abbrev pub numbers_of : SeqNumber → Option (ℕ × ℕ) → Option (ℕ × ℕ)
numbers_of next None = None
numbers_of next (Some run) = Some ((advanced_by next run.0).0, (advanced_by next run.1).0)

-- What is told of the runs that are held, where the first byte of a segment is held at an offset, if both SYNs permitted it: the run that
-- this byte lies in, and then the highest others, as many as an option alongside timestamps has room for.
abbrev pub sack_blocks : TcpValue → ℕ → List (Option (ℕ × ℕ))
sack_blocks v offset =
    if v.tcb.peer.sack
    then map (numbers_of v.tcb.receiver.next) (run_at (runs_of v.received.map) offset ∷ first_two (others offset (runs_of v.received.map)))
    else no_ranges

-- AT ONCE (3.8.6.3; RFC 5681, 4.2)

-- how many positions came since the last acknowledgement went
abbrev pub arrived_since : Tcb → ℕ
arrived_since b = distance_of b.receiver.last_ack b.receiver.next

-- as many as two full segments take
abbrev pub arrived_twice : ContextValue → Tcb → IpRepr → Bool
arrived_twice cx b ip = nat_le (2 * size_limit b (addresses_in ip) cx.ip_mtu) (arrived_since b)

-- A segment with payload or a FIN is answered at once where that much came: many may be taken before the socket is asked.
abbrev pub answers_at_once : ContextValue → Tcb → IpRepr → TcpHeader → ℕ → Bool
answers_at_once cx b ip header size = has_length header size && arrived_twice cx b ip

abbrev pub answer_for : ContextValue → TcpValue → IpRepr → TcpHeader → ℕ → Bool → Option ℕ → Arrived
answer_for cx v ip header size fills (Some offset) = acked cx v ip header (sack_blocks v offset)
answer_for cx v ip header size fills None =
    if answers_at_once cx v.tcb ip header size
    then acked cx v ip header no_ranges
    else dropped (with_tcb v (ack_due v.tcb header size fills cx.instant))
