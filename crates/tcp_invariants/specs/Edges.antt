-- The right edges of the windows that a socket announces (RFC 9293, 3.8.6.2.2; RFC 7323, 2.4), each counted from RCV.NXT.
use Rattle.std.specs.Prelude.{◌≡◌, ℕ, ◌+◌, ◌-◌, ◌*◌, ◌^◌, ◌<◌, ◌≤◌, min, max, true, false, if◌then◌else◌, List, [], ◌∷◌, Option, Some, None}
use Rattle.ip_wire.specs.Seq.{distance_of}
use Rattle.ip_wire.specs.TcpHeader.{TcpHeader}
use Rattle.tcp_state.specs.Controls.{is_syn, is_rst}
use Rattle.tcp_state.specs.declared.offer.OpenOffer.{OpenOffer}
use Rattle.tcp_state.specs.declared.offer.Reply.{Reply}
use Rattle.tcp_block.specs.Arrival.{arrives}
use Rattle.tcp_block.specs.TcbRules.{local_shift}
use Rattle.tcp_block.specs.Offers.{offer_of}
use Rattle.tcp_block.specs.Value.{TcpValue, room_of}
use Rattle.tcp_block.specs.declared.tcb.Tcb.{Tcb}
use Rattle.tcp_invariants.specs.Ends.{is_over}
use Rattle.tcp_invariants.specs.Events.{Event, after}
use Rattle.tcp_invariants.specs.Events.Event.{Comes, Asked}

abbrev pub answer_in : Option Reply → Option TcpHeader
answer_in None = None
answer_in (Some reply) = Some reply.segment

abbrev pub offer_in : Option OpenOffer → Option TcpHeader
offer_in None = None
offer_in (Some o) = Some o.segment

-- the segment that goes with an event, if one does
abbrev pub goes : TcpValue → Event → Option TcpHeader
goes v (Comes cx ip header bytes) = answer_in (arrives cx v ip header bytes).answer
goes v (Asked cx true) = offer_in (offer_of cx v).socket.offered
goes v other = None

-- what one stands for in a window field, but in a SYN's
abbrev pub unit_of : TcpValue → ℕ
unit_of v = 2 ^ local_shift v.tcb (room_of v.received)

-- the window that a segment announces
abbrev pub window_in : TcpValue → TcpHeader → ℕ
window_in v segment = if is_syn segment.control then segment.window_len else segment.window_len * unit_of v

-- by how much RCV.NXT rose
abbrev pub risen : Tcb → Tcb → ℕ
risen old new = if old.receiver.took_syn then distance_of old.receiver.next new.receiver.next else 0

-- The furthest edge with that of a segment that goes. A reset announces none.
abbrev pub furthest_with : ℕ → TcpValue → Option TcpHeader → ℕ
furthest_with furthest v None = furthest
furthest_with furthest v (Some segment) = if is_rst segment.control then furthest else max furthest (window_in v segment)

-- the furthest edge after an event; where there is no connection none was announced
abbrev pub furthest_after : TcpValue → Event → ℕ → ℕ
furthest_after v it furthest =
    if is_over (after v it).tcb.state then 0
    else furthest_with (furthest - risen v.tcb (after v it).tcb) (after v it) (goes v it)

-- A segment that isn't a reset announces no edge left of this one, but by less than a unit of its field. A SYN, whose field has no scale,
-- says of it what 16 bits can.
abbrev pub KeepsRcvAdv : ℕ → TcpValue → Option TcpHeader → Type 0
KeepsRcvAdv furthest v None = Unit {0}
KeepsRcvAdv furthest v (Some segment) =
    (is_rst segment.control ≡ false → is_syn segment.control ≡ false → furthest < window_in v segment + unit_of v)
    × (is_syn segment.control ≡ true → min furthest 65_535 ≤ window_in v segment)

-- so does each segment that goes with these events, of the furthest of all edges that were announced before it
abbrev pub KeepEdges : TcpValue → ℕ → List Event → Type 0
KeepEdges v furthest [] = Unit {0}
KeepEdges v furthest (it ∷ more) =
    KeepsRcvAdv (furthest - risen v.tcb (after v it).tcb) (after v it) (goes v it) × KeepEdges (after v it) (furthest_after v it furthest) more
