-- How far the right edge of the announced window moves right (RFC 9293, 3.8.6.2.2). An edge is counted from RCV.NXT.
use Rattle.std.specs.Prelude.{◌≡◌, ℕ, ◌+◌, ◌-◌, ◌/◌, ◌<◌, ◌≤◌, min, true, false, if◌then◌else◌, List, [], ◌∷◌, length, Option, Some, None}
use Rattle.ip_wire.specs.TcpHeader.{TcpHeader}
use Rattle.tcp_state.specs.Controls.{is_syn, is_rst, or_mss}
use Rattle.tcp_block.specs.Value.{TcpValue, room_of}
use Rattle.tcp_invariants.specs.Edges.{goes, window_in, unit_of, risen}
use Rattle.tcp_invariants.specs.Ends.{is_over}
use Rattle.tcp_invariants.specs.Events.{Event, after}

-- half of the buffer, rounded up, or the payload of a segment as the own SYN named it
abbrev pub least_move : ℕ → ℕ → ℕ
least_move capacity mss = min ((capacity + 1) / 2) mss

-- A segment tells the new edge as its field can: rounded down to a unit, and in a SYN what 16 bits hold. While something waits to be read
-- the edge moves right by no less than that, or not at all.
pub record Tells (rcv_adv mss new : ℕ) (v : TcpValue) (segment : TcpHeader) : Type 0 where
  pub plain : is_syn segment.control ≡ false → (window_in v segment ≤ new) × (new < window_in v segment + unit_of v)
  pub syn : is_syn segment.control ≡ true → window_in v segment ≡ min new 65_535
  pub moves : 1 ≤ length v.received.waiting → rcv_adv < new → rcv_adv + least_move (room_of v.received) mss ≤ new

-- where no segment goes the edge stays, and a reset tells none
abbrev pub MovesTo : ℕ → ℕ → ℕ → TcpValue → Option TcpHeader → Type 0
MovesTo rcv_adv mss new v None = new ≡ rcv_adv
MovesTo rcv_adv mss new v (Some segment) =
    (is_rst segment.control ≡ true → new ≡ rcv_adv) × (is_rst segment.control ≡ false → Tells rcv_adv mss new v segment)

-- the payload that the own SYN named last
abbrev pub mss_with : ℕ → Option TcpHeader → ℕ
mss_with mss None = mss
mss_with mss (Some segment) = if is_syn segment.control then or_mss segment.options.max_seg_size else mss

-- where there is no connection none was told
abbrev pub unless_over : TcpValue → ℕ → ℕ
unless_over v n = if is_over v.tcb.state then 0 else n

-- There is an edge that each segment tells which goes with these events, and that moves right so.
abbrev pub MovesFar : TcpValue → ℕ → ℕ → List Event → Type 0
MovesFar v rcv_adv mss [] = Unit {0}
MovesFar v rcv_adv mss (it ∷ more) =
    (new : ℕ)
    × MovesTo (rcv_adv - risen v.tcb (after v it).tcb) mss new (after v it) (goes v it)
    × MovesFar (after v it) (unless_over (after v it) new) (unless_over (after v it) (mss_with mss (goes v it))) more
