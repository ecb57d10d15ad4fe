-- Which segments are acceptable (RFC 9293, 3.4 and 3.10.7), in positions.
use Rattle.std.specs.Prelude.{◌≡◌, ◌⊎◌, ℕ, zero, suc, ◌+◌, ◌<◌, ◌≤◌, ◌==◌, Bool, false}
use Rattle.ip_wire.specs.IpRepr.{IpRepr}
use Rattle.ip_wire.specs.TcpHeader.{TcpHeader}
use Rattle.socket_context.specs.Context.{ContextValue}
use Rattle.tcp_block.specs.declared.tcb.Tcb.{Tcb}
use Rattle.tcp_block.specs.State.{State}
use Rattle.tcp_block.specs.State.TheVariants as In
use Rattle.tcp_block.specs.Answers.{drawn}
use Rattle.tcp_block.specs.Opening.{acks_syn}
use Rattle.tcp_block.specs.Value.{TcpValue, Arrived, dropped, unoffered}
use Rattle.tcp_refinement.specs.Tie.{core_of}

-- A segment of so many positions from `at` on meets a window of so much space from RCV.NXT on: without length at RCV.NXT or inside
-- the window; else one of its positions lies inside. So none that has length meets a closed window.
abbrev pub Meets : ℕ → ℕ → ℕ → ℕ → Type 0
Meets next at zero space = (at ≡ next) ⊎ ((next ≤ at) × (at < next + space))
Meets next at (suc more) space = (p : ℕ) × (at ≤ p) × (p ≤ at + more) × (next ≤ p) × (p < next + space)

-- A reset counts in SYN-SENT if it acknowledges the SYN, and from SYN-RECEIVED on at RCV.NXT alone (RFC 5961, 3.2); never before, and
-- not in TIME-WAIT.
abbrev pub reset_counts_in : State → Tcb → TcpHeader → Bool
reset_counts_in In.Closed b header = false
reset_counts_in In.Listen b header = false
reset_counts_in In.SynSent b header = acks_syn b.sender.una header.ack_number
reset_counts_in In.TimeWait b header = false
reset_counts_in state b header = b.receiver.next.0 == header.seq_number.0

abbrev pub reset_counts : TcpValue → TcpHeader → Bool
reset_counts v header = reset_counts_in v.tcb.state v.tcb header

-- Any other changes nothing but when an answer may be drawn and when an acknowledgement is due: whoever sent it may draw one.
pub record IsIgnored (cx : ContextValue) (v : TcpValue) (ip : IpRepr) (header : TcpHeader) (a : Arrived) : Type 0 where
  pub core : core_of a.socket ≡ core_of v
  pub answer : (a ≡ dropped (unoffered v)) ⊎ (a ≡ drawn cx (unoffered v) ip header)
