-- What the congestion window has room for (RFC 5681, 3.1; RFC 6675, 5, step C; RFC 3042).
use Rattle.std.specs.Prelude.{◌≡◌, ◌⊎◌, ℕ, ◌+◌, ◌≤◌, ◌==◌, max, min, Bool, true, false}
use Rattle.tcp_state.specs.Scoreboard.{missing}
use Rattle.tcp_block.specs.LossRecovery.{pipe}
use Rattle.tcp_block.specs.Rules.{beyond}
use Rattle.tcp_block.specs.declared.tcb.Tcb.{Tcb}
use Rattle.tcp_block.specs.declared.tcb.CongestionControl.{CongestionControl}
use Rattle.tcp_block.specs.declared.tcb.CongestionControl.TheVariants as Avoids

-- congestion control holds back what is sent
abbrev pub is_limited : CongestionControl → Bool
is_limited Avoids.None = false
is_limited other = true

-- So much payload fits alongside Pipe where selective acknowledgements tell what is on its way, and else alongside what is in flight, but for
-- what limited transmit lets go.
pub record HasRoom (b : Tcb) (len : ℕ) : Type 0 where
  pub told : b.peer.sack ≡ true → pipe b + len ≤ max b.reno.cwnd (pipe b)
  pub untold : b.peer.sack ≡ false → b.sender.flight_size + len ≤ max (b.reno.cwnd + beyond b) b.sender.flight_size

-- A segment fits into the next hole alongside Pipe; or a partial acknowledgement lets it go, and it fits alongside what was retransmitted.
abbrev pub HasHoleRoom : Tcb → Type 0
HasHoleRoom b =
    (pipe b + b.reno.mss ≤ b.reno.cwnd)
    ⊎ (((b.loss.credit == 0) ≡ false) × (missing b.loss.board.runs (min b.loss.resent b.sender.flight_size) + b.reno.mss ≤ b.reno.cwnd))
