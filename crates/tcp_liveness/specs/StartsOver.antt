-- When a socket sends from SND.UNA on.
use Rattle.std.specs.Prelude.{◌≡◌, ◌⊎◌, true}
use Rattle.tcp_refinement.specs.Context.{ContextValue}
use Rattle.tcp_invariants.specs.Moments.{is_due}
use Rattle.tcp_block.specs.Value.{TcpValue}

-- nothing is in flight, or the retransmission timer has run out
abbrev pub StartsOver : ContextValue → TcpValue → Type 0
StartsOver cx v = (v.tcb.sender.flight_size ≡ 0) ⊎ (is_due cx.instant v.tcb.timers.retransmit_at ≡ true)
