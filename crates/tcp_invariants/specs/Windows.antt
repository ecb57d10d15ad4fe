-- The congestion window and the slow start threshold of each socket that events lead to (RFC 5681, 3.1).
use Rattle.std.specs.Prelude.{Bool, true, false}
use Rattle.tcp_block.specs.declared.tcb.CongestionControl.{CongestionControl}
use Rattle.tcp_block.specs.declared.tcb.CongestionControl.TheVariants as Avoids

abbrev pub runs_cubic : CongestionControl → Bool
runs_cubic Avoids.Cubic = true
runs_cubic other = false
