-- What ends TIME-WAIT (RFC 9293, 3.10.8; RFC 1337).
use Rattle.std.specs.Prelude.{Bool, true, false}
use Rattle.tcp_state.specs.Moments.{is_due}
use Rattle.tcp_block.specs.Value.{TcpValue}
use Rattle.tcp_invariants.specs.Events.{Event}
use Rattle.tcp_invariants.specs.Events.Event.{Asked, Aborts}

-- its own instant has come when it is asked, or its user aborts
abbrev pub ends_wait : TcpValue → Event → Bool
ends_wait v (Asked cx sent) = is_due cx.instant v.tcb.timers.time_wait_ends
ends_wait v Aborts = true
ends_wait v other = false
