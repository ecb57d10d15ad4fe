-- What ends a connection of itself, when the socket is asked.
use Rattle.std.specs.Prelude.{◌≡◌, ◌||◌, Bool, false}
use Rattle.tcp_block.specs.Context.{ContextValue}
use Rattle.tcp_state.specs.Moments.{is_due}
use Rattle.tcp_state.specs.States.{is_closed, is_listening}
use Rattle.tcp_state.specs.declared.state.State.{State}
use Rattle.tcp_block.specs.Retries.{gives_up}
use Rattle.tcp_block.specs.Rules.{time_wait_end}
use Rattle.tcp_block.specs.Timeout.{timeout_end}
use Rattle.tcp_block.specs.Value.{TcpValue, queued_in}

-- no rule ends the connection at this instant: it isn't closed, neither TIME-WAIT nor the user timeout ends, and it doesn't give up
pub record Proceeds (cx : ContextValue) (v : TcpValue) : Type 0 where
  pub lasts : is_due cx.instant (time_wait_end v.tcb) ≡ false
  pub in_time : is_due cx.instant (timeout_end v.tcb (queued_in v)) ≡ false
  pub alive : is_closed v.tcb.state ≡ false
  pub tries : gives_up cx.instant v.tcb (queued_in v) ≡ false

-- there is no connection any more: it is closed, or listens again
abbrev pub is_over : State → Bool
is_over state = is_closed state || is_listening state
