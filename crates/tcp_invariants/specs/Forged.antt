-- What a segment leaves that only elicits an answer (RFC 5961, 3).
use Rattle.std.specs.Prelude.{◌≡◌}
use Rattle.tcp_block.specs.Value.{TcpValue}

-- Nothing of the connection changes: not its state, not what it sent, not what came. Only the acknowledgement that was due may have
-- gone, with the answer, and the pause until the next answer begins.
pub record IsUntouched (old new : TcpValue) : Type 0 where
  pub state : new.tcb.state ≡ old.tcb.state
  pub names : new.tcb.names ≡ old.tcb.names
  pub sender : new.tcb.sender ≡ old.tcb.sender
  pub next : new.tcb.receiver.next ≡ old.tcb.receiver.next
  pub took_fin : new.tcb.receiver.took_fin ≡ old.tcb.receiver.took_fin
  pub peer : new.tcb.peer ≡ old.tcb.peer
  pub stamps : new.tcb.stamps ≡ old.tcb.stamps
  pub timer : new.tcb.timers.retransmit_at ≡ old.tcb.timers.retransmit_at
  pub time_wait : new.tcb.timers.time_wait_ends ≡ old.tcb.timers.time_wait_ends
  pub timeout : new.tcb.timers.timeout_since ≡ old.tcb.timers.timeout_since
  pub round_trip : new.tcb.round_trip ≡ old.tcb.round_trip
  pub reno : new.tcb.reno ≡ old.tcb.reno
  pub settings : new.tcb.settings ≡ old.tcb.settings
  pub received : new.received ≡ old.received
  pub queued : new.queued ≡ old.queued
