-- A socket that has nothing to offer at an instant.
use Rattle.std.specs.Prelude.{◌≡◌, false}
use Rattle.tcp_state.specs.Context.{ContextValue}
use Rattle.tcp_state.specs.declared.endpoints.FourTuple.{FourTuple}
use Rattle.tcp_state.specs.Moments.{is_due}
use Rattle.tcp_block.specs.LossRecovery.{loss_probe_deadline}
use Rattle.tcp_block.specs.Probing.{is_probe_unset, probe_deadline}
use Rattle.tcp_block.specs.Rules.{time_wait_end, owes_syn, resends, ack_deadline, has_payload, updates_window, keep_alive_deadline}
use Rattle.tcp_block.specs.Timeout.{timeout_end, is_timeout_unset}
use Rattle.tcp_block.specs.Value.{TcpValue, queued_in, free_in, room_of}

-- of a socket between these endpoints that isn't closed: no rule applies at the instant, and none sets an instant
pub record IsQuiet (cx : ContextValue) (v : TcpValue) (pair : FourTuple) : Type 0 where
  pub time_wait : is_due cx.instant (time_wait_end v.tcb) ≡ false
  pub timeout : is_due cx.instant (timeout_end v.tcb (queued_in v)) ≡ false
  pub timeout_set : is_timeout_unset v.tcb (queued_in v) ≡ false
  pub retransmission : is_due cx.instant v.tcb.timers.retransmit_at ≡ false
  pub loss_probe : is_due cx.instant (loss_probe_deadline v.tcb) ≡ false
  pub syn : owes_syn v.tcb ≡ false
  pub again : resends v.tcb pair.addresses cx.ip_mtu v.queued ≡ false
  pub payload : has_payload v.tcb pair.addresses cx.ip_mtu v.queued ≡ false
  pub probe_set : is_probe_unset v.tcb (queued_in v) ≡ false
  pub probe : is_due cx.instant (probe_deadline v.tcb (queued_in v)) ≡ false
  pub ack : is_due cx.instant (ack_deadline v.tcb) ≡ false
  pub window_update : updates_window v.tcb (room_of v.received) (free_in v) ≡ false
  pub keep_alive : is_due cx.instant (keep_alive_deadline v.tcb) ≡ false
