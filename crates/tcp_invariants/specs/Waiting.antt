-- A socket that has something to send, or something that isn't acknowledged: it names an instant, and acts at it.
use Rattle.std.specs.Prelude.{◌≡◌, ◌≤◌, false}
use Rattle.tcp_state.specs.declared.endpoints.FourTuple.{FourTuple}
use Rattle.tcp_state.specs.States.{is_closed}
use Rattle.std.specs.Prelude.{Some}
use Rattle.tcp_block.specs.TcbRules.{unacked}
use Rattle.tcp_block.specs.Value.{TcpValue, queued_in}
use Rattle.tcp_invariants.specs.Flight.{flight_of, IsArmed}
use Rattle.tcp_invariants.specs.InOrder.{IsInOrder, sending_of}

-- The connection between these endpoints isn't over, its SYN, payload or a FIN isn't acknowledged, whether sent or not, and its user
-- doesn't hold the answer to a SYN back.
pub record IsWaiting (v : TcpValue) (pair : FourTuple) : Type 0 where
  pub named : v.tcb.names.pair ≡ Some pair
  pub alive : is_closed v.tcb.state ≡ false
  pub owes : 1 ≤ unacked v.tcb (queued_in v)
  pub unpaused : v.tcb.settings.synack_paused ≡ false
  pub order : IsInOrder (sending_of v)
  pub armed : IsArmed (flight_of v.tcb)
