-- The congestion window after a timeout (RFC 5681, 3.1).
use Rattle.std.specs.Prelude.{◌≡◌, ◌⊎◌, ◌<◌, Bool, true, false}
use Rattle.tcp_state.specs.Reno.{RenoValue}
use Rattle.tcp_state.specs.States.{is_listening}
use Rattle.tcp_state.specs.declared.state.State.{State}
use Rattle.tcp_block.specs.Value.{TcpValue, queued_in}
use Rattle.tcp_block.specs.declared.tcb.Tcb.{Tcb}
use Rattle.tcp_invariants.specs.Events.{Event, after}
use Rattle.tcp_invariants.specs.Events.Event.{Listens, Connects, Sets}
use Rattle.tcp_invariants.specs.Events.Setting.{Congestion}

pub record Control : Type 0 where
  pub reno : RenoValue
  pub syn_unacked : Bool
  pub state : State

abbrev pub control_of : Tcb → Control
control_of b = record { reno = b.reno; syn_unacked = b.sender.syn_unacked; state = b.state }

-- from a timeout until new data is acknowledged the window is one segment, and fast recovery is over
pub record IsHeld (c : Control) : Type 0 where
  pub window : c.reno.timed_out ≡ true → (c.reno.cwnd ≡ c.reno.mss) × (c.reno.recovers ≡ false) × (c.syn_unacked ≡ false)
  pub listens : is_listening c.state ≡ true → c.reno.timed_out ≡ false

-- a call of the user begins a connection, or congestion control again
abbrev pub renews : Event → Bool
renews (Listens endpoint) = true
renews (Connects cx remote local) = true
renews (Sets (Congestion control)) = true
renews other = false

-- the timeout counts on, or bytes of the send queue were acknowledged
abbrev pub StaysOut : TcpValue → Event → Type 0
StaysOut v it = ((after v it).tcb.reno.timed_out ≡ true) ⊎ (queued_in (after v it) < queued_in v)
