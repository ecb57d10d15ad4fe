-- A step of a socket, as it changes what is in flight.
use Rattle.std.specs.Prelude.{◌≡◌, false}
use Rattle.tcp_state.specs.States.{is_listening}
use Rattle.tcp_block.specs.declared.tcb.Tcb.{Tcb}
use Rattle.tcp_invariants.specs.Flight.{flight_of, IsArmed, Rises}

-- one step of a socket; it may begin a connection, or take a listener back
pub record Goes (old new : Tcb) : Type 0 where
  pub armed : IsArmed (flight_of old) → IsArmed (flight_of new)
  pub rises : is_listening old.state ≡ false → is_listening new.state ≡ false → Rises (flight_of old) (flight_of new)
