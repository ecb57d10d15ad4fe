-- Fast recovery (RFC 6582), and the least retransmission timeout (RFC 6298, 2.4).
use Rattle.std.specs.Prelude.{◌≡◌, ℕ, ◌≤◌, true, false}
use Rattle.tcp_state.specs.Reno.{RenoValue}
use Rattle.tcp_state.specs.RoundTrip.{RoundTripValue, least_of}
use Rattle.tcp_state.specs.States.{is_listening}
use Rattle.tcp_state.specs.declared.state.State.{State}
use Rattle.tcp_block.specs.declared.tcb.Tcb.{Tcb}

pub record Recovery : Type 0 where
  pub state : State
  pub reno : RenoValue
  pub recover : ℕ
  pub round_trip : RoundTripValue
  pub min_rto : ℕ  -- as its user asked for it, in microseconds

abbrev pub recovery_of : Tcb → Recovery
recovery_of b = record {
  state = b.state;
  reno = b.reno;
  recover = b.sender.recover;
  round_trip = b.round_trip;
  min_rto = b.settings.min_rto;
}

pub record IsPaced (r : Recovery) : Type 0 where
  -- fast recovery lasts only until more than `recover` is acknowledged
  pub lasts : r.reno.recovers ≡ true → 1 ≤ r.recover
  pub listens : is_listening r.state ≡ true → r.reno.recovers ≡ false
  -- the timeout isn't below the least that is set
  pub least : r.round_trip.least ≡ least_of r.min_rto
  pub timeout : r.round_trip.least ≤ r.round_trip.timeout
