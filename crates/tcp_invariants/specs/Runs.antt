-- Runs of a socket: whatever comes, in whatever order, and whatever its user calls.
use Rattle.std.specs.Prelude.{◌≡◌, ℕ, Bool, false, List, [], ◌∷◌}
use Rattle.ip_wire.specs.IpRepr.{IpRepr}
use Rattle.ip_wire.specs.TcpHeader.{TcpHeader}
use Rattle.tcp_block.specs.Context.{ContextValue}
use Rattle.tcp_state.specs.States.{is_listening}
use Rattle.tcp_block.specs.Arrival.{arrives}
use Rattle.tcp_block.specs.Offers.{offer_of}
use Rattle.tcp_block.specs.Settled.{settled}
use Rattle.tcp_block.specs.Value.{TcpValue}
use Rattle.tcp_invariants.specs.Flight.{flight_of}

pub data Happening : Type 0 where
  Comes : (cx : ContextValue) (ip : IpRepr) (header : TcpHeader) (bytes : List ℕ) → Happening
  -- it is asked for a segment, and the offer is settled
  Asked : (cx : ContextValue) (sent : Bool) → Happening
  -- a call of its user that leaves what is in flight: each but an OPEN
  Called : (new : TcpValue) → Happening

abbrev pub after : TcpValue → Happening → TcpValue
after v (Comes cx ip header bytes) = (arrives cx v ip header bytes).socket
after v (Asked cx sent) = settled sent (offer_of cx v).socket
after v (Called new) = new

abbrev pub MayHappen : TcpValue → Happening → Type 0
MayHappen v (Called new) = (flight_of new.tcb ≡ flight_of v.tcb) × (is_listening new.tcb.state ≡ is_listening v.tcb.state)
MayHappen v other = Unit {0}

abbrev pub IsRun : TcpValue → List Happening → Type 0
IsRun v [] = Unit {0}
IsRun v (it ∷ more) = MayHappen v it × IsRun (after v it) more

abbrev pub run : TcpValue → List Happening → TcpValue
run v [] = v
run v (it ∷ more) = run (after v it) more

-- the connection lasts: the socket doesn't listen, and is never taken back to where it does
abbrev pub Lasts : TcpValue → List Happening → Type 0
Lasts v [] = is_listening v.tcb.state ≡ false
Lasts v (it ∷ more) = (is_listening v.tcb.state ≡ false) × Lasts (after v it) more
