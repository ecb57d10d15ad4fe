-- What is in flight, over whole runs of a socket.
use Rattle.std.proofs.Common.{◌≡◌, ℕ, ◌<◌, ◌≤◌, true, false, List, [], ◌∷◌, arith}
use Rattle.tcp_state.specs.States.{is_listening}
use Rattle.tcp_block.specs.Value.{TcpValue}
use Rattle.tcp_invariants.specs.Flight.{flight_of, IsArmed, Rises}
use Rattle.tcp_invariants.proofs.Going.{Goes}
use Rattle.tcp_invariants.specs.Runs.{Happening, MayHappen, IsRun, Lasts, after, run}
use Rattle.tcp_invariants.specs.Runs.Happening.{Comes, Asked, Called}
use Rattle.tcp_invariants.proofs.ArrivalRules.{arrival_goes}
use Rattle.tcp_invariants.proofs.OfferRules.{offer_sent_goes, offer_goes}
use Rattle.tcp_invariants.proofs.Steps.{same}

step_goes : (v : TcpValue) (it : Happening) → MayHappen v it → Goes v.tcb (after v it).tcb
step_goes v (Comes cx ip header bytes) may = arrival_goes cx v ip header bytes
step_goes v (Asked cx true) may = offer_sent_goes cx v
step_goes v (Asked cx false) may = offer_goes cx v
step_goes v (Called new) may = same v.tcb new.tcb may.0

pub armed_run : (v : TcpValue) (happenings : List Happening) → IsRun v happenings → IsArmed (flight_of v.tcb) → IsArmed (flight_of (run v happenings).tcb)
armed_run v [] is_run armed = armed
armed_run v (it ∷ more) is_run armed = armed_run (after v it) more is_run.1 ((step_goes v it is_run.0).armed armed)

begins : (v : TcpValue) (happenings : List Happening) → Lasts v happenings → is_listening v.tcb.state ≡ false
begins v [] lasts = lasts
begins v (it ∷ more) lasts = lasts.0

counted_yet : (a b : ℕ) → a ≤ b → b < 4_294_967_295 → a < 4_294_967_295
counted_yet a b e f = omega arith

at_most : (a b c : ℕ) → a ≤ b → b ≤ c → a ≤ c
at_most a b c e f = omega arith

pub rising_run :
    (v : TcpValue) (happenings : List Happening) → IsRun v happenings → Lasts v happenings → Rises (flight_of v.tcb) (flight_of (run v happenings).tcb)
rising_run v [] is_run lasts = λ _. (omega arith, omega arith)
rising_run v (it ∷ more) is_run lasts = λ counted.
    let rest = rising_run (after v it) more is_run.1 lasts.1 counted in
    let first = (step_goes v it is_run.0).rises lasts.0 (begins (after v it) more lasts.1) (counted_yet _ _ rest.0 counted) in
    (at_most _ _ _ first.0 rest.0, at_most _ _ _ first.1 rest.1)
