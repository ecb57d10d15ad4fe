use Rattle.tcp_invariants.proofs.RoomRules.{payload_fits, two_beyond, hole_fits}
use Rattle.tcp_invariants.proofs.windows.what_goes_fits_the_congestion_window.Goals as goal

pub returns : goal.returns
returns c = record { payload = payload_fits; further = two_beyond; hole = hole_fits }
