use Rattle.tcp_invariants.proofs.EvidenceRules.{silent, flight_left, window_wide}
use Rattle.tcp_invariants.proofs.recovery.a_loss_is_undone_on_evidence_alone.Goals as goal

pub returns : goal.returns
returns c = record { silent = silent; flight = flight_left; window = window_wide }
