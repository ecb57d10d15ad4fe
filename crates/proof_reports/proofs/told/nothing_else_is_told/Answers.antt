use Rattle.proof_reports.proofs.Strays.{first_is_due, records_of_due, others_stay}
use Rattle.proof_reports.proofs.told.nothing_else_is_told.Goals as goal

pub returns : goal.returns
returns c = record { by_a_row = first_is_due; records = records_of_due; others = others_stay }
