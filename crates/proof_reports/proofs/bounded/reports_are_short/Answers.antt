use Rattle.proof_reports.proofs.Room.{report_len}
use Rattle.proof_reports.proofs.bounded.reports_are_short.Goals as goal

pub returns : goal.returns
returns c = report_len
