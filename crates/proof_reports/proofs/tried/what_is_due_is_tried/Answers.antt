use Rattle.proof_reports.proofs.DueRows.{tried}
use Rattle.proof_reports.proofs.tried.what_is_due_is_tried.Goals as goal

pub returns : goal.returns
returns g c = tried g.D.Device.moves
