use Rattle.proof_reports.proofs.Others.{others_kept}
use Rattle.proof_reports.proofs.told.groups_are_told_apart.Goals as goal

pub returns : goal.returns
returns c = others_kept
