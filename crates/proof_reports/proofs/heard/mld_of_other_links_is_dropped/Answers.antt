use Rattle.proof_reports.proofs.Answers.{another_hop, no_alert}
use Rattle.proof_reports.proofs.heard.mld_of_other_links_is_dropped.Goals as goal

pub returns-clause-hop_limit : goal.returns-clause-hop_limit
returns-clause-hop_limit c = another_hop

pub returns-clause-alert : goal.returns-clause-alert
returns-clause-alert c = no_alert
