use Rattle.proof_reports.proofs.Answers.{answered_in_time, others_unasked}
use Rattle.proof_reports.proofs.heard.a_query_is_answered.Goals as goal

pub returns : goal.returns
returns c = record { due = answered_in_time; others = others_unasked }
