use Rattle.proof_reports.proofs.Joined.{joined_listens, joined_due, joined_says}
use Rattle.proof_reports.proofs.told.a_group_is_told.Goals as goal

pub returns : goal.returns
returns c = record { listens = joined_listens; due = joined_due; says = joined_says }
