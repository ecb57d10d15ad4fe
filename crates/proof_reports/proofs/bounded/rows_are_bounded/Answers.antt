use Rattle.proof_reports.proofs.Room.{joined_few, followed_few, heard_len, told_len}
use Rattle.proof_reports.proofs.bounded.rows_are_bounded.Goals as goal

pub returns : goal.returns
returns c = record { joined = joined_few; followed = followed_few; heard = heard_len; told = told_len }
