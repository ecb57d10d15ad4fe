use Rattle.proof_reports.proofs.Strays.{strays_left, left_says, member_stays, none_left}
use Rattle.proof_reports.proofs.told.what_is_told_follows_the_host.Goals as goal

pub returns : goal.returns
returns c = record { left = strays_left; says = left_says; stays = member_stays; nothing = none_left }
