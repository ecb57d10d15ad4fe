use Rattle.tcp_invariants.proofs.MendRules.{lost_once_more, lost_since}
use Rattle.tcp_invariants.proofs.losses.what_went_later_says_that_what_went_again_is_lost.Goals as goal

pub returns : goal.returns
returns c = record { again = lost_once_more; since = lost_since }
