use Rattle.proof_stack.proofs.EventReach.{home_at}
use Rattle.proof_stack.proofs.progress.reach.a_connection_is_at_home.Goals as goal

pub returns : goal.returns
returns c = λ starts history hosts side slot initial typed still is. home_at starts initial history hosts typed still side slot is
