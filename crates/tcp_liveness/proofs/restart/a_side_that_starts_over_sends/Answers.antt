use Rattle.tcp_liveness.proofs.OfItself.{leads_of_itself, moves_of_itself, side_sends}
use Rattle.tcp_liveness.proofs.restart.a_side_that_starts_over_sends.Goals as goal

pub returns : goal.returns
returns c = record { sends = side_sends; moves = moves_of_itself; leads = leads_of_itself }
