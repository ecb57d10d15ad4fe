use Rattle.tcp_invariants.proofs.AgainRules.{goes_once}
use Rattle.tcp_invariants.proofs.retransmission.a_position_goes_again_once_for_each_loss.Goals as goal

pub returns : goal.returns
returns c = record { once = goes_once }
