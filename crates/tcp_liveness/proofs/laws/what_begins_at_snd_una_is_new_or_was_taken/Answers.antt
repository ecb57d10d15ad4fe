use Rattle.tcp_liveness.proofs.Exchange.{new_or_again}
use Rattle.tcp_liveness.proofs.Offered.{goes_from_una}
use Rattle.tcp_liveness.proofs.laws.what_begins_at_snd_una_is_new_or_was_taken.Goals as goal

pub returns-clause-either : goal.returns-clause-either
returns-clause-either c = new_or_again

pub returns-clause-goes : goal.returns-clause-goes
returns-clause-goes c = goes_from_una
