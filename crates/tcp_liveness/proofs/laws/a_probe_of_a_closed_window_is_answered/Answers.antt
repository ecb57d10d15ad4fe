use Rattle.tcp_liveness.proofs.Taken.{shut_answered}
use Rattle.tcp_liveness.proofs.laws.a_probe_of_a_closed_window_is_answered.Goals as goal

pub returns : goal.returns
returns c = record { answered = shut_answered }
