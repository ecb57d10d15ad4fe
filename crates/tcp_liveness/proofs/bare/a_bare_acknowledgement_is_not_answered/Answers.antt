use Rattle.tcp_liveness.proofs.Unanswered.{bare_unanswered}
use Rattle.tcp_liveness.proofs.bare.a_bare_acknowledgement_is_not_answered.Goals as goal

pub returns : goal.returns
returns c = record { silent = bare_unanswered }
