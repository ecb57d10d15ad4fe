use Rattle.tcp_liveness.proofs.Ready.{names_in, acts_in}
use Rattle.tcp_liveness.proofs.laws.no_side_waits_for_ever.Goals as goal

pub returns-clause-names : goal.returns-clause-names
returns-clause-names c = names_in

pub returns-clause-acts : goal.returns-clause-acts
returns-clause-acts c = acts_in
