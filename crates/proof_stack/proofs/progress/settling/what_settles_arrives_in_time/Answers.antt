use Rattle.proof_stack.proofs.Rounds.Arrives.{arrives_in_time}
use Rattle.proof_stack.proofs.progress.settling.what_settles_arrives_in_time.Goals as goal

pub returns : goal.returns
returns c = arrives_in_time c.one_outcome.ensures
