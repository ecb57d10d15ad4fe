use Rattle.proof_stack.proofs.Rounds.Arrives.{by_rounds}
use Rattle.proof_stack.proofs.progress.settling.rounds_serve_at_once_who_waits_for_none.Goals as goal

pub returns : goal.returns
returns c = λ old new slots budget from rounds rested begin settles. by_rounds c.one_outcome.ensures slots from budget rounds rested old new begin settles
