use Rattle.proof_stack.proofs.Rounds.Either.{at_rest, either}
use Rattle.proof_stack.proofs.progress.settling.what_settles_arrives_idle_or_in_time.Goals as goal

pub returns-clause-rest : goal.returns-clause-rest
returns-clause-rest c = λ old new budget from rounds instant settles. at_rest budget from rounds instant old new settles

pub returns-clause-arrived : goal.returns-clause-arrived
returns-clause-arrived c = λ old new slots news sockets budget from rounds rested side v w may know settles way unpaused here there.
    either c.one_outcome.ensures old new slots news sockets budget from rounds side v w may unpaused here there rested know settles way
