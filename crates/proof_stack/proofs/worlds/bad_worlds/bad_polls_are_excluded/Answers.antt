use Rattle.proof_stack.proofs.Runs.BadWorlds as by
use Rattle.proof_stack.proofs.worlds.bad_worlds.bad_polls_are_excluded.Goals as goal

pub returns : goal.returns
returns c = record {
  before_the_instant = λ starts none quiet. by.quiet_before starts none quiet;
  never = λ starts none quiet. by.quiet_never starts none quiet;
}
