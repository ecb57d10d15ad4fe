use Rattle.tcp_theory.proofs.DecodedLemmas.{IsAtItsOffset-comes, IsAckedSoFar-comes}
use Rattle.tcp_theory.proofs.what_comes_is_decoded.Goals as goal

pub returns-clause-bytes : goal.returns-clause-bytes
returns-clause-bytes c = λ s t x holds in_step comes kind some. IsAtItsOffset-comes s t holds.0 holds.1 in_step x comes kind some

pub returns-clause-acknowledgements : goal.returns-clause-acknowledgements
returns-clause-acknowledgements c = λ s t x number holds in_step comes no_reset e. IsAckedSoFar-comes s t holds.0 holds.1 in_step x number comes no_reset e
