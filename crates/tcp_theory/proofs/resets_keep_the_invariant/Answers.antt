use Rattle.tcp_theory.specs.Move.Move.{SendsReset, Ends, FallsBack}
use Rattle.tcp_theory.proofs.Theorem.{HoldsBetween-after}
use Rattle.tcp_theory.proofs.resets_keep_the_invariant.Goals as goal

pub returns-clause-sent : goal.returns-clause-sent
returns-clause-sent c = λ s t x reset holds. HoldsBetween-after s t (SendsReset x) holds reset

pub returns-clause-ends : goal.returns-clause-ends
returns-clause-ends c = λ s t is_opened holds. HoldsBetween-after s t Ends holds is_opened

pub returns-clause-falls_back : goal.returns-clause-falls_back
returns-clause-falls_back c = λ s t received passive holds. HoldsBetween-after s t FallsBack holds (received, passive)
