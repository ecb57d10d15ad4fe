use Rattle.proof_stack.proofs.InterfaceEqual.{Decides-question, Decides-plan}
use Rattle.proof_stack.proofs.Told.{by_other}
use Rattle.proof_stack.proofs.interface_equal.plans_are_equated.Goals as goal

pub returns-clause-questions : goal.returns-clause-questions
returns-clause-questions c = Decides-question

pub returns-clause-plans : goal.returns-clause-plans
returns-clause-plans c =
    let hardware = c.hardware_tests.ensures in
    Decides-plan (λ a b. by_other _ _ (hardware.equal a b) (hardware.same a b))
    (λ a b. by_other _ _ (hardware.equal a b) (hardware.same a b))
