use Rattle.proof_stack.proofs.EventLeave.{are_let_go}
use Rattle.proof_stack.proofs.progress.events.offers_go_while_links_give_leave.Goals as goal

pub returns : goal.returns
returns c = λ starts net past more hosts still seats moves initial ip by leave. are_let_go starts initial ip seats net past more hosts still moves by leave
