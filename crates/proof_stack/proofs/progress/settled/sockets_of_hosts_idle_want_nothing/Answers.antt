use Rattle.proof_stack.proofs.Settled.{wants_nothing}
use Rattle.proof_stack.proofs.progress.settled.sockets_of_hosts_idle_want_nothing.Goals as goal

pub returns : goal.returns
returns c = λ starts history hosts instant side slot v run rest here. wants_nothing starts history hosts instant side slot v run rest here
