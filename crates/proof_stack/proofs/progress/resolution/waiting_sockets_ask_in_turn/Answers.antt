use Rattle.proof_stack.proofs.Polls.Waited.{step_asks_in_turn}
use Rattle.proof_stack.proofs.progress.resolution.waiting_sockets_ask_in_turn.Goals as goal

pub returns : goal.returns
returns g c hops x a freely is = step_asks_in_turn g.D.Device.moves hops x a freely is
