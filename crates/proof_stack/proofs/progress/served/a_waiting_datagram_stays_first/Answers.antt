use Rattle.proof_stack.proofs.Polls.StillFirst.{stays_first}
use Rattle.proof_stack.proofs.progress.served.a_waiting_datagram_stays_first.Goals as goal

pub returns : goal.returns
returns g c t s s' answer n v d hop p has before patient step = stays_first g.D.Device.moves t s s' answer n v d hop p has before patient step
