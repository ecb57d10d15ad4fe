use Rattle.proof_stack.proofs.Polls.Parks.{turn_parks}
use Rattle.proof_stack.proofs.progress.datagrams.what_has_to_wait_is_parked.Goals as goal

pub returns : goal.returns
returns g c = turn_parks g.D.Device.moves
