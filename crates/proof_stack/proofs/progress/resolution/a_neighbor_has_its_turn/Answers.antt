use Rattle.proof_stack.proofs.Polls.Rotates.{has_its_turn}
use Rattle.proof_stack.proofs.progress.resolution.a_neighbor_has_its_turn.Goals as goal

pub returns : goal.returns
returns g c = has_its_turn g.D.Device.moves
