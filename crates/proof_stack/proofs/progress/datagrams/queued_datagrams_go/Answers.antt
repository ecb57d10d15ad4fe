use Rattle.proof_stack.proofs.Polls.Goes.{step_goes}
use Rattle.proof_stack.proofs.Polls.InTurn.{poll_goes}
use Rattle.proof_stack.proofs.progress.datagrams.queued_datagrams_go.Goals as goal

pub returns-clause-at_once : goal.returns-clause-at_once
returns-clause-at_once g c = step_goes g.D.Device.moves

pub returns-clause-in_turn : goal.returns-clause-in_turn
returns-clause-in_turn g c t = poll_goes g.D.Device.moves t
