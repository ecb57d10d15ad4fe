use Rattle.proof_stack.proofs.EventPeerSides.{proceed_by_events}
use Rattle.proof_stack.proofs.progress.events.peer_sides_proceed_by_their_events.Goals as goal

pub returns : goal.returns
returns c = proceed_by_events
