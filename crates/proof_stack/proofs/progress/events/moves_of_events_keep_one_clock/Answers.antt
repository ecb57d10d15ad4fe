use Rattle.proof_stack.proofs.EventClocks.{at_instants}
use Rattle.proof_stack.proofs.progress.events.moves_of_events_keep_one_clock.Goals as goal

pub returns : goal.returns
returns c = at_instants
