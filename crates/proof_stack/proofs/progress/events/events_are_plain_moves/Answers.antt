use Rattle.proof_stack.proofs.EventMoves.{events_move}
use Rattle.proof_stack.proofs.progress.events.events_are_plain_moves.Goals as goal

pub returns : goal.returns
returns c = events_move
