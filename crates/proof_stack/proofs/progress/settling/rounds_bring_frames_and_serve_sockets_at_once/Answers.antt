use Rattle.proof_stack.proofs.Rounds.Arrives.{by_rounds_at_once}
use Rattle.proof_stack.proofs.progress.settling.rounds_bring_frames_and_serve_sockets_at_once.Goals as goal

pub returns : goal.returns
returns c = by_rounds_at_once c.one_outcome.ensures
