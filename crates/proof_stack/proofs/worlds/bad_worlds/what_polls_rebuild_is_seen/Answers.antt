use Rattle.proof_stack.proofs.Runs.BadWorlds.{rebuilt_in_a_poll}
use Rattle.proof_stack.proofs.worlds.bad_worlds.what_polls_rebuild_is_seen.Goals as goal

pub returns : goal.returns
returns c = rebuilt_in_a_poll
