use Rattle.proof_stack.proofs.Polls.Reached.{reached, waits_following}
use Rattle.proof_stack.proofs.progress.arrivals.datagrams_reach_their_socket.Goals as goal

pub returns-clause-reaches : goal.returns-clause-reaches
returns-clause-reaches g c = reached g.D.Device.moves

pub returns-clause-following : goal.returns-clause-following
returns-clause-following g c = waits_following
