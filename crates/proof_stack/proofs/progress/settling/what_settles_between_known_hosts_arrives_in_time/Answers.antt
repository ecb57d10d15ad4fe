use Rattle.proof_stack.proofs.Rounds.Arrives.{arrives_where_known}
use Rattle.proof_stack.proofs.progress.settling.what_settles_between_known_hosts_arrives_in_time.Goals as goal

pub returns : goal.returns
returns c = arrives_where_known c.one_outcome.ensures
