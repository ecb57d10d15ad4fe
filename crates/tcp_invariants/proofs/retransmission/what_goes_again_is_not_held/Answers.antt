use Rattle.tcp_invariants.proofs.HoleRules.{again_isnt_held}
use Rattle.tcp_invariants.proofs.NextRules.{payload_isnt_held}
use Rattle.tcp_invariants.proofs.retransmission.what_goes_again_is_not_held.Goals as goal

pub returns-clause-again : goal.returns-clause-again
returns-clause-again c = again_isnt_held

pub returns-clause-payload : goal.returns-clause-payload
returns-clause-payload c = payload_isnt_held
