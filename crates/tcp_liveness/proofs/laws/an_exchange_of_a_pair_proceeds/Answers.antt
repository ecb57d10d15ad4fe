use Rattle.tcp_liveness.proofs.Led.{leads_on}
use Rattle.tcp_liveness.proofs.Pair.{pair_moves, reach_in, reached_moves}
use Rattle.tcp_liveness.proofs.laws.an_exchange_of_a_pair_proceeds.Goals as goal

pub returns-clause-kept : goal.returns-clause-kept
returns-clause-kept c = pair_moves

pub returns-clause-reached : goal.returns-clause-reached
returns-clause-reached c = λ p side instant o r stream may. reached_moves p side instant o r stream (reach_in p side instant o may) may.space

pub returns-clause-leads : goal.returns-clause-leads
returns-clause-leads c = λ p side instant o r stream may asked. leads_on p side instant o r stream (reach_in p side instant o may) asked
