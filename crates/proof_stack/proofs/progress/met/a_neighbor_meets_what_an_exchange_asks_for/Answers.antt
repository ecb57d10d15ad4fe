use Rattle.std.proofs.Common.{refl}
use Rattle.proof_stack.proofs.Polls.SomeExchange.{arrives_there, can_deliver, four_steps}
use Rattle.proof_stack.proofs.progress.met.a_neighbor_meets_what_an_exchange_asks_for.Goals as goal

pub returns-clause-steps : goal.returns-clause-steps
returns-clause-steps c = four_steps

pub returns-clause-among : goal.returns-clause-among
returns-clause-among c t f = refl

pub returns-clause-delivers : goal.returns-clause-delivers
returns-clause-delivers c = can_deliver

pub returns-clause-arrives : goal.returns-clause-arrives
returns-clause-arrives c = arrives_there
