use Rattle.std.proofs.Common.{refl}
use Rattle.app_tun_services.specs.Services.{datagram_count}
use Rattle.app_tun_services.specs.Turns.{budget}
use Rattle.proof_stack.proofs.tun_values.tun_numbers.Goals as goal

pub returns-clause-budget : goal.returns-clause-budget
unfolding budget
returns-clause-budget c = refl

pub returns-clause-echoed : goal.returns-clause-echoed
unfolding datagram_count
returns-clause-echoed c = refl
