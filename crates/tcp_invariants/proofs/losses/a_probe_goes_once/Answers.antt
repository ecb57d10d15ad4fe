use Rattle.std.proofs.Common.{is_none, refl, ap}
use Rattle.tcp_invariants.proofs.LossRules.{probed_once}
use Rattle.tcp_invariants.proofs.losses.a_probe_goes_once.Goals as goal

pub returns : goal.returns
returns c = record { over = λ b none. ap is_none none; unset = λ b. refl; once = probed_once }
