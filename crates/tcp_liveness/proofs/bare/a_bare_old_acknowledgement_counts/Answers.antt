use Rattle.std.proofs.Common.{inr, []}
use Rattle.tcp_liveness.proofs.Acked.{una_rises}
use Rattle.tcp_liveness.proofs.Following.{bare_lies_before}
use Rattle.tcp_liveness.proofs.bare.a_bare_old_acknowledgement_counts.Goals as goal

pub returns : goal.returns
returns c = record { rises = λ cx v ip header number counts bare. una_rises cx v ip header [] number counts (inr (bare_lies_before v header bare)) }
