use Rattle.tcp_liveness.proofs.Acked.{una_rises}
use Rattle.tcp_liveness.proofs.laws.an_acknowledgement_raises_snd_una.Goals as goal

pub returns : goal.returns
returns c = record { rises = una_rises }
