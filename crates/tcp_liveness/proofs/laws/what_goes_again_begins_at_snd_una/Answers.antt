use Rattle.tcp_liveness.proofs.Again.{again_at_una}
use Rattle.tcp_liveness.proofs.laws.what_goes_again_begins_at_snd_una.Goals as goal

pub returns : goal.returns
returns c = record { begins = again_at_una }
