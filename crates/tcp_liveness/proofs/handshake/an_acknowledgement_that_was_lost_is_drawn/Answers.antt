use Rattle.tcp_liveness.proofs.ShakenOn.{confirms_on}
use Rattle.tcp_liveness.proofs.handshake.an_acknowledgement_that_was_lost_is_drawn.Goals as goal

pub returns : goal.returns
returns c = record { confirmed = confirms_on }
