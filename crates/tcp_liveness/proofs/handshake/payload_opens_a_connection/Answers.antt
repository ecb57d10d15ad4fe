use Rattle.tcp_liveness.proofs.Tells.{tells_on}
use Rattle.tcp_liveness.proofs.handshake.payload_opens_a_connection.Goals as goal

pub returns : goal.returns
returns c = record { told = tells_on }
