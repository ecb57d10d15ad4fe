use Rattle.tcp_liveness.proofs.Taken.{next_rises}
use Rattle.tcp_liveness.proofs.laws.payload_in_order_raises_rcv_nxt.Goals as goal

pub returns : goal.returns
returns c = record { rises = next_rises }
