use Rattle.tcp_liveness.proofs.InOrder.{heard_in_order}
use Rattle.tcp_liveness.proofs.latency.what_comes_in_order_is_heard.Goals as goal

pub returns : goal.returns
returns c = record { heard = λ p q course delay r s days o. heard_in_order q p course delay r s days o }
