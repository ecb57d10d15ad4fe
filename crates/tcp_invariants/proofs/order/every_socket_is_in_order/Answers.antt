use Rattle.tcp_invariants.proofs.OrderRules.{led_new, led_order}
use Rattle.tcp_invariants.proofs.order.every_socket_is_in_order.Goals as goal

pub returns-clause-new : goal.returns-clause-new
returns-clause-new c = led_new

pub returns-clause-led : goal.returns-clause-led
returns-clause-led c = led_order
