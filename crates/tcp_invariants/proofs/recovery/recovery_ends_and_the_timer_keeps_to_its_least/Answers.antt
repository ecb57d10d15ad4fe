use Rattle.tcp_invariants.proofs.RecoveryRules.{led_lasts, led_least}
use Rattle.tcp_invariants.proofs.recovery.recovery_ends_and_the_timer_keeps_to_its_least.Goals as goal

pub returns-clause-lasts : goal.returns-clause-lasts
returns-clause-lasts c = led_lasts

pub returns-clause-least : goal.returns-clause-least
returns-clause-least c = led_least
