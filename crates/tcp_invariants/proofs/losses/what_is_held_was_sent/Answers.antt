use Rattle.tcp_invariants.proofs.LossRules.{led_held}
use Rattle.tcp_invariants.proofs.losses.what_is_held_was_sent.Goals as goal

pub returns : goal.returns
returns c = record { held = led_held }
