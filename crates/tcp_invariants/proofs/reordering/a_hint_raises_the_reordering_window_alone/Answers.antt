use Rattle.tcp_invariants.proofs.HintRules.{hint_alone, hint_empty, hint_late, hint_outside, hint_raises, hint_within}
use Rattle.tcp_invariants.proofs.reordering.a_hint_raises_the_reordering_window_alone.Goals as goal

pub returns : goal.returns
returns c = record { alone = hint_alone; within = hint_within; raises = hint_raises; late = hint_late; outside = hint_outside; empty = hint_empty }
