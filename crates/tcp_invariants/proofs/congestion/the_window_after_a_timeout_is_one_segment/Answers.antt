use Rattle.tcp_invariants.proofs.CongestionRules.{led_window, timeout_counts, stays_out}
use Rattle.tcp_invariants.proofs.congestion.the_window_after_a_timeout_is_one_segment.Goals as goal

pub returns-clause-window : goal.returns-clause-window
returns-clause-window c = led_window

pub returns-clause-counts : goal.returns-clause-counts
returns-clause-counts c = timeout_counts

pub returns-clause-stays : goal.returns-clause-stays
returns-clause-stays c = stays_out
