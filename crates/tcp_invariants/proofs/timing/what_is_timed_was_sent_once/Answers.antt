use Rattle.tcp_invariants.proofs.TimingRules.{led_timing, begins_past_all, goes_past_timed}
use Rattle.tcp_invariants.proofs.timing.what_is_timed_was_sent_once.Goals as goal

pub returns-clause-kept : goal.returns-clause-kept
returns-clause-kept c = led_timing

pub returns-clause-begins : goal.returns-clause-begins
returns-clause-begins c = begins_past_all

pub returns-clause-once : goal.returns-clause-once
returns-clause-once c = goes_past_timed
