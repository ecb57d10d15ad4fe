use Rattle.tcp_invariants.proofs.LateRules.{again_not_yet, window_stays}
use Rattle.tcp_invariants.proofs.reordering.what_may_be_late_is_waited_for.Goals as goal

pub returns : goal.returns
returns c = record { again = again_not_yet; window = window_stays }
