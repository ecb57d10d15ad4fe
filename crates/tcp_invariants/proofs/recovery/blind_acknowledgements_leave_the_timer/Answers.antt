use Rattle.tcp_invariants.proofs.BlindRules.{first_kept, all_left, again_left}
use Rattle.tcp_invariants.proofs.recovery.blind_acknowledgements_leave_the_timer.Goals as goal

pub returns : goal.returns
returns c = record { first = first_kept; leave = all_left; again = again_left }
