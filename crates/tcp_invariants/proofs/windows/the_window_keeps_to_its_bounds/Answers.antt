use Rattle.tcp_invariants.proofs.WindowRules.{window_least, window_most, threshold_within, control_runs}
use Rattle.tcp_invariants.proofs.windows.the_window_keeps_to_its_bounds.Goals as goal

pub returns-clause-segment : goal.returns-clause-segment
returns-clause-segment c = window_least

pub returns-clause-most : goal.returns-clause-most
returns-clause-most c = window_most

pub returns-clause-threshold : goal.returns-clause-threshold
returns-clause-threshold c = threshold_within

pub returns-clause-control : goal.returns-clause-control
returns-clause-control c = control_runs
