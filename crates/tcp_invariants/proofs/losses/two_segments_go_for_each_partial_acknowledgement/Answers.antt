use Rattle.tcp_invariants.proofs.MendRules.{two_let, none_let, one_taken, credited_goes}
use Rattle.tcp_invariants.proofs.losses.two_segments_go_for_each_partial_acknowledgement.Goals as goal

pub returns : goal.returns
returns c = record { lets = two_let; ends = none_let; takes = one_taken; goes = credited_goes }
