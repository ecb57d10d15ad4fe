use Rattle.std.proofs.Common.{◌≡◌}
use Rattle.base_time.specs.Rand.{draw_port}
use Rattle.base_time.proofs.rand.Rand.rand_source_port.Given as goal

-- what the draws that are left give is what all of them give
abbrev pub invariant-loop-left : goal.invariant-loop-left
invariant-loop-left l = draw_port l.left l.self ≡ draw_port 64 l.initial.self

abbrev pub decreases-loop-left : goal.decreases-loop-left
decreases-loop-left l = l.left
