use Rattle.std.proofs.Common.{◌≤◌, ◌+◌}
use Rattle.arrayvec.specs.ArrayVec.{array_vec_len}
use Rattle.iface_tables.proofs.ByPrefix.{AreFrom}
use Rattle.iface_tables.proofs.prefixes.lengths_of.Given as goal

abbrev pub invariant-loop-longest : goal.invariant-loop-longest
invariant-loop-longest l = AreFrom l.bound l.routes l.lengths.items × (array_vec_len l.lengths + l.bound ≤ 129)

abbrev pub decreases-loop-longest : goal.decreases-loop-longest
decreases-loop-longest l = l.bound
