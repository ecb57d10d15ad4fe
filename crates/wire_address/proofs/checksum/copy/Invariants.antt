use Rattle.std.proofs.Common.{◌-◌}
use Rattle.wire_address.proofs.Vectors.{IsCopiedSoFar}
use Rattle.wire_address.proofs.checksum.copy.Given as goal

abbrev pub invariant-loop-done : goal.invariant-loop-done
invariant-loop-done l = IsCopiedSoFar l.to l.from l.words l.high l.whole l.done

abbrev pub decreases-loop-done : goal.decreases-loop-done
decreases-loop-done l = l.whole - l.done
