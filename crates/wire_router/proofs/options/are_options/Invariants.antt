use Rattle.std.proofs.Common.{◌↔◌, length}
use Rattle.wire_router.specs.Options.{AreOptions}
use Rattle.wire_router.proofs.options.are_options.Given as goal

abbrev pub invariant-loop-rest : goal.invariant-loop-rest
invariant-loop-rest l = AreOptions l.rest ↔ AreOptions l.fn.bytes

abbrev pub decreases-loop-rest : goal.decreases-loop-rest
decreases-loop-rest l = length l.rest
