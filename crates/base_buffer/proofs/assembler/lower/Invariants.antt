use Rattle.std.proofs.Common.{◌≡◌, ◌++◌, take, drop}
use Rattle.base_buffer.specs.Assembler.{lowered}
use Rattle.base_buffer.proofs.assembler.lower.Given as goal

abbrev pub invariant-loop-run : goal.invariant-loop-run
invariant-loop-run l =
    l.runs ≡ lowered l.by (take l.run-index l.initial.runs) ++ drop l.run-index l.initial.runs
