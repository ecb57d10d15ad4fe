use Rattle.std.proofs.Common.{◌≡◌, ◌++◌, take, drop}
use Rattle.std.specs.Prelude.{map}
use Rattle.iface_tables.specs.Assemblers.{unless_expired}
use Rattle.iface_tables.proofs.assemblers.free_expired.Given as goal

abbrev pub invariant-loop-assembler : goal.invariant-loop-assembler
invariant-loop-assembler l =
    l.assemblers ≡ map (unless_expired l.timestamp) (take l.assembler-index l.initial.assemblers) ++ drop l.assembler-index l.initial.assemblers
