use Rattle.std.proofs.Common.{◌≡◌, ◌-◌, ◌≤◌, length, replicate, vec_len}
use Rattle.iface_tables.specs.Reassembly.{initial}
use Rattle.iface_tables.proofs.assemblers.PacketAssemblerSet.new.Given as goal

abbrev pub invariant-loop-assemblers : goal.invariant-loop-assemblers
invariant-loop-assemblers l =
    (l.assemblers.items ≡ replicate (length l.assemblers.items) (initial 4096)) × (vec_len l.assemblers ≤ l.count)

abbrev pub decreases-loop-assemblers : goal.decreases-loop-assemblers
decreases-loop-assemblers l = l.count - vec_len l.assemblers
