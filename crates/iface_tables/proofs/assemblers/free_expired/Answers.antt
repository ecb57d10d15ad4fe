use Rattle.std.proofs.Common.{rules}
use Rattle.std.proofs.lemmas.List.Edits.{map_over_more}
use Rattle.iface_tables.specs.declared.key.FragKey.{FragKey}
use Rattle.iface_tables.specs.Assemblers.{unless_expired}
use Rattle.iface_tables.proofs.assemblers.free_expired.Goals as goal

pub loop-assembler-preserved : goal.loop-assembler-preserved
loop-assembler-preserved c = rw c.free_if_expired.ensures (search (rules, map_over_more (unless_expired {K = FragKey} c.args.timestamp)))
