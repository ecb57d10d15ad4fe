use Rattle.iface_groups.proofs.Tables.{none_before, none_ever, some_then, nothing_told}
use Rattle.iface_groups.proofs.table_laws.tables_are_quiet.Goals as goal

pub returns : goal.returns
returns c = record { before = none_before; never = none_ever; then = some_then; nothing = nothing_told }
