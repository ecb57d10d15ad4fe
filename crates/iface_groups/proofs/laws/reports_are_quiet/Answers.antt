use Rattle.std.proofs.Common.{refl}
use Rattle.iface_groups.proofs.Members.{quiet_before, quiet_never, told_then}
use Rattle.iface_groups.proofs.laws.reports_are_quiet.Goals as goal

pub returns : goal.returns
returns c = record { before = quiet_before; never = quiet_never; then = told_then }
