use Rattle.std.proofs.Common.{refl}
use Rattle.iface_groups.proofs.Members.{told_twice}
use Rattle.iface_groups.proofs.laws.a_group_is_told.Goals as goal

pub returns : goal.returns
returns c = told_twice
