use Rattle.std.proofs.Common.{refl}
use Rattle.iface_groups.proofs.Members.{answered_by, says_listening}
use Rattle.iface_groups.proofs.laws.a_query_is_answered.Goals as goal

pub returns : goal.returns
returns c = record { due = answered_by; says = says_listening }
