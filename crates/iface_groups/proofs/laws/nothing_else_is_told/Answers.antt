use Rattle.iface_groups.proofs.Members.{says_what_is}
use Rattle.iface_groups.proofs.Histories.{few_are_told}
use Rattle.iface_groups.proofs.laws.nothing_else_is_told.Goals as goal

pub returns : goal.returns
returns c = record { says = says_what_is; counted = few_are_told }
