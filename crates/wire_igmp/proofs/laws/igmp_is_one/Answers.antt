use Rattle.wire_igmp.proofs.Messages.{IsIgmp-one}
use Rattle.wire_igmp.proofs.laws.igmp_is_one.Goals as goal

pub returns : goal.returns
returns c = IsIgmp-one
