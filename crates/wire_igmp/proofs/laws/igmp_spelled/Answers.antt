use Rattle.wire_igmp.proofs.Messages.{bytes-spelling}
use Rattle.wire_igmp.proofs.laws.igmp_spelled.Goals as goal

pub returns : goal.returns
returns c = bytes-spelling
