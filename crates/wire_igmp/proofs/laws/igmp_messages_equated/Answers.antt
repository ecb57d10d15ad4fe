use Rattle.wire_igmp.proofs.Equal.{Decides-igmp}
use Rattle.wire_igmp.proofs.laws.igmp_messages_equated.Goals as goal

pub returns : goal.returns
returns c = Decides-igmp
