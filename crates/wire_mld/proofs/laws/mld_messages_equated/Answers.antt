use Rattle.wire_mld.proofs.Equal.{Decides-mld}
use Rattle.wire_mld.proofs.laws.mld_messages_equated.Goals as goal

pub returns : goal.returns
returns c = Decides-mld
