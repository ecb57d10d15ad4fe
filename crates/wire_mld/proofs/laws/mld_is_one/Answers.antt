use Rattle.wire_mld.proofs.Messages.{IsMld-one}
use Rattle.wire_mld.proofs.laws.mld_is_one.Goals as goal

pub returns : goal.returns
returns c = IsMld-one
