use Rattle.wire_mld.proofs.Messages.{bytes-spelling}
use Rattle.wire_mld.proofs.laws.mld_spelled.Goals as goal

pub returns : goal.returns
returns c = bytes-spelling
