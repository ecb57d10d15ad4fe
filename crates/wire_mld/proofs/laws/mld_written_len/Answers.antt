use Rattle.wire_mld.proofs.Written.{length-message}
use Rattle.wire_mld.proofs.laws.mld_written_len.Goals as goal

pub returns : goal.returns
returns c = length-message
