use Rattle.wire_mld.proofs.Written.{IsMld-written, carried-written}
use Rattle.wire_mld.proofs.laws.mld_reads_back.Goals as goal

pub returns : goal.returns
returns c = record { message = IsMld-written; carried = carried-written }
