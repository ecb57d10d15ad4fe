use Rattle.wire_igmp.proofs.Written.{length-message}
use Rattle.wire_igmp.proofs.laws.igmp_written_len.Goals as goal

pub returns : goal.returns
returns c = length-message
