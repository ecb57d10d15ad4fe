use Rattle.wire_ip.proofs.Lengths.{length-header}
use Rattle.wire_ip.proofs.ip.laws.ip_written_len.Goals as goal

pub returns : goal.returns
returns c = length-header
