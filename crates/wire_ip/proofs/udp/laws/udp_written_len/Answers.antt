use Rattle.wire_ip.proofs.Lengths.{length-datagram}
use Rattle.wire_ip.proofs.udp.laws.udp_written_len.Goals as goal

pub returns : goal.returns
returns c = length-datagram
