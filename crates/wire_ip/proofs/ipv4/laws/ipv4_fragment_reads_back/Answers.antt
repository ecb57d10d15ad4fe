use Rattle.wire_ip.proofs.Ipv4Laws.{reads-back}
use Rattle.wire_ip.proofs.ipv4.laws.ipv4_fragment_reads_back.Goals as goal

pub returns : goal.returns
returns c = reads-back
