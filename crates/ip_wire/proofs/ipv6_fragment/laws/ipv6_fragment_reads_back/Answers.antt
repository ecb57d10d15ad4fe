use Rattle.ip_wire.proofs.FragmentLaws.{IsFragment-written}
use Rattle.ip_wire.proofs.ipv6_fragment.laws.ipv6_fragment_reads_back.Goals as goal

pub returns : goal.returns
returns c = IsFragment-written
