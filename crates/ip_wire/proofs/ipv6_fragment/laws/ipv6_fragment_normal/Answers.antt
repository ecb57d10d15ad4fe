use Rattle.ip_wire.proofs.FragmentLaws.{read}
use Rattle.ip_wire.proofs.ipv6_fragment.laws.ipv6_fragment_normal.Goals as goal

pub returns : goal.returns
returns c = read
