use Rattle.ip_wire.proofs.FragmentLaws.{normal-again}
use Rattle.ip_wire.proofs.ipv6_fragment.laws.ipv6_fragment_normal_again.Goals as goal

pub returns : goal.returns
returns c = normal-again
