use Rattle.ip_wire.proofs.FragmentLaws.{bytes-spelling}
use Rattle.ip_wire.proofs.ipv6_fragment.laws.ipv6_fragment_spelled.Goals as goal

pub returns : goal.returns
returns c = bytes-spelling
