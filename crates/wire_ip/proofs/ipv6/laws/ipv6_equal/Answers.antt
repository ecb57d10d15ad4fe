use Rattle.wire_ip.proofs.Equal.{Decides-v6}
use Rattle.wire_ip.proofs.ipv6.laws.ipv6_equal.Goals as goal

pub returns : goal.returns
returns c = Decides-v6
