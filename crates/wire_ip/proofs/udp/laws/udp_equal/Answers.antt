use Rattle.wire_ip.proofs.Equal.{Decides-udp}
use Rattle.wire_ip.proofs.udp.laws.udp_equal.Goals as goal

pub returns : goal.returns
returns c = Decides-udp
