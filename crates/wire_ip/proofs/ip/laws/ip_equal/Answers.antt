use Rattle.wire_ip.proofs.Equal.{Decides-ip}
use Rattle.wire_ip.proofs.ip.laws.ip_equal.Goals as goal

pub returns : goal.returns
returns c = Decides-ip
