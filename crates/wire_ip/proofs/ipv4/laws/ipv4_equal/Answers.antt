use Rattle.wire_ip.proofs.Equal.{Decides-v4, Decides-fragment}
use Rattle.wire_ip.proofs.ipv4.laws.ipv4_equal.Goals as goal

pub returns-clause-header : goal.returns-clause-header
returns-clause-header c = Decides-v4

pub returns-clause-fragment : goal.returns-clause-fragment
returns-clause-fragment c = Decides-fragment
