use Rattle.socket_datagram.proofs.DnsClient.Turned.{silent}
use Rattle.socket_datagram.proofs.dns.laws.silence.Goals as goal

pub returns : goal.returns
returns c = silent
