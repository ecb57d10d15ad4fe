use Rattle.socket_datagram.proofs.DhcpClient.Turns.{silent}
use Rattle.socket_datagram.proofs.dhcpv4.laws.silence.Goals as goal

pub returns : goal.returns
returns c = silent
