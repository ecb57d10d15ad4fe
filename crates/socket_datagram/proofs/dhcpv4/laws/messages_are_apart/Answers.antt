use Rattle.socket_datagram.proofs.DhcpClient.Apart.{apart}
use Rattle.socket_datagram.proofs.dhcpv4.laws.messages_are_apart.Goals as goal

pub returns : goal.returns
returns c = apart
