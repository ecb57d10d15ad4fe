use Rattle.socket_datagram.proofs.DhcpClient.OneMessage.{one_processed}
use Rattle.socket_datagram.proofs.dhcpv4.laws.one_arrival.Goals as goal

pub returns : goal.returns
returns c = one_processed
