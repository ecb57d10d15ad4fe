use Rattle.socket_datagram.proofs.DhcpClient.Ends.{told_lasts}
use Rattle.socket_datagram.proofs.dhcpv4.laws.told_leases_last.Goals as goal

pub returns : goal.returns
returns c = told_lasts
