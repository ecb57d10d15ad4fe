use Rattle.socket_datagram.proofs.DhcpClient.Given.{given}
use Rattle.socket_datagram.proofs.dhcpv4.laws.leases_are_given.Goals as goal

pub returns : goal.returns
returns c = given
