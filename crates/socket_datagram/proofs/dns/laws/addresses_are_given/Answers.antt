use Rattle.socket_datagram.proofs.DnsClient.Given.{given}
use Rattle.socket_datagram.proofs.dns.laws.addresses_are_given.Goals as goal

pub returns : goal.returns
returns c = given
