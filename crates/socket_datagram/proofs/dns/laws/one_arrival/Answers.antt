use Rattle.socket_datagram.proofs.DnsClient.OneVerdict.{one_processed}
use Rattle.socket_datagram.proofs.dns.laws.one_arrival.Goals as goal

pub returns : goal.returns
returns c = one_processed
