use Rattle.socket_datagram.proofs.DnsClient.Denied.{offers_fail, arrivals_fail}
use Rattle.socket_datagram.proofs.dns.laws.failures_are_given.Goals as goal

pub returns : goal.returns
returns c = record { arrived = arrivals_fail; offered = offers_fail }
