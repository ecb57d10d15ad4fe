use Rattle.socket_datagram.proofs.DnsClient.Turned.{offers_kept, settled_kept}
use Rattle.socket_datagram.proofs.dns.laws.offers_give_no_addresses.Goals as goal

pub returns : goal.returns
returns c = record { offered = offers_kept; settled = settled_kept }
