use Rattle.socket_datagram.proofs.DhcpClient.Turns.{offers_kept, settled_kept}
use Rattle.socket_datagram.proofs.dhcpv4.laws.offers_give_no_lease.Goals as goal

pub returns : goal.returns
returns c = record { offered = offers_kept; settled = settled_kept }
