use Rattle.socket_datagram.proofs.DhcpClient.Ends.{told_at_end}
use Rattle.socket_datagram.proofs.DhcpClient.Turns.{offers_end}
use Rattle.socket_datagram.proofs.dhcpv4.laws.leases_end.Goals as goal

pub returns : goal.returns
returns c = record { offered = offers_end; told = told_at_end }
