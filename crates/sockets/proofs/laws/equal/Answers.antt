use Rattle.socket_datagram.proofs.Equal.{Decides-bind, Decides-icmp, Decides-metadata, Decides-recv, Decides-send}
use Rattle.sockets.proofs.laws.equal.Goals as goal

pub returns : goal.returns
returns c = record { metadata = Decides-metadata; endpoints = Decides-icmp; bind = Decides-bind; send = Decides-send; recv = Decides-recv }
