use Rattle.socket_datagram.specs.Raw.{TakesPacket}
use Rattle.socket_datagram.proofs.OfferLaws.{unchanged}
use Rattle.socket_datagram.proofs.raw.unchanged.Goals as goal

pub returns : goal.returns
returns c = λ cx v v' answer offers is. unchanged TakesPacket v v' answer offers is
