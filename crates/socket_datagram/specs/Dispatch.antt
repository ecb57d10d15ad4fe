-- A packet that is offered and handed to a closure.
use Rattle.std.specs.Prelude.{◌≡◌, Some, Result, Ok, is_ok, MatchOption}
use Rattle.std.specs.Fn.{Once}
use Rattle.socket_context.specs.Packet.{PacketValue, packet_value}
use Rattle.socket_context.specs.declared.packet.Packet.{Packet}
use Rattle.socket_context.specs.declared.offer.Offer.{Offer}
use Rattle.socket_datagram.specs.SocketValue.{SocketValue, settled}

-- f was called at a packet of this value, and gave r
abbrev pub GivesAt : {F R : Type 0} → Once F (Packet × Unit {0}) R → F → PacketValue → R → Type 0
GivesAt g f value r = (p : Packet) × (packet_value p ≡ value) × g.post f (p, tt) r

module _ {H S : Type 0} where
  -- f may be called at the packet of any offer that the socket may make
  abbrev pub TakesOffered : {F R : Type 0} → Once F (Packet × Unit {0}) R → F → (Offer → SocketValue H S → Type 0) → Type 0
  TakesOffered g f Offers =
      (p : Packet) (answer : Offer) (v : SocketValue H S) → Offers answer v → v.offered ≡ Some (packet_value p) → g.pre f (p, tt)

  -- Of a socket with an offer: f was called at its packet, and the offer is settled as f answered. Of another one nothing
  -- was done.
  abbrev pub Hands : {F E : Type 0} → Once F (Packet × Unit {0}) (Result (Unit {0}) E) → F → SocketValue H S → Result (Unit {0}) E → SocketValue H S → Type 0
  Hands g f v r v' =
      MatchOption v.offered ((r ≡ Ok tt) × (v' ≡ v)) (λ value. GivesAt g f value r × (v' ≡ settled (is_ok r) v))

  -- an offer was made, and its packet handed to f
  abbrev pub Dispatches : {F E : Type 0} → Once F (Packet × Unit {0}) (Result (Unit {0}) E) → F → (Offer → SocketValue H S → Type 0) → Result (Unit {0}) E →
      SocketValue H S → Type 0
  Dispatches g f Offers r v' =
      (answer : Offer) × (between : SocketValue H S) × Offers answer between × Hands g f between r v'
