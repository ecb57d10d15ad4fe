-- A segment that is offered and handed to a closure.
use Rattle.std.specs.Prelude.{◌≡◌, Some, Result, Ok, is_ok, MatchOption}
use Rattle.std.specs.Fn.{Once}
use Rattle.socket_context.specs.Packet.{PacketValue, packet_value}
use Rattle.socket_context.specs.declared.packet.Packet.{Packet}
use Rattle.tcp_block.specs.Offers.{offered_packet}
use Rattle.tcp_block.specs.Settled.{settled}
use Rattle.tcp_block.specs.Value.{TcpValue}

-- f was called at a packet of this value, and gave r
abbrev pub GivesAt : {F R : Type 0} → Once F (Packet × Unit {0}) R → F → PacketValue → R → Type 0
GivesAt g f value r = (p : Packet) × (packet_value p ≡ value) × g.post f (p, tt) r

-- f may be called at the packet that this socket offers
abbrev pub TakesOffered : {F R : Type 0} → Once F (Packet × Unit {0}) R → F → TcpValue → Type 0
TakesOffered g f v = (p : Packet) → offered_packet v ≡ Some (packet_value p) → g.pre f (p, tt)

-- Of a socket with an offer: f was called at its packet, and the offer is settled as f answered. Of another one nothing was done.
abbrev pub Hands : {F E : Type 0} → Once F (Packet × Unit {0}) (Result (Unit {0}) E) → F → TcpValue → Result (Unit {0}) E → TcpValue → Type 0
Hands g f v r v' =
    MatchOption (offered_packet v) ((r ≡ Ok tt) × (v' ≡ v)) (λ value. GivesAt g f value r × (v' ≡ settled (is_ok r) v))
