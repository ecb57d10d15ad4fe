-- What a socket keeps of the packet that it offers, which takes the first queued datagram.
use Rattle.std.specs.Prelude.{◌≡◌, ℕ, List, Option, None, Some}
use Rattle.net_base.specs.Packets.{Packets, unpadded, first}
use Rattle.socket_context.specs.Packet.{PacketValue}

module _ {H K : Type 0} where
  abbrev pub IsHeldFirst : (K → H × List ℕ → Type 0) → K → Option (H × List ℕ) → Type 0
  IsHeldFirst IsHeldIn k None = ⊥
  IsHeldFirst IsHeldIn k (Some q) = IsHeldIn k q

  -- of a queue whose first datagram is offered: it is there, with no padding before it
  abbrev pub AreHeld : (K → H × List ℕ → Type 0) → Option K → Packets H → Type 0
  AreHeld IsHeldIn None queue = Unit {0}
  AreHeld IsHeldIn (Some k) queue = (unpadded queue ≡ queue) × IsHeldFirst IsHeldIn k (first queue)

  -- the packet that is offered
  abbrev pub packet_in : (K → H × List ℕ → PacketValue) → Option K → Option (H × List ℕ) → Option PacketValue
  packet_in packet None q = None
  packet_in packet (Some k) None = None
  packet_in packet (Some k) (Some q) = Some (packet k q)
