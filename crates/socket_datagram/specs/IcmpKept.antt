-- What an ICMP socket keeps of the packet that it offers: all but the bytes that the message carries, which lie in the
-- queue.
use Rattle.std.specs.Prelude.{ℕ, ◌≤◌, List, length, drop, Option, None, Some}
use Rattle.net_base.specs.Packets.{Packets}
use Rattle.wire_address.specs.declared.ip.IpAddress.{IpAddress}
use Rattle.wire_icmpv6.specs.Icmpv6 as Icmpv6
use Rattle.socket_context.specs.Packet as Carried
use Rattle.socket_context.specs.Packet.{PacketValue}
use Rattle.socket_datagram.specs.OpenOffer.{AreHeld, packet_in}
use Rattle.socket_datagram.specs.Icmp.{IsPacketFrom}
use Rattle.socket_datagram.specs.Offers.{IsOnly}
use Rattle.socket_datagram.specs.declared.icmp.Kept.{Kept}
use Rattle.socket_datagram.specs.declared.icmp.Message.{Message}
use Rattle.socket_datagram.specs.declared.icmp.Message.TheVariants as Says

-- the message with these bytes
abbrev pub payload_with : Message → List ℕ → Carried.PayloadValue
payload_with (Says.V4 message) bytes = Carried.ControlV4 message bytes
payload_with (Says.V6 message) bytes = Carried.ControlV6 (Icmpv6.value_of message) bytes

-- the packet, whose message lies in these bytes
abbrev pub packet_kept : Kept → List ℕ → PacketValue
packet_kept k bytes = Carried.packet_of k.header (payload_with k.message (drop k.start bytes))

abbrev pub CanCarry : Message → List ℕ → Type 0
CanCarry (Says.V4 message) bytes = Unit {0}
CanCarry (Says.V6 message) bytes = Icmpv6.CanCarry (Icmpv6.value_of message) bytes

-- the bytes of the message are there
abbrev pub IsHeldIn : Kept → List ℕ → Type 0
IsHeldIn k bytes = (k.start ≤ length bytes) × CanCarry k.message (drop k.start bytes)

-- the packet that is offered
abbrev pub offered_in : Option Kept → Option (IpAddress × List ℕ) → Option PacketValue
offered_in kept q = packet_in (λ k q. packet_kept k q.1) kept q

-- the first queued message holds what is kept of it
abbrev pub IsOpen : Option Kept → Packets IpAddress → Type 0
IsOpen kept queue = AreHeld (λ k q. IsHeldIn k q.1) kept queue

-- what was kept of these bytes: all of the packet that takes them from this source to this address, if there is one
abbrev pub IsKeptFrom : Option IpAddress → IpAddress → List ℕ → ℕ → Option Kept → Type 0
IsKeptFrom source remote bytes limit None =
    (p : PacketValue) → IsPacketFrom source remote bytes limit p → ⊥
IsKeptFrom source remote bytes limit (Some k) =
    IsHeldIn k bytes × IsOnly (IsPacketFrom source remote bytes limit) (packet_kept k bytes)
