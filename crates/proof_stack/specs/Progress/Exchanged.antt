-- A datagram to a neighbour that isn't known, over IPv4 on Ethernet (RFC 826): the neighbour is asked for, answers, and gets the datagram.
use Rattle.std.specs.Prelude.{◌≡◌, ◌⊎◌, ℕ, ℤ, true, Bool, List, ◌∷◌, ◌++◌, slice_get, Option, Some, None}
use Rattle.std.specs.List.{list_any}
use Rattle.net_base.specs.Device.{Move}
use Rattle.net_base.specs.Packets.{contents}
use Rattle.ip_wire.specs.Address.{IsEthernetAddress, IsIpv4Address}
use Rattle.ip_wire.specs.EthernetAddress.{EthernetAddress}
use Rattle.ip_wire.specs.HardwareAddress.TheVariants as Hardware
use Rattle.ip_wire.specs.IpAddress.{IpAddress}
use Rattle.ip_wire.specs.IpAddress.TheVariants as Address
use Rattle.ip_wire.specs.Ipv4Address.{Ipv4Address}
use Rattle.socket_datagram.specs.Udp.{UdpValue}
use Rattle.socket_datagram.specs.declared.udp.UdpMetadata.{UdpMetadata}
use Rattle.iface_ingress.specs.Packet.{PacketValue}
use Rattle.iface_ingress.specs.Sent.{AreSealed}
use Rattle.iface_ingress.specs.Socket.{Socket}
use Rattle.iface_tables.specs.Inner.{InnerValue, at_instant, is_local}
use Rattle.iface_tables.specs.Source.{source_v4}
use Rattle.iface_egress.specs.Departure as Departures
use Rattle.iface_egress.specs.Departure.{Asks, target_of}
use Rattle.iface_egress.specs.IsTransmitted.{frame_of}
use Rattle.iface_egress.specs.declared.frame.NeighborQuery.{NeighborQuery}
use Rattle.iface_egress.specs.declared.frame.NeighborQuery.TheVariants as Query
use Rattle.iface_egress.specs.declared.socket_meta.Meta.{Meta}
use Rattle.iface_egress.specs.declared.socket_meta.Waiting.{Waiting}
use Rattle.iface_egress.specs.declared.socket_set.SocketStorage.{SocketStorage}
use Rattle.interface.specs.Egress.{EgressStep}
use Rattle.interface.specs.Ingress.{IngressStep}
use Rattle.interface.specs.State.{State, at_device}
use Rattle.proof_stack.specs.Progress.NeighborResolution.{IsFrom, IsNext, IsNeighbor, arp_reply}
use Rattle.proof_stack.specs.Progress.Delivered.{Brings, RefusesNothing}
use Rattle.proof_stack.specs.Progress.Moves.{AreMoves, is_refused}
use Rattle.proof_stack.specs.Progress.Queued.{Sends}
use Rattle.proof_stack.specs.Progress.Reached.{udp_slot}

-- THE STEPS

-- The one host asks; the other reads the question and answers; the one reads the answer and, at that instant, sends; and the other reads what was
-- sent. Between its steps a host stays as it is while frames come and go at its device.
pub record Exchange {D E : Type 0} (from : D → Move → D → Type 0) (at : E → Move → E → Type 0) : Type 0 where
  pub asked : ℤ
  pub answered : ℤ
  pub heard : ℤ
  pub read : ℤ
  pub s0 : State D
  pub s1 : State D
  pub s2 : State D
  pub s3 : State D
  pub s4 : State D
  pub s5 : State D
  pub r0 : State E
  pub r1 : State E
  pub r2 : State E
  pub r3 : State E
  pub first : Option Bool
  pub second : Option Bool
  pub asks : EgressStep from asked s0 first s1
  pub answers : IngressStep at answered r0 (Some true) r1
  pub waits : s2 ≡ at_device s1 s2.device
  pub hears : IngressStep from heard s2 (Some true) s3
  pub looks : s4 ≡ at_device s3 s4.device
  pub sends : EgressStep from heard s4 second s5
  pub rests : r2 ≡ at_device r1 r2.device
  pub reads : IngressStep at read r2 (Some true) r3

-- THE LINK

-- it brings a frame: where that went as the one device moved, it comes next at the other one, with whatever padding
abbrev pub BringsFrame : {D E : Type 0} → (D → Move → D → Type 0) → (E → Move → E → Type 0) → List ℕ → D → D → ℤ → E → Type 0
BringsFrame {D} {E} from at frame old new t device =
    (all : List Move) → AreMoves from all old new → Sends frame all → (padding : List ℕ) × IsNext at t device (frame ++ padding)

-- No device refuses anything; and question, answer and packet each come next at the other device.
pub record IsServed {D E : Type 0} {from : D → Move → D → Type 0} {at : E → Move → E → Type 0} (x : Exchange from at)
    (own node : EthernetAddress) (a asked : Ipv4Address) (p : PacketValue) : Type 0 where
  pub asks_freely : RefusesNothing from x.s0.device x.s1.device
  pub answers_freely : RefusesNothing at x.r0.device x.r1.device
  pub sends_freely : RefusesNothing from x.s4.device x.s5.device
  pub question_comes : BringsFrame from at (frame_of (at_instant x.asked x.s0.host.inner) (Asks (Query.Arp own a asked))) x.s0.device x.s1.device x.answered
      x.r0.device
  pub answer_arrives : BringsFrame at from (frame_of x.r0.host.inner (Departures.Tells (arp_reply node asked own a))) x.r0.device x.r1.device x.heard
      x.s2.device
  pub packet_comes : Brings from at (at_instant x.heard x.s4.host.inner) (Hardware.Ethernet node) p x.s4.device x.s5.device x.read x.r2.device

-- THE HOSTS

-- Two hosts on one Ethernet, with their hosts and addresses: each one's address is one host's, in a network of the other; the one asks from its
-- address; and neither tests a checksum that the other leaves out.
pub record AreNeighbors (i j : InnerValue) (own node : EthernetAddress) (a asked : Ipv4Address) : Type 0 where
  pub here : i.hardware ≡ Hardware.Ethernet own
  pub there : j.hardware ≡ Hardware.Ethernet node
  pub source : source_v4 i.addresses asked ≡ Some a
  pub ours : is_local i (Address.Ipv4 a) ≡ true
  pub theirs : is_local j (Address.Ipv4 asked) ≡ true
  pub seen : IsNeighbor i node asked
  pub sees : IsNeighbor j own a
  pub own_is : IsEthernetAddress own
  pub node_is : IsEthernetAddress node
  pub a_is : IsIpv4Address a
  pub asked_is : IsIpv4Address asked
  pub sealed_there : AreSealed i.checksums j.checksums
  pub sealed_here : AreSealed j.checksums i.checksums

-- THE DATAGRAM MEANWHILE

-- among the moves a question of the host for this hop went
pub record AsksFor (i : InnerValue) (hop : IpAddress) (all : List Move) : Type 0 where
  pub question : NeighborQuery
  pub from : IsFrom i.hardware i.addresses question
  pub sent : Sends (frame_of i (Asks question)) all
  pub whom : target_of question ≡ hop

-- a mark for this destination, or none
abbrev pub IsMarkFor : Option Waiting → IpAddress → Type 0
IsMarkFor None to = Unit {0}
IsMarkFor (Some w) to = w.neighbor ≡ to

-- the UDP socket at a slot has the datagram first in its queue, and waits for its destination or for nobody
pub record IsStillFirst (slots : List (SocketStorage Socket)) (n : ℕ) (v : UdpValue) (d : UdpMetadata × List ℕ) (to : IpAddress) : Type 0 where
  pub meta : Meta
  pub value : UdpValue
  pub more : List (UdpMetadata × List ℕ)
  pub stands : slice_get slots n ≡ Some (udp_slot meta value)
  pub settings : value.settings ≡ v.settings
  pub first : contents value.queued ≡ d ∷ more
  pub mark : IsMarkFor meta.waiting to

-- of a step of the egress path: a question for this hop went, and the socket still has the datagram first; or the device refused
pub record AsksForIt {D : Type 0} (moves : D → Move → D → Type 0) (i : InnerValue) (hop to : IpAddress) (n : ℕ) (v : UdpValue)
    (d : UdpMetadata × List ℕ) (old new : D) (slots : List (SocketStorage Socket)) : Type 0 where
  pub all : List Move
  pub are : AreMoves moves all old new
  pub what : (list_any is_refused all ≡ true) ⊎ (AsksFor i hop all × IsStillFirst slots n v d to)
