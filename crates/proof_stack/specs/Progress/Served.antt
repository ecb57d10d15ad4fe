-- A datagram that waits for its next hop while sockets wait for others, and comes to wait at another host.
use Rattle.std.specs.Prelude.{◌≡◌, ℕ, ◌≤◌, ℤ, ◌≤ℤ◌, true, false, List, length, Some, is_some}
use Rattle.net_base.specs.Device.{Move}
use Rattle.net_base.specs.Packets.{is_full_for}
use Rattle.ip_wire.specs.EthernetAddress.{EthernetAddress}
use Rattle.ip_wire.specs.HardwareAddress.TheVariants as Hardware
use Rattle.ip_wire.specs.Ip.{destination_of}
use Rattle.ip_wire.specs.IpAddress.{IpAddress}
use Rattle.ip_wire.specs.IpAddress.TheVariants as Address
use Rattle.ip_wire.specs.Ipv4Address.{Ipv4Address}
use Rattle.wire_ip.specs.Ip.{source_of}
use Rattle.socket_datagram.specs.Udp.{UdpValue, UdpSettings}
use Rattle.socket_datagram.specs.declared.udp.UdpMetadata.{UdpMetadata}
use Rattle.iface_ingress.specs.Packet.{PacketValue}
use Rattle.iface_tables.specs.Inner.{at_instant, mtu_to, next_hop, with_request}
use Rattle.iface_tables.specs.Neighbor.{last_request}
use Rattle.iface_egress.specs.Plan.{total_len}
use Rattle.iface_egress.specs.declared.plan.Plan.TheVariants as Way
use Rattle.iface_egress.specs.declared.socket_meta.Meta.{Meta}
use Rattle.interface.specs.TransmittedFrame.{HasWidths}
use Rattle.interface.specs.Serve.{is_given_up}
use Rattle.proof_stack.specs.Progress.NeighborResolution.{HasToAsk}
use Rattle.proof_stack.specs.Progress.Delivered.{IsExpected, WaitsFollowing, as_received}
use Rattle.proof_stack.specs.Progress.Exchanged.{AreNeighbors, Exchange, IsServed, IsStillFirst}
use Rattle.proof_stack.specs.Progress.Queued.{ports_of}
use Rattle.proof_stack.specs.Progress.EgressSteps.{AsksThen, GoesFreely, OutStep, host_in}

-- A step goes freely, and before it the UDP socket at a slot has the datagram first in its queue, and waits for its destination. The next hop there,
-- this one, has to be asked for; if it was asked for, its second to answer in is over; and the packet isn't given up after the question.
pub record WaitsForHop {D : Type 0} (moves : D → Move → D → Type 0) (hops : List IpAddress) (n : ℕ) (v : UdpValue) (d : UdpMetadata × List ℕ)
    (hop : IpAddress) (p : PacketValue) (x : OutStep moves) : Type 0 where
  pub freely : GoesFreely moves hops x
  pub first : IsStillFirst x.old.slots n v d (destination_of p.header)
  pub waits : is_some first.meta.waiting ≡ true
  pub needs : HasToAsk (host_in moves x) v.settings d hop p
  pub over : (when : ℤ) → last_request x.old.host.inner.neighbors hop ≡ Some when → when ≤ℤ x.instant
  pub spared : is_given_up first.meta (with_request (host_in moves x) hop) (destination_of p.header) Way.Wait ≡ false

-- the step that an exchange begins with
abbrev pub first_of : {D E : Type 0} {from : D → Move → D → Type 0} {at : E → Move → E → Type 0} → Exchange from at → OutStep from
first_of x = record { instant = x.asked; old = x.s0; answer = x.first; new = x.s1; goes = x.asks }

-- What an exchange asks for, so that the packet gets there: the other host is the next hop, at the instant of the answer too, and the packet fits the
-- path then; the UDP socket at this slot expects the datagram, and has room for it; no device refuses anything, and question, answer and packet
-- each come next.
pub record CanDeliver {D E : Type 0} {from : D → Move → D → Type 0} {at : E → Move → E → Type 0} (x : Exchange from at)
    (own node : EthernetAddress) (a asked : Ipv4Address) (p : PacketValue) (settings : UdpSettings) (d : UdpMetadata × List ℕ) (m : ℕ) (meta : Meta)
    (w : UdpValue) : Type 0 where
  pub wide : HasWidths (at_instant x.asked x.s0.host.inner)
  pub both : AreNeighbors x.s0.host.inner x.r0.host.inner own node a asked
  pub via : next_hop (at_instant x.heard x.s0.host.inner) (destination_of p.header) ≡ Some (Address.Ipv4 asked)
  pub short : total_len p.header ≤ mtu_to (at_instant x.heard x.s0.host.inner) (destination_of p.header)
  pub expected : IsExpected (at_instant x.read x.r0.host.inner) x.r0.slots (Hardware.Ethernet node) p.header (ports_of settings d) m meta w
  pub room : is_full_for w.received (length d.1) ≡ false
  pub served : IsServed x own node a asked p

-- A step asks for the next hop; and however an exchange goes on that begins with it and can deliver the packet, after it the datagram waits at the
-- UDP socket that it is for.
pub record ArrivesFrom {D E : Type 0} (from : D → Move → D → Type 0) (at : E → Move → E → Type 0) (own node : EthernetAddress)
    (a asked : Ipv4Address) (p : PacketValue) (settings : UdpSettings) (d : UdpMetadata × List ℕ) (x : OutStep from) : Type 0 where
  pub asks : AsksThen from x (Address.Ipv4 asked)
  pub arrives : (e : Exchange from at) (m : ℕ) (meta : Meta) (w : UdpValue) → first_of e ≡ x → CanDeliver e own node a asked p settings d m meta w
      → WaitsFollowing e.r3.slots m meta w (as_received (source_of p.header) settings d)
