-- Two hosts on one Ethernet, on numerals, that meet what the laws of waiting datagrams ask for. At A two sockets have abc to send, the one to B, the other
-- to 192.168.1.9, which nobody has; A knows neither's host, and its first question for B is lost.
use Rattle.std.specs.Prelude.{ℕ, ◌+◌, ◌*◌, ℤ, pos, true, false, List, [], ◌∷◌, Some, None, refl}
use Rattle.net_base.specs.Medium.TheVariants as Medium
use Rattle.ip_wire.specs.EthernetAddress.{EthernetAddress}
use Rattle.ip_wire.specs.HardwareAddress.TheVariants as Hardware
use Rattle.ip_wire.specs.IpAddress.{IpAddress}
use Rattle.ip_wire.specs.IpAddress.TheVariants as Address
use Rattle.ip_wire.specs.IpProtocol.TheVariants as Protocol
use Rattle.ip_wire.specs.IpRepr.TheVariants as Ip
use Rattle.ip_wire.specs.Ipv4Address.{Ipv4Address}
use Rattle.sim_link.specs.Port.{PortValue, PortMove}
use Rattle.socket_datagram.specs.SocketValue.{settled}
use Rattle.socket_datagram.specs.Udp.{UdpValue, datagram_following, metadata_to, send_after}
use Rattle.socket_datagram.specs.declared.udp.UdpMetadata.{UdpMetadata}
use Rattle.iface_ingress.specs.Packet.{PacketValue}
use Rattle.iface_ingress.specs.Socket.{Socket}
use Rattle.iface_ingress.specs.Socket.TheVariants as Kind
use Rattle.iface_tables.specs.Inner.{at_instant, with_neighbor, with_next_ident, with_renewal, with_request}
use Rattle.iface_egress.specs.Departure.{Asks, Tells, Whole}
use Rattle.iface_egress.specs.IsTransmitted.{frame_of, numbered}
use Rattle.iface_egress.specs.Set.{unmarked}
use Rattle.iface_egress.specs.declared.frame.NeighborQuery.TheVariants as Query
use Rattle.iface_egress.specs.declared.socket_set.SocketStorage.{SocketStorage}
use Rattle.interface.specs.Egress.{EgressStep}
use Rattle.interface.specs.Host.{maintained}
use Rattle.interface.specs.Ingress.{IngressStep}
use Rattle.interface.specs.State.{State, state, at_device}
use Rattle.lan.specs.Hosts.{interface_of}
use Rattle.lan.specs.declared.at_link.history.event.Side.{Side}
use Rattle.lan.specs.declared.at_link.history.event.Side.TheVariants.{A, B}
use Rattle.proof_stack.specs.Worlds.Datagrams.{at_port, bound_b, waiting_b}
use Rattle.proof_stack.specs.Worlds.Hosts.{address, text}
use Rattle.proof_stack.specs.Progress.NeighborResolution.{arp_reply}
use Rattle.proof_stack.specs.Progress.Exchanged.{Exchange}
use Rattle.proof_stack.specs.Progress.Numerals.{host_with, longest_frame, port_following, port_with}
use Rattle.proof_stack.specs.Progress.Reached.{udp_slot}
use Rattle.proof_stack.specs.Progress.EgressSteps.{OutStep}

-- WHO IS THERE

-- 02-00-00-00-00-01 of A, 02-00-00-00-00-02 of B
abbrev pub node : Side → EthernetAddress
node A = record { 0 = 2 ∷ 0 ∷ 0 ∷ 0 ∷ 0 ∷ 1 ∷ [] }
node B = record { 0 = 2 ∷ 0 ∷ 0 ∷ 0 ∷ 0 ∷ 2 ∷ [] }

-- 192.168.1.9
abbrev pub nobodys : Ipv4Address
nobodys = record { 0 = 192 ∷ 168 ∷ 1 ∷ 9 ∷ [] }

-- WHAT IS QUEUED

abbrev pub datagram_to : Ipv4Address → UdpMetadata × List ℕ
datagram_to a = (metadata_to (record { addr = Address.Ipv4 a; port = 53 }), text)

-- a socket at a port with this datagram alone
abbrev pub socket_for : ℕ → Ipv4Address → UdpValue
socket_for port a = send_after (at_port port) (datagram_to a).0 text

abbrev pub for_b : UdpValue
for_b = socket_for 48_896 (address B)

abbrev pub for_nobody : UdpValue
for_nobody = socket_for 48_897 nobodys

-- the packet that takes the datagram of such a socket
abbrev pub packet_from : UdpValue → Ipv4Address → PacketValue
packet_from v a = datagram_following
    v.settings.endpoint
    (Ip.Ipv4 (record {
      src_addr = address A;
      dst_addr = a;
      next_header = Protocol.Udp;
      payload_len = 11;
      hop_limit = 64;
      ident = 0;
      dont_frag = false;
    }))
    (datagram_to a)

abbrev pub packet : PacketValue
packet = packet_from for_b (address B)

-- WAITING

abbrev pub second : ℕ → ℤ
second n = pos (n * 1_000_000)

-- a socket that has waited for this address from the start, and is asked again in that second
abbrev pub waits_for : Ipv4Address → ℕ → UdpValue → SocketStorage Socket
waits_for a n v = udp_slot (record { waiting = Some (record { neighbor = Address.Ipv4 a; since = pos 0; silent_until = second n }) }) v

abbrev pub both_wait : ℕ → List (SocketStorage Socket)
both_wait n = waits_for (address B) n for_b ∷ waits_for nobodys n for_nobody ∷ []

-- the question of A for this address
abbrev pub question : Ipv4Address → List ℕ
question target = frame_of (interface_of Medium.Ethernet longest_frame A).inner (Asks (Query.Arp (node A) (address A) target))

-- a host after a step of this second in which it asks for this address, and both sockets wait on
abbrev pub following_question : ℕ → Ipv4Address → ℕ → State PortValue → State PortValue
following_question n target until s = state
    (port_following s.device (question target))
    (record s.host { inner = with_request (at_instant (second n) s.host.inner) (Address.Ipv4 target) })
    (both_wait until)

-- nobody was asked for yet; then B, in vain; then .9; and B again
abbrev pub knowing_nobody : State PortValue
knowing_nobody = state
    (port_with Medium.Ethernet [])
    (interface_of Medium.Ethernet longest_frame A)
    (unmarked (Kind.Udp for_b) ∷ unmarked (Kind.Udp for_nobody) ∷ [])

abbrev pub in_vain : State PortValue
in_vain = following_question 0 (address B) 1 knowing_nobody

abbrev pub passed_over : State PortValue
passed_over = following_question 1 nobodys 2 in_vain

abbrev pub asked_again : State PortValue
asked_again = following_question 2 (address B) 3 passed_over

abbrev pub hops : List IpAddress
hops = Address.Ipv4 (address B) ∷ Address.Ipv4 nobodys ∷ []

-- the steps in which both wait, whoever shows that they are steps
pub record TwoSteps : Type 0 where
  pub first : EgressStep PortMove (second 1) in_vain None passed_over
  pub later : EgressStep PortMove (second 2) passed_over None asked_again

abbrev pub steps_of : TwoSteps → List (OutStep PortMove)
steps_of t =
    record { instant = second 1; old = in_vain; answer = None; new = passed_over; goes = t.first }
    ∷ record { instant = second 2; old = passed_over; answer = None; new = asked_again; goes = t.later }
    ∷ []

-- THE EXCHANGE, a tenth of a second for each step

abbrev pub tenth : ℕ → ℤ
tenth n = pos (2_000_000 + n * 100_000)

-- a frame comes to a host at whose port none waits
abbrev pub brought : List ℕ → State PortValue → State PortValue
brought frame s = at_device s (record s.device { link = record s.device.link { waiting = frame ∷ [] } })

-- and it takes that
abbrev pub taken : State PortValue → PortValue
taken s = record s.device { link = record s.device.link { waiting = [] } }

-- B, to which the second question comes, and the answer of B
abbrev pub asked : State PortValue
asked = host_with Medium.Ethernet B bound_b (question (address B) ∷ [])

abbrev pub answer : List ℕ
answer = frame_of asked.host.inner (Tells (arp_reply (node B) (address B) (node A) (address A)))

abbrev pub answered : State PortValue
answered = state
    (port_following (taken asked) answer)
    (record (maintained (tenth 1) asked.host) {
      inner = with_neighbor (at_instant (tenth 1) asked.host.inner) (Address.Ipv4 (address A)) (Hardware.Ethernet (node A));
    })
    asked.slots

-- A, to which the answer comes, and which sends
abbrev pub told : State PortValue
told = brought answer asked_again

abbrev pub knowing_b : State PortValue
knowing_b = state
    (taken told)
    (record (maintained (tenth 2) told.host) {
      inner = with_neighbor (at_instant (tenth 2) told.host.inner) (Address.Ipv4 (address B)) (Hardware.Ethernet (node B));
    })
    told.slots

abbrev pub frame : List ℕ
frame = frame_of knowing_b.host.inner (Whole (Hardware.Ethernet (node B)) (numbered knowing_b.host.inner packet))

abbrev pub relieved : State PortValue
relieved = state
    (port_following knowing_b.device frame)
    (record knowing_b.host { inner = with_next_ident knowing_b.host.inner })
    (unmarked (Kind.Udp (settled true (record for_b { offered = Some packet }))) ∷ waits_for nobodys 3 for_nobody ∷ [])

-- B, to which the packet comes, and which reads it
abbrev pub expecting : State PortValue
expecting = brought frame answered

abbrev pub reached : State PortValue
reached = state
    (taken expecting)
    (record (maintained (tenth 3) expecting.host) {
      inner = with_renewal (at_instant (tenth 3) expecting.host.inner) (Address.Ipv4 (address A)) (Hardware.Ethernet (node A));
    })
    (unmarked (Kind.Udp waiting_b) ∷ [])

-- the steps after the question, whoever shows that they are steps
pub record FourSteps : Type 0 where
  pub answers : IngressStep PortMove (tenth 1) asked (Some true) answered
  pub hears : IngressStep PortMove (tenth 2) told (Some true) knowing_b
  pub sends : EgressStep PortMove (tenth 2) knowing_b (Some true) relieved
  pub reads : IngressStep PortMove (tenth 3) expecting (Some true) reached

-- the exchange that begins with the second of the two steps
abbrev pub exchange_of : TwoSteps → FourSteps → Exchange PortMove PortMove
exchange_of t f = record {
  asked = second 2;
  answered = tenth 1;
  heard = tenth 2;
  read = tenth 3;
  s0 = passed_over;
  s1 = asked_again;
  s2 = told;
  s3 = knowing_b;
  s4 = knowing_b;
  s5 = relieved;
  r0 = asked;
  r1 = answered;
  r2 = expecting;
  r3 = reached;
  first = None;
  second = Some true;
  asks = t.later;
  answers = f.answers;
  waits = refl;
  hears = f.hears;
  looks = refl;
  sends = f.sends;
  rests = refl;
  reads = f.reads;
}
