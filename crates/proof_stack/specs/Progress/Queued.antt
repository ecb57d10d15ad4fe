-- A datagram that is queued at a UDP socket, and can go.
use Rattle.std.specs.Prelude.{◌≡◌, ℕ, ◌^◌, ◌<◌, ◌≤◌, ◌⊎◌, Bool, true, false, List, [], ◌∷◌, slice_get, drop, Option, Some}
use Rattle.std.specs.List.{list_any}
use Rattle.net_base.specs.Device.{Move, Emitted}
use Rattle.net_base.specs.Packets.{contents}
use Rattle.ip_wire.specs.HardwareAddress.{HardwareAddress}
use Rattle.ip_wire.specs.Ip.{destination_of}
use Rattle.socket_datagram.specs.Udp.{UdpValue, UdpSettings, TakesDatagram}
use Rattle.socket_datagram.specs.declared.udp.UdpMetadata.{UdpMetadata}
use Rattle.wire_ip.specs.Ip as Ips
use Rattle.wire_ip.specs.declared.udp.repr.UdpRepr.{UdpRepr}
use Rattle.interface.specs.TransmittedFrame.{Reader}
use Rattle.iface_ingress.specs.Packet.{PacketValue, Datagram, payload_written}
use Rattle.iface_ingress.specs.Socket.{Socket}
use Rattle.iface_ingress.specs.Socket.TheVariants as Kind
use Rattle.iface_ingress.specs.Upper.{IsBrought}
use Rattle.iface_ingress.specs.WellFormed.{IsWellFormed}
use Rattle.iface_tables.specs.Inner.{InnerValue, context_of, link_address, mtu_to}
use Rattle.iface_tables.specs.declared.link.LinkAddress.TheVariants as Link
use Rattle.iface_egress.specs.Departure.{Whole}
use Rattle.iface_egress.specs.Fragments.{LeftValue, departure_from, left_from}
use Rattle.iface_egress.specs.IsTransmitted.{frame_of, numbered}
use Rattle.iface_egress.specs.Plan.{never_leaves, total_len}
use Rattle.iface_egress.specs.Set.{unmarked}
use Rattle.iface_egress.specs.declared.socket_meta.Meta.{Meta}
use Rattle.iface_egress.specs.declared.socket_set.SocketStorage.{SocketStorage}
use Rattle.interface.specs.Serve.{is_waiting}
use Rattle.proof_stack.specs.Progress.Moves.{AreMoves, is_refused}

-- This packet takes a datagram of a socket with these settings; it may leave the host, which knows that the frame goes to this hardware
-- address; and it fits one frame, and the path to its destination.
pub record CanGo (i : InnerValue) (settings : UdpSettings) (d : UdpMetadata × List ℕ) (to : HardwareAddress) (p : PacketValue) : Type 0 where
  pub takes : TakesDatagram (context_of i) settings d p
  pub may : never_leaves i p.header ≡ false
  pub known : link_address i (destination_of p.header) ≡ Link.Known to
  pub short : total_len p.header ≤ mtu_to i (destination_of p.header)

-- some packet takes it so
abbrev pub HasWay : InnerValue → UdpSettings → UdpMetadata × List ℕ → Type 0
HasWay i settings d = (to : HardwareAddress) × (p : PacketValue) × CanGo i settings d to p

-- the UDP socket at a slot, which waits for no neighbour at the host's instant
pub record HasTurn (i : InnerValue) (slots : List (SocketStorage Socket)) (n : ℕ) (v : UdpValue) : Type 0 where
  pub meta : Meta
  pub stands : slice_get slots n ≡ Some (record { inner = Some (record { meta = meta; socket = Kind.Udp v }) })
  pub ready : is_waiting i meta ≡ false

-- THE FRAME

abbrev pub Sends : List ℕ → List Move → Type 0
Sends frame [] = ⊥
Sends frame (m ∷ more) = (m ≡ Emitted frame) ⊎ Sends frame more

-- the host whose next identification is this one
abbrev pub with_ident : InnerValue → ℕ → InnerValue
with_ident i ident = record i { ident = ident }

-- the frame of a packet that goes from a host to this hardware address under this identification
abbrev pub frame_under : InnerValue → ℕ → HardwareAddress → PacketValue → List ℕ
frame_under i ident to p = frame_of (with_ident i ident) (Whole to (numbered (with_ident i ident) p))

-- among the moves the packet went, under whatever identification
abbrev pub SendsPacket : InnerValue → HardwareAddress → PacketValue → List Move → Type 0
SendsPacket i to p all = (ident : ℕ) × Sends (frame_under i ident to p) all

-- WHAT BECOMES OF IT

-- The packet went, under an identification of 16 bits where the host had one, and the socket, which waits for nobody, has the datagrams after it
-- in its queue; the step says that something changed.
pub record WentFrom (i : InnerValue) (n : ℕ) (v : UdpValue) (to : HardwareAddress) (p : PacketValue) (all : List Move) (answer : Option Bool)
    (slots : List (SocketStorage Socket)) : Type 0 where
  pub sent : SendsPacket i to p all
  pub wide : i.ident < 2 ^ 16 → sent.0 < 2 ^ 16
  pub formed : IsWellFormed p
  pub new : UdpValue
  pub stands : slice_get slots n ≡ Some (unmarked (Kind.Udp new))
  pub settings : new.settings ≡ v.settings
  pub rest : contents new.queued ≡ drop 1 (contents v.queued)
  pub told : answer ≡ Some true

-- of a step of the egress path: it went, or the device refused
pub record GoesAtOnce {D : Type 0} (moves : D → Move → D → Type 0) (i : InnerValue) (n : ℕ) (v : UdpValue) (to : HardwareAddress) (p : PacketValue)
    (old new : D) (answer : Option Bool) (slots : List (SocketStorage Socket)) : Type 0 where
  pub all : List Move
  pub are : AreMoves moves all old new
  pub what : (list_any is_refused all ≡ true) ⊎ WentFrom i n v to p all answer slots

-- a packet that can be sent went, under an identification of 16 bits where the host had one
pub record WentOut (i : InnerValue) (to : HardwareAddress) (p : PacketValue) (all : List Move) : Type 0 where
  pub sent : SendsPacket i to p all
  pub wide : i.ident < 2 ^ 16 → sent.0 < 2 ^ 16
  pub formed : IsWellFormed p

-- of a poll: it went, or the device refused
pub record GoesInTurn {D : Type 0} (moves : D → Move → D → Type 0) (i : InnerValue) (to : HardwareAddress) (p : PacketValue) (old new : D) : Type 0 where
  pub all : List Move
  pub are : AreMoves moves all old new
  pub what : (list_any is_refused all ≡ true) ⊎ WentOut i to p all

-- WHAT IS READ

-- the ports that the datagram goes from and to
abbrev pub ports_of : UdpSettings → UdpMetadata × List ℕ → UdpRepr
ports_of settings d = record { src_port = settings.endpoint.port; dst_port = d.0.endpoint.port }

-- after the packet's header, in its canonical form, a reader finds the datagram: these ports, and the bytes that were queued
abbrev pub FindsDatagram : InnerValue → UdpSettings → UdpMetadata × List ℕ → PacketValue → Reader → Type 0
FindsDatagram i settings d p reader =
    IsBrought reader.checksums (Ips.normal p.header) (payload_written i.checksums p.header p.payload) (Some (Datagram (ports_of settings d) d.1))

-- A DATAGRAM THAT IS HALF SENT

-- Of a step of the egress path: the next fragment went, and what is left after it waits, if something is; or the device refused.
pub record FragmentWent {D : Type 0} (moves : D → Move → D → Type 0) (i : InnerValue) (l : LeftValue) (old new : D) (left : Option LeftValue) : Type 0 where
  pub all : List Move
  pub are : AreMoves moves all old new
  pub what : (list_any is_refused all ≡ true)
      ⊎ (Sends (frame_of i (departure_from i l)) all × ((rest : LeftValue) → left_from i l ≡ Some rest → left ≡ Some rest))
