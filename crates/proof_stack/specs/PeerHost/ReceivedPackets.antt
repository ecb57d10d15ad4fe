-- The packets that a host takes out of frames.
use Rattle.std.specs.Prelude.{◌≡◌, ℕ, ℤ, true, List, Option, None, Some}
use Rattle.net_base.specs.Device.{Move, Took}
use Rattle.net_base.specs.ChecksumCapabilities.{ChecksumCapabilities}
use Rattle.ip_wire.specs.Ip.{destination_of}
use Rattle.ip_wire.specs.IpRepr.{IpRepr}
use Rattle.ip_wire.specs.IpRepr.TheVariants as Ip
use Rattle.ip_wire.specs.TcpHeader.{TcpHeader}
use Rattle.ip_wire.specs.UdpRepr.{UdpRepr}
use Rattle.interface.specs.Inner.{is_for_us}
use Rattle.iface_ingress.specs.Arrives.{whole_arrived}
use Rattle.iface_ingress.specs.UpperLayer.{IsDatagram, IsSegment}
use Rattle.iface_ingress.specs.Incoming.{IncomingValue, Arp, Ip4, Ip6, IsContent}
use Rattle.iface_ingress.specs.Upper.{upper_header, upper_payload}
use Rattle.interface.specs.State.{State}
use Rattle.lan.specs.Worlds.PollSteps.{Reaches}

-- the content is this packet
abbrev pub IsPacket : Option IncomingValue → IpRepr → List ℕ → Type 0
IsPacket (Some (Ip4 link header fragment payload)) ip bytes = (ip ≡ Ip.Ipv4 header) × (bytes ≡ payload)
IsPacket (Some (Ip6 link header payload)) ip bytes = (ip ≡ Ip.Ipv6 header) × (bytes ≡ payload)
IsPacket (Some (Arp link packet)) ip bytes = ⊥
IsPacket None ip bytes = ⊥

-- what is whole after a frame's content, as the host takes it: the packet in the frame, or the datagram whose last missing fragment it is
abbrev pub whole_in : {D : Type 0} → State D → Option IncomingValue → Option IncomingValue
whole_in s content = whole_arrived s.host.inner s.host.timeout s.host.assemblers content

module _ {D : Type 0} (moves : D → Move → D → Type 0) (instant : ℤ) (from : State D) where
  -- A poll that began here took a frame from its device, and with it this packet was whole, which is for the host.
  pub record WasBrought (ip : IpRepr) (payload : List ℕ) : Type 0 where
    pub host : State D
    pub reached : Reaches moves instant from host
    pub frame : List ℕ
    pub after : D
    pub took : moves host.device (Took host.host.inner.instant frame) after
    pub content : Option IncomingValue
    pub reads : IsContent host.host.inner.hardware host.host.inner.checksums frame content
    pub brings : IsPacket (whole_in host content) ip payload
    pub ours : is_for_us host.host.inner (destination_of ip) ≡ true

  -- the same of a host that tests these checksums
  abbrev pub Came : ChecksumCapabilities → IpRepr → List ℕ → Type 0
  Came caps ip payload = (b : WasBrought ip payload) × (b.host.host.inner.checksums ≡ caps)

  -- a TCP segment in such a packet, after its extension headers; its checksum is right where the host tests it
  pub record SegmentArrived (ip : IpRepr) (header : TcpHeader) (bytes : List ℕ) : Type 0 where
    pub caps : ChecksumCapabilities
    pub payload : List ℕ
    pub came : Came caps ip payload
    pub carries : IsSegment caps (upper_header ip payload) (upper_payload ip payload) header bytes

  -- and a UDP datagram
  pub record DatagramArrived (ip : IpRepr) (udp : UdpRepr) (bytes : List ℕ) : Type 0 where
    pub caps : ChecksumCapabilities
    pub payload : List ℕ
    pub came : Came caps ip payload
    pub carries : IsDatagram caps (upper_header ip payload) (upper_payload ip payload) udp bytes
