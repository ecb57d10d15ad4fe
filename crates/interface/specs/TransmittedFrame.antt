-- A departure that the device took, and another host of the same medium that reads its frame.
use Rattle.std.specs.Prelude.{◌≡◌, ℕ, ◌+◌, ◌%◌, ◌^◌, ◌<◌, ◌≤◌, List, ◌++◌, length, Some}
use Rattle.net_base.specs.ChecksumCapabilities.{ChecksumCapabilities}
use Rattle.net_base.specs.Device.{Move, Emitted}
use Rattle.iface_ingress.specs.HardwareAddress.{HardwareAddress}
use Rattle.wire_ip.specs.Ip as Ips
use Rattle.socket_context.specs.Packet.{PacketValue, payload_written}
use Rattle.socket_context.specs.Widths.{IsPayload}
use Rattle.iface_egress.specs.Inner.{InnerValue}
use Rattle.iface_ingress.specs.Incoming.{IsContent}
use Rattle.iface_ingress.specs.Upper.{IsBrought}
use Rattle.iface_ingress.specs.Sent.{AreSealed, normal_payload}
use Rattle.iface_egress.specs.Departure.{Departure, fragment_header_len}
use Rattle.iface_egress.specs.Fragments.{LeftValue}
use Rattle.iface_egress.specs.IsTransmitted.{frame_of}
use Rattle.iface_egress.specs.Plan.{IsPacket}
use Rattle.interface.specs.Delivered.{AreOfOneMedium, IsCutValue, read_of}

-- a host that may read what another one sends: its hardware address, and the checksums that it tests
pub record Reader : Type 0 where
  pub hardware : HardwareAddress
  pub checksums : ChecksumCapabilities

-- it is on the medium of the sender and of the frame's receiver, and tests no checksum that the sender leaves out
pub record CanRead (i : InnerValue) (to : HardwareAddress) (reader : Reader) : Type 0 where
  pub medium : AreOfOneMedium i.hardware to reader.hardware
  pub sealed : AreSealed i.checksums reader.checksums

-- what the frame of the departure is read as, whatever padding follows
abbrev pub IsRead : InnerValue → Departure → Reader → Type 0
IsRead i d reader = (padding : List ℕ)
    → IsContent reader.hardware reader.checksums (frame_of i d ++ padding) (Some (read_of i d))

-- the device took the frame, and the reader reads it
pub record Arrives {D : Type 0} (moves : D → Move → D → Type 0) (old : D) (i : InnerValue) (d : Departure) (reader : Reader) (new : D) : Type 0 where
  pub taken : moves old (Emitted (frame_of i d)) new
  pub read : IsRead i d reader

-- after the packet's header the reader finds what was sent there, in its canonical form
abbrev pub IsCarriedTo : InnerValue → PacketValue → Reader → Type 0
IsCarriedTo i p reader = IsBrought
    reader.checksums
    (Ips.normal p.header)
    (payload_written i.checksums p.header p.payload)
    (Some (normal_payload p.payload))

-- a host whose numbers are of their widths
pub record HasWidths (i : InnerValue) : Type 0 where
  pub mtu : i.mtu ≤ 65535
  pub ident : i.ident < 2 ^ 16

-- a packet that is offered: its header says its length, and its fields are numbers of their widths
pub record IsOffered (p : PacketValue) : Type 0 where
  pub packet : IsPacket p
  pub header : Ips.IsValue p.header
  pub payload : IsPayload p.payload

-- a datagram that is half sent, up to a whole unit of 8 bytes, and whose header is one
pub record IsHalfSent (l : LeftValue) : Type 0 where
  pub header_is : IsCutValue l.header
  pub short : fragment_header_len l.header + length l.payload < 2 ^ 16
  pub within : l.at ≤ length l.payload
  pub unit : l.at % 8 ≡ 0
