-- A raw socket as a value, and what its calls answer and leave.
use Rattle.std.specs.Prelude.{◌≡◌, ℕ, ◌+◌, ◌^◌, ◌==◌, nat_lt, ◌&&◌, Bool, true, false, if◌then◌else◌, List, ◌++◌, length, Option, None, Some, Result, Ok, Err}
use Rattle.net_base.specs.Packets.{Packets, is_full_for}
use Rattle.wire_address.specs.declared.ip.IpProtocol.{IpProtocol}
use Rattle.wire_address.specs.declared.ip.IpVersion.{IpVersion}
use Rattle.wire_ip.specs.declared.ip.repr.IpRepr.{IpRepr}
use Rattle.wire_ip.specs.declared.ip.repr.IpRepr.TheVariants as Either
use Rattle.wire_ip.specs.Ip as Ip
use Rattle.wire_ip.specs.Ipv4 as Ipv4
use Rattle.wire_ip.specs.Ipv6 as Ipv6
use Rattle.socket_context.specs.Addresses.{is_unspecified}
use Rattle.socket_context.specs.Context.{ContextValue}
use Rattle.socket_context.specs.Packet as Carried
use Rattle.socket_context.specs.Packet.{PacketValue}
use Rattle.socket_context.specs.declared.offer.Offer.{Offer}
use Rattle.socket_datagram.specs.OpenOffer.{AreHeld, packet_in}
use Rattle.socket_datagram.specs.Offers.{IsFound, OffersBy}
use Rattle.socket_datagram.specs.Same.{is_version, is_protocol}
use Rattle.socket_datagram.specs.SocketValue.{SocketValue, initial, settled, sent_after, arrived, recv_answer}
use Rattle.socket_datagram.specs.declared.raw.SendError.{SendError}
use Rattle.socket_datagram.specs.declared.raw.SendError.TheVariants as Send
use Rattle.socket_datagram.specs.declared.error.RecvError.{RecvError}

-- the family and the protocol that the socket is for (none: all of them)
pub record RawFilters : Type 0 where
  pub version : Option IpVersion
  pub protocol : Option IpProtocol

-- the queues hold whole IP packets, with no header alongside them
abbrev pub RawValue : Type 0
RawValue = SocketValue (Unit {0}) RawFilters

abbrev pub filters : Option IpVersion → Option IpProtocol → RawFilters
filters version protocol = record { version = version; protocol = protocol }

-- SEND

abbrev pub send_answer : RawValue → ℕ → Result (Unit {0}) SendError
send_answer v size = if is_full_for v.queued size then Err Send.BufferFull else Ok tt

abbrev pub send_after : RawValue → List ℕ → RawValue
send_after v bytes = sent_after (send_answer v (length bytes)) v tt bytes

-- RECV

-- the count alone
abbrev pub counted : {E : Type 0} → Result (ℕ × Unit {0}) E → Result ℕ E
counted (Ok p) = Ok p.0
counted (Err e) = Err e

-- ARRIVAL

abbrev pub passes_version : Option IpVersion → IpRepr → Bool
passes_version None header = true
passes_version (Some version) header = is_version version (Ip.version_in header)

abbrev pub passes_protocol : Option IpProtocol → IpRepr → Bool
passes_protocol None header = true
passes_protocol (Some protocol) header = is_protocol protocol (Ip.carried_in header)

-- the packet is of the family and the protocol that are asked for
abbrev pub passes : Option IpVersion → Option IpProtocol → IpRepr → Bool
passes version protocol header = passes_version version header && passes_protocol protocol header

-- the length fits its field: over IPv4 that of header and payload, over IPv6 that of the payload
abbrev pub fits : IpRepr → Bool
fits (Either.Ipv4 header) = nat_lt (20 + header.payload_len) (2 ^ 16)
fits (Either.Ipv6 header) = nat_lt header.payload_len (2 ^ 16)

-- A packet that arrives is queued as its header, emitted again with its checksum, and its payload. It is dropped where the
-- queue is full, or where no header can say its length.
abbrev pub process_after : RawValue → IpRepr → List ℕ → RawValue
process_after v header payload =
    if fits header
    then arrived v (Ip.header_len_in header + length payload) tt (Ip.written true header ++ payload)
    else settled false v

-- OFFER

-- a socket with these filters may send a packet with this header: it passes them, and its destination is specified
abbrev pub may_send : RawFilters → IpRepr → Bool
may_send s header =
    if is_unspecified (Ip.destination_of header) then false else passes s.version s.protocol header

-- the bytes after the header of a packet in the bytes, as many as the header says
abbrev pub carried_by : IpRepr → List ℕ → List ℕ
carried_by (Either.Ipv4 header) bytes = Ipv4.payload_of bytes
carried_by (Either.Ipv6 header) bytes = Ipv6.payload_of bytes

abbrev pub bytes_following : IpRepr → Unit {0} × List ℕ → PacketValue
bytes_following header q = Carried.packet_of header (Carried.Bytes (carried_by header q.1))

-- the packet is the queued one, whose checksum isn't tested, and may be sent
pub record TakesPacket (s : RawFilters) (q : Unit {0} × List ℕ) (p : PacketValue) : Type 0 where
  pub read : Ip.IsIp false q.1 p.header
  pub may_send : may_send s p.header ≡ true
  pub carried : p ≡ bytes_following p.header q

-- The first queued packet is offered. One that may not be sent is dropped.
abbrev pub Offers : ContextValue → RawValue → Offer → RawValue → Type 0
Offers cx v answer v' = OffersBy TakesPacket v answer v'

-- the packet of a kept header
abbrev pub offered_in : Option IpRepr → Option (Unit {0} × List ℕ) → Option PacketValue
offered_in header q = packet_in bytes_following header q

-- a kept header is that of the first queued packet
abbrev pub IsOpen : Option IpRepr → Packets (Unit {0}) → Type 0
IsOpen header queue = AreHeld (λ h q. Ip.IsIp false q.1 h) header queue

-- the header of the packet that takes these bytes, or none where no packet can
abbrev pub IsHeaderToSend : RawFilters → List ℕ → Option IpRepr → Type 0
IsHeaderToSend s bytes header = IsFound (TakesPacket s (tt, bytes)) (offered_in header (Some (tt, bytes)))
