-- An ICMP socket as a value, and what its calls answer and leave.
use Rattle.std.specs.Prelude.{◌≡◌, ℕ, ◌+◌, ◌<◌, ◌^◌, ◌==◌, nat_lt, nat_le, not, ◌&&◌, Bool, true, false, if◌then◌else◌, List, length, Option, None, Some}
use Rattle.std.specs.Prelude.{Result, Ok, Err, is_ok}
use Rattle.net_base.specs.Packets.{Packets}
use Rattle.wire_address.specs.Fields.{be16}
use Rattle.wire_address.specs.declared.ip.IpAddress.{IpAddress}
use Rattle.wire_address.specs.declared.ip.IpAddress.TheVariants as Address
use Rattle.wire_address.specs.declared.ip.IpListenEndpoint.{IpListenEndpoint}
use Rattle.wire_address.specs.declared.ip.IpProtocol.{IpProtocol}
use Rattle.wire_address.specs.declared.ip.IpProtocol.TheVariants as Protocol
use Rattle.wire_ip.specs.declared.ipv4.repr.Ipv4Repr.{Ipv4Repr}
use Rattle.wire_ip.specs.declared.ipv6.repr.Ipv6Repr.{Ipv6Repr}
use Rattle.wire_address.specs.Protocol.{protocol_number}
use Rattle.wire_icmpv4.specs.Icmpv4 as Icmpv4
use Rattle.wire_icmpv4.specs.declared.header.Icmpv4Header.{Icmpv4Header}
use Rattle.wire_icmpv4.specs.declared.header.Icmpv4Header.TheVariants as V4
use Rattle.wire_icmpv6.specs.Icmpv6 as Icmpv6
use Rattle.socket_context.specs.Addresses.{is_unspecified, is_same_address}
use Rattle.socket_context.specs.Context.{ContextValue}
use Rattle.socket_context.specs.Packet as Carried
use Rattle.socket_context.specs.Packet.{PacketValue, payload_len}
use Rattle.socket_context.specs.declared.offer.Offer.{Offer}
use Rattle.socket_datagram.specs.Header.{header_between, hop_limit_or_default}
use Rattle.socket_datagram.specs.Offers.{OffersBy}
use Rattle.socket_datagram.specs.SocketValue.{SocketValue, initial, with_settings, settled, send_answer_to, sent_after, arrived}
use Rattle.socket_datagram.specs.declared.icmp.Endpoint.{Endpoint}
use Rattle.socket_datagram.specs.declared.icmp.Endpoint.TheVariants as Bound
use Rattle.socket_datagram.specs.declared.error.BindError.{BindError}
use Rattle.socket_datagram.specs.declared.error.BindError.TheVariants as Bind
use Rattle.socket_datagram.specs.declared.error.SendError.{SendError}

-- what the socket is bound to, and the hop limit if one was set
pub record IcmpSettings : Type 0 where
  pub endpoint : Endpoint
  pub hop_limit : Option ℕ

-- in the queues each message has the address of the other host
abbrev pub IcmpValue : Type 0
IcmpValue = SocketValue IpAddress IcmpSettings

abbrev pub made : Packets IpAddress → Packets IpAddress → IcmpValue
made received queued = initial (record { endpoint = Bound.Unspecified; hop_limit = None }) received queued

-- messages can be for it: a port is not 0
abbrev pub is_specified : Endpoint → Bool
is_specified Bound.Unspecified = false
is_specified (Bound.Ident ident) = true
is_specified (Bound.Tcp endpoint) = not (endpoint.port == 0)
is_specified (Bound.Udp endpoint) = not (endpoint.port == 0)

abbrev pub is_bound : Endpoint → Bool
is_bound Bound.Unspecified = false
is_bound (Bound.Ident ident) = true
is_bound (Bound.Tcp endpoint) = true
is_bound (Bound.Udp endpoint) = true

abbrev pub is_open : IcmpValue → Bool
is_open v = is_bound v.settings.endpoint

-- CALLS

abbrev pub with_hop_limit : IcmpValue → Option ℕ → IcmpValue
with_hop_limit v hop_limit = with_settings v (record v.settings { hop_limit = hop_limit })

abbrev pub bind_answer : IcmpValue → Endpoint → Result (Unit {0}) BindError
bind_answer v endpoint =
    if is_specified endpoint then (if is_open v then Err Bind.InvalidState else Ok tt) else Err Bind.Unaddressable

abbrev pub bind_after : IcmpValue → Endpoint → IcmpValue
bind_after v endpoint =
    with_settings v (record v.settings { endpoint = if is_ok (bind_answer v endpoint) then endpoint else v.settings.endpoint })

-- SEND

abbrev pub send_answer : IcmpValue → IpAddress → ℕ → Result (Unit {0}) SendError
send_answer v remote size = send_answer_to (is_unspecified remote) v.queued size

abbrev pub send_after : IcmpValue → IpAddress → List ℕ → IcmpValue
send_after v remote bytes = sent_after (send_answer v remote (length bytes)) v remote bytes

-- ARRIVAL

-- an echo message of the bound identifier
abbrev pub takes_echo : Endpoint → ℕ → Bool
takes_echo (Bound.Ident bound) ident = bound == ident
takes_echo endpoint ident = false

abbrev pub takes_address : Option IpAddress → IpAddress → Bool
takes_address None destination = true
takes_address (Some bound) destination = is_same_address bound destination

-- The socket is bound to no address or to the destination, and what is quoted of the packet has the eight bytes that
-- RFC 792 asks for, the source port first, which is the bound one.
abbrev pub takes_quoted : IpListenEndpoint → IpAddress → List ℕ → Bool
takes_quoted bound destination bytes =
    takes_address bound.addr destination && (nat_le 8 (length bytes) && (be16 bytes 0 == bound.port))

-- an error about a packet of the bound protocol, 6 for TCP and 17 for UDP, and of the bound port
abbrev pub takes_error : Endpoint → IpAddress → IpProtocol → List ℕ → Bool
takes_error (Bound.Tcp bound) destination protocol bytes =
    (protocol_number protocol == 6) && takes_quoted bound destination bytes
takes_error (Bound.Udp bound) destination protocol bytes =
    (protocol_number protocol == 17) && takes_quoted bound destination bytes
takes_error endpoint destination protocol bytes = false

-- the message is for the socket: its packet had this destination
abbrev pub accepts_v4 : Endpoint → IpAddress → Icmpv4Header → List ℕ → Bool
accepts_v4 endpoint destination (V4.EchoRequest ident seq_no) bytes = takes_echo endpoint ident
accepts_v4 endpoint destination (V4.EchoReply ident seq_no) bytes = takes_echo endpoint ident
accepts_v4 endpoint destination (V4.DstUnreachable reason header) bytes = takes_error endpoint destination header.next_header bytes
accepts_v4 endpoint destination (V4.TimeExceeded reason header) bytes = takes_error endpoint destination header.next_header bytes

abbrev pub accepts_v6 : Endpoint → IpAddress → Icmpv6.MessageValue → List ℕ → Bool
accepts_v6 endpoint destination (Icmpv6.EchoRequest ident seq_no) bytes = takes_echo endpoint ident
accepts_v6 endpoint destination (Icmpv6.EchoReply ident seq_no) bytes = takes_echo endpoint ident
accepts_v6 endpoint destination (Icmpv6.DstUnreachable reason header) bytes = takes_error endpoint destination header.next_header bytes
accepts_v6 endpoint destination (Icmpv6.TimeExceeded reason header) bytes = takes_error endpoint destination header.next_header bytes
accepts_v6 endpoint destination message bytes = false

-- the length of an IPv4 header that is quoted fits its field
abbrev pub fits_v4 : Icmpv4Header → Bool
fits_v4 (V4.EchoRequest ident seq_no) = true
fits_v4 (V4.EchoReply ident seq_no) = true
fits_v4 (V4.DstUnreachable reason header) = nat_lt (20 + header.payload_len) (2 ^ 16)
fits_v4 (V4.TimeExceeded reason header) = nat_lt (20 + header.payload_len) (2 ^ 16)

-- so does that of an IPv6 header
abbrev pub fits_v6 : Icmpv6.MessageValue → Bool
fits_v6 (Icmpv6.DstUnreachable reason header) = nat_lt header.payload_len (2 ^ 16)
fits_v6 (Icmpv6.PktTooBig mtu header) = nat_lt header.payload_len (2 ^ 16)
fits_v6 (Icmpv6.TimeExceeded reason header) = nat_lt header.payload_len (2 ^ 16)
fits_v6 (Icmpv6.ParamProblem reason pointer header) = nat_lt header.payload_len (2 ^ 16)
fits_v6 message = true

-- The queue gets a message that arrives as it is sent, with checksums that hold. The message is dropped where the queue
-- is full, and where no message says it: the length of a packet that it is about has to fit its field.
abbrev pub process_v4_after : IcmpValue → Ipv4Repr → Icmpv4Header → List ℕ → IcmpValue
process_v4_after v ip message bytes =
    if fits_v4 message
    then arrived v (Icmpv4.header_len message + length bytes) (Address.Ipv4 ip.src_addr) (Icmpv4.written true true message bytes)
    else settled false v

-- the same; an ICMPv6 message has fewer than 2^32 bytes, which the pseudo header can say
abbrev pub process_v6_after : IcmpValue → Ipv6Repr → Icmpv6.MessageValue → List ℕ → IcmpValue
process_v6_after v ip message bytes =
    if fits_v6 message && nat_lt (Icmpv6.header_len message + length bytes) (2 ^ 32)
    then arrived v (Icmpv6.header_len message + length bytes) (Address.Ipv6 ip.src_addr) (Icmpv6.written ip.src_addr ip.dst_addr true message bytes)
    else settled false v

-- OFFER

-- The bytes are this message, whatever its checksum, between addresses of its family. The length of an ICMPv6 message
-- fits the four bytes that the pseudo header has for it (RFC 8200, section 8.1).
abbrev pub IsMessage : IpAddress → IpAddress → List ℕ → Carried.PayloadValue → Type 0
IsMessage (Address.Ipv4 source) (Address.Ipv4 remote) bytes (Carried.ControlV4 message payload) =
    Icmpv4.IsIcmpv4 false bytes message payload
IsMessage (Address.Ipv6 source) (Address.Ipv6 remote) bytes (Carried.ControlV6 message payload) =
    (length bytes < 2 ^ 32) × Icmpv6.IsIcmpv6 source remote false bytes message × (payload ≡ Icmpv6.carried_in bytes message)
IsMessage source remote bytes payload = ⊥

abbrev pub protocol_to : IpAddress → IpProtocol
protocol_to (Address.Ipv4 a) = Protocol.Icmp
protocol_to (Address.Ipv6 a) = Protocol.Icmpv6

abbrev pub IsPacketFrom : Option IpAddress → IpAddress → List ℕ → ℕ → PacketValue → Type 0
IsPacketFrom None remote bytes limit p = ⊥
IsPacketFrom (Some source) remote bytes limit p =
    IsMessage source remote bytes p.payload
    × (header_between source remote (protocol_to remote) (payload_len p.payload) limit ≡ Some p.header)

-- the packet takes a queued message to its address, from the context's source
abbrev pub TakesMessage : ContextValue → IcmpSettings → IpAddress × List ℕ → PacketValue → Type 0
TakesMessage cx s q p = IsPacketFrom (cx.source_for q.0) q.0 q.1 (hop_limit_or_default s.hop_limit) p

-- The first queued message is offered. One that no packet can take is dropped.
abbrev pub Offers : ContextValue → IcmpValue → Offer → IcmpValue → Type 0
Offers cx v answer v' = OffersBy (TakesMessage cx) v answer v'
