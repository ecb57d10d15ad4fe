-- A UDP socket as a value, and what its calls answer and leave.
use Rattle.std.specs.Prelude.{◌≡◌, ℕ, ◌+◌, ◌==◌, not, ◌&&◌, ◌||◌, Bool, true, if◌then◌else◌, List, length, Option, None, Some, Result, Ok, Err, is_ok}
use Rattle.net_base.specs.Packets.{Packets, first}
use Rattle.wire_address.specs.declared.ip.IpAddress.{IpAddress}
use Rattle.wire_address.specs.declared.ip.IpEndpoint.{IpEndpoint}
use Rattle.wire_address.specs.declared.ip.IpListenEndpoint.{IpListenEndpoint}
use Rattle.wire_address.specs.declared.ip.IpProtocol.TheVariants as Protocol
use Rattle.wire_ip.specs.declared.ip.repr.IpRepr.{IpRepr}
use Rattle.wire_ip.specs.Ip.{destination_of, source_of}
use Rattle.wire_ip.specs.declared.udp.repr.UdpRepr.{UdpRepr}
use Rattle.socket_context.specs.Addresses.{is_unspecified, is_multicast, is_same_address}
use Rattle.socket_context.specs.Context.{ContextValue}
use Rattle.socket_context.specs.Packet as Carried
use Rattle.socket_context.specs.Packet.{PacketValue}
use Rattle.socket_context.specs.declared.offer.Offer.{Offer}
use Rattle.socket_datagram.specs.Header.{header_between, hop_limit_or_default}
use Rattle.socket_datagram.specs.OpenOffer.{AreHeld, packet_in}
use Rattle.socket_datagram.specs.Offers.{IsFound, OffersBy}
use Rattle.socket_datagram.specs.SocketValue.{SocketValue, emptied, initial, with_settings, takes_alone, send_answer_to, sent_after, arrived}
use Rattle.socket_datagram.specs.declared.udp.UdpMetadata.{UdpMetadata}
use Rattle.socket_datagram.specs.declared.error.BindError.{BindError}
use Rattle.socket_datagram.specs.declared.error.BindError.TheVariants as Bind
use Rattle.socket_datagram.specs.declared.error.SendError.{SendError}

-- the endpoint that the socket is bound to (port 0 while it is unbound), and the hop limit if one was set
pub record UdpSettings : Type 0 where
  pub endpoint : IpListenEndpoint
  pub hop_limit : Option ℕ

abbrev pub settings_of : IpListenEndpoint → Option ℕ → UdpSettings
settings_of endpoint hop_limit = record { endpoint = endpoint; hop_limit = hop_limit }

abbrev pub UdpValue : Type 0
UdpValue = SocketValue UdpMetadata UdpSettings

abbrev pub unbound : IpListenEndpoint
unbound = record { addr = None; port = 0 }

abbrev pub made : Packets UdpMetadata → Packets UdpMetadata → UdpValue
made received queued = initial (settings_of unbound None) received queued

-- a datagram to this endpoint, from whatever address
abbrev pub metadata_to : IpEndpoint → UdpMetadata
metadata_to endpoint = record { endpoint = endpoint; local_address = None; meta = record {} }

abbrev pub is_open : UdpValue → Bool
is_open v = not (v.settings.endpoint.port == 0)

-- CALLS

abbrev pub with_hop_limit : UdpValue → Option ℕ → UdpValue
with_hop_limit v hop_limit = with_settings v (record v.settings { hop_limit = hop_limit })

abbrev pub bind_answer : UdpValue → IpListenEndpoint → Result (Unit {0}) BindError
bind_answer v endpoint =
    if endpoint.port == 0 then Err Bind.Unaddressable else if is_open v then Err Bind.InvalidState else Ok tt

abbrev pub bind_after : UdpValue → IpListenEndpoint → UdpValue
bind_after v endpoint =
    with_settings v (record v.settings { endpoint = if is_ok (bind_answer v endpoint) then endpoint else v.settings.endpoint })

abbrev pub closed : UdpValue → UdpValue
closed v = initial (record v.settings { endpoint = unbound }) (emptied v.received) (emptied v.queued)

-- SEND

-- a datagram can't be sent by an unbound socket, nor to port 0 or to the unspecified address
abbrev pub is_unaddressable : UdpValue → UdpMetadata → Bool
is_unaddressable v metadata =
    not (is_open v) || ((metadata.endpoint.port == 0) || is_unspecified metadata.endpoint.addr)

abbrev pub send_answer : UdpValue → UdpMetadata → ℕ → Result (Unit {0}) SendError
send_answer v metadata size = send_answer_to (is_unaddressable v metadata) v.queued size

abbrev pub send_after : UdpValue → UdpMetadata → List ℕ → UdpValue
send_after v metadata bytes = sent_after (send_answer v metadata (length bytes)) v metadata bytes

-- ARRIVAL

abbrev pub takes_address : ContextValue → Option IpAddress → IpAddress → Bool
takes_address cx None destination = true
takes_address cx (Some bound) destination =
    is_same_address bound destination || (cx.is_broadcast destination || is_multicast destination)

-- The destination port is the bound one, and the socket is bound to no address, to the destination, or the destination
-- is one of many hosts.
abbrev pub accepts : ContextValue → UdpValue → IpRepr → UdpRepr → Bool
accepts cx v ip udp =
    is_open v && ((v.settings.endpoint.port == udp.dst_port) && takes_address cx v.settings.endpoint.addr (destination_of ip))

-- where an arrived datagram came from, and which address it was sent to
abbrev pub metadata_of : IpRepr → UdpRepr → UdpMetadata
metadata_of ip udp = record {
  endpoint = record { addr = source_of ip; port = udp.src_port };
  local_address = Some (destination_of ip);
  meta = record {};
}

-- a datagram that arrives is dropped where the queue is full
abbrev pub process_after : UdpValue → IpRepr → UdpRepr → List ℕ → UdpValue
process_after v ip udp bytes = arrived v (length bytes) (metadata_of ip udp) bytes

-- OFFER

abbrev pub or_else : Option IpAddress → Option IpAddress → Option IpAddress
or_else None other = other
or_else (Some address) other = Some address

-- the source of a datagram: its own local address, else the bound one, else the context's
abbrev pub source_for : ContextValue → UdpSettings → UdpMetadata → Option IpAddress
source_for cx s metadata = or_else metadata.local_address (or_else s.endpoint.addr (cx.source_for metadata.endpoint.addr))

abbrev pub header_from : Option IpAddress → UdpSettings → IpAddress → ℕ → Option IpRepr
header_from None s destination size = None
header_from (Some source) s destination size = header_between source destination Protocol.Udp (8 + size) (hop_limit_or_default s.hop_limit)

-- The header of the packet that takes a datagram of this size. There is none where the datagram has no source or one of
-- another family, and where a length field can't hold its length.
abbrev pub header_for : ContextValue → UdpSettings → UdpMetadata → ℕ → Option IpRepr
header_for cx s metadata size = header_from (source_for cx s metadata) s metadata.endpoint.addr size

-- a datagram after its header
abbrev pub datagram_following : IpListenEndpoint → IpRepr → UdpMetadata × List ℕ → PacketValue
datagram_following bound header q =
    Carried.packet_of header (Carried.Datagram (record { src_port = bound.port; dst_port = q.0.endpoint.port }) q.1)

-- the packet takes a queued datagram
abbrev pub TakesDatagram : ContextValue → UdpSettings → UdpMetadata × List ℕ → PacketValue → Type 0
TakesDatagram cx s q p =
    (header_for cx s q.0 (length q.1) ≡ Some p.header) × (p ≡ datagram_following s.endpoint p.header q)

-- The first queued datagram is offered. One that can't be sent is dropped.
abbrev pub Offers : ContextValue → UdpValue → Offer → UdpValue → Type 0
Offers cx v answer v' = OffersBy (TakesDatagram cx) v answer v'

-- the header of the packet that takes a datagram of this size which isn't queued, where it would be the first one in the queue
abbrev pub header_at_once : ContextValue → UdpValue → UdpMetadata → ℕ → Option IpRepr
header_at_once cx v metadata size =
    if takes_alone v.queued size && not (is_unaddressable v metadata) then header_for cx v.settings metadata size else None

-- The packet takes a datagram that isn't queued: none is queued before it, and the queue would take it.
pub record TakesAtOnce (cx : ContextValue) (v : UdpValue) (q : UdpMetadata × List ℕ) (p : PacketValue) : Type 0 where
  pub alone : first v.queued ≡ None
  pub taken : send_answer v q.0 (length q.1) ≡ Ok tt
  pub takes : TakesDatagram cx v.settings q p

-- the packet of a kept header
abbrev pub offered_in : IpListenEndpoint → Option IpRepr → Option (UdpMetadata × List ℕ) → Option PacketValue
offered_in bound header q = packet_in (datagram_following bound) header q

-- a kept header is that of the first queued datagram
abbrev pub IsOpen : Option IpRepr → Packets UdpMetadata → Type 0
IsOpen header queue = AreHeld (λ _ _. Unit {0}) header queue

-- the header of the packet that takes a datagram, or none where no packet can
abbrev pub IsHeaderToSend : ContextValue → UdpSettings → UdpMetadata × List ℕ → Option IpRepr → Type 0
IsHeaderToSend cx s q header = IsFound (TakesDatagram cx s q) (offered_in s.endpoint header (Some q))
