-- What the client offers to send.
use Rattle.std.specs.Prelude.{◌≡◌, ℕ, ◌+◌, ℤ, int_lt, int_le, true, false, if◌then◌else◌, Option, Some, None, length}
use Rattle.ip_wire.specs.IpAddress.{IpAddress}
use Rattle.ip_wire.specs.IpAddress.TheVariants as Address
use Rattle.ip_wire.specs.IpProtocol.TheVariants as Protocol
use Rattle.ip_wire.specs.IpRepr.{IpRepr}
use Rattle.ip_wire.specs.IpRepr.TheVariants as Ip
use Rattle.socket_context.specs.Context.{ContextValue}
use Rattle.socket_context.specs.declared.offer.Offer.{Offer}
use Rattle.socket_context.specs.declared.offer.Offer.TheVariants as Answer
use Rattle.socket_datagram.specs.DnsClient.Turns.{doubled, retry_after, due_at}
use Rattle.socket_datagram.specs.DnsClient.Value.{DnsValue, unoffered, turned, open_in, server_at}
use Rattle.socket_datagram.specs.declared.dns.query.Query.{Query}
use Rattle.socket_datagram.specs.declared.dns.query.Sending.{Sending}
use Rattle.socket_datagram.specs.declared.dns.state.State.{State}
use Rattle.socket_datagram.specs.declared.dns.state.State.TheVariants.{Idle, Pending, Completed, Failed, Unanswered}
use Rattle.socket_datagram.specs.declared.dns.query.Turn.{Turn}
use Rattle.socket_datagram.specs.declared.dns.query.Turn.TheVariants.{Wait, Next, Send}

-- the header of a query of so many bytes, after that of UDP: from an address of the server's family
abbrev pub header_between : Option IpAddress → IpAddress → ℕ → ℕ → Option IpRepr
header_between (Some (Address.Ipv4 source)) (Address.Ipv4 server) len hop_limit =
    Some (Ip.Ipv4 (record {
      src_addr = source;
      dst_addr = server;
      next_header = Protocol.Udp;
      payload_len = 8 + len;
      hop_limit = hop_limit;
      ident =
          0;
      dont_frag = false;
    }))
header_between (Some (Address.Ipv6 source)) (Address.Ipv6 server) len hop_limit =
    Some (Ip.Ipv6 (record { src_addr = source; dst_addr = server; next_header = Protocol.Udp; payload_len = 8 + len; hop_limit = hop_limit }))
header_between source server len hop_limit = None

-- the hop limit, 64 where none was set
abbrev pub hop_limit_or_default : Option ℕ → ℕ
hop_limit_or_default None = 64
hop_limit_or_default (Some n) = n

-- the query is sent to this server, if a packet can go there; else the next one is asked
abbrev pub sent_with : Option IpRepr → ℤ → IpAddress → Query → Turn
sent_with None now server q = Next
sent_with (Some header) now server q = Send (record { header = header; server = server; retry_at = retry_after now q.wait; wait = doubled q.wait })

abbrev pub sent_to : Option IpAddress → ContextValue → DnsValue → Query → Turn
sent_to None cx v q = Next
sent_to (Some server) cx v q = sent_with (header_between (cx.source_for server) server (length v.message) (hop_limit_or_default v.hop_limit)) cx.instant server q

-- nothing before the due instant; the next server once this one was asked for long enough
abbrev pub turn_of : ContextValue → DnsValue → Query → Turn
turn_of cx v q =
    if int_lt cx.instant (due_at q) then Wait
    else if int_le q.next_at cx.instant then Next
    else sent_to (server_at v.servers q.server) cx v q

abbrev pub turn_in : State → ContextValue → DnsValue → Turn
turn_in Idle cx v = Wait
turn_in (Pending q) cx v = turn_of cx v q
turn_in (Completed found) cx v = Wait
turn_in Failed cx v = Wait
turn_in Unanswered cx v = Wait

abbrev pub offered_in : DnsValue → Sending → DnsValue
offered_in v s = record v { offered = open_in v.state v.message s }

-- what the turn of the instant does
abbrev pub OffersAs : Turn → ContextValue → DnsValue → Offer → DnsValue → Type 0
OffersAs Wait cx v answer v' = (answer ≡ Answer.Silent false) × (v' ≡ unoffered v)
OffersAs Next cx v answer v' = (answer ≡ Answer.Silent true) × (v' ≡ turned cx.instant v)
OffersAs (Send s) cx v answer v' = (answer ≡ Answer.Packet false) × (v' ≡ offered_in v s)

abbrev pub Offers : ContextValue → DnsValue → Offer → DnsValue → Type 0
Offers cx v answer v' = OffersAs (turn_in v.state cx v) cx v answer v'
