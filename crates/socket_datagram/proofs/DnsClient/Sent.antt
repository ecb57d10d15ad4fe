-- A query that is offered can be sent.
use Rattle.std.proofs.Common.{◌≡◌, ℕ, ◌≤◌, Bool, true, false, if◌then◌else◌, ℤ, int_lt, int_le, List, length, Option, Some, None, refl, subst, arith}
use Rattle.std.specs.Prelude.{IfSome}
use Rattle.ip_wire.specs.IpAddress.{IpAddress}
use Rattle.ip_wire.specs.IpAddress.TheVariants as Address
use Rattle.ip_wire.specs.IpRepr.{IpRepr}
use Rattle.ip_wire.specs.UdpRepr.{UdpRepr}
use Rattle.socket_context.specs.Context.{ContextValue}
use Rattle.socket_context.specs.Packet.{IsSendable, packet_of, Datagram}
use Rattle.socket_datagram.specs.DnsClient.Offers.{header_between, hop_limit_or_default, sent_with, sent_to, turn_of, turn_in}
use Rattle.socket_datagram.specs.DnsClient.Turns.{due_at}
use Rattle.socket_datagram.specs.DnsClient.Value.{DnsValue, ports_of, open_in, packet_in, server_at}
use Rattle.socket_datagram.specs.declared.dns.query.Query.{Query}
use Rattle.socket_datagram.specs.declared.dns.query.Sending.{Sending}
use Rattle.socket_datagram.specs.declared.dns.state.State.{State}
use Rattle.socket_datagram.specs.declared.dns.state.State.TheVariants as S
use Rattle.socket_datagram.specs.declared.dns.query.Turn.{Turn}
use Rattle.socket_datagram.specs.declared.dns.query.Turn.TheVariants.{Wait, Next, Send}

abbrev Sendable : UdpRepr → List ℕ → IpRepr → Type 0
Sendable ports message header = IsSendable (packet_of header (Datagram ports message))

some_same : (x y : IpRepr) → Some x ≡ Some y → x ≡ y
some_same x y is = (cc)

between : (source : Option IpAddress) (server : IpAddress) (limit : ℕ) (ports : UdpRepr) (message : List ℕ) (header : IpRepr) → length message ≤ 271 →
    header_between source server (length message) limit ≡ Some header → Sendable ports message header
between (Some (Address.Ipv4 a)) (Address.Ipv4 b) limit ports message header short is =
    subst (Sendable ports message) (some_same _ header is)
    (record { header = omega (arith, short); payload = record { len = omega (arith, short); family = refl }; len = refl })
between (Some (Address.Ipv6 a)) (Address.Ipv6 b) limit ports message header short is =
    subst (Sendable ports message) (some_same _ header is)
    (record { header = omega (arith, short); payload = record { len = omega (arith, short); family = refl }; len = refl })
between (Some (Address.Ipv4 a)) (Address.Ipv6 b) limit ports message header short is = absurd (cc)
between (Some (Address.Ipv6 a)) (Address.Ipv4 b) limit ports message header short is = absurd (cc)
between None (Address.Ipv4 b) limit ports message header short is = absurd (cc)
between None (Address.Ipv6 b) limit ports message header short is = absurd (cc)

abbrev IsSent : Query → List ℕ → Turn → Type 0
IsSent q message Wait = Unit {0}
IsSent q message Next = Unit {0}
IsSent q message (Send s) = Sendable (ports_of q) message s.header

sent-with : (header : Option IpRepr) (now : ℤ) (server : IpAddress) (q : Query) (message : List ℕ) →
    ((h : IpRepr) → header ≡ Some h → Sendable (ports_of q) message h) → IsSent q message (sent_with header now server q)
sent-with None now server q message fits = tt
sent-with (Some h) now server q message fits = fits h refl

sent-to : (server : Option IpAddress) (cx : ContextValue) (v : DnsValue) (q : Query) → length v.message ≤ 271 → IsSent q v.message (sent_to server cx v q)
sent-to None cx v q short = tt
sent-to (Some server) cx v q short =
    sent-with (header_between (cx.source_for server) server (length v.message) (hop_limit_or_default v.hop_limit)) cx.instant server q v.message
    (λ h is. between (cx.source_for server) server (hop_limit_or_default v.hop_limit) (ports_of q) v.message h short is)

turns : (cx : ContextValue) (v : DnsValue) (q : Query) → length v.message ≤ 271 → IsSent q v.message (turn_of cx v q)
turns cx v q short = by (int_lt cx.instant (due_at q)) (int_le q.next_at cx.instant) where
  by : (early late : Bool) → IsSent q v.message (if early then Wait else if late then Next else sent_to (server_at v.servers q.server) cx v q)
  by true late = tt
  by false true = tt
  by false false = sent-to (server_at v.servers q.server) cx v q short

pub sendable : (cx : ContextValue) (v : DnsValue) (state : State) (sending : Sending) → turn_in state cx v ≡ Send sending → length v.message ≤ 271 →
    IfSome (packet_in (open_in state v.message sending)) IsSendable
sendable cx v S.Idle sending is short = tt
sendable cx v (S.Pending q) sending is short = subst (λ (t : Turn). IsSent q v.message t) is (turns cx v q short)
sendable cx v (S.Completed found) sending is short = tt
sendable cx v S.Failed sending is short = tt
sendable cx v S.Unanswered sending is short = tt
