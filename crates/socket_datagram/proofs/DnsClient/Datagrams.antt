-- What a client offers is a user datagram.
use Rattle.std.proofs.Common.{◌≡◌, ℕ, Bool, true, false, if◌then◌else◌, ℤ, int_lt, int_le, List, length, Option, Some, None, refl, sym, ap, ◌∙◌, subst}
use Rattle.ip_wire.specs.Ip.{carried_in}
use Rattle.ip_wire.specs.IpAddress.{IpAddress}
use Rattle.ip_wire.specs.IpAddress.TheVariants as Address
use Rattle.ip_wire.specs.IpProtocol.TheVariants as Protocol
use Rattle.ip_wire.specs.IpRepr.{IpRepr}
use Rattle.ip_wire.specs.UdpRepr.{UdpRepr}
use Rattle.socket_context.specs.Context.{ContextValue}
use Rattle.socket_context.specs.Packet.{PacketValue, Datagram}
use Rattle.socket_context.specs.declared.offer.Offer.{Offer}
use Rattle.socket_datagram.specs.DnsClient.Offers.{Offers, OffersAs, header_between, hop_limit_or_default, sent_with, sent_to, turn_of, turn_in, offered_in}
use Rattle.socket_datagram.specs.DnsClient.Turns.{due_at}
use Rattle.socket_datagram.specs.DnsClient.Value.{DnsValue, offered_packet, packet_in, open_in, server_at}
use Rattle.socket_datagram.specs.declared.dns.query.Query.{Query}
use Rattle.socket_datagram.specs.declared.dns.query.Sending.{Sending}
use Rattle.socket_datagram.specs.declared.dns.query.Turn.{Turn}
use Rattle.socket_datagram.specs.declared.dns.query.Turn.TheVariants.{Wait, Next, Send}
use Rattle.socket_datagram.specs.declared.dns.state.State.{State}
use Rattle.socket_datagram.specs.declared.dns.state.State.TheVariants as S

-- a packet of UDP, whose header says so
pub record IsDatagram (p : PacketValue) : Type 0 where
  pub udp : UdpRepr
  pub bytes : List ℕ
  pub carries : p.payload ≡ Datagram udp bytes
  pub protocol : carried_in p.header ≡ Protocol.Udp

abbrev NamesUdp : Turn → Type 0
NamesUdp Wait = Unit {0}
NamesUdp Next = Unit {0}
NamesUdp (Send s) = carried_in s.header ≡ Protocol.Udp

abbrev IfUdp : Option IpRepr → Type 0
IfUdp None = Unit {0}
IfUdp (Some header) = carried_in header ≡ Protocol.Udp

between : (source : Option IpAddress) (server : IpAddress) (len limit : ℕ) → IfUdp (header_between source server len limit)
between (Some (Address.Ipv4 a)) (Address.Ipv4 b) len limit = refl
between (Some (Address.Ipv6 a)) (Address.Ipv6 b) len limit = refl
between (Some (Address.Ipv4 a)) (Address.Ipv6 b) len limit = tt
between (Some (Address.Ipv6 a)) (Address.Ipv4 b) len limit = tt
between None (Address.Ipv4 b) len limit = tt
between None (Address.Ipv6 b) len limit = tt

sent-with : (header : Option IpRepr) (now : ℤ) (server : IpAddress) (q : Query) → IfUdp header → NamesUdp (sent_with header now server q)
sent-with None now server q is = tt
sent-with (Some header) now server q is = is

sent-to : (server : Option IpAddress) (cx : ContextValue) (v : DnsValue) (q : Query) → NamesUdp (sent_to server cx v q)
sent-to None cx v q = tt
sent-to (Some server) cx v q =
    sent-with (header_between (cx.source_for server) server (length v.message) (hop_limit_or_default v.hop_limit)) cx.instant server q
    (between (cx.source_for server) server (length v.message) (hop_limit_or_default v.hop_limit))

turns : (cx : ContextValue) (v : DnsValue) (q : Query) → NamesUdp (turn_of cx v q)
turns cx v q = by (int_lt cx.instant (due_at q)) (int_le q.next_at cx.instant) where
  by : (early late : Bool) → NamesUdp (if early then Wait else if late then Next else sent_to (server_at v.servers q.server) cx v q)
  by true late = tt
  by false true = tt
  by false false = sent-to (server_at v.servers q.server) cx v q

turns_in : (state : State) (cx : ContextValue) (v : DnsValue) → NamesUdp (turn_in state cx v)
turns_in S.Idle cx v = tt
turns_in (S.Pending q) cx v = turns cx v q
turns_in (S.Completed found) cx v = tt
turns_in S.Failed cx v = tt
turns_in S.Unanswered cx v = tt

none_some : (p : PacketValue) → (let o : Option PacketValue = None in o) ≡ Some p → ⊥
none_some p is = cc

some_same : (q p : PacketValue) → (let o : Option PacketValue = Some q in o) ≡ Some p → q ≡ p
some_same q p is = cc

by_state : (state : State) (message : List ℕ) (s : Sending) (p : PacketValue) → carried_in s.header ≡ Protocol.Udp →
    packet_in (open_in state message s) ≡ Some p → IsDatagram p
by_state S.Idle message s p named is = absurd (none_some p is)
by_state (S.Pending q) message s p named is =
    subst IsDatagram (some_same _ p is) (record { udp = _; bytes = _; carries = refl; protocol = named })
by_state (S.Completed found) message s p named is = absurd (none_some p is)
by_state S.Failed message s p named is = absurd (none_some p is)
by_state S.Unanswered message s p named is = absurd (none_some p is)

by_turn : (turn : Turn) (cx : ContextValue) (v v' : DnsValue) (answer : Offer) (p : PacketValue) → NamesUdp turn → OffersAs turn cx v answer v' →
    offered_packet v' ≡ Some p → IsDatagram p
by_turn Wait cx v v' answer p named offers is = absurd (none_some p (ap (λ (w : DnsValue). offered_packet w) (sym offers.1) ∙ is))
by_turn Next cx v v' answer p named offers is = absurd (none_some p (ap (λ (w : DnsValue). offered_packet w) (sym offers.1) ∙ is))
by_turn (Send s) cx v v' answer p named offers is =
    by_state v.state v.message s p named (ap (λ (w : DnsValue). offered_packet w) (sym offers.1) ∙ is)

pub offered_datagram : (cx : ContextValue) (v v' : DnsValue) (answer : Offer) (p : PacketValue) → Offers cx v answer v' →
    offered_packet v' ≡ Some p → IsDatagram p
offered_datagram cx v v' answer p offers is = by_turn (turn_in v.state cx v) cx v v' answer p (turns_in v.state cx v) offers is
