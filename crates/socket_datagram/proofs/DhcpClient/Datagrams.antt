-- What a client offers is a user datagram.
use Rattle.std.proofs.Common.{◌≡◌, ℕ, List, Option, Some, None, refl, sym, ap, ◌∙◌, subst}
use Rattle.ip_wire.specs.Ip.{carried_in}
use Rattle.ip_wire.specs.IpProtocol.TheVariants as Protocol
use Rattle.ip_wire.specs.UdpRepr.{UdpRepr}
use Rattle.socket_context.specs.Context.{ContextValue}
use Rattle.socket_context.specs.Packet.{PacketValue, Datagram}
use Rattle.socket_context.specs.declared.offer.Offer.{Offer}
use Rattle.socket_datagram.specs.DhcpClient.Offers.{Offers, OffersAs}
use Rattle.socket_datagram.specs.DhcpClient.Requests.{header_for}
use Rattle.socket_datagram.specs.DhcpClient.States.{turn_of}
use Rattle.socket_datagram.specs.DhcpClient.Value.{DhcpValue, offered_packet}
use Rattle.socket_datagram.specs.declared.dhcpv4.request.Kind.{Kind}
use Rattle.socket_datagram.specs.declared.dhcpv4.request.Kind.TheVariants.{Discover, Request, Renew, Rebind}
use Rattle.socket_datagram.specs.declared.dhcpv4.state.Turn.{Turn}
use Rattle.socket_datagram.specs.declared.dhcpv4.state.Turn.TheVariants as T

-- a packet of UDP, whose header says so
pub record IsDatagram (p : PacketValue) : Type 0 where
  pub udp : UdpRepr
  pub bytes : List ℕ
  pub carries : p.payload ≡ Datagram udp bytes
  pub protocol : carried_in p.header ≡ Protocol.Udp

of_kind : (kind : Kind) (len : ℕ) → carried_in (header_for kind len) ≡ Protocol.Udp
of_kind Discover len = refl
of_kind (Request s) len = refl
of_kind (Renew lease) len = refl
of_kind (Rebind lease) len = refl

none_some : (p : PacketValue) → (let o : Option PacketValue = None in o) ≡ Some p → ⊥
none_some p is = cc

some_same : (q p : PacketValue) → (let o : Option PacketValue = Some q in o) ≡ Some p → q ≡ p
some_same q p is = cc

by_turn : (turn : Turn) (cx : ContextValue) (v v' : DhcpValue) (answer : Offer) (p : PacketValue) → OffersAs turn cx v answer v' →
    offered_packet v' ≡ Some p → IsDatagram p
by_turn T.Wait cx v v' answer p offers is = absurd (none_some p (ap (λ (w : DhcpValue). offered_packet w) (sym offers.1) ∙ is))
by_turn T.GiveUp cx v v' answer p offers is = absurd (none_some p (ap (λ (w : DhcpValue). offered_packet w) (sym offers.1) ∙ is))
by_turn (T.Send kind) cx v v' answer p offers is =
    subst IsDatagram (some_same _ p (ap (λ (w : DhcpValue). offered_packet w) (sym offers.1.offers) ∙ is))
    (record { udp = _; bytes = _; carries = refl; protocol = of_kind kind _ })

pub offered_datagram : (cx : ContextValue) (v v' : DhcpValue) (answer : Offer) (p : PacketValue) → Offers cx v answer v' →
    offered_packet v' ≡ Some p → IsDatagram p
offered_datagram cx v v' answer p offers is = by_turn (turn_of cx.instant v.settings.retry.request_retries v.state) cx v v' answer p offers is
