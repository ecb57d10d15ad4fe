-- The laws of a socket of any kind, from those of each kind.
use Rattle.std.proofs.Common.{◌≡◌, ℕ, Bool, true, false, not, ◌&&◌, ℤ, List, Option, Some, None, is_some, if◌then◌else◌, IsSome, ◌↔◌, refl, sym, ap, ◌∙◌, subst}
use Rattle.std.specs.Prelude.{nat_le}
use Rattle.base_buffer.specs.Packets.{first}
use Rattle.socket_context.specs.Context.{ContextValue}
use Rattle.socket_context.specs.Offers.{IsBefore}
use Rattle.socket_context.specs.Packet.{PacketValue}
use Rattle.socket_context.specs.declared.offer.Offer as Answer
use Rattle.socket_context.specs.declared.offer.Offer.TheVariants as Offer
use Rattle.tcp_socket.specs.PollAt.TheVariants as At
use Rattle.socket_datagram.specs.Icmp as Icmps
use Rattle.socket_datagram.specs.Raw as Raws
use Rattle.socket_datagram.specs.Udp as Udps
use Rattle.socket_datagram.specs.Offers.{HasPacket, OffersFirst, OffersBy, answer_with, changed_by}
use Rattle.socket_datagram.specs.SocketValue as Datagrams
use Rattle.socket_datagram.specs.SocketValue.{SocketValue}
use Rattle.socket_datagram.proofs.OfferLaws as datagrams
use Rattle.tcp_block.specs.Due.{poll_open, poll_with}
use Rattle.tcp_block.specs.FourTuple.{FourTuple}
use Rattle.tcp_block.specs.Moments.{is_due}
use Rattle.tcp_block.specs.States.{is_closed}
use Rattle.tcp_block.specs.Value.{TcpValue}
use Rattle.tcp_block.proofs.Waits.{is_quiet}
use Rattle.tcp_socket.specs.Socket.{times_out_after}
use Rattle.socket_datagram.proofs.DhcpClient.OneMessage.{one_offered}
use Rattle.socket_datagram.proofs.DhcpClient.Turns as Dhcps
use Rattle.socket_datagram.specs.DhcpClient.Value.{DhcpValue}
use Rattle.socket_datagram.proofs.DnsClient.Turned as Dnss
use Rattle.socket_datagram.specs.DnsClient.Value.{DnsValue}
use Rattle.socket_datagram.proofs.Clients.{dhcp_packet, dhcp_same, dhcp_unoffered, dhcp_offered, dhcp_again, dns_packet, dns_same, dns_unoffered, dns_offered}
use Rattle.socket_datagram.proofs.Clients.{dns_again, dns_once}
use Rattle.sockets.proofs.Connections.{said_packet, said_same, silent_before}
use Rattle.sockets.specs.Socket.{Offers, offered_by, settled, poll_of, IsSameButForSlots, IsOfDatagrams}
use Rattle.sockets.specs.declared.socket.Socket.{Socket}
use Rattle.sockets.specs.declared.socket.Socket.TheVariants as Kind

said_with : (o : Option PacketValue) → HasPacket (answer_with o) o
said_with None = tt
said_with (Some p) = tt

module _ {H S : Type 0} where
  quiet_first : (Takes : S → H × List ℕ → PacketValue → Type 0) (now : ℤ) (v v' : SocketValue H S) (f : Option (H × List ℕ)) (answer : Answer.Offer)
      → IsBefore now (if is_some f then At.Now else At.Ingress) → OffersFirst Takes v f answer v' → (answer ≡ Offer.Silent false) ×
      (v' ≡ Datagrams.settled false v)
  quiet_first Takes now v v' None answer before offers = offers
  quiet_first Takes now v v' (Some q) answer before offers = absurd before

  quiet : (Takes : S → H × List ℕ → PacketValue → Type 0) (now : ℤ) (v v' : SocketValue H S) (answer : Answer.Offer)
      → IsBefore now (Datagrams.poll_of v) → OffersBy Takes v answer v' → (answer ≡ Offer.Silent false) × (v' ≡ Datagrams.settled false v)
  quiet Takes now v v' answer before offers = quiet_first Takes now v v' (first v.queued) answer before offers

  has_first : (Takes : S → H × List ℕ → PacketValue → Type 0) (v v' : SocketValue H S) (f : Option (H × List ℕ)) (answer : Answer.Offer) →
      OffersFirst Takes v f answer v' → HasPacket answer v'.offered
  has_first Takes v v' None answer offers = rw (offers.0, offers.1) tt
  has_first Takes v v' (Some q) answer offers = rw offers.1 (said_with v'.offered)

  has : (Takes : S → H × List ℕ → PacketValue → Type 0) (v v' : SocketValue H S) (answer : Answer.Offer) → OffersBy Takes v answer v' →
      HasPacket answer v'.offered
  has Takes v v' answer offers = has_first Takes v v' (first v.queued) answer offers

pub silent : (s s' : Socket) (cx : ContextValue) (answer : Answer.Offer) → IsBefore cx.instant (poll_of cx s) → Offers cx s answer s' →
    (answer ≡ Offer.Silent false) × (s' ≡ settled false s)
silent (Kind.Raw v) (Kind.Raw v') cx answer before offers =
    let q = quiet Raws.TakesPacket cx.instant v v' answer before offers in (q.0, ap (λ (w : Raws.RawValue). Kind.Raw w) q.1)
silent (Kind.Icmp v) (Kind.Icmp v') cx answer before offers =
    let q = quiet (Icmps.TakesMessage cx) cx.instant v v' answer before offers in (q.0, ap (λ (w : Icmps.IcmpValue). Kind.Icmp w) q.1)
silent (Kind.Udp v) (Kind.Udp v') cx answer before offers =
    let q = quiet (Udps.TakesDatagram cx) cx.instant v v' answer before offers in (q.0, ap (λ (w : Udps.UdpValue). Kind.Udp w) q.1)
silent (Kind.Tcp v) (Kind.Tcp v') cx answer before offers =
    let q = silent_before cx v v' answer before offers.0 offers.1 in (q.0, ap (λ (w : TcpValue). Kind.Tcp w) q.1)
silent (Kind.Dhcpv4 v) (Kind.Dhcpv4 v') cx answer before offers =
    let q = Dhcps.silent cx v v' answer before offers in (q.0, ap (λ (w : DhcpValue). Kind.Dhcpv4 w) q.1)
silent (Kind.Dns v) (Kind.Dns v') cx answer before offers =
    let q = Dnss.silent cx v v' answer before offers in (q.0, ap (λ (w : DnsValue). Kind.Dns w) q.1)
silent s s' cx answer before offers = absurd offers

pub has_packet : (s s' : Socket) (cx : ContextValue) (answer : Answer.Offer) → Offers cx s answer s' → HasPacket answer (offered_by s')
has_packet (Kind.Raw v) (Kind.Raw v') cx answer offers = has Raws.TakesPacket v v' answer offers
has_packet (Kind.Icmp v) (Kind.Icmp v') cx answer offers = has (Icmps.TakesMessage cx) v v' answer offers
has_packet (Kind.Udp v) (Kind.Udp v') cx answer offers = has (Udps.TakesDatagram cx) v v' answer offers
has_packet (Kind.Tcp v) (Kind.Tcp v') cx answer offers = said_packet cx v v' answer offers.0 offers.1
has_packet (Kind.Dhcpv4 v) (Kind.Dhcpv4 v') cx answer offers = dhcp_packet cx v v' answer offers
has_packet (Kind.Dns v) (Kind.Dns v') cx answer offers = dns_packet cx v v' answer offers
has_packet s s' cx answer offers = absurd offers

pub same : (s s' : Socket) (cx : ContextValue) (answer : Answer.Offer) → Offers cx s answer s' → changed_by answer ≡ false →
    IsSameButForSlots s (settled false s')
same (Kind.Raw v) (Kind.Raw v') cx answer offers is = datagrams.unchanged Raws.TakesPacket v v' answer offers is
same (Kind.Icmp v) (Kind.Icmp v') cx answer offers is = datagrams.unchanged (Icmps.TakesMessage cx) v v' answer offers is
same (Kind.Udp v) (Kind.Udp v') cx answer offers is = datagrams.unchanged (Udps.TakesDatagram cx) v v' answer offers is
same (Kind.Tcp v) (Kind.Tcp v') cx answer offers is = said_same cx v v' answer offers.0 offers.1 is
same (Kind.Dhcpv4 v) (Kind.Dhcpv4 v') cx answer offers is = dhcp_same cx v v' answer offers is
same (Kind.Dns v) (Kind.Dns v') cx answer offers is = dns_same cx v v' answer offers is
same s s' cx answer offers is = absurd offers

-- as the datagram kinds say it of theirs
abbrev pub Once : (V : Type 0) → (ContextValue → V → Answer.Offer → V → Type 0) → Type 0
Once V Gives = (cx : ContextValue) (v left right : V) (answer other : Answer.Offer) → Gives cx v answer left → Gives cx v other right →
    (answer ≡ other) × (left ≡ right)

module _ (raw : Once Raws.RawValue Raws.Offers) (icmp : Once Icmps.IcmpValue Icmps.Offers) (udp : Once Udps.UdpValue Udps.Offers) where
  pub once : (cx : ContextValue) (s left right : Socket) (answer other : Answer.Offer) → Offers cx s answer left → Offers cx s other right →
      (answer ≡ other) × (left ≡ right)
  once cx (Kind.Raw v) (Kind.Raw l) (Kind.Raw r) answer other one two =
      let q = raw cx v l r answer other one two in (q.0, ap (λ (w : Raws.RawValue). Kind.Raw w) q.1)
  once cx (Kind.Icmp v) (Kind.Icmp l) (Kind.Icmp r) answer other one two =
      let q = icmp cx v l r answer other one two in (q.0, ap (λ (w : Icmps.IcmpValue). Kind.Icmp w) q.1)
  once cx (Kind.Udp v) (Kind.Udp l) (Kind.Udp r) answer other one two =
      let q = udp cx v l r answer other one two in (q.0, ap (λ (w : Udps.UdpValue). Kind.Udp w) q.1)
  once cx (Kind.Tcp v) (Kind.Tcp l) (Kind.Tcp r) answer other one two =
      (one.0 ∙ sym two.0, ap (λ (w : TcpValue). Kind.Tcp w) (one.1 ∙ sym two.1))
  once cx (Kind.Dhcpv4 v) (Kind.Dhcpv4 l) (Kind.Dhcpv4 r) answer other one two =
      let q = one_offered cx v l r answer other one two in (q.0, ap (λ (w : DhcpValue). Kind.Dhcpv4 w) q.1)
  once cx (Kind.Dns v) (Kind.Dns l) (Kind.Dns r) answer other one two =
      let q = dns_once cx v l r answer other one two in (q.0, ap (λ (w : DnsValue). Kind.Dns w) q.1)
  once cx (Kind.Raw v) (Kind.Raw l) right answer other one two = absurd two
  once cx (Kind.Icmp v) (Kind.Icmp l) right answer other one two = absurd two
  once cx (Kind.Udp v) (Kind.Udp l) right answer other one two = absurd two
  once cx (Kind.Tcp v) (Kind.Tcp l) right answer other one two = absurd two
  once cx (Kind.Dhcpv4 v) (Kind.Dhcpv4 l) right answer other one two = absurd two
  once cx (Kind.Dns v) (Kind.Dns l) right answer other one two = absurd two
  once cx s left right answer other one two = absurd one

abbrev pub Again : (V : Type 0) → (V → Option PacketValue) → (V → V) → (ContextValue → V → Answer.Offer → V → Type 0) → Type 0
Again V packet unsent Gives = (cx : ContextValue) (v v' : V) (answer : Answer.Offer) → Gives cx v answer v' → IsSome (packet v') →
    Gives cx (unsent v') answer v'

module _ (raw : Again Raws.RawValue (λ v. v.offered) (Datagrams.settled false) Raws.Offers)
    (icmp : Again Icmps.IcmpValue (λ v. v.offered) (Datagrams.settled false) Icmps.Offers)
    (udp : Again Udps.UdpValue (λ v. v.offered) (Datagrams.settled false) Udps.Offers) where
  pub again : (cx : ContextValue) (s s' : Socket) (answer : Answer.Offer) → IsOfDatagrams s → Offers cx s answer s' → IsSome (offered_by s') →
      Offers cx (settled false s') answer s'
  again cx (Kind.Raw v) (Kind.Raw v') answer of offers some = raw cx v v' answer offers some
  again cx (Kind.Icmp v) (Kind.Icmp v') answer of offers some = icmp cx v v' answer offers some
  again cx (Kind.Udp v) (Kind.Udp v') answer of offers some = udp cx v v' answer offers some
  again cx (Kind.Tcp v) s' answer of offers some = absurd of
  again cx (Kind.Dhcpv4 v) (Kind.Dhcpv4 v') answer of offers some = dhcp_again cx v v' answer offers some
  again cx (Kind.Dns v) (Kind.Dns v') answer of offers some = dns_again cx v v' answer offers some
  again cx s s' answer of offers some = absurd offers

abbrev pub Settles : (V : Type 0) → (V → V) → (ContextValue → V → Answer.Offer → V → Type 0) → Type 0
Settles V unsent Gives = (cx : ContextValue) (v v' : V) (answer : Answer.Offer) → Gives cx (unsent v) answer v' ↔ Gives cx v answer v'

-- an open offer doesn't count
module _ (raw : Settles Raws.RawValue (Datagrams.settled false) Raws.Offers) (icmp : Settles Icmps.IcmpValue (Datagrams.settled false) Icmps.Offers)
    (udp : Settles Udps.UdpValue (Datagrams.settled false) Udps.Offers) where
  closed : (cx : ContextValue) (s s' : Socket) (answer : Answer.Offer) → Offers cx s answer s' → Offers cx (settled false s) answer s'
  closed cx (Kind.Raw v) (Kind.Raw v') answer offers = (raw cx v v' answer).1 offers
  closed cx (Kind.Icmp v) (Kind.Icmp v') answer offers = (icmp cx v v' answer).1 offers
  closed cx (Kind.Udp v) (Kind.Udp v') answer offers = (udp cx v v' answer).1 offers
  closed cx (Kind.Tcp v) (Kind.Tcp v') answer offers = offers
  closed cx (Kind.Dhcpv4 v) (Kind.Dhcpv4 v') answer offers = dhcp_unoffered cx v v' answer offers
  closed cx (Kind.Dns v) (Kind.Dns v') answer offers = dns_unoffered cx v v' answer offers
  closed cx s s' answer offers = absurd offers

  unclosed : (cx : ContextValue) (s s' : Socket) (answer : Answer.Offer) → Offers cx (settled false s) answer s' → Offers cx s answer s'
  unclosed cx (Kind.Raw v) (Kind.Raw v') answer offers = (raw cx v v' answer).0 offers
  unclosed cx (Kind.Icmp v) (Kind.Icmp v') answer offers = (icmp cx v v' answer).0 offers
  unclosed cx (Kind.Udp v) (Kind.Udp v') answer offers = (udp cx v v' answer).0 offers
  unclosed cx (Kind.Tcp v) (Kind.Tcp v') answer offers = offers
  unclosed cx (Kind.Dhcpv4 v) (Kind.Dhcpv4 v') answer offers = dhcp_offered cx v v' answer offers
  unclosed cx (Kind.Dns v) (Kind.Dns v') answer offers = dns_offered cx v v' answer offers
  unclosed cx s s' answer offers = absurd offers

  pub settles : (cx : ContextValue) (s s' : Socket) (answer : Answer.Offer) → Offers cx (settled false s) answer s' ↔ Offers cx s answer s'
  settles cx s s' answer = (unclosed cx s s' answer, closed cx s s' answer)

-- A TIMER THAT RUNS OUT MAKES A CONNECTION WANT TO BE POLLED

and_last : (p c n d : Bool) → (p ≡ true → c ≡ false → d ≡ false) → (((p && not c) && n) && d) ≡ false
and_last false c n d last = refl
and_last true true n d last = refl
and_last true false false d last = refl
and_last true false true d last = last refl refl

pub untimed : (count : ℕ) (cx : ContextValue) (v : TcpValue) → IsBefore cx.instant (poll_of cx (Kind.Tcp v)) → times_out_after count cx.instant v.tcb ≡ false
untimed count cx v before =
    and_last (is_some v.tcb.names.pair) (is_closed v.tcb.state) (nat_le count v.tcb.sender.timeouts) (is_due cx.instant v.tcb.timers.retransmit_at)
    (λ paired live. by v.tcb.names.pair refl paired live) where
      by : (o : Option FourTuple) → v.tcb.names.pair ≡ o → is_some v.tcb.names.pair ≡ true → is_closed v.tcb.state ≡ false →
          is_due cx.instant v.tcb.timers.retransmit_at ≡ false
      by None is paired live = absurd (let none = sym (ap is_some is) ∙ paired in cc)
      by (Some pair) is paired live =
          (is_quiet cx v pair
          (subst (λ (closed : Bool). IsBefore cx.instant (if closed then (if v.tcb.sender.reset_due then At.Now else At.Ingress) else poll_open cx.ip_mtu v pair)) live
          (subst (λ (o : Option FourTuple). IsBefore cx.instant (poll_with o cx.ip_mtu v)) is before))).retransmission
