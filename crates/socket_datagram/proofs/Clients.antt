-- What an offer of a client answers and leaves.
use Rattle.std.proofs.Common.{◌≡◌, true, false, if◌then◌else◌, int_lt, int_le, Option, Some, None, IsSome, refl, sym, ap, ◌∙◌, subst}
use Rattle.ip_wire.specs.IpAddress.{IpAddress}
use Rattle.socket_context.specs.Context.{ContextValue}
use Rattle.socket_context.specs.declared.offer.Offer as Answer
use Rattle.socket_context.specs.declared.offer.Offer.TheVariants as Offer
use Rattle.socket_datagram.specs.Offers.{HasPacket, changed_by}
use Rattle.socket_datagram.specs.DhcpClient.Offers as DhcpOffers
use Rattle.socket_datagram.specs.DhcpClient.States as DhcpStates
use Rattle.socket_datagram.specs.DhcpClient.Value as Dhcps
use Rattle.socket_datagram.specs.DhcpClient.Value.{DhcpValue}
use Rattle.socket_datagram.specs.declared.dhcpv4.request.Kind.{Kind}
use Rattle.socket_datagram.specs.declared.dhcpv4.request.Kind.TheVariants as K
use Rattle.socket_datagram.specs.declared.dhcpv4.state.Turn as DhcpTurn
use Rattle.socket_datagram.specs.declared.dhcpv4.state.Turn.TheVariants as D
use Rattle.socket_datagram.specs.DnsClient.Offers as DnsOffers
use Rattle.socket_datagram.specs.DnsClient.Turns.{due_at}
use Rattle.socket_datagram.specs.DnsClient.Value as Dnss
use Rattle.socket_datagram.specs.DnsClient.Value.{DnsValue}
use Rattle.socket_datagram.specs.declared.dns.query.Query.{Query}
use Rattle.socket_datagram.specs.declared.dns.query.Turn as DnsTurn
use Rattle.socket_datagram.specs.declared.dns.query.Turn.TheVariants as N
use Rattle.socket_datagram.specs.declared.dns.state.State.{State}
use Rattle.socket_datagram.specs.declared.dns.state.State.TheVariants as S

-- an answer with these says that nothing changed, or doesn't
silent_changes : (answer : Answer.Offer) → answer ≡ Offer.Silent true → changed_by answer ≡ false → ⊥
silent_changes answer is same = let clash : true ≡ false = sym (ap changed_by is) ∙ same in cc

no_packet : false ≡ true → ⊥
no_packet is = cc

-- THE CLIENT OF DHCP

module _ (cx : ContextValue) (v v' : DhcpValue) (answer : Answer.Offer) where
  dhcp_has : (turn : DhcpTurn.Turn) → DhcpOffers.OffersAs turn cx v answer v' → HasPacket answer (Dhcps.offered_packet v')
  dhcp_has D.Wait offers = rw (offers.0, offers.1) tt
  dhcp_has D.GiveUp offers = rw (offers.0, offers.1) tt
  dhcp_has (D.Send kind) offers = rw (offers.0, offers.1.offers) tt

  pub dhcp_packet : DhcpOffers.Offers cx v answer v' → HasPacket answer (Dhcps.offered_packet v')
  dhcp_packet offers = dhcp_has (DhcpStates.turn_of cx.instant v.settings.retry.request_retries v.state) offers

  dhcp_stays : (turn : DhcpTurn.Turn) → DhcpOffers.OffersAs turn cx v answer v' → changed_by answer ≡ false → Dhcps.unoffered v' ≡ Dhcps.unoffered v
  dhcp_stays D.Wait offers same = ap (λ (w : DhcpValue). Dhcps.unoffered w) offers.1
  dhcp_stays D.GiveUp offers same = absurd (silent_changes answer offers.0 same)
  dhcp_stays (D.Send kind) offers same = ap (λ (w : DhcpValue). Dhcps.unoffered w) offers.1.offers

  pub dhcp_same : DhcpOffers.Offers cx v answer v' → changed_by answer ≡ false → Dhcps.unoffered v' ≡ Dhcps.unoffered v
  dhcp_same offers same = dhcp_stays (DhcpStates.turn_of cx.instant v.settings.retry.request_retries v.state) offers same

  -- an offer that is open doesn't count
  dhcp_closed_for : (kind : Kind) → DhcpOffers.Sends cx.instant cx.ip_mtu v kind v' → DhcpOffers.Sends cx.instant cx.ip_mtu (Dhcps.unoffered v) kind v'
  dhcp_closed_for K.Discover s = record { message = s.message; is_request = s.is_request; offers = s.offers }
  dhcp_closed_for (K.Request to) s = record { message = s.message; is_request = s.is_request; offers = s.offers }
  dhcp_closed_for (K.Renew lease) s = record { message = s.message; is_request = s.is_request; offers = s.offers }
  dhcp_closed_for (K.Rebind lease) s = record { message = s.message; is_request = s.is_request; offers = s.offers }

  dhcp_open_for : (kind : Kind) → DhcpOffers.Sends cx.instant cx.ip_mtu (Dhcps.unoffered v) kind v' → DhcpOffers.Sends cx.instant cx.ip_mtu v kind v'
  dhcp_open_for K.Discover s = record { message = s.message; is_request = s.is_request; offers = s.offers }
  dhcp_open_for (K.Request to) s = record { message = s.message; is_request = s.is_request; offers = s.offers }
  dhcp_open_for (K.Renew lease) s = record { message = s.message; is_request = s.is_request; offers = s.offers }
  dhcp_open_for (K.Rebind lease) s = record { message = s.message; is_request = s.is_request; offers = s.offers }

  dhcp_closed : (turn : DhcpTurn.Turn) → DhcpOffers.OffersAs turn cx v answer v' → DhcpOffers.OffersAs turn cx (Dhcps.unoffered v) answer v'
  dhcp_closed D.Wait offers = offers
  dhcp_closed D.GiveUp offers = offers
  dhcp_closed (D.Send kind) offers = (offers.0, dhcp_closed_for kind offers.1)

  dhcp_open : (turn : DhcpTurn.Turn) → DhcpOffers.OffersAs turn cx (Dhcps.unoffered v) answer v' → DhcpOffers.OffersAs turn cx v answer v'
  dhcp_open D.Wait offers = offers
  dhcp_open D.GiveUp offers = offers
  dhcp_open (D.Send kind) offers = (offers.0, dhcp_open_for kind offers.1)

  pub dhcp_unoffered : DhcpOffers.Offers cx v answer v' → DhcpOffers.Offers cx (Dhcps.unoffered v) answer v'
  dhcp_unoffered offers = dhcp_closed (DhcpStates.turn_of cx.instant v.settings.retry.request_retries v.state) offers

  pub dhcp_offered : DhcpOffers.Offers cx (Dhcps.unoffered v) answer v' → DhcpOffers.Offers cx v answer v'
  dhcp_offered offers = dhcp_open (DhcpStates.turn_of cx.instant v.settings.retry.request_retries v.state) offers

  dhcp_kept : (turn : DhcpTurn.Turn) → DhcpOffers.OffersAs turn cx v answer v' → IsSome (Dhcps.offered_packet v') → Dhcps.unoffered v' ≡ Dhcps.unoffered v
  dhcp_kept D.Wait offers some = ap (λ (w : DhcpValue). Dhcps.unoffered w) offers.1
  dhcp_kept D.GiveUp offers some = absurd (no_packet (subst (λ (w : DhcpValue). IsSome (Dhcps.offered_packet w)) offers.1 some))
  dhcp_kept (D.Send kind) offers some = ap (λ (w : DhcpValue). Dhcps.unoffered w) offers.1.offers

  pub dhcp_again : DhcpOffers.Offers cx v answer v' → IsSome (Dhcps.offered_packet v') → DhcpOffers.Offers cx (Dhcps.unoffered v') answer v'
  dhcp_again offers some =
      subst (λ (w : DhcpValue). DhcpOffers.Offers cx w answer v')
      (sym (dhcp_kept (DhcpStates.turn_of cx.instant v.settings.retry.request_retries v.state) offers some)) (dhcp_unoffered offers)

-- THE CLIENT OF DNS

module _ (cx : ContextValue) (v v' : DnsValue) (answer : Answer.Offer) where
  dns_sends : (q : Query) → v.state ≡ S.Pending q → (turn : DnsTurn.Turn) → DnsOffers.OffersAs turn cx v answer v' → HasPacket answer (Dnss.offered_packet v')
  dns_sends q is N.Wait offers = rw (offers.0, offers.1) tt
  dns_sends q is N.Next offers = rw (offers.0, offers.1) tt
  dns_sends q is (N.Send s) offers =
      let sent : HasPacket (Offer.Packet false) (Dnss.packet_in (Dnss.open_in v.state v.message s)) =
      subst (λ (state : State). HasPacket (Offer.Packet false) (Dnss.packet_in (Dnss.open_in state v.message s))) (sym is) tt in
      rw (offers.0, offers.1) sent

  dns_has : (state : State) → v.state ≡ state → DnsOffers.OffersAs (DnsOffers.turn_in state cx v) cx v answer v' →
      HasPacket answer (Dnss.offered_packet v')
  dns_has S.Idle is offers = rw (offers.0, offers.1) tt
  dns_has (S.Pending q) is offers = dns_sends q is (DnsOffers.turn_of cx v q) offers
  dns_has (S.Completed found) is offers = rw (offers.0, offers.1) tt
  dns_has S.Failed is offers = rw (offers.0, offers.1) tt
  dns_has S.Unanswered is offers = rw (offers.0, offers.1) tt

  pub dns_packet : DnsOffers.Offers cx v answer v' → HasPacket answer (Dnss.offered_packet v')
  dns_packet offers = dns_has v.state refl offers

  dns_stays : (turn : DnsTurn.Turn) → DnsOffers.OffersAs turn cx v answer v' → changed_by answer ≡ false → Dnss.unoffered v' ≡ Dnss.unoffered v
  dns_stays N.Wait offers same = ap (λ (w : DnsValue). Dnss.unoffered w) offers.1
  dns_stays N.Next offers same = absurd (silent_changes answer offers.0 same)
  dns_stays (N.Send s) offers same = ap (λ (w : DnsValue). Dnss.unoffered w) offers.1

  pub dns_same : DnsOffers.Offers cx v answer v' → changed_by answer ≡ false → Dnss.unoffered v' ≡ Dnss.unoffered v
  dns_same offers same = dns_stays (DnsOffers.turn_in v.state cx v) offers same

  dns_kept : (turn : DnsTurn.Turn) → DnsOffers.OffersAs turn cx v answer v' → IsSome (Dnss.offered_packet v') → Dnss.unoffered v' ≡ Dnss.unoffered v
  dns_kept N.Wait offers some = ap (λ (w : DnsValue). Dnss.unoffered w) offers.1
  dns_kept N.Next offers some = absurd (no_packet (subst (λ (w : DnsValue). IsSome (Dnss.offered_packet w)) offers.1 some))
  dns_kept (N.Send s) offers some = ap (λ (w : DnsValue). Dnss.unoffered w) offers.1

  -- an offer that is open doesn't count
  same_server : (server : Option IpAddress) (q : Query) → DnsOffers.sent_to server cx (Dnss.unoffered v) q ≡ DnsOffers.sent_to server cx v q
  same_server None q = refl
  same_server (Some server) q = refl

  same_turn : (state : State) → DnsOffers.turn_in state cx (Dnss.unoffered v) ≡ DnsOffers.turn_in state cx v
  same_turn S.Idle = refl
  same_turn (S.Pending q) =
      ap (λ (t : DnsTurn.Turn). if int_lt cx.instant (due_at q) then N.Wait else if int_le q.next_at cx.instant then N.Next else t)
      (same_server (Dnss.server_at v.servers q.server) q)
  same_turn (S.Completed found) = refl
  same_turn S.Failed = refl
  same_turn S.Unanswered = refl

  dns_closed : (turn : DnsTurn.Turn) → DnsOffers.OffersAs turn cx v answer v' → DnsOffers.OffersAs turn cx (Dnss.unoffered v) answer v'
  dns_closed N.Wait offers = offers
  dns_closed N.Next offers = offers
  dns_closed (N.Send s) offers = offers

  dns_open : (turn : DnsTurn.Turn) → DnsOffers.OffersAs turn cx (Dnss.unoffered v) answer v' → DnsOffers.OffersAs turn cx v answer v'
  dns_open N.Wait offers = offers
  dns_open N.Next offers = offers
  dns_open (N.Send s) offers = offers

  pub dns_unoffered : DnsOffers.Offers cx v answer v' → DnsOffers.Offers cx (Dnss.unoffered v) answer v'
  dns_unoffered offers =
      subst (λ (t : DnsTurn.Turn). DnsOffers.OffersAs t cx (Dnss.unoffered v) answer v') (sym (same_turn v.state))
      (dns_closed (DnsOffers.turn_in v.state cx v) offers)

  pub dns_offered : DnsOffers.Offers cx (Dnss.unoffered v) answer v' → DnsOffers.Offers cx v answer v'
  dns_offered offers =
      dns_open (DnsOffers.turn_in v.state cx v)
      (subst (λ (t : DnsTurn.Turn). DnsOffers.OffersAs t cx (Dnss.unoffered v) answer v') (same_turn v.state) offers)

  pub dns_again : DnsOffers.Offers cx v answer v' → IsSome (Dnss.offered_packet v') → DnsOffers.Offers cx (Dnss.unoffered v') answer v'
  dns_again offers some =
      subst (λ (w : DnsValue). DnsOffers.Offers cx w answer v') (sym (dns_kept (DnsOffers.turn_in v.state cx v) offers some)) (dns_unoffered offers)

-- what an offer answers and leaves is determined
pub dns_once : (cx : ContextValue) (v left right : DnsValue) (answer other : Answer.Offer) → DnsOffers.Offers cx v answer left →
    DnsOffers.Offers cx v other right → (answer ≡ other) × (left ≡ right)
dns_once cx v left right answer other = by (DnsOffers.turn_in v.state cx v) where
  by : (turn : DnsTurn.Turn) → DnsOffers.OffersAs turn cx v answer left → DnsOffers.OffersAs turn cx v other right → (answer ≡ other) × (left ≡ right)
  by N.Wait one two = (one.0 ∙ sym two.0, one.1 ∙ sym two.1)
  by N.Next one two = (one.0 ∙ sym two.0, one.1 ∙ sym two.1)
  by (N.Send s) one two = (one.0 ∙ sym two.0, one.1 ∙ sym two.1)
