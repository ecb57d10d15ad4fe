-- A socket of any kind that was silent isn't due any more.
use Rattle.std.proofs.Common.{◌≡◌, ℕ, nat_le, Bool, true, false, if◌then◌else◌, ℤ, ◌<ℤ◌, int_lt, int_le, List, Option, Some, None, is_some, refl, sym, ap, ◌∙◌}
use Rattle.std.proofs.Common.{subst, arith}
use Rattle.std.proofs.lemmas.Bool.{cond_both}
use Rattle.ip_wire.specs.IpAddress.{IpAddress}
use Rattle.ip_wire.specs.IpRepr.{IpRepr}
use Rattle.sockets.specs.Context.{ContextValue}
use Rattle.sockets.specs.Polling.{IsBefore}
use Rattle.sockets.specs.Offer.TheVariants as Offer
use Rattle.sockets.specs.Packet.{PacketValue}
use Rattle.sockets.specs.PollAt.TheVariants as At
use Rattle.socket_datagram.specs.Offers.{OffersFirst, OffersBy, answer_with}
use Rattle.socket_datagram.specs.SocketValue as Datagrams
use Rattle.socket_datagram.specs.SocketValue.{SocketValue}
use Rattle.socket_datagram.specs.Icmp as Icmps
use Rattle.socket_datagram.specs.Raw as Raws
use Rattle.socket_datagram.specs.Udp as Udps
use Rattle.sockets.specs.Socket.{Offers, poll_of}
use Rattle.sockets.specs.declared.socket.Socket.{Socket}
use Rattle.sockets.specs.declared.socket.Socket.TheVariants as Kind
use Rattle.net_base.specs.Packets.{first}
use Rattle.socket_datagram.specs.DhcpClient.Moments.{earlier}
use Rattle.socket_datagram.specs.DhcpClient.Offers as DhcpOffers
use Rattle.socket_datagram.specs.DhcpClient.States as DhcpStates
use Rattle.socket_datagram.specs.DhcpClient.Value.{DhcpValue}
use Rattle.socket_datagram.specs.declared.dhcpv4.lease.Lease.{Lease}
use Rattle.socket_datagram.specs.declared.dhcpv4.request.Kind.TheVariants.{Discover, Request, Renew, Rebind}
use Rattle.socket_datagram.specs.declared.dhcpv4.state.ClientState.{ClientState}
use Rattle.socket_datagram.specs.declared.dhcpv4.state.ClientState.TheVariants as Client
use Rattle.socket_datagram.specs.declared.dhcpv4.state.Turn.{Turn}
use Rattle.socket_datagram.specs.declared.dhcpv4.state.Turn.TheVariants as Does
use Rattle.socket_datagram.specs.DnsClient.Offers as DnsOffers
use Rattle.socket_datagram.specs.DnsClient.Turns as DnsTurns
use Rattle.socket_datagram.specs.DnsClient.Value as Dnss
use Rattle.socket_datagram.specs.DnsClient.Value.{DnsValue}
use Rattle.socket_datagram.specs.declared.dns.query.Query.{Query}
use Rattle.socket_datagram.specs.declared.dns.query.Turn as DnsTurn
use Rattle.socket_datagram.specs.declared.dns.query.Turn.TheVariants as Asks
use Rattle.socket_datagram.specs.declared.dns.state.State.{State}
use Rattle.socket_datagram.specs.declared.dns.state.State.TheVariants as Names
use Rattle.proof_stack.specs.Progress.Patience.{IsPatient}
use Rattle.proof_stack.proofs.Polls.TcpRests.{tcp_rests}

-- SOCKETS OF DATAGRAMS

module _ {H S : Type 0} (Takes : S → H × List ℕ → PacketValue → Type 0) (now : ℤ) (v v' : SocketValue H S) where
  no_answer : (o : Option PacketValue) → Offer.Silent false ≡ answer_with o → ⊥
  no_answer None is = cc
  no_answer (Some p) is = cc

  first_rests : (f : Option (H × List ℕ)) → first v.queued ≡ f → OffersFirst Takes v f (Offer.Silent false) v' → IsBefore now (Datagrams.poll_of v')
  first_rests None is offers =
      let none : first v'.queued ≡ None = ap (λ (w : SocketValue H S). first w.queued) offers.1 ∙ is in
      subst (λ (o : Option (H × List ℕ)). IsBefore now (if is_some o then At.Now else At.Ingress)) (sym none) tt
  first_rests (Some q) is offers = absurd (no_answer v'.offered offers.1)

  datagrams_rest : OffersBy Takes v (Offer.Silent false) v' → IsBefore now (Datagrams.poll_of v')
  datagrams_rest offers = first_rests (first v.queued) refl offers

-- THE CLIENT OF DHCP

to_come : (now m : ℤ) → int_lt now m ≡ true → now <ℤ m
to_come now m e = grind (arith)

not_over : (now m : ℤ) → int_le m now ≡ false → now <ℤ m
not_over now m e = grind (arith)

before_both : (now a b : ℤ) → now <ℤ a → now <ℤ b → now <ℤ earlier a b
before_both now a b one two = by (int_lt b a) where
  by : (test : Bool) → now <ℤ (if test then b else a)
  by true = two
  by false = one

module _ (cx : ContextValue) (v v' : DhcpValue) where
  abbrev Silent : Turn → Type 0
  Silent turn = DhcpOffers.OffersAs turn cx v (Offer.Silent false) v'

  given_up : {X : Type 0} → Silent Does.GiveUp → X
  given_up {X} offers = absurd (let is : Offer.Silent false ≡ Offer.Silent true = offers.0 in cc)

  sent : {X : Type 0} (kind : Rattle.socket_datagram.specs.declared.dhcpv4.request.Kind.Kind) → Silent (Does.Send kind) → X
  sent {X} kind offers = absurd (let is : Offer.Silent false ≡ Offer.Packet false = offers.0 in cc)

  with_rests : (now : ℤ) (lease : Lease) (ask_at : ℤ) → Silent (DhcpStates.turn_with now lease ask_at) → now <ℤ earlier lease.expires_at ask_at
  with_rests now lease ask_at =
      cond_both (int_le lease.expires_at now) Does.GiveUp
      (if int_lt now ask_at then Does.Wait else if int_lt now lease.rebind_at then Does.Send (Renew lease) else Does.Send (Rebind lease))
      (λ (t : Turn). Silent t → now <ℤ earlier lease.expires_at ask_at)
      (λ _ offers. given_up offers)
      (λ lasts. cond_both (int_lt now ask_at) Does.Wait (if int_lt now lease.rebind_at then Does.Send (Renew lease) else Does.Send (Rebind lease))
      (λ (t : Turn). Silent t → now <ℤ earlier lease.expires_at ask_at)
      (λ soon _. before_both now lease.expires_at ask_at (not_over now lease.expires_at lasts) (to_come now ask_at soon))
      (λ _. cond_both (int_lt now lease.rebind_at) (Does.Send (Renew lease)) (Does.Send (Rebind lease))
      (λ (t : Turn). Silent t → now <ℤ earlier lease.expires_at ask_at) (λ _ offers. sent (Renew lease) offers) (λ _ offers. sent (Rebind lease) offers)))

  begin_rests : (now : ℤ) (begins_at : Option ℤ) → Silent (DhcpStates.turn_before now begins_at) → IsBefore now (DhcpStates.poll_before begins_at)
  begin_rests now None offers = sent Discover offers
  begin_rests now (Some begins_at) offers =
      cond_both (int_lt now begins_at) Does.Wait (Does.Send Discover) (λ (t : Turn). Silent t → now <ℤ begins_at)
      (λ soon _. to_come now begins_at soon) (λ _ asks. sent Discover asks) offers

  state_rests : (now : ℤ) (retries : ℕ) (state : ClientState) → Silent (DhcpStates.turn_of now retries state) → IsBefore now (DhcpStates.poll_of state)
  state_rests now retries (Client.Init begins_at) offers = begin_rests now begins_at offers
  state_rests now retries (Client.Selecting s) offers =
      cond_both (int_lt now s.retry_at) Does.Wait (Does.Send Discover) (λ (t : Turn). Silent t → now <ℤ s.retry_at)
      (λ soon _. to_come now s.retry_at soon) (λ _ asks. sent Discover asks) offers
  state_rests now retries (Client.Requesting s) offers =
      cond_both (int_lt now s.retry_at) Does.Wait (if nat_le retries s.retry then Does.GiveUp else Does.Send (Request s))
      (λ (t : Turn). Silent t → now <ℤ s.retry_at)
      (λ soon _. to_come now s.retry_at soon)
      (λ _. cond_both (nat_le retries s.retry) Does.GiveUp (Does.Send (Request s)) (λ (t : Turn). Silent t → now <ℤ s.retry_at)
      (λ _ asks. given_up asks) (λ _ asks. sent (Request s) asks)) offers
  state_rests now retries (Client.Bound lease) offers = with_rests now lease lease.refresh_at offers
  state_rests now retries (Client.Renewing lease retry_at) offers = with_rests now lease retry_at offers
  state_rests now retries (Client.Rebinding lease retry_at) offers = with_rests now lease retry_at offers

  same_state : (turn : Turn) → Silent turn → v'.state ≡ v.state
  same_state Does.Wait offers = ap (λ (w : DhcpValue). w.state) offers.1
  same_state Does.GiveUp offers = given_up offers
  same_state (Does.Send kind) offers = sent kind offers

  dhcp_rests : DhcpOffers.Offers cx v (Offer.Silent false) v' → IsBefore cx.instant (DhcpStates.poll_of v'.state)
  dhcp_rests offers =
      subst (λ (state : ClientState). IsBefore cx.instant (DhcpStates.poll_of state))
      (sym (same_state (DhcpStates.turn_of cx.instant v.settings.retry.request_retries v.state) offers))
      (state_rests cx.instant v.settings.retry.request_retries v.state offers)

-- THE CLIENT OF DNS

module _ (cx : ContextValue) (v v' : DnsValue) where
  abbrev IsSilent : DnsTurn.Turn → Type 0
  IsSilent turn = DnsOffers.OffersAs turn cx v (Offer.Silent false) v'

  proceeds : {X : Type 0} → IsSilent Asks.Next → X
  proceeds {X} offers = absurd (let is : Offer.Silent false ≡ Offer.Silent true = offers.0 in cc)

  asked : {X : Type 0} (s : Rattle.socket_datagram.specs.declared.dns.query.Sending.Sending) → IsSilent (Asks.Send s) → X
  asked {X} s offers = absurd (let is : Offer.Silent false ≡ Offer.Packet false = offers.0 in cc)

  with_header : {X : Type 0} (header : Option IpRepr) (now : ℤ) (server : IpAddress) (q : Query) → IsSilent (DnsOffers.sent_with header now server q) → X
  with_header {X} None now server q offers = proceeds offers
  with_header {X} (Some header) now server q offers =
      asked (record { header = header; server = server; retry_at = DnsTurns.retry_after now q.wait; wait = DnsTurns.doubled q.wait }) offers

  to_server : {X : Type 0} (server : Option IpAddress) (q : Query) → IsSilent (DnsOffers.sent_to server cx v q) → X
  to_server {X} None q offers = proceeds offers
  to_server {X} (Some server) q offers =
      with_header (DnsOffers.header_between (cx.source_for server) server (Rattle.std.specs.Prelude.length v.message)
      (DnsOffers.hop_limit_or_default v.hop_limit)) cx.instant server q offers

  query_rests : (q : Query) → IsSilent (DnsOffers.turn_of cx v q) → cx.instant <ℤ DnsTurns.due_at q
  query_rests q =
      cond_both (int_lt cx.instant (DnsTurns.due_at q)) Asks.Wait
      (if int_le q.next_at cx.instant then Asks.Next else DnsOffers.sent_to (Dnss.server_at v.servers q.server) cx v q)
      (λ (t : DnsTurn.Turn). IsSilent t → cx.instant <ℤ DnsTurns.due_at q)
      (λ soon _. to_come cx.instant (DnsTurns.due_at q) soon)
      (λ _. cond_both (int_le q.next_at cx.instant) Asks.Next (DnsOffers.sent_to (Dnss.server_at v.servers q.server) cx v q)
      (λ (t : DnsTurn.Turn). IsSilent t → cx.instant <ℤ DnsTurns.due_at q)
      (λ _ offers. proceeds offers) (λ _ offers. to_server (Dnss.server_at v.servers q.server) q offers))

  in_state : (state : State) → IsSilent (DnsOffers.turn_in state cx v) → IsBefore cx.instant (DnsTurns.poll_of state)
  in_state Names.Idle offers = tt
  in_state (Names.Pending q) offers = query_rests q offers
  in_state (Names.Completed found) offers = tt
  in_state Names.Failed offers = tt
  in_state Names.Unanswered offers = tt

  same_query : (turn : DnsTurn.Turn) → IsSilent turn → v'.state ≡ v.state
  same_query Asks.Wait offers = ap (λ (w : DnsValue). w.state) offers.1
  same_query Asks.Next offers = proceeds offers
  same_query (Asks.Send s) offers = asked s offers

  dns_rests : DnsOffers.Offers cx v (Offer.Silent false) v' → IsBefore cx.instant (DnsTurns.poll_of v'.state)
  dns_rests offers =
      subst (λ (state : State). IsBefore cx.instant (DnsTurns.poll_of state)) (sym (same_query (DnsOffers.turn_in v.state cx v) offers))
      (in_state v.state offers)

-- ANY SOCKET

pub rests : (cx : ContextValue) (s s' : Socket) → IsPatient s → Offers cx s (Offer.Silent false) s' → IsBefore cx.instant (poll_of cx s')
rests cx (Kind.Raw v) (Kind.Raw v') patient offers = datagrams_rest Raws.TakesPacket cx.instant v v' offers
rests cx (Kind.Icmp v) (Kind.Icmp v') patient offers = datagrams_rest (Icmps.TakesMessage cx) cx.instant v v' offers
rests cx (Kind.Udp v) (Kind.Udp v') patient offers = datagrams_rest (Udps.TakesDatagram cx) cx.instant v v' offers
rests cx (Kind.Tcp v) (Kind.Tcp v') patient offers =
    subst (λ (w : Rattle.tcp_block.specs.Value.TcpValue). IsBefore cx.instant (Rattle.tcp_block.specs.Due.poll_of cx.ip_mtu w)) (sym offers.1)
    (tcp_rests cx v patient (sym offers.0))
rests cx (Kind.Dhcpv4 v) (Kind.Dhcpv4 v') patient offers = dhcp_rests cx v v' offers
rests cx (Kind.Dns v) (Kind.Dns v') patient offers = dns_rests cx v v' offers
rests cx s s' patient offers = absurd offers
