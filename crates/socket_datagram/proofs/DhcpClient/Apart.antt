-- Between two messages of a client lies a second.
use Rattle.std.proofs.Common.{◌≡◌, ◌≢◌, ◌⊎◌, inl, inr, ℕ, ◌≤◌, Bool, true, false, ◌&&◌, not, if◌then◌else◌, ℤ, pos, ◌≤ℤ◌, ◌+ℤ◌, int_lt, int_le}
use Rattle.std.proofs.Common.{List, Option, Some, None, refl, sym, ap, ◌∙◌, subst, arith}
use Rattle.std.specs.Prelude.{nat_le, min, max}
use Rattle.ip_wire.specs.IpRepr.{IpRepr}
use Rattle.ip_wire.specs.IpRepr.TheVariants as Ip
use Rattle.ip_wire.specs.Ipv4Address.{Ipv4Address}
use Rattle.ip_wire.specs.Ipv4Cidr.{Ipv4Cidr}
use Rattle.ip_wire.specs.UdpRepr.{UdpRepr}
use Rattle.net_base.specs.Time.{last_instant}
use Rattle.socket_context.specs.Context.{ContextValue}
use Rattle.socket_context.specs.declared.offer.Offer.{Offer}
use Rattle.socket_context.specs.declared.offer.Offer.TheVariants as Answer
use Rattle.wire_dhcp.specs.declared.message_type.DhcpMessageType.{DhcpMessageType}
use Rattle.wire_dhcp.specs.declared.message_type.DhcpMessageType.TheVariants as Of
use Rattle.wire_dhcp.specs.Written.{encoded}
use Rattle.wire_dhcp.specs.declared.option.DhcpOption.{DhcpOption}
use Rattle.wire_dhcp.specs.declared.repr.DhcpRepr.{DhcpRepr}
use Rattle.socket_datagram.specs.DhcpClient.Answers.{is_answer, chosen, offer_in, bound_to, told_by, told_from, ProcessedFrom, Processed}
use Rattle.socket_datagram.specs.DhcpClient.Events.{is_over, initial, untold}
use Rattle.socket_datagram.specs.DhcpClient.Laws.{Comes, IsFirstRequest}
use Rattle.socket_datagram.specs.DhcpClient.Laws as C
use Rattle.socket_datagram.specs.DhcpClient.Leases.{is_leasable, server_in, lease_in, lease_with, lease_span, micros_of, spans_of}
use Rattle.socket_datagram.specs.DhcpClient.Moments.{later, at_least, spread, first_wait}
use Rattle.socket_datagram.specs.DhcpClient.Offers.{Offers, OffersAs, next_of, waits, restart_of, discover_wait, lease_wait}
use Rattle.socket_datagram.specs.DhcpClient.States.{lease_of, is_asked, turn_before, turn_of, turn_with}
use Rattle.socket_datagram.specs.DhcpClient.Value.{DhcpValue, accepts, begun, unoffered, settled, sent_from, least_wait, with_settings, with_parameters, with_options}
use Rattle.socket_datagram.specs.declared.dhcpv4.config.ServerInfo.{ServerInfo}
use Rattle.socket_datagram.specs.declared.dhcpv4.config.Settings.{Settings}
use Rattle.socket_datagram.specs.declared.dhcpv4.lease.Lease.{Lease}
use Rattle.socket_datagram.specs.declared.dhcpv4.lease.Spans.{Spans}
use Rattle.socket_datagram.specs.declared.dhcpv4.request.Kind.{Kind}
use Rattle.socket_datagram.specs.declared.dhcpv4.request.Kind.TheVariants as K
use Rattle.socket_datagram.specs.declared.dhcpv4.state.ClientState.{ClientState}
use Rattle.socket_datagram.specs.declared.dhcpv4.state.ClientState.TheVariants as S
use Rattle.socket_datagram.specs.declared.dhcpv4.state.Turn.{Turn}
use Rattle.socket_datagram.specs.declared.dhcpv4.state.Turn.TheVariants as T

-- an instant from which on something goes is not before another
abbrev From : ℤ → Option ℤ → Type 0
From t None = ⊥
From t (Some begins_at) = t ≤ℤ begins_at

-- no message goes before it but the first request for an offer
abbrev RestsIn : ℤ → ClientState → Type 0
RestsIn t (S.Init begins_at) = From t begins_at
RestsIn t (S.Selecting s) = t ≤ℤ s.retry_at
RestsIn t (S.Requesting s) = (t ≤ℤ s.retry_at) ⊎ (s.retry ≡ 0)
RestsIn t (S.Bound lease) = t ≤ℤ lease.refresh_at
RestsIn t (S.Renewing lease retry_at) = t ≤ℤ retry_at
RestsIn t (S.Rebinding lease retry_at) = t ≤ℤ retry_at

-- and none does where the client begins again; the host keeps the requirements
record Rests (t : ℤ) (v : DhcpValue) : Type 0 where
  state : RestsIn t v.state
  restart : From t v.restart_at
  kept : v.settings.host_requirements ≡ true

-- A SECOND

far : (d : ℕ) → 1_000_000 ≤ min (max d 1_000_000) last_instant
far d = grind (arith)

in_time : (t now : ℤ) (d : ℕ) → t ≤ℤ (now +ℤ pos 1_000_000) → 1_000_000 ≤ d → t ≤ℤ (now +ℤ pos d)
in_time t now d before long = grind (arith)

floor : (t now : ℤ) (d : ℕ) → t ≤ℤ (now +ℤ pos 1_000_000) → t ≤ℤ later now (at_least d 1_000_000)
floor t now d before = in_time t now (min (max d 1_000_000) last_instant) before (far d)

least_is : (s : Settings) → s.host_requirements ≡ true → least_wait s ≡ 1_000_000
least_is s kept = ap (λ (t : Bool). if t then 1_000_000 else 0) kept

same_instant : (now : ℤ) → (now +ℤ pos 1_000_000) ≤ℤ (now +ℤ pos 1_000_000)
same_instant now = grind (arith)

waited : (now : ℤ) (v : DhcpValue) (d : ℕ) → v.settings.host_requirements ≡ true → (now +ℤ pos 1_000_000) ≤ℤ later now (waits v d)
waited now v d kept =
    subst (λ (n : ℕ). (now +ℤ pos 1_000_000) ≤ℤ later now (at_least d n)) (sym (least_is v.settings kept)) (floor (now +ℤ pos 1_000_000) now d (same_instant now))

-- WHAT IS SENT

next_rests : (now : ℤ) (v : DhcpValue) (kind : Kind) → v.settings.host_requirements ≡ true → RestsIn (now +ℤ pos 1_000_000) (next_of now v kind)
next_rests now v K.Discover kept = waited now v (spread (discover_wait v) v.next_word) kept
next_rests now v (K.Request s) kept = inl (waited now v (spread s.wait v.next_word) kept)
next_rests now v (K.Renew lease) kept = waited now v (lease_wait v now lease.rebind_at) kept
next_rests now v (K.Rebind lease) kept = waited now v (lease_wait v now lease.expires_at) kept

restarts : (now : ℤ) (v : DhcpValue) → v.settings.host_requirements ≡ true → From (now +ℤ pos 1_000_000) (restart_of now v)
restarts now v kept =
    subst
    (λ (t : Bool). From (now +ℤ pos 1_000_000)
    (if t then Some (later now (waits v (spread (first_wait v.settings.retry.discover_timeout) v.next_word))) else None))
    (sym kept)
    (waited now v (spread (first_wait v.settings.retry.discover_timeout) v.next_word) kept)

silent_packet : (changed : Bool) → (let answer : Offer = Answer.Packet false in answer) ≡ Answer.Silent changed → ⊥
silent_packet changed e = cc

by_turn : (cx : ContextValue) (v v' : DhcpValue) (turn : Turn) → v.settings.host_requirements ≡ true → OffersAs turn cx v (Answer.Packet false) v' →
    Rests (cx.instant +ℤ pos 1_000_000) (settled true v')
by_turn cx v v' T.Wait kept offers = absurd (silent_packet false offers.0)
by_turn cx v v' T.GiveUp kept offers = absurd (silent_packet true offers.0)
by_turn cx v v' (T.Send kind) kept offers =
    subst (λ (w : DhcpValue). Rests (cx.instant +ℤ pos 1_000_000) (settled true w)) (sym offers.1.offers)
    (record { state = next_rests cx.instant v kind kept; restart = restarts cx.instant v kept; kept = kept })

sent : (cx : ContextValue) (v v' : DhcpValue) → v.settings.host_requirements ≡ true → Offers cx v (Answer.Packet false) v' →
    Rests (cx.instant +ℤ pos 1_000_000) (settled true v')
sent cx v v' kept offers = by_turn cx v v' (turn_of cx.instant v.settings.retry.request_retries v.state) kept offers

-- WHAT COMES

closed : (t : ℤ) (v : DhcpValue) → Rests t v → Rests t (unoffered v)
closed t v rests = record { state = rests.state; restart = rests.restart; kept = rests.kept }

began : (t : ℤ) (v : DhcpValue) → Rests t v → Rests t (begun v)
began t v rests = record { state = rests.restart; restart = rests.restart; kept = rests.kept }

either : (t : ℤ) (test : Bool) (v w : DhcpValue) → Rests t v → Rests t w → Rests t (if test then v else w)
either t true v w one other = one
either t false v w one other = other

abbrev spans_in : DhcpRepr → Option ℕ → Spans
spans_in m most = spans_of (lease_span m.lease_duration most) (micros_of m.renew_duration) (micros_of m.rebind_duration)

abbrev given : ℤ → ServerInfo → DhcpRepr → Ipv4Cidr → Option ℕ → ℕ → Lease
given now server m cidr most least = lease_with now server m cidr (lease_span m.lease_duration most) (spans_in m most) least

module _ (t now : ℤ) (v : DhcpValue) (before : t ≤ℤ (now +ℤ pos 1_000_000)) (rests : Rests t v) where
  asked : (m : DhcpRepr) (most : Option ℕ) (least : ℕ) → least ≡ 1_000_000 → t ≤ℤ later now (at_least (spans_in m most).renew least)
  asked m most least is =
      subst (λ (n : ℕ). t ≤ℤ later now (at_least (spans_in m most).renew n)) (sym is) (floor t now (spans_in m most).renew before)

  bound : (server : ServerInfo) (m : DhcpRepr) (cidr : Option Ipv4Cidr) (most : Option ℕ) (least : ℕ) → least ≡ 1_000_000 →
      Rests t (bound_to v (lease_in now server m cidr most least))
  bound server m None most least is = rests
  bound server m (Some cidr) most least is = by (is_leasable m.your_ip (Some cidr)) where
    by : (test : Bool) → Rests t (bound_to v (if test then Some (given now server m cidr most least) else None))
    by true = record { state = asked m most least is; restart = rests.restart; kept = rests.kept }
    by false = rests

  offered : (server : ServerInfo) (m : DhcpRepr) (cidr : Option Ipv4Cidr) (s : ClientState) → Rests t (offer_in now server v m cidr s)
  offered server m cidr (S.Init begins_at) = rests
  offered server m cidr (S.Selecting s) =
      either t (is_leasable m.your_ip cidr) (record v {
        state = S.Requesting (record {
          retry_at = now;
          wait = first_wait v.settings.retry.initial_request_timeout;
          retry = 0;
          server = server;
          requested_ip = m.your_ip;
        });
      }) v (record { state = inr refl; restart = rests.restart; kept = rests.kept }) rests
  offered server m cidr (S.Requesting s) = rests
  offered server m cidr (S.Bound lease) = rests
  offered server m cidr (S.Renewing lease retry_at) = rests
  offered server m cidr (S.Rebinding lease retry_at) = rests

  typed : (type : DhcpMessageType) (server : ServerInfo) (m : DhcpRepr) (cidr : Option Ipv4Cidr) → Rests t (told_by type now server v m cidr)
  typed Of.Offer server m cidr = offered server m cidr v.state
  typed Of.Ack server m cidr =
      either t (is_asked v.state server) (bound_to v (lease_in now server m cidr v.settings.max_lease_duration (least_wait v.settings))) v
      (bound server m cidr v.settings.max_lease_duration (least_wait v.settings) (least_is v.settings rests.kept)) rests
  typed Of.Nak server m cidr = either t (is_asked v.state server && not v.settings.ignore_naks) (begun v) v (began t v rests) rests
  typed Of.Discover server m cidr = rests
  typed Of.Request server m cidr = rests
  typed Of.Decline server m cidr = rests
  typed Of.Release server m cidr = rests
  typed Of.Inform server m cidr = rests

  from : (server : Option ServerInfo) (m : DhcpRepr) (cidr : Option Ipv4Cidr) → Rests t (told_from server now v m cidr)
  from None m cidr = rests
  from (Some server) m cidr = typed m.message_type server m cidr

arrived : (t now : ℤ) (v v' : DhcpValue) (ip : IpRepr) (payload : List ℕ) (test : Bool) → t ≤ℤ (now +ℤ pos 1_000_000) → Rests t v →
    ProcessedFrom test now v ip payload v' → Rests t v'
arrived t now v v' (Ip.Ipv4 header) payload true before rests (inl takes) =
    subst (λ (w : DhcpValue). Rests t w) (sym takes.taken)
    (either t (is_answer v takes.message) (told_from (server_in header.src_addr takes.message) now (unoffered v) takes.message takes.cidr) (unoffered v)
    (from t now (unoffered v) before (closed t v rests) (server_in header.src_addr takes.message) takes.message takes.cidr) (closed t v rests))
arrived t now v v' (Ip.Ipv4 header) payload true before rests (inr none) = subst (λ (w : DhcpValue). Rests t w) (sym none.1) (closed t v rests)
arrived t now v v' (Ip.Ipv6 header) payload true before rests done = subst (λ (w : DhcpValue). Rests t w) (sym done) (closed t v rests)
arrived t now v v' ip payload false before rests done = subst (λ (w : DhcpValue). Rests t w) (sym done) (closed t v rests)

unsent : (t : ℤ) (cx : ContextValue) (v v' : DhcpValue) (answer : Offer) (turn : Turn) → Rests t v → OffersAs turn cx v answer v' → Rests t (settled false v')
unsent t cx v v' answer T.Wait rests offers = subst (λ (w : DhcpValue). Rests t (settled false w)) (sym offers.1) (closed t v rests)
unsent t cx v v' answer T.GiveUp rests offers = subst (λ (w : DhcpValue). Rests t (settled false w)) (sym offers.1) (began t v rests)
unsent t cx v v' answer (T.Send kind) rests offers = subst (λ (w : DhcpValue). Rests t (settled false w)) (sym offers.1.offers) (closed t v rests)

no_sooner : (since now : ℤ) → since ≤ℤ now → (since +ℤ pos 1_000_000) ≤ℤ (now +ℤ pos 1_000_000)
no_sooner since now h = grind (arith)

come : (since : ℤ) {v u : DhcpValue} → Comes since v u → Rests (since +ℤ pos 1_000_000) v → Rests (since +ℤ pos 1_000_000) u
come since C.nothing rests = rests
come since {u = u} (C.arrives {w = w} now ip repr payload so_far after done) rests =
    arrived (since +ℤ pos 1_000_000) now w u ip payload (accepts w ip repr) (no_sooner since now after) (come since so_far rests) done
come since (C.begins {w = w} so_far) rests = began (since +ℤ pos 1_000_000) w (come since so_far rests)
come since (C.tells {w = w} now so_far) rests =
    let before = come since so_far rests in
    let done = either (since +ℤ pos 1_000_000) (is_over now (lease_of w.state)) (begun w) (unoffered w) (began (since +ℤ pos 1_000_000) w before)
    (closed (since +ℤ pos 1_000_000) w before) in
    record { state = done.state; restart = done.restart; kept = done.kept }
come since (C.offers {w = w} left cx answer so_far done) rests =
    unsent (since +ℤ pos 1_000_000) cx w left answer (turn_of cx.instant w.settings.retry.request_retries w.state) (come since so_far rests) done
come since (C.sets settings so_far kept) rests =
    let before = come since so_far rests in
    record { state = before.state; restart = before.restart; kept = kept }
come since (C.asks_for {w = w} codes taken so_far) rests =
    let before = come since so_far rests in
    either (since +ℤ pos 1_000_000) taken (record w { parameters = codes; offered = None }) w
    (record { state = before.state; restart = before.restart; kept = before.kept }) before
come since (C.carries {w = w} options taken so_far) rests =
    let before = come since so_far rests in
    either (since +ℤ pos 1_000_000) taken (record w { options = encoded options; offered = None }) w
    (record { state = before.state; restart = before.restart; kept = before.kept }) before

-- WHAT IS SENT NEXT

not_early : (t now begins_at : ℤ) → t ≤ℤ begins_at → int_lt now begins_at ≡ false → t ≤ℤ now
not_early t now begins_at from e = grind (arith)

send_wait : (kind : Kind) → T.Wait ≡ T.Send kind → ⊥
send_wait kind e = cc

send_end : (kind : Kind) → T.GiveUp ≡ T.Send kind → ⊥
send_end kind e = cc

due : (t now begins_at : ℤ) (next : Turn) (kind : Kind) → t ≤ℤ begins_at → (if int_lt now begins_at then T.Wait else next) ≡ T.Send kind → t ≤ℤ now
due t now begins_at next kind from e = by (int_lt now begins_at) refl e where
  by : (early : Bool) → int_lt now begins_at ≡ early → (if early then T.Wait else next) ≡ T.Send kind → t ≤ℤ now
  by true is e = absurd (send_wait kind e)
  by false is e = not_early t now begins_at from is

abbrev asks_more : ℤ → Lease → Turn
asks_more now lease = if int_lt now lease.rebind_at then T.Send (K.Renew lease) else T.Send (K.Rebind lease)

with_lease : (t now : ℤ) (lease : Lease) (ask_at : ℤ) (kind : Kind) → t ≤ℤ ask_at → turn_with now lease ask_at ≡ T.Send kind → t ≤ℤ now
with_lease t now lease ask_at kind from e = by (int_le lease.expires_at now) e where
  by : (ended : Bool) → (if ended then T.GiveUp else if int_lt now ask_at then T.Wait else asks_more now lease) ≡ T.Send kind → t ≤ℤ now
  by true e = absurd (send_end kind e)
  by false e = due t now ask_at (asks_more now lease) kind from e

begins : (t now : ℤ) (begins_at : Option ℤ) (kind : Kind) → From t begins_at → turn_before now begins_at ≡ T.Send kind → t ≤ℤ now
begins t now None kind from e = absurd from
begins t now (Some begins_at) kind from e = due t now begins_at (T.Send K.Discover) kind from e

next : (t now : ℤ) (retries : ℕ) (s : ClientState) (kind : Kind) → RestsIn t s → turn_of now retries s ≡ T.Send kind → (t ≤ℤ now) ⊎ IsFirstRequest s
next t now retries (S.Init begins_at) kind rests e = inl (begins t now begins_at kind rests e)
next t now retries (S.Selecting s) kind rests e = inl (due t now s.retry_at (T.Send K.Discover) kind rests e)
next t now retries (S.Requesting s) kind (inl rests) e =
    inl (due t now s.retry_at (if nat_le retries s.retry then T.GiveUp else T.Send (K.Request s)) kind rests e)
next t now retries (S.Requesting s) kind (inr first) e = inr first
next t now retries (S.Bound lease) kind rests e = inl (with_lease t now lease lease.refresh_at kind rests e)
next t now retries (S.Renewing lease retry_at) kind rests e = inl (with_lease t now lease retry_at kind rests e)
next t now retries (S.Rebinding lease retry_at) kind rests e = inl (with_lease t now lease retry_at kind rests e)

sends : (t : ℤ) (cx : ContextValue) (v v' : DhcpValue) (turn : Turn) → turn_of cx.instant v.settings.retry.request_retries v.state ≡ turn → Rests t v →
    OffersAs turn cx v (Answer.Packet false) v' → (t ≤ℤ cx.instant) ⊎ IsFirstRequest v.state
sends t cx v v' T.Wait is rests offers = absurd (silent_packet false offers.0)
sends t cx v v' T.GiveUp is rests offers = absurd (silent_packet true offers.0)
sends t cx v v' (T.Send kind) is rests offers = next t cx.instant v.settings.retry.request_retries v.state kind rests.state is

pub apart : (cx after : ContextValue) (v v' w w' : DhcpValue) → v.settings.host_requirements ≡ true → Offers cx v (Answer.Packet false) v'
    → Comes cx.instant (settled true v') w → Offers after w (Answer.Packet false) w' →
    ((cx.instant +ℤ pos 1_000_000) ≤ℤ after.instant) ⊎ IsFirstRequest w.state
apart cx after v v' w w' kept first between second =
    sends (cx.instant +ℤ pos 1_000_000) after w w' (turn_of after.instant w.settings.retry.request_retries w.state) refl
    (come cx.instant between (sent cx v v' kept first)) second
