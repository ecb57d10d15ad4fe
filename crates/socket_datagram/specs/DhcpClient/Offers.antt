-- What the client offers to send, and the state after it (RFC 2131, sections 4.1 and 4.4.5).
use Rattle.std.specs.Prelude.{◌≡◌, ℕ, ◌+◌, min, true, false, if◌then◌else◌, Option, Some, None, ℤ, ◌-ℤ◌, unsigned_abs, length}
use Rattle.socket_context.specs.Context.{ContextValue}
use Rattle.socket_context.specs.Packet.{packet_of, Datagram}
use Rattle.socket_context.specs.declared.offer.Offer.{Offer}
use Rattle.socket_context.specs.declared.offer.Offer.TheVariants as Answer
use Rattle.wire_dhcp.specs.Written.{written}
use Rattle.wire_dhcp.specs.declared.repr.DhcpRepr.{DhcpRepr}
use Rattle.socket_datagram.specs.DhcpClient.Moments.{later, at_least, first_wait, doubled, spread, renew_wait}
use Rattle.socket_datagram.specs.DhcpClient.Requests.{IsRequest, header_for}
use Rattle.socket_datagram.specs.DhcpClient.States.{turn_of}
use Rattle.socket_datagram.specs.DhcpClient.Value.{DhcpValue, begun, unoffered, least_wait, ports_of}
use Rattle.socket_datagram.specs.declared.dhcpv4.request.Kind.{Kind}
use Rattle.socket_datagram.specs.declared.dhcpv4.request.Kind.TheVariants.{Discover, Request, Renew, Rebind}
use Rattle.socket_datagram.specs.declared.dhcpv4.state.ClientState.{ClientState}
use Rattle.socket_datagram.specs.declared.dhcpv4.state.ClientState.TheVariants as S
use Rattle.socket_datagram.specs.declared.dhcpv4.state.Turn.{Turn}
use Rattle.socket_datagram.specs.declared.dhcpv4.state.Turn.TheVariants.{Wait, GiveUp, Send}

-- the number of a message's transaction: a request to a server has that of the offer
abbrev pub id_of : DhcpValue → Kind → ℕ
id_of v Discover = v.next_id
id_of v (Request s) = v.transaction_id
id_of v (Renew lease) = v.next_id
id_of v (Rebind lease) = v.next_id

-- how long the client waits for an offer that it asks for
abbrev pub wait_in : ClientState → ℕ → ℕ
wait_in (S.Selecting s) first = s.wait
wait_in (S.Init begins_at) first = first_wait first
wait_in (S.Requesting s) first = first_wait first
wait_in (S.Bound lease) first = first_wait first
wait_in (S.Renewing lease retry_at) first = first_wait first
wait_in (S.Rebinding lease retry_at) first = first_wait first

abbrev pub discover_wait : DhcpValue → ℕ
discover_wait v = wait_in v.state v.settings.retry.discover_timeout

-- the wait of a client with a lease that has so long until an instant of it
abbrev pub lease_wait : DhcpValue → ℤ → ℤ → ℕ
lease_wait v now instant = renew_wait (unsigned_abs (instant -ℤ now)) v.settings.retry.min_renew_timeout v.settings.retry.max_renew_timeout

-- a wait, and the least one
abbrev pub waits : DhcpValue → ℕ → ℕ
waits v wait = at_least wait (least_wait v.settings)

-- From when on a client may begin again that sends a message at this instant: after the first wait for an offer, whatever ended what it had. At
-- once where the host doesn't keep the requirements.
abbrev pub restart_of : ℤ → DhcpValue → Option ℤ
restart_of now v =
    if v.settings.host_requirements then Some (later now (waits v (spread (first_wait v.settings.retry.discover_timeout) v.next_word))) else None

-- the state after a message that was sent at this instant
abbrev pub next_of : ℤ → DhcpValue → Kind → ClientState
next_of now v Discover = S.Selecting (record {
  retry_at = later now (waits v (spread (discover_wait v) v.next_word));
  wait = doubled (discover_wait v);
})
next_of now v (Request s) = S.Requesting (record s {
  retry_at = later now (waits v (spread s.wait v.next_word));
  wait = doubled s.wait;
  retry = min (s.retry + 1) 65535;
})
next_of now v (Renew lease) = S.Renewing lease (later now (waits v (lease_wait v now lease.rebind_at)))
next_of now v (Rebind lease) = S.Rebinding lease (later now (waits v (lease_wait v now lease.expires_at)))

-- a message of this kind is offered
pub record Sends (now : ℤ) (mtu : ℕ) (v : DhcpValue) (kind : Kind) (v' : DhcpValue) : Type 0 where
  pub message : DhcpRepr
  pub is_request : IsRequest kind v.link_addr (id_of v kind) mtu v.parameters v.options message
  pub offers : v' ≡ record v {
    offered = Some (record {
      packet = packet_of (header_for kind (length (written message))) (Datagram (ports_of v.settings) (written message));
      transaction_id = id_of v kind;
      next = next_of now v kind;
      restart_at = restart_of now v;
    });
  }

-- what the turn of the instant does
abbrev pub OffersAs : Turn → ContextValue → DhcpValue → Offer → DhcpValue → Type 0
OffersAs Wait cx v answer v' = (answer ≡ Answer.Silent false) × (v' ≡ unoffered v)
OffersAs GiveUp cx v answer v' = (answer ≡ Answer.Silent true) × (v' ≡ begun v)
OffersAs (Send kind) cx v answer v' = (answer ≡ Answer.Packet false) × Sends cx.instant cx.ip_mtu v kind v'

abbrev pub Offers : ContextValue → DhcpValue → Offer → DhcpValue → Type 0
Offers cx v answer v' = OffersAs (turn_of cx.instant v.settings.retry.request_retries v.state) cx v answer v'
