-- The client's states (RFC 2131, section 4.4 and figure 5), and what time does to them. In INIT it asks for offers, from an instant on if
-- there is one; in SELECTING
-- it waits for one, and asks again; in REQUESTING it asks a server for what that offered; in BOUND it has a lease; in
-- RENEWING, from T1 on, it asks the lease's server for more, and in REBINDING, from T2 on, all servers. At the lease's end it begins again.
use Rattle.std.specs.Prelude.{ℕ, nat_le, ℤ, int_le, int_lt, Bool, true, false, if◌then◌else◌, Option, Some, None}
use Rattle.std.specs.Str.{bytes_eq}
use Rattle.socket_context.specs.declared.poll_at.PollAt.{PollAt}
use Rattle.socket_context.specs.declared.poll_at.PollAt.TheVariants as At
use Rattle.socket_datagram.specs.DhcpClient.Moments.{earlier}
use Rattle.socket_datagram.specs.declared.dhcpv4.config.ServerInfo.{ServerInfo}
use Rattle.socket_datagram.specs.declared.dhcpv4.lease.Lease.{Lease}
use Rattle.socket_datagram.specs.declared.dhcpv4.request.Kind.TheVariants.{Discover, Request, Renew, Rebind}
use Rattle.socket_datagram.specs.declared.dhcpv4.state.ClientState.{ClientState}
use Rattle.socket_datagram.specs.declared.dhcpv4.state.ClientState.TheVariants.{Init, Selecting, Requesting, Bound, Renewing, Rebinding}
use Rattle.socket_datagram.specs.declared.dhcpv4.state.Turn.{Turn}
use Rattle.socket_datagram.specs.declared.dhcpv4.state.Turn.TheVariants.{Wait, GiveUp, Send}

-- the lease, if there is one
abbrev pub lease_of : ClientState → Option Lease
lease_of (Init begins_at) = None
lease_of (Selecting s) = None
lease_of (Requesting s) = None
lease_of (Bound lease) = Some lease
lease_of (Renewing lease retry_at) = Some lease
lease_of (Rebinding lease retry_at) = Some lease

-- with a lease: nothing before the instant to ask for more; then the lease's server up to T2, and all servers from then on
abbrev pub turn_with : ℤ → Lease → ℤ → Turn
turn_with now lease ask_at =
    if int_le lease.expires_at now then GiveUp
    else if int_lt now ask_at then Wait
    else if int_lt now lease.rebind_at then Send (Renew lease)
    else Send (Rebind lease)

-- a client that has nothing asks for offers from this instant on, or at once
abbrev pub turn_before : ℤ → Option ℤ → Turn
turn_before now None = Send Discover
turn_before now (Some begins_at) = if int_lt now begins_at then Wait else Send Discover

-- what is done at an instant by a client that begins again after so many requests without an answer
abbrev pub turn_of : ℤ → ℕ → ClientState → Turn
turn_of now retries (Init begins_at) = turn_before now begins_at
turn_of now retries (Selecting s) = if int_lt now s.retry_at then Wait else Send Discover
turn_of now retries (Requesting s) =
    if int_lt now s.retry_at then Wait else if nat_le retries s.retry then GiveUp else Send (Request s)
turn_of now retries (Bound lease) = turn_with now lease lease.refresh_at
turn_of now retries (Renewing lease retry_at) = turn_with now lease retry_at
turn_of now retries (Rebinding lease retry_at) = turn_with now lease retry_at

abbrev pub poll_before : Option ℤ → PollAt
poll_before None = At.Now
poll_before (Some begins_at) = At.Time begins_at

-- when there is something to do next
abbrev pub poll_of : ClientState → PollAt
poll_of (Init begins_at) = poll_before begins_at
poll_of (Selecting s) = At.Time s.retry_at
poll_of (Requesting s) = At.Time s.retry_at
poll_of (Bound lease) = At.Time (earlier lease.expires_at lease.refresh_at)
poll_of (Renewing lease retry_at) = At.Time (earlier lease.expires_at retry_at)
poll_of (Rebinding lease retry_at) = At.Time (earlier lease.expires_at retry_at)

-- two servers have one identifier
abbrev pub is_same : ServerInfo → ServerInfo → Bool
is_same one other = bytes_eq one.identifier.0 other.identifier.0

-- the client waits for an acknowledgement of this server: of the one that it asked, or of any in REBINDING
abbrev pub is_asked : ClientState → ServerInfo → Bool
is_asked (Init begins_at) server = false
is_asked (Selecting s) server = false
is_asked (Requesting s) server = is_same s.server server
is_asked (Bound lease) server = false
is_asked (Renewing lease retry_at) server = is_same lease.config.server server
is_asked (Rebinding lease retry_at) server = true
