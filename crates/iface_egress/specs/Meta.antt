-- Sockets that wait for a neighbour: a mark with the neighbour, the instant since when the socket waits for it, and the instant when
-- it is asked again.
use Rattle.std.specs.Prelude.{ℕ, ℤ, pos, ◌-ℤ◌, int_lt, Bool, true, false, not, ◌&&◌, if◌then◌else◌, Option, None, Some}
use Rattle.ip_wire.specs.AddressTests.{is_same_address}
use Rattle.ip_wire.specs.IpAddress.{IpAddress}
use Rattle.socket_context.specs.declared.poll_at.PollAt.{PollAt}
use Rattle.socket_context.specs.declared.poll_at.PollAt.TheVariants as At
use Rattle.iface_egress.specs.declared.socket_meta.Meta.{Meta}
use Rattle.iface_egress.specs.declared.socket_meta.Waiting.{Waiting}

-- a second, in microseconds
abbrev pub silent_time : ℕ
silent_time = 1_000_000

abbrev pub neighbor_by : Option Waiting → Option IpAddress
neighbor_by None = None
neighbor_by (Some w) = Some w.neighbor

abbrev pub neighbor_of : Meta → Option IpAddress
neighbor_of m = neighbor_by m.waiting

-- a marked socket waits until its neighbour is known, or the instant comes
abbrev pub waits_by : Option Waiting → Bool → ℤ → Bool
waits_by None known instant = false
waits_by (Some w) known instant = not known && int_lt instant w.silent_until

abbrev pub waits : Meta → Bool → ℤ → Bool
waits m known instant = waits_by m.waiting known instant

abbrev pub poll_by : Option Waiting → PollAt → Bool → ℤ → PollAt
poll_by None poll known instant = poll
poll_by (Some w) poll known instant = if not known && int_lt instant w.silent_until then At.Time w.silent_until else poll

-- a socket that waits wants to be polled when its waiting ends
abbrev pub poll_at : Meta → PollAt → Bool → ℤ → PollAt
poll_at m poll known instant = poll_by m.waiting poll known instant

-- since when it waits for this one: it keeps that as long as it waits for the same
abbrev pub since_by : Option Waiting → IpAddress → ℤ → ℤ
since_by None neighbor instant = instant
since_by (Some w) neighbor instant = if is_same_address w.neighbor neighbor then w.since else instant

-- a socket whose neighbour is missing waits until this instant
abbrev pub missed : Meta → ℤ → IpAddress → ℤ → Meta
missed m instant neighbor until =
    record { waiting = Some (record { neighbor = neighbor; since = since_by m.waiting neighbor instant; silent_until = until }) }

-- it has waited so long for this one
abbrev pub has_waited_by : Option Waiting → IpAddress → ℕ → ℤ → Bool
has_waited_by None neighbor span instant = false
has_waited_by (Some w) neighbor span instant =
    is_same_address w.neighbor neighbor && not (int_lt (instant -ℤ pos span) w.since)

abbrev pub has_waited : Meta → IpAddress → ℕ → ℤ → Bool
has_waited m neighbor span instant = has_waited_by m.waiting neighbor span instant

-- the mark goes where the socket has nothing to send any more
abbrev pub unmarked : Meta
unmarked = record { waiting = None }

-- the mark goes where the neighbour is known
abbrev pub freed : Meta → Bool → Meta
freed m known = if known then record { waiting = None } else m
