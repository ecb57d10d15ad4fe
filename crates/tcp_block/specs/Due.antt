-- When a socket wants to be polled. The answer doesn't depend on the instant: `poll_of` has none among its arguments.
use Rattle.std.specs.Prelude.{ℕ, ◌||◌, ℤ, Bool, false, if◌then◌else◌, List, [], ◌∷◌, Option, Some, None}
use Rattle.net_base.specs.Ring.{Ring}
use Rattle.tcp_state.specs.PollAt.{PollAt}
use Rattle.tcp_state.specs.PollAt.TheVariants as At
use Rattle.tcp_state.specs.declared.endpoints.AddressPair.{AddressPair}
use Rattle.tcp_block.specs.declared.tcb.Tcb.{Tcb}
use Rattle.tcp_state.specs.declared.endpoints.FourTuple.{FourTuple}
use Rattle.tcp_state.specs.Moments.{earlier}
use Rattle.tcp_block.specs.LossRecovery.{loss_probe_deadline}
use Rattle.tcp_block.specs.Probing.{is_probe_unset, probe_deadline}
use Rattle.tcp_block.specs.Rules.{time_wait_end, owes_syn, resends, ack_deadline, has_payload, updates_window, keep_alive_deadline}
use Rattle.tcp_state.specs.States.{is_closed}
use Rattle.tcp_block.specs.Timeout.{timeout_end, is_timeout_unset}
use Rattle.tcp_block.specs.Value.{TcpValue, queued_in, free_in, room_of}

-- what makes it want to be polled at once: a segment that may go, or an instant that is to be set
abbrev pub wishes : Tcb → AddressPair → ℕ → Ring ℕ → ℕ → ℕ → ℕ → List Bool
wishes b addresses ip_mtu ring queued capacity free =
    owes_syn b
    ∷ resends b addresses ip_mtu ring
    ∷ has_payload b addresses ip_mtu ring
    ∷ updates_window b capacity free
    ∷ is_timeout_unset b queued
    ∷ is_probe_unset b queued
    ∷ []

-- when something is due
abbrev pub instants : Tcb → ℕ → List (Option ℤ)
instants b queued =
    time_wait_end b
    ∷ timeout_end b queued
    ∷ b.timers.retransmit_at
    ∷ loss_probe_deadline b
    ∷ probe_deadline b queued
    ∷ ack_deadline b
    ∷ keep_alive_deadline b
    ∷ []

abbrev pub any : List Bool → Bool
any [] = false
any (wish ∷ more) = wish || any more

abbrev pub earlier_of : Option ℤ → Option ℤ → Option ℤ
earlier_of None other = other
earlier_of (Some instant) None = Some instant
earlier_of (Some instant) (Some other) = Some (earlier instant other)

abbrev pub earliest : List (Option ℤ) → Option ℤ
earliest [] = None
earliest (instant ∷ more) = earlier_of instant (earliest more)

abbrev pub at_instant : Option ℤ → PollAt
at_instant None = At.Ingress
at_instant (Some instant) = At.Time instant

-- of a socket that isn't closed
abbrev pub poll_open : ℕ → TcpValue → FourTuple → PollAt
poll_open ip_mtu v pair =
    if any (wishes v.tcb pair.addresses ip_mtu v.queued (queued_in v) (room_of v.received) (free_in v)) then At.Now
    else at_instant (earliest (instants v.tcb (queued_in v)))

-- CLOSED has nothing but a reset to send
abbrev pub poll_between : ℕ → TcpValue → FourTuple → PollAt
poll_between ip_mtu v pair =
    if is_closed v.tcb.state then (if v.tcb.sender.reset_due then At.Now else At.Ingress) else poll_open ip_mtu v pair

abbrev pub poll_with : Option FourTuple → ℕ → TcpValue → PollAt
poll_with None ip_mtu v = At.Ingress
poll_with (Some pair) ip_mtu v = poll_between ip_mtu v pair

abbrev pub poll_of : ℕ → TcpValue → PollAt
poll_of ip_mtu v = poll_with v.tcb.names.pair ip_mtu v
