-- What a user may set and ask. Each setting first settles an open offer as not sent.
use Rattle.std.specs.Prelude.{ℕ, ◌==◌, not, ◌&&◌, ◌||◌, ℤ, pos, Bool, true, false, if◌then◌else◌, length, Option, Some, None}
use Rattle.ip_wire.specs.TcpTimestampGenerator.{TcpTimestampGenerator}
use Rattle.tcp_block.specs.declared.tcb.Tcb.{Tcb}
use Rattle.tcp_block.specs.declared.tcb.CongestionControl.{CongestionControl}
use Rattle.tcp_block.specs.declared.tcb.Settings.{Settings}
use Rattle.tcp_state.specs.declared.state.State.{State}
use Rattle.tcp_state.specs.declared.state.State.TheVariants as In
use Rattle.tcp_state.specs.Reno as reno
use Rattle.tcp_state.specs.Reno.{RenoValue}
use Rattle.tcp_state.specs.RoundTrip.{with_least}
use Rattle.tcp_state.specs.States.{takes_writes, accepts_data}
use Rattle.tcp_block.specs.TcbRules.{initial_window}
use Rattle.tcp_block.specs.Timeout.{timeout_kept}
use Rattle.tcp_block.specs.Value.{TcpValue, with_tcb, unoffered, queued_in}

abbrev pub with_settings : TcpValue → Settings → TcpValue
with_settings v settings = with_tcb (unoffered v) (record v.tcb { settings = settings })

abbrev pub with_timeout_kept : TcpValue → TcpValue
with_timeout_kept v = with_tcb v (timeout_kept v.tcb (queued_in v))

abbrev pub set_timeout : TcpValue → Option ℕ → TcpValue
set_timeout v duration = with_timeout_kept (with_settings v (record v.tcb.settings { timeout = duration }))

-- an interval makes a keep-alive due at once
abbrev pub first_keep_alive : Option ℕ → Option ℤ
first_keep_alive None = None
first_keep_alive (Some interval) = Some (pos 0)

abbrev pub set_keep_alive : TcpValue → Option ℕ → TcpValue
set_keep_alive v interval =
    with_timeout_kept (with_settings v (record v.tcb.settings { keep_alive = interval; keep_alive_at = first_keep_alive interval }))

abbrev pub set_ack_delay : TcpValue → Option ℕ → TcpValue
set_ack_delay v duration = with_settings v (record v.tcb.settings { ack_delay = duration })

abbrev pub set_nagle_enabled : TcpValue → Bool → TcpValue
set_nagle_enabled v enabled = with_settings v (record v.tcb.settings { nagle = enabled })

abbrev pub set_hop_limit : TcpValue → Option ℕ → TcpValue
set_hop_limit v hop_limit = with_settings v (record v.tcb.settings { hop_limit = hop_limit })

abbrev pub set_tsval_generator : TcpValue → Option TcpTimestampGenerator → TcpValue
set_tsval_generator v generator = with_settings v (record v.tcb.settings { timestamps = generator })

abbrev pub pause_synack : TcpValue → Bool → TcpValue
pause_synack v paused = with_settings v (record v.tcb.settings { synack_paused = paused })

-- how often a segment goes without an answer until the connection gives up
abbrev pub set_retries : TcpValue → Option ℕ → TcpValue
set_retries v limit = with_settings v (record v.tcb.settings { opening_retries = limit; retries = limit })

-- the least retransmission timeout, of this connection too
abbrev pub set_min_rto : TcpValue → ℕ → TcpValue
set_min_rto v duration =
    with_tcb (unoffered v) (record v.tcb {
      round_trip = with_least duration v.tcb.round_trip;
      settings = record v.tcb.settings { min_rto = duration };
    })

-- whether round trips are taken in microseconds, from the next one on
abbrev pub set_fine_timer : TcpValue → Bool → TcpValue
set_fine_timer v fine = with_settings v (record v.tcb.settings { fine_timer = fine })

-- congestion control as it starts, with the remote's MSS if that is known, and with the first window where the connection is there
abbrev pub initial_reno : Tcb → CongestionControl → RenoValue
initial_reno b control =
    if not b.receiver.took_syn then initial_window control
    else if b.sender.syn_unacked then reno.with_mss (initial_window control) b.peer.mss
    else reno.started (reno.with_mss (initial_window control) b.peer.mss) false

-- the window that was kept before a loss is forgotten with it
abbrev pub set_congestion_control : TcpValue → CongestionControl → TcpValue
set_congestion_control v control =
    with_tcb (unoffered v) (record v.tcb {
      settings = record v.tcb.settings { congestion_control = control };
      reno = initial_reno v.tcb control;
      loss = record v.tcb.loss { undo = None };
    })

-- GETTERS

abbrev pub is_open : State → Bool
is_open In.Closed = false
is_open In.TimeWait = false
is_open other = true

-- a connection exists or is being opened
abbrev pub is_active : State → Bool
is_active In.Closed = false
is_active In.TimeWait = false
is_active In.Listen = false
is_active other = true

abbrev pub can_send : TcpValue → Bool
can_send v = takes_writes v.tcb.state && not (length v.queued.free == 0)

abbrev pub can_recv : TcpValue → Bool
can_recv v = not (length v.received.waiting == 0)

abbrev pub may_recv : TcpValue → Bool
may_recv v = accepts_data v.tcb.state || can_recv v
