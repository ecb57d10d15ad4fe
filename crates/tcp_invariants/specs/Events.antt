-- Whole runs of a socket: whatever comes, whenever it is asked, and whatever its user calls, from a socket that is new.
use Rattle.std.specs.Prelude.{ℕ, Bool, true, false, if◌then◌else◌, List, [], ◌∷◌, Option}
use Rattle.ip_wire.specs.IpEndpoint.{IpEndpoint}
use Rattle.ip_wire.specs.IpListenEndpoint.{IpListenEndpoint}
use Rattle.ip_wire.specs.IpRepr.{IpRepr}
use Rattle.ip_wire.specs.TcpHeader.{TcpHeader}
use Rattle.ip_wire.specs.TcpTimestampGenerator.{TcpTimestampGenerator}
use Rattle.tcp_block.specs.Context.{ContextValue}
use Rattle.tcp_state.specs.States.{is_closed, is_listening, is_opening}
use Rattle.tcp_state.specs.declared.state.State.{State}
use Rattle.tcp_block.specs.Arrival.{arrives}
use Rattle.tcp_block.specs.Calls.{listen_after, connect_after, send_after, recv_after, close_after, abort_after}
use Rattle.tcp_block.specs.Offers.{offer_of}
use Rattle.tcp_block.specs.Settings.{set_timeout, set_keep_alive, set_ack_delay, set_nagle_enabled, set_hop_limit, set_tsval_generator, pause_synack}
use Rattle.tcp_block.specs.Settings.{set_retries, set_congestion_control, set_min_rto, set_fine_timer}
use Rattle.tcp_block.specs.Settled.{settled}
use Rattle.tcp_block.specs.Value.{TcpValue}
use Rattle.tcp_block.specs.declared.tcb.CongestionControl.{CongestionControl}

-- what a user sets
pub data Setting : Type 0 where
  Timeout : (duration : Option ℕ) → Setting
  KeepAlive : (interval : Option ℕ) → Setting
  AckDelay : (duration : Option ℕ) → Setting
  Nagle : (enabled : Bool) → Setting
  HopLimit : (limit : Option ℕ) → Setting
  Timestamps : (generator : Option TcpTimestampGenerator) → Setting
  Paused : (paused : Bool) → Setting
  Retries : (limit : Option ℕ) → Setting
  MinRto : (duration : ℕ) → Setting
  FineTimer : (fine : Bool) → Setting
  Congestion : (control : CongestionControl) → Setting

abbrev pub set : TcpValue → Setting → TcpValue
set v (Timeout duration) = set_timeout v duration
set v (KeepAlive interval) = set_keep_alive v interval
set v (AckDelay duration) = set_ack_delay v duration
set v (Nagle enabled) = set_nagle_enabled v enabled
set v (HopLimit limit) = set_hop_limit v limit
set v (Timestamps generator) = set_tsval_generator v generator
set v (Paused paused) = pause_synack v paused
set v (Retries limit) = set_retries v limit
set v (MinRto duration) = set_min_rto v duration
set v (FineTimer fine) = set_fine_timer v fine
set v (Congestion control) = set_congestion_control v control

pub data Event : Type 0 where
  -- a segment for it comes
  Comes : (cx : ContextValue) (ip : IpRepr) (header : TcpHeader) (bytes : List ℕ) → Event
  -- it is asked for a segment, and the offer is settled
  Asked : (cx : ContextValue) (sent : Bool) → Event
  -- calls of its user
  Listens : (endpoint : IpListenEndpoint) → Event
  Connects : (cx : ContextValue) (remote : IpEndpoint) (local : IpListenEndpoint) → Event
  Sends : (bytes : List ℕ) → Event
  Reads : (count : ℕ) → Event
  Closes : Event
  Aborts : Event
  Sets : (setting : Setting) → Event

abbrev pub after : TcpValue → Event → TcpValue
after v (Comes cx ip header bytes) = (arrives cx v ip header bytes).socket
after v (Asked cx sent) = settled sent (offer_of cx v).socket
after v (Listens endpoint) = listen_after v endpoint
after v (Connects cx remote local) = connect_after cx v remote local
after v (Sends bytes) = send_after v bytes
after v (Reads count) = recv_after v count
after v Closes = close_after v
after v Aborts = abort_after v
after v (Sets setting) = set v setting

-- the socket that events lead to
abbrev pub led : TcpValue → List Event → TcpValue
led v [] = v
led v (it ∷ more) = led (after v it) more

-- it is past SYN-SENT: SYN-RECEIVED, or later
abbrev pub is_past : State → Bool
is_past state = if is_closed state then false else if is_listening state then false else if is_opening state then false else true
