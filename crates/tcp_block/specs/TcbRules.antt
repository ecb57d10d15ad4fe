-- The TCB (RFC 9293, 3.3.1): a new one, and what follows from its fields. `queued` is the length of the send queue,
-- which begins at the first byte that isn't acknowledged.
use Rattle.std.specs.Prelude.{ℕ, zero, suc, ◌+◌, ◌-◌, ◌*◌, ◌/◌, ◌^◌, ◌==◌, nat_le, nat_lt, ◌||◌, min, max, Bool, true, false, if◌then◌else◌, Option, Some, None}
use Rattle.ip_wire.specs.IpListenEndpoint.{IpListenEndpoint}
use Rattle.ip_wire.specs.SeqNumber.{SeqNumber}
use Rattle.tcp_block.specs.declared.tcb.Tcb.{Tcb}
use Rattle.tcp_block.specs.declared.tcb.Loss.{Loss}
use Rattle.tcp_block.specs.declared.tcb.Names.{Names}
use Rattle.tcp_block.specs.declared.tcb.Peer.{Peer}
use Rattle.tcp_block.specs.declared.tcb.Receiver.{Receiver}
use Rattle.tcp_block.specs.declared.tcb.Sender.{Sender}
use Rattle.tcp_block.specs.declared.tcb.Settings.{Settings}
use Rattle.tcp_block.specs.declared.tcb.Stamps.{Stamps}
use Rattle.tcp_block.specs.declared.tcb.Timers.{Timers}
use Rattle.tcp_block.specs.declared.tcb.Validation.{Validation}
use Rattle.tcp_block.specs.declared.tcb.CongestionControl.{CongestionControl}
use Rattle.tcp_block.specs.declared.tcb.CongestionControl.TheVariants as Congestion
use Rattle.tcp_state.specs.declared.state.State.TheVariants as In
use Rattle.tcp_state.specs.Offsets.{advanced_by}
use Rattle.tcp_state.specs.Reno as reno
use Rattle.tcp_state.specs.Reno.{RenoValue}
use Rattle.tcp_state.specs.Cubic as cubic
use Rattle.tcp_state.specs.Cubic.{CubicValue}
use Rattle.tcp_state.specs.RoundTrip as round_trip
use Rattle.tcp_state.specs.Scoreboard.{no_runs}
use Rattle.tcp_state.specs.States.{owes_fin}

abbrev pub one_if : Bool → ℕ
one_if false = 0
one_if true = 1

abbrev pub no_number : SeqNumber
no_number = record { 0 = 0 }

-- listening on nothing
abbrev pub nowhere : IpListenEndpoint
nowhere = record { addr = None; port = 0 }

abbrev pub no_names : Names
no_names = record { listen = nowhere; pair = None }

-- a sender whose SYN will have this number, or without one
abbrev pub initial_sender : SeqNumber → Bool → Sender
initial_sender una syn_unacked = record {
  una = una;
  past_iss = 0;
  syn_unacked = syn_unacked;
  flight_size = 0;
  snd_max = 0;
  duplicates = 0;
  sacked = 0;
  resend = false;
  recover = 0;
  partial = false;
  syn_lost = false;
  timeouts = 0;
  unanswered = 0;
  reset_due = false;
}

abbrev pub initial_receiver : Receiver
initial_receiver = record { next = no_number; took_syn = false; took_fin = false; rcv_adv = 0; mss = 0; last_ack = no_number }

-- the largest payload is 536 bytes where the remote names none (3.7.1)
abbrev pub initial_peer : Peer
initial_peer = record {
  window = 0;
  largest_window = 0;
  snd_wl1 = no_number;
  snd_wl2 = no_number;
  mss = 536;
  scale = None;
  sack = false;
  timestamps =
      false;
  recent = 0;
}

abbrev pub initial_stamps : Stamps
initial_stamps = record { generator = None; first = 0; recent_valid_until = None }

abbrev pub initial_timers : Timers
initial_timers = record {
  retransmit_at = None;
  probe_at = None;
  ack_at = None;
  data_unacked = false;
  challenges_from = None;
  counts_from = None;
  time_wait_ends = None;
  timeout_since = None;
}

-- nothing is known of what the remote holds, and nothing was retransmitted
abbrev pub initial_loss : Loss
initial_loss = record {
  board = record { runs = no_runs };
  resent = 0;
  credit = 0;
  mark = 0;
  dupthresh_one = false;
  probes = false;
  probed = false;
  rescue_rxt = 0;
  probe_at = None;
  reo_wnd_mult = 0;
  reorder_until = None;
  undo = None;
}

-- no payload went, and no connection is there
abbrev pub initial_validation : Validation
initial_validation = record { flight = 0; since = None }

-- Nothing is set: the delay of an acknowledgement is 10 milliseconds, a connection gives up after more than three minutes while it is
-- opened, later after 16 timeouts (3.8.3), the least retransmission timeout is a second (RFC 6298, 2.4), and round trips are taken in whole
-- milliseconds.
abbrev pub default_settings : Settings
default_settings = record {
  timeout = None;
  ack_delay = Some 10_000;
  keep_alive = None;
  keep_alive_at = None;
  nagle = true;
  hop_limit = None;
  timestamps = None;
  congestion_control = Congestion.Reno;
  synack_paused = false;
  opening_retries = Some 9;
  retries = Some 16;
  min_rto = 1_000_000;
  fine_timer = false;
}

-- what CUBIC knows at the start, where it is set
abbrev pub cubic_of : CongestionControl → Option CubicValue
cubic_of Congestion.Cubic = Some cubic.initial
cubic_of other = None

-- congestion control as it starts
abbrev pub initial_window : CongestionControl → RenoValue
initial_window control = reno.initial_with (cubic_of control)

-- no connection, and nothing left of an earlier one
abbrev pub initial_tcb : Settings → Tcb
initial_tcb settings = record {
  state = In.Closed;
  names = no_names;
  sender = initial_sender no_number false;
  receiver = initial_receiver;
  peer = initial_peer;
  stamps = initial_stamps;
  timers = initial_timers;
  round_trip = round_trip.with_least settings.min_rto round_trip.initial;
  reno = initial_window settings.congestion_control;
  loss = initial_loss;
  validation = initial_validation;
  settings = settings;
}

-- the endpoints are forgotten, and no reset is due
abbrev pub forgotten : Tcb → Tcb
forgotten b = record b { state = In.Closed; names = no_names; sender = record b.sender { reset_due = false } }

-- how far past SND.UNA the last position lies that may be acknowledged: the SYN, the send queue and the FIN
abbrev pub unacked : Tcb → ℕ → ℕ
unacked b queued = one_if b.sender.syn_unacked + queued + one_if (owes_fin b.state)

-- The number one past the highest position that was ever sent. The retransmission timer sets SND.NXT back, and never this: what
-- lies below it may be old to the remote.
abbrev pub snd_max : Tcb → SeqNumber
snd_max b = advanced_by b.sender.una b.sender.snd_max

-- how much is to be acknowledged until it is more than was ever sent, as far as 32 bits tell
abbrev pub past_snd_max : Tcb → ℕ
past_snd_max b = min (b.sender.snd_max + 1) 4_294_967_295

-- THE WINDOW FIELD (RFC 7323, 2.3)

-- the least shift, at most so large, that brings a count into 16 bits
abbrev pub scale_for : ℕ → ℕ → ℕ
scale_for zero count = 0
scale_for (suc most) count = if nat_lt count (2 ^ 16) then 0 else suc (scale_for most (count / 2))

-- the shift of the own window fields, if both SYNs have the option
abbrev pub local_scale : ℕ → ℕ
local_scale capacity = scale_for 14 capacity

abbrev pub shift_of : Option ℕ → ℕ → ℕ
shift_of None scale = 0
shift_of (Some n) scale = scale

-- what a window field says of so much space
abbrev pub field_of : ℕ → ℕ
field_of space = min space 65_535

-- the shift of its window fields, but on a SYN, with a receive buffer of this capacity
abbrev pub local_shift : Tcb → ℕ → ℕ
local_shift b capacity = shift_of b.peer.scale (local_scale capacity)

-- for so much space, but on a SYN
abbrev pub window_field : Tcb → ℕ → ℕ → ℕ
window_field b capacity space = field_of (space / 2 ^ local_shift b capacity)

-- THE RIGHT EDGE OF THE WINDOW (RFC 9293, 3.8.6.2.2)

-- how much of so much space a window field can tell
abbrev pub told_of : Tcb → ℕ → ℕ → ℕ
told_of b capacity space = window_field b capacity space * 2 ^ local_shift b capacity

-- by how much the edge moves at least: half of the buffer, or a segment as the own SYN names it
abbrev pub least_step : Tcb → ℕ → ℕ
least_step b capacity = max 1 (min ((capacity + 1) / 2) b.receiver.mss)

-- so much free space is worth telling
abbrev pub is_worth_telling : Tcb → ℕ → ℕ → Bool
is_worth_telling b capacity free = nat_le (b.receiver.rcv_adv + least_step b capacity) (told_of b capacity free)

-- The right edge after a segment that told so much space. What its field leaves out by rounding was announced before, and still is: else
-- the roundings of many segments would add up.
abbrev pub rcv_adv_after : Tcb → ℕ → ℕ → ℕ
rcv_adv_after b capacity told = max told (min b.receiver.rcv_adv (told + (2 ^ local_shift b capacity - 1)))

-- the space that a segment announces, where so many bytes wait to be read: the edge stays, unless it moves far enough or nothing waits
abbrev pub announced : Tcb → ℕ → ℕ → ℕ → ℕ
announced b capacity free waiting =
    if (waiting == 0) || is_worth_telling b capacity free then free else min b.receiver.rcv_adv free
