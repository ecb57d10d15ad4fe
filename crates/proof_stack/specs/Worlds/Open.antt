-- Two sockets of an open connection on numerals, in full: what is said of them needn't compute what led to them.
use Rattle.std.specs.Prelude.{ℕ, pos, true, false, [], replicate, Some, None}
use Rattle.ip_wire.specs.SeqNumber.{SeqNumber}
use Rattle.net_base.specs.Ring.{ring}
use Rattle.tcp_block.specs.AddressPair.TheVariants as Pair
use Rattle.tcp_block.specs.TcbRules.{default_settings, initial_loss, initial_stamps, initial_timers}
use Rattle.tcp_block.specs.declared.tcb.Tcb.{Tcb}
use Rattle.tcp_block.specs.declared.tcb.Names.{Names}
use Rattle.tcp_block.specs.State.TheVariants as In
use Rattle.tcp_block.specs.Value.{TcpValue, received_of}
use Rattle.lan.specs.declared.at_link.history.event.Side.{Side}
use Rattle.lan.specs.declared.at_link.history.event.Side.TheVariants.{A, B}
use Rattle.lan.specs.Worlds.AtLink.Calls.{at_port}
use Rattle.lan.specs.Worlds.AtLink.ReceiveMap.{space}
use Rattle.proof_stack.specs.Worlds.Hosts.{address}

abbrev pub number : ℕ → SeqNumber
number n = record { 0 = n }

abbrev pub names : Side → Names
names A = record {
  listen = at_port 0;
  pair = Some (record { addresses = Pair.Ipv4 (address A) (address B); local_port = 49_500; remote_port = 80 });
}
names B = record {
  listen = at_port 80;
  pair = Some (record { addresses = Pair.Ipv4 (address B) (address A); local_port = 80; remote_port = 49_500 });
}

-- the number of the segment that set the window last: B's SYN, and A's acknowledgement of it
abbrev pub snd_wl1 : Side → SeqNumber
snd_wl1 A = number 3
snd_wl1 B = number 4

-- nothing is under way
abbrev pub at_rest : Side → Tcb
at_rest side = record {
  state = In.Established;
  names = names side;
  sender = record {
    una = number 4;
    past_iss = 1;
    syn_unacked = false;
    flight_size = 0;
    snd_max = 0;
    duplicates = 0;
    sacked = 0;
    resend = false;
    recover = 0;
    partial = false;
    syn_lost = false;
    timeouts = 0;
    unanswered = 0;
    reset_due = false;
  };
  receiver = record { next = number 4; took_syn = true; took_fin = false; rcv_adv = 8; mss = 1460; last_ack = number 4 };
  peer = record {
    window = 8;
    largest_window = 8;
    snd_wl1 = snd_wl1 side;
    snd_wl2 = number 4;
    mss = 1460;
    scale = Some 0;
    sack = true;
    timestamps = false;
    recent = 0;
  };
  stamps = record initial_stamps { recent_valid_until = Some (pos 2_073_600_000_000) };
  timers = initial_timers;
  round_trip = record { estimate = Some (record { smoothed = 0; variation = 0; shortest = 0 }); timeout = 1_000_000; least = 1_000_000; sample = None };
  reno = record { mss = 1460; cwnd = 14_600; ssthresh = 1_073_741_824; recovers = false; timed_out = false; cubic = None };
  loss = initial_loss;
  validation = record { flight = 0; since = Some (pos 0) };
  settings = default_settings;
}

abbrev pub idle : Side → TcpValue
idle side = record { tcb = at_rest side; received = received_of [] (space 8) 0; queued = ring [] (replicate 8 0) 0; offered = None }
