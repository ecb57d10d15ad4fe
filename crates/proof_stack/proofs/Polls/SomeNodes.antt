-- The sockets and the hosts between the events of a world on numerals that settles.
use Rattle.std.proofs.Common.{List, [], ◌∷◌, ℕ}
use Rattle.std.specs.Prelude.{◌+◌, pos, true, false, Some}
use Rattle.tcp_block.specs.Arrival.{arrives}
use Rattle.tcp_block.specs.TcbRules.{default_settings, initial_tcb, initial_receiver, initial_sender, initial_stamps}
use Rattle.tcp_block.specs.Calls.{listen_after}
use Rattle.tcp_block.specs.Settled.{settled}
use Rattle.tcp_block.specs.State.TheVariants as In
use Rattle.tcp_block.specs.Value.{TcpValue}
use Rattle.iface_tables.specs.Inner.{context_of}
use Rattle.iface_egress.specs.IsTransmitted.{numbered_header}
use Rattle.lan.specs.Worlds.AtLink.Calls.{at_port}
use Rattle.proof_stack.specs.Progress.Segments.{asked_by}
use Rattle.proof_stack.specs.Progress.SettledNumerals.{a_second, a_third, ack_frame, b_first, first, first_host, found, heard, opened, push_frame, node_with}
use Rattle.proof_stack.specs.Progress.SettledNumerals.{syn_ack, syn_ack_frame, syn_frame, syn_to, writing, written}
use Rattle.proof_stack.specs.Worlds.Open.{names, number}
use Rattle.iface_tables.specs.Inner.{InnerValue, with_next_ident}
use Rattle.interface.specs.Host.{HostValue, maintained}
use Rattle.lan.specs.declared.at_link.history.event.Side.{Side}
use Rattle.lan.specs.declared.at_link.history.event.Side.TheVariants.{A, B}
use Rattle.lan.specs.Worlds.AtLink.Node.{NodeValue}
use Rattle.proof_stack.specs.Worlds.Streams.{initial}

-- SOCKETS

abbrev pub listening : TcpValue
listening = listen_after initial (at_port 80)

-- A's, which was told to connect
abbrev pub called : TcpValue
called = record initial {
  tcb = record (initial_tcb default_settings) { state = In.SynSent; names = names A; sender = initial_sender (number (first A)) true };
}

-- and sent its SYN
abbrev pub dialed : TcpValue
dialed = settled true (asked_by (found A) called)

-- B's, to which that came
abbrev pub answering : TcpValue
answering = record listening {
  tcb = record (initial_tcb default_settings) {
    state = In.SynReceived;
    names = names B;
    sender = initial_sender (number (first B)) true;
    receiver = record initial_receiver { next = number (first A + 1); took_syn = true; last_ack = number (first A + 1) };
    peer = record {
      window = 8;
      largest_window = 8;
      snd_wl1 = number (first A);
      snd_wl2 = number 0;
      mss = 1474;
      scale = Some 0;
      sack = true;
      timestamps = false;
      recent = 0;
    };
    stamps = record initial_stamps { recent_valid_until = Some (pos 2_073_600_000_000) };
    reno = record (initial_tcb default_settings).reno { mss = 1474 };
  };
}

-- and sent its own
abbrev pub answered : TcpValue
answered = settled true (asked_by (found B) answering)

-- A's, to which that came
abbrev pub called_back : TcpValue
called_back = (arrives (context_of (with_next_ident (found A))) dialed (numbered_header (found B) (syn_to A)) syn_ack []).socket

-- HOSTS

-- as a poll of the instant 0 leaves a host
abbrev polled : Side → InnerValue → HostValue
polled side inner = record (maintained (pos 0) (first_host side)) { inner = inner }

-- both at first
abbrev pub initial_a : NodeValue
initial_a = node_with (first_host A) initial [] []

abbrev pub initial_b : NodeValue
initial_b = node_with (first_host B) initial [] []

-- A as it calls, as it has sent its SYN, and as it has acknowledged that of B
abbrev pub calling_a : NodeValue
calling_a = node_with (first_host A) called [] []

abbrev pub dialed_a : List (List ℕ) → NodeValue
dialed_a waiting = node_with (polled A (with_next_ident (found A))) dialed waiting (syn_frame ∷ [])

abbrev pub open_a : NodeValue
open_a = node_with (polled A a_second) (opened A) [] (syn_frame ∷ ack_frame ∷ [])

-- as its user has written, and as that has gone
abbrev pub writing_a : NodeValue
writing_a = node_with (polled A a_second) writing [] (syn_frame ∷ ack_frame ∷ [])

abbrev pub written_a : List (List ℕ) → NodeValue
written_a waiting = node_with (polled A a_third) written waiting (syn_frame ∷ ack_frame ∷ push_frame ∷ [])

-- B as it listens, as it has answered by its SYN, as that is acknowledged, and as the text has come
abbrev pub listening_b : List (List ℕ) → NodeValue
listening_b waiting = node_with (first_host B) listening waiting []

abbrev pub answered_b : List (List ℕ) → NodeValue
answered_b waiting = node_with (polled B b_first) answered waiting (syn_ack_frame ∷ [])

abbrev pub open_b : List (List ℕ) → NodeValue
open_b waiting = node_with (polled B b_first) (opened B) waiting (syn_ack_frame ∷ [])

abbrev pub heard_b : NodeValue
heard_b = node_with (polled B b_first) heard [] (syn_ack_frame ∷ [])
