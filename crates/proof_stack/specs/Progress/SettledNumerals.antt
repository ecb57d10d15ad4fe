-- A world on numerals that settles, on a medium of bare packets: A has 192.168.1.1, B has 192.168.1.2, and each has a key for its initial sequence numbers, and one
-- TCP socket with room for 8 bytes each way. B listens and A connects, and then writes abc; whatever a host sends is handed over, and the other is polled.
-- All is at the instant 0, but that B acknowledges the text ten milliseconds later.
use Rattle.std.specs.Prelude.{ℕ, ℤ, ◌+◌, ◌-◌, ◌^◌, pos, true, List, [], ◌∷◌, length, replicate, None, Some}
use Rattle.ip_wire.specs.IpProtocol.TheVariants as Protocol
use Rattle.ip_wire.specs.HardwareAddress.TheVariants as Hardware
use Rattle.ip_wire.specs.Options.{no_options}
use Rattle.ip_wire.specs.SeqNumber.{SeqNumber}
use Rattle.ip_wire.specs.TcpControl.TheVariants as Bits
use Rattle.ip_wire.specs.TcpHeader.{TcpHeader}
use Rattle.wire_ip.specs.declared.ip.repr.IpRepr.{IpRepr}
use Rattle.net_base.specs.Medium.TheVariants as Medium
use Rattle.net_base.specs.Ring.{ring}
use Rattle.tcp_block.specs.Arrival.{arrives}
use Rattle.tcp_block.specs.Calls.{send_after}
use Rattle.tcp_block.specs.Settled.{settled}
use Rattle.tcp_block.specs.Value.{TcpValue}
use Rattle.sim_link.specs.Port.{unused_end}
use Rattle.iface_ingress.specs.Packet.{Segment, packet_of}
use Rattle.iface_ingress.specs.Socket.TheVariants as Kind
use Rattle.iface_tables.specs.Inner.{InnerValue, at_instant, context_of, with_next_ident}
use Rattle.iface_egress.specs.IsTransmitted.{numbered_header}
use Rattle.iface_egress.specs.Set.{unmarked}
use Rattle.interface.specs.Host.{HostValue, maintained}
use Rattle.interface.specs.Made.{with_inner}
use Rattle.lan.specs.Hosts.{device_of, interface_of}
use Rattle.lan.specs.declared.at_link.history.answer.Answer.{Answer}
use Rattle.lan.specs.declared.at_link.history.answer.Answer.TheVariants as To
use Rattle.lan.specs.declared.at_link.history.event.Event.{Event}
use Rattle.lan.specs.declared.at_link.history.event.Event.TheVariants as E
use Rattle.lan.specs.declared.at_link.history.event.Side.{Side}
use Rattle.lan.specs.declared.at_link.history.event.Side.TheVariants.{A, B}
use Rattle.lan.specs.Worlds.AtLink.History.{Counts, Entry}
use Rattle.lan.specs.Worlds.AtLink.Kinds.{other}
use Rattle.lan.specs.Worlds.AtLink.Paired.{NewSocket}
use Rattle.lan.specs.Worlds.AtLink.Runs.{Start, Starts}
use Rattle.lan.specs.Worlds.AtLink.Node.{NodeValue, Nodes}
use Rattle.proof_stack.specs.Progress.Numerals.{longest_frame}
use Rattle.proof_stack.specs.Progress.Queued.{frame_under}
use Rattle.proof_stack.specs.Progress.Segments.{asked_by}
use Rattle.proof_stack.specs.Worlds.Hosts.{endpoint, packet_to, text}
use Rattle.proof_stack.specs.Worlds.Open.{at_rest, idle, number}
use Rattle.proof_stack.specs.Worlds.Streams.{initial}

-- THE HOSTS, as a script starts them, each with a key

abbrev pub key : Side → List ℕ
key A = replicate 16 1
key B = replicate 16 2

abbrev pub first_host : Side → HostValue
first_host side =
    let h = interface_of Medium.Ip longest_frame side in
    with_inner h (record h.inner { isn_key = Some (key side) })

abbrev pub start_of : Side → Start
start_of side = record {
  host = first_host side;
  slots = unmarked (Kind.Tcp initial) ∷ [];
  capabilities = device_of Medium.Ip longest_frame;
  room = 2 ^ 64 - 1;
  refusals = 0;
}

abbrev pub starts : Starts
starts = record { a = start_of A; b = start_of B }

-- the place of each socket
abbrev pub slot : Side → ℕ
slot side = 0

abbrev pub news : Side → NewSocket
news side = record { room = 8; ring = ring [] (replicate 8 0) 0 }

-- as a poll finds a host at first
abbrev pub found : Side → InnerValue
found side = at_instant (pos 0) (first_host side).inner

-- ten milliseconds later
abbrev pub later : ℤ
later = pos 10_000

-- as a poll leaves a host then
abbrev pub polled_later : Side → InnerValue → HostValue
polled_later side inner = record (maintained later (first_host side)) { inner = inner }

-- A after two packets, and after three; B after one; and both later
abbrev pub a_second : InnerValue
a_second = with_next_ident (with_next_ident (found A))

abbrev pub a_third : InnerValue
a_third = with_next_ident a_second

abbrev pub a_later : InnerValue
a_later = at_instant later a_third

abbrev pub b_first : InnerValue
b_first = with_next_ident (found B)

abbrev pub b_later : InnerValue
b_later = at_instant later b_first

-- FIRST NUMBERS: SipHash of the endpoints with each host's key, modulo 2^32; the clock shows 0

abbrev pub first : Side → ℕ
first A = 3_510_410_877
first B = 339_708_358

-- SEGMENTS

-- a SYN says how large a segment may be, that its window isn't shifted, and that ranges may come
abbrev pub syn : TcpHeader
syn = record {
  src_port = 49_500;
  dst_port = 80;
  control = Bits.Syn;
  seq_number = number (first A);
  ack_number = None;
  window_len = 8;
  options = record no_options { max_seg_size = Some 1474; window_scale = Some 0; sack_permitted = true };
}

abbrev pub syn_ack : TcpHeader
syn_ack = record syn {
  src_port = 80;
  dst_port = 49_500;
  seq_number = number (first B);
  ack_number = Some (number (first A + 1));
}

abbrev pub ack : TcpHeader
ack = record syn {
  control = Bits.None;
  seq_number = number (first A + 1);
  ack_number = Some (number (first B + 1));
  options = no_options;
}

-- abc, and what acknowledges it and tells that there is room for 5 bytes more
abbrev pub push : TcpHeader
push = record ack { control = Bits.Psh }

abbrev pub last_ack : TcpHeader
last_ack = record ack {
  src_port = 80;
  dst_port = 49_500;
  seq_number = number (first B + 1);
  ack_number = Some (number (first A + 4));
  window_len = 5;
}

abbrev pub push_to_b : IpRepr
push_to_b = packet_to B Protocol.Tcp 23

abbrev pub ack_to_a : IpRepr
ack_to_a = packet_to A Protocol.Tcp 20

-- the headers of the packets that carry a SYN to a host, and an acknowledgement to B
abbrev pub syn_to : Side → IpRepr
syn_to side = packet_to side Protocol.Tcp 32

abbrev pub ack_to_b : IpRepr
ack_to_b = packet_to B Protocol.Tcp 20

-- SOCKETS

-- the number of the segment that set the window last: B's SYN, and A's acknowledgement of it
abbrev pub snd_wl1 : Side → SeqNumber
snd_wl1 A = number (first B)
snd_wl1 B = number (first A + 1)

-- both, of the connection that is open, at which nothing is under way
abbrev pub opened : Side → TcpValue
opened side = record (idle side) {
  tcb = record (at_rest side) {
    sender = record (at_rest side).sender { una = number (first side + 1) };
    receiver = record (at_rest side).receiver { next = number (first (other side) + 1); mss = 1474; last_ack = number (first (other side) + 1) };
    peer = record (at_rest side).peer { snd_wl1 = snd_wl1 side; snd_wl2 = number (first side + 1); mss = 1474 };
    reno = record (at_rest side).reno { mss = 1474 };
  };
}

-- A's, whose user wrote; and after the segment that carries it
abbrev pub writing : TcpValue
writing = send_after (opened A) text

abbrev pub written : TcpValue
written = settled true (asked_by a_second writing)

-- B's, to which that came; and after the acknowledgement
abbrev pub heard : TcpValue
heard = asked_by b_first (arrives (context_of b_first) (opened B) (numbered_header a_second push_to_b) push text).socket

-- both as all is through
abbrev pub through : Side → TcpValue
through A = asked_by a_later (arrives (context_of a_later) written (numbered_header b_later ack_to_a) last_ack []).socket
through B = settled true (asked_by b_later heard)

-- FRAMES

abbrev pub frame_with : InnerValue → IpRepr → TcpHeader → List ℕ → List ℕ
frame_with i ip header bytes = frame_under i i.ident Hardware.Ip (packet_of ip (Segment header bytes))

abbrev pub frame_from : InnerValue → IpRepr → TcpHeader → List ℕ
frame_from i ip header = frame_with i ip header []

abbrev pub push_frame : List ℕ
push_frame = frame_with a_second push_to_b push text

abbrev pub last_frame : List ℕ
last_frame = frame_from b_later ack_to_a last_ack

abbrev pub syn_frame : List ℕ
syn_frame = frame_from (found A) (syn_to B) syn

abbrev pub syn_ack_frame : List ℕ
syn_ack_frame = frame_from (found B) (syn_to A) syn_ack

abbrev pub ack_frame : List ℕ
ack_frame = frame_from (with_next_ident (found A)) ack_to_b ack

-- STATIONS

-- a host with this socket, for which these frames wait, and which sent those
abbrev pub node_with : HostValue → TcpValue → List (List ℕ) → List (List ℕ) → NodeValue
node_with host v waiting sent = record {
  host = host;
  slots = unmarked (Kind.Tcp v) ∷ [];
  link = record (unused_end (device_of Medium.Ip longest_frame)) { waiting = waiting; sent = sent; room = 2 ^ 64 - 1 - length sent };
}

-- A as its text is acknowledged, and B as it has acknowledged that
abbrev pub through_a : NodeValue
through_a = node_with (polled_later A a_later) (through A) [] (syn_frame ∷ ack_frame ∷ push_frame ∷ [])

abbrev pub through_b : NodeValue
through_b = node_with (polled_later B (with_next_ident b_later)) (through B) [] (syn_ack_frame ∷ last_frame ∷ [])

-- THE HISTORY

abbrev pub counts : ℕ → ℕ → ℕ → ℕ → Counts
counts sent_a sent_b waiting_a waiting_b = record { sent_a = sent_a; sent_b = sent_b; waiting_a = waiting_a; waiting_b = waiting_b }

abbrev pub entry : Event → Answer → Counts → Entry
entry event answer before = record { event = event; answer = answer; before = before; found = None }

-- the calls
abbrev pub told_to_listen : List Entry
told_to_listen = entry (E.Listen B 0 80) To.Done (counts 0 0 0 0) ∷ []

abbrev pub told_to_call : List Entry
told_to_call = entry (E.Connect A 0 (endpoint B 80) 49_500) To.Done (counts 0 0 0 0) ∷ told_to_listen

-- the SYN goes, and comes
abbrev pub syn_sent : List Entry
syn_sent = entry (E.Poll A (pos 0) 1) (To.Poll true) (counts 0 0 0 0) ∷ told_to_call

abbrev pub syn_brought : List Entry
syn_brought = entry (E.Deliver A 0 []) To.Done (counts 1 0 0 0) ∷ syn_sent

-- it is answered by another
abbrev pub syn_answered : List Entry
syn_answered = entry (E.Poll B (pos 0) 1) (To.Poll true) (counts 1 0 0 1) ∷ syn_brought

abbrev pub answer_brought : List Entry
answer_brought = entry (E.Deliver B 0 []) To.Done (counts 1 1 0 0) ∷ syn_answered

-- that is acknowledged
abbrev pub ack_sent : List Entry
ack_sent = entry (E.Poll A (pos 0) 1) (To.Poll true) (counts 1 1 1 0) ∷ answer_brought

abbrev pub ack_brought : List Entry
ack_brought = entry (E.Deliver A 1 []) To.Done (counts 2 1 0 0) ∷ ack_sent

abbrev pub both_open : List Entry
both_open = entry (E.Poll B (pos 0) 1) (To.Poll true) (counts 2 1 0 1) ∷ ack_brought

-- A's user writes, and that goes, and comes
abbrev pub told_to_send : List Entry
told_to_send = entry (E.Send A 0 text) (To.Count 3) (counts 2 1 0 0) ∷ both_open

abbrev pub text_sent : List Entry
text_sent = entry (E.Poll A (pos 0) 1) (To.Poll true) (counts 2 1 0 0) ∷ told_to_send

abbrev pub text_brought : List Entry
text_brought = entry (E.Deliver A 2 []) To.Done (counts 3 1 0 0) ∷ text_sent

abbrev pub text_read : List Entry
text_read = entry (E.Poll B (pos 0) 1) (To.Poll true) (counts 3 1 0 1) ∷ text_brought

-- it is acknowledged later
abbrev pub last_sent : List Entry
last_sent = entry (E.Poll B later 1) (To.Poll true) (counts 3 1 0 0) ∷ text_read

abbrev pub last_brought : List Entry
last_brought = entry (E.Deliver B 1 []) To.Done (counts 3 2 0 0) ∷ last_sent

abbrev pub all_through : List Entry
all_through = entry (E.Poll A later 1) (To.Poll true) (counts 3 2 1 0) ∷ last_brought

-- and neither wants to be polled
abbrev pub a_asked : List Entry
a_asked = entry (E.PollAt A later) (To.At None) (counts 3 2 0 0) ∷ all_through

abbrev pub history : List Entry
history = entry (E.PollAt B later) (To.At None) (counts 3 2 0 0) ∷ a_asked

abbrev pub hosts : Nodes
hosts = record { a = through_a; b = through_b }

-- what happened since both are open
abbrev pub since_open : List Entry
since_open =
    entry (E.PollAt B later) (To.At None) (counts 3 2 0 0) ∷ entry (E.PollAt A later) (To.At None) (counts 3 2 0 0)
    ∷ entry (E.Poll A later 1) (To.Poll true) (counts 3 2 1 0) ∷ entry (E.Deliver B 1 []) To.Done (counts 3 2 0 0)
    ∷ entry (E.Poll B later 1) (To.Poll true) (counts 3 1 0 0) ∷ entry (E.Poll B (pos 0) 1) (To.Poll true) (counts 3 1 0 1)
    ∷ entry (E.Deliver A 2 []) To.Done (counts 3 1 0 0) ∷ entry (E.Poll A (pos 0) 1) (To.Poll true) (counts 2 1 0 0)
    ∷ entry (E.Send A 0 text) (To.Count 3) (counts 2 1 0 0) ∷ []
