-- The world on numerals that settles, where A's user asks for a keep-alive every seven hours once it has written abc: then rounds go on past what is enough
-- for all that was written. They begin there. In the first, abc goes, and comes; in the second neither host has anything to do; ten milliseconds later B
-- acknowledges it, in the third, and A reads that in the fourth; in the fifth, seven hours after abc, a keep-alive goes, and is answered.
use Rattle.std.specs.Prelude.{ℕ, ℤ, ◌+◌, pos, true, false, List, [], ◌∷◌, None, Some}
use Rattle.ip_wire.specs.IpProtocol.TheVariants as Protocol
use Rattle.ip_wire.specs.TcpHeader.{TcpHeader}
use Rattle.wire_ip.specs.declared.ip.repr.IpRepr.{IpRepr}
use Rattle.tcp_block.specs.Arrival.{arrives}
use Rattle.tcp_block.specs.Settings.{set_keep_alive}
use Rattle.tcp_block.specs.Settled.{settled}
use Rattle.tcp_block.specs.Value.{TcpValue}
use Rattle.iface_tables.specs.Inner.{InnerValue, at_instant, context_of, with_next_ident}
use Rattle.iface_egress.specs.IsTransmitted.{numbered_header}
use Rattle.interface.specs.Host.{HostValue, maintained}
use Rattle.lan.specs.declared.at_link.history.answer.Answer.TheVariants as To
use Rattle.lan.specs.declared.at_link.history.event.Event.TheVariants as E
use Rattle.lan.specs.declared.at_link.history.event.Side.{Side}
use Rattle.lan.specs.declared.at_link.history.event.Side.TheVariants.{A, B}
use Rattle.lan.specs.declared.at_link.history.event.TcpSetting.TheVariants as Changed
use Rattle.lan.specs.Worlds.AtLink.History.{Entry}
use Rattle.lan.specs.Worlds.AtLink.Runs.{WorldValue}
use Rattle.lan.specs.Worlds.AtLink.Node.{NodeValue}
use Rattle.proof_stack.specs.Progress.Segments.{asked_by}
use Rattle.proof_stack.specs.Progress.SettledNumerals.{a_later, a_second, a_third, ack, ack_frame, ack_to_a, b_first, b_later, counts, entry, first, first_host}
use Rattle.proof_stack.specs.Progress.SettledNumerals.{frame_from, frame_with, last_ack, last_frame, later, opened, push_frame}
use Rattle.proof_stack.specs.Progress.SettledNumerals.{starts, node_with, syn_ack_frame, syn_frame, through, told_to_send, writing}
use Rattle.proof_stack.specs.Worlds.Hosts.{packet_to}
use Rattle.proof_stack.specs.Worlds.Open.{number}

-- seven hours, and the instant that lies so far after that at which abc goes
abbrev pub interval : ℕ
interval = 25_200_000_000

abbrev pub late : ℤ
late = pos interval

-- THE HOSTS THEN

abbrev pub a_late : InnerValue
a_late = at_instant late a_third

abbrev pub b_late : InnerValue
b_late = at_instant late (with_next_ident b_later)

-- as a poll of that instant leaves a host
abbrev pub polled_late : Side → InnerValue → HostValue
polled_late side inner = record (maintained late (first_host side)) { inner = inner }

-- SEGMENTS

-- one byte 0 below SND.UNA
abbrev pub keep_alive : TcpHeader
keep_alive = record ack { seq_number = number (first A + 3) }

abbrev pub keep_alive_to_b : IpRepr
keep_alive_to_b = packet_to B Protocol.Tcp 21

abbrev pub keep_alive_frame : List ℕ
keep_alive_frame = frame_with a_late keep_alive_to_b keep_alive (0 ∷ [])

-- what answers it says what the acknowledgement of abc said
abbrev pub answer_frame : List ℕ
answer_frame = frame_from b_late ack_to_a last_ack

-- SOCKETS

-- A's, whose user asked for keep-alives; after abc, as it is polled in vain, and ten milliseconds later again, as abc is acknowledged, and after a
-- keep-alive
abbrev pub kept : TcpValue
kept = set_keep_alive writing (Some interval)

abbrev pub kept_written : TcpValue
kept_written = settled true (asked_by a_second kept)

abbrev pub kept_waiting : TcpValue
kept_waiting = asked_by a_later kept_written

abbrev pub kept_through : TcpValue
kept_through = asked_by a_later (arrives (context_of a_later) kept_waiting (numbered_header b_later ack_to_a) last_ack []).socket

abbrev pub kept_asking : TcpValue
kept_asking = settled true (asked_by a_late kept_through)

-- B's, as it is polled in vain, and as it has answered the keep-alive
abbrev pub acknowledging : TcpValue
acknowledging = asked_by (with_next_ident b_later) (through B)

abbrev pub answering : TcpValue
answering =
    asked_by (with_next_ident b_late)
    (arrives (context_of b_late) acknowledging (numbered_header a_late keep_alive_to_b) keep_alive (0 ∷ [])).socket

-- THE WORLD BEFORE

abbrev pub told_to_keep : List Entry
told_to_keep = entry (E.TcpSetting A 0 (Changed.KeepAlive (Some interval))) To.Done (counts 2 1 0 0) ∷ told_to_send

-- the sockets, and the hosts
abbrev pub sockets : Side → TcpValue
sockets A = kept
sockets B = opened B

abbrev pub kept_a : NodeValue
kept_a = node_with (record (maintained (pos 0) (first_host A)) { inner = a_second }) kept [] (syn_frame ∷ ack_frame ∷ [])

abbrev pub open_b : NodeValue
open_b = node_with (record (maintained (pos 0) (first_host B)) { inner = b_first }) (opened B) [] (syn_ack_frame ∷ [])

abbrev pub before : WorldValue
before = record { hosts = record { a = kept_a; b = open_b }; starts = starts; history = told_to_keep }

-- THE ROUNDS

-- abc goes, and comes
abbrev pub first_round : List Entry
first_round =
    entry (E.Poll B (pos 0) 1) (To.Poll true) (counts 3 1 0 1) ∷ entry (E.Deliver A 2 []) To.Done (counts 3 1 0 0)
    ∷ entry (E.Poll A (pos 0) 1) (To.Poll true) (counts 2 1 0 0) ∷ told_to_keep

-- neither host has anything to do
abbrev pub second_round : List Entry
second_round =
    entry (E.PollAt B (pos 0)) (To.At (Some later)) (counts 3 1 0 0) ∷ entry (E.PollAt A (pos 0)) (To.At (Some (pos 1_000_000))) (counts 3 1 0 0)
    ∷ entry (E.Poll B (pos 0) 1) (To.Poll false) (counts 3 1 0 0) ∷ entry (E.Poll A (pos 0) 1) (To.Poll false) (counts 3 1 0 0) ∷ first_round

-- abc is acknowledged
abbrev pub third_round : List Entry
third_round =
    entry (E.Deliver B 1 []) To.Done (counts 3 2 0 0) ∷ entry (E.Poll B later 1) (To.Poll true) (counts 3 1 0 0)
    ∷ entry (E.Poll A later 1) (To.Poll false) (counts 3 1 0 0) ∷ second_round

-- A learns of that
abbrev pub fourth_round : List Entry
fourth_round =
    entry (E.PollAt B later) (To.At None) (counts 3 2 0 0) ∷ entry (E.PollAt A later) (To.At (Some late)) (counts 3 2 0 0)
    ∷ entry (E.Poll B later 1) (To.Poll false) (counts 3 2 0 0) ∷ entry (E.Poll A later 1) (To.Poll true) (counts 3 2 1 0) ∷ third_round

-- a keep-alive goes, and is answered
abbrev pub fifth_round : List Entry
fifth_round =
    entry (E.Deliver B 2 []) To.Done (counts 4 3 0 0) ∷ entry (E.Poll B late 1) (To.Poll true) (counts 4 2 0 1)
    ∷ entry (E.Deliver A 3 []) To.Done (counts 4 2 0 0) ∷ entry (E.Poll A late 1) (To.Poll true) (counts 3 2 0 0) ∷ fourth_round

-- THE WORLD BEHIND

abbrev pub late_a : NodeValue
late_a =
    node_with (polled_late A (with_next_ident a_late)) kept_asking (answer_frame ∷ []) (syn_frame ∷ ack_frame ∷ push_frame ∷ keep_alive_frame ∷ [])

abbrev pub late_b : NodeValue
late_b = node_with (polled_late B (with_next_ident b_late)) answering [] (syn_ack_frame ∷ last_frame ∷ answer_frame ∷ [])

abbrev pub following : WorldValue
following = record { hosts = record { a = late_a; b = late_b }; starts = starts; history = fifth_round }
