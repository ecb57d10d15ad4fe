-- What answers a segment can be sent, and from SYN-SENT on no random word is drawn.
use Rattle.std.proofs.Common.{◌≡◌, ℕ, ◌≤◌, ◌&&◌, not, Bool, true, false, ℤ, List, [], ◌∷◌, map, length, Option, Some, None, is_some, if◌then◌else◌, refl, arith}
use Rattle.std.specs.Prelude.{IfSome}
use Rattle.ip_wire.specs.IpRepr.{IpRepr}
use Rattle.ip_wire.specs.IpRepr.TheVariants as Ip
use Rattle.ip_wire.specs.Tcp.{header_len}
use Rattle.ip_wire.specs.TcpHeader.{TcpHeader}
use Rattle.ip_wire.specs.TcpTimestampRepr.{TcpTimestampRepr}
use Rattle.tcp_ranges.specs.OutOfOrder.{runs_of}
use Rattle.ip_wire.specs.Options.{options_bytes, range_options, timestamps_options}
use Rattle.socket_context.specs.Context.{ContextValue}
use Rattle.socket_context.specs.Packet.{IsSendable}
use Rattle.tcp_block.specs.declared.tcb.Tcb.{Tcb}
use Rattle.tcp_block.specs.FourTuple.{FourTuple}
use Rattle.tcp_block.specs.State.{State}
use Rattle.tcp_block.specs.State.TheVariants as In
use Rattle.tcp_block.specs.Acknowledged.{acknowledged, duplicates_after}
use Rattle.tcp_block.specs.Answers.{may_challenge, with_draw, acked, drawn, ack_due, answers_at_once, answer_for, run_at, others, first_two, numbers_of, sack_blocks}
use Rattle.tcp_block.specs.Arrival.{waiting_anew, outside, is_before_window, is_repeated, passed_outside, finished, with_content, told}
use Rattle.tcp_block.specs.Arrival.{continued, taken, inside, checked}
use Rattle.tcp_block.specs.Arrival.{takes_reset, challenges_reset, reset_arrives, challenges_first, tsecr_heard, received, arrives_in, is_void_syn, arrives}
use Rattle.tcp_block.specs.Checks.{Check, acknowledgement_check, is_in_window, taken_down}
use Rattle.tcp_block.specs.Checks.Check.{Passes, Old, Drops, Draws, Resets}
use Rattle.tcp_block.specs.Controls.{is_syn, is_rst}
use Rattle.tcp_block.specs.Endpoints.{pair_in}
use Rattle.tcp_block.specs.Isn.{isn, draws_number}
use Rattle.tcp_block.specs.Opening.{acks_syn, syn_answered, takes_answer, answering, is_first_syn}
use Rattle.tcp_block.specs.Probing.{probe_kept}
use Rattle.tcp_block.specs.Retries.{heard}
use Rattle.tcp_block.specs.Segments.{no_ranges, tsval_of, sack_segment, rst_reply, reply_to, reset_for, hop_limit_of, has_length}
use Rattle.tcp_block.specs.States.{is_closed}
use Rattle.tcp_block.specs.Payload.{DataStored, with_payload, with_fin}
use Rattle.tcp_block.specs.Timeout.{timeout_restarted}
use Rattle.tcp_block.specs.Timestamps.{believed, tsval_taken}
use Rattle.tcp_block.specs.Value.{TcpValue, Arrived, with_tcb, dropped, answered_with, unoffered, ended, queued_in, free_in, window_of}
use Rattle.tcp_socket.specs.Replies.{packet_in}

-- the answer can be sent, and no random word is drawn
record IsQuick (a : Arrived) : Type 0 where
  draws : a.draws ≡ false
  sendable : IfSome a.answer (λ reply. IsSendable (packet_in reply))

sendable_to : (ip : IpRepr) (hop_limit : ℕ) (segment : TcpHeader) → header_len segment ≤ 60 → IsSendable (packet_in (reply_to ip hop_limit segment))
sendable_to (Ip.Ipv4 v) hop_limit segment short =
    record { header = omega (arith, short); payload = record { header = short; all = omega (arith, short); family = refl }; len = omega arith }
sendable_to (Ip.Ipv6 v) hop_limit segment short =
    record { header = omega (arith, short); payload = record { header = short; all = omega (arith, short); family = refl }; len = omega arith }

pub sendable_reset : (ip : IpRepr) (header : TcpHeader) (size : ℕ) → IsSendable (packet_in (rst_reply ip header size))
sendable_reset ip header size = sendable_to ip 64 (reset_for header size) (omega arith)

-- three ranges at most, which leave room for timestamps
abbrev FewRanges : List (Option (ℕ × ℕ)) → Type 0
FewRanges ranges = length (options_bytes (range_options ranges)) ≤ 26

few_ranges : (a b c : Option (ℕ × ℕ)) → FewRanges (a ∷ b ∷ c ∷ [])
few_ranges None None None = omega arith
few_ranges None None (Some c) = omega arith
few_ranges None (Some b) None = omega arith
few_ranges None (Some b) (Some c) = omega arith
few_ranges (Some a) None None = omega arith
few_ranges (Some a) None (Some c) = omega arith
few_ranges (Some a) (Some b) None = omega arith
few_ranges (Some a) (Some b) (Some c) = omega arith

few_held : (v : TcpValue) (offset : ℕ) → FewRanges (sack_blocks v offset)
few_held v offset = by v.tcb.peer.sack (others offset (runs_of v.received.map)) where
  numbered : Option (ℕ × ℕ) → Option (ℕ × ℕ)
  numbered = numbers_of v.tcb.receiver.next

  met : Option (ℕ × ℕ)
  met = run_at (runs_of v.received.map) offset

  by : (t : Bool) (runs : List (ℕ × ℕ)) → FewRanges (if t then map numbered (met ∷ first_two runs) else no_ranges)
  by false runs = few_ranges None None None
  by true [] = few_ranges (numbered met) None None
  by true (run ∷ []) = few_ranges (numbered met) (numbered (Some run)) None
  by true (run ∷ next ∷ runs) = few_ranges (numbered met) (numbered (Some run)) (numbered (Some next))

tsval_room : (tsval : Option TcpTimestampRepr) → length (options_bytes (timestamps_options tsval)) ≤ 10
tsval_room None = omega arith
tsval_room (Some tsval) = omega arith

sack_room : (b : Tcb) (pair : FourTuple) (now : ℤ) (window : ℕ) (ranges : List (Option (ℕ × ℕ))) → FewRanges ranges
    → header_len (sack_segment b pair now window ranges) ≤ 60
sack_room b pair now window ranges few = let tsval = tsval_room (tsval_of b now) in omega (arith, few, tsval)

quick_dropped : (v : TcpValue) → IsQuick (dropped v)
quick_dropped v = record { draws = refl; sendable = tt }

quick_if : (t : Bool) (a b : Arrived) → IsQuick a → IsQuick b → IsQuick (if t then a else b)
quick_if true a b one other = one
quick_if false a b one other = other

quick_acked : (cx : ContextValue) (v : TcpValue) (ip : IpRepr) (header : TcpHeader) (ranges : List (Option (ℕ × ℕ))) → FewRanges ranges →
    IsQuick (acked cx v ip header ranges)
quick_acked cx v ip header ranges few = record {
  draws = refl;
  sendable = sendable_to ip (hop_limit_of v.tcb.settings.hop_limit) (sack_segment v.tcb (pair_in ip header) cx.instant (window_of v) ranges)
      (sack_room v.tcb (pair_in ip header) cx.instant (window_of v) ranges few);
}

quick_reset : (v : TcpValue) (ip : IpRepr) (header : TcpHeader) (size : ℕ) → IsQuick (answered_with v (rst_reply ip header size))
quick_reset v ip header size = record { draws = refl; sendable = sendable_reset ip header size }

quick_drawn : (cx : ContextValue) (v : TcpValue) (ip : IpRepr) (header : TcpHeader) → IsQuick (drawn cx v ip header)
quick_drawn cx v ip header =
    quick_if (may_challenge cx.instant v.tcb.timers.challenges_from) (acked cx (with_draw v cx.instant) ip header no_ranges) (dropped v)
    (quick_acked cx (with_draw v cx.instant) ip header no_ranges (few_ranges None None None)) (quick_dropped v)

quick_outside : (cx : ContextValue) (v : TcpValue) (ip : IpRepr) (header : TcpHeader) (again : Bool) → IsQuick (outside cx v ip header again)
quick_outside cx v ip header again =
    let w = waiting_anew v header cx.instant in
    let open_yet : Arrived = if again then acked cx w ip header no_ranges else drawn cx w ip header in
    quick_if (is_closed v.tcb.state) (dropped v) open_yet (quick_dropped v)
    (quick_if again (acked cx w ip header no_ranges) (drawn cx w ip header) (quick_acked cx w ip header no_ranges (few_ranges None None None))
    (quick_drawn cx w ip header))

quick_passed_outside : (cx : ContextValue) (v : TcpValue) (ip : IpRepr) (header : TcpHeader) (size by : ℕ) → IsQuick (passed_outside cx v ip header size by)
quick_passed_outside cx v ip header size by =
    let told_of = acknowledged (tsecr_heard v header by cx.instant) by cx.instant in
    quick_if (is_before_window v header size) (outside cx told_of ip header (has_length header size)) (outside cx v ip header false)
    (quick_outside cx told_of ip header (has_length header size)) (quick_outside cx v ip header false)

quick_answer : (cx : ContextValue) (v : TcpValue) (ip : IpRepr) (header : TcpHeader) (size : ℕ) (fills : Bool) (early : Option ℕ) →
    IsQuick (answer_for cx v ip header size fills early)
quick_answer cx v ip header size fills (Some offset) = quick_acked cx v ip header (sack_blocks v offset) (few_held v offset)
quick_answer cx v ip header size fills None =
    let later = with_tcb v (ack_due v.tcb header size fills cx.instant) in
    quick_if (answers_at_once cx v.tcb ip header size) (acked cx v ip header no_ranges) (dropped later)
    (quick_acked cx v ip header no_ranges (few_ranges None None None)) (quick_dropped later)

quick_finished : (cx : ContextValue) (old : Tcb) (t : DataStored) (ip : IpRepr) (header : TcpHeader) (size : ℕ) → IsQuick (finished cx old t ip header size)
quick_finished cx old t ip header size =
    quick_answer cx (with_tcb t.socket (probe_kept (with_fin t.socket.tcb old header size t.advance cx.instant) (queued_in t.socket))) ip header size
    t.fills t.early

quick_content : (cx : ContextValue) (v : TcpValue) (ip : IpRepr) (header : TcpHeader) (bytes : List ℕ) → IsQuick (with_content cx v ip header bytes)
quick_content cx v ip header bytes = quick_finished cx v.tcb (with_payload v header bytes) ip header (length bytes)

quick_continued : (cx : ContextValue) (old : Tcb) (v : TcpValue) (ip : IpRepr) (header : TcpHeader) (bytes : List ℕ) (by : ℕ) →
    IsQuick (continued cx old v ip header bytes by)
quick_continued cx old v ip header bytes by =
    let heard_of = told v header (duplicates_after old header (length bytes) by) cx.instant in
    quick_if (is_closed v.tcb.state) (dropped v) (with_content cx heard_of ip header bytes) (quick_dropped v) (quick_content cx heard_of ip header bytes)

quick_inside : (cx : ContextValue) (v : TcpValue) (ip : IpRepr) (header : TcpHeader) (bytes : List ℕ) (by : ℕ) → IsQuick (inside cx v ip header bytes by)
quick_inside cx v ip header bytes by =
    quick_if (is_syn header.control) (drawn cx v ip header) (taken cx v ip header bytes by) (quick_drawn cx v ip header)
    (quick_continued cx v.tcb (acknowledged (tsecr_heard v header by cx.instant) by cx.instant) ip header bytes by)

quick_checked : (c : Check) (cx : ContextValue) (v : TcpValue) (ip : IpRepr) (header : TcpHeader) (bytes : List ℕ) → IsQuick (checked c cx v ip header bytes)
quick_checked (Passes by) cx v ip header bytes =
    quick_if (is_in_window v.tcb (free_in v) header (length bytes)) (inside cx v ip header bytes by) (passed_outside cx v ip header (length bytes) by)
    (quick_inside cx v ip header bytes by) (quick_passed_outside cx v ip header (length bytes) by)
quick_checked Old cx v ip header bytes =
    let heard_of = with_tcb v (tsval_taken (heard v.tcb) header cx.instant) in
    let again = is_repeated v header (length bytes) in
    quick_if (is_in_window v.tcb (free_in v) header (length bytes)) (with_content cx heard_of ip header bytes) (outside cx v ip header again)
    (quick_content cx heard_of ip header bytes) (quick_outside cx v ip header again)
quick_checked Drops cx v ip header bytes = quick_dropped v
quick_checked Draws cx v ip header bytes = quick_drawn cx v ip header
quick_checked Resets cx v ip header bytes = quick_reset v ip header (length bytes)

quick_reset_arrives : (cx : ContextValue) (v : TcpValue) (ip : IpRepr) (header : TcpHeader) (size : ℕ) → IsQuick (reset_arrives cx v ip header size)
quick_reset_arrives cx v ip header size =
    let rest : Arrived = if challenges_reset v header size then drawn cx v ip header else dropped v in
    quick_if (takes_reset v.tcb header) (dropped (taken_down v)) rest (quick_dropped (taken_down v))
    (quick_if (challenges_reset v header size) (drawn cx v ip header) (dropped v) (quick_drawn cx v ip header) (quick_dropped v))

quick_received : (cx : ContextValue) (v : TcpValue) (ip : IpRepr) (header : TcpHeader) (bytes : List ℕ) → IsQuick (received cx v ip header bytes)
quick_received cx v ip header bytes =
    let check = acknowledgement_check v.tcb header.ack_number in
    let rest : Arrived = if challenges_first v.tcb header cx.instant then drawn cx v ip header else checked check cx v ip header bytes in
    quick_if (is_rst header.control) (reset_arrives cx v ip header (length bytes)) rest (quick_reset_arrives cx v ip header (length bytes))
    (quick_if (challenges_first v.tcb header cx.instant) (drawn cx v ip header) (checked check cx v ip header bytes) (quick_drawn cx v ip header)
    (quick_checked check cx v ip header bytes))

quick_takes_answer : (cx : ContextValue) (v : TcpValue) (ip : IpRepr) (header : TcpHeader) (bytes : List ℕ) → IsQuick (takes_answer cx v ip header bytes)
quick_takes_answer cx v ip header bytes =
    let known = acks_syn v.tcb.sender.una header.ack_number in
    let taken_syn = with_tcb v (timeout_restarted (syn_answered v.tcb header cx.instant) cx.instant (queued_in v)) in
    let reset = answered_with v (rst_reply ip header (length bytes)) in
    let down : Arrived = if known then dropped (ended v) else dropped v in
    let last : Arrived = if is_syn header.control then dropped taken_syn else dropped v in
    let second : Arrived = if is_some header.ack_number && not known then reset else last in
    quick_if (is_rst header.control) down second
    (quick_if known (dropped (ended v)) (dropped v) (quick_dropped (ended v)) (quick_dropped v))
    (quick_if (is_some header.ack_number && not known) reset last (quick_reset v ip header (length bytes))
    (quick_if (is_syn header.control) (dropped taken_syn) (dropped v) (quick_dropped taken_syn) (quick_dropped v)))

pub received_draws : (cx : ContextValue) (v : TcpValue) (ip : IpRepr) (header : TcpHeader) (bytes : List ℕ) → (received cx v ip header bytes).draws ≡ false
received_draws cx v ip header bytes = (quick_received cx v ip header bytes).draws

pub takes_answer_draws : (cx : ContextValue) (v : TcpValue) (ip : IpRepr) (header : TcpHeader) (bytes : List ℕ) →
    (takes_answer cx v ip header bytes).draws ≡ false
takes_answer_draws cx v ip header bytes = (quick_takes_answer cx v ip header bytes).draws

-- the states from SYN-RECEIVED on
pub later_arrives : (state : State) (cx : ContextValue) (v : TcpValue) (ip : IpRepr) (header : TcpHeader) (bytes : List ℕ)
    → (state ≡ In.Closed → ⊥) → (state ≡ In.Listen → ⊥) → (state ≡ In.SynSent → ⊥)
    → arrives_in state cx v ip header bytes ≡ received cx v ip header bytes
later_arrives In.Closed cx v ip header bytes closed listens opens = absurd (closed refl)
later_arrives In.Listen cx v ip header bytes closed listens opens = absurd (listens refl)
later_arrives In.SynSent cx v ip header bytes closed listens opens = absurd (opens refl)
later_arrives other cx v ip header bytes closed listens opens = refl

-- what answers a segment can be sent
if_sendable : (t : Bool) (a b : Arrived) → IfSome a.answer (λ reply. IsSendable (packet_in reply)) → IfSome b.answer (λ reply. IsSendable (packet_in reply)) →
    IfSome (if t then a else b).answer (λ reply. IsSendable (packet_in reply))
if_sendable true a b one other = one
if_sendable false a b one other = other

sendable_in : (state : State) (cx : ContextValue) (v : TcpValue) (ip : IpRepr) (header : TcpHeader) (bytes : List ℕ) →
    IfSome (arrives_in state cx v ip header bytes).answer (λ reply. IsSendable (packet_in reply))
sendable_in In.Closed cx v ip header bytes = tt
sendable_in In.Listen cx v ip header bytes =
    let opened : Arrived = record {
      socket =
          with_tcb v
          (timeout_restarted (believed (answering v.tcb ip header (isn cx (pair_in ip header))) cx.instant) cx.instant 0);
      answer = None;
      draws = draws_number cx;
    } in
    if_sendable (is_first_syn header) opened (dropped v) tt tt
sendable_in In.SynSent cx v ip header bytes = (quick_takes_answer cx v ip header bytes).sendable
sendable_in other cx v ip header bytes = (quick_received cx v ip header bytes).sendable

pub sendable_answer : (cx : ContextValue) (v : TcpValue) (ip : IpRepr) (header : TcpHeader) (bytes : List ℕ) →
    IfSome (arrives cx v ip header bytes).answer (λ reply. IsSendable (packet_in reply))
sendable_answer cx v ip header bytes =
    if_sendable (is_void_syn header) (dropped (unoffered v)) (arrives_in v.tcb.state cx (unoffered v) ip header bytes) tt
    (sendable_in v.tcb.state cx (unoffered v) ip header bytes)
