-- Drawn answers lie a second apart.
use Rattle.std.proofs.Common.{◌≡◌, ℕ, ◌+◌, ◌≤◌, ◌&&◌, ◌||◌, not, Bool, true, false, if◌then◌else◌, List, [], ◌∷◌, ◌++◌, length, nat_le, ◌==◌, Option, Some}
use Rattle.std.proofs.Common.{None, is_some, ℤ, pos, ◌+ℤ◌, ◌≤ℤ◌, int_le, refl, sym, ap, ◌∙◌, subst, arith}
use Rattle.std.proofs.lemmas.Bool.{cond_both}
use Rattle.std.proofs.lemmas.Bool.Decides.{nat_tests}
use Rattle.tcp_ranges.specs.OutOfOrder.{runs_of}
use Rattle.ip_wire.specs.IpRepr.{IpRepr}
use Rattle.ip_wire.specs.TcpHeader.{TcpHeader}
use Rattle.tcp_state.specs.Context.{ContextValue}
use Rattle.tcp_state.specs.Offers.{Offered}
use Rattle.tcp_state.specs.Controls.{is_syn, is_rst}
use Rattle.tcp_state.specs.Moments.{is_due, is_over, next_challenge_from}
use Rattle.tcp_state.specs.Offsets.{distance_before, distance_after, overlaps_window}
use Rattle.tcp_state.specs.States.{is_closed, is_listening, is_opening, is_answering, takes_writes, accepts_data, after_close, after_ack, after_ack_of_fin}
use Rattle.tcp_state.specs.declared.endpoints.FourTuple.{FourTuple}
use Rattle.tcp_state.specs.declared.offer.OfferKind.{OfferKind}
use Rattle.tcp_state.specs.declared.offer.OfferKind.TheVariants as Kind
use Rattle.tcp_state.specs.declared.offer.OpenOffer.{OpenOffer}
use Rattle.tcp_state.specs.declared.state.State.{State}
use Rattle.tcp_state.specs.declared.state.State.TheVariants as In
use Rattle.tcp_block.specs.Acknowledged.{acknowledged, tcb_acknowledged, acks_fin, in_state, una_moved, state_after_ack, ended_if, names_window, windowed}
use Rattle.tcp_block.specs.Acknowledged.{duplicates_after}
use Rattle.tcp_block.specs.Answers.{may_challenge, with_draw, drawn, acked, answer_for, answers_at_once, ack_due}
use Rattle.tcp_block.specs.Arrival.{arrives, arrives_in, is_void_syn, outside, is_before_window, is_repeated, passed_outside, waiting_anew, inside, taken}
use Rattle.tcp_block.specs.Arrival.{told, with_content, continued, finished, checked, reset_arrives, tsecr_heard, takes_reset, challenges_reset, challenges_first}
use Rattle.tcp_block.specs.Calls.{listening, send_after, close_after}
use Rattle.tcp_block.specs.Checks.{Check, acknowledgement_check, is_in_window, lies_before, falls_back, taken_down}
use Rattle.tcp_block.specs.Checks.Check.{Passes, Old, Drops, Draws, Resets}
use Rattle.tcp_block.specs.LossRecovery.{loss_probe_deadline, loss_probed, loss_probed_by}
use Rattle.tcp_block.specs.Offers.{silent, offer_of, offer_with, offer_between, offer_reset, first_rules, last_rules, backed_off, offer_syn, offer_choice}
use Rattle.tcp_block.specs.Offers.{offer_ack, offer_keep_alive, offer_window_limited}
use Rattle.tcp_block.specs.Opening.{opens, takes_answer, is_first_syn, acks_syn, connected, crossed}
use Rattle.tcp_block.specs.Pauses.{Happening, Lasts, IsOneConnection, AreApart, after, drawn_instants, is_drawing, draws_in, draws_any, draws_by, pause_of}
use Rattle.tcp_block.specs.Pauses.{IsAnsweredAtOnce}
use Rattle.tcp_block.specs.Pauses.Happening.{Comes, Asked, Called}
use Rattle.tcp_block.specs.Probing.{probe_deadline, probe_started}
use Rattle.tcp_block.specs.Probing.{probe_kept}
use Rattle.tcp_block.specs.Retries.{heard, asked, gives_up, given_up}
use Rattle.tcp_block.specs.Rules.{owes_syn, resends, resend_choice, has_payload, payload_choice, ack_deadline, updates_window, keep_alive_deadline, probe_choice}
use Rattle.tcp_block.specs.Rules.{backed_off_now, time_wait_end}
use Rattle.tcp_block.specs.Segments.{no_ranges, segment_len, rst_reply, has_length}
use Rattle.tcp_block.specs.Settled.{settled, sent_as, recorded, probed, end_of}
use Rattle.tcp_block.specs.Payload.{DataStored, data_stored, with_payload, with_payload_at, with_bytes_at, taken_in_order, out_of_order, has_new_payload, laid, takes_fin, with_fin}
use Rattle.tcp_block.specs.Payload.{fin_taken}
use Rattle.tcp_block.specs.Timeout.{timeout_end, timeout_started, timed_out}
use Rattle.tcp_block.specs.Timestamps.{tsval_taken, tsecr_taken}
use Rattle.tcp_block.specs.Undone.{undone, reordering_hinted}
use Rattle.tcp_block.specs.Value.{TcpValue, Arrived, with_tcb, dropped, answered_with, unoffered, ended, queued_in, free_in, room_of}
use Rattle.tcp_block.specs.declared.tcb.Tcb.{Tcb}

-- CALLS AND OFFERS

pub send_pause : (v : TcpValue) (bytes : List ℕ) → pause_of (send_after v bytes) ≡ pause_of v
send_pause v bytes = cond_both (takes_writes v.tcb.state) _ (unoffered v) (λ (w : TcpValue). pause_of w ≡ pause_of v) (λ _. refl) (λ _. refl)

pub close_pause : (v : TcpValue) → pause_of (close_after v) ≡ pause_of v
close_pause v =
    cond_both (is_opening v.tcb.state) (ended (unoffered v)) (with_tcb (unoffered v) (record v.tcb { state = after_close v.tcb.state }))
    (λ (w : TcpValue). pause_of w ≡ pause_of v) (λ _. refl) (λ _. refl)

asked_leaves : (b : Tcb) (now : ℤ) → (asked b now).timers.challenges_from ≡ b.timers.challenges_from
asked_leaves b now = cond_both (is_over now b.timers.counts_from) _ b (λ (c : Tcb). c.timers.challenges_from ≡ b.timers.challenges_from) (λ _. refl) (λ _. refl)

sent_pause : (kind : OfferKind) (b : Tcb) (o : OpenOffer) (queued : ℕ) → (sent_as kind b o queued).timers.challenges_from ≡ b.timers.challenges_from
sent_pause Kind.Reset b o queued = refl
sent_pause Kind.Syn b o queued = refl
sent_pause Kind.FastRetransmission b o queued = refl
sent_pause Kind.Payload b o queued = refl
sent_pause Kind.Probe b o queued = asked_leaves (probed b (end_of b o) o.instant) o.instant
sent_pause Kind.Ack b o queued = refl
sent_pause Kind.WindowUpdate b o queued = refl
sent_pause Kind.KeepAlive b o queued = asked_leaves b o.instant

pub settled_pause : (v : TcpValue) (sent : Bool) → pause_of (settled sent v) ≡ pause_of v
settled_pause v false = refl
settled_pause v true = by v.offered refl where
  by : (offered : Option OpenOffer) → v.offered ≡ offered → pause_of (settled true v) ≡ pause_of v
  by None e = rw e refl
  by (Some o) e = rw e (sent_pause o.kind (recorded v.tcb o (room_of v.received)) o (queued_in v))

-- an offer leaves the pause that the block had
abbrev Leaves : Tcb → Offered TcpValue → Type 0
Leaves b o = pause_of o.socket ≡ b.timers.challenges_from

last_pause : (cx : ContextValue) (v : TcpValue) (pair : FourTuple) → Leaves v.tcb (last_rules cx v pair)
last_pause cx v pair =
    cond_both (is_due cx.instant (probe_deadline v.tcb (queued_in v))) (offer_window_limited cx v pair) _ (Leaves v.tcb)
    (λ _. cond_both (v.tcb.peer.window == 0) (offer_choice Kind.Probe cx v pair probe_choice)
    (offer_choice Kind.Payload cx v pair (payload_choice v.tcb pair.addresses cx.ip_mtu v.queued)) (Leaves v.tcb) (λ _. refl) (λ _. refl))
    (λ _. cond_both (is_due cx.instant (ack_deadline v.tcb)) (offer_ack Kind.Ack cx v pair) _ (Leaves v.tcb) (λ _. refl)
    (λ _. cond_both (updates_window v.tcb (room_of v.received) (free_in v)) (offer_ack Kind.WindowUpdate cx v pair) _ (Leaves v.tcb) (λ _. refl)
    (λ _. cond_both (is_due cx.instant (keep_alive_deadline v.tcb)) (offer_keep_alive cx v pair) (silent false v) (Leaves v.tcb) (λ _. refl) (λ _. refl))))

first_pause : (cx : ContextValue) (v : TcpValue) (pair : FourTuple) → Leaves v.tcb (first_rules cx v pair)
first_pause cx v pair =
    cond_both (owes_syn v.tcb) (offer_syn cx v pair) _ (Leaves v.tcb) (λ _. refl)
    (λ _. cond_both (resends v.tcb pair.addresses cx.ip_mtu v.queued)
    (offer_choice Kind.FastRetransmission cx v pair (resend_choice v.tcb pair.addresses cx.ip_mtu v.queued)) _ (Leaves v.tcb) (λ _. refl)
    (λ _. cond_both (has_payload v.tcb pair.addresses cx.ip_mtu v.queued)
    (offer_choice Kind.Payload cx v pair (payload_choice v.tcb pair.addresses cx.ip_mtu v.queued)) _ (Leaves v.tcb) (λ _. refl)
    (λ _. last_pause cx (with_tcb v (probe_started cx.instant (queued_in v) v.tcb)) pair)))

backed_off_pause : (now : ℤ) (b : Tcb) → (backed_off now b).timers.challenges_from ≡ b.timers.challenges_from
backed_off_pause now b =
    cond_both (is_due now b.timers.retransmit_at) (backed_off_now b) (loss_probed_by now b) (λ (c : Tcb). c.timers.challenges_from ≡ b.timers.challenges_from)
    (λ _. refl)
    (λ _. cond_both (is_due now (loss_probe_deadline b)) (loss_probed b) b (λ (c : Tcb). c.timers.challenges_from ≡ b.timers.challenges_from) (λ _. refl) (λ _. refl))

-- a socket that is taken back to LISTEN wasn't there
not_there : (b : Tcb) → falls_back b ≡ true → is_listening b.state ≡ false
not_there b = by b.state where
  by : (state : State) → (is_answering state && not (b.names.listen.port == 0)) ≡ true → is_listening state ≡ false
  by In.SynReceived e = refl
  by other e = absurd (cc)

-- a socket that was taken back to LISTEN begins again; any other has the pause that the block had
abbrev LeavesWhere : Tcb → TcpValue → Type 0
LeavesWhere b w = (is_listening w.tcb.state ≡ true → is_listening b.state ≡ true) → pause_of w ≡ b.timers.challenges_from

end_pause : (v : TcpValue) → LeavesWhere v.tcb (given_up v)
end_pause v =
    cond_both (falls_back v.tcb) (listening v v.tcb.names.listen) (with_tcb v (timed_out v.tcb)) (LeavesWhere v.tcb)
    (λ back lasts. absurd (let clash : true ≡ false = sym (lasts refl) ∙ not_there v.tcb back in cc))
    (λ _ _. refl)

between_pause : (cx : ContextValue) (v : TcpValue) (pair : FourTuple) → LeavesWhere v.tcb (offer_between cx v pair).socket
between_pause cx v pair =
    cond_both (is_due cx.instant (time_wait_end v.tcb)) (silent true (ended v)) _ LeavesSo (λ _ _. refl)
    (λ _. cond_both (is_due cx.instant (timeout_end v.tcb (queued_in v))) (silent true (with_tcb v (timed_out v.tcb))) _ LeavesSo (λ _ _. refl)
    (λ _. cond_both (is_closed v.tcb.state) (if v.tcb.sender.reset_due then offer_reset cx v pair else silent false v) _ LeavesSo
    (λ _. cond_both v.tcb.sender.reset_due (offer_reset cx v pair) (silent false v) LeavesSo (λ _ _. refl) (λ _ _. refl))
    (λ _. cond_both (gives_up cx.instant v.tcb (queued_in v)) (silent true (given_up v)) _ LeavesSo (λ _. end_pause v)
    (λ _ _. first_pause cx (with_tcb v (backed_off cx.instant (timeout_started cx.instant (queued_in v) v.tcb))) pair
    ∙ backed_off_pause cx.instant (timeout_started cx.instant (queued_in v) v.tcb)))))
  where
    LeavesSo : Offered TcpValue → Type 0
    LeavesSo o = LeavesWhere v.tcb o.socket

offer_pause : (cx : ContextValue) (v : TcpValue) → LeavesWhere v.tcb (offer_of cx v).socket
offer_pause cx v = by v.tcb.names.pair where
  by : (pair : Option FourTuple) → LeavesWhere v.tcb (offer_with pair cx (unoffered v)).socket
  by None = λ _. refl
  by (Some pair) = between_pause cx (unoffered v) pair

asked_pause : (cx : ContextValue) (v : TcpValue) (sent : Bool) → Lasts v (Asked cx sent) → pause_of (settled sent (offer_of cx v).socket) ≡ pause_of v
asked_pause cx v sent lasts = settled_pause (offer_of cx v).socket sent ∙ offer_pause cx v lasts

if_so : {A : Type 0} (t : Bool) (x y : A) → t ≡ true → (if t then x else y) ≡ x
if_so t x y e = ap (λ (test : Bool). if test then x else y) e

if_not : {A : Type 0} (t : Bool) (x y : A) → t ≡ false → (if t then x else y) ≡ y
if_not t x y e = ap (λ (test : Bool). if test then x else y) e

-- SEGMENTS THAT ARE TAKEN

abbrev Keeps : Option ℤ → Arrived → Type 0
Keeps pause a = pause_of a.socket ≡ pause

payload_pause : (v : TcpValue) (offset : ℕ) (bytes : List ℕ) → pause_of (with_payload_at v offset bytes).socket ≡ pause_of v
payload_pause v offset bytes =
    cond_both (accepts_data v.tcb.state && has_new_payload v offset bytes) (with_bytes_at v offset bytes) (data_stored v 0 false None) Kept
    (λ _. cond_both (offset == 0) (taken_in_order v (laid v offset bytes)) (out_of_order v offset (laid v offset bytes)) Kept (λ _. refl) (λ _. held))
    (λ _. refl)
  where
    Kept : DataStored → Type 0
    Kept t = pause_of t.socket ≡ pause_of v

    held : Kept (out_of_order v offset (laid v offset bytes))
    held = cond_both (nat_le (length (runs_of (laid v offset bytes))) 32) _ (data_stored v 0 false None) Kept (λ _. refl) (λ _. refl)

answer_pause : (cx : ContextValue) (v : TcpValue) (ip : IpRepr) (header : TcpHeader) (size : ℕ) (fills : Bool) (early : Option ℕ) →
    Keeps (pause_of v) (answer_for cx v ip header size fills early)
answer_pause cx v ip header size fills None =
    cond_both (answers_at_once cx v.tcb ip header size) (acked cx v ip header no_ranges)
    (dropped (with_tcb v (ack_due v.tcb header size fills cx.instant))) (Keeps (pause_of v)) (λ _. refl) (λ _. refl)
answer_pause cx v ip header size fills (Some offset) = refl

fin_pause : (b old : Tcb) (header : TcpHeader) (size advance : ℕ) (now : ℤ) → (with_fin b old header size advance now).timers.challenges_from ≡ b.timers.challenges_from
fin_pause b old header size advance now =
    cond_both (takes_fin old header size advance) (fin_taken b now) b (λ (c : Tcb). c.timers.challenges_from ≡ b.timers.challenges_from) (λ _. refl) (λ _. refl)

finished_pause : (cx : ContextValue) (old : Tcb) (t : DataStored) (ip : IpRepr) (header : TcpHeader) (size : ℕ) →
    Keeps (pause_of t.socket) (finished cx old t ip header size)
finished_pause cx old t ip header size =
    answer_pause cx (with_tcb t.socket (probe_kept (with_fin t.socket.tcb old header size t.advance cx.instant) (queued_in t.socket))) ip header size t.fills
    t.early
    ∙ fin_pause t.socket.tcb old header size t.advance cx.instant

acknowledged_pause : (v : TcpValue) (by : ℕ) (now : ℤ) → pause_of (acknowledged v by now) ≡ pause_of v
acknowledged_pause v by now = either (is_closed (state_after_ack v.tcb by (queued_in v))) where
  either : (ends : Bool) →
      (ended_if ends (in_state (una_moved v.tcb by (queued_in v) now) (state_after_ack v.tcb by (queued_in v)) now)).timers.challenges_from ≡ pause_of v
  either true = refl
  either false = refl

-- an echo says nothing of whether the connection ends
tsecr_ends : (v : TcpValue) (header : TcpHeader) (by : ℕ) (now : ℤ)
    → (acknowledged (tsecr_heard v header by now) by now).tcb.state ≡ (tcb_acknowledged v.tcb by (queued_in v) now).state
tsecr_ends v header by now = either (is_closed (state_after_ack v.tcb by (queued_in v))) where
  either : (ends : Bool)
      → (ended_if ends (in_state (una_moved (reordering_hinted (tsecr_taken (undone v.tcb header by (queued_in v)) header by now) by now) by (queued_in v) now)
      (state_after_ack v.tcb by (queued_in v)) now)).state
      ≡ (ended_if ends (in_state (una_moved v.tcb by (queued_in v) now) (state_after_ack v.tcb by (queued_in v)) now)).state
  either true = refl
  either false = refl

content_pause : (cx : ContextValue) (v : TcpValue) (ip : IpRepr) (header : TcpHeader) (bytes : List ℕ) → Keeps (pause_of v) (with_content cx v ip header bytes)
content_pause cx v ip header bytes = finished_pause cx v.tcb (with_payload v header bytes) ip header (length bytes) ∙ payload_pause v _ _

told_pause : (v : TcpValue) (header : TcpHeader) (duplicates : ℕ) (now : ℤ) → pause_of (told v header duplicates now) ≡ pause_of v
told_pause v header duplicates now =
    cond_both (names_window v.tcb header) (windowed v.tcb header) v.tcb (λ (b : Tcb). b.timers.challenges_from ≡ pause_of v) (λ _. refl) (λ _. refl)

continued_pause :
    (cx : ContextValue) (old : Tcb) (v : TcpValue) (ip : IpRepr) (header : TcpHeader) (bytes : List ℕ) (by : ℕ)
    → Keeps (pause_of v) (continued cx old v ip header bytes by)
continued_pause cx old v ip header bytes by =
    let heard_of : TcpValue = told v header (duplicates_after old header (length bytes) by) cx.instant in
    cond_both (is_closed v.tcb.state) (dropped v) (with_content cx heard_of ip header bytes) (Keeps (pause_of v)) (λ _. refl)
    (λ _. content_pause cx heard_of ip header bytes ∙ told_pause v header (duplicates_after old header (length bytes) by) cx.instant)

taken_pause :
    (cx : ContextValue) (v : TcpValue) (ip : IpRepr) (header : TcpHeader) (bytes : List ℕ) (by : ℕ) → Keeps (pause_of v) (taken cx v ip header bytes by)
taken_pause cx v ip header bytes by =
    let timed : TcpValue = tsecr_heard v header by cx.instant in
    continued_pause cx v.tcb (acknowledged timed by cx.instant) ip header bytes by ∙ acknowledged_pause timed by cx.instant

-- EACH SEGMENT

-- what a segment does to the pause, by whether it elicits an answer: it may restart it, or leaves it; or it takes a listener back
record Moves (cx : ContextValue) (v : TcpValue) (draws : Bool) (a : Arrived) : Type 0 where
  answered : draws ≡ true → is_some a.answer ≡ may_challenge cx.instant (pause_of v)
  paused : draws ≡ true → is_some a.answer ≡ true → pause_of a.socket ≡ Some (next_challenge_from cx.instant)
  left : (draws && is_some a.answer) ≡ false → (is_listening a.socket.tcb.state ≡ true → is_listening v.tcb.state ≡ true) → pause_of a.socket ≡ pause_of v

undrawn : (cx : ContextValue) (v : TcpValue) (a : Arrived) → Keeps (pause_of v) a → Moves cx v false a
undrawn cx v a keeps = record { answered = λ e. absurd (cc); paused = λ e _. absurd (cc); left = λ _ _. keeps }

drawn_moves : (cx : ContextValue) (v w : TcpValue) (ip : IpRepr) (header : TcpHeader) → pause_of w ≡ pause_of v → Moves cx v true (drawn cx w ip header)
drawn_moves cx v w ip header same =
    cond_both (may_challenge cx.instant w.tcb.timers.challenges_from) (acked cx (with_draw w cx.instant) ip header no_ranges) (dropped w) (Moves cx v true)
    (λ over. record { answered = λ _. sym (ap (may_challenge cx.instant) (sym same) ∙ over); paused = λ _ _. refl; left = λ e _. absurd (cc) })
    (λ early. record { answered = λ _. sym (ap (may_challenge cx.instant) (sym same) ∙ early); paused = λ _ e. absurd (cc); left = λ _ _. same })

down_moves : (cx : ContextValue) (v : TcpValue) → Moves cx v false (dropped (taken_down v))
down_moves cx v =
    cond_both (falls_back v.tcb) (listening v v.tcb.names.listen) (ended v) (λ (w : TcpValue). Moves cx v false (dropped w))
    (λ back. record {
      answered = λ e. absurd (cc);
      paused = λ e _. absurd (cc);
      left = λ _ lasts. absurd (let clash : true ≡ false = sym (lasts refl) ∙ not_there v.tcb back in cc);
    })
    (λ _. undrawn cx v (dropped (ended v)) refl)

module _ (cx : ContextValue) (v : TcpValue) (ip : IpRepr) (header : TcpHeader) (bytes : List ℕ) where
  inside_moves : (by : ℕ) → Moves cx v (is_syn header.control) (inside cx v ip header bytes by)
  inside_moves by = other (is_syn header.control) where
    other : (syn : Bool) → Moves cx v syn (if syn then drawn cx v ip header else taken cx v ip header bytes by)
    other true = drawn_moves cx v v ip header refl
    other false = undrawn cx v (taken cx v ip header bytes by) (taken_pause cx v ip header bytes by)

  outside_moves : (w : TcpValue) (again : Bool) → pause_of w ≡ pause_of v
      → Moves cx v (not again && not (is_closed w.tcb.state)) (outside cx w ip header again)
  outside_moves w again same = by (is_closed w.tcb.state) again where
    x : TcpValue
    x = waiting_anew w header cx.instant

    by : (closed again : Bool)
        → Moves cx v (not again && not closed) (if closed then dropped w else if again then acked cx x ip header no_ranges else drawn cx x ip header)
    by true true = undrawn cx v (dropped w) same
    by true false = undrawn cx v (dropped w) same
    by false true = undrawn cx v (acked cx x ip header no_ranges) same
    by false false = drawn_moves cx v x ip header same

  -- whether a segment outside the window elicits an answer
  abbrev Draws_outside : ℕ → Bool → Bool
  Draws_outside by tells =
      if tells then not (has_length header (length bytes)) && not (is_closed (tcb_acknowledged v.tcb by (queued_in v) cx.instant).state)
      else not (is_closed v.tcb.state)

  passed_outside_moves : (by : ℕ) (tells : Bool)
      → Moves cx v (Draws_outside by tells)
      (if tells then outside cx (acknowledged (tsecr_heard v header by cx.instant) by cx.instant) ip header (has_length header (length bytes))
      else outside cx v ip header false)
  passed_outside_moves by true =
      let timed : TcpValue = tsecr_heard v header by cx.instant in
      let told_of : TcpValue = acknowledged timed by cx.instant in
      let again : Bool = has_length header (length bytes) in
      subst (λ (state : State). Moves cx v (not again && not (is_closed state)) (outside cx told_of ip header again)) (tsecr_ends v header by cx.instant)
      (outside_moves told_of again (acknowledged_pause timed by cx.instant))
  passed_outside_moves by false = outside_moves v false refl

  passed_moves : (by : ℕ) (meets : Bool)
      → Moves cx v (if meets then is_syn header.control else Draws_outside by (is_before_window v header (length bytes)))
      (if meets then inside cx v ip header bytes by else passed_outside cx v ip header (length bytes) by)
  passed_moves by true = inside_moves by
  passed_moves by false = passed_outside_moves by (is_before_window v header (length bytes))

  abbrev Again : Bool
  Again = is_repeated v header (length bytes)

  old_moves : (meets : Bool)
      → Moves cx v (not meets && (not Again && not (is_closed v.tcb.state)))
      (if meets then with_content cx (with_tcb v (tsval_taken (heard v.tcb) header cx.instant)) ip header bytes else outside cx v ip header Again)
  old_moves true = undrawn cx v _ (content_pause cx (with_tcb v (tsval_taken (heard v.tcb) header cx.instant)) ip header bytes)
  old_moves false = outside_moves v Again refl

  checked_moves : (check : Check) → Moves cx v (draws_by check cx v header (length bytes)) (checked check cx v ip header bytes)
  checked_moves (Passes by) = passed_moves by (is_in_window v.tcb (free_in v) header (length bytes))
  checked_moves Old = old_moves (is_in_window v.tcb (free_in v) header (length bytes))
  checked_moves Drops = undrawn cx v (dropped v) refl
  checked_moves Draws = drawn_moves cx v v ip header refl
  checked_moves Resets = undrawn cx v (answered_with v (rst_reply ip header (length bytes))) refl

  reset_moves : (takes challenges : Bool)
      → Moves cx v (not takes && challenges) (if takes then dropped (taken_down v) else if challenges then drawn cx v ip header else dropped v)
  reset_moves true challenges = down_moves cx v
  reset_moves false true = drawn_moves cx v v ip header refl
  reset_moves false false = undrawn cx v (dropped v) refl

  received_moves : (rst syn : Bool)
      → Moves cx v (if rst then not (takes_reset v.tcb header) && challenges_reset v header (length bytes) else if syn then true else draws_by
      (acknowledgement_check v.tcb header.ack_number) cx v header (length bytes))
      (if rst then reset_arrives cx v ip header (length bytes) else if syn then drawn cx v ip header else checked
      (acknowledgement_check v.tcb header.ack_number) cx v ip header bytes)
  received_moves true syn = reset_moves (takes_reset v.tcb header) (challenges_reset v header (length bytes))
  received_moves false true = drawn_moves cx v v ip header refl
  received_moves false false = checked_moves (acknowledgement_check v.tcb header.ack_number)

  opens_pause : Keeps (pause_of v) (opens cx v ip header)
  opens_pause = cond_both (is_first_syn header) _ (dropped v) (Keeps (pause_of v)) (λ _. refl) (λ _. refl)

  syn_pause : (ack : Bool) → (if ack then connected v.tcb header cx.instant else crossed v.tcb header).timers.challenges_from ≡ pause_of v
  syn_pause true = refl
  syn_pause false = refl

  answer_taken_pause : Keeps (pause_of v) (takes_answer cx v ip header bytes)
  answer_taken_pause =
      cond_both (is_rst header.control) (if acks_syn v.tcb.sender.una header.ack_number then dropped (ended v) else dropped v) _ (Keeps (pause_of v))
      (λ _. cond_both (acks_syn v.tcb.sender.una header.ack_number) (dropped (ended v)) (dropped v) (Keeps (pause_of v)) (λ _. refl) (λ _. refl))
      (λ _. cond_both (is_some header.ack_number && not (acks_syn v.tcb.sender.una header.ack_number)) (answered_with v (rst_reply ip header (length bytes)))
      _ (Keeps (pause_of v)) (λ _. refl)
      (λ _. cond_both (is_syn header.control) _ (dropped v) (Keeps (pause_of v)) (λ _. syn_pause (is_some header.ack_number)) (λ _. refl)))

  moves_in : (state : State) → Moves cx v (draws_in state cx v header (length bytes)) (arrives_in state cx v ip header bytes)
  moves_in In.Closed = undrawn cx v (dropped v) refl
  moves_in In.Listen = undrawn cx v (opens cx v ip header) opens_pause
  moves_in In.SynSent = undrawn cx v (takes_answer cx v ip header bytes) answer_taken_pause
  moves_in other = received_moves (is_rst header.control) (challenges_first v.tcb header cx.instant)

same_draws : (cx : ContextValue) (v : TcpValue) (header : TcpHeader) (size : ℕ) (state : State) →
    draws_in state cx (unoffered v) header size ≡ draws_in state cx v header size
same_draws cx v header size In.Closed = refl
same_draws cx v header size In.Listen = refl
same_draws cx v header size In.SynSent = refl
same_draws cx v header size other =
    ap (λ (t : Bool). if is_rst header.control then not (takes_reset v.tcb header) && challenges_reset v header size else if challenges_first v.tcb header
    cx.instant then true else t)
    (by (acknowledgement_check v.tcb header.ack_number))
  where
    by : (check : Check) → draws_by check cx (unoffered v) header size ≡ draws_by check cx v header size
    by (Passes count) = refl
    by Old = refl
    by Draws = refl
    by Drops = refl
    by Resets = refl

moves_by : (cx : ContextValue) (v : TcpValue) (ip : IpRepr) (header : TcpHeader) (bytes : List ℕ) (void : Bool)
    → Moves cx (unoffered v) (not void && draws_in v.tcb.state cx v header (length bytes))
    (if void then dropped (unoffered v) else arrives_in v.tcb.state cx (unoffered v) ip header bytes)
moves_by cx v ip header bytes true = undrawn cx (unoffered v) (dropped (unoffered v)) refl
moves_by cx v ip header bytes false =
    subst (λ (draws : Bool). Moves cx (unoffered v) draws (arrives_in v.tcb.state cx (unoffered v) ip header bytes))
    (same_draws cx v header (length bytes) v.tcb.state)
    (moves_in cx (unoffered v) ip header bytes v.tcb.state)

moves : (cx : ContextValue) (v : TcpValue) (ip : IpRepr) (header : TcpHeader) (bytes : List ℕ)
    → Moves cx (unoffered v) (is_drawing cx v header bytes) (arrives cx v ip header bytes)
moves cx v ip header bytes = moves_by cx v ip header bytes (is_void_syn header)

pub drawn_after_pause : (cx : ContextValue) (v : TcpValue) (ip : IpRepr) (header : TcpHeader) (bytes : List ℕ) → is_drawing cx v header bytes ≡ true
    → is_some (arrives cx v ip header bytes).answer ≡ may_challenge cx.instant (pause_of v)
drawn_after_pause cx v ip header bytes e = (moves cx v ip header bytes).answered e

pub pause_begins : (cx : ContextValue) (v : TcpValue) (ip : IpRepr) (header : TcpHeader) (bytes : List ℕ) → is_drawing cx v header bytes ≡ true
    → is_some (arrives cx v ip header bytes).answer ≡ true → pause_of (arrives cx v ip header bytes).socket ≡ Some (cx.instant +ℤ pos 1_000_000)
pause_begins cx v ip header bytes e answered = (moves cx v ip header bytes).paused e answered

-- A CLOSED WINDOW

-- nothing that has length meets it
pub nothing_meets : (b : Tcb) (header : TcpHeader) (size : ℕ) → 1 ≤ segment_len header size → is_in_window b 0 header size ≡ false
nothing_meets b header size long =
    closed_window (segment_len header size) (distance_before b.receiver.next header.seq_number) (distance_after b.receiver.next header.seq_number) long where
      closed_window : (n before past : ℕ) → 1 ≤ n → overlaps_window before past n 0 ≡ false
      closed_window n before past h = grind (arith, nat_tests, h)

-- payload is taken before LAST-ACK
stays_open : (state : State) (ends : Bool) → accepts_data state ≡ true → is_closed (if ends then after_ack_of_fin state else after_ack state) ≡ false
stays_open In.Established true takes = refl
stays_open In.Established false takes = refl
stays_open In.FinWait1 true takes = refl
stays_open In.FinWait1 false takes = refl
stays_open In.FinWait2 true takes = refl
stays_open In.FinWait2 false takes = refl
stays_open other ends takes = absurd (cc)

is_open : (state : State) → accepts_data state ≡ true → is_closed state ≡ false
is_open In.Closed takes = absurd (cc)
is_open other takes = refl

acknowledged_open : (b : Tcb) (by queued : ℕ) (now : ℤ) → accepts_data b.state ≡ true → is_closed (tcb_acknowledged b by queued now).state ≡ false
acknowledged_open b by queued now takes =
    let opened = stays_open b.state (acks_fin b by queued) takes in
    ap (λ (ends : Bool). is_closed (ended_if ends (in_state (una_moved b by queued now) (state_after_ack b by queued) now)).state) opened ∙ opened

pub closed_draws : (cx : ContextValue) (v : TcpValue) (header : TcpHeader) (bytes : List ℕ) (by : ℕ) → accepts_data v.tcb.state ≡ true → free_in v ≡ 0
    → 1 ≤ segment_len header (length bytes) → is_rst header.control ≡ false → is_void_syn header ≡ false
    → acknowledgement_check v.tcb header.ack_number ≡ Passes by
    → is_drawing cx v header bytes ≡ (challenges_first v.tcb header cx.instant || not (is_repeated v header (length bytes)))
closed_draws cx v header bytes by takes closed long no_reset sized passes =
    ap (λ (void : Bool). not void && draws_in v.tcb.state cx v header (length bytes)) sized ∙ (in_payload v.tcb.state takes ∙ any)
  where
    in_payload : (state : State) → accepts_data state ≡ true → draws_in state cx v header (length bytes) ≡ draws_any cx v header (length bytes)
    in_payload In.Closed e = absurd (cc)
    in_payload In.Listen e = absurd (cc)
    in_payload In.SynSent e = absurd (cc)
    in_payload other e = refl

    out : is_in_window v.tcb (free_in v) header (length bytes) ≡ false
    out = ap (λ (space : ℕ). is_in_window v.tcb space header (length bytes)) closed ∙ nothing_meets v.tcb header (length bytes) long

    ends : Bool
    ends = is_closed (tcb_acknowledged v.tcb by (queued_in v) cx.instant).state

    either : (tells has : Bool) → (if tells then not has && not ends else not (is_closed v.tcb.state)) ≡ not (tells && has)
    either true true = refl
    either true false = ap not (acknowledged_open v.tcb by (queued_in v) cx.instant takes)
    either false has = ap not (is_open v.tcb.state takes)

    passed : draws_by (acknowledgement_check v.tcb header.ack_number) cx v header (length bytes) ≡ not (is_repeated v header (length bytes))
    passed =
        ap (λ (check : Check). draws_by check cx v header (length bytes)) passes
        ∙ (if_not (is_in_window v.tcb (free_in v) header (length bytes)) (is_syn header.control) _ out
        ∙ either (is_before_window v header (length bytes)) (has_length header (length bytes)))

    so : (first t n : Bool) → t ≡ n → (if first then true else t) ≡ (first || n)
    so true t n e = refl
    so false t n e = e

    any : draws_any cx v header (length bytes) ≡ (challenges_first v.tcb header cx.instant || not (is_repeated v header (length bytes)))
    any =
        if_not (is_rst header.control) (not (takes_reset v.tcb header) && challenges_reset v header (length bytes)) _ no_reset
        ∙ so (challenges_first v.tcb header cx.instant) _ _ passed

-- WHAT COMES AGAIN

-- it doesn't meet the window
before_meets_not : (before past len space room : ℕ) → (not (before == 0) && (nat_le len before && nat_le before room)) ≡ true
    → overlaps_window before past len space ≡ false
before_meets_not before past len space room e = grind (arith, nat_tests, e)

and_left : (a b : Bool) → (a && b) ≡ true → a ≡ true
and_left true b e = refl
and_left false b e = absurd (cc)

and_right : (a b : Bool) → (a && b) ≡ true → b ≡ true
and_right true b e = e
and_right false b e = absurd (cc)

module _ (cx : ContextValue) (v : TcpValue) (header : TcpHeader) (bytes : List ℕ) (again : is_repeated v header (length bytes) ≡ true) where
  tells : is_before_window v header (length bytes) ≡ true
  tells = and_left (is_before_window v header (length bytes)) (has_length header (length bytes)) again

  has : has_length header (length bytes) ≡ true
  has = and_right (is_before_window v header (length bytes)) (has_length header (length bytes)) again

  again_outside : is_in_window v.tcb (free_in v) header (length bytes) ≡ false
  again_outside =
      before_meets_not (distance_before v.tcb.receiver.next header.seq_number) (distance_after v.tcb.receiver.next header.seq_number)
      (segment_len header (length bytes)) (free_in v) (room_of v.received + 2)
      (and_right (not (is_answering v.tcb.state)) (lies_before v.tcb (room_of v.received) header (length bytes)) tells)

  -- at once, outside the window
  at_once : (w : TcpValue) (ip : IpRepr) → pause_of w ≡ pause_of v → is_closed w.tcb.state ≡ false
      → IsAnsweredAtOnce v (outside cx w ip header true)
  at_once w ip same open_yet =
      cond_both (is_closed w.tcb.state) (dropped w) (acked cx (waiting_anew w header cx.instant) ip header no_ranges) (IsAnsweredAtOnce v)
      (λ closed. absurd (let clash : true ≡ false = sym closed ∙ open_yet in cc))
      (λ _. (refl, same))

  pub again_passes : (ip : IpRepr) (by : ℕ) → is_closed (tcb_acknowledged v.tcb by (queued_in v) cx.instant).state ≡ false
      → IsAnsweredAtOnce v (checked (Passes by) cx v ip header bytes)
  again_passes ip by open_yet =
      let timed : TcpValue = tsecr_heard v header by cx.instant in
      let w : TcpValue = acknowledged timed by cx.instant in
      subst (IsAnsweredAtOnce v)
      (sym (if_not (is_in_window v.tcb (free_in v) header (length bytes)) (inside cx v ip header bytes by) (passed_outside cx v ip header (length bytes) by)
      again_outside
      ∙ (if_so (is_before_window v header (length bytes)) (outside cx w ip header (has_length header (length bytes))) (outside cx v ip header false) tells
      ∙ ap (outside cx w ip header) has)))
      (at_once w ip (acknowledged_pause timed by cx.instant) (ap is_closed (tsecr_ends v header by cx.instant) ∙ open_yet))

  pub again_old : (ip : IpRepr) → is_closed v.tcb.state ≡ false → IsAnsweredAtOnce v (checked Old cx v ip header bytes)
  again_old ip open_yet =
      subst (IsAnsweredAtOnce v)
      (sym (if_not (is_in_window v.tcb (free_in v) header (length bytes)) _ (outside cx v ip header (is_repeated v header (length bytes))) again_outside
      ∙ ap (outside cx v ip header) again))
      (at_once v ip refl open_yet)

  undrawn_if : (meets tells_of has_of syn ends closed : Bool) → meets ≡ false → tells_of ≡ true → has_of ≡ true
      → (if meets then syn else if tells_of then not has_of && not ends else not closed) ≡ false
  undrawn_if false true true syn ends closed e f g = refl
  undrawn_if true tells_of has_of syn ends closed e f g = absurd (cc)
  undrawn_if false false has_of syn ends closed e f g = absurd (cc)
  undrawn_if false true false syn ends closed e f g = absurd (cc)

  undrawn_old : (meets both closed : Bool) → both ≡ true → (not meets && (not both && not closed)) ≡ false
  undrawn_old true both closed e = refl
  undrawn_old false true closed e = refl
  undrawn_old false false closed e = absurd (cc)

  pub again_undrawn : (by : ℕ) → (draws_by (Passes by) cx v header (length bytes) ≡ false) × (draws_by Old cx v header (length bytes) ≡ false)
  again_undrawn by = (
    undrawn_if (is_in_window v.tcb (free_in v) header (length bytes)) (is_before_window v header (length bytes)) (has_length header (length bytes))
        (is_syn header.control) (is_closed (tcb_acknowledged v.tcb by (queued_in v) cx.instant).state) (is_closed v.tcb.state) again_outside tells has,
    undrawn_old (is_in_window v.tcb (free_in v) header (length bytes)) (is_repeated v header (length bytes)) (is_closed v.tcb.state) again,
  )

-- RUNS

-- the first of these instants lies at or after the end of the pause
abbrev From : Option ℤ → List ℤ → Type 0
From None ms = Unit {0}
From (Some from) [] = Unit {0}
From (Some from) (m ∷ ms) = from ≤ℤ m

due_from : (now : ℤ) (from : Option ℤ) (ms : List ℤ) → may_challenge now from ≡ true → From from (now ∷ ms)
due_from now None ms e = tt
due_from now (Some from) ms e = is_at from now e where
  is_at : (a b : ℤ) → int_le a b ≡ true → a ≤ℤ b
  is_at a b h = grind (arith)

joined : (m : ℤ) (ms : List ℤ) → From (Some (m +ℤ pos 1_000_000)) ms → AreApart ms → AreApart (m ∷ ms)
joined m [] later apart = tt
joined m (n ∷ ms) later apart = (later, apart)

record Spaced (v : TcpValue) (ms : List ℤ) : Type 0 where
  from : From (pause_of v) ms
  apart : AreApart ms

no_instant : (pause : Option ℤ) → From pause []
no_instant None = tt
no_instant (Some from) = tt

comes_spaced :
    (cx : ContextValue) (v : TcpValue) (ip : IpRepr) (header : TcpHeader) (bytes : List ℕ) (ms : List ℤ) (draws : Bool)
    → is_drawing cx v header bytes ≡ draws → Lasts v (Comes cx ip header bytes) → Spaced (arrives cx v ip header bytes).socket ms
    → (answers : Bool) → is_some (arrives cx v ip header bytes).answer ≡ answers
    → Spaced v ((if draws && answers then cx.instant ∷ [] else []) ++ ms)
comes_spaced cx v ip header bytes ms true e lasts s true f =
    let it = moves cx v ip header bytes in
    record {
      from = due_from cx.instant (pause_of v) ms (sym (it.answered e) ∙ f);
      apart = joined cx.instant ms (subst (λ (pause : Option ℤ). From pause ms) (it.paused e f) s.from) s.apart;
    }
comes_spaced cx v ip header bytes ms true e lasts s false f =
    let it = moves cx v ip header bytes in
    record {
      from = subst (λ (pause : Option ℤ). From pause ms) (it.left (ap (λ (t : Bool). t && is_some (arrives cx v ip header bytes).answer) e ∙ f) lasts) s.from;
      apart = s.apart;
    }
comes_spaced cx v ip header bytes ms false e lasts s answers f =
    let it = moves cx v ip header bytes in
    record {
      from = subst (λ (pause : Option ℤ). From pause ms) (it.left (ap (λ (t : Bool). t && is_some (arrives cx v ip header bytes).answer) e) lasts) s.from;
      apart = s.apart;
    }

kept_spaced : (v w : TcpValue) (ms : List ℤ) → pause_of w ≡ pause_of v → Spaced w ms → Spaced v ms
kept_spaced v w ms same s = record { from = subst (λ (pause : Option ℤ). From pause ms) same s.from; apart = s.apart }

spaced : (v : TcpValue) (run : List Happening) → IsOneConnection v run → Spaced v (drawn_instants v run)
spaced v [] one = record { from = no_instant (pause_of v); apart = tt }
spaced v (Comes cx ip header bytes ∷ more) one =
    comes_spaced cx v ip header bytes (drawn_instants (after v (Comes cx ip header bytes)) more) (is_drawing cx v header bytes) refl one.0
    (spaced (after v (Comes cx ip header bytes)) more one.1) (is_some (arrives cx v ip header bytes).answer) refl
spaced v (Asked cx sent ∷ more) one =
    kept_spaced v (after v (Asked cx sent)) _ (asked_pause cx v sent one.0) (spaced (after v (Asked cx sent)) more one.1)
spaced v (Called new ∷ more) one = kept_spaced v new _ one.0 (spaced new more one.1)

pub drawn_apart : (v : TcpValue) (run : List Happening) → IsOneConnection v run → AreApart (drawn_instants v run)
drawn_apart v run one = (spaced v run one).apart
