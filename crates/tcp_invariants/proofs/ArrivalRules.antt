-- What a segment that comes does to what is in flight, and where its answer lies.
use Rattle.std.proofs.Common.{◌≡◌, inl, inr, ℕ, zero, suc, ◌-◌, min, ℤ, ◌==◌, ◌&&◌, nat_le, not, Bool, true, false, if◌then◌else◌, List, Option, Some}
use Rattle.std.proofs.Common.{None, is_some, length}
use Rattle.std.proofs.Common.{drop, refl, sym, ap, ◌∙◌, subst, arith}
use Rattle.std.proofs.lemmas.Bool.{cond_both}
use Rattle.tcp_ranges.specs.OutOfOrder.{runs_of}
use Rattle.ip_wire.specs.IpRepr.{IpRepr}
use Rattle.ip_wire.specs.TcpHeader.{TcpHeader}
use Rattle.tcp_block.specs.Context.{ContextValue}
use Rattle.tcp_state.specs.Controls.{is_syn, is_rst}
use Rattle.tcp_state.specs.Offsets.{distance_after, distance_before}
use Rattle.tcp_state.specs.States.{is_closed, is_listening, after_fin, accepts_data}
use Rattle.tcp_state.specs.declared.offer.Reply.{Reply}
use Rattle.tcp_state.specs.declared.state.State.{State}
use Rattle.tcp_state.specs.declared.state.State.TheVariants as In
use Rattle.tcp_state.specs.Endpoints.{pair_in}
use Rattle.tcp_state.specs.Moments.{timeout_from}
use Rattle.tcp_block.specs.TcbRules.{one_if}
use Rattle.tcp_block.specs.Acknowledged.{acknowledged, duplicates_after, names_window, windowed, ranges_taken, counted}
use Rattle.tcp_block.specs.Acknowledged.{tcb_acknowledged, freed_by, una_moved, ended_if, in_state, state_after_ack, is_blind, round_trip_after}
use Rattle.tcp_block.specs.Answers.{ack_due, drawn, may_challenge, with_draw, acked, answer_for, answers_at_once, sack_blocks}
use Rattle.tcp_block.specs.Arrival.{waiting_anew, outside, passed_outside, is_before_window, is_repeated, with_content, told, taken, inside}
use Rattle.tcp_block.specs.Arrival.{checked, takes_reset}
use Rattle.tcp_block.specs.Arrival.{challenges_reset, reset_arrives, challenges_first, tsecr_heard, received, arrives_in, arrives, is_void_syn}
use Rattle.tcp_block.specs.Calls.{listening}
use Rattle.tcp_block.specs.Checks.{Check, acknowledgement_check, is_in_window, taken_down, falls_back}
use Rattle.tcp_block.specs.Checks.Check.{Passes, Old, Drops, Draws, Resets}
use Rattle.tcp_block.specs.Opening.{is_first_syn, opens, takes_answer, acks_syn, syn_answered, connected, crossed, answering, took_syn}
use Rattle.tcp_block.specs.Probing.{probe_kept}
use Rattle.tcp_block.specs.Retries.{heard}
use Rattle.tcp_block.specs.Segments.{no_ranges, rst_reply, reply_to, hop_limit_of, sack_segment, has_length}
use Rattle.tcp_block.specs.Settled.{nxt_past_held}
use Rattle.tcp_block.specs.Payload.{DataStored, data_stored, with_payload, with_payload_at, with_bytes_at, taken_in_order, out_of_order, laid, has_new_payload, with_fin, takes_fin}
use Rattle.tcp_block.specs.Payload.{fin_taken}
use Rattle.tcp_block.specs.Timeout.{timeout_restarted}
use Rattle.tcp_block.specs.Value.{TcpValue, Arrived, with_tcb, dropped, answered_with, unoffered, ended, queued_in, free_in, received_of, window_of}
use Rattle.tcp_block.specs.declared.tcb.Tcb.{Tcb}
use Rattle.tcp_block.specs.Isn.{isn, draws_number}
use Rattle.tcp_block.specs.Timestamps.{believed, tsval_taken, tsecr_taken}
use Rattle.tcp_block.specs.Undone.{undone, reordering_hinted}
use Rattle.tcp_block.proofs.Undone.{undone_by, undone_cases}
use Rattle.tcp_block.specs.declared.tcb.Undo.{Undo}
use Rattle.tcp_invariants.specs.Flight.{flight_of, IsArmed, IsPastAll}
use Rattle.tcp_invariants.proofs.Going.{Goes}
use Rattle.tcp_invariants.proofs.ArrivalCases.{suc_not}
use Rattle.tcp_invariants.proofs.OrderSteps.{clash}
use Rattle.tcp_invariants.proofs.Steps.{same, proceeds, skips, anew, una_goes, acked_goes}

same_reply : (b : Tcb) (mine reply : Reply) → IsPastAll b mine → Some mine ≡ Some reply → IsPastAll b reply
same_reply b mine reply past e = let it : mine ≡ reply = cc in subst (IsPastAll b) it past

listening_after_fin : (state : State) → is_listening (after_fin state) ≡ is_listening state
listening_after_fin In.Listen = refl
listening_after_fin other = refl

module _ (cx : ContextValue) (ip : IpRepr) (header : TcpHeader) where
  abbrev Sound : Tcb → Arrived → Type 0
  Sound old a = Goes old a.socket.tcb × ((reply : Reply) → a.answer ≡ Some reply → IsPastAll a.socket.tcb reply)

  by_dropped : (old : Tcb) (v : TcpValue) → Goes old v.tcb → Sound old (dropped v)
  by_dropped old v goes = (goes, λ reply e. absurd (cc))

  by_acked : (old : Tcb) (v : TcpValue) (ranges : List (Option (ℕ × ℕ))) → Goes old v.tcb → Sound old (acked cx v ip header ranges)
  by_acked old v ranges goes = (
    proceeds old v.tcb (acked cx v ip header ranges).socket.tcb goes refl refl,
    λ reply e. same_reply (acked cx v ip header ranges).socket.tcb
        (reply_to ip (hop_limit_of v.tcb.settings.hop_limit) (sack_segment v.tcb (pair_in ip header) cx.instant (window_of v) ranges)) reply (inr refl) e,
  )

  by_drawn : (old : Tcb) (v : TcpValue) → Goes old v.tcb → Sound old (drawn cx v ip header)
  by_drawn old v goes =
      cond_both (may_challenge cx.instant v.tcb.timers.challenges_from) (acked cx (with_draw v cx.instant) ip header no_ranges) (dropped v) (Sound old)
      (λ _. by_acked old (with_draw v cx.instant) no_ranges (proceeds old v.tcb (with_draw v cx.instant).tcb goes refl refl))
      (λ _. by_dropped old v goes)

  by_reset : (v : TcpValue) (size : ℕ) → Sound v.tcb (answered_with v (rst_reply ip header size))
  by_reset v size = (same v.tcb v.tcb refl, λ reply e. same_reply v.tcb (rst_reply ip header size) reply (inl refl) e)

  stays : (v : TcpValue) → Sound v.tcb (dropped v)
  stays v = by_dropped v.tcb v (same v.tcb v.tcb refl)

  draws : (v : TcpValue) → Sound v.tcb (drawn cx v ip header)
  draws v = by_drawn v.tcb v (same v.tcb v.tcb refl)

  -- the payload and the FIN leave what is in flight
  abbrev Leaves : Tcb → Tcb → Type 0
  Leaves old new = (flight_of new ≡ flight_of old) × (is_listening new.state ≡ is_listening old.state)

  payload_leaves : (v : TcpValue) (offset : ℕ) (bytes : List ℕ) → Leaves v.tcb (with_payload_at v offset bytes).socket.tcb
  payload_leaves v offset bytes =
      cond_both (accepts_data v.tcb.state && has_new_payload v offset bytes) (with_bytes_at v offset bytes) (data_stored v 0 false None)
      (λ (t : DataStored). Leaves v.tcb t.socket.tcb)
      (λ _.
      cond_both (offset == 0) (taken_in_order v (laid v offset bytes)) (out_of_order v offset (laid v offset bytes)) (λ (t : DataStored). Leaves v.tcb t.socket.tcb)
      (λ _. (refl, refl))
      (λ _.
      cond_both (nat_le (length (runs_of (laid v offset bytes))) 32)
      (data_stored (record v { received = received_of v.received.waiting (laid v offset bytes) v.received.start }) 0 false (Some offset)) (data_stored v 0 false None)
      (λ (t : DataStored). Leaves v.tcb t.socket.tcb)
      (λ _. (refl, refl))
      (λ _. (refl, refl))))
      (λ _. (refl, refl))

  fin_leaves : (b old : Tcb) (size advance : ℕ) → Leaves b (with_fin b old header size advance cx.instant)
  fin_leaves b old size advance =
      cond_both (takes_fin old header size advance) (fin_taken b cx.instant) b (Leaves b)
      (λ _. (refl, listening_after_fin b.state))
      (λ _. (refl, refl))

  by_answer : (old : Tcb) (v : TcpValue) (size : ℕ) (fills : Bool) (early : Option ℕ) → Goes old v.tcb →
      Sound old (answer_for cx v ip header size fills early)
  by_answer old v size fills (Some offset) goes = by_acked old v (sack_blocks v offset) goes
  by_answer old v size fills None goes =
      let later = with_tcb v (ack_due v.tcb header size fills cx.instant) in
      cond_both (answers_at_once cx v.tcb ip header size) (acked cx v ip header no_ranges) (dropped later) (Sound old)
      (λ _. by_acked old v no_ranges goes)
      (λ _. by_dropped old later (proceeds old v.tcb later.tcb goes refl refl))

  by_content : (old : Tcb) (v : TcpValue) (bytes : List ℕ) → Goes old v.tcb → Sound old (with_content cx v ip header bytes)
  by_content old v bytes goes =
      let t = with_payload v header bytes in
      let payload = payload_leaves v (distance_after v.tcb.receiver.next header.seq_number) (drop (distance_before v.tcb.receiver.next header.seq_number) bytes) in
      let fin = fin_leaves t.socket.tcb v.tcb (length bytes) t.advance in
      let new = with_fin t.socket.tcb v.tcb header (length bytes) t.advance cx.instant in
      by_answer old (with_tcb t.socket (probe_kept new (queued_in t.socket))) (length bytes) t.fills t.early
      (proceeds old t.socket.tcb (probe_kept new (queued_in t.socket)) (proceeds old v.tcb t.socket.tcb goes payload.0 payload.1) fin.0 fin.1)

  told_goes : (old : Tcb) (w : TcpValue) (duplicates : ℕ) → Goes old w.tcb → Goes old (told w header duplicates cx.instant).tcb
  told_goes old w duplicates goes =
      cond_both (names_window w.tcb header) (windowed w.tcb header) w.tcb
      (λ (b : Tcb). Goes old
      (timeout_restarted (nxt_past_held (counted (ranges_taken (tsval_taken b header cx.instant) header cx.instant) duplicates cx.instant) (queued_in w)) cx.instant
      (queued_in w)))
      (λ _. skips old w.tcb _ _ goes refl refl refl refl refl)
      (λ _. skips old w.tcb _ _ goes refl refl refl refl refl)

  abbrev tcb_heard : Tcb → ℕ → Tcb
  tcb_heard b by = reordering_hinted (tsecr_taken b header by cx.instant) by cx.instant

  -- An echo leaves what is in flight. Where a loss is undone all is in flight that was sent, and what is left of it has a timer.
  heard_goes : (b : Tcb) (by queued : ℕ)
      → Goes b (tcb_acknowledged (tcb_heard (undone b header by queued) by) by queued cx.instant)
  heard_goes b by queued =
      undone_cases b header by queued
      (λ (c : Tcb). Goes b (tcb_acknowledged (tcb_heard c by) by queued cx.instant)) plain anew_armed
    where
      plain : Goes b (tcb_acknowledged (tcb_heard b by) by queued cx.instant)
      plain = let goes = acked_goes (tcb_heard b by) by queued cx.instant in record { armed = goes.armed; rises = goes.rises }

      none : (syn : Bool) → (min (0 - one_if syn) queued == 0) ≡ true
      none syn = ap (λ (n : ℕ). n == 0) (least (one_if syn)) where
        least : (n : ℕ) → min (0 - n) queued ≡ 0
        least n = omega arith

      moved : (n : ℕ) → (min (n - one_if b.sender.syn_unacked) queued == 0) ≡ false → (n == 0) ≡ false
      moved zero e = clash (sym (none b.sender.syn_unacked) ∙ e)
      moved (suc n) e = suc_not n

      never : (a : Bool) → (a && false) ≡ false
      never true = refl
      never false = refl

      anew_armed : (u : Undo) → b.loss.undo ≡ Some u → (freed_by b by queued == 0) ≡ false
          → Goes b (tcb_acknowledged (tcb_heard (undone_by u b queued) by) by queued cx.instant)
      anew_armed u some frees = at (is_closed (state_after_ack (undone_by u b queued) by queued)) where
        c : Tcb
        c = tcb_heard (undone_by u b queued) by

        goes : Goes c (tcb_acknowledged c by queued cx.instant)
        goes = acked_goes c by queued cx.instant

        runs : IsArmed (flight_of (una_moved c by queued cx.instant))
        runs left =
            cond_both (by == 0) c.timers.retransmit_at
            (if c.sender.flight_size - by == 0 then None
            else if c.sender.partial && is_blind c by then c.timers.retransmit_at else Some (timeout_from cx.instant (round_trip_after c by cx.instant)))
            (λ (timer : Option ℤ). is_some timer ≡ true)
            (λ still. clash (sym still ∙ moved by frees))
            (λ _.
            cond_both (c.sender.flight_size - by == 0) None
            (if c.sender.partial && is_blind c by then c.timers.retransmit_at else Some (timeout_from cx.instant (round_trip_after c by cx.instant)))
            (λ (timer : Option ℤ). is_some timer ≡ true)
            (λ all. clash (sym all ∙ left))
            (λ _.
            cond_both (c.sender.partial && is_blind c by) c.timers.retransmit_at (Some (timeout_from cx.instant (round_trip_after c by cx.instant)))
            (λ (timer : Option ℤ). is_some timer ≡ true)
            (λ blind. clash (sym blind ∙ never c.sender.partial))
            (λ _. refl)))

        at : (ends : Bool) → Goes b (ended_if ends (in_state (una_moved c by queued cx.instant) (state_after_ack c by queued) cx.instant))
        at true =
            let new = ended_if true (in_state (una_moved c by queued cx.instant) (state_after_ack c by queued) cx.instant) in
            record { armed = λ _. runs; rises = (una_goes c by queued cx.instant new refl).rises }
        at false =
            let new = ended_if false (in_state (una_moved c by queued cx.instant) (state_after_ack c by queued) cx.instant) in
            record { armed = λ _. runs; rises = (una_goes c by queued cx.instant new refl).rises }

  by_taken : (v : TcpValue) (bytes : List ℕ) (by : ℕ) → Sound v.tcb (taken cx v ip header bytes by)
  by_taken v bytes by =
      let timed = tsecr_heard v header by cx.instant in
      let w = acknowledged timed by cx.instant in
      let heeded = told w header (duplicates_after v.tcb header (length bytes) by) cx.instant in
      let goes = heard_goes v.tcb by (queued_in v) in
      cond_both (is_closed w.tcb.state) (dropped w) (with_content cx heeded ip header bytes) (Sound v.tcb)
      (λ _. by_dropped v.tcb w goes)
      (λ _. by_content v.tcb heeded bytes (told_goes v.tcb w (duplicates_after v.tcb header (length bytes) by) goes))

  by_outside : (old : Tcb) (w : TcpValue) (again : Bool) → Goes old w.tcb → Sound old (outside cx w ip header again)
  by_outside old w again goes =
      let x = waiting_anew w header cx.instant in
      let leaves = proceeds old w.tcb x.tcb goes refl refl in
      cond_both (is_closed w.tcb.state) (dropped w) (if again then acked cx x ip header no_ranges else drawn cx x ip header) (Sound old)
      (λ _. by_dropped old w goes)
      (λ _. cond_both again (acked cx x ip header no_ranges) (drawn cx x ip header) (Sound old) (λ _. by_acked old x no_ranges leaves)
      (λ _. by_drawn old x leaves))

  by_checked : (check : Check) (v : TcpValue) (bytes : List ℕ) → Sound v.tcb (checked check cx v ip header bytes)
  by_checked (Passes by) v bytes =
      cond_both (is_in_window v.tcb (free_in v) header (length bytes)) (inside cx v ip header bytes by) (passed_outside cx v ip header (length bytes) by)
      (Sound v.tcb)
      (λ _.
      cond_both (is_syn header.control) (drawn cx v ip header) (taken cx v ip header bytes by) (Sound v.tcb)
      (λ _. draws v)
      (λ _. by_taken v bytes by))
      (λ _.
      let again = has_length header (length bytes) in
      cond_both (is_before_window v header (length bytes)) (outside cx (acknowledged (tsecr_heard v header by cx.instant) by cx.instant) ip header again)
      (outside cx v ip header false) (Sound v.tcb)
      (λ _.
      let timed = tsecr_heard v header by cx.instant in
      let w = acknowledged timed by cx.instant in
      by_outside v.tcb w again (heard_goes v.tcb by (queued_in v)))
      (λ _. by_outside v.tcb v false (same v.tcb v.tcb refl)))
  by_checked Old v bytes =
      let again = is_repeated v header (length bytes) in
      cond_both (is_in_window v.tcb (free_in v) header (length bytes))
      (with_content cx (with_tcb v (tsval_taken (heard v.tcb) header cx.instant)) ip header bytes)
      (outside cx v ip header again) (Sound v.tcb)
      (λ _.
      let heard_of = tsval_taken (heard v.tcb) header cx.instant in
      by_content v.tcb (with_tcb v heard_of) bytes (same v.tcb heard_of refl))
      (λ _. by_outside v.tcb v again (same v.tcb v.tcb refl))
  by_checked Drops v bytes = stays v
  by_checked Draws v bytes = draws v
  by_checked Resets v bytes = by_reset v (length bytes)

  by_down : (v : TcpValue) → Sound v.tcb (dropped (taken_down v))
  by_down v =
      cond_both (falls_back v.tcb) (listening v v.tcb.names.listen) (ended v) (λ (w : TcpValue). Sound v.tcb (dropped w))
      (λ _. by_dropped v.tcb (listening v v.tcb.names.listen) (anew v.tcb (listening v v.tcb.names.listen).tcb refl refl))
      (λ _. by_dropped v.tcb (ended v) (same v.tcb (ended v).tcb refl))

  by_received : (v : TcpValue) (bytes : List ℕ) → Sound v.tcb (received cx v ip header bytes)
  by_received v bytes =
      cond_both (is_rst header.control) (reset_arrives cx v ip header (length bytes))
      (if challenges_first v.tcb header cx.instant then drawn cx v ip header else checked (acknowledgement_check v.tcb header.ack_number) cx v ip header bytes)
      (Sound v.tcb)
      (λ _.
      cond_both (takes_reset v.tcb header) (dropped (taken_down v)) (if challenges_reset v header (length bytes) then drawn cx v ip header else dropped v)
      (Sound v.tcb)
      (λ _. by_down v)
      (λ _.
      cond_both (challenges_reset v header (length bytes)) (drawn cx v ip header) (dropped v) (Sound v.tcb)
      (λ _. draws v)
      (λ _. stays v)))
      (λ _.
      cond_both (challenges_first v.tcb header cx.instant) (drawn cx v ip header) (checked (acknowledgement_check v.tcb header.ack_number) cx v ip header bytes)
      (Sound v.tcb)
      (λ _. draws v)
      (λ _. by_checked (acknowledgement_check v.tcb header.ack_number) v bytes))

  -- a listener takes a SYN: nothing is in flight
  begun : (old new : Tcb) → is_listening old.state ≡ true → new.sender.flight_size ≡ 0 → Goes old new
  begun old new listens none = record {
    armed = λ _ some. absurd (let zero : (new.sender.flight_size == 0) ≡ true = ap (λ (n : ℕ). n == 0) none in let clash : true ≡ false = sym zero ∙ some in cc);
    rises = λ before _. absurd (let clash : true ≡ false = sym listens ∙ before in cc);
  }

  by_opens : (v : TcpValue) → v.tcb.state ≡ In.Listen → Sound v.tcb (opens cx v ip header)
  by_opens v at =
      let answers : TcpValue =
      with_tcb v (timeout_restarted (believed (answering v.tcb ip header (isn cx (pair_in ip header))) cx.instant) cx.instant 0) in
      cond_both (is_first_syn header) (record { socket = answers; answer = None; draws = draws_number cx }) (dropped v) (Sound v.tcb)
      (λ _. (begun v.tcb answers.tcb (ap is_listening at) refl, λ reply none. absurd (cc)))
      (λ _. stays v)

  by_syn : (v : TcpValue) → Goes v.tcb (timeout_restarted (syn_answered v.tcb header cx.instant) cx.instant (queued_in v))
  by_syn v =
      cond_both (is_some header.ack_number) (connected v.tcb header cx.instant) (crossed v.tcb header)
      (λ (b : Tcb). Goes v.tcb (timeout_restarted (believed b cx.instant) cx.instant (queued_in v)))
      (λ _.
      let new = timeout_restarted (believed (connected v.tcb header cx.instant) cx.instant) cx.instant (queued_in v) in
      let taken = una_goes (tsecr_taken (took_syn v.tcb header) header 1 cx.instant) 1 0 cx.instant new refl in
      record { armed = taken.armed; rises = taken.rises })
      (λ _. same v.tcb (timeout_restarted (believed (crossed v.tcb header) cx.instant) cx.instant (queued_in v)) refl)

  by_answer_to_syn : (v : TcpValue) (bytes : List ℕ) → Sound v.tcb (takes_answer cx v ip header bytes)
  by_answer_to_syn v bytes =
      let answered = with_tcb v (timeout_restarted (syn_answered v.tcb header cx.instant) cx.instant (queued_in v)) in
      cond_both (is_rst header.control) (if acks_syn v.tcb.sender.una header.ack_number then dropped (ended v) else dropped v)
      (if is_some header.ack_number && not (acks_syn v.tcb.sender.una header.ack_number)
      then answered_with v (rst_reply ip header (length bytes))
      else if is_syn header.control
      then dropped answered
      else dropped v)
      (Sound v.tcb)
      (λ _.
      cond_both (acks_syn v.tcb.sender.una header.ack_number) (dropped (ended v)) (dropped v) (Sound v.tcb)
      (λ _. by_dropped v.tcb (ended v) (same v.tcb (ended v).tcb refl))
      (λ _. stays v))
      (λ _.
      cond_both (is_some header.ack_number && not (acks_syn v.tcb.sender.una header.ack_number)) (answered_with v (rst_reply ip header (length bytes)))
      (if is_syn header.control then dropped answered else dropped v) (Sound v.tcb)
      (λ _. by_reset v (length bytes))
      (λ _.
      cond_both (is_syn header.control) (dropped answered) (dropped v) (Sound v.tcb)
      (λ _. by_dropped v.tcb answered (by_syn v))
      (λ _. stays v)))

  by_state : (state : State) (v : TcpValue) (bytes : List ℕ) → v.tcb.state ≡ state → Sound v.tcb (arrives_in state cx v ip header bytes)
  by_state In.Closed v bytes at = stays v
  by_state In.Listen v bytes at = by_opens v at
  by_state In.SynSent v bytes at = by_answer_to_syn v bytes
  by_state other v bytes at = by_received v bytes

  pub sound_arrival : (v : TcpValue) (bytes : List ℕ) → Sound v.tcb (arrives cx v ip header bytes)
  sound_arrival v bytes =
      cond_both (is_void_syn header) (dropped (unoffered v)) (arrives_in v.tcb.state cx (unoffered v) ip header bytes) (Sound v.tcb)
      (λ _. stays (unoffered v))
      (λ _. by_state v.tcb.state (unoffered v) bytes refl)

pub arrival_goes : (cx : ContextValue) (v : TcpValue) (ip : IpRepr) (header : TcpHeader) (bytes : List ℕ) →
    Goes v.tcb (arrives cx v ip header bytes).socket.tcb
arrival_goes cx v ip header bytes = (sound_arrival cx ip header v bytes).0

pub answers_past_all :
    (cx : ContextValue) (v : TcpValue) (ip : IpRepr) (header : TcpHeader) (bytes : List ℕ) (reply : Reply) → (arrives cx v ip header bytes).answer ≡ Some reply
    → IsPastAll (arrives cx v ip header bytes).socket.tcb reply
answers_past_all cx v ip header bytes = (sound_arrival cx ip header v bytes).1
