-- Each segment that the peer sent, when it comes, keeps the invariant.
use Rattle.std.proofs.Common.{◌≡◌, ◌⊎◌, inl, inr, ℕ, zero, suc}
use Rattle.std.proofs.Common.{◌-◌, ◌^◌, ◌<◌, ◌≤◌, nat_lt, nat_le, not, ◌==◌, ◌&&◌, ◌||◌, ℤ, Bool, true, false, if◌then◌else◌, List}
use Rattle.std.proofs.Common.{Option, Some, None, slice_get, length, refl, sym, ap, ◌∙◌, subst, arith}
use Rattle.std.proofs.lemmas.Bool.{and_cases, cond_both, eqb-true, not-false}
use Rattle.std.proofs.lemmas.Bool.Decides.{nat_tests}
use Rattle.ip_wire.specs.IpRepr.{IpRepr}
use Rattle.ip_wire.specs.Seq.{distance_of}
use Rattle.ip_wire.specs.SeqNumber.{SeqNumber}
use Rattle.ip_wire.specs.TcpHeader.{TcpHeader}
use Rattle.socket_context.specs.Context.{ContextValue}
use Rattle.tcp_theory.specs.Move.{Comes}
use Rattle.tcp_theory.specs.Side.{Side, one_if}
use Rattle.tcp_theory.specs.Side.Phase.{SynReceived}
use Rattle.tcp_block.specs.State.{State}
use Rattle.tcp_block.specs.State.TheVariants as In
use Rattle.tcp_block.specs.declared.tcb.Tcb.{Tcb}
use Rattle.tcp_block.specs.Acknowledged.{acknowledged, duplicates_after, names_window, windowed, ranges_taken, counted}
use Rattle.tcp_block.specs.Answers.{acked, drawn}
use Rattle.tcp_block.specs.Segments.{no_ranges, has_length}
use Rattle.tcp_block.specs.Settled.{nxt_past_held}
use Rattle.tcp_block.specs.Arrival.{waiting_anew, outside, passed_outside, is_before_window, is_repeated, with_content, told, taken, inside}
use Rattle.tcp_block.specs.Arrival.{checked, takes_reset}
use Rattle.tcp_block.specs.Arrival.{challenges_reset, reset_arrives, challenges_syn, challenges_first, tsecr_heard, received, arrives_in, arrives, is_void_syn}
use Rattle.tcp_block.specs.Checks.{Check, opening_check, synchronized_check, acknowledgement_check, is_in_window, taken_down}
use Rattle.tcp_block.specs.Checks.Check.{Passes, Old, Drops, Draws, Resets}
use Rattle.tcp_block.specs.Controls.{is_syn, is_rst}
use Rattle.tcp_block.specs.Offsets.{distance_after, distance_before}
use Rattle.tcp_block.specs.Retries.{heard}
use Rattle.tcp_block.specs.States.{is_closed, is_answering}
use Rattle.tcp_block.specs.Timeout.{timeout_restarted}
use Rattle.tcp_block.specs.Value.{TcpValue, Arrived, with_tcb, dropped, unoffered, queued_in, free_in}
use Rattle.tcp_block.specs.Timestamps.{tsval_taken, is_stale}
use Rattle.tcp_refinement.specs.Tie.{Core, Past, unsent, phase_of, IsConnectedAs, Keeps, core_of, segment_of}
use Rattle.tcp_refinement.specs.History.{with_answer}
use Rattle.tcp_refinement.proofs.Tied.{Tied, fits_connected, is_connected, keeps_by}
use Rattle.tcp_refinement.proofs.ArrivalMoves.{IsAcceptable}
use Rattle.tcp_refinement.proofs.AckLaws.{IsAcked, acks}
use Rattle.tcp_refinement.proofs.PayloadLaws.{Led, data_control, no_reset_control, led_acked, led_drawn, led_content}
use Rattle.tcp_refinement.proofs.OpeningLaws.{state_phase, led_opens, led_takes_answer, led_reset, tied_down}

not_answering : (state : State) → is_answering state ≡ false → phase_of state ≡ SynReceived → ⊥
not_answering In.SynReceived e f = absurd (cc)
not_answering other e f = absurd (cc)

not_above : (last by : ℕ) → nat_lt last by ≡ false → by ≤ last
not_above last by e = grind (arith, nat_tests)

-- HOW FAR AN ACKNOWLEDGEMENT LIES FROM SND.UNA

-- a number that doesn't lie before the reference lies past it by its distance
distance_past :
    (far : ℕ) → far < 2 ^ 32 → ((if nat_lt far (2 ^ 31) then 0 else 2 ^ 32 - far) == 0) ≡ true → (if nat_lt far (2 ^ 31) then far else 0) ≡ far
distance_past far small = by (nat_lt far (2 ^ 31)) where
  by : (test : Bool) → ((if test then 0 else 2 ^ 32 - far) == 0) ≡ true → (if test then far else 0) ≡ far
  by true none = refl
  by false none = absurd (let gone = eqb-true (2 ^ 32 - far) 0 none in omega arith)

-- and one that does lies past it by nothing
nothing_past : (far : ℕ) → ((if nat_lt far (2 ^ 31) then 0 else 2 ^ 32 - far) == 0) ≡ false → ((if nat_lt far (2 ^ 31) then far else 0) == 0) ≡ true
nothing_past far = by (nat_lt far (2 ^ 31)) where
  by : (test : Bool) → ((if test then 0 else 2 ^ 32 - far) == 0) ≡ false → ((if test then far else 0) == 0) ≡ true
  by true some = absurd (cc)
  by false some = refl

small_distance : (una n : SeqNumber) → distance_of una n < 2 ^ 32
small_distance una n = omega arith

at_least : (past_iss before : ℕ) → past_iss ≡ 0 → nat_le past_iss before ≡ true
at_least past_iss before e = grind (arith, nat_tests)

-- An acknowledgement that reaches past ISS acknowledges the SYN, or the SYN is acknowledged.
past_syn :
    (syn : Bool) (past_iss past before : ℕ) → (syn ≡ true → past_iss ≡ 0) → ((past == 0) && nat_le past_iss before) ≡ false → one_if syn ≤ past
past_syn false past_iss past before first e = omega arith
past_syn true past_iss zero before first e = absurd (let reaches = at_least past_iss before (first refl) in let clash : true ≡ false = sym reaches ∙ e in cc)
past_syn true past_iss (suc past) before first e = omega arith

-- one that lies before SND.UNA, and past ISS, comes only after the SYN's
syn_gone :
    (syn : Bool) (past_iss past before : ℕ) → (syn ≡ true → past_iss ≡ 0) → ((past == 0) && nat_le past_iss before) ≡ false → (past == 0) ≡ true → syn ≡ false
syn_gone false past_iss past before first e none = refl
syn_gone true past_iss past before first e none =
    absurd (let reaches = at_least past_iss before (first refl) in let all = ap (λ (t : Bool). t && nat_le past_iss before) none ∙ reaches in
    let clash : true ≡ false = sym all ∙ e in cc)

neither : (a b : Bool) → (a || b) ≡ false → b ≡ false
neither true b e = absurd (cc)
neither false b e = e

-- the window and the duplicates change nothing that the tie reads
told_core : (v : TcpValue) (header : TcpHeader) (duplicates : ℕ) (now : ℤ) → core_of (told v header duplicates now) ≡ core_of v
told_core v header duplicates now =
    cond_both (names_window v.tcb header) (windowed v.tcb header) v.tcb
    (λ (b : Tcb).
    core_of
    (with_tcb v
    (timeout_restarted (nxt_past_held (counted (ranges_taken (tsval_taken b header now) header now) duplicates now) (queued_in v)) now (queued_in v)))
    ≡ core_of v)
    (λ _. refl)
    (λ _. refl)

module _ (cx : ContextValue) (v : TcpValue) (ip : IpRepr) (header : TcpHeader) (bytes : List ℕ) (p : Past) (t : Side)
    (comes : Comes t (segment_of header bytes)) (r : Tied (core_of v) p t) where
  module _ (connected : is_connected v.tcb.state ≡ true) where
    tied_as : IsConnectedAs (core_of v) (unsent r.side)
    tied_as = fits_connected v.tcb.state (core_of v) (unsent r.side) connected r.fits

    -- the echo changes nothing that the tie reads
    abbrev timed : ℕ → TcpValue
    timed by = tsecr_heard v header by cx.instant

    -- outside the window
    led_outside : (w : TcpValue) → Tied (core_of w) p t → (is_closed w.tcb.state ≡ false → is_connected w.tcb.state ≡ true) →
        (again : Bool) → Led p t (outside cx w ip header again)
    led_outside w tied on again =
        let x = waiting_anew w header cx.instant in
        cond_both (is_closed w.tcb.state) (dropped w) (if again then acked cx x ip header no_ranges else drawn cx x ip header) (λ (a : Arrived). Led p t a)
        (λ _. tied)
        (λ open_yet.
        cond_both again (acked cx x ip header no_ranges) (drawn cx x ip header) (λ (a : Arrived). Led p t a)
        (λ _. led_acked cx x ip header no_ranges p t (on open_yet) tied)
        (λ _. led_drawn cx x ip header p t (on open_yet) tied))

    module _ (by : ℕ) (n : SeqNumber) (e : header.ack_number ≡ Some n) (distance : by ≡ distance_of v.tcb.sender.una n) (ok : IsAcceptable (core_of v) by)
        (no_rst : is_rst header.control ≡ false) where
      acked_now : IsAcked p t (acknowledged (timed by) by cx.instant)
      acked_now = acks (timed by) p t header bytes n by cx.instant comes (no_reset_control header.control no_rst) e distance ok connected r

      led_taken : is_syn header.control ≡ false → Led p t (taken cx v ip header bytes by)
      led_taken no_syn =
          cond_both (is_closed (acknowledged (timed by) by cx.instant).tcb.state) (dropped (acknowledged (timed by) by cx.instant))
          (with_content cx (told (acknowledged (timed by) by cx.instant) header (duplicates_after v.tcb header (length bytes) by) cx.instant) ip header bytes)
          (λ (a : Arrived). Led p t a)
          (λ _. acked_now.tied)
          (λ open_yet.
          let on = acked_now.running open_yet in
          let same = told_core (acknowledged (timed by) by cx.instant) header (duplicates_after v.tcb header (length bytes) by) cx.instant in
          led_content cx (told (acknowledged (timed by) by cx.instant)
          header (duplicates_after v.tcb header (length bytes) by) cx.instant) ip header bytes p t comes
          (data_control header.control no_rst no_syn) (ap (λ (c : Core). is_connected c.state) same ∙ on.0) (ap (λ (c : Core). c.syn_unacked) same ∙ on.1)
          (subst (λ (c : Core). Tied c p t) (sym same) acked_now.tied))

      led_passes : Led p t (checked (Passes by) cx v ip header bytes)
      led_passes =
          cond_both (is_in_window v.tcb (free_in v) header (length bytes)) (inside cx v ip header bytes by) (passed_outside cx v ip header (length bytes) by)
          (λ (a : Arrived). Led p t a)
          (λ _.
          cond_both (is_syn header.control) (drawn cx v ip header) (taken cx v ip header bytes by) (λ (a : Arrived). Led p t a)
          (λ _. led_drawn cx v ip header p t connected r)
          led_taken)
          (λ _.
          let again = has_length header (length bytes) in
          cond_both (is_before_window v header (length bytes)) (outside cx (acknowledged (timed by) by cx.instant) ip header again) (outside cx v ip header false)
          (λ (a : Arrived). Led p t a)
          (λ _. led_outside (acknowledged (timed by) by cx.instant) acked_now.tied (λ open_yet. (acked_now.running open_yet).0) again)
          (λ _. led_outside v r (λ _. connected) false))

    -- its acknowledgement is old
    led_old : is_rst header.control ≡ false → is_syn header.control ≡ false → v.tcb.sender.syn_unacked ≡ false → Led p t (checked Old cx v ip header bytes)
    led_old no_rst no_syn acked =
        cond_both (is_in_window v.tcb (free_in v) header (length bytes))
        (with_content cx (with_tcb v (tsval_taken (heard v.tcb) header cx.instant)) ip header bytes)
        (outside cx v ip header again)
        (λ (a : Arrived). Led p t a)
        (λ _. led_content cx (with_tcb v (tsval_taken (heard v.tcb) header cx.instant)) ip header bytes p t comes
        (data_control header.control no_rst no_syn) connected acked r)
        (λ _. led_outside v r (λ _. connected) again)
      where
        again : Bool
        again = is_repeated v header (length bytes)

    -- in SYN-RECEIVED
    led_opening :
        (n : SeqNumber) → header.ack_number ≡ Some n → is_answering v.tcb.state ≡ true → is_rst header.control ≡ false
        → Led p t (checked (opening_check (distance_of v.tcb.sender.una n)) cx v ip header bytes)
    led_opening n e answering no_rst =
        let unacked_syn = ap one_if (tied_as.unopened (state_phase v.tcb.state answering)) in
        cond_both (distance_of v.tcb.sender.una n == 1) (Passes 1) Resets (λ (c : Check). Led p t (checked c cx v ip header bytes))
        (λ one.
        let ok : IsAcceptable (core_of v) 1 = record { within = omega arith; past_syn = omega arith; opens = λ _. refl } in
        led_passes 1 n e (sym (eqb-true (distance_of v.tcb.sender.una n) 1 one)) ok no_rst)
        (λ _. led_reset v ip header (length bytes) p t r)

    -- later
    module _ (n : SeqNumber) (e : header.ack_number ≡ Some n) (other : is_answering v.tcb.state ≡ false)
        (no_rst : is_rst header.control ≡ false) (no_syn : is_syn header.control ≡ false) where
      abbrev past : ℕ
      past = distance_after v.tcb.sender.una n

      abbrev before : ℕ
      before = distance_before v.tcb.sender.una n

      led_past : (before == 0) ≡ true → nat_lt v.tcb.sender.snd_max past ≡ false → ((past == 0) && nat_le v.tcb.sender.past_iss before) ≡ false →
          Led p t (checked (Passes past) cx v ip header bytes)
      led_past none low reaches =
          let snd_max = tied_as.snd_max in
          let below = not_above v.tcb.sender.snd_max past low in
          let ok : IsAcceptable (core_of v) past = record {
            within = omega (arith, snd_max, below);
            past_syn = past_syn v.tcb.sender.syn_unacked v.tcb.sender.past_iss past before tied_as.past_iss reaches;
            opens = λ at. absurd (not_answering v.tcb.state other at);
          } in
          led_passes past n e (distance_past (distance_of v.tcb.sender.una n) (small_distance v.tcb.sender.una n) none) ok no_rst

      led_synchronized : Led p t (checked (synchronized_check v.tcb past before) cx v ip header bytes)
      led_synchronized =
          cond_both (nat_lt v.tcb.sender.snd_max past) Draws
          (if (past == 0) && nat_le v.tcb.sender.past_iss before then Drops
          else if before == 0 then Passes past
          else if nat_lt v.tcb.peer.largest_window before then Draws
          else Old)
          (λ (c : Check). Led p t (checked c cx v ip header bytes))
          (λ _. led_drawn cx v ip header p t connected r)
          (λ low.
          cond_both ((past == 0) && nat_le v.tcb.sender.past_iss before) Drops
          (if before == 0 then Passes past else if nat_lt v.tcb.peer.largest_window before then Draws else Old)
          (λ (c : Check). Led p t (checked c cx v ip header bytes))
          (λ _. r)
          (λ reaches.
          cond_both (before == 0) (Passes past) (if nat_lt v.tcb.peer.largest_window before then Draws else Old)
          (λ (c : Check). Led p t (checked c cx v ip header bytes))
          (λ none. led_past none low reaches)
          (λ some.
          cond_both (nat_lt v.tcb.peer.largest_window before) Draws Old (λ (c : Check). Led p t (checked c cx v ip header bytes))
          (λ _. led_drawn cx v ip header p t connected r)
          (λ _.
          led_old no_rst no_syn
          (syn_gone v.tcb.sender.syn_unacked v.tcb.sender.past_iss past before tied_as.past_iss reaches
          (nothing_past (distance_of v.tcb.sender.una n) some))))))

    led_ack :
        (ack : Option SeqNumber) → header.ack_number ≡ ack → is_rst header.control ≡ false → challenges_syn v.tcb header ≡ false
        → Led p t (checked (acknowledgement_check v.tcb ack) cx v ip header bytes)
    led_ack None e no_rst calm = r
    led_ack (Some n) e no_rst calm =
        cond_both (is_answering v.tcb.state) (opening_check (distance_of v.tcb.sender.una n))
        (synchronized_check v.tcb (distance_after v.tcb.sender.una n) (distance_before v.tcb.sender.una n))
        (λ (c : Check). Led p t (checked c cx v ip header bytes))
        (λ answering. led_opening n e answering no_rst)
        (λ other. led_synchronized n e other no_rst (no_syn other calm))
      where
        no_syn : is_answering v.tcb.state ≡ false → (is_syn header.control && not (is_answering v.tcb.state)) ≡ false → is_syn header.control ≡ false
        no_syn other calm = by (and_cases (is_syn header.control) (not (is_answering v.tcb.state)) calm) where
          by : (is_syn header.control ≡ false) ⊎ (not (is_answering v.tcb.state) ≡ false) → is_syn header.control ≡ false
          by (inl none) = none
          by (inr its) = absurd (let answers = not-false (is_answering v.tcb.state) its in let clash : true ≡ false = sym answers ∙ other in cc)

    -- a reset
    led_reset_arrives : Led p t (reset_arrives cx v ip header (length bytes))
    led_reset_arrives =
        cond_both (takes_reset v.tcb header) (dropped (taken_down v)) (if challenges_reset v header (length bytes) then drawn cx v ip header else dropped v)
        (λ (a : Arrived). Led p t a)
        (λ _. tied_down v p t r)
        (λ _.
        cond_both (challenges_reset v header (length bytes)) (drawn cx v ip header) (dropped v) (λ (a : Arrived). Led p t a)
        (λ _. led_drawn cx v ip header p t connected r)
        (λ _. r))

    led_received : Led p t (received cx v ip header bytes)
    led_received =
        cond_both (is_rst header.control) (reset_arrives cx v ip header (length bytes))
        (if challenges_first v.tcb header cx.instant then drawn cx v ip header else checked (acknowledgement_check v.tcb header.ack_number) cx v ip header bytes)
        (λ (a : Arrived). Led p t a)
        (λ _. led_reset_arrives)
        (λ no_rst.
        cond_both (challenges_first v.tcb header cx.instant) (drawn cx v ip header) (checked (acknowledgement_check v.tcb header.ack_number) cx v ip header bytes)
        (λ (a : Arrived). Led p t a)
        (λ _. led_drawn cx v ip header p t connected r)
        (λ calm. led_ack header.ack_number refl no_rst (neither (is_stale v.tcb header cx.instant) (challenges_syn v.tcb header) calm)))

  led_in : (state : State) → v.tcb.state ≡ state → Led p t (arrives_in state cx v ip header bytes)
  led_in In.Closed e = r
  led_in In.Listen e = led_opens cx v ip header bytes p t comes e r
  led_in In.SynSent e = led_takes_answer cx v ip header bytes p t comes e r
  led_in other e = led_received (ap is_connected e)

pub keeps_arrival :
    (cx : ContextValue) (v w : TcpValue) (p q : Past) (ip : IpRepr) (header : TcpHeader) (bytes : List ℕ) (k : ℕ) → Keeps v p w q
    → slice_get q.sent k ≡ Some (segment_of header bytes)
    → Keeps (arrives cx v ip header bytes).socket (with_answer p (arrives cx v ip header bytes).answer) w q
keeps_arrival cx v w p q ip header bytes k keeps sent =
    keeps_by v (arrives cx v ip header bytes).socket w p (with_answer p (arrives cx v ip header bytes).answer) q keeps (λ s t past peer_side_past fits holds.
    let comes : Comes t (segment_of header bytes) = (k, ap (λ (q : Past). slice_get q.sent k) peer_side_past ∙ sent) in
    let r : Tied (core_of v) p t = record { side = s; past = past; fits = fits; holds = holds } in
    cond_both (is_void_syn header) (dropped (unoffered v)) (arrives_in v.tcb.state cx (unoffered v) ip header bytes) (λ (a : Arrived). Led p t a)
    (λ _. r)
    (λ _. led_in cx (unoffered v) ip header bytes p t comes r v.tcb.state refl))
