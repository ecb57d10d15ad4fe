-- What is to be retransmitted was sent.
use Rattle.std.proofs.Common.{◌≡◌, ℕ, zero, suc, ◌+◌, ◌-◌, ◌*◌, ◌<◌, ◌≤◌, ◌==◌, ◌&&◌, ◌||◌, nat_le, nat_lt, not, min, max, ℤ, Bool, true, false}
use Rattle.std.proofs.Common.{if◌then◌else◌, List, [], ◌∷◌}
use Rattle.std.proofs.Common.{length, take, Option, Some, None, is_some, refl, sym, ap, ◌∙◌, subst, arith}
use Rattle.std.specs.List.{fold}
use Rattle.std.proofs.lemmas.Bool.{cond_both, eqb-true, leb-true, ltb-true}
use Rattle.net_base.specs.Ring.{Ring, anchored, enqueued}
use Rattle.ip_wire.specs.IpRepr.{IpRepr}
use Rattle.ip_wire.specs.Tcp.{header_len}
use Rattle.ip_wire.specs.TcpHeader.{TcpHeader}
use Rattle.tcp_refinement.specs.Context.{ContextValue}
use Rattle.tcp_refinement.specs.Offers.{Offered}
use Rattle.tcp_block.specs.AddressPair.{AddressPair}
use Rattle.tcp_block.specs.Run.{Run}
use Rattle.tcp_block.specs.declared.tcb.Loss.{Loss}
use Rattle.tcp_block.specs.Opening.{took_syn}
use Rattle.tcp_block.specs.Scoreboard.{held, sacked_below, sacked_from, is_lost, is_run, octets_above, runs_above, sum_of}
use Rattle.tcp_block.specs.Undo.{undo_sent}
use Rattle.tcp_block.proofs.Undone.{undone_cases}
use Rattle.tcp_invariants.specs.Controls.{is_fin}
use Rattle.tcp_invariants.specs.FourTuple.{FourTuple}
use Rattle.tcp_invariants.specs.Endpoints.{header_for}
use Rattle.tcp_invariants.specs.Events.{Event, after}
use Rattle.tcp_invariants.specs.Events.Event.{Comes, Asked, Listens, Connects, Sends, Reads, Closes, Aborts, Sets}
use Rattle.tcp_invariants.specs.Events.Setting.{Timeout, KeepAlive, AckDelay, Nagle, HopLimit, Timestamps, Paused, Retries, Congestion, MinRto, FineTimer}
use Rattle.tcp_invariants.specs.Losses.{AreWithin}
use Rattle.tcp_invariants.specs.Moments.{is_due, is_over, timeout_from}
use Rattle.tcp_invariants.specs.OfferKind.{OfferKind}
use Rattle.tcp_invariants.specs.OfferKind.TheVariants as Kind
use Rattle.tcp_invariants.specs.OpenOffer.{OpenOffer}
use Rattle.tcp_invariants.specs.State.TheVariants as In
use Rattle.tcp_invariants.specs.States.{is_closed, is_opening, is_time_wait, may_send_data, takes_writes, after_close}
use Rattle.tcp_invariants.proofs.ArrivalCases.{by_arrival, Received, Opening, Content, Drawing, acked_open, heeded, timed}
use Rattle.tcp_invariants.proofs.LossRules.{led_held}
use Rattle.tcp_invariants.proofs.OfferCases.{FirstRules, by_rules, begun, probing}
use Rattle.tcp_invariants.proofs.OrderSteps.{clash}
use Rattle.tcp_invariants.proofs.TimingRules.{led_timing}
use Rattle.tcp_block.specs.Acknowledged.{begins_recovery, duplicates_after, is_duplicate, is_lost_since, is_missed, is_partial, is_third, may_be_missed}
use Rattle.tcp_block.specs.Acknowledged.{ranges_taken, tells_of_loss, una_moved, una_risen, windowed}
use Rattle.tcp_block.specs.Arrival.{arrives, waiting_anew}
use Rattle.tcp_block.specs.declared.tcb.Tcb.{Tcb}
use Rattle.tcp_block.specs.TcbRules.{past_snd_max}
use Rattle.tcp_block.specs.Calls.{listening, connected_by, four_tuple_for, sent_more}
use Rattle.tcp_block.specs.Isn.{number_for}
use Rattle.tcp_block.specs.LossRecovery.{heard_more, is_first_lost, is_lost_at, is_passed, loss_lowered, loss_deadline, loss_probe_deadline, may_be_late}
use Rattle.tcp_block.specs.LossRecovery.{loss_probed, probe_armed, probe_begins, probe_from, all_noted, fills_early, fills_hole, is_sent_early, may_send_early}
use Rattle.tcp_block.specs.LossRecovery.{next_hole, probes_losses, ranges_noted, rescues, threshold, with_board}
use Rattle.tcp_block.specs.Offers.{number_at, offer_choice, offer_of, offer_segment}
use Rattle.tcp_block.specs.Retries.{asked, heard, one_more}
use Rattle.tcp_block.specs.Rules.{Choice, backed_off_now, control_for, probe_choice, resend_choice, resends, payload_choice}
use Rattle.tcp_block.specs.Segments.{ack_segment, hop_limit_of, keep_alive_segment, reset_segment, segment, syn_segment}
use Rattle.tcp_block.specs.Settled.{end_of, nxt_moved, probed, recorded, resent, sent_as, settled, syn_was_sent, timer_started, was_sent}
use Rattle.tcp_block.specs.Timestamps.{tsecr_taken, tsval_taken}
use Rattle.tcp_block.specs.Undone.{undone}
use Rattle.tcp_block.specs.Value.{TcpValue, Arrived, with_tcb, unoffered, ended, free_in, queued_in, room_of, window_of}
use Rattle.tcp_refinement.specs.Pair.Values.{PairValue}
use Rattle.tcp_refinement.specs.declared.pair.event.Side.{Side}
use Rattle.tcp_liveness.specs.Pair.{socket_of}
use Rattle.tcp_liveness.specs.Reached.{IsReached, both_started}
use Rattle.tcp_liveness.proofs.Events.{of_side, by_steps}
use Rattle.tcp_liveness.proofs.Leads.{IsLed, event_led, led_side, new_led, unoffered_led}

-- what is to be retransmitted, how much is to be acknowledged until recovery may begin again, and what was sent
pub record Again : Type 0 where
  pub resend : Bool
  pub probes : Bool
  pub recover : ℕ
  pub snd_max : ℕ
  pub syn : Bool

abbrev pub again_of : Tcb → Again
again_of b = record { resend = b.sender.resend; probes = b.loss.probes; recover = b.sender.recover; snd_max = b.sender.snd_max; syn = b.sender.syn_unacked }

pub record WasSent (a : Again) : Type 0 where
  pub resend : a.resend ≡ true → 1 ≤ a.snd_max
  pub probes : a.probes ≡ true → a.syn ≡ false → 1 ≤ a.snd_max
  pub recover : a.recover ≤ a.snd_max + 1

abbrev Sent : Tcb → Type 0
Sent b = WasSent (again_of b)

-- nothing is to be retransmitted
none_sent : (snd_max : ℕ) (syn : Bool) → WasSent (record { resend = false; probes = false; recover = 0; snd_max = snd_max; syn = syn })
none_sent snd_max syn = record { resend = λ e. clash (sym e); probes = λ e. clash (sym e); recover = omega arith }

upto : (a b c : ℕ) → a ≤ b → b ≤ c → a ≤ c
upto a b c e f = omega arith

-- more was sent, and no more is to go
more_sent : (a : Again) (resend probes : Bool) (snd_max : ℕ) → WasSent a → (resend ≡ true → a.resend ≡ true) → (probes ≡ true → a.probes ≡ true) →
    a.snd_max ≤ snd_max → WasSent (record { resend = resend; probes = probes; recover = a.recover; snd_max = snd_max; syn = a.syn })
more_sent a resend probes snd_max s r p e = record {
  resend = λ so. upto 1 a.snd_max snd_max (s.resend (r so)) e;
  probes = λ so syn. upto 1 a.snd_max snd_max (s.probes (p so) syn) e;
  recover = one_more_at a.recover a.snd_max snd_max s.recover e;
}
  where
    one_more_at : (recover old snd_max : ℕ) → recover ≤ old + 1 → old ≤ snd_max → recover ≤ snd_max + 1
    one_more_at recover old snd_max e f = omega arith

past_low : (snd_max : ℕ) → min (snd_max + 1) 4_294_967_295 ≤ snd_max + 1
past_low snd_max = omega arith

either : (a b : Bool) {X : Type 0} → (a ≡ true → X) → (b ≡ true → X) → (a || b) ≡ true → X
either true b f g e = f refl
either false b f g e = g e

both_parts : (a b : Bool) → (a && b) ≡ true → (a ≡ true) × (b ≡ true)
both_parts true b e = (refl, e)
both_parts false b e = clash (sym e)

-- WHAT IS LOST WAS SENT

none_above : (runs : List Run) (offset snd_max : ℕ) → snd_max ≡ 0 → AreWithin snd_max runs → runs_above runs offset ≡ 0
none_above [] offset snd_max e w = refl
none_above (r ∷ rs) offset snd_max e w =
    ap (λ (n : ℕ). fold (λ (count : ℕ) (r : Run). if is_run r && nat_lt offset r.start then min (count + 1) 255 else count) n rs)
    (cond_both (is_run r && nat_lt offset r.start) 1 0 (λ (n : ℕ). n ≡ 0)
    (λ so. absurd (never r.start r.end snd_max (ltb-true r.start r.end (both_parts (is_run r) (nat_lt offset r.start) so).0) w.0 e)) (λ _. refl))
    ∙ none_above rs offset snd_max e w.1
  where
    never : (start end snd_max : ℕ) → start < end → end ≤ snd_max → snd_max ≡ 0 → ⊥
    never start end snd_max a b c = absurd (omega arith)

no_octets : (runs : List Run) (offset snd_max : ℕ) → snd_max ≡ 0 → AreWithin snd_max runs → octets_above runs offset ≡ 0
no_octets [] offset snd_max e w = refl
no_octets (r ∷ rs) offset snd_max e w =
    ap (λ (n : ℕ). fold (λ (count : ℕ) (r : Run). if nat_lt offset r.start then sum_of (r.end - r.start) count else count) n rs)
    (cond_both (nat_lt offset r.start) (sum_of (r.end - r.start) 0) 0 (λ (n : ℕ). n ≡ 0) (λ _. nothing r.start r.end snd_max w.0 e) (λ _. refl))
    ∙ no_octets rs offset snd_max e w.1
  where
    nothing : (start end snd_max : ℕ) → end ≤ snd_max → snd_max ≡ 0 → sum_of (end - start) 0 ≡ 0
    nothing start end snd_max a b = omega arith

lost_sent : (runs : List Run) (least mss offset snd_max : ℕ) → 1 ≤ least → AreWithin snd_max runs → is_lost runs least mss offset ≡ true → 1 ≤ snd_max
lost_sent runs least mss offset snd_max some w lost = by (snd_max == 0) refl where
  not_le : (n : ℕ) → 1 ≤ n → nat_le n 0 ≡ true → ⊥
  not_le n e f = none n e (leb-true n 0 f) where
    none : (n : ℕ) → 1 ≤ n → n ≤ 0 → ⊥
    none n e f = absurd (omega arith)

  not_lt : (n : ℕ) → nat_lt n 0 ≡ true → ⊥
  not_lt n f = none n (ltb-true n 0 f) where
    none : (n : ℕ) → n < 0 → ⊥
    none n f = absurd (omega arith)

  by : (none : Bool) → (snd_max == 0) ≡ none → 1 ≤ snd_max
  by true e =
      let none = eqb-true snd_max 0 e in
      absurd
      (either (nat_le least (runs_above runs offset)) (nat_lt ((least - 1) * mss) (octets_above runs offset))
      (λ so. not_le least some (sym (ap (nat_le least) (none_above runs offset snd_max none w)) ∙ so))
      (λ so. not_lt ((least - 1) * mss) (sym (ap (nat_lt ((least - 1) * mss)) (no_octets runs offset snd_max none w)) ∙ so))
      lost)
  by false e = least_one snd_max e where
    least_one : (n : ℕ) → (n == 0) ≡ false → 1 ≤ n
    least_one zero e = clash e
    least_one (suc n) e = omega arith

least_threshold : (b : Tcb) → 1 ≤ threshold b
least_threshold b = cond_both b.loss.dupthresh_one 1 3 (λ (n : ℕ). 1 ≤ n) (λ _. omega arith) (λ _. omega arith)

first_lost_sent : (b : Tcb) → AreWithin b.sender.snd_max b.loss.board.runs → is_first_lost b ≡ true → 1 ≤ b.sender.snd_max
first_lost_sent b w e =
    lost_sent b.loss.board.runs (threshold b) b.reno.mss 0 b.sender.snd_max (least_threshold b) w (both_parts b.peer.sack (is_lost_at b 0) e).1

none_held : (runs : List Run) (offset snd_max : ℕ) → snd_max ≡ 0 → AreWithin snd_max runs → sacked_below runs offset ≡ 0
none_held [] offset snd_max e w = refl
none_held (r ∷ rs) offset snd_max e w =
    ap (λ (n : ℕ). fold (λ (count : ℕ) (r : Run). sum_of (min r.end offset - min r.start offset) count) n rs)
    (nothing r.start r.end offset snd_max w.0 e)
    ∙ none_held rs offset snd_max e w.1
  where
    nothing : (start end offset snd_max : ℕ) → end ≤ snd_max → snd_max ≡ 0 → sum_of (min end offset - min start offset) 0 ≡ 0
    nothing start end offset snd_max a b = omega arith

-- what was sent since the timer ran out is held, and so was sent
since_sent : (b : Tcb) → AreWithin b.sender.snd_max b.loss.board.runs → is_lost_since b ≡ true → 1 ≤ b.sender.snd_max
since_sent b w e = by (b.sender.snd_max == 0) refl where
  passed : is_passed b b.sender.recover ≡ true
  passed =
      (both_parts (not b.reno.recovers) (is_passed b b.sender.recover)
      (both_parts b.peer.sack _ (both_parts (not (b.sender.recover == 0)) _ e).1).1).1

  never : (least held below : ℕ) → least < held - below → held ≡ 0 → ⊥
  never least held below a b = absurd (omega arith)

  by : (none : Bool) → (b.sender.snd_max == 0) ≡ none → 1 ≤ b.sender.snd_max
  by true none =
      absurd
      (never ((threshold b - 1) * b.reno.mss) (held b.loss.board.runs) (sacked_below b.loss.board.runs b.sender.recover)
      (ltb-true ((threshold b - 1) * b.reno.mss) (sacked_from b.loss.board.runs b.sender.recover) passed)
      (none_held b.loss.board.runs 4_294_967_295 b.sender.snd_max (eqb-true b.sender.snd_max 0 none) w))
  by false some = least_one b.sender.snd_max some where
    least_one : (n : ℕ) → (n == 0) ≡ false → 1 ≤ n
    least_one zero e = clash e
    least_one (suc n) e = omega arith

-- A SEGMENT COMES

-- a probe of losses isn't to go because of one
armed_probes : (b : Tcb) (l : Loss) (now : ℤ) → (probe_armed b l now).probes ≡ l.probes
armed_probes b l now =
    cond_both (probes_losses b && not l.probed) (record l { probe_at = probe_from b now }) l (λ (x : Loss). x.probes ≡ l.probes) (λ _. refl) (λ _. refl)

ranges_probes : (b : Tcb) (header : TcpHeader) (now : ℤ) → (ranges_noted b header now).probes ≡ true → b.loss.probes ≡ true
ranges_probes b header now =
    cond_both b.peer.sack (heard_more b runs now) b.loss (λ (l : Loss). l.probes ≡ true → b.loss.probes ≡ true)
    (λ _.
    cond_both (nat_lt (held b.loss.board.runs) (held runs))
    (probe_armed b (record b.loss { board = record { runs = runs }; probes = false; probed = false }) now)
    (with_board b.loss runs) (λ (l : Loss). l.probes ≡ true → b.loss.probes ≡ true)
    (λ _ so. clash (sym so ∙ armed_probes b (record b.loss { board = record { runs = runs }; probes = false; probed = false }) now)) (λ _ so. so))
    (λ _ so. so)
  where
    runs : List Run
    runs = all_noted b b.loss.board.runs header.options.sack_ranges

undone_sent : (b : Tcb) (header : TcpHeader) (by queued : ℕ) → Sent b → Sent (undone b header by queued)
undone_sent b header by queued s =
    undone_cases b header by queued Sent s (λ _ _ _. record { resend = λ e. clash (sym e); probes = s.probes; recover = omega arith })

acked_sent : (b : Tcb) (by queued : ℕ) (now : ℤ) → Sent b → Sent (una_moved b by queued now)
acked_sent b by queued now s = record {
  resend = λ so.
      either (b.sender.resend && (by == 0)) (is_partial b by && (b.loss.resent - by == 0))
      (λ old. let parts = both_parts b.sender.resend (by == 0) old in stays b.sender.snd_max by (s.resend parts.0) (eqb-true by 0 parts.1))
      (λ new. partial (both_parts (is_partial b by) (b.loss.resent - by == 0) new).0)
      so;
  probes =
      cond_both (by == 0) b.loss (probe_armed (una_risen b by queued now) (loss_lowered b.loss by (is_partial b by)) now)
      (λ (l : Loss). l.probes ≡ true → (b.sender.syn_unacked && (by == 0)) ≡ false → 1 ≤ b.sender.snd_max - by)
      (λ none so syn. stays b.sender.snd_max by (s.probes so (first_not b.sender.syn_unacked (by == 0) none syn)) (eqb-true by 0 none))
      (λ _ so _. clash (sym so ∙ armed_probes (una_risen b by queued now) (loss_lowered b.loss by (is_partial b by)) now));
  recover = lower b.sender.recover b.sender.snd_max by s.recover;
}
  where
    first_not : (a c : Bool) → c ≡ true → (a && c) ≡ false → a ≡ false
    first_not true c e f = clash (sym e ∙ f)
    first_not false c e f = refl

    stays : (snd_max by : ℕ) → 1 ≤ snd_max → by ≡ 0 → 1 ≤ snd_max - by
    stays snd_max by e f = omega arith

    lower : (recover snd_max by : ℕ) → recover ≤ snd_max + 1 → recover - by ≤ snd_max - by + 1
    lower recover snd_max by e = omega arith

    partial : is_partial b by ≡ true → 1 ≤ b.sender.snd_max - by
    partial so =
        inside b.sender.recover b.sender.snd_max by s.recover
        (ltb-true (by + 1) b.sender.recover (both_parts (b.reno.recovers && not (by == 0)) (nat_lt (by + 1) b.sender.recover) so).1)
      where
        inside : (recover snd_max by : ℕ) → recover ≤ snd_max + 1 → by + 1 < recover → 1 ≤ snd_max - by
        inside recover snd_max by e f = omega arith

not_none : (n : ℕ) → not (n == 0) ≡ true → 1 ≤ n
not_none zero e = clash (sym e)
not_none (suc n) e = omega arith

-- the third duplicate comes while something is in flight
third_sent : (old : Tcb) (header : TcpHeader) (size by : ℕ) → old.sender.flight_size ≤ old.sender.snd_max →
    (duplicates_after old header size by == 3) ≡ true → 1 ≤ old.sender.snd_max - by
third_sent old header size by sent =
    cond_both (is_duplicate old header size by) (min (old.sender.duplicates + 1) 4) 0 (λ (n : ℕ). (n == 3) ≡ true → 1 ≤ old.sender.snd_max - by)
    (λ dup _. some dup)
    (λ _ e. clash (sym e))
  where
    some : is_duplicate old header size by ≡ true → 1 ≤ old.sender.snd_max - by
    some dup =
        let first = both_parts ((by == 0) && (size == 0)) _ dup in
        let more = both_parts (not (is_fin header.control)) (tells_of_loss old header && not (old.sender.flight_size == 0)) first.1 in
        let second = both_parts (tells_of_loss old header) (not (old.sender.flight_size == 0)) more.1 in
        whole old.sender.flight_size old.sender.snd_max by (not_none old.sender.flight_size second.1) sent
        (eqb-true by 0 (both_parts (by == 0) (size == 0) first.0).0)
      where
        whole : (flight snd_max by : ℕ) → 1 ≤ flight → flight ≤ snd_max → by ≡ 0 → 1 ≤ snd_max - by
        whole flight snd_max by e f g = omega arith

module _ (cx : ContextValue) (ip : IpRepr) (header : TcpHeader) (bytes : List ℕ) (v : TcpValue) (flight : v.tcb.sender.flight_size ≤ v.tcb.sender.snd_max)
    (s : Sent v.tcb) where
  -- what the other is believed to hold was sent
  abbrev SentAfter : Arrived → Type 0
  SentAfter a = AreWithin a.socket.tcb.sender.snd_max a.socket.tcb.loss.board.runs → Sent a.socket.tcb

  abbrev After : TcpValue → Type 0
  After x = AreWithin x.tcb.sender.snd_max x.tcb.loss.board.runs → Sent x.tcb

  sent_drawing : (x : TcpValue) → After x → Drawing cx ip header bytes SentAfter x
  sent_drawing x h = record { answers = λ _. h; at_once = h; pauses = h }

  sent_content : (x : TcpValue) → After x → Content cx ip header bytes SentAfter x
  sent_content x h = record {
    plain = (λ _. h, h);
    fin = λ _ _. (λ _. h, h);
    ordered = λ _ _ _ _. (λ _. h, h);
    ordered_fin = λ _ _ _ _. (λ _. h, h);
    early = λ _ _ _ _. h;
  }

  risen : (u : TcpValue) (by : ℕ) → Sent u.tcb → Sent (acked_open (timed cx.instant header u by) by cx.instant).tcb
  risen u by h = acked_sent (timed cx.instant header u by).tcb by (queued_in u) cx.instant (undone_sent u.tcb header by (queued_in u) h)

  -- with its duplicates and its ranges
  heeded_sent :
      (by : ℕ) (b : Tcb) → b.sender.snd_max ≡ v.tcb.sender.snd_max - by → Sent b
      → After (heeded cx.instant header (length bytes) (unoffered v) by b)
  heeded_sent by b snd_max h w = record {
    resend = λ so.
        either b.sender.resend (is_third c count || begins_recovery c count) h.resend
        (λ new.
        either (is_third c count) (begins_recovery c count)
        (λ third. third_here (both_parts (count == 3) (not c.reno.recovers && not (c.sender.recover == 0)) third).0)
        (λ begins.
        either (is_missed c count && not (may_be_late c)) (is_lost_since c)
        (λ first.
        either (count == 3) (is_first_lost c) third_here (λ lost. first_lost_sent c w lost)
        (both_parts (may_be_missed c) ((count == 3) || is_first_lost c) (both_parts (is_missed c count) (not (may_be_late c)) first).0).1)
        (λ since. since_sent c w since) begins)
        new)
        so;
    probes = λ so syn. h.probes (ranges_probes (tsval_taken b header cx.instant) header cx.instant so) syn;
    recover =
        cond_both (begins_recovery c count) (past_snd_max c) b.sender.recover (λ (n : ℕ). n ≤ b.sender.snd_max + 1) (λ _. past_low b.sender.snd_max) (λ _. h.recover);
  }
    where
      c : Tcb
      c = ranges_taken (tsval_taken b header cx.instant) header cx.instant

      count : ℕ
      count = duplicates_after v.tcb header (length bytes) by

      third_here : (count == 3) ≡ true → 1 ≤ b.sender.snd_max
      third_here e = subst (λ (n : ℕ). 1 ≤ n) (sym snd_max) (third_sent v.tcb header (length bytes) by flight e)

  sent_received : Received cx ip header bytes SentAfter (unoffered v)
  sent_received = record {
    stays = λ _. s;
    refuses = λ _. s;
    draws = sent_drawing (unoffered v) (λ _. s);
    falls = λ _ _ _ _. none_sent 0 false;
    ends = λ _ _ _ _. s;
    closes = λ by _ _ _. risen (unoffered v) by s;
    taken = λ by _ _.
        let b = (acked_open (timed cx.instant header (unoffered v) by) by cx.instant).tcb in
        sent_content (heeded cx.instant header (length bytes) (unoffered v) by b) (heeded_sent by b refl (risen (unoffered v) by s));
    taken_window = λ by _ _.
        let b = (acked_open (timed cx.instant header (unoffered v) by) by cx.instant).tcb in
        sent_content (heeded cx.instant header (length bytes) (unoffered v) by (windowed b header))
        (heeded_sent by (windowed b header) refl (risen (unoffered v) by s));
    news = λ by _ _.
        sent_drawing (waiting_anew (acked_open (timed cx.instant header (unoffered v) by) by cx.instant) header cx.instant) (λ _. risen (unoffered v) by s);
    outside = sent_drawing (waiting_anew (unoffered v) header cx.instant) (λ _. s);
    old = λ _. sent_content (with_tcb (unoffered v) (tsval_taken (heard v.tcb) header cx.instant)) (λ _. s);
  }

  sent_opening : Opening cx ip header bytes SentAfter (unoffered v)
  sent_opening = record {
    opens = λ _ _ _. record { resend = λ e. clash (sym e); probes = λ _ e. clash e; recover = omega arith };
    refuses = λ _. s;
    ends = λ _ _. s;
    connects = λ _ _ _. acked_sent (tsecr_taken (took_syn v.tcb header) header 1 cx.instant) 1 0 cx.instant s;
    crosses = λ _ _ _. s;
  }

  sent_arrival : SentAfter (arrives cx v ip header bytes)
  sent_arrival = by_arrival cx ip header bytes SentAfter v (λ _. s) (λ _. sent_opening) (λ _. sent_received)

-- AN OFFER

raised : (snd_max end : ℕ) → snd_max ≤ max snd_max end
raised snd_max end = omega arith

asked_sent : (b : Tcb) (now : ℤ) → Sent b → Sent (asked b now)
asked_sent b now s =
    cond_both (is_over now b.timers.counts_from)
    (record b {
      sender = record b.sender { unanswered = one_more b.sender.unanswered };
      timers = record b.timers { counts_from = Some (timeout_from now b.round_trip) };
    })
    b Sent (λ _. s) (λ _. s)

went_sent : (b : Tcb) (o : OpenOffer) (queued : ℕ) → Sent b → Sent (was_sent b o queued)
went_sent b o queued s =
    more_sent (again_of b) b.sender.resend (was_sent b o queued).loss.probes (max b.sender.snd_max (end_of b o)) s (λ e. e)
    (λ e. sym (armed_probes c (record c.loss { undo = undo_sent c c.loss.undo o.instant }) o.instant) ∙ e)
    (raised b.sender.snd_max (end_of b o))
  where
    c : Tcb
    c = timer_started (nxt_moved b (end_of b o) queued o.instant) o.instant

sent_sent : (kind : OfferKind) (b : Tcb) (o : OpenOffer) (queued : ℕ) → Sent b → Sent (sent_as kind b o queued)
sent_sent Kind.Reset b o queued s = s
sent_sent Kind.Syn b o queued s = went_sent (syn_was_sent b o) o queued s
sent_sent Kind.FastRetransmission b o queued s =
    went_sent (resent b (end_of b o)) o queued
    (more_sent (again_of b) false false b.sender.snd_max s (λ e. clash (sym e)) (λ e. clash (sym e)) (same b.sender.snd_max))
  where
    same : (n : ℕ) → n ≤ n
    same n = omega arith
sent_sent Kind.Payload b o queued s = went_sent b o queued s
sent_sent Kind.Probe b o queued s =
    asked_sent (probed b (end_of b o) o.instant) o.instant
    (more_sent (again_of b) b.sender.resend b.loss.probes (max b.sender.snd_max (end_of b o)) s (λ e. e) (λ e. e) (raised b.sender.snd_max (end_of b o)))
sent_sent Kind.KeepAlive b o queued s = asked_sent b o.instant s
sent_sent Kind.Ack b o queued s = s
sent_sent Kind.WindowUpdate b o queued s = s

backed_sent : (b : Tcb) → Sent b → Sent (backed_off_now b)
backed_sent b s = record {
  resend = s.resend;
  probes = λ e. clash (sym e);
  recover =
      cond_both b.sender.syn_unacked b.sender.recover (past_snd_max b) (λ (n : ℕ). n ≤ b.sender.snd_max + 1) (λ _. s.recover) (λ _. past_low b.sender.snd_max);
}

-- a loss probe is due only while something is in flight
probed_sent : (b : Tcb) → 1 ≤ b.sender.snd_max → Sent b → Sent (loss_probed b)
probed_sent b some s = record {
  resend = λ _. some;
  probes = λ _ _. some;
  recover =
      cond_both (probe_begins b) (past_snd_max b) b.sender.recover (λ (n : ℕ). n ≤ b.sender.snd_max + 1)
      (λ _. past_low b.sender.snd_max) (λ _. s.recover);
}

module _ (cx : ContextValue) (v : TcpValue) (flight : v.tcb.sender.flight_size ≤ v.tcb.sender.snd_max) (s : Sent v.tcb) where
  abbrev Both : Offered TcpValue → Type 0
  Both o = Sent (settled true o.socket).tcb × Sent o.socket.tcb

  by_segment :
      (kind : OfferKind) (x : TcpValue) (pair : FourTuple) (header : TcpHeader) (offset len : ℕ) → Sent x.tcb
      → Both (offer_segment kind cx x pair header offset len)
  by_segment kind x pair header offset len g = (sent_sent kind (recorded x.tcb k (room_of x.received)) k (queued_in x) g, g) where
    k : OpenOffer
    k = record {
      kind = kind;
      instant = cx.instant;
      header = header_for pair.addresses (hop_limit_of x.tcb.settings.hop_limit) (header_len header + len);
      segment = header;
      offset = offset;
      len = len;
    }

  by_choice : (kind : OfferKind) (x : TcpValue) (pair : FourTuple) (c : Choice) → Sent x.tcb → Both (offer_choice kind cx x pair c)
  by_choice kind x pair c g =
      by_segment kind x pair (segment x.tcb pair cx.instant (window_of x) (control_for c (queued_in x)) (number_at x.tcb c.offset)) c.offset c.len g

  sent_first : (pair : FourTuple) (b : Tcb) → Sent b → FirstRules cx pair Both (with_tcb (unoffered v) b)
  sent_first pair b g = record {
    syn = λ _. by_segment Kind.Syn w pair (syn_segment b pair cx.instant cx.ip_mtu (room_of v.received) (free_in v)) 0 0 g;
    again = λ _ _. by_choice Kind.FastRetransmission w pair (resend_choice b pair.addresses cx.ip_mtu v.queued) g;
    payload = λ _ _. by_choice Kind.Payload w pair (payload_choice b pair.addresses cx.ip_mtu v.queued) g;
    last = λ _.
        record {
          probe = λ _ _. by_choice Kind.Probe x pair probe_choice g;
          window_limited = λ _ _. by_choice Kind.Payload x pair (payload_choice x.tcb pair.addresses cx.ip_mtu v.queued) g;
          ack = λ _. by_segment Kind.Ack x pair (ack_segment x.tcb pair cx.instant (window_of x)) 0 0 g;
          update = λ _ _. by_segment Kind.WindowUpdate x pair (ack_segment x.tcb pair cx.instant (window_of x)) 0 0 g;
          keep_alive = λ _ _. by_segment Kind.KeepAlive x pair (keep_alive_segment x.tcb pair cx.instant (window_of x)) 0 1 g;
          quiet = λ _. (g, g);
        };
  }
    where
      w : TcpValue
      w = with_tcb (unoffered v) b

      x : TcpValue
      x = probing cx w

  flight_size_then : is_due cx.instant (loss_probe_deadline v.tcb) ≡ true → 1 ≤ v.tcb.sender.snd_max
  flight_size_then =
      cond_both (may_send_data v.tcb.state && (not v.tcb.sender.syn_unacked && not (v.tcb.sender.flight_size == 0))) (loss_deadline v.tcb.loss) None
      (λ (instant : Option ℤ). is_due cx.instant instant ≡ true → 1 ≤ v.tcb.sender.snd_max)
      (λ so _.
      upto 1 v.tcb.sender.flight_size v.tcb.sender.snd_max
      (not_none v.tcb.sender.flight_size
      (both_parts (not v.tcb.sender.syn_unacked) (not (v.tcb.sender.flight_size == 0))
      (both_parts (may_send_data v.tcb.state) _ so).1).1)
      flight)
      (λ _ e. clash (sym e))

  sent_offer : Both (offer_of cx v)
  sent_offer =
      by_rules cx v Both
      (record {
        nobody = λ _. (s, s);
        time_wait = λ _. (s, s);
        timeout = λ _. (s, s);
        closed = λ _. (s, s);
        reset = λ pair _ _. by_segment Kind.Reset (unoffered v) pair (reset_segment v.tcb pair cx.instant (window_of v)) 0 0 s;
        falls = λ _ _ _. (none_sent 0 false, none_sent 0 false);
        over = λ _ _ _. (s, s);
        backs = λ pair _ _ _. sent_first pair (backed_off_now (begun cx v)) (backed_sent (begun cx v) s);
        probes = λ pair _ _ _ due. sent_first pair (loss_probed (begun cx v)) (probed_sent (begun cx v) (flight_size_then due) s);
        goes = λ pair _ _ _. sent_first pair (begun cx v) s;
      })

-- EVENTS

connected_sent : (v : TcpValue) (names : Option FourTuple) (number : ℕ) → Sent v.tcb → Sent (connected_by v names number).tcb
connected_sent v None number s = s
connected_sent v (Some pair) number s = none_sent 0 true

record LedSent (v : TcpValue) : Type 0 where
  led : IsLed v
  sent : Sent v.tcb

flight_of : (v : TcpValue) → IsLed v → v.tcb.sender.flight_size ≤ v.tcb.sender.snd_max
flight_of v l = subst (λ (v : TcpValue). v.tcb.sender.flight_size ≤ v.tcb.sender.snd_max) (sym l.is) (led_timing l.room l.ring l.events).sent

within_of : (v : TcpValue) → IsLed v → AreWithin v.tcb.sender.snd_max v.tcb.loss.board.runs
within_of v l = subst (λ (v : TcpValue). AreWithin v.tcb.sender.snd_max v.tcb.loss.board.runs) (sym l.is) (led_held l.room l.ring l.events)

event_sent : (v : TcpValue) (it : Event) → IsLed v → Sent v.tcb → Sent (after v it).tcb
event_sent v (Comes cx ip header bytes) l s =
    sent_arrival cx ip header bytes v (flight_of v l) s (within_of (after v (Comes cx ip header bytes)) (event_led v (Comes cx ip header bytes) l))
event_sent v (Asked cx true) l s = (sent_offer cx v (flight_of v l) s).0
event_sent v (Asked cx false) l s = (sent_offer cx v (flight_of v l) s).1
event_sent v (Listens endpoint) l s =
    cond_both (is_closed v.tcb.state && not (endpoint.port == 0)) (listening v endpoint) (unoffered v) (λ (w : TcpValue). Sent w.tcb)
    (λ _. none_sent 0 false) (λ _. s)
event_sent v (Connects cx remote local) l s =
    cond_both (is_closed v.tcb.state) (connected_by v (four_tuple_for cx remote local) (number_for cx (four_tuple_for cx remote local))) (unoffered v)
    (λ (w : TcpValue). Sent w.tcb)
    (λ _. connected_sent v (four_tuple_for cx remote local) (number_for cx (four_tuple_for cx remote local)) s) (λ _. s)
event_sent v (Sends bytes) l s =
    cond_both (takes_writes v.tcb.state) (sent_more v (enqueued (anchored v.queued) (take (min (length bytes) (length v.queued.free)) bytes))) (unoffered v)
    (λ (w : TcpValue). Sent w.tcb) (λ _. s) (λ _. s)
event_sent v (Reads count) l s = s
event_sent v Closes l s =
    cond_both (is_opening v.tcb.state) (ended (unoffered v)) (with_tcb (unoffered v) (record v.tcb { state = after_close v.tcb.state }))
    (λ (w : TcpValue). Sent w.tcb) (λ _. s) (λ _. s)
event_sent v Aborts l s =
    cond_both (is_time_wait v.tcb.state) (ended (unoffered v))
    (with_tcb (unoffered v) (record v.tcb { state = In.Closed; sender = record v.tcb.sender { reset_due = is_some v.tcb.names.pair } }))
    (λ (w : TcpValue). Sent w.tcb) (λ _. s) (λ _. s)
event_sent v (Sets (Timeout duration)) l s = s
event_sent v (Sets (KeepAlive interval)) l s = s
event_sent v (Sets (AckDelay duration)) l s = s
event_sent v (Sets (Nagle enabled)) l s = s
event_sent v (Sets (HopLimit limit)) l s = s
event_sent v (Sets (Timestamps generator)) l s = s
event_sent v (Sets (Paused paused)) l s = s
event_sent v (Sets (Retries limit)) l s = s
event_sent v (Sets (Congestion control)) l s = s
event_sent v (Sets (MinRto duration)) l s = s
event_sent v (Sets (FineTimer fine)) l s = s

-- of each side of a pair that events led to
pub reached_again : (p : PairValue) (side : Side) → IsReached p → WasSent (again_of (socket_of p side).tcb)
reached_again p side r =
    (of_side LedSent p.sides side
    (by_steps LedSent (λ v it h. record { led = event_led v it h.led; sent = event_sent v it h.led h.sent })
    (λ v h. record { led = unoffered_led v h.led; sent = h.sent })
    (both_started r.a r.b) r.events p r.steps
    (record {
      first = record { led = new_led r.a.room r.a.ring; sent = none_sent 0 false };
      second = record { led = new_led r.b.room r.b.ring; sent = none_sent 0 false };
    }))).sent

-- what is to be retransmitted was sent
pub again_sent : (p : PairValue) (side : Side) → IsReached p → (socket_of p side).tcb.sender.syn_unacked ≡ false
    → (addresses : AddressPair) (mtu : ℕ) (queued : Ring ℕ)
    → resends (socket_of p side).tcb addresses mtu queued ≡ true → 1 ≤ (socket_of p side).tcb.sender.snd_max
again_sent p side r acked addresses mtu queued so =
    let s = reached_again p side r in
    either b.sender.resend _ s.resend
    (λ more.
    either b.loss.probes _ (λ probes. s.probes probes acked)
    (λ rest.
    either (fills_hole b) _ (λ hole. in_sent (in_hole hole)) (λ early. in_sent (in_early (both_parts (is_sent_early b) _ early).0)) rest)
    more)
    (both_parts (may_send_data b.state) _ so).1
  where
    b : Tcb
    b = (socket_of p side).tcb

    in_sent : nat_lt (next_hole b) b.sender.flight_size ≡ true → 1 ≤ b.sender.snd_max
    in_sent e =
        upto 1 b.sender.flight_size b.sender.snd_max (some (next_hole b) b.sender.flight_size (ltb-true (next_hole b) b.sender.flight_size e))
        (flight_of (socket_of p side) (led_side p side r))
      where
        some : (offset flight : ℕ) → offset < flight → 1 ≤ flight
        some offset flight e = omega arith

    in_early : is_sent_early b ≡ true → nat_lt (next_hole b) b.sender.flight_size ≡ true
    in_early =
        either (fills_early b) (rescues b) (λ fills. may_go (both_parts (may_send_early b) _ fills).0) (λ rescue_rxt. may_go (both_parts (may_send_early b) _ rescue_rxt).0)
      where
        may_go : may_send_early b ≡ true → nat_lt (next_hole b) b.sender.flight_size ≡ true
        may_go e =
            let one = both_parts b.peer.sack _ e in
            let two = both_parts b.reno.recovers _ one.1 in
            let three = both_parts (not b.sender.syn_unacked) _ two.1 in
            (both_parts (nat_lt (next_hole b) b.sender.flight_size) _ three.1).0

    in_hole : fills_hole b ≡ true → nat_lt (next_hole b) b.sender.flight_size ≡ true
    in_hole e =
        let one = both_parts b.peer.sack _ e in
        let two = both_parts b.reno.recovers _ one.1 in
        let three = both_parts (not b.sender.syn_unacked) _ two.1 in
        (both_parts (nat_lt (next_hole b) b.sender.flight_size) _ three.1).0
