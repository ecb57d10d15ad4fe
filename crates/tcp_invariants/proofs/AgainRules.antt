-- What is retransmitted goes once for each loss.
use Rattle.std.proofs.Common.{◌≡◌, ◌⊎◌, inl, inr, ⊎_elim, ℕ, ◌+◌, ◌-◌, ◌^◌, ◌<◌, ◌≤◌, ◌==◌, nat_le, nat_lt, not, ◌&&◌, ◌||◌, min, max, ℤ, Bool, true, false}
use Rattle.std.proofs.Common.{if◌then◌else◌, List, [], ◌∷◌, length, take, Option, Some, None, is_some, refl, sym, ap, ◌∙◌, subst, arith}
use Rattle.std.proofs.lemmas.Bool.{cond_both, eqb-true, ltb-true}
use Rattle.ip_wire.specs.IpRepr.{IpRepr}
use Rattle.ip_wire.specs.Seq.{distance_of}
use Rattle.ip_wire.specs.TcpHeader.{TcpHeader}
use Rattle.net_base.specs.Ring.{Ring, anchored, enqueued}
use Rattle.tcp_block.specs.Context.{ContextValue}
use Rattle.tcp_block.specs.BaseOffers.{Offered}
use Rattle.tcp_state.specs.Moments.{is_due, is_over as past_instant, timeout_from}
use Rattle.tcp_state.specs.Offsets.{advanced_by}
use Rattle.tcp_state.specs.Reno as reno
use Rattle.tcp_state.specs.Reno.{RenoValue}
use Rattle.tcp_state.specs.Scoreboard.{first_missing, lies_in}
use Rattle.tcp_state.specs.States.{is_closed, is_listening, is_opening, is_time_wait, takes_writes, owes_fin, after_close}
use Rattle.tcp_state.specs.declared.endpoints.FourTuple.{FourTuple}
use Rattle.tcp_state.specs.declared.offer.OfferKind.{OfferKind}
use Rattle.tcp_state.specs.declared.offer.OfferKind.TheVariants as Kind
use Rattle.tcp_state.specs.declared.offer.OpenOffer.{OpenOffer}
use Rattle.tcp_state.specs.declared.scoreboard.Run.{Run}
use Rattle.tcp_state.specs.declared.state.State.{State}
use Rattle.tcp_state.specs.declared.state.State.TheVariants as In
use Rattle.tcp_block.specs.Acknowledged.{una_moved}
use Rattle.tcp_block.specs.Acknowledged.{windowed, ranges_taken, duplicates_after, counted}
use Rattle.tcp_block.specs.Arrival.{arrives}
use Rattle.tcp_block.specs.TcbRules.{one_if, initial_window}
use Rattle.tcp_block.specs.Calls.{listening, connected_by, four_tuple_for, sent_more}
use Rattle.tcp_block.specs.Checks.{Check, acknowledgement_check}
use Rattle.tcp_block.specs.Checks.Check.{Passes}
use Rattle.tcp_block.specs.Isn.{number_for}
use Rattle.tcp_block.specs.LossRecovery.{probe_armed, next_hole}
use Rattle.tcp_block.specs.LossRecovery.{loss_probed, loss_probe_deadline, retransmit_offset, hole_offset, is_rescue}
use Rattle.tcp_block.specs.Offers.{offer_of}
use Rattle.tcp_block.specs.Opening.{took_syn}
use Rattle.tcp_block.specs.Retries.{asked, one_more}
use Rattle.tcp_block.specs.Rules.{resends_beside, backed_off_now, sent_count, next_offset}
use Rattle.tcp_block.specs.Settings.{initial_reno}
use Rattle.tcp_block.specs.Settled.{end_of, past_sacked, nxt_moved, timer_started, syn_was_sent, resent, probed, sent_as, sent_off, recorded}
use Rattle.tcp_block.specs.Timestamps.{tsval_taken, tsecr_taken}
use Rattle.tcp_block.specs.Undo.{undo_sent}
use Rattle.tcp_block.specs.Value.{TcpValue, Arrived, with_tcb, unoffered, ended, new_socket, queued_in, room_of}
use Rattle.tcp_block.specs.declared.tcb.Tcb.{Tcb}
use Rattle.tcp_block.specs.declared.tcb.Loss.{Loss}
use Rattle.tcp_invariants.specs.Retransmission.{Marks, no_marks, heard_by, tells_loss, loss_told_by, is_loss, is_timeout, gone, offering, mends, is_payload, una_risen_by}
use Rattle.tcp_invariants.specs.Retransmission.{before, with_gone, marked, BeginsFollowing, GoOnce}
use Rattle.tcp_invariants.specs.Ends.{is_over}
use Rattle.tcp_invariants.specs.Events.{Event, Setting, after, set as sets}
use Rattle.tcp_invariants.specs.Events.Event.{Comes, Asked, Listens, Connects, Sends, Reads, Closes, Aborts, Sets}
use Rattle.tcp_invariants.specs.Events.Setting.{Timeout, KeepAlive, AckDelay, Nagle, HopLimit, Timestamps, Paused, Retries, Congestion, MinRto, FineTimer}
use Rattle.tcp_invariants.specs.InOrder.{sending_of, IsInOrder}
use Rattle.tcp_invariants.specs.Timing.{start_of, timing_of, IsTimedRight}
use Rattle.tcp_invariants.proofs.ArrivalCases.{timed, by_arrival, Received, Opening, Content, Drawing, acked_open, heeded}
use Rattle.tcp_invariants.proofs.EarlyRules.{InRecovery, goes_in}
use Rattle.tcp_invariants.proofs.RcvAdvSteps.{near_distance}
use Rattle.tcp_invariants.proofs.OfferCases.{Rules, FirstRules, LastRules, by_rules, begun, probing}
use Rattle.tcp_invariants.proofs.OrderSteps.{clash, one_if_least}
use Rattle.tcp_invariants.proofs.OrderRules.{event_order, new_order}
use Rattle.tcp_invariants.proofs.TimingRules.{event_right}
use Rattle.tcp_invariants.proofs.AgainSteps.{Resending, resending_of, Fits, through, least, less_fits, none_fits, Marked, marked_by, left_true, right_true, either}
use Rattle.tcp_invariants.proofs.AgainSteps.{passes_small, armed_resent, ranges_resent, nearer, acked_fits, undone_fits, unless_told, counted_fits, skipped_fits}

-- A SEGMENT COMES

module _ (cx : ContextValue) (ip : IpRepr) (header : TcpHeader) (bytes : List ℕ) (v : TcpValue) (m : Marks) (p : IsInOrder (sending_of v))
    (k : Marked v m) where
  abbrev told : Bool
  told = loss_told_by (acknowledgement_check v.tcb header.ack_number) v header (length bytes) cx.instant

  abbrev since : Tcb → Marks
  since new = record { again = if told then 0 else m.again - una_risen_by v.tcb new; payload = m.payload - una_risen_by v.tcb new }

  abbrev FitsIn : Tcb → Type 0
  FitsIn new = Fits (since new) (resending_of new)

  abbrev Kept : Arrived → Type 0
  Kept a = (is_over a.socket.tcb.state ≡ true) ⊎ FitsIn a.socket.tcb

  -- of what is marked no more is left than there was
  since_less : (n : ℕ) (d : ℕ) → (if told then 0 else n - d) ≤ n
  since_less n d = cond_both told 0 (n - d) (λ (x : ℕ). x ≤ n) (λ _. least n) (λ _. minus n d) where
    minus : (n d : ℕ) → n - d ≤ n
    minus n d = omega arith

  minus_least : (n d : ℕ) → n - d ≤ n
  minus_least n d = omega arith

  same : (new : Tcb) → Fits m (resending_of new) → FitsIn new
  same new f =
      less_fits m (since new) (resending_of new) (since_less m.again (una_risen_by v.tcb new)) (minus_least m.payload (una_risen_by v.tcb new)) f

  content : (x : TcpValue) → FitsIn x.tcb → Content cx ip header bytes Kept x
  content x f =
      record {
        plain = (λ _. inr f, inr f);
        fin = λ _ _. (λ _. inr f, inr f);
        ordered = λ _ _ _ _. (λ _. inr f, inr f);
        ordered_fin = λ _ _ _ _. (λ _. inr f, inr f);
        early = λ _ _ _ _. inr f;
      }

  drawing : (x : TcpValue) → FitsIn x.tcb → Drawing cx ip header bytes Kept x
  drawing x f = record { answers = λ _. inr f; at_once = inr f; pauses = inr f }

  -- SND.UNA rises by so much
  abbrev Rises : Tcb → ℕ → Type 0
  Rises new by = una_risen_by v.tcb new ≡ by

  with_rise : (new : Tcb) (by : ℕ) (t : Bool) → Rises new by → (told ≡ false → t ≡ false)
      → Fits (unless_told t (nearer m by)) (resending_of new) → FitsIn new
  with_rise new by t rise tells f =
      less_fits (unless_told t (nearer m by)) (since new) (resending_of new) (at told refl) (equal (m.payload) (una_risen_by v.tcb new) by rise) f
    where
      equal : (n d by : ℕ) → d ≡ by → n - d ≤ n - by
      equal n d by e = omega arith

      at : (s : Bool) → told ≡ s → (if s then 0 else m.again - una_risen_by v.tcb new) ≤ (if t then 0 else m.again - by)
      at true e = least _
      at false e =
          subst (λ (t : Bool). m.again - una_risen_by v.tcb new ≤ (if t then 0 else m.again - by)) (sym (tells e))
          (equal m.again (una_risen_by v.tcb new) by rise)

  rise_is : (by : ℕ) → by < 2 ^ 32 → distance_of v.tcb.sender.una (advanced_by v.tcb.sender.una by) ≡ by
  rise_is by small = near_distance v.tcb.sender.una by p.number small

  -- as the segment is heard, before its acknowledgement is taken
  heard_fits : (by : ℕ) → Fits m (resending_of (timed cx.instant header (unoffered v) by).tcb)
  heard_fits by =
      let f = undone_fits v.tcb header by (queued_in v) m k.fits in record { flag = f.flag; high = f.high; payload = f.payload }

  risen_fits : (by : ℕ) → Fits (nearer m by) (resending_of (una_moved (timed cx.instant header (unoffered v) by).tcb by (queued_in v) cx.instant))
  risen_fits by = acked_fits (timed cx.instant header (unoffered v) by).tcb by (queued_in v) cx.instant m (heard_fits by)

  -- a loss is told by what the check says
  told_by : (by : ℕ) → acknowledgement_check v.tcb header.ack_number ≡ Passes by
      → told ≡ tells_loss (heard_by v header by cx.instant) (duplicates_after v.tcb header (length bytes) by)
  told_by by e = ap (λ (c : Check). loss_told_by c v header (length bytes) cx.instant) e

  heeded_fits : (by : ℕ) (b : Tcb) → acknowledgement_check v.tcb header.ack_number ≡ Passes by
      → b.sender ≡ (una_moved (timed cx.instant header (unoffered v) by).tcb by (queued_in v) cx.instant).sender
      → Fits (nearer m by) (resending_of (ranges_taken (tsval_taken b header cx.instant) header cx.instant))
      → tells_loss (ranges_taken (tsval_taken b header cx.instant) header cx.instant) (duplicates_after v.tcb header (length bytes) by)
      ≡ tells_loss (heard_by v header by cx.instant) (duplicates_after v.tcb header (length bytes) by)
      → FitsIn (heeded cx.instant header (length bytes) (unoffered v) by b).tcb
  heeded_fits by b passes sender f alike =
      let c = ranges_taken (tsval_taken b header cx.instant) header cx.instant in
      let count = duplicates_after v.tcb header (length bytes) by in
      with_rise (heeded cx.instant header (length bytes) (unoffered v) by b).tcb by (tells_loss c count)
      (ap (λ s. distance_of v.tcb.sender.una s.una) sender ∙ rise_is by (passes_small v.tcb header.ack_number by passes))
      (λ e. alike ∙ (sym (told_by by passes) ∙ e))
      (skipped_fits (unless_told (tells_loss c count) (nearer m by)) (resending_of (counted c count cx.instant)) _
      (counted_fits c count cx.instant (nearer m by) f))

  -- its ranges change nothing of it
  ranged_fits : (by : ℕ) (b : Tcb) → Fits (nearer m by) (resending_of b)
      → Fits (nearer m by) (resending_of (ranges_taken (tsval_taken b header cx.instant) header cx.instant))
  ranged_fits by b f = record {
    flag = f.flag;
    high = λ e. subst (λ (n : ℕ). m.again - by ≤ n) (sym (ranges_resent (tsval_taken b header cx.instant) header cx.instant)) (f.high e);
    payload = f.payload;
  }

  received : Received cx ip header bytes Kept (unoffered v)
  received = record {
    stays = inr (same v.tcb k.fits);
    refuses = inr (same v.tcb k.fits);
    draws = drawing (unoffered v) (same v.tcb k.fits);
    falls = λ _ _ _. inl refl;
    ends = λ _ _ _. inl refl;
    closes = λ _ _ _. inl refl;
    taken = λ by passes _.
        let b = (acked_open (timed cx.instant header (unoffered v) by) by cx.instant).tcb in
        content (heeded cx.instant header (length bytes) (unoffered v) by b) (heeded_fits by b passes refl (ranged_fits by b (risen_fits by)) refl);
    taken_window = λ by passes _.
        let b = windowed (acked_open (timed cx.instant header (unoffered v) by) by cx.instant).tcb header in
        content (heeded cx.instant header (length bytes) (unoffered v) by b) (heeded_fits by b passes refl (ranged_fits by b (risen_fits by)) refl);
    news = λ by passes _.
        drawing _
        (with_rise (acked_open (timed cx.instant header (unoffered v) by) by cx.instant).tcb by false
        (rise_is by (passes_small v.tcb header.ack_number by passes)) (λ _. refl) (risen_fits by));
    outside = drawing _ (same v.tcb k.fits);
    old = λ _. content _ (same v.tcb k.fits);
  }

  opening : Opening cx ip header bytes Kept (unoffered v)
  opening = record {
    opens = λ at _.
        let none = k.over (ap is_over at) in
        inr (less_fits no_marks _ _ (none_again none.0 _) (none_payload none.1 _) (none_fits _));
    refuses = inr (same v.tcb k.fits);
    ends = λ _. inl refl;
    connects = λ _ _.
        let b = tsecr_taken (took_syn v.tcb header) header 1 cx.instant in
        inr (with_rise (una_moved b 1 0 cx.instant) 1 false (rise_is 1 (omega arith)) (λ _. refl)
        (acked_fits b 1 0 cx.instant m (record { flag = k.fits.flag; high = k.fits.high; payload = k.fits.payload })));
    crosses = λ _ _. inr (same v.tcb k.fits);
  }
    where
      none_again : m.again ≡ 0 → (d : ℕ) → (if told then 0 else m.again - d) ≤ 0
      none_again e d = subst (λ (n : ℕ). (if told then 0 else n - d) ≤ 0) (sym e) (since_less 0 d)

      none_payload : m.payload ≡ 0 → (d : ℕ) → m.payload - d ≤ 0
      none_payload e d = subst (λ (n : ℕ). n - d ≤ 0) (sym e) (minus_least 0 d)

  arrival_marked : Kept (arrives cx v ip header bytes)
  arrival_marked = by_arrival cx ip header bytes Kept v (inr (same v.tcb k.fits)) (λ _. opening) (λ _. received)

-- IT IS ASKED

-- with a segment of this kind that ends there
abbrev raised : Tcb → OfferKind → ℕ → Marks → Marks
raised b kind end m = record {
  again = if mends b kind then max m.again end else m.again;
  payload = if is_payload kind then max m.payload end else m.payload;
}

asked_fits : (m : Marks) (b : Tcb) (now : ℤ) → Fits m (resending_of b) → Fits m (resending_of (asked b now))
asked_fits m b now f =
    cond_both (past_instant now b.timers.counts_from)
    (record b {
      sender = record b.sender { unanswered = one_more b.sender.unanswered };
      timers = record b.timers { counts_from = Some (timeout_from now b.round_trip) };
    })
    b (λ (c : Tcb). Fits m (resending_of c)) (λ _. f) (λ _. f)

further : (n flight reach : ℕ) → n ≤ flight → n ≤ max flight reach
further n flight reach e = omega arith

-- the block after a segment that moves SND.NXT
abbrev moved : Tcb → OpenOffer → ℕ → Tcb
moved b o queued = timer_started (nxt_moved b (end_of b o) queued o.instant) o.instant

abbrev marked_loss : Tcb → OpenOffer → Loss
marked_loss c o = record c.loss { undo = undo_sent c c.loss.undo o.instant }

went_fits : (m : Marks) (b c : Tcb) (o : OpenOffer) (reach : ℕ) → Fits m (record (resending_of c) { flight_size = max b.sender.flight_size reach })
    → Fits m (record {
      resend = c.sender.resend;
      recovers = c.reno.recovers;
      resent = (probe_armed c (marked_loss c o) o.instant).resent;
      flight_size = max b.sender.flight_size reach;
    })
went_fits m b c o reach f = record {
  flag = f.flag;
  high = λ e. subst (λ (n : ℕ). m.again ≤ n) (sym (armed_resent c (marked_loss c o) o.instant)) (f.high e);
  payload = f.payload;
}

sent_fits : (kind : OfferKind) (b : Tcb) (o : OpenOffer) (queued : ℕ) (m : Marks) → Fits m (resending_of b)
    → (is_over (sent_as kind b o queued).state ≡ true) ⊎ Fits (raised b kind (end_of b o) m) (resending_of (sent_as kind b o queued))
sent_fits Kind.Reset b o queued m f = inl refl
sent_fits Kind.Syn b o queued m f =
    let c = moved (syn_was_sent b o) o queued in
    inr (went_fits m b c o (past_sacked b (end_of b o) queued)
    (record { flag = f.flag; high = f.high; payload = further m.payload b.sender.flight_size (past_sacked b (end_of b o) queued) f.payload }))
sent_fits Kind.FastRetransmission b o queued m f =
    let c = moved (resent b (end_of b o)) o queued in
    inr (went_fits (raised b Kind.FastRetransmission (end_of b o) m) b c o (past_sacked b (end_of b o) queued)
    (record {
      flag = λ e. clash (sym e);
      high = λ e. at b.sender.resend (b.loss.probes || is_rescue b) b.reno.recovers e (f.high e);
      payload = further m.payload b.sender.flight_size (past_sacked b (end_of b o) queued) f.payload;
    }))
  where
    raise : (n k end : ℕ) → n ≤ k → max n end ≤ max k end
    raise n k end e = omega arith

    at : (resend last recovers : Bool) → recovers ≡ true → m.again ≤ b.loss.resent
        → (if resend || not last then max m.again (end_of b o) else m.again)
        ≤ (if resend || (recovers && not last) then max b.loss.resent (end_of b o) else b.loss.resent)
    at true last recovers e high = raise m.again b.loss.resent (end_of b o) high
    at false true true e high = high
    at false false true e high = raise m.again b.loss.resent (end_of b o) high
    at false last false e high = clash (sym e)
sent_fits Kind.Payload b o queued m f =
    let c = moved b o queued in
    inr (went_fits (raised b Kind.Payload (end_of b o) m) b c o (past_sacked b (end_of b o) queued)
    (record {
      flag = f.flag;
      high = f.high;
      payload =
          joined m.payload b.sender.flight_size (end_of b o)
          (min (first_missing b.loss.board.runs (end_of b o)) (min b.sender.snd_max (one_if b.sender.syn_unacked + queued))) f.payload;
    }))
  where
    joined : (n flight end k : ℕ) → n ≤ flight → max n end ≤ max flight (max end k)
    joined n flight end k e = omega arith
sent_fits Kind.Probe b o queued m f =
    inr (asked_fits m (probed b (end_of b o) o.instant) o.instant (record { flag = f.flag; high = f.high; payload = f.payload }))
sent_fits Kind.KeepAlive b o queued m f = inr (asked_fits m b o.instant f)
sent_fits other b o queued m f = inr (record { flag = f.flag; high = f.high; payload = f.payload })

first_least : (runs : List Run) (offset : ℕ) → offset ≤ first_missing runs offset
first_least [] offset = same offset where
  same : (n : ℕ) → n ≤ n
  same n = omega arith
first_least (r ∷ rs) offset =
    cond_both (lies_in offset r) r.end offset (λ (n : ℕ). offset ≤ first_missing rs n)
    (λ inside.
    through offset r.end (first_missing rs r.end) (below offset r.end (ltb-true offset r.end (right_true (nat_le r.start offset) (nat_lt offset r.end) inside)))
    (first_least rs r.end))
    (λ _. first_least rs offset)
  where
    below : (a b : ℕ) → a < b → a ≤ b
    below a b e = omega arith

-- what mends a loss begins where what was retransmitted ends, or after
module _ (b : Tcb) (m : Marks) (limit queued : ℕ) (f : Fits m (resending_of b)) (sent : b.sender.flight_size ≤ b.sender.snd_max)
    (within : b.sender.flight_size ≤ one_if b.sender.syn_unacked + queued + one_if (owes_fin b.state)) where
  abbrev Following : ℕ → Type 0
  Following offset = m.again ≤ one_if b.sender.syn_unacked + offset

  hole_following : InRecovery b → Following (min (next_hole b) (min (sent_count b) queued))
  hole_following goes =
      near m.again (next_hole b) b.sender.flight_size b.sender.snd_max (one_if b.sender.syn_unacked) queued (one_if (owes_fin b.state)) goes.flies
      (through m.again b.loss.resent (next_hole b) (f.high goes.recovers) (first_least b.loss.board.runs b.loss.resent)) sent within
      (one_if_least (owes_fin b.state))
    where
      near : (n hole flight snd_max syn queued fin : ℕ) → hole < flight → n ≤ hole → flight ≤ snd_max → flight ≤ syn + queued + fin → fin ≤ 1
          → n ≤ syn + min hole (min (snd_max - syn) queued)
      near n hole flight snd_max syn queued fin e g h i j = omega arith

  flies_on : InRecovery b → (b.sender.flight_size == 0) ≡ true → ⊥
  flies_on goes none =
      let flies = goes.flies in
      let zero = eqb-true b.sender.flight_size 0 none in
      absurd (omega (arith, flies, zero))

  again_following : (payload : Bool) → resends_beside b payload ≡ true → mends b Kind.FastRetransmission ≡ true
      → Following (retransmit_offset b limit (sent_count b) queued)
  again_following payload does is = at b.sender.resend b.loss.probes refl refl where
    mends_if : b.sender.resend ≡ false → mends b Kind.FastRetransmission ≡ not (b.loss.probes || is_rescue b)
    mends_if e = ap (λ (t : Bool). t || not (b.loss.probes || is_rescue b)) e

    nothing : m.again ≡ 0 → (offset : ℕ) → Following offset
    nothing e offset = subst (λ (n : ℕ). n ≤ one_if b.sender.syn_unacked + offset) (sym e) (least _)

    at : (resend probes : Bool) → b.sender.resend ≡ resend → b.loss.probes ≡ probes → Following (retransmit_offset b limit (sent_count b) queued)
    at true probes e g = nothing (f.flag e) (retransmit_offset b limit (sent_count b) queued)
    at false true e g = clash (sym is ∙ (mends_if e ∙ ap (λ (t : Bool). not (t || is_rescue b)) g))
    at false false e g =
        let goes = goes_in b payload does e g in
        cond_both (b.sender.resend || (b.sender.flight_size == 0)) 0
        (if b.loss.probes then min (sent_count b - limit) queued else min (hole_offset b limit (sent_count b)) (min (sent_count b) queued)) Following
        (λ first.
        ⊎_elim (λ so. clash (sym so ∙ e)) (λ none. absurd (flies_on goes none)) (either b.sender.resend (b.sender.flight_size == 0) first))
        (λ _.
        cond_both b.loss.probes (min (sent_count b - limit) queued) (min (hole_offset b limit (sent_count b)) (min (sent_count b) queued)) Following
        (λ so. clash (sym so ∙ g))
        (λ _.
        cond_both (is_rescue b) (max (sent_count b - limit) (next_hole b)) (next_hole b) (λ (n : ℕ). Following (min n (min (sent_count b) queued)))
        (λ so. clash (sym is ∙ (mends_if e ∙ (ap (λ (t : Bool). not (t || is_rescue b)) g ∙ ap not so))))
        (λ _. hole_following goes)))

-- payload begins at SND.NXT
payload_following : (b : Tcb) (m : Marks) → m.payload ≤ b.sender.flight_size → m.payload ≤ one_if b.sender.syn_unacked + next_offset b
payload_following b m e = near m.payload b.sender.flight_size (one_if b.sender.syn_unacked) e where
  near : (n flight syn : ℕ) → n ≤ flight → n ≤ syn + (flight - syn)
  near n flight syn e = omega arith

module _ (cx : ContextValue) (v : TcpValue) (m : Marks) (p : IsInOrder (sending_of v)) (sent : v.tcb.sender.flight_size ≤ v.tcb.sender.snd_max)
    (k : Marked v m) where
  -- as far as it is known before the offer
  abbrev told_now : Bool
  told_now = is_due cx.instant v.tcb.timers.retransmit_at || is_due cx.instant (loss_probe_deadline v.tcb)

  abbrev now_marks : Marks
  now_marks = record { again = if told_now then 0 else m.again; payload = if is_due cx.instant v.tcb.timers.retransmit_at then 0 else m.payload }

  abbrev Sound : Offered TcpValue → Type 0
  Sound o =
      BeginsFollowing now_marks o.socket.tcb o.socket.offered
      × (((is_over o.socket.tcb.state ≡ true) × (o.socket.offered ≡ None)) ⊎ Fits now_marks (resending_of o.socket.tcb))

  over_least : (t : Bool) (n : ℕ) → (if t then 0 else n) ≤ n
  over_least t n = cond_both t 0 n (λ (x : ℕ). x ≤ n) (λ _. least n) (λ _. same n) where
    same : (n : ℕ) → n ≤ n
    same n = omega arith

  now_fits : (r : Resending) → Fits m r → Fits now_marks r
  now_fits r f = less_fits m now_marks r (over_least told_now m.again) (over_least (is_due cx.instant v.tcb.timers.retransmit_at) m.payload) f

  last : (pair : FourTuple) (x : TcpValue) → x.offered ≡ None → Fits now_marks (resending_of x.tcb) → LastRules cx pair Sound x
  last pair x none f = record {
    probe = λ _ _. ((λ is. clash (sym is), λ is. clash (sym is)), inr f);
    window_limited = λ _ _. ((λ is. clash (sym is), λ _. payload_following x.tcb now_marks f.payload), inr f);
    ack = λ _. ((λ is. clash (sym is), λ is. clash (sym is)), inr f);
    update = λ _ _. ((λ is. clash (sym is), λ is. clash (sym is)), inr f);
    keep_alive = λ _ _. ((λ is. clash (sym is), λ is. clash (sym is)), inr f);
    quiet = λ _. (subst (BeginsFollowing now_marks x.tcb) (sym none) tt, inr f);
  }

  first : (pair : FourTuple) (w : TcpValue) → w.offered ≡ None → Fits now_marks (resending_of w.tcb)
      → ((limit : ℕ) (payload : Bool) → resends_beside w.tcb payload ≡ true → mends w.tcb Kind.FastRetransmission ≡ true
      → now_marks.again ≤ one_if w.tcb.sender.syn_unacked + retransmit_offset w.tcb limit (sent_count w.tcb) (queued_in w))
      → FirstRules cx pair Sound w
  first pair w none f following = record {
    syn = λ _. ((λ is. clash (sym is), λ is. clash (sym is)), inr f);
    again = λ _ does. ((λ is. following _ _ does is, λ is. clash (sym is)), inr f);
    payload = λ _ _. ((λ is. clash (sym is), λ _. payload_following w.tcb now_marks f.payload), inr f);
    last = λ _. last pair (probing cx w) none (record { flag = f.flag; high = f.high; payload = f.payload });
  }

  -- a loss is told now
  zero_again : told_now ≡ true → now_marks.again ≡ 0
  zero_again e = ap (λ (t : Bool). if t then 0 else m.again) e

  zero_least : told_now ≡ true → (n : ℕ) → now_marks.again ≤ n
  zero_least e n = subst (λ (k : ℕ). k ≤ n) (sym (zero_again e)) (least n)

  timed_out : is_due cx.instant v.tcb.timers.retransmit_at ≡ true → told_now ≡ true
  timed_out due = ap (λ (t : Bool). t || is_due cx.instant (loss_probe_deadline v.tcb)) due

  probed_now : is_due cx.instant v.tcb.timers.retransmit_at ≡ false → is_due cx.instant (loss_probe_deadline v.tcb) ≡ true → told_now ≡ true
  probed_now not due = ap (λ (t : Bool). t || is_due cx.instant (loss_probe_deadline v.tcb)) not ∙ due

  rules : Rules cx v Sound
  rules = record {
    nobody = λ _. (tt, inr (now_fits _ k.fits));
    time_wait = λ _. (tt, inr (now_fits _ (record { flag = k.fits.flag; high = k.fits.high; payload = k.fits.payload })));
    timeout = λ _. (tt, inr (now_fits _ (record { flag = k.fits.flag; high = k.fits.high; payload = k.fits.payload })));
    closed = λ _. (tt, inr (now_fits _ k.fits));
    reset = λ pair _ _. ((λ is. clash (sym is), λ is. clash (sym is)), inr (now_fits _ k.fits));
    falls = λ _ _ _. (tt, inl (refl, refl));
    over = λ _ _ _. (tt, inr (now_fits _ (record { flag = k.fits.flag; high = k.fits.high; payload = k.fits.payload })));
    backs = λ pair _ _ due.
        first pair (with_tcb (unoffered v) (backed_off_now (begun cx v))) refl
        (record {
          flag = λ _. zero_again (timed_out due);
          high = λ _. zero_least (timed_out due) _;
          payload = subst (λ (n : ℕ). n ≤ 0) (sym (ap (λ (t : Bool). if t then 0 else m.payload) due)) (least 0);
        })
        (λ _ _ _ _. zero_least (timed_out due) _);
    probes = λ pair _ _ not due.
        first pair (with_tcb (unoffered v) (loss_probed (begun cx v))) refl
        (record {
          flag = λ _. zero_again (probed_now not due);
          high = λ _. zero_least (probed_now not due) _;
          payload = (now_fits _ k.fits).payload;
        })
        (λ _ _ _ _. zero_least (probed_now not due) _);
    goes = λ pair _ on _.
        first pair (with_tcb (unoffered v) (begun cx v)) refl (now_fits _ (record { flag = k.fits.flag; high = k.fits.high; payload = k.fits.payload }))
        (λ limit payload does is.
        again_following (begun cx v) now_marks limit (queued_in v) (now_fits _ (record { flag = k.fits.flag; high = k.fits.high; payload = k.fits.payload })) sent
        (p.within on.alive) payload does is);
  }

  sound_offer : Sound (offer_of cx v)
  sound_offer = by_rules cx v Sound rules

-- settled as sent
settled_fits : (offered : Option OpenOffer) (x : TcpValue) (m : Marks)
    → ((is_over x.tcb.state ≡ true) × (offered ≡ None)) ⊎ Fits m (resending_of x.tcb)
    → (is_over (sent_off offered x).tcb.state ≡ true) ⊎ Fits (with_gone x.tcb offered m) (resending_of (sent_off offered x).tcb)
settled_fits None x m (inl over) = inl over.0
settled_fits None x m (inr f) = inr f
settled_fits (Some o) x m (inl over) = absurd (let none = over.1 in cc)
settled_fits (Some o) x m (inr f) =
    sent_fits o.kind (recorded x.tcb o (room_of x.received)) o (queued_in x) m (record { flag = f.flag; high = f.high; payload = f.payload })

-- less was marked before
begins_less : (m n : Marks) (b : Tcb) (offered : Option OpenOffer) → n.again ≤ m.again → n.payload ≤ m.payload → BeginsFollowing m b offered → BeginsFollowing n b offered
begins_less m n b None again payload begins = tt
begins_less m n b (Some o) again payload begins =
    (λ is. through n.again m.again (start_of b o) again (begins.0 is), λ is. through n.payload m.payload (start_of b o) payload (begins.1 is))

gone_less : (m n : Marks) (b : Tcb) (offered : Option OpenOffer) (r : Resending) → n.again ≤ m.again → n.payload ≤ m.payload
    → Fits (with_gone b offered m) r → Fits (with_gone b offered n) r
gone_less m n b None r again payload f = less_fits m n r again payload f
gone_less m n b (Some o) r again payload f =
    less_fits (with_gone b (Some o) m) (with_gone b (Some o) n) r (raise (mends b o.kind) n.again m.again (end_of b o) again)
    (raise (is_payload o.kind) n.payload m.payload (end_of b o) payload) f
  where
    more : (n k end : ℕ) → n ≤ k → max n end ≤ max k end
    more n k end e = omega arith

    raise : (t : Bool) (n k end : ℕ) → n ≤ k → (if t then max n end else n) ≤ (if t then max k end else k)
    raise true n k end e = more n k end e
    raise false n k end e = e

-- EVENTS

abbrev Goes : TcpValue → Event → Marks → Type 0
Goes v it m = BeginsFollowing (before v it m) (offering v it) (gone v it) × Marked (after v it) (marked v it m)

drop_least : (t : Bool) (n d : ℕ) → (if t then 0 else n - d) ≤ (if t then 0 else n)
drop_least true n d = least 0
drop_least false n d = minus n d where
  minus : (n d : ℕ) → n - d ≤ n
  minus n d = omega arith

-- a call that leaves where something is retransmitted
called : (v w : TcpValue) (it : Event) (m : Marks) → after v it ≡ w → gone v it ≡ None → is_loss v it ≡ false → is_timeout v it ≡ false
    → Fits m (resending_of w.tcb)
    → Goes v it m
called v w it m is none no_loss no_timeout f = (
  subst (BeginsFollowing (before v it m) (offering v it)) (sym none) tt,
  subst (λ (offered : Option OpenOffer). Marked (after v it)
      (if is_over (after v it).tcb.state then no_marks else with_gone (offering v it) offered (before v it m))) (sym none)
      (marked_by (after v it) (before v it m)
      (inr (subst (λ (x : TcpValue). Fits (before v it m) (resending_of x.tcb)) (sym is)
      (less_fits m (before v it m) (resending_of w.tcb) (least_of (is_loss v it) m.again _) (least_of (is_timeout v it) m.payload _) f)))),
)
  where
    least_of : (t : Bool) (n d : ℕ) → (if t then 0 else n - d) ≤ n
    least_of true n d = least n
    least_of false n d = minus n d where
      minus : (n d : ℕ) → n - d ≤ n
      minus n d = omega arith

asked_goes : (cx : ContextValue) (sent_now : Bool) (v : TcpValue) (m : Marks) → IsInOrder (sending_of v) → v.tcb.sender.flight_size ≤ v.tcb.sender.snd_max
    → Marked v m → Goes v (Asked cx sent_now) m
asked_goes cx true v m p sent k =
    let s = sound_offer cx v m p sent k in
    let it = Asked cx true in
    let whole = now_marks cx v m p sent k in
    let again = drop_least (is_loss v it) m.again (una_risen_by v.tcb (after v it).tcb) in
    let payload = drop_least (is_timeout v it) m.payload (una_risen_by v.tcb (after v it).tcb) in (
      begins_less whole (before v it m) (offering v it) (gone v it) again payload s.0,
      marked_by (after v it) (with_gone (offering v it) (gone v it) (before v it m))
          (⊎_elim (λ over. inl over) (λ f. inr (gone_less whole (before v it m) (offering v it) (gone v it) _ again payload f))
          (settled_fits (offer_of cx v).socket.offered (unoffered (offer_of cx v).socket) whole s.1)),
    )
asked_goes cx false v m p sent k =
    let s = sound_offer cx v m p sent k in
    let it = Asked cx false in
    let whole = now_marks cx v m p sent k in
    let again = drop_least (is_loss v it) m.again (una_risen_by v.tcb (after v it).tcb) in
    let payload = drop_least (is_timeout v it) m.payload (una_risen_by v.tcb (after v it).tcb) in (
      tt,
      marked_by (after v it) (before v it m)
          (⊎_elim (λ over. inl over.0) (λ f. inr (less_fits whole (before v it m) _ again payload f)) s.1),
    )

-- a connection is called or listened for again: nothing went
anew : (v w : TcpValue) (it : Event) (m : Marks) → after v it ≡ w → gone v it ≡ None → is_loss v it ≡ false → is_timeout v it ≡ false
    → m.again ≡ 0 → m.payload ≡ 0 → Goes v it m
anew v w it m is none no_loss no_timeout again payload =
    called v w it m is none no_loss no_timeout
    (less_fits no_marks m (resending_of w.tcb) (same m.again again) (same m.payload payload) (none_fits (resending_of w.tcb)))
  where
    same : (n : ℕ) → n ≡ 0 → n ≤ 0
    same n e = omega arith

set_fits : (v : TcpValue) (m : Marks) (setting : Setting) → Fits m (resending_of v.tcb) → Fits m (resending_of (sets v setting).tcb)
set_fits v m (Timeout duration) f = f
set_fits v m (KeepAlive interval) f = f
set_fits v m (AckDelay duration) f = f
set_fits v m (Nagle enabled) f = f
set_fits v m (HopLimit limit) f = f
set_fits v m (Timestamps generator) f = f
set_fits v m (Paused paused) f = f
set_fits v m (Retries limit) f = f
set_fits v m (MinRto duration) f = f
set_fits v m (FineTimer fine) f = f
set_fits v m (Congestion control) f = record { flag = f.flag; high = λ e. clash (sym e ∙ none); payload = f.payload } where
  none : (initial_reno v.tcb control).recovers ≡ false
  none =
      cond_both (not v.tcb.receiver.took_syn) (initial_window control)
      (if v.tcb.sender.syn_unacked then reno.with_mss (initial_window control) v.tcb.peer.mss
      else reno.started (reno.with_mss (initial_window control) v.tcb.peer.mss) false)
      (λ (r : RenoValue). r.recovers ≡ false) (λ _. refl)
      (λ _.
      cond_both v.tcb.sender.syn_unacked (reno.with_mss (initial_window control) v.tcb.peer.mss)
      (reno.started (reno.with_mss (initial_window control) v.tcb.peer.mss) false) (λ (r : RenoValue). r.recovers ≡ false) (λ _. refl) (λ _. refl))

event_goes : (v : TcpValue) (it : Event) (m : Marks) → IsInOrder (sending_of v) → v.tcb.sender.flight_size ≤ v.tcb.sender.snd_max → Marked v m → Goes v it m
event_goes v (Comes cx ip header bytes) m p sent k =
    (tt, marked_by (arrives cx v ip header bytes).socket (before v (Comes cx ip header bytes) m) (arrival_marked cx ip header bytes v m p k))
event_goes v (Asked cx sent_now) m p sent k = asked_goes cx sent_now v m p sent k
event_goes v (Listens endpoint) m p sent k =
    cond_both (is_closed v.tcb.state && not (endpoint.port == 0)) (listening v endpoint) (unoffered v)
    (λ (w : TcpValue). after v (Listens endpoint) ≡ w → Goes v (Listens endpoint) m)
    (λ may is.
    let none = k.over (closed_over v.tcb.state (left_true (is_closed v.tcb.state) (not (endpoint.port == 0)) may)) in
    anew v _ (Listens endpoint) m is refl refl refl none.0 none.1)
    (λ _ is. called v (unoffered v) (Listens endpoint) m is refl refl refl k.fits) refl
  where
    closed_over : (state : State) → is_closed state ≡ true → is_over state ≡ true
    closed_over state e = ap (λ (t : Bool). t || is_listening state) e
event_goes v (Connects cx remote local) m p sent k =
    cond_both (is_closed v.tcb.state) (connected_by v (four_tuple_for cx remote local) (number_for cx (four_tuple_for cx remote local))) (unoffered v)
    (λ (w : TcpValue). after v (Connects cx remote local) ≡ w → Goes v (Connects cx remote local) m)
    (λ closed is.
    let none = k.over (ap (λ (t : Bool). t || is_listening v.tcb.state) closed) in
    anew v _ (Connects cx remote local) m is refl refl refl none.0 none.1)
    (λ _ is. called v (unoffered v) (Connects cx remote local) m is refl refl refl k.fits) refl
event_goes v (Sends bytes) m p sent k =
    cond_both (takes_writes v.tcb.state) (sent_more v (enqueued (anchored v.queued) (take (min (length bytes) (length v.queued.free)) bytes))) (unoffered v)
    (λ (w : TcpValue). after v (Sends bytes) ≡ w → Goes v (Sends bytes) m)
    (λ _ is. called v _ (Sends bytes) m is refl refl refl k.fits) (λ _ is. called v _ (Sends bytes) m is refl refl refl k.fits) refl
event_goes v (Reads count) m p sent k = called v (after v (Reads count)) (Reads count) m refl refl refl refl k.fits
event_goes v Closes m p sent k =
    cond_both (is_opening v.tcb.state) (ended (unoffered v)) (with_tcb (unoffered v) (record v.tcb { state = after_close v.tcb.state }))
    (λ (w : TcpValue). after v Closes ≡ w → Goes v Closes m)
    (λ _ is. called v _ Closes m is refl refl refl (record { flag = k.fits.flag; high = k.fits.high; payload = k.fits.payload }))
    (λ _ is. called v _ Closes m is refl refl refl (record { flag = k.fits.flag; high = k.fits.high; payload = k.fits.payload })) refl
event_goes v Aborts m p sent k =
    cond_both (is_time_wait v.tcb.state) (ended (unoffered v))
    (with_tcb (unoffered v) (record v.tcb { state = In.Closed; sender = record v.tcb.sender { reset_due = is_some v.tcb.names.pair } }))
    (λ (w : TcpValue). after v Aborts ≡ w → Goes v Aborts m)
    (λ _ is. called v _ Aborts m is refl refl refl (record { flag = k.fits.flag; high = k.fits.high; payload = k.fits.payload }))
    (λ _ is. called v _ Aborts m is refl refl refl (record { flag = k.fits.flag; high = k.fits.high; payload = k.fits.payload })) refl
event_goes v (Sets setting) m p sent k = called v (sets v setting) (Sets setting) m refl refl refl refl (set_fits v m setting k.fits)

led_once : (v : TcpValue) (m : Marks) (events : List Event) → IsInOrder (sending_of v) → IsTimedRight (timing_of v.tcb) → Marked v m → GoOnce v m events
led_once v m [] p t k = tt
led_once v m (it ∷ more) p t k =
    let goes = event_goes v it m p t.sent k in
    (goes.0, led_once (after v it) (marked v it m) more (event_order v it p) (event_right v it p t) goes.1)

pub goes_once : (capacity : ℕ) (queued : Ring ℕ) (events : List Event) → GoOnce (new_socket capacity queued) no_marks events
goes_once capacity queued events =
    led_once (new_socket capacity queued) no_marks events (new_order capacity queued) (record { timed = tt; sent = least _; listens = λ _. refl })
    (record { fits = none_fits (resending_of (new_socket capacity queued).tcb); over = λ _. (refl, refl) })
