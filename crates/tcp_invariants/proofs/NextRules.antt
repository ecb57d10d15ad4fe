-- SND.NXT stands where nothing is held, or at the end of what is queued, after which the FIN may be.
use Rattle.std.proofs.Common.{◌≡◌, ◌⊎◌, inl, inr, ⊎_elim, ℕ, zero, suc, ◌+◌, ◌-◌, ◌<◌, ◌≤◌, ◌==◌, ◌&&◌, nat_le, not, min, max, ℤ, Bool, true, false}
use Rattle.std.proofs.Common.{if◌then◌else◌, List, [], ◌∷◌, length, map, take, Option, Some, None, is_some, refl, sym, ap, ◌∙◌, subst, arith}
use Rattle.std.proofs.lemmas.Bool.{cond_both, eqb-true, leb-true, leb-false}
use Rattle.ip_wire.specs.IpRepr.{IpRepr}
use Rattle.ip_wire.specs.TcpHeader.{TcpHeader}
use Rattle.net_base.specs.Ring.{Ring, anchored, enqueued}
use Rattle.tcp_block.specs.Context.{ContextValue}
use Rattle.tcp_block.specs.BaseOffers.{Offered}
use Rattle.tcp_state.specs.Moments.{is_over, timeout_from}
use Rattle.tcp_state.specs.Scoreboard.{no_runs, lowered, reneges, after_ack, first_missing, lies_in}
use Rattle.tcp_state.specs.States.{is_closed, is_opening, is_time_wait, accepts_data, takes_writes, after_fin, after_close}
use Rattle.tcp_state.specs.declared.endpoints.FourTuple.{FourTuple}
use Rattle.tcp_state.specs.declared.offer.OfferKind.{OfferKind}
use Rattle.tcp_state.specs.declared.offer.OfferKind.TheVariants as Kind
use Rattle.tcp_state.specs.declared.offer.OpenOffer.{OpenOffer}
use Rattle.tcp_state.specs.declared.scoreboard.Run.{Run}
use Rattle.tcp_state.specs.declared.state.State.{State}
use Rattle.tcp_state.specs.declared.state.State.TheVariants as In
use Rattle.tcp_block.specs.Acknowledged.{una_risen, una_moved, is_partial, windowed, state_after_ack}
use Rattle.tcp_block.specs.Arrival.{arrives}
use Rattle.tcp_block.specs.TcbRules.{one_if}
use Rattle.tcp_block.specs.Calls.{listening, connected_by, four_tuple_for, sent_more}
use Rattle.tcp_block.specs.Isn.{number_for}
use Rattle.tcp_block.specs.LossRecovery.{probe_armed, probe_from, probes_losses, loss_lowered, loss_probed}
use Rattle.tcp_block.specs.Offers.{offer_of}
use Rattle.tcp_block.specs.Opening.{took_syn}
use Rattle.tcp_block.specs.Retries.{asked, one_more}
use Rattle.tcp_block.specs.Rules.{backed_off_now, next_offset, size_limit, payload_choice}
use Rattle.tcp_block.specs.Settled.{end_of, past_sacked, nxt_moved, timer_started, syn_was_sent, resent, probed, sent_as, sent_off, recorded}
use Rattle.tcp_block.specs.Timestamps.{tsecr_taken}
use Rattle.tcp_block.specs.Undo.{undo_sent}
use Rattle.tcp_block.specs.Value.{TcpValue, Arrived, with_tcb, unoffered, ended, new_socket, queued_in, room_of}
use Rattle.tcp_block.specs.declared.tcb.Tcb.{Tcb}
use Rattle.tcp_block.specs.declared.tcb.Loss.{Loss}
use Rattle.tcp_block.proofs.Undone.{undone_cases}
use Rattle.tcp_invariants.specs.Events.{Event, Setting, after, led, set as sets, is_past}
use Rattle.tcp_invariants.specs.Events.Event.{Comes, Asked, Listens, Connects, Sends, Reads, Closes, Aborts, Sets}
use Rattle.tcp_invariants.specs.Events.Setting.{Timeout, KeepAlive, AckDelay, Nagle, HopLimit, Timestamps, Paused, Retries, Congestion, MinRto, FineTimer}
use Rattle.tcp_invariants.specs.InOrder.{sending_of, IsInOrder}
use Rattle.tcp_invariants.specs.Losses.{AreWithin}
use Rattle.tcp_invariants.specs.Timing.{start_of}
use Rattle.tcp_invariants.specs.Unheld.{AreUnheld}
use Rattle.tcp_invariants.proofs.ApartRuns.{Board, AllNone, AllOut, beside, first_out, missing_out, missing_least, none_out, nothing_none, reneges_first}
use Rattle.tcp_invariants.proofs.ArrivalCases.{timed, by_arrival, Received, Opening, Content, Drawing, acked_open, heeded}
use Rattle.tcp_invariants.proofs.HoleRules.{Believes, believed_of, nothing_believed, event_on}
use Rattle.tcp_invariants.proofs.LossRules.{IsKnownRight, known_of, event_right as event_known}
use Rattle.tcp_invariants.proofs.OfferCases.{Rules, FirstRules, LastRules, by_rules, begun, probing}
use Rattle.tcp_invariants.proofs.OrderSteps.{clash, one_if_least}
use Rattle.tcp_invariants.proofs.OrderRules.{event_order, new_order, window_least}
use Rattle.tcp_invariants.proofs.SndMaxRules.{proceeds, Within, sent_of, event_within, state_before, freed_left}

-- WHERE SND.NXT STANDS

pub record Next : Type 0 where
  pub state : State
  pub syn : Bool
  pub flight : ℕ
  pub queued : ℕ
  pub runs : List Run

abbrev pub next_of : TcpValue → Next
next_of v = record {
  state = v.tcb.state;
  syn = v.tcb.sender.syn_unacked;
  flight = v.tcb.sender.flight_size;
  queued = queued_in v;
  runs = v.tcb.loss.board.runs;
}

-- so many bytes are queued, and the SYN
abbrev pub queue_end : Next → ℕ
queue_end n = one_if n.syn + n.queued

none_within : (snd_max : ℕ) (rs : List Run) → AllNone rs → AreWithin snd_max rs
none_within snd_max [] e = tt
none_within snd_max (r ∷ rs) e = (zero_within r.end snd_max e.0.1, none_within snd_max rs e.1) where
  zero_within : (n snd_max : ℕ) → n ≡ 0 → n ≤ snd_max
  zero_within n snd_max e = omega arith

abbrev pub Clear : Next → Type 0
Clear n = AllOut n.flight n.runs ⊎ ((queue_end n ≤ n.flight) × (proceeds n.state ≡ false))

through : (a b c : ℕ) → a ≤ b → b ≤ c → a ≤ c
through a b c e f = omega arith

least : (n : ℕ) → 0 ≤ n
least n = omega arith

snd_max_out : (snd_max : ℕ) (rs : List Run) → AreWithin snd_max rs → AllOut snd_max rs
snd_max_out snd_max [] w = tt
snd_max_out snd_max (r ∷ rs) w = (inr w.0, snd_max_out snd_max rs w.1)

missing_most : (snd_max : ℕ) (rs : List Run) (offset : ℕ) → AreWithin snd_max rs → first_missing rs offset ≤ max offset snd_max
missing_most snd_max [] offset w = own offset snd_max where
  own : (a b : ℕ) → a ≤ max a b
  own a b = omega arith
missing_most snd_max (r ∷ rs) offset w =
    cond_both (lies_in offset r) r.end offset (λ (n : ℕ). first_missing rs n ≤ max offset snd_max)
    (λ _. within r.end offset snd_max (first_missing rs r.end) w.0 (missing_most snd_max rs r.end w.1)) (λ _. missing_most snd_max rs offset w.1)
  where
    within : (end offset snd_max m : ℕ) → end ≤ snd_max → m ≤ max end snd_max → m ≤ max offset snd_max
    within end offset snd_max m e f = omega arith

-- past what is held, but no further than what was sent and is queued
module _ (runs : List Run) (board : Board runs) (snd_max : ℕ) (within : AreWithin snd_max runs) (syn : Bool) (queued : ℕ) (state : State)
    (sent : proceeds state ≡ true → snd_max ≤ one_if syn + queued) where
  abbrev all_queued : ℕ
  all_queued = one_if syn + queued

  abbrev Free : ℕ → Type 0
  Free offset = AllOut offset runs ⊎ ((all_queued ≤ offset) × (proceeds state ≡ false))

  beyond_queue : (offset : ℕ) → all_queued < snd_max → all_queued ≤ offset → Free offset
  beyond_queue offset e f = inr (f, at (proceeds state) refl) where
    round : {A : Type 0} → snd_max ≤ all_queued → A
    round g = absurd (omega (arith, e, g))

    at : (t : Bool) → proceeds state ≡ t → proceeds state ≡ false
    at true on = round (sent on)
    at false on = on

  reach : (end : ℕ) → Free (max end (min (first_missing runs end) (min snd_max all_queued)))
  reach end = at (nat_le m (min snd_max all_queued)) (nat_le m end) refl refl where
    m : ℕ
    m = first_missing runs end

    out : AllOut m runs
    out = missing_out runs board.fine board.gaps end

    is_m : (end m snd_max all_queued : ℕ) → end ≤ m → m ≤ min snd_max all_queued → max end (min m (min snd_max all_queued)) ≡ m
    is_m end m snd_max all_queued e f = omega arith

    is_end : (end m k : ℕ) → end ≤ m → m ≤ end → max end (min m k) ≡ m
    is_end end m k e f = omega arith

    over : (end m snd_max all_queued : ℕ) → min snd_max all_queued < m → end < m → m ≤ max end snd_max → all_queued < snd_max
    over end m snd_max all_queued e f g = omega arith

    above : (end m snd_max all_queued : ℕ) → min snd_max all_queued < m → end < m → m ≤ max end snd_max → all_queued ≤ max end (min m (min snd_max all_queued))
    above end m snd_max all_queued e f g = omega arith

    at : (s t : Bool) → nat_le m (min snd_max all_queued) ≡ s → nat_le m end ≡ t → Free (max end (min m (min snd_max all_queued)))
    at true t e f =
        inl (subst (λ (p : ℕ). AllOut p runs) (sym (is_m end m snd_max all_queued (missing_least runs end) (leb-true m (min snd_max all_queued) e))) out)
    at false true e f = inl (subst (λ (p : ℕ). AllOut p runs) (sym (is_end end m (min snd_max all_queued) (missing_least runs end) (leb-true m end f))) out)
    at false false e f =
        let most = missing_most snd_max runs end within in
        beyond_queue (max end (min m (min snd_max all_queued))) (over end m snd_max all_queued (leb-false m (min snd_max all_queued) e) (leb-false m end f) most)
        (above end m snd_max all_queued (leb-false m (min snd_max all_queued) e) (leb-false m end f) most)

  -- the further of two such offsets
  further : (a b : ℕ) → Free a → Free b → Free (max a b)
  further a b f g = at (nat_le a b) refl where
    second : (a b : ℕ) → a ≤ b → max a b ≡ b
    second a b e = omega arith

    first : (a b : ℕ) → b < a → max a b ≡ a
    first a b e = omega arith

    at : (t : Bool) → nat_le a b ≡ t → Free (max a b)
    at true e = subst Free (sym (second a b (leb-true a b e))) g
    at false e = subst Free (sym (first a b (leb-false a b e))) f

  -- SND.NXT moves after what is held there
  skipped : (flight : ℕ) → Free (if flight == 0 then 0 else max flight (min (first_missing runs flight) (min snd_max all_queued)))
  skipped flight =
      cond_both (flight == 0) 0 (max flight (min (first_missing runs flight) (min snd_max all_queued))) Free (λ _. inl (first_out runs board.fine))
      (λ _. reach flight)

  -- all that was sent of the send queue is in flight again
  all_sent : (flight : ℕ) → Free flight → Free (max flight (min snd_max all_queued))
  all_sent flight f = further flight (min snd_max all_queued) f (at (nat_le snd_max all_queued) refl) where
    is_snd_max : (snd_max all_queued : ℕ) → snd_max ≤ all_queued → min snd_max all_queued ≡ snd_max
    is_snd_max snd_max all_queued e = omega arith

    is_limit : (snd_max all_queued : ℕ) → all_queued < snd_max → all_queued ≤ min snd_max all_queued
    is_limit snd_max all_queued e = omega arith

    at : (t : Bool) → nat_le snd_max all_queued ≡ t → Free (min snd_max all_queued)
    at true e = inl (subst (λ (p : ℕ). AllOut p runs) (sym (is_snd_max snd_max all_queued (leb-true snd_max all_queued e))) (snd_max_out snd_max runs within))
    at false e = beyond_queue (min snd_max all_queued) (leb-false snd_max all_queued e) (is_limit snd_max all_queued (leb-false snd_max all_queued e))

-- SND.UNA RISES

out_lowered : (by offset : ℕ) (rs : List Run) → reneges rs by ≡ false → AllOut offset rs → AllOut (offset - by) (map (lowered by) rs)
out_lowered by offset [] e w = tt
out_lowered by offset (r ∷ rs) e w =
    let parts = reneges_first r rs by e in (
      ⊎_elim (λ below. ⊎_elim (λ past. inl (nearer offset r.start by below past)) (λ gone. inr (least_left offset r.end by gone)) (beside by r parts.0))
          (λ above. inr (both r.end offset by above)) w.0,
      out_lowered by offset rs parts.1 w.1,
    )
  where
    nearer : (offset start by : ℕ) → offset < start → by < start → offset - by < start - by
    nearer offset start by e f = omega arith

    least_left : (offset end by : ℕ) → end ≤ by → end - by ≤ offset - by
    least_left offset end by e = omega arith

    both : (a b by : ℕ) → a ≤ b → a - by ≤ b - by
    both a b by e = omega arith

out_after : (rs : List Run) (by offset : ℕ) → AllOut offset rs → AllOut (offset - by) (after_ack rs by)
out_after rs by offset w =
    cond_both (reneges rs by) no_runs (map (lowered by) rs) (AllOut (offset - by)) (λ _. none_out (offset - by) no_runs (nothing_none 32))
    (λ e. out_lowered by offset rs e w)

same_offset : (rs : List Run) (by offset : ℕ) → by ≡ 0 → AllOut offset rs → AllOut (offset - by) rs
same_offset rs by offset e w = subst (λ (p : ℕ). AllOut p rs) (sym (none offset by e)) w where
  none : (offset by : ℕ) → by ≡ 0 → offset - by ≡ offset
  none offset by e = omega arith

armed_runs : (b : Tcb) (l : Loss) (now : ℤ) (P : List Run → Type 0) → P l.board.runs → P (probe_armed b l now).board.runs
armed_runs b l now P h =
    cond_both (probes_losses b && not l.probed) (record l { probe_at = probe_from b now }) l (λ (x : Loss). P x.board.runs) (λ _. h) (λ _. h)

out_acked : (b : Tcb) (by queued : ℕ) (now : ℤ) → AllOut b.sender.flight_size b.loss.board.runs
    → AllOut (b.sender.flight_size - by) (una_moved b by queued now).loss.board.runs
out_acked b by queued now w =
    cond_both (by == 0) b.loss (probe_armed (una_risen b by queued now) (loss_lowered b.loss by (is_partial b by)) now)
    (λ (l : Loss). AllOut (b.sender.flight_size - by) l.board.runs)
    (λ none. same_offset b.loss.board.runs by b.sender.flight_size (eqb-true by 0 none) w)
    (λ _.
    armed_runs (una_risen b by queued now) (loss_lowered b.loss by (is_partial b by)) now (AllOut (b.sender.flight_size - by))
    (out_after b.loss.board.runs by b.sender.flight_size w))

-- what is queued after it ends as far before SND.NXT
end_acked : (syn : Bool) (flight queued by : ℕ) → one_if syn + queued ≤ flight
    → one_if (syn && (by == 0)) + (queued - min (by - one_if syn) queued) ≤ flight - by
end_acked syn flight queued by e = at (by == 0) refl where
  none : (s flight queued by : ℕ) → by ≡ 0 → s + queued ≤ flight → s + (queued - min (by - s) queued) ≤ flight - by
  none s flight queued by e f = omega arith

  some : (s flight queued by : ℕ) → s ≤ 1 → 1 ≤ by → s + queued ≤ flight → 0 + (queued - min (by - s) queued) ≤ flight - by
  some s flight queued by e f g = omega arith

  one : (n : ℕ) → (n == 0) ≡ false → 1 ≤ n
  one zero e = clash e
  one (suc n) e = omega arith

  same : (s : Bool) → (s && true) ≡ s
  same true = refl
  same false = refl

  never : (s : Bool) → (s && false) ≡ false
  never true = refl
  never false = refl

  at : (t : Bool) → (by == 0) ≡ t → one_if (syn && (by == 0)) + (queued - min (by - one_if syn) queued) ≤ flight - by
  at true is =
      subst (λ (s : Bool). one_if s + (queued - min (by - one_if syn) queued) ≤ flight - by) (sym (ap (λ (t : Bool). syn && t) is ∙ same syn))
      (none (one_if syn) flight queued by (eqb-true by 0 is) e)
  at false is =
      subst (λ (s : Bool). one_if s + (queued - min (by - one_if syn) queued) ≤ flight - by) (sym (ap (λ (t : Bool). syn && t) is ∙ never syn))
      (some (one_if syn) flight queued by (one_if_least syn) (one by is) e)

contrary : (a b : Bool) → (a ≡ true → b ≡ true) → b ≡ false → a ≡ false
contrary true b f e = clash (sym (f refl) ∙ e)
contrary false b f e = refl

-- another state, from which the user may write no sooner
moved_on : (n : Next) (state : State) → (proceeds state ≡ true → proceeds n.state ≡ true) → Clear n → Clear (record n { state = state })
moved_on n state keeps (inl out) = inl out
moved_on n state keeps (inr end) = inr (end.0, contrary (proceeds state) (proceeds n.state) keeps end.1)

-- A SEGMENT COMES

-- what is known of a socket besides
record Known (v : TcpValue) : Type 0 where
  board : Board v.tcb.loss.board.runs
  within : AreWithin v.tcb.sender.snd_max v.tcb.loss.board.runs
  sent : Within (sent_of v)

module _ (cx : ContextValue) (ip : IpRepr) (header : TcpHeader) (bytes : List ℕ) where
  abbrev ClearAfter : Arrived → Type 0
  ClearAfter a = Known a.socket → Clear (next_of a.socket)

  fin_keeps : (state : State) → accepts_data state ≡ true → proceeds (after_fin state) ≡ true → proceeds state ≡ true
  fin_keeps In.Established takes e = refl
  fin_keeps In.FinWait1 takes e = clash (sym e)
  fin_keeps In.FinWait2 takes e = clash (sym e)
  fin_keeps other takes e = clash (sym takes)

  abbrev InState : TcpValue → State → TcpValue
  InState x state = with_tcb x (record x.tcb { state = state })

  clear_content : (x : TcpValue)
      → ((state : State) → (proceeds state ≡ true → proceeds x.tcb.state ≡ true) → Known (InState x state) → Clear (next_of (InState x state)))
      → Content cx ip header bytes ClearAfter x
  clear_content x f = record {
    plain = (λ _ k. stays k.board k.within k.sent, λ k. stays k.board k.within k.sent);
    fin = λ _ takes. (λ _ k. ends takes k.board k.within k.sent, λ k. ends takes k.board k.within k.sent);
    ordered = λ _ _ _ _. (λ _ k. stays k.board k.within k.sent, λ k. stays k.board k.within k.sent);
    ordered_fin = λ _ _ _ takes. (λ _ k. ends takes k.board k.within k.sent, λ k. ends takes k.board k.within k.sent);
    early = λ _ _ _ _ k. stays k.board k.within k.sent;
  }
    where
      by : (state : State) → (proceeds state ≡ true → proceeds x.tcb.state ≡ true) → Board x.tcb.loss.board.runs
          → AreWithin x.tcb.sender.snd_max x.tcb.loss.board.runs → Within (sent_of (InState x state)) → Clear (next_of (InState x state))
      by state keeps board within sent = f state keeps (record { board = board; within = within; sent = sent })

      stays : Board x.tcb.loss.board.runs → AreWithin x.tcb.sender.snd_max x.tcb.loss.board.runs → Within (sent_of x) → Clear (next_of x)
      stays = by x.tcb.state (λ e. e)

      ends : accepts_data x.tcb.state ≡ true → Board x.tcb.loss.board.runs → AreWithin x.tcb.sender.snd_max x.tcb.loss.board.runs
          → Within (sent_of (InState x (after_fin x.tcb.state))) → Clear (next_of (InState x (after_fin x.tcb.state)))
      ends takes = by (after_fin x.tcb.state) (fin_keeps x.tcb.state takes)

  clear_drawing : (x : TcpValue) → Clear (next_of x) → Drawing cx ip header bytes ClearAfter x
  clear_drawing x c = record { answers = λ _ _. c; at_once = λ _. c; pauses = λ _. c }

  -- SND.NXT moves after what the segment's ranges name
  heeded_clear : (u : TcpValue) (by : ℕ) (b : Tcb) (state : State)
      → Known (InState (heeded cx.instant header (length bytes) u by b) state) → Clear (next_of (InState (heeded cx.instant header (length bytes) u by b) state))
  heeded_clear u by b state k =
      let x = heeded cx.instant header (length bytes) u by b in
      skipped x.tcb.loss.board.runs k.board x.tcb.sender.snd_max k.within x.tcb.sender.syn_unacked (queued_in x) state k.sent b.sender.flight_size

  clear_received : (u : TcpValue) → Known u → Clear (next_of u) → is_past u.tcb.state ≡ true → Received cx ip header bytes ClearAfter u
  clear_received u known c past = record {
    stays = λ _. c;
    refuses = λ _. c;
    draws = clear_drawing u c;
    falls = λ _ _ _ _. inl (none_out 0 no_runs (nothing_none 32));
    ends = λ _ _ _ _. moved_on (next_of u) In.Closed (λ e. clash (sym e)) c;
    closes = λ by _ _ _. moved_on (next_of (acked_open (timed cx.instant header u by) by cx.instant)) In.Closed (λ e. clash (sym e)) (risen by);
    taken = λ by _ _.
        let b = (acked_open (timed cx.instant header u by) by cx.instant).tcb in
        clear_content (heeded cx.instant header (length bytes) u by b) (λ state _. heeded_clear u by b state);
    taken_window = λ by _ _.
        let b = windowed (acked_open (timed cx.instant header u by) by cx.instant).tcb header in
        clear_content (heeded cx.instant header (length bytes) u by b) (λ state _. heeded_clear u by b state);
    news = λ by _ _. clear_drawing _ (risen by);
    outside = clear_drawing _ c;
    old = λ _. clear_content _ (λ state keeps _. moved_on (next_of u) state keeps c);
  }
    where
      heard : (by : ℕ) → Clear (next_of (timed cx.instant header u by))
      heard by =
          undone_cases u.tcb header by (queued_in u) (λ (b : Tcb). Clear (next_of (with_tcb u b))) c
          (λ _ _ _.
          all_sent u.tcb.loss.board.runs known.board u.tcb.sender.snd_max known.within u.tcb.sender.syn_unacked (queued_in u) u.tcb.state known.sent
          u.tcb.sender.flight_size c)

      risen : (by : ℕ) → Clear (next_of (acked_open (timed cx.instant header u by) by cx.instant))
      risen by =
          let x = timed cx.instant header u by in
          ⊎_elim (λ out. inl (out_acked x.tcb by (queued_in x) cx.instant out))
          (λ end.
          inr (
            subst (λ (n : ℕ). one_if (x.tcb.sender.syn_unacked && (by == 0)) + n ≤ x.tcb.sender.flight_size - by) (sym (freed_left x by cx.instant))
                (end_acked x.tcb.sender.syn_unacked x.tcb.sender.flight_size (queued_in x) by end.0),
            contrary (proceeds (state_after_ack x.tcb by (queued_in x))) (proceeds x.tcb.state) (state_before x by) end.1,
          ))
          (heard by)

  clear_opening : (u : TcpValue) → Known u → Clear (next_of u) → Opening cx ip header bytes ClearAfter u
  clear_opening u known c = record {
    opens = λ _ _ _. inl (first_out u.tcb.loss.board.runs known.board.fine);
    refuses = λ _. c;
    ends = λ _ _. moved_on (next_of u) In.Closed (λ e. clash (sym e)) c;
    connects = λ at _ _.
        ⊎_elim (λ out. inl (out_acked (tsecr_taken (took_syn u.tcb header) header 1 cx.instant) 1 0 cx.instant out))
        (λ end. clash (sym (ap proceeds at) ∙ end.1)) c;
    crosses = λ at _ _. moved_on (next_of u) In.SynReceived (λ _. ap proceeds at) c;
  }

  clear_arrival : (v : TcpValue) → Known v → Clear (next_of v) → ClearAfter (arrives cx v ip header bytes)
  clear_arrival v known c =
      by_arrival cx ip header bytes ClearAfter v (λ _. c)
      (λ _. clear_opening (unoffered v) (record { board = known.board; within = known.within; sent = known.sent }) c)
      (λ past. clear_received (unoffered v) (record { board = known.board; within = known.within; sent = known.sent }) c past)

-- IT IS ASKED

asked_clear : (v : TcpValue) (b : Tcb) (now : ℤ) → Clear (next_of (with_tcb v b)) → Clear (next_of (with_tcb v (asked b now)))
asked_clear v b now c =
    cond_both (is_over now b.timers.counts_from)
    (record b {
      sender = record b.sender { unanswered = one_more b.sender.unanswered };
      timers = record b.timers { counts_from = Some (timeout_from now b.round_trip) };
    })
    b (λ (x : Tcb). Clear (next_of (with_tcb v x))) (λ _. c) (λ _. c)

-- a segment goes that ends there
gone_clear : (v : TcpValue) → Known v → Clear (next_of v) → (c : Tcb) (l : Loss) (end : ℕ) (now : ℤ) → l.board.runs ≡ v.tcb.loss.board.runs
    → Clear (record (next_of v) { flight = max v.tcb.sender.flight_size (past_sacked v.tcb end (queued_in v)); runs = (probe_armed c l now).board.runs })
gone_clear v k clear c l end now same =
    armed_runs c l now
    (λ (rs : List Run). Clear (record (next_of v) { flight = max v.tcb.sender.flight_size (past_sacked v.tcb end (queued_in v)); runs = rs }))
    (subst (λ (rs : List Run). Clear (record (next_of v) { flight = max v.tcb.sender.flight_size (past_sacked v.tcb end (queued_in v)); runs = rs })) (sym same)
    (further v.tcb.loss.board.runs k.board v.tcb.sender.snd_max k.within v.tcb.sender.syn_unacked (queued_in v) v.tcb.state k.sent
    v.tcb.sender.flight_size (past_sacked v.tcb end (queued_in v)) clear
    (reach v.tcb.loss.board.runs k.board v.tcb.sender.snd_max k.within v.tcb.sender.syn_unacked (queued_in v) v.tcb.state k.sent end)))

-- SND.NXT is past the segment, and the retransmission timer runs
abbrev moved : Tcb → OpenOffer → ℕ → Tcb
moved b o queued = timer_started (nxt_moved b (end_of b o) queued o.instant) o.instant

abbrev marked : Tcb → OpenOffer → Loss
marked c o = record c.loss { undo = undo_sent c c.loss.undo o.instant }

sent_clear : (kind : OfferKind) (v : TcpValue) (o : OpenOffer) → Known v → Clear (next_of v)
    → Clear (next_of (with_tcb v (sent_as kind v.tcb o (queued_in v))))
sent_clear Kind.Reset v o k c = moved_on (next_of v) In.Closed (λ e. clash (sym e)) c
sent_clear Kind.Syn v o k c =
    let b = moved (syn_was_sent v.tcb o) o (queued_in v) in gone_clear v k c b (marked b o) (end_of v.tcb o) o.instant refl
sent_clear Kind.FastRetransmission v o k c =
    let b = moved (resent v.tcb (end_of v.tcb o)) o (queued_in v) in gone_clear v k c b (marked b o) (end_of v.tcb o) o.instant refl
sent_clear Kind.Payload v o k c = let b = moved v.tcb o (queued_in v) in gone_clear v k c b (marked b o) (end_of v.tcb o) o.instant refl
sent_clear Kind.Probe v o k c = asked_clear v (probed v.tcb (end_of v.tcb o) o.instant) o.instant c
sent_clear Kind.KeepAlive v o k c = asked_clear v v.tcb o.instant c
sent_clear other v o k c = c

settled_clear : (offered : Option OpenOffer) (x : TcpValue) → Known x → Clear (next_of x) → Clear (next_of (sent_off offered x))
settled_clear None x k c = c
settled_clear (Some o) x k c =
    sent_clear o.kind (with_tcb x (recorded x.tcb o (room_of x.received))) o (record { board = k.board; within = k.within; sent = k.sent }) c

module _ (cx : ContextValue) where
  abbrev ClearOffer : Offered TcpValue → Type 0
  ClearOffer o = Clear (next_of o.socket)

  clear_last : (pair : FourTuple) (x : TcpValue) → Clear (next_of x) → LastRules cx pair ClearOffer x
  clear_last pair x c =
      record { probe = λ _ _. c; window_limited = λ _ _. c; ack = λ _. c; update = λ _ _. c; keep_alive = λ _ _. c; quiet = λ _. c }

  clear_first : (pair : FourTuple) (w : TcpValue) → Clear (next_of w) → FirstRules cx pair ClearOffer w
  clear_first pair w c = record { syn = λ _. c; again = λ _ _. c; payload = λ _ _. c; last = λ _. clear_last pair (probing cx w) c }

  clear_rules : (v : TcpValue) → Known v → Clear (next_of v) → Rules cx v ClearOffer
  clear_rules v k c = record {
    nobody = λ _. c;
    time_wait = λ _. moved_on (next_of v) In.Closed (λ e. clash (sym e)) c;
    timeout = λ _. moved_on (next_of v) In.Closed (λ e. clash (sym e)) c;
    closed = λ _. c;
    reset = λ _ _ _. c;
    falls = λ _ _ _. inl (none_out 0 no_runs (nothing_none 32));
    over = λ _ _ _. moved_on (next_of v) In.Closed (λ e. clash (sym e)) c;
    backs = λ pair _ _ _.
        clear_first pair (with_tcb (unoffered v) (backed_off_now (begun cx v))) (inl (first_out v.tcb.loss.board.runs k.board.fine));
    probes = λ pair _ _ _ _. clear_first pair (with_tcb (unoffered v) (loss_probed (begun cx v))) c;
    goes = λ pair _ _ _. clear_first pair (with_tcb (unoffered v) (begun cx v)) c;
  }

  clear_offer : (v : TcpValue) → Known v → Clear (next_of v) → ClearOffer (offer_of cx v)
  clear_offer v k c = by_rules cx v ClearOffer (clear_rules v k c)

-- EVENTS

-- all that is known
record Whole (v : TcpValue) : Type 0 where
  order : IsInOrder (sending_of v)
  believes : Believes (believed_of v.tcb)
  held : IsKnownRight (known_of v.tcb)
  sent : Within (sent_of v)

known_in : (v : TcpValue) → Whole v → Known v
known_in v w = record { board = w.believes.board; within = w.held.within; sent = w.sent }

whole_after : (v : TcpValue) (it : Event) → Whole v → Whole (after v it)
whole_after v it w = record {
  order = event_order v it w.order;
  believes = event_on v it w.believes;
  held = event_known v it w.order w.held;
  sent = event_within v it w.order w.sent;
}

connected_clear : (v : TcpValue) (names : Option FourTuple) (number : ℕ) → Clear (next_of v) → Clear (next_of (connected_by v names number))
connected_clear v None number c = c
connected_clear v (Some pair) number c = inl (none_out 0 no_runs (nothing_none 32))

set_clear : (v : TcpValue) (setting : Setting) → Clear (next_of v) → Clear (next_of (sets v setting))
set_clear v (Timeout duration) c = c
set_clear v (KeepAlive interval) c = c
set_clear v (AckDelay duration) c = c
set_clear v (Nagle enabled) c = c
set_clear v (HopLimit all_queued) c = c
set_clear v (Timestamps generator) c = c
set_clear v (Paused paused) c = c
set_clear v (Retries limit) c = c
set_clear v (MinRto duration) c = c
set_clear v (FineTimer fine) c = c
set_clear v (Congestion control) c = c

event_clear : (v : TcpValue) (it : Event) → Whole v → Clear (next_of v) → Clear (next_of (after v it))
event_clear v (Comes cx ip header bytes) w c = clear_arrival cx ip header bytes v (known_in v w) c (known_in _ (whole_after v (Comes cx ip header bytes) w))
event_clear v (Asked cx true) w c =
    settled_clear (offer_of cx v).socket.offered (unoffered (offer_of cx v).socket)
    (let k = known_in _ (whole_after v (Asked cx false) w) in record { board = k.board; within = k.within; sent = k.sent })
    (clear_offer cx v (known_in v w) c)
event_clear v (Asked cx false) w c = clear_offer cx v (known_in v w) c
event_clear v (Listens endpoint) w c =
    cond_both (is_closed v.tcb.state && not (endpoint.port == 0)) (listening v endpoint) (unoffered v) (λ (x : TcpValue). Clear (next_of x))
    (λ _. inl (none_out 0 no_runs (nothing_none 32))) (λ _. c)
event_clear v (Connects cx remote local) w c =
    cond_both (is_closed v.tcb.state) (connected_by v (four_tuple_for cx remote local) (number_for cx (four_tuple_for cx remote local))) (unoffered v)
    (λ (x : TcpValue). Clear (next_of x))
    (λ _. connected_clear v (four_tuple_for cx remote local) (number_for cx (four_tuple_for cx remote local)) c) (λ _. c)
event_clear v (Sends bytes) w c =
    cond_both (takes_writes v.tcb.state) (sent_more v (enqueued (anchored v.queued) (take (min (length bytes) (length v.queued.free)) bytes))) (unoffered v)
    (λ (x : TcpValue). Clear (next_of x))
    (λ writes. ⊎_elim (λ out. inl out) (λ end. clash (sym (writing v.tcb.state writes) ∙ end.1)) c) (λ _. c)
  where
    writing : (state : State) → takes_writes state ≡ true → proceeds state ≡ true
    writing In.Established e = refl
    writing In.CloseWait e = refl
    writing other e = clash (sym e)
event_clear v (Reads count) w c = c
event_clear v Closes w c =
    cond_both (is_opening v.tcb.state) (ended (unoffered v)) (with_tcb (unoffered v) (record v.tcb { state = after_close v.tcb.state }))
    (λ (x : TcpValue). Clear (next_of x)) (λ _. moved_on (next_of v) In.Closed (λ e. clash (sym e)) c)
    (λ _. moved_on (next_of v) (after_close v.tcb.state) (closing v.tcb.state) c)
  where
    closing : (state : State) → proceeds (after_close state) ≡ true → proceeds state ≡ true
    closing In.Listen e = refl
    closing In.SynSent e = refl
    closing In.SynReceived e = refl
    closing In.Established e = refl
    closing In.CloseWait e = refl
    closing other e = e
event_clear v Aborts w c =
    cond_both (is_time_wait v.tcb.state) (ended (unoffered v))
    (with_tcb (unoffered v) (record v.tcb { state = In.Closed; sender = record v.tcb.sender { reset_due = is_some v.tcb.names.pair } }))
    (λ (x : TcpValue). Clear (next_of x)) (λ _. moved_on (next_of v) In.Closed (λ e. clash (sym e)) c)
    (λ _. moved_on (next_of v) In.Closed (λ e. clash (sym e)) c)
event_clear v (Sets setting) w c = set_clear v setting c

led_clear : (v : TcpValue) (events : List Event) → Whole v → Clear (next_of v) → Whole (led v events) × Clear (next_of (led v events))
led_clear v [] w c = (w, c)
led_clear v (it ∷ more) w c = led_clear (after v it) more (whole_after v it w) (event_clear v it w c)

new_clear : (capacity : ℕ) (queued : Ring ℕ) (events : List Event)
    → Whole (led (new_socket capacity queued) events) × Clear (next_of (led (new_socket capacity queued) events))
new_clear capacity queued events =
    led_clear (new_socket capacity queued) events
    (record {
      order = new_order capacity queued;
      believes = nothing_believed;
      held = record { within = within_none 0; listens = λ _. refl };
      sent = λ e. clash (sym e);
    })
    (inl (none_out 0 no_runs (nothing_none 32)))
  where
    within_none : (snd_max : ℕ) → AreWithin snd_max no_runs
    within_none snd_max = none_within snd_max no_runs (nothing_none 32)

-- TEXT

first_unheld : (offset : ℕ) (rs : List Run) → AllOut offset rs → AreUnheld offset 1 rs
first_unheld offset [] w = tt
first_unheld offset (r ∷ rs) w = (⊎_elim (λ below. inl (next offset r.start below)) (λ above. inr above) w.0, first_unheld offset rs w.1) where
  next : (offset start : ℕ) → offset < start → offset + 1 ≤ start
  next offset start e = omega arith

abbrev is_payload : OfferKind → Bool
is_payload Kind.Payload = true
is_payload other = false

module _ (cx : ContextValue) (v : TcpValue) (w : Whole v) (c : Clear (next_of v)) (no_syn : v.tcb.sender.syn_unacked ≡ false) where
  abbrev Begins : Offered TcpValue → Type 0
  Begins o =
      (a : OpenOffer) → o.socket.offered ≡ Some a → is_payload a.kind ≡ true → 1 ≤ a.len → AreUnheld (start_of o.socket.tcb a) 1 o.socket.tcb.loss.board.runs

  one_offer : (a b : OpenOffer) → Some a ≡ Some b → a ≡ b
  one_offer a b e = cc

  another : {A : Type 0} (a b : OpenOffer) → Some a ≡ Some b → is_payload a.kind ≡ false → is_payload b.kind ≡ true → A
  another a b e never is = clash (sym is ∙ sym (ap (λ (o : OpenOffer). is_payload o.kind) (one_offer a b e)) ∙ never)

  nothing : {A : Type 0} (a : OpenOffer) → None ≡ Some a → A
  nothing a e = absurd (cc)

  -- from SND.NXT on
  payload_begins : (x : TcpValue) (len : ℕ) → x.tcb.sender.syn_unacked ≡ false → Clear (next_of x) → len ≤ queued_in x - next_offset x.tcb → 1 ≤ len
      → AreUnheld (one_if x.tcb.sender.syn_unacked + next_offset x.tcb) 1 x.tcb.loss.board.runs
  payload_begins x len syn clear fits some =
      ⊎_elim
      (λ out.
      subst (λ (n : ℕ). AreUnheld n 1 x.tcb.loss.board.runs) (sym (at x.tcb.sender.flight_size (one_if x.tcb.sender.syn_unacked) (ap one_if syn)))
      (first_unheld x.tcb.sender.flight_size x.tcb.loss.board.runs out))
      (λ end. none x.tcb.sender.flight_size (one_if x.tcb.sender.syn_unacked) (queued_in x) len (ap one_if syn) end.0 fits some) clear
    where
      at : (flight s : ℕ) → s ≡ 0 → s + (flight - s) ≡ flight
      at flight s e = omega arith

      none : {A : Type 0} (flight s queued len : ℕ) → s ≡ 0 → s + queued ≤ flight → len ≤ queued - (flight - s) → 1 ≤ len → A
      none flight s queued len e f g h = absurd (omega (arith, e, f, g, h))

  payload_least : (x : TcpValue) (pair : FourTuple)
      → (payload_choice x.tcb pair.addresses cx.ip_mtu x.queued).len ≤ queued_in x - next_offset x.tcb
  payload_least x pair =
      lower _ (size_limit x.tcb pair.addresses cx.ip_mtu) (queued_in x - next_offset x.tcb)
      (window_least x.tcb (min (size_limit x.tcb pair.addresses cx.ip_mtu) (queued_in x - next_offset x.tcb)))
    where
      lower : (a m k : ℕ) → a ≤ min m k → a ≤ k
      lower a m k e = omega arith

  begins_last : (pair : FourTuple) (x : TcpValue) → x.offered ≡ None → x.tcb.sender.syn_unacked ≡ false → Clear (next_of x)
      → LastRules cx pair Begins x
  begins_last pair x none syn clear = record {
    probe = λ _ _ a e is. another _ a e refl is;
    window_limited = λ _ _ a e is.
        subst (λ (o : OpenOffer). 1 ≤ o.len → AreUnheld (start_of x.tcb o) 1 x.tcb.loss.board.runs) (one_offer _ a e)
        (payload_begins x _ syn clear (payload_least x pair));
    ack = λ _ a e is. another _ a e refl is;
    update = λ _ _ a e is. another _ a e refl is;
    keep_alive = λ _ _ a e is. another _ a e refl is;
    quiet = λ _ a e is. nothing a (sym none ∙ e);
  }

  begins_first : (pair : FourTuple) (x : TcpValue) → x.offered ≡ None → x.tcb.sender.syn_unacked ≡ false → Clear (next_of x)
      → FirstRules cx pair Begins x
  begins_first pair x none syn clear = record {
    syn = λ _ a e is. another _ a e refl is;
    again = λ _ _ a e is. another _ a e refl is;
    payload = λ _ _ a e is.
        subst (λ (o : OpenOffer). 1 ≤ o.len → AreUnheld (start_of x.tcb o) 1 x.tcb.loss.board.runs) (one_offer _ a e)
        (payload_begins x _ syn clear (payload_least x pair));
    last = λ _. begins_last pair (probing cx x) none syn clear;
  }

  begins_rules : Rules cx v Begins
  begins_rules = record {
    nobody = λ _ a e is. nothing a e;
    time_wait = λ _ a e is. nothing a e;
    timeout = λ _ a e is. nothing a e;
    closed = λ _ a e is. nothing a e;
    reset = λ _ _ _ a e is. another _ a e refl is;
    falls = λ _ _ _ a e is. nothing a e;
    over = λ _ _ _ a e is. nothing a e;
    backs = λ pair _ _ _.
        begins_first pair (with_tcb (unoffered v) (backed_off_now (begun cx v))) refl no_syn (inl (first_out v.tcb.loss.board.runs w.believes.board.fine));
    probes = λ pair _ _ _ _. begins_first pair (with_tcb (unoffered v) (loss_probed (begun cx v))) refl no_syn c;
    goes = λ pair _ _ _. begins_first pair (with_tcb (unoffered v) (begun cx v)) refl no_syn c;
  }

  begins_offer : Begins (offer_of cx v)
  begins_offer = by_rules cx v Begins begins_rules

pub payload_isnt_held : (capacity : ℕ) (queued : Ring ℕ) (events : List Event) (cx : ContextValue) (o : OpenOffer)
    → (led (new_socket capacity queued) events).tcb.sender.syn_unacked ≡ false
    → (offer_of cx (led (new_socket capacity queued) events)).socket.offered ≡ Some o → o.kind ≡ Kind.Payload → 1 ≤ o.len
    → AreUnheld (start_of (offer_of cx (led (new_socket capacity queued) events)).socket.tcb o) 1
    (offer_of cx (led (new_socket capacity queued) events)).socket.tcb.loss.board.runs
payload_isnt_held capacity queued events cx o no_syn offered kind =
    let all = new_clear capacity queued events in
    begins_offer cx (led (new_socket capacity queued) events) all.0 all.1 no_syn o offered (ap is_payload kind)
