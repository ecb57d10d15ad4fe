-- The congestion window and the threshold keep to their bounds, and the control that runs is the one that is set.
use Rattle.std.proofs.Common.{◌≡◌, ◌⊎◌, inl, inr, ℕ, ◌+◌, ◌*◌, ◌/◌, ◌^◌, ◌<◌, ◌≤◌, ◌==◌, ◌&&◌, ◌||◌, nat_lt, not, min, max, ℤ, Bool, true, false}
use Rattle.std.proofs.Common.{if◌then◌else◌, List, [], ◌∷◌, length, take, Option, Some, None, is_some, refl, sym, ap, ◌∙◌, subst, arith}
use Rattle.std.specs.Prelude.{IfSome}
use Rattle.std.proofs.lemmas.Bool.{cond_both}
use Rattle.ip_wire.specs.IpRepr.{IpRepr}
use Rattle.ip_wire.specs.TcpHeader.{TcpHeader}
use Rattle.net_base.specs.Ring.{Ring, anchored, enqueued}
use Rattle.tcp_block.specs.Context.{ContextValue}
use Rattle.tcp_block.specs.BaseOffers.{Offered}
use Rattle.tcp_state.specs.Moments.{is_due, is_over, timeout_from}
use Rattle.tcp_state.specs.Reno as reno
use Rattle.tcp_state.specs.Reno.{RenoValue}
use Rattle.tcp_state.specs.States.{is_closed, is_listening, is_opening, is_answering, is_time_wait, may_send_data, accepts_data, takes_writes}
use Rattle.tcp_state.specs.States.{after_ack, after_ack_of_fin}
use Rattle.tcp_state.specs.States.{after_fin, after_close}
use Rattle.tcp_state.specs.declared.endpoints.FourTuple.{FourTuple}
use Rattle.tcp_state.specs.declared.offer.OfferKind.{OfferKind}
use Rattle.tcp_state.specs.declared.offer.OfferKind.TheVariants as Kind
use Rattle.tcp_state.specs.declared.offer.OpenOffer.{OpenOffer}
use Rattle.tcp_state.specs.declared.scoreboard.Run.{Run}
use Rattle.tcp_state.specs.Scoreboard.{held}
use Rattle.tcp_state.specs.declared.state.State.{State}
use Rattle.tcp_state.specs.declared.state.State.TheVariants as In
use Rattle.tcp_block.specs.Acknowledged.{acks_fin, counted, acks_local_syn, acks_in_recovery, begins_recovery, duplicates_after, freed_by, is_partial}
use Rattle.tcp_block.specs.Acknowledged.{partly_after, ranges_taken}
use Rattle.tcp_block.specs.Acknowledged.{recovery_after, reno_after, reno_counted, srtt_after, una_moved, una_risen, windowed, state_after_ack}
use Rattle.tcp_block.specs.Arrival.{arrives}
use Rattle.tcp_block.specs.TcbRules.{initial_window}
use Rattle.tcp_block.specs.Calls.{listening, connected_by, four_tuple_for, sent_more}
use Rattle.tcp_block.specs.Isn.{number_for}
use Rattle.tcp_block.specs.LossRecovery.{all_noted, heard_more, is_lost_again, loss_lowered, loss_probed, probe_armed, probe_from, probes_losses, probes_tail}
use Rattle.tcp_block.specs.LossRecovery.{ranges_noted, with_board, loss_deadline, loss_probe_deadline}
use Rattle.tcp_block.specs.Offers.{offer_of}
use Rattle.tcp_block.specs.Opening.{paired, send_mss, took_syn}
use Rattle.tcp_block.specs.Retries.{asked, one_more}
use Rattle.tcp_block.specs.Rules.{backed_off_now}
use Rattle.tcp_block.specs.Settled.{end_of, nxt_moved, probed, recorded, resent, sent_as, sent_off, syn_was_sent, timer_started, was_sent}
use Rattle.tcp_block.specs.Timestamps.{tsecr_taken, tsval_taken}
use Rattle.tcp_block.specs.Undo.{undo_begun, undo_marked, undo_sent, window_kept}
use Rattle.tcp_block.specs.Undone.{undone}
use Rattle.tcp_block.specs.Validation.{grown_if_used, is_used, periods_ended, data_sent}
use Rattle.tcp_block.specs.Value.{TcpValue, Arrived, with_tcb, unoffered, ended, new_socket, queued_in, room_of}
use Rattle.tcp_block.specs.declared.tcb.Tcb.{Tcb}
use Rattle.tcp_block.specs.declared.tcb.CongestionControl.{CongestionControl}
use Rattle.tcp_block.specs.declared.tcb.CongestionControl.TheVariants as Avoids
use Rattle.tcp_block.specs.declared.tcb.Loss.{Loss}
use Rattle.tcp_block.specs.declared.tcb.Undo.{Undo}
use Rattle.tcp_block.proofs.Undone.{undone_by, undone_cases}
use Rattle.tcp_invariants.specs.Events.{Event, Setting, after, led, set as sets, is_past}
use Rattle.tcp_invariants.specs.Events.Event.{Comes, Asked, Listens, Connects, Sends, Reads, Closes, Aborts, Sets}
use Rattle.tcp_invariants.specs.Events.Setting.{Timeout, KeepAlive, AckDelay, Nagle, HopLimit, Timestamps, Paused, Retries, Congestion, MinRto, FineTimer}
use Rattle.tcp_invariants.specs.InOrder.{sending_of, IsInOrder}
use Rattle.tcp_invariants.specs.Windows.{runs_cubic}
use Rattle.tcp_invariants.proofs.ArrivalCases.{timed, by_arrival, Received, Opening, Content, Drawing, acked_open, heeded}
use Rattle.tcp_invariants.proofs.CongestionRules.{unnamed}
use Rattle.tcp_invariants.proofs.OfferCases.{Rules, FirstRules, LastRules, by_rules, begun, probing}
use Rattle.tcp_invariants.proofs.OrderSteps.{clash}
use Rattle.tcp_invariants.proofs.OrderRules.{event_order, new_order}
use Rattle.tcp_invariants.proofs.WindowSteps.{Fair, fair_initial, fair_named, fair_started, fair_reduced, fair_timed_out, fair_partly, fair_recovered}
use Rattle.tcp_invariants.proofs.WindowSteps.{fair_counted, fair_acknowledged, fair_preserved, fair_lapsed, reduced_mss}

-- BLOCKS

record Windows : Type 0 where
  state : State
  took : Bool  -- the remote's SYN
  syn : Bool
  control : CongestionControl
  reno : RenoValue
  undo : Option Undo

abbrev windows_of : Tcb → Windows
windows_of b =
    record {
      state = b.state;
      took = b.receiver.took_syn;
      syn = b.sender.syn_unacked;
      control = b.settings.congestion_control;
      reno = b.reno;
      undo = b.loss.undo;
    }

-- before the remote's SYN came
abbrev begins : State → Bool
begins state = is_listening state || is_opening state

abbrev KeptFair : Bool → CongestionControl → ℕ → Option Undo → Type 0
KeptFair syn control mss undo = IfSome undo (λ u. Fair (not syn) (runs_cubic control) mss u.reno)

record AreFair (w : Windows) : Type 0 where
  reno : Fair (not w.syn) (runs_cubic w.control) w.reno.mss w.reno
  undo : KeptFair w.syn w.control w.reno.mss w.undo
  initial : begins w.state ≡ true → (w.reno.cwnd ≤ 1_073_741_824) × ((w.reno.ssthresh ≡ 1_073_741_824) × ((w.undo ≡ None) × (w.took ≡ false)))

abbrev FairIn : Tcb → Type 0
FairIn b = AreFair (windows_of b)

-- with nothing before it
fair_begun : (state : State) (syn : Bool) (control : CongestionControl)
    → AreFair (record { state = state; took = false; syn = syn; control = control; reno = initial_window control; undo = None })
fair_begun state syn control = record { reno = fair_initial control (not syn); undo = tt; initial = λ _. (small, (refl, (refl, refl))) } where
  small : 2048 ≤ 1_073_741_824
  small = omega arith

later : (w : Windows) → begins w.state ≡ false → Fair (not w.syn) (runs_cubic w.control) w.reno.mss w.reno
    → KeptFair w.syn w.control w.reno.mss w.undo → AreFair w
later w not r u = record { reno = r; undo = u; initial = λ e. clash (sym e ∙ not) }

undone_fair : (b : Tcb) (header : TcpHeader) (by queued : ℕ) → FairIn b → begins b.state ≡ false → FairIn (undone b header by queued)
undone_fair b header by queued w on =
    undone_cases b header by queued FairIn w
    (λ u some _.
    let kept = subst (KeptFair b.sender.syn_unacked b.settings.congestion_control b.reno.mss) some w.undo in
    later (windows_of (undone_by u b queued)) on
    (record { least = kept.least; most = kept.most; two = kept.two; snd_max = kept.snd_max; runs = kept.runs }) w.undo)

undo_fair : (b : Tcb) → FairIn b → KeptFair b.sender.syn_unacked b.settings.congestion_control b.reno.mss (undo_begun b)
undo_fair b w =
    cond_both (b.reno.recovers || b.reno.timed_out) b.loss.undo (if b.loss.resent == 0 then window_kept b else None)
    (KeptFair b.sender.syn_unacked b.settings.congestion_control b.reno.mss) (λ _. w.undo)
    (λ _.
    cond_both (b.loss.resent == 0) (window_kept b) None (KeptFair b.sender.syn_unacked b.settings.congestion_control b.reno.mss) (λ _. w.reno) (λ _. tt))

armed_undo : (b : Tcb) (l : Loss) (now : ℤ) → (probe_armed b l now).undo ≡ l.undo
armed_undo b l now =
    cond_both (probes_losses b && not l.probed) (record l { probe_at = probe_from b now }) l (λ (x : Loss). x.undo ≡ l.undo) (λ _. refl) (λ _. refl)

ranges_undo : (b : Tcb) (header : TcpHeader) (now : ℤ) → (ranges_noted b header now).undo ≡ b.loss.undo
ranges_undo b header now =
    cond_both b.peer.sack (heard_more b runs now) b.loss (λ (l : Loss). l.undo ≡ b.loss.undo)
    (λ _.
    cond_both (nat_lt (held b.loss.board.runs) (held runs))
    (probe_armed b (record b.loss { board = record { runs = runs }; probes = false; probed = false }) now)
    (with_board b.loss runs) (λ (l : Loss). l.undo ≡ b.loss.undo)
    (λ _. armed_undo b (record b.loss { board = record { runs = runs }; probes = false; probed = false }) now) (λ _. refl))
    (λ _. refl)
  where
    runs : List Run
    runs = all_noted b b.loss.board.runs header.options.sack_ranges

-- the SYN is acknowledged, or was before, or isn't yet
whole_on : (syn : Bool) (by : ℕ) (with_cubic : Bool) (mss : ℕ) (r : RenoValue) → (syn && not (by == 0)) ≡ false
    → Fair (not syn) with_cubic mss r → Fair (not (syn && (by == 0))) with_cubic mss r
whole_on true by with_cubic mss r acks f = at (by == 0) acks where
  at : (t : Bool) → not t ≡ false → Fair (not t) with_cubic mss r
  at true e = f
  at false e = clash e
whole_on false by with_cubic mss r acks f = f

abbrev AckedFair : Tcb → ℕ → RenoValue → Type 0
AckedFair b by r = Fair (not (b.sender.syn_unacked && (by == 0))) (runs_cubic b.settings.congestion_control) b.reno.mss r

acked_reno_fair : (b : Tcb) (by queued : ℕ) (now : ℤ) → Fair (not b.sender.syn_unacked) (runs_cubic b.settings.congestion_control) b.reno.mss b.reno
    → AckedFair b by (reno_after b by queued now)
acked_reno_fair b by queued now f =
    let grown = grown_if_used b (freed_by b by queued) now (srtt_after b by now) in
    cond_both (acks_local_syn b by) (reno.started b.reno b.sender.syn_lost)
    (if acks_in_recovery b by then recovery_after b by queued else grown) (AckedFair b by)
    (λ _. begun_fair)
    (λ acks.
    whole_on b.sender.syn_unacked by (runs_cubic b.settings.congestion_control) b.reno.mss
    (if acks_in_recovery b by then recovery_after b by queued else grown) acks
    (cond_both (acks_in_recovery b by) (recovery_after b by queued) grown Still
    (λ _.
    cond_both (is_partial b by) (partly_after b by queued) (reno.recovered b.reno) Still
    (λ _.
    cond_both b.peer.sack b.reno (reno.partly b.reno (freed_by b by queued)) Still (λ _. f)
    (λ _. fair_partly (not b.sender.syn_unacked) (runs_cubic b.settings.congestion_control) b.reno f (freed_by b by queued)))
    (λ _. fair_recovered (not b.sender.syn_unacked) (runs_cubic b.settings.congestion_control) b.reno f))
    (λ _.
    cond_both (is_used b) (reno.acknowledged b.reno (freed_by b by queued) now (srtt_after b by now)) (reno.preserved b.reno (freed_by b by queued)) Still
    (λ _.
    fair_acknowledged (not b.sender.syn_unacked) (runs_cubic b.settings.congestion_control) b.reno f (freed_by b by queued) now (srtt_after b by now))
    (λ _. fair_preserved (not b.sender.syn_unacked) (runs_cubic b.settings.congestion_control) b.reno f (freed_by b by queued)))))
  where
    Still : RenoValue → Type 0
    Still x = Fair (not b.sender.syn_unacked) (runs_cubic b.settings.congestion_control) b.reno.mss x

    begun_fair : AckedFair b by (reno.started b.reno b.sender.syn_lost)
    begun_fair =
        let g = fair_started b.reno b.sender.syn_lost (not b.sender.syn_unacked) (runs_cubic b.settings.congestion_control) f in
        record { least = λ _. g.least refl; most = g.most; two = g.two; snd_max = g.snd_max; runs = g.runs }

mss_after : (b : Tcb) (by queued : ℕ) (now : ℤ) → (reno_after b by queued now).mss ≡ b.reno.mss
mss_after b by queued now =
    let grown = grown_if_used b (freed_by b by queued) now (srtt_after b by now) in
    cond_both (acks_local_syn b by) (reno.started b.reno b.sender.syn_lost) (if acks_in_recovery b by then recovery_after b by queued else grown) Same
    (λ _. refl)
    (λ _.
    cond_both (acks_in_recovery b by) (recovery_after b by queued) grown Same
    (λ _.
    cond_both (is_partial b by) (partly_after b by queued) (reno.recovered b.reno) Same
    (λ _. cond_both b.peer.sack b.reno (reno.partly b.reno (freed_by b by queued)) Same (λ _. refl) (λ _. refl)) (λ _. refl))
    (λ _.
    cond_both (is_used b) (reno.acknowledged b.reno (freed_by b by queued) now (srtt_after b by now)) (reno.preserved b.reno (freed_by b by queued)) Same
    (λ _.
    cond_both (freed_by b by queued == 0) b.reno
    (record b.reno {
      cwnd = reno.widened b.reno (freed_by b by queued) now (srtt_after b by now);
      timed_out = false;
      cubic = reno.counted b.reno (freed_by b by queued) now;
    })
    Same (λ _. refl) (λ _. refl))
    (λ _.
    cond_both (freed_by b by queued == 0) b.reno (record b.reno { timed_out = false; cubic = reno.stopped b.reno.cubic }) Same (λ _. refl) (λ _. refl))))
  where
    Same : RenoValue → Type 0
    Same r = r.mss ≡ b.reno.mss

-- after an acknowledgement, in a state past SYN-SENT
acked_fair : (b : Tcb) (state : State) (by queued : ℕ) (now : ℤ)
    → Fair (not b.sender.syn_unacked) (runs_cubic b.settings.congestion_control) b.reno.mss b.reno
    → KeptFair b.sender.syn_unacked b.settings.congestion_control b.reno.mss b.loss.undo → begins state ≡ false
    → AreFair (record {
      state = state;
      took = b.receiver.took_syn;
      syn = b.sender.syn_unacked && (by == 0);
      control = b.settings.congestion_control;
      reno = reno_after b by queued now;
      undo = (una_moved b by queued now).loss.undo;
    })
acked_fair b state by queued now f k on =
    later _ on
    (subst (λ (n : ℕ). Fair (not (b.sender.syn_unacked && (by == 0))) (runs_cubic b.settings.congestion_control) n (reno_after b by queued now))
    (sym (mss_after b by queued now)) (acked_reno_fair b by queued now f))
    (subst (λ (n : ℕ). KeptFair (b.sender.syn_unacked && (by == 0)) b.settings.congestion_control n (una_moved b by queued now).loss.undo)
    (sym (mss_after b by queued now))
    (cond_both (by == 0) b.loss (probe_armed (una_risen b by queued now) (loss_lowered b.loss by (is_partial b by)) now)
    (λ (l : Loss). KeptFair (b.sender.syn_unacked && (by == 0)) b.settings.congestion_control b.reno.mss l.undo)
    (λ none. stays (by == 0) none b.loss.undo k)
    (λ _.
    subst (KeptFair (b.sender.syn_unacked && (by == 0)) b.settings.congestion_control b.reno.mss)
    (sym (armed_undo (una_risen b by queued now) (loss_lowered b.loss by (is_partial b by)) now)) tt)))
  where
    stays : (t : Bool) → t ≡ true → (o : Option Undo) → KeptFair b.sender.syn_unacked b.settings.congestion_control b.reno.mss o
        → KeptFair (b.sender.syn_unacked && t) b.settings.congestion_control b.reno.mss o
    stays true e o k = subst (λ (s : Bool). KeptFair s b.settings.congestion_control b.reno.mss o) (sym (same b.sender.syn_unacked)) k where
      same : (s : Bool) → (s && true) ≡ s
      same true = refl
      same false = refl
    stays false e o k = clash (sym e)

-- A SEGMENT COMES

after_begins : (state : State) → is_past state ≡ true → (begins (after_ack state) ≡ false) × (begins (after_ack_of_fin state) ≡ false)
after_begins In.Closed e = clash (sym e)
after_begins In.Listen e = clash (sym e)
after_begins In.SynSent e = clash (sym e)
after_begins In.SynReceived e = (refl, refl)
after_begins In.FinWait1 e = (refl, refl)
after_begins In.Closing e = (refl, refl)
after_begins In.LastAck e = (refl, refl)
after_begins other e = (refl, refl)

past_begins : (state : State) → is_past state ≡ true → begins state ≡ false
past_begins In.Listen e = clash (sym e)
past_begins In.SynSent e = clash (sym e)
past_begins other e = refl

-- what a count and the losses that it tells leave
counted_fair : (b : Tcb) (count : ℕ) (now : ℤ) → FairIn b → begins b.state ≡ false → FairIn (counted b count now)
counted_fair b count now w on =
    let c = runs_cubic b.settings.congestion_control in
    later _ on
    (subst
    (λ (n : ℕ). Fair (not b.sender.syn_unacked) c n
    (reno_counted b.reno b.peer.sack count b.sender.flight_size (begins_recovery b count) (is_lost_again b)))
    (sym (counted_mss b.reno b.peer.sack (begins_recovery b count) (is_lost_again b) count b.sender.flight_size))
    (fair_counted (not b.sender.syn_unacked) c b.reno w.reno b.peer.sack (begins_recovery b count) (is_lost_again b) count b.sender.flight_size))
    (subst (λ (n : ℕ). KeptFair b.sender.syn_unacked b.settings.congestion_control n (counted b count now).loss.undo)
    (sym (counted_mss b.reno b.peer.sack (begins_recovery b count) (is_lost_again b) count b.sender.flight_size))
    (cond_both (begins_recovery b count) (undo_begun b) b.loss.undo (KeptFair b.sender.syn_unacked b.settings.congestion_control b.reno.mss)
    (λ _. undo_fair b w) (λ _. w.undo)))
  where
    counted_mss : (r : RenoValue) (sack begins again : Bool) (count flight : ℕ) → (reno_counted r sack count flight begins again).mss ≡ r.mss
    counted_mss r sack begins again count flight =
        cond_both begins (if sack then reno.reduced r flight else reno.lost r flight)
        (if again then reno.reduced r flight else if not (count == 0) && not sack then reno.inflated r else r) Same
        (λ _. cond_both sack (reno.reduced r flight) (reno.lost r flight) Same (λ _. reduces) (λ _. loses))
        (λ _.
        cond_both again (reno.reduced r flight) (if not (count == 0) && not sack then reno.inflated r else r) Same (λ _. reduces)
        (λ _. cond_both (not (count == 0) && not sack) (reno.inflated r) r Same (λ _. inflates) (λ _. refl)))
      where
        Same : RenoValue → Type 0
        Same x = x.mss ≡ r.mss

        reduces : (reno.reduced r flight).mss ≡ r.mss
        reduces = reduced_mss r flight

        loses : (reno.lost r flight).mss ≡ r.mss
        loses =
            let lower = reno.lowered r (min flight r.cwnd) in
            cond_both r.timed_out r
            (record r { ssthresh = lower; cwnd = min reno.most (lower + 3 * r.mss); recovers = true; cubic = reno.loss_at r.cubic r.cwnd }) Same (λ _. refl)
            (λ _. refl)

        inflates : (reno.inflated r).mss ≡ r.mss
        inflates = cond_both r.recovers (record r { cwnd = min reno.most (r.cwnd + r.mss) }) r Same (λ _. refl) (λ _. refl)

ranged_fair : (b : Tcb) (header : TcpHeader) (now : ℤ) → FairIn b → begins b.state ≡ false → FairIn (ranges_taken b header now)
ranged_fair b header now w on =
    later _ on w.reno (subst (KeptFair b.sender.syn_unacked b.settings.congestion_control b.reno.mss) (sym (ranges_undo b header now)) w.undo)

module _ (cx : ContextValue) (ip : IpRepr) (header : TcpHeader) (bytes : List ℕ) where
  abbrev FairAfter : Arrived → Type 0
  FairAfter a = FairIn a.socket.tcb

  fair_content : (x : TcpValue) → FairIn x.tcb → begins x.tcb.state ≡ false → Content cx ip header bytes FairAfter x
  fair_content x w on = record {
    plain = (λ _. w, w);
    fin = λ _ takes. (λ _. later _ (fin_begins x.tcb.state takes) w.reno w.undo, later _ (fin_begins x.tcb.state takes) w.reno w.undo);
    ordered = λ _ _ _ _. (λ _. later _ on w.reno w.undo, later _ on w.reno w.undo);
    ordered_fin = λ _ _ _ takes. (λ _. later _ (fin_begins x.tcb.state takes) w.reno w.undo, later _ (fin_begins x.tcb.state takes) w.reno w.undo);
    early = λ _ _ _ _. later _ on w.reno w.undo;
  }
    where
      fin_begins : (state : State) → accepts_data state ≡ true → begins (after_fin state) ≡ false
      fin_begins In.Established e = refl
      fin_begins In.FinWait1 e = refl
      fin_begins In.FinWait2 e = refl
      fin_begins other e = clash (sym e)

  fair_drawing : (x : TcpValue) → FairIn x.tcb → Drawing cx ip header bytes FairAfter x
  fair_drawing x w = record {
    answers = λ _. record { reno = w.reno; undo = w.undo; initial = w.initial };
    at_once = record { reno = w.reno; undo = w.undo; initial = w.initial };
    pauses = w;
  }

  fair_received : (u : TcpValue) → FairIn u.tcb → is_past u.tcb.state ≡ true → Received cx ip header bytes FairAfter u
  fair_received u w past = record {
    stays = w;
    refuses = w;
    draws = fair_drawing u w;
    falls = λ _ _ _. fair_begun In.Listen false u.tcb.settings.congestion_control;
    ends = λ _ _ _. later _ refl w.reno w.undo;
    closes = λ by _ _. let h = heard_fair by in acked_fair (timed cx.instant header u by).tcb In.Closed by (queued_in u) cx.instant h.reno h.undo refl;
    taken = λ by _ _.
        let b = (acked_open (timed cx.instant header u by) by cx.instant).tcb in
        fair_content (heeded cx.instant header (length bytes) u by b) (heeded_fair by b (risen by) (on_then by)) (on_then by);
    taken_window = λ by _ _.
        let b = windowed (acked_open (timed cx.instant header u by) by cx.instant).tcb header in
        let r = risen by in
        fair_content (heeded cx.instant header (length bytes) u by b) (heeded_fair by b (record { reno = r.reno; undo = r.undo; initial = r.initial }) (on_then by))
        (on_then by);
    news = λ by _ _. let r = risen by in fair_drawing _ (record { reno = r.reno; undo = r.undo; initial = r.initial });
    outside = fair_drawing _ (record { reno = w.reno; undo = w.undo; initial = w.initial });
    old = λ _. fair_content _ (record { reno = w.reno; undo = w.undo; initial = w.initial }) (past_begins u.tcb.state past);
  }
    where
      on_then : (by : ℕ) → begins (state_after_ack u.tcb by (queued_in u)) ≡ false
      on_then by =
          let both = after_begins u.tcb.state past in
          cond_both (acks_fin u.tcb by (queued_in u)) (after_ack_of_fin u.tcb.state) (after_ack u.tcb.state) (λ (s : State). begins s ≡ false)
          (λ _. both.1) (λ _. both.0)

      heard_fair : (by : ℕ) → FairIn (timed cx.instant header u by).tcb
      heard_fair by =
          let h = undone_fair u.tcb header by (queued_in u) w (past_begins u.tcb.state past) in
          record { reno = h.reno; undo = h.undo; initial = h.initial }

      risen : (by : ℕ) → FairIn (acked_open (timed cx.instant header u by) by cx.instant).tcb
      risen by =
          let h = heard_fair by in
          let r =
          acked_fair (timed cx.instant header u by).tcb (state_after_ack u.tcb by (queued_in u)) by (queued_in u) cx.instant h.reno h.undo (on_then by) in
          record { reno = r.reno; undo = r.undo; initial = r.initial }

      heeded_fair : (by : ℕ) (b : Tcb) → FairIn b → begins b.state ≡ false → FairIn (heeded cx.instant header (length bytes) u by b).tcb
      heeded_fair by b f on =
          let c = ranges_taken (tsval_taken b header cx.instant) header cx.instant in
          let g = ranged_fair (tsval_taken b header cx.instant) header cx.instant (record { reno = f.reno; undo = f.undo; initial = f.initial }) on in
          let k = counted_fair c (duplicates_after u.tcb header (length bytes) by) cx.instant g on in
          record { reno = k.reno; undo = k.undo; initial = k.initial }

  -- before its SYN is acknowledged
  unacked_yet : (u : TcpValue) → IsInOrder (sending_of u) → u.tcb.state ≡ In.SynSent → u.tcb.sender.syn_unacked ≡ true
  unacked_yet u p at = by_syn u.tcb.sender.syn_unacked refl where
    by_syn : (syn : Bool) → u.tcb.sender.syn_unacked ≡ syn → syn ≡ true
    by_syn true e = refl
    by_syn false e = clash (sym (ap (λ (s : State). is_opening s || is_answering s) at) ∙ p.opened e)

  -- the remote's SYN names the size of a segment
  named_fair : (b : Tcb) (syn : Bool) → syn ≡ true → FairIn b → begins b.state ≡ true
      → Fair (not syn) (runs_cubic b.settings.congestion_control) (send_mss b.names.pair header.options.max_seg_size) (took_syn b header).reno
  named_fair b syn unacked w early =
      let start = w.initial early in
      record {
        least = λ e. clash (sym e ∙ ap not unacked);
        most = below b.reno.cwnd (send_mss b.names.pair header.options.max_seg_size) start.0;
        two = two b.reno.ssthresh (send_mss b.names.pair header.options.max_seg_size) start.1.0;
        snd_max = snd_max b.reno.ssthresh (send_mss b.names.pair header.options.max_seg_size) start.1.0;
        runs = w.reno.runs;
      }
    where
      below : (n mss : ℕ) → n ≤ 1_073_741_824 → n ≤ max 1_073_741_824 (10 * mss)
      below n mss e = omega arith

      two : (n mss : ℕ) → n ≡ 1_073_741_824 → min 1_073_741_824 (2 * mss) ≤ n
      two n mss e = omega arith

      snd_max : (n mss : ℕ) → n ≡ 1_073_741_824 → n ≤ max 1_073_741_824 (10 * mss)
      snd_max n mss e = omega arith

  no_undo : (o : Option Undo) (syn : Bool) (control : CongestionControl) (mss : ℕ) → o ≡ None → KeptFair syn control mss o
  no_undo o syn control mss e = subst (KeptFair syn control mss) (sym e) tt

  fair_opening : (u : TcpValue) → IsInOrder (sending_of u) → FairIn u.tcb → Opening cx ip header bytes FairAfter u
  fair_opening u p w = record {
    opens = λ at _.
        let early = ap begins at in
        later _ refl (named_fair (paired u.tcb ip header) true refl w early) (no_undo u.tcb.loss.undo true u.tcb.settings.congestion_control _ (w.initial early).1.1.0);
    refuses = w;
    ends = λ _. later _ refl w.reno w.undo;
    connects = λ at _.
        let early = ap begins at in
        let b = tsecr_taken (took_syn u.tcb header) header 1 cx.instant in
        let named = named_fair u.tcb u.tcb.sender.syn_unacked (unacked_yet u p at) w early in
        let kept = no_undo u.tcb.loss.undo u.tcb.sender.syn_unacked u.tcb.settings.congestion_control (send_mss u.tcb.names.pair header.options.max_seg_size)
        (w.initial early).1.1.0 in
        let it = acked_tcb b 1 0 cx.instant named kept in
        record { reno = it.reno; undo = it.undo; initial = λ e. clash (sym e) };
    crosses = λ at _.
        let early = ap begins at in
        later _ refl (named_fair u.tcb u.tcb.sender.syn_unacked (unacked_yet u p at) w early)
        (no_undo u.tcb.loss.undo u.tcb.sender.syn_unacked u.tcb.settings.congestion_control _ (w.initial early).1.1.0);
  }
    where
      -- in whatever state
      acked_tcb : (b : Tcb) (by queued : ℕ) (now : ℤ) → Fair (not b.sender.syn_unacked) (runs_cubic b.settings.congestion_control) b.reno.mss b.reno
          → KeptFair b.sender.syn_unacked b.settings.congestion_control b.reno.mss b.loss.undo
          → AreFair (record {
            state = In.Established;
            took = b.receiver.took_syn;
            syn = b.sender.syn_unacked && (by == 0);
            control = b.settings.congestion_control;
            reno = reno_after b by queued now;
            undo = (una_moved b by queued now).loss.undo;
          })
      acked_tcb b by queued now f k = acked_fair b In.Established by queued now f k refl

  fair_arrival : (v : TcpValue) → IsInOrder (sending_of v) → FairIn v.tcb → FairAfter (arrives cx v ip header bytes)
  fair_arrival v p w =
      by_arrival cx ip header bytes FairAfter v w (λ _. fair_opening (unoffered v) p w) (λ past. fair_received (unoffered v) w past)

-- IT IS ASKED

asked_fair : (b : Tcb) (now : ℤ) → FairIn b → FairIn (asked b now)
asked_fair b now w =
    cond_both (is_over now b.timers.counts_from)
    (record b {
      sender = record b.sender { unanswered = one_more b.sender.unanswered };
      timers = record b.timers { counts_from = Some (timeout_from now b.round_trip) };
    })
    b FairIn (λ _. record { reno = w.reno; undo = w.undo; initial = w.initial }) (λ _. w)

sent_undo : (b : Tcb) (o : Option Undo) (now : ℤ) (syn : Bool) (control : CongestionControl) (mss : ℕ) → KeptFair syn control mss o
    → KeptFair syn control mss (undo_sent b o now)
sent_undo b None now syn control mss k = tt
sent_undo b (Some u) now syn control mss k =
    cond_both (is_some u.tsval) u (undo_marked b u now) (λ (x : Undo). Fair (not syn) (runs_cubic control) mss x.reno) (λ _. k) (λ _. k)

none_sent : (b : Tcb) (o : Option Undo) (now : ℤ) → o ≡ None → undo_sent b o now ≡ None
none_sent b o now e = ap (λ (x : Option Undo). undo_sent b x now) e

went_fair : (b : Tcb) (o : OpenOffer) (queued : ℕ) → FairIn b → FairIn (was_sent b o queued)
went_fair b o queued w = record {
  reno = w.reno;
  undo =
      subst (KeptFair b.sender.syn_unacked b.settings.congestion_control b.reno.mss)
      (sym (armed_undo c (record c.loss { undo = undo_sent c c.loss.undo o.instant }) o.instant))
      (sent_undo c b.loss.undo o.instant b.sender.syn_unacked b.settings.congestion_control b.reno.mss w.undo);
  initial = λ e.
      let f = w.initial e in
      (f.0, (f.1.0, (armed_undo c (record c.loss { undo = undo_sent c c.loss.undo o.instant }) o.instant ∙ none_sent c b.loss.undo o.instant f.1.1.0, f.1.1.1)));
}
  where
    c : Tcb
    c = timer_started (nxt_moved b (end_of b o) queued o.instant) o.instant

payload_fair : (b : Tcb) (snd_max : ℕ) (now : ℤ) → FairIn b → FairIn (data_sent b snd_max now)
payload_fair b snd_max now w = record {
  reno = fair_lapsed (not b.sender.syn_unacked) (runs_cubic b.settings.congestion_control) b.reno w.reno (periods_ended b snd_max now);
  undo = w.undo;
  initial = λ e.
      let f = w.initial e in (
        small (periods_ended b snd_max now) b.reno.cwnd (reno.first_window b.reno.mss) f.0,
        (high (periods_ended b snd_max now) b.reno.ssthresh b.reno.cwnd f.1.0 f.0, f.1.1),
      );
}
  where
    fall : (n m : ℕ) → n ≤ 1_073_741_824 → min n m ≤ 1_073_741_824
    fall n m e = omega arith

    small : (periods n first : ℕ) → n ≤ 1_073_741_824 → (if periods == 0 then n else min n (max (n / 2 ^ periods) first)) ≤ 1_073_741_824
    small periods n first e =
        cond_both (periods == 0) n (min n (max (n / 2 ^ periods) first)) (λ (x : ℕ). x ≤ 1_073_741_824) (λ _. e) (λ _. fall n (max (n / 2 ^ periods) first) e)

    part : (n cwnd : ℕ) → n ≡ 1_073_741_824 → cwnd ≤ 1_073_741_824 → max n (3 * cwnd / 4) ≡ 1_073_741_824
    part n cwnd e g = omega arith

    high : (periods n cwnd : ℕ) → n ≡ 1_073_741_824 → cwnd ≤ 1_073_741_824 → (if periods == 0 then n else max n (3 * cwnd / 4)) ≡ 1_073_741_824
    high periods n cwnd e g =
        cond_both (periods == 0) n (max n (3 * cwnd / 4)) (λ (x : ℕ). x ≡ 1_073_741_824) (λ _. e) (λ _. part n cwnd e g)

sent_fair : (kind : OfferKind) (b : Tcb) (o : OpenOffer) (queued : ℕ) → FairIn b → FairIn (sent_as kind b o queued)
sent_fair Kind.Reset b o queued w = later _ refl w.reno w.undo
sent_fair Kind.Syn b o queued w = went_fair (syn_was_sent b o) o queued (record { reno = w.reno; undo = w.undo; initial = w.initial })
sent_fair Kind.FastRetransmission b o queued w =
    went_fair (resent b (end_of b o)) o queued (record { reno = w.reno; undo = w.undo; initial = w.initial })
sent_fair Kind.Payload b o queued w = payload_fair (was_sent b o queued) b.sender.snd_max o.instant (went_fair b o queued w)
sent_fair Kind.Probe b o queued w =
    asked_fair (probed b (end_of b o) o.instant) o.instant (record { reno = w.reno; undo = w.undo; initial = w.initial })
sent_fair Kind.KeepAlive b o queued w = asked_fair b o.instant w
sent_fair other b o queued w = w

-- the timer runs out
backed_by : (state : State) (took syn : Bool) (control : CongestionControl) (r : RenoValue) (undo begun : Option Undo) (flight : ℕ)
    → AreFair (record { state = state; took = took; syn = syn; control = control; reno = r; undo = undo }) → KeptFair syn control r.mss begun
    → (begins state ≡ false) ⊎ (syn ≡ true)
    → AreFair (record {
      state = state;
      took = took;
      syn = syn;
      control = control;
      reno = if syn then r else reno.timed_out r flight;
      undo = if syn then None else begun;
    })
backed_by state took true control r undo begun flight w k on =
    record { reno = w.reno; undo = tt; initial = λ e. let f = w.initial e in (f.0, (f.1.0, (refl, f.1.1.1))) }
backed_by state took false control r undo begun flight w k (inl on) = later _ on (fair_timed_out true (runs_cubic control) r w.reno flight) k
backed_by state took false control r undo begun flight w k (inr syn) = clash (sym syn)

backed_fair : (b : Tcb) → FairIn b → (begins b.state ≡ false) ⊎ (b.sender.syn_unacked ≡ true) → FairIn (backed_off_now b)
backed_fair b w on =
    backed_by b.state b.receiver.took_syn b.sender.syn_unacked b.settings.congestion_control b.reno b.loss.undo (undo_begun b) b.sender.flight_size w
    (undo_fair b w) on

-- a loss probe is due
probed_fair : (b : Tcb) → FairIn b → begins b.state ≡ false → FairIn (loss_probed b)
probed_fair b w on =
    later (windows_of (loss_probed b)) on
    (subst (λ (n : ℕ). Fair (not b.sender.syn_unacked) (runs_cubic b.settings.congestion_control) n (loss_probed b).reno) (sym same)
    (cond_both (probes_tail b) b.reno (reno.reduced b.reno b.sender.flight_size)
    (Fair (not b.sender.syn_unacked) (runs_cubic b.settings.congestion_control) b.reno.mss) (λ _. w.reno)
    (λ _. fair_reduced (not b.sender.syn_unacked) (runs_cubic b.settings.congestion_control) b.reno w.reno b.sender.flight_size)))
    (subst (λ (n : ℕ). KeptFair b.sender.syn_unacked b.settings.congestion_control n (loss_probed b).loss.undo) (sym same)
    (cond_both (not (probes_tail b) && (b.sender.recover == 0)) (undo_begun b) b.loss.undo
    (KeptFair b.sender.syn_unacked b.settings.congestion_control b.reno.mss) (λ _. undo_fair b w) (λ _. w.undo)))
  where
    same : (loss_probed b).reno.mss ≡ b.reno.mss
    same =
        cond_both (probes_tail b) b.reno (reno.reduced b.reno b.sender.flight_size) (λ (x : RenoValue). x.mss ≡ b.reno.mss) (λ _. refl)
        (λ _. reduced_mss b.reno b.sender.flight_size)

module _ (cx : ContextValue) where
  abbrev FairOffer : Offered TcpValue → Type 0
  FairOffer o = FairIn o.socket.tcb

  fair_last : (pair : FourTuple) (x : TcpValue) → FairIn x.tcb → LastRules cx pair FairOffer x
  fair_last pair x w =
      record { probe = λ _ _. w; window_limited = λ _ _. w; ack = λ _. w; update = λ _ _. w; keep_alive = λ _ _. w; quiet = λ _. w }

  fair_first : (pair : FourTuple) (x : TcpValue) → FairIn x.tcb → FirstRules cx pair FairOffer x
  fair_first pair x w = record {
    syn = λ _. w;
    again = λ _ _. w;
    payload = λ _ _. w;
    last = λ _. fair_last pair (probing cx x) (record { reno = w.reno; undo = w.undo; initial = w.initial });
  }

  fair_rules : (v : TcpValue) → IsInOrder (sending_of v) → FairIn v.tcb → Rules cx v FairOffer
  fair_rules v p w = record {
    nobody = λ _. w;
    time_wait = λ _. later _ refl w.reno w.undo;
    timeout = λ _. later _ refl w.reno w.undo;
    closed = λ _. w;
    reset = λ _ _ _. w;
    falls = λ _ _ _. fair_begun In.Listen false v.tcb.settings.congestion_control;
    over = λ _ _ _. later _ refl w.reno w.undo;
    backs = λ pair named _ _. fair_first pair (with_tcb (unoffered v) (backed_off_now (begun cx v))) (backed_fair (begun cx v) same (waits pair named));
    probes = λ pair _ _ _ due. fair_first pair (with_tcb (unoffered v) (loss_probed (begun cx v))) (probed_fair (begun cx v) same (payload_begins due));
    goes = λ pair _ _ _. fair_first pair (with_tcb (unoffered v) (begun cx v)) same;
  }
    where
      same : FairIn (begun cx v)
      same = record { reno = w.reno; undo = w.undo; initial = w.initial }

      -- in SYN-SENT the SYN isn't acknowledged
      waits : (pair : FourTuple) → v.tcb.names.pair ≡ Some pair → (begins v.tcb.state ≡ false) ⊎ (v.tcb.sender.syn_unacked ≡ true)
      waits pair named = by (is_opening v.tcb.state) v.tcb.sender.syn_unacked refl refl where
        by : (opening syn : Bool) → is_opening v.tcb.state ≡ opening → v.tcb.sender.syn_unacked ≡ syn
            → (begins v.tcb.state ≡ false) ⊎ (v.tcb.sender.syn_unacked ≡ true)
        by false syn e g = inl (ap (λ (t : Bool). t || is_opening v.tcb.state) (unnamed v pair p named) ∙ e)
        by true true e g = inr g
        by true false e g = clash (sym (ap (λ (t : Bool). t || is_answering v.tcb.state) e) ∙ p.opened g)

      payload_begins : is_due cx.instant (loss_probe_deadline v.tcb) ≡ true → begins v.tcb.state ≡ false
      payload_begins due = late (may_send_data v.tcb.state) refl where
        rest : Bool
        rest = not v.tcb.sender.syn_unacked && not (v.tcb.sender.flight_size == 0)

        sending : (state : State) → may_send_data state ≡ true → begins state ≡ false
        sending In.Listen e = clash (sym e)
        sending In.SynSent e = clash (sym e)
        sending other e = refl

        late : (t : Bool) → may_send_data v.tcb.state ≡ t → begins v.tcb.state ≡ false
        late true e = sending v.tcb.state e
        late false e =
            clash (sym due
            ∙ ap
            (λ (t : Bool). is_due cx.instant
            (if t && (not v.tcb.sender.syn_unacked && not (v.tcb.sender.flight_size == 0)) then loss_deadline v.tcb.loss else None)) e)

  fair_offer : (v : TcpValue) → IsInOrder (sending_of v) → FairIn v.tcb → FairOffer (offer_of cx v)
  fair_offer v p w = by_rules cx v FairOffer (fair_rules v p w)

settled_fair : (offered : Option OpenOffer) (x : TcpValue) → FairIn x.tcb → FairIn (sent_off offered x).tcb
settled_fair None x w = w
settled_fair (Some o) x w =
    sent_fair o.kind (recorded x.tcb o (room_of x.received)) o (queued_in x) (record { reno = w.reno; undo = w.undo; initial = w.initial })

-- EVENTS

connected_fair : (v : TcpValue) (names : Option FourTuple) (number : ℕ) → FairIn v.tcb → FairIn (connected_by v names number).tcb
connected_fair v None number w = w
connected_fair v (Some pair) number w = fair_begun In.SynSent true v.tcb.settings.congestion_control

-- congestion control is set
set_by : (b : Tcb) (control : CongestionControl) (took syn : Bool) → (begins b.state ≡ true → took ≡ false)
    → AreFair (record {
      state = b.state;
      took = took;
      syn = syn;
      control = control;
      reno =
          if not took then initial_window control
          else if syn then reno.with_mss (initial_window control) b.peer.mss
          else reno.started (reno.with_mss (initial_window control) b.peer.mss) false;
      undo = None;
    })
set_by b control false syn early = fair_begun b.state syn control
set_by b control true syn early = later _ (on (begins b.state) refl) (at syn) tt where
  on : (t : Bool) → begins b.state ≡ t → begins b.state ≡ false
  on true e = clash (early e)
  on false e = e

  at : (syn : Bool) → Fair (not syn) (runs_cubic control)
      (if syn then reno.with_mss (initial_window control) b.peer.mss else reno.started (reno.with_mss (initial_window control) b.peer.mss) false).mss
      (if syn then reno.with_mss (initial_window control) b.peer.mss else reno.started (reno.with_mss (initial_window control) b.peer.mss) false)
  at true = fair_named control b.peer.mss
  at false = fair_started (reno.with_mss (initial_window control) b.peer.mss) false false (runs_cubic control) (fair_named control b.peer.mss)

set_fair : (v : TcpValue) (setting : Setting) → FairIn v.tcb → FairIn (sets v setting).tcb
set_fair v (Timeout duration) w = record { reno = w.reno; undo = w.undo; initial = w.initial }
set_fair v (KeepAlive interval) w = record { reno = w.reno; undo = w.undo; initial = w.initial }
set_fair v (AckDelay duration) w = record { reno = w.reno; undo = w.undo; initial = w.initial }
set_fair v (Nagle enabled) w = record { reno = w.reno; undo = w.undo; initial = w.initial }
set_fair v (HopLimit limit) w = record { reno = w.reno; undo = w.undo; initial = w.initial }
set_fair v (Timestamps generator) w = record { reno = w.reno; undo = w.undo; initial = w.initial }
set_fair v (Paused paused) w = record { reno = w.reno; undo = w.undo; initial = w.initial }
set_fair v (Retries limit) w = record { reno = w.reno; undo = w.undo; initial = w.initial }
set_fair v (MinRto duration) w = record { reno = w.reno; undo = w.undo; initial = w.initial }
set_fair v (FineTimer fine) w = record { reno = w.reno; undo = w.undo; initial = w.initial }
set_fair v (Congestion control) w =
    set_by v.tcb control v.tcb.receiver.took_syn v.tcb.sender.syn_unacked (λ e. (w.initial e).1.1.1)

event_fair : (v : TcpValue) (it : Event) → IsInOrder (sending_of v) → FairIn v.tcb → FairIn (after v it).tcb
event_fair v (Comes cx ip header bytes) p w = fair_arrival cx ip header bytes v p w
event_fair v (Asked cx true) p w = settled_fair (offer_of cx v).socket.offered (unoffered (offer_of cx v).socket) (fair_offer cx v p w)
event_fair v (Asked cx false) p w = fair_offer cx v p w
event_fair v (Listens endpoint) p w =
    cond_both (is_closed v.tcb.state && not (endpoint.port == 0)) (listening v endpoint) (unoffered v) (λ (x : TcpValue). FairIn x.tcb)
    (λ _. fair_begun In.Listen false v.tcb.settings.congestion_control) (λ _. w)
event_fair v (Connects cx remote local) p w =
    cond_both (is_closed v.tcb.state) (connected_by v (four_tuple_for cx remote local) (number_for cx (four_tuple_for cx remote local))) (unoffered v)
    (λ (x : TcpValue). FairIn x.tcb)
    (λ _. connected_fair v (four_tuple_for cx remote local) (number_for cx (four_tuple_for cx remote local)) w) (λ _. w)
event_fair v (Sends bytes) p w =
    cond_both (takes_writes v.tcb.state) (sent_more v (enqueued (anchored v.queued) (take (min (length bytes) (length v.queued.free)) bytes))) (unoffered v)
    (λ (x : TcpValue). FairIn x.tcb) (λ _. w) (λ _. w)
event_fair v (Reads count) p w = w
event_fair v Closes p w =
    cond_both (is_opening v.tcb.state) (ended (unoffered v)) (with_tcb (unoffered v) (record v.tcb { state = after_close v.tcb.state }))
    (λ (x : TcpValue). FairIn x.tcb) (λ _. later _ refl w.reno w.undo)
    (λ on. record { reno = w.reno; undo = w.undo; initial = λ e. w.initial (closing v.tcb.state e) })
  where
    closing : (state : State) → begins (after_close state) ≡ true → begins state ≡ true
    closing In.Listen e = refl
    closing In.SynSent e = refl
    closing In.SynReceived e = clash (sym e)
    closing In.Established e = clash (sym e)
    closing In.CloseWait e = clash (sym e)
    closing other e = e
event_fair v Aborts p w =
    cond_both (is_time_wait v.tcb.state) (ended (unoffered v))
    (with_tcb (unoffered v) (record v.tcb { state = In.Closed; sender = record v.tcb.sender { reset_due = is_some v.tcb.names.pair } }))
    (λ (x : TcpValue). FairIn x.tcb) (λ _. later _ refl w.reno w.undo) (λ _. later _ refl w.reno w.undo)
event_fair v (Sets setting) p w = set_fair v setting w

led_fair : (v : TcpValue) (events : List Event) → IsInOrder (sending_of v) → FairIn v.tcb → FairIn (led v events).tcb
led_fair v [] p w = w
led_fair v (it ∷ more) p w = led_fair (after v it) more (event_order v it p) (event_fair v it p w)

new_fair : (capacity : ℕ) (queued : Ring ℕ) (events : List Event) → FairIn (led (new_socket capacity queued) events).tcb
new_fair capacity queued events =
    led_fair (new_socket capacity queued) events (new_order capacity queued) (fair_begun In.Closed false Avoids.Reno)

-- where segments are as 16 bits name them
small_least : (mss n : ℕ) → mss < 2 ^ 16 → min 1_073_741_824 mss ≤ n → mss ≤ n
small_least mss n e f = omega (arith, e, f)

small_most : (mss n : ℕ) → mss < 2 ^ 16 → n ≤ max 1_073_741_824 (10 * mss) → n ≤ 2 ^ 30
small_most mss n e f = omega (arith, e, f)

small_two : (mss n : ℕ) → mss < 2 ^ 16 → min 1_073_741_824 (2 * mss) ≤ n → 2 * mss ≤ n
small_two mss n e f = omega (arith, e, f)

pub window_least : (capacity : ℕ) (queued : Ring ℕ) (events : List Event) → (led (new_socket capacity queued) events).tcb.sender.syn_unacked ≡ false
    → (led (new_socket capacity queued) events).tcb.reno.mss < 2 ^ 16
    → (led (new_socket capacity queued) events).tcb.reno.mss ≤ (led (new_socket capacity queued) events).tcb.reno.cwnd
window_least capacity queued events syn small =
    small_least _ _ small ((new_fair capacity queued events).reno.least (ap not syn))

pub window_most : (capacity : ℕ) (queued : Ring ℕ) (events : List Event) → (led (new_socket capacity queued) events).tcb.reno.mss < 2 ^ 16
    → (led (new_socket capacity queued) events).tcb.reno.cwnd ≤ 2 ^ 30
window_most capacity queued events small = small_most _ _ small (new_fair capacity queued events).reno.most

pub threshold_within : (capacity : ℕ) (queued : Ring ℕ) (events : List Event) → (led (new_socket capacity queued) events).tcb.reno.mss < 2 ^ 16
    → (2 * (led (new_socket capacity queued) events).tcb.reno.mss ≤ (led (new_socket capacity queued) events).tcb.reno.ssthresh)
    × ((led (new_socket capacity queued) events).tcb.reno.ssthresh ≤ 2 ^ 30)
threshold_within capacity queued events small =
    let f = (new_fair capacity queued events).reno in (small_two _ _ small f.two, small_most _ _ small f.snd_max)

pub control_runs : (capacity : ℕ) (queued : Ring ℕ) (events : List Event)
    → is_some (led (new_socket capacity queued) events).tcb.reno.cubic
    ≡ runs_cubic (led (new_socket capacity queued) events).tcb.settings.congestion_control
control_runs capacity queued events = (new_fair capacity queued events).reno.runs
