-- A congestion window is never closed (RFC 5681, 3.1): it takes a byte at least, and so do the threshold and what is kept of either.
use Rattle.std.proofs.Common.{◌≡◌, ℕ, zero, suc, ◌+◌, ◌-◌, ◌*◌, ◌/◌, ◌^◌, ◌≤◌, ◌==◌, ◌&&◌, ◌||◌, nat_le, nat_lt, not, min, max, ℤ, Bool, true, false, if◌then◌else◌}
use Rattle.std.proofs.Common.{List, length, take, Option, Some, None, is_some, refl, sym, ap, ◌∙◌, subst, arith}
use Rattle.std.specs.Prelude.{IfSome}
use Rattle.std.proofs.lemmas.Bool.{cond_both}
use Rattle.net_base.specs.Ring.{Ring, anchored, enqueued}
use Rattle.ip_wire.specs.IpRepr.{IpRepr}
use Rattle.ip_wire.specs.Tcp.{header_len}
use Rattle.ip_wire.specs.TcpHeader.{TcpHeader}
use Rattle.tcp_refinement.specs.Context.{ContextValue}
use Rattle.tcp_refinement.specs.Offers.{Offered}
use Rattle.tcp_state.specs.Cubic as cubic
use Rattle.tcp_state.specs.Cubic.{CubicValue}
use Rattle.tcp_block.proofs.SendMss.{some_default}
use Rattle.tcp_block.specs.Opening.{paired, send_mss, took_syn}
use Rattle.tcp_block.specs.Reno as reno
use Rattle.tcp_block.specs.Reno.{RenoValue}
use Rattle.tcp_block.specs.Undo.{undo_begun, undo_marked, undo_sent, window_kept}
use Rattle.tcp_block.specs.declared.tcb.CongestionControl.{CongestionControl}
use Rattle.tcp_block.specs.declared.tcb.Loss.{Loss}
use Rattle.tcp_block.specs.declared.tcb.Undo.{Undo}
use Rattle.tcp_block.proofs.Undone.{undone_cases}
use Rattle.tcp_invariants.specs.Controls.{is_syn, is_zero}
use Rattle.tcp_invariants.specs.FourTuple.{FourTuple}
use Rattle.tcp_invariants.specs.Endpoints.{header_for, pair_in}
use Rattle.tcp_invariants.specs.Events.{Event, after}
use Rattle.tcp_invariants.specs.Events.Event.{Comes, Asked, Listens, Connects, Sends, Reads, Closes, Aborts, Sets}
use Rattle.tcp_invariants.specs.Events.Setting.{Timeout, KeepAlive, AckDelay, Nagle, HopLimit, Timestamps, Paused, Retries, Congestion, MinRto, FineTimer}
use Rattle.tcp_invariants.specs.Moments.{is_over, timeout_from}
use Rattle.tcp_invariants.specs.OfferKind.{OfferKind}
use Rattle.tcp_invariants.specs.OfferKind.TheVariants as Kind
use Rattle.tcp_invariants.specs.OpenOffer.{OpenOffer}
use Rattle.tcp_invariants.specs.State.TheVariants as In
use Rattle.tcp_invariants.specs.States.{is_closed, is_opening, is_time_wait, takes_writes, after_close}
use Rattle.tcp_invariants.proofs.ArrivalCases.{by_arrival, Received, Opening, Content, Drawing, acked_open, heeded, timed}
use Rattle.tcp_invariants.proofs.OfferCases.{FirstRules, by_rules, begun, probing}
use Rattle.tcp_invariants.proofs.OrderSteps.{clash}
use Rattle.tcp_block.specs.Acknowledged.{acks_in_recovery, acks_local_syn, begins_recovery, duplicates_after, freed_by}
use Rattle.tcp_block.specs.Acknowledged.{is_partial, partly_after, ranges_taken, recovery_after, reno_counted, srtt_after, una_moved}
use Rattle.tcp_block.specs.Acknowledged.{una_risen, windowed}
use Rattle.tcp_block.specs.Arrival.{arrives, is_void_syn, waiting_anew}
use Rattle.tcp_block.specs.declared.tcb.Tcb.{Tcb}
use Rattle.tcp_block.specs.TcbRules.{cubic_of, initial_window}
use Rattle.tcp_block.specs.Settings.{initial_reno}
use Rattle.tcp_block.specs.Scoreboard.{held}
use Rattle.tcp_block.specs.Calls.{listening, connected_by, four_tuple_for, sent_more}
use Rattle.tcp_block.specs.Isn.{number_for}
use Rattle.tcp_block.specs.LossRecovery.{all_noted, heard_more, is_lost_again, loss_lowered, loss_probed, probe_armed, probe_from, probes_losses}
use Rattle.tcp_block.specs.LossRecovery.{probe_begins, probes_tail, ranges_noted, with_board}
use Rattle.tcp_block.specs.Offers.{number_at, offer_choice, offer_of, offer_segment}
use Rattle.tcp_block.specs.Retries.{asked, heard, one_more}
use Rattle.tcp_block.specs.Rules.{Choice, backed_off_now, control_for, probe_choice, resend_choice, payload_choice}
use Rattle.tcp_block.specs.Segments.{ack_segment, hop_limit_of, keep_alive_segment, reset_segment, segment, syn_segment}
use Rattle.tcp_block.specs.Settled.{end_of, nxt_moved, probed, recorded, resent, sent_as, settled, syn_was_sent, timer_started, was_sent}
use Rattle.tcp_block.specs.Timestamps.{tsecr_taken, tsval_taken}
use Rattle.tcp_block.specs.Undone.{undone}
use Rattle.tcp_block.specs.Validation.{grown_if_used, is_used, periods_ended}
use Rattle.tcp_block.specs.Value.{TcpValue, Arrived, with_tcb, unoffered, ended, free_in, new_socket, queued_in, room_of, window_of}
use Rattle.tcp_refinement.specs.Pair.Values.{PairValue}
use Rattle.tcp_refinement.specs.declared.pair.event.Side.{Side}
use Rattle.tcp_liveness.specs.Pair.{socket_of}
use Rattle.tcp_liveness.specs.Reached.{IsReached, both_started}
use Rattle.tcp_liveness.proofs.Events.{of_side, by_steps}

-- WINDOWS

record IsWide (r : RenoValue) : Type 0 where
  mss : 1 ≤ r.mss
  cwnd : 1 ≤ r.cwnd
  ssthresh : 1 ≤ r.ssthresh

wide_initial : (c : Option CubicValue) → IsWide (reno.initial_with c)
wide_initial c = record { mss = omega arith; cwnd = omega arith; ssthresh = large reno.most refl } where
  large : (n : ℕ) → n ≡ 1_073_741_824 → 1 ≤ n
  large n e = omega arith

wide_mss : (r : RenoValue) (mss : ℕ) → 1 ≤ mss → IsWide r → IsWide (reno.with_mss r mss)
wide_mss r mss some w = record { mss = some; cwnd = w.cwnd; ssthresh = w.ssthresh }

wide_restored : (r prior : RenoValue) → IsWide r → IsWide prior → IsWide (reno.restored r prior)
wide_restored r prior w v = record { mss = w.mss; cwnd = v.cwnd; ssthresh = v.ssthresh }

-- as far as the largest window lets it
capped : (n : ℕ) → 1 ≤ n → 1 ≤ min 1_073_741_824 n
capped n e = omega arith

wide_lowered : (r : RenoValue) (flight : ℕ) → IsWide r → 1 ≤ reno.lowered r flight
wide_lowered r flight w = by r.cubic where
  two : (part mss : ℕ) → 1 ≤ mss → 1 ≤ min 1_073_741_824 (max part (2 * mss))
  two part mss e = omega arith

  by : (c : Option CubicValue) → 1 ≤ reno.lowered_by c r.mss flight
  by None = two (flight / 2) r.mss w.mss
  by (Some c) = two (flight * 7 / 10) r.mss w.mss

wide_reduced : (r : RenoValue) (flight : ℕ) → IsWide r → IsWide (reno.reduced r flight)
wide_reduced r flight w =
    cond_both r.timed_out r
    (record r {
      ssthresh = reno.lowered r (min flight r.cwnd);
      cwnd = reno.lowered r (min flight r.cwnd);
      recovers = true;
      cubic = reno.loss_at r.cubic r.cwnd;
    })
    IsWide (λ _. w)
    (λ _. record { mss = w.mss; cwnd = wide_lowered r (min flight r.cwnd) w; ssthresh = wide_lowered r (min flight r.cwnd) w })

wide_lost : (r : RenoValue) (flight : ℕ) → IsWide r → IsWide (reno.lost r flight)
wide_lost r flight w =
    cond_both r.timed_out r
    (record r {
      ssthresh = reno.lowered r (min flight r.cwnd);
      cwnd = min reno.most (reno.lowered r (min flight r.cwnd) + 3 * r.mss);
      recovers = true;
      cubic = reno.loss_at r.cubic r.cwnd;
    })
    IsWide (λ _. w)
    (λ _. record {
      mss = w.mss;
      cwnd = capped (reno.lowered r (min flight r.cwnd) + 3 * r.mss) (more (reno.lowered r (min flight r.cwnd)) r.mss w.mss);
      ssthresh = wide_lowered r (min flight r.cwnd) w;
    })
  where
    more : (n mss : ℕ) → 1 ≤ mss → 1 ≤ n + 3 * mss
    more n mss e = omega arith

wide_inflated : (r : RenoValue) → IsWide r → IsWide (reno.inflated r)
wide_inflated r w =
    cond_both r.recovers (record r { cwnd = min reno.most (r.cwnd + r.mss) }) r IsWide
    (λ _. record { mss = w.mss; cwnd = capped (r.cwnd + r.mss) (more r.cwnd r.mss w.cwnd); ssthresh = w.ssthresh })
    (λ _. w)
  where
    more : (n m : ℕ) → 1 ≤ n → 1 ≤ n + m
    more n m e = omega arith

wide_timed_out : (r : RenoValue) (flight : ℕ) → IsWide r → IsWide (reno.timed_out r flight)
wide_timed_out r flight w = record {
  mss = w.mss;
  cwnd = w.mss;
  ssthresh = cond_both r.timed_out r.ssthresh (reno.lowered r flight) (λ (n : ℕ). 1 ≤ n) (λ _. w.ssthresh) (λ _. wide_lowered r flight w);
}

wide_started : (r : RenoValue) (lost : Bool) → IsWide r → IsWide (reno.started r lost)
wide_started r lost w = record {
  mss = w.mss;
  cwnd = cond_both lost r.mss (reno.first_window r.mss) (λ (n : ℕ). 1 ≤ n) (λ _. w.mss) (λ _. first r.mss w.mss);
  ssthresh = w.ssthresh;
}
  where
    first : (mss : ℕ) → 1 ≤ mss → 1 ≤ min (10 * mss) (max (2 * mss) 14_600)
    first mss e = omega arith

wide_partly : (r : RenoValue) (count : ℕ) → IsWide r → IsWide (reno.partly r count)
wide_partly r count w = record {
  mss = w.mss;
  cwnd =
      capped (max r.mss (r.cwnd - count) + (if nat_le r.mss count then r.mss else 0))
      (more r.mss (r.cwnd - count) (if nat_le r.mss count then r.mss else 0) w.mss);
  ssthresh = w.ssthresh;
}
  where
    more : (mss rest n : ℕ) → 1 ≤ mss → 1 ≤ max mss rest + n
    more mss rest n e = omega arith

wide_recovered : (r : RenoValue) → IsWide r → IsWide (reno.recovered r)
wide_recovered r w = record { mss = w.mss; cwnd = w.ssthresh; ssthresh = w.ssthresh }

wide_counted : (r : RenoValue) (sack : Bool) (count flight : ℕ) (begins again : Bool) → IsWide r → IsWide (reno_counted r sack count flight begins again)
wide_counted r sack count flight begins again w =
    cond_both begins (if sack then reno.reduced r flight else reno.lost r flight)
    (if again then reno.reduced r flight else if not (count == 0) && not sack then reno.inflated r else r) IsWide
    (λ _. cond_both sack (reno.reduced r flight) (reno.lost r flight) IsWide (λ _. wide_reduced r flight w) (λ _. wide_lost r flight w))
    (λ _.
    cond_both again (reno.reduced r flight) (if not (count == 0) && not sack then reno.inflated r else r) IsWide (λ _. wide_reduced r flight w)
    (λ _. cond_both (not (count == 0) && not sack) (reno.inflated r) r IsWide (λ _. wide_inflated r w) (λ _. w)))

-- in a stage of CUBIC
wide_stage : (c : CubicValue) (mss cwnd : ℕ) (now : ℤ) (rtt : ℕ) → 1 ≤ cwnd → 1 ≤ cubic.window_in mss cwnd c.w_max c.epoch now rtt
wide_stage c mss cwnd now rtt some =
    elim c.epoch as (λ epoch. 1 ≤ cubic.window_in mss cwnd c.w_max epoch now rtt) [
      | None ↦ some
      | Some e ↦ capped _ (grows _ _ e.w_est)
    ]
  where
    high : (n m : ℕ) → 1 ≤ n → 1 ≤ max n m
    high n m e = omega arith

    more : (n m : ℕ) → 1 ≤ n → 1 ≤ n + m
    more n m e = omega arith

    grows : (here there w_est : ℕ) → 1 ≤ cubic.grown mss cwnd here there w_est
    grows here there w_est =
        cond_both (nat_lt here w_est) (cubic.target cwnd w_est) (cwnd + (cubic.target cwnd there - cwnd) * min mss cwnd / cwnd) (λ (n : ℕ). 1 ≤ n)
        (λ _. high cwnd (min (cwnd + cwnd / 2) w_est) some) (λ _. more cwnd ((cubic.target cwnd there - cwnd) * min mss cwnd / cwnd) some)

wide_widened : (r : RenoValue) (count : ℕ) (now : ℤ) (rtt : ℕ) → IsWide r → 1 ≤ reno.widened r count now rtt
wide_widened r count now rtt w =
    cond_both (nat_lt r.cwnd r.ssthresh) (min reno.most (r.cwnd + reno.growth r count)) (reno.grown (reno.counted r count now) r count now rtt)
    (λ (n : ℕ). 1 ≤ n) (λ _. slow) (λ _. by (reno.counted r count now))
  where
    more : (n m : ℕ) → 1 ≤ n → 1 ≤ n + m
    more n m e = omega arith

    slow : 1 ≤ min reno.most (r.cwnd + reno.growth r count)
    slow = capped (r.cwnd + reno.growth r count) (more r.cwnd (reno.growth r count) w.cwnd)

    by : (c : Option CubicValue) → 1 ≤ reno.grown c r count now rtt
    by None = slow
    by (Some c) = wide_stage c r.mss r.cwnd now rtt w.cwnd

wide_acknowledged : (r : RenoValue) (count : ℕ) (now : ℤ) (rtt : ℕ) → IsWide r → IsWide (reno.acknowledged r count now rtt)
wide_acknowledged r count now rtt w =
    cond_both (count == 0) r (record r { cwnd = reno.widened r count now rtt; timed_out = false; cubic = reno.counted r count now }) IsWide
    (λ _. w)
    (λ _. record { mss = w.mss; cwnd = wide_widened r count now rtt w; ssthresh = w.ssthresh })

wide_preserved : (r : RenoValue) (count : ℕ) → IsWide r → IsWide (reno.preserved r count)
wide_preserved r count w =
    cond_both (count == 0) r (record r { timed_out = false; cubic = reno.stopped r.cubic }) IsWide (λ _. w)
    (λ _. record { mss = w.mss; cwnd = w.cwnd; ssthresh = w.ssthresh })

wide_grown : (b : Tcb) (count : ℕ) (now : ℤ) (rtt : ℕ) → IsWide b.reno → IsWide (grown_if_used b count now rtt)
wide_grown b count now rtt w =
    cond_both (is_used b) (reno.acknowledged b.reno count now rtt) (reno.preserved b.reno count) IsWide (λ _. wide_acknowledged b.reno count now rtt w)
    (λ _. wide_preserved b.reno count w)

wide_lapsed : (r : RenoValue) (periods : ℕ) → IsWide r → IsWide (reno.lapsed r periods)
wide_lapsed r periods w = record {
  mss = w.mss;
  cwnd =
      cond_both (periods == 0) r.cwnd (min r.cwnd (max (r.cwnd / 2 ^ periods) (reno.first_window r.mss))) (λ (n : ℕ). 1 ≤ n) (λ _. w.cwnd)
      (λ _. least r.cwnd (r.cwnd / 2 ^ periods) r.mss w.cwnd w.mss);
  ssthresh =
      cond_both (periods == 0) r.ssthresh (max r.ssthresh (3 * r.cwnd / 4)) (λ (n : ℕ). 1 ≤ n) (λ _. w.ssthresh)
      (λ _. above r.ssthresh (3 * r.cwnd / 4) w.ssthresh);
}
  where
    least : (cwnd half mss : ℕ) → 1 ≤ cwnd → 1 ≤ mss → 1 ≤ min cwnd (max half (min (10 * mss) (max (2 * mss) 14_600)))
    least cwnd half mss e f = omega arith

    above : (a b : ℕ) → 1 ≤ a → 1 ≤ max a b
    above a b e = omega arith

-- a window at the start, with CUBIC or without
window_initial : (control : CongestionControl) → IsWide (initial_window control)
window_initial control = wide_initial (cubic_of control)

-- BLOCKS

-- with what is kept of before a loss, and what the remote takes
record Windows : Type 0 where
  reno : RenoValue
  undo : Option Undo
  peer : ℕ

record AreWide (w : Windows) : Type 0 where
  reno : IsWide w.reno
  undo : IfSome w.undo (λ u. IsWide u.reno)
  peer : 1 ≤ w.peer

abbrev Wide : Tcb → Type 0
Wide b = AreWide (record { reno = b.reno; undo = b.loss.undo; peer = b.peer.mss })

undone_wide : (b : Tcb) (header : TcpHeader) (by queued : ℕ) → Wide b → Wide (undone b header by queued)
undone_wide b header by queued w =
    undone_cases b header by queued Wide w
    (λ u some _.
    record { reno = wide_restored b.reno u.reno w.reno (subst (λ (o : Option Undo). IfSome o (λ u. IsWide u.reno)) some w.undo); undo = w.undo; peer = w.peer })

undo_wide : (b : Tcb) → Wide b → IfSome (undo_begun b) (λ u. IsWide u.reno)
undo_wide b w =
    cond_both (b.reno.recovers || b.reno.timed_out) b.loss.undo (if b.loss.resent == 0 then window_kept b else None)
    (λ (o : Option Undo). IfSome o (λ u. IsWide u.reno)) (λ _. w.undo)
    (λ _. cond_both (b.loss.resent == 0) (window_kept b) None (λ (o : Option Undo). IfSome o (λ u. IsWide u.reno)) (λ _. w.reno) (λ _. tt))

-- a probe of losses keeps it
armed_undo : (b : Tcb) (l : Loss) (now : ℤ) → (probe_armed b l now).undo ≡ l.undo
armed_undo b l now =
    cond_both (probes_losses b && not l.probed) (record l { probe_at = probe_from b now }) l (λ (x : Loss). x.undo ≡ l.undo) (λ _. refl) (λ _. refl)

ranges_undo : (b : Tcb) (header : TcpHeader) (now : ℤ) → (ranges_noted b header now).undo ≡ b.loss.undo
ranges_undo b header now =
    cond_both b.peer.sack
    (heard_more b (all_noted b b.loss.board.runs header.options.sack_ranges) now) b.loss (λ (l : Loss). l.undo ≡ b.loss.undo)
    (λ _.
    cond_both (nat_lt (held b.loss.board.runs) (held (all_noted b b.loss.board.runs header.options.sack_ranges)))
    (probe_armed b (record b.loss { board = record { runs = all_noted b b.loss.board.runs header.options.sack_ranges }; probes = false; probed = false }) now)
    (with_board b.loss (all_noted b b.loss.board.runs header.options.sack_ranges)) (λ (l : Loss). l.undo ≡ b.loss.undo)
    (λ _.
    armed_undo b (record b.loss { board = record { runs = all_noted b b.loss.board.runs header.options.sack_ranges }; probes = false; probed = false }) now)
    (λ _. refl))
    (λ _. refl)

acked_wide : (b : Tcb) (by queued : ℕ) (now : ℤ) → Wide b → Wide (una_moved b by queued now)
acked_wide b by queued now w = record {
  reno =
      cond_both (acks_local_syn b by) (reno.started b.reno b.sender.syn_lost)
      (if acks_in_recovery b by then recovery_after b by queued else grown_if_used b (freed_by b by queued) now (srtt_after b by now)) IsWide
      (λ _. wide_started b.reno b.sender.syn_lost w.reno)
      (λ _.
      cond_both (acks_in_recovery b by) (recovery_after b by queued) (grown_if_used b (freed_by b by queued) now (srtt_after b by now)) IsWide
      (λ _.
      cond_both (is_partial b by) (partly_after b by queued) (reno.recovered b.reno) IsWide
      (λ _.
      cond_both b.peer.sack b.reno (reno.partly b.reno (freed_by b by queued)) IsWide (λ _. w.reno)
      (λ _. wide_partly b.reno (freed_by b by queued) w.reno))
      (λ _. wide_recovered b.reno w.reno))
      (λ _. wide_grown b (freed_by b by queued) now (srtt_after b by now) w.reno));
  undo =
      cond_both (by == 0) b.loss (probe_armed (una_risen b by queued now) (loss_lowered b.loss by (is_partial b by)) now)
      (λ (l : Loss). IfSome l.undo (λ u. IsWide u.reno))
      (λ _. w.undo)
      (λ _.
      subst (λ (o : Option Undo). IfSome o (λ u. IsWide u.reno))
      (sym (armed_undo (una_risen b by queued now) (loss_lowered b.loss by (is_partial b by)) now)) tt);
  peer = w.peer;
}

-- A SEGMENT COMES

module _ (cx : ContextValue) (ip : IpRepr) (header : TcpHeader) (bytes : List ℕ) where
  abbrev WideAfter : Arrived → Type 0
  WideAfter a = Wide a.socket.tcb

  wide_drawing : (x : TcpValue) → Wide x.tcb → Drawing cx ip header bytes WideAfter x
  wide_drawing x w = record { answers = λ _. w; at_once = w; pauses = w }

  wide_content : (x : TcpValue) → Wide x.tcb → Content cx ip header bytes WideAfter x
  wide_content x w = record {
    plain = (λ _. w, w);
    fin = λ _ _. (λ _. w, w);
    ordered = λ _ _ _ _. (λ _. w, w);
    ordered_fin = λ _ _ _ _. (λ _. w, w);
    early = λ _ _ _ _. w;
  }

  risen : (u : TcpValue) (by : ℕ) → Wide u.tcb → Wide (acked_open (timed cx.instant header u by) by cx.instant).tcb
  risen u by w = acked_wide (timed cx.instant header u by).tcb by (queued_in u) cx.instant (undone_wide u.tcb header by (queued_in u) w)

  -- with its duplicates and its ranges
  heeded_wide : (u : TcpValue) (by : ℕ) (b : Tcb) → Wide b → Wide (heeded cx.instant header (length bytes) u by b).tcb
  heeded_wide u by b w = record {
    reno =
        wide_counted c.reno c.peer.sack count c.sender.flight_size (begins_recovery c count) (is_lost_again c) w.reno;
    undo =
        cond_both (begins_recovery c count) (undo_begun c) c.loss.undo (λ (o : Option Undo). IfSome o (λ u. IsWide u.reno))
        (λ _. undo_wide c wide_c) (λ _. wide_c.undo);
    peer = w.peer;
  }
    where
      c : Tcb
      c = ranges_taken (tsval_taken b header cx.instant) header cx.instant

      count : ℕ
      count = duplicates_after u.tcb header (length bytes) by

      wide_c : Wide c
      wide_c = record {
        reno = w.reno;
        undo =
            subst (λ (o : Option Undo). IfSome o (λ u. IsWide u.reno)) (sym (ranges_undo (tsval_taken b header cx.instant) header cx.instant)) w.undo;
        peer = w.peer;
      }

  wide_received : (u : TcpValue) → Wide u.tcb → Received cx ip header bytes WideAfter u
  wide_received u w = record {
    stays = w;
    refuses = w;
    draws = wide_drawing u w;
    falls = λ _ _ _. record { reno = window_initial u.tcb.settings.congestion_control; undo = tt; peer = omega arith };
    ends = λ _ _ _. w;
    closes = λ by _ _. risen u by w;
    taken = λ by _ _.
        let b = (acked_open (timed cx.instant header u by) by cx.instant).tcb in
        wide_content (heeded cx.instant header (length bytes) u by b) (heeded_wide u by b (risen u by w));
    taken_window = λ by _ _.
        let b = (acked_open (timed cx.instant header u by) by cx.instant).tcb in
        wide_content (heeded cx.instant header (length bytes) u by (windowed b header)) (heeded_wide u by (windowed b header) (risen u by w));
    news = λ by _ _. wide_drawing (waiting_anew (acked_open (timed cx.instant header u by) by cx.instant) header cx.instant) (risen u by w);
    outside = wide_drawing (waiting_anew u header cx.instant) w;
    old = λ _. wide_content (with_tcb u (tsval_taken (heard u.tcb) header cx.instant)) w;
  }

  and_first : (a b : Bool) → (a && b) ≡ true → a ≡ true
  and_first true b e = refl
  and_first false b e = e

  -- a SYN that names no segment size of 0
  mss_some : (pair : Option FourTuple) → is_void_syn header ≡ false → is_syn header.control ≡ true → 1 ≤ send_mss pair header.options.max_seg_size
  mss_some pair full syn = by header.options.max_seg_size (sym (ap (λ (t : Bool). t && is_zero header.options.max_seg_size) syn) ∙ full) where
    some : (n : ℕ) → (n == 0) ≡ false → 1 ≤ n
    some zero e = clash e
    some (suc n) e = omega arith

    by : (mss : Option ℕ) → is_zero mss ≡ false → 1 ≤ send_mss pair mss
    by None e = some_default pair
    by (Some n) e = some n e

  took_wide : (b : Tcb) → 1 ≤ send_mss b.names.pair header.options.max_seg_size → Wide b → Wide (took_syn b header)
  took_wide b some w = record { reno = wide_mss b.reno (send_mss b.names.pair header.options.max_seg_size) some w.reno; undo = w.undo; peer = some }

  wide_opening : (u : TcpValue) → is_void_syn header ≡ false → Wide u.tcb → Opening cx ip header bytes WideAfter u
  wide_opening u full w = record {
    opens = λ _ first.
        let taken = took_wide (paired u.tcb ip header) (mss_some (Some (pair_in ip header)) full (and_first (is_syn header.control) (not (is_some header.ack_number)) first)) w in
        record { reno = taken.reno; undo = taken.undo; peer = taken.peer };
    refuses = w;
    ends = λ _. w;
    connects = λ _ syn.
        let taken = took_wide u.tcb (mss_some u.tcb.names.pair full syn) w in
        let it =
        acked_wide (tsecr_taken (took_syn u.tcb header) header 1 cx.instant) 1 0 cx.instant
        (record { reno = taken.reno; undo = taken.undo; peer = taken.peer }) in
        record { reno = it.reno; undo = it.undo; peer = it.peer };
    crosses = λ _ syn.
        let taken = took_wide u.tcb (mss_some u.tcb.names.pair full syn) w in record { reno = taken.reno; undo = taken.undo; peer = taken.peer };
  }

  wide_arrival : (v : TcpValue) → Wide v.tcb → WideAfter (arrives cx v ip header bytes)
  wide_arrival v w = by_arrival cx ip header bytes WideAfter v w (λ full. wide_opening (unoffered v) full w) (λ _. wide_received (unoffered v) w)

-- AN OFFER

asked_wide : (b : Tcb) (now : ℤ) → Wide b → Wide (asked b now)
asked_wide b now w =
    cond_both (is_over now b.timers.counts_from)
    (record b {
      sender = record b.sender { unanswered = one_more b.sender.unanswered };
      timers = record b.timers { counts_from = Some (timeout_from now b.round_trip) };
    })
    b Wide (λ _. w) (λ _. w)

sent_undo : (b : Tcb) (o : Option Undo) (now : ℤ) → IfSome o (λ u. IsWide u.reno) → IfSome (undo_sent b o now) (λ u. IsWide u.reno)
sent_undo b None now w = tt
sent_undo b (Some u) now w = cond_both (is_some u.tsval) u (undo_marked b u now) (λ (x : Undo). IsWide x.reno) (λ _. w) (λ _. w)

went_wide : (b : Tcb) (o : OpenOffer) (queued : ℕ) → Wide b → Wide (was_sent b o queued)
went_wide b o queued w = record {
  reno = w.reno;
  undo =
      subst (λ (o : Option Undo). IfSome o (λ u. IsWide u.reno))
      (sym (armed_undo c (record c.loss { undo = undo_sent c c.loss.undo o.instant }) o.instant)) (sent_undo c b.loss.undo o.instant w.undo);
  peer = w.peer;
}
  where
    c : Tcb
    c = timer_started (nxt_moved b (end_of b o) queued o.instant) o.instant

sent_wide : (kind : OfferKind) (b : Tcb) (o : OpenOffer) (queued : ℕ) → Wide b → Wide (sent_as kind b o queued)
sent_wide Kind.Reset b o queued w = w
sent_wide Kind.Syn b o queued w = went_wide (syn_was_sent b o) o queued w
sent_wide Kind.FastRetransmission b o queued w =
    went_wide (resent b (end_of b o)) o queued (record { reno = w.reno; undo = w.undo; peer = w.peer })
sent_wide Kind.Payload b o queued w =
    let on = went_wide b o queued w in
    record { reno = wide_lapsed b.reno (periods_ended (was_sent b o queued) b.sender.snd_max o.instant) on.reno; undo = on.undo; peer = on.peer }
sent_wide Kind.Probe b o queued w = asked_wide (probed b (end_of b o) o.instant) o.instant (record { reno = w.reno; undo = w.undo; peer = w.peer })
sent_wide Kind.KeepAlive b o queued w = asked_wide b o.instant w
sent_wide Kind.Ack b o queued w = w
sent_wide Kind.WindowUpdate b o queued w = w

backed_wide : (b : Tcb) → Wide b → Wide (backed_off_now b)
backed_wide b w = record {
  reno =
      cond_both b.sender.syn_unacked b.reno (reno.timed_out b.reno b.sender.flight_size) IsWide (λ _. w.reno)
      (λ _. wide_timed_out b.reno b.sender.flight_size w.reno);
  undo =
      cond_both b.sender.syn_unacked None (undo_begun b) (λ (o : Option Undo). IfSome o (λ u. IsWide u.reno)) (λ _. tt) (λ _. undo_wide b w);
  peer = w.peer;
}

probed_wide : (b : Tcb) → Wide b → Wide (loss_probed b)
probed_wide b w = record {
  reno =
      cond_both (probes_tail b) b.reno (reno.reduced b.reno b.sender.flight_size) IsWide (λ _. w.reno)
      (λ _. wide_reduced b.reno b.sender.flight_size w.reno);
  undo =
      cond_both (probe_begins b) (undo_begun b) b.loss.undo (λ (o : Option Undo). IfSome o (λ u. IsWide u.reno))
      (λ _. undo_wide b w) (λ _. w.undo);
  peer = w.peer;
}

module _ (cx : ContextValue) (v : TcpValue) (w : Wide v.tcb) where
  abbrev Both : Offered TcpValue → Type 0
  Both o = Wide (settled true o.socket).tcb × Wide o.socket.tcb

  by_segment :
      (kind : OfferKind) (x : TcpValue) (pair : FourTuple) (header : TcpHeader) (offset len : ℕ) → Wide x.tcb
      → Both (offer_segment kind cx x pair header offset len)
  by_segment kind x pair header offset len g =
      (sent_wide kind (recorded x.tcb k (room_of x.received)) k (queued_in x) (record { reno = g.reno; undo = g.undo; peer = g.peer }), g) where
        k : OpenOffer
        k = record {
          kind = kind;
          instant = cx.instant;
          header = header_for pair.addresses (hop_limit_of x.tcb.settings.hop_limit) (header_len header + len);
          segment = header;
          offset = offset;
          len = len;
        }

  by_choice : (kind : OfferKind) (x : TcpValue) (pair : FourTuple) (c : Choice) → Wide x.tcb → Both (offer_choice kind cx x pair c)
  by_choice kind x pair c g =
      by_segment kind x pair (segment x.tcb pair cx.instant (window_of x) (control_for c (queued_in x)) (number_at x.tcb c.offset)) c.offset c.len g

  wide_first : (pair : FourTuple) (b : Tcb) → Wide b → FirstRules cx pair Both (with_tcb (unoffered v) b)
  wide_first pair b g = record {
    syn = λ _. by_segment Kind.Syn y pair (syn_segment b pair cx.instant cx.ip_mtu (room_of v.received) (free_in v)) 0 0 g;
    again = λ _ _. by_choice Kind.FastRetransmission y pair (resend_choice b pair.addresses cx.ip_mtu v.queued) g;
    payload = λ _ _. by_choice Kind.Payload y pair (payload_choice b pair.addresses cx.ip_mtu v.queued) g;
    last = λ _.
        record {
          probe = λ _ _. by_choice Kind.Probe x pair probe_choice on;
          window_limited = λ _ _. by_choice Kind.Payload x pair (payload_choice x.tcb pair.addresses cx.ip_mtu v.queued) on;
          ack = λ _. by_segment Kind.Ack x pair (ack_segment x.tcb pair cx.instant (window_of x)) 0 0 on;
          update = λ _ _. by_segment Kind.WindowUpdate x pair (ack_segment x.tcb pair cx.instant (window_of x)) 0 0 on;
          keep_alive = λ _ _. by_segment Kind.KeepAlive x pair (keep_alive_segment x.tcb pair cx.instant (window_of x)) 0 1 on;
          quiet = λ _. (on, on);
        };
  }
    where
      y : TcpValue
      y = with_tcb (unoffered v) b

      x : TcpValue
      x = probing cx y

      on : Wide x.tcb
      on = record { reno = g.reno; undo = g.undo; peer = g.peer }

  wide_offer : Both (offer_of cx v)
  wide_offer =
      by_rules cx v Both
      (record {
        nobody = λ _. (w, w);
        time_wait = λ _. (w, w);
        timeout = λ _. (w, w);
        closed = λ _. (w, w);
        reset = λ pair _ _. by_segment Kind.Reset (unoffered v) pair (reset_segment v.tcb pair cx.instant (window_of v)) 0 0 w;
        falls = λ _ _ _. (fell, fell);
        over = λ _ _ _. (w, w);
        backs = λ pair _ _ _. wide_first pair (backed_off_now (begun cx v)) (backed_wide (begun cx v) same);
        probes = λ pair _ _ _ _. wide_first pair (loss_probed (begun cx v)) (probed_wide (begun cx v) same);
        goes = λ pair _ _ _. wide_first pair (begun cx v) same;
      })
    where
      same : Wide (begun cx v)
      same = record { reno = w.reno; undo = w.undo; peer = w.peer }

      fell : Wide (listening (unoffered v) v.tcb.names.listen).tcb
      fell = record { reno = window_initial v.tcb.settings.congestion_control; undo = tt; peer = omega arith }

-- EVENTS

connected_wide : (v : TcpValue) (names : Option FourTuple) (number : ℕ) → Wide v.tcb → Wide (connected_by v names number).tcb
connected_wide v None number w = w
connected_wide v (Some pair) number w = record { reno = window_initial v.tcb.settings.congestion_control; undo = tt; peer = omega arith }

set_wide : (b : Tcb) (control : CongestionControl) → Wide b → IsWide (initial_reno b control)
set_wide b control w =
    cond_both (not b.receiver.took_syn) (initial_window control)
    (if b.sender.syn_unacked then reno.with_mss (initial_window control) b.peer.mss
    else reno.started (reno.with_mss (initial_window control) b.peer.mss) false) IsWide
    (λ _. window_initial control)
    (λ _.
    cond_both b.sender.syn_unacked (reno.with_mss (initial_window control) b.peer.mss) (reno.started (reno.with_mss (initial_window control) b.peer.mss) false)
    IsWide (λ _. named) (λ _. wide_started (reno.with_mss (initial_window control) b.peer.mss) false named))
  where
    named : IsWide (reno.with_mss (initial_window control) b.peer.mss)
    named = wide_mss (initial_window control) b.peer.mss w.peer (window_initial control)

abbrev WideIn : TcpValue → Type 0
WideIn v = Wide v.tcb

event_wide : (v : TcpValue) (it : Event) → WideIn v → WideIn (after v it)
event_wide v (Comes cx ip header bytes) w = wide_arrival cx ip header bytes v w
event_wide v (Asked cx true) w = (wide_offer cx v w).0
event_wide v (Asked cx false) w = (wide_offer cx v w).1
event_wide v (Listens endpoint) w =
    cond_both (is_closed v.tcb.state && not (endpoint.port == 0)) (listening v endpoint) (unoffered v) WideIn
    (λ _. record { reno = window_initial v.tcb.settings.congestion_control; undo = tt; peer = omega arith }) (λ _. w)
event_wide v (Connects cx remote local) w =
    cond_both (is_closed v.tcb.state) (connected_by v (four_tuple_for cx remote local) (number_for cx (four_tuple_for cx remote local))) (unoffered v) WideIn
    (λ _. connected_wide v (four_tuple_for cx remote local) (number_for cx (four_tuple_for cx remote local)) w) (λ _. w)
event_wide v (Sends bytes) w =
    cond_both (takes_writes v.tcb.state) (sent_more v (enqueued (anchored v.queued) (take (min (length bytes) (length v.queued.free)) bytes))) (unoffered v)
    WideIn (λ _. w) (λ _. w)
event_wide v (Reads count) w = w
event_wide v Closes w =
    cond_both (is_opening v.tcb.state) (ended (unoffered v)) (with_tcb (unoffered v) (record v.tcb { state = after_close v.tcb.state }))
    WideIn (λ _. w) (λ _. w)
event_wide v Aborts w =
    cond_both (is_time_wait v.tcb.state) (ended (unoffered v))
    (with_tcb (unoffered v) (record v.tcb { state = In.Closed; sender = record v.tcb.sender { reset_due = is_some v.tcb.names.pair } }))
    WideIn (λ _. w) (λ _. w)
event_wide v (Sets (Timeout duration)) w = w
event_wide v (Sets (KeepAlive interval)) w = w
event_wide v (Sets (AckDelay duration)) w = w
event_wide v (Sets (Nagle enabled)) w = w
event_wide v (Sets (HopLimit limit)) w = w
event_wide v (Sets (Timestamps generator)) w = w
event_wide v (Sets (Paused paused)) w = w
event_wide v (Sets (Retries limit)) w = w
event_wide v (Sets (Congestion control)) w = record { reno = set_wide v.tcb control w; undo = tt; peer = w.peer }
event_wide v (Sets (MinRto duration)) w = w
event_wide v (Sets (FineTimer fine)) w = w

new_wide : (room : ℕ) (ring : Ring ℕ) → WideIn (new_socket room ring)
new_wide room ring = record { reno = wide_initial None; undo = tt; peer = omega arith }

-- of each side of a pair that events led to
reached_wide : (p : PairValue) (side : Side) → IsReached p → IsWide (socket_of p side).tcb.reno
reached_wide p side r =
    (of_side WideIn p.sides side
    (by_steps WideIn event_wide (λ v w. w) (both_started r.a r.b) r.events p r.steps
    (record { first = new_wide r.a.room r.a.ring; second = new_wide r.b.room r.b.ring }))).reno

pub reached_cwnd : (p : PairValue) (side : Side) → IsReached p → 1 ≤ (socket_of p side).tcb.reno.cwnd
reached_cwnd p side r = (reached_wide p side r).cwnd

pub reached_mss : (p : PairValue) (side : Side) → IsReached p → 1 ≤ (socket_of p side).tcb.reno.mss
reached_mss p side r = (reached_wide p side r).mss
