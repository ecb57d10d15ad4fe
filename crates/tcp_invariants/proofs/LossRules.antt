-- What a socket believes of its losses.
use Rattle.std.proofs.Common.{◌≡◌, ◌⊎◌, inl, inr, ⊎_elim, ℕ, zero, suc, ◌-◌, ◌≤◌, ◌==◌, ◌&&◌, nat_le, nat_lt, not, min, max, ℤ, Bool, true, false}
use Rattle.std.proofs.Common.{if◌then◌else◌, List, [], ◌∷◌, length, take, map, set, replicate, Option, Some, None, is_some, refl, sym, ap, ◌∙◌, subst, arith}
use Rattle.std.specs.List.{fold}
use Rattle.std.proofs.lemmas.Bool.{cond_both, eqb-true, leb-true}
use Rattle.ip_wire.specs.IpRepr.{IpRepr}
use Rattle.ip_wire.specs.TcpHeader.{TcpHeader}
use Rattle.net_base.specs.Ring.{Ring, anchored, enqueued}
use Rattle.tcp_block.specs.Context.{ContextValue}
use Rattle.tcp_block.specs.BaseOffers.{Offered}
use Rattle.tcp_state.specs.Moments.{is_over, timeout_from}
use Rattle.tcp_state.specs.Offsets.{distance_after}
use Rattle.tcp_state.specs.Scoreboard.{is_run, no_run, no_runs, meets, hull, hull_of, without, free_offset, placed_at, noted, lowered}
use Rattle.tcp_state.specs.Scoreboard.{reneges, after_ack, held}
use Rattle.tcp_state.specs.States.{is_closed, is_listening, is_opening, is_time_wait, takes_writes, after_close}
use Rattle.tcp_state.specs.declared.endpoints.FourTuple.{FourTuple}
use Rattle.tcp_state.specs.declared.offer.OfferKind.{OfferKind}
use Rattle.tcp_state.specs.declared.offer.OfferKind.TheVariants as Kind
use Rattle.tcp_state.specs.declared.offer.OpenOffer.{OpenOffer}
use Rattle.tcp_state.specs.declared.scoreboard.Run.{Run}
use Rattle.tcp_state.specs.declared.state.State.{State}
use Rattle.tcp_state.specs.declared.state.State.TheVariants as In
use Rattle.tcp_block.specs.Acknowledged.{state_after_ack, una_risen, is_partial, windowed}
use Rattle.tcp_block.specs.Arrival.{arrives}
use Rattle.tcp_block.specs.Calls.{listening, connected_by, four_tuple_for, sent_more}
use Rattle.tcp_block.specs.Isn.{number_for}
use Rattle.tcp_block.specs.Timestamps.{tsval_taken, tsecr_taken}
use Rattle.tcp_block.specs.Undo.{undo_sent}
use Rattle.tcp_block.specs.LossRecovery.{with_board, probe_from, probes_losses, probe_armed, run_within, run_of}
use Rattle.tcp_block.specs.LossRecovery.{range_noted, all_noted, heard_more, ranges_noted}
use Rattle.tcp_block.specs.LossRecovery.{loss_lowered, loss_acked, loss_probed}
use Rattle.tcp_block.specs.Offers.{offer_of}
use Rattle.tcp_block.specs.Opening.{took_syn}
use Rattle.tcp_block.specs.Retries.{asked, one_more}
use Rattle.tcp_block.specs.Rules.{backed_off_now}
use Rattle.tcp_block.specs.Settled.{sent_off, sent_as, recorded, probed, end_of, nxt_moved, timer_started, syn_was_sent, resent}
use Rattle.tcp_block.specs.Value.{TcpValue, Arrived, with_tcb, unoffered, ended, new_socket, queued_in, room_of}
use Rattle.tcp_block.specs.declared.tcb.Tcb.{Tcb}
use Rattle.tcp_block.specs.declared.tcb.Loss.{Loss}
use Rattle.tcp_invariants.specs.Events.{Event, Setting, after, led, set as sets, is_past}
use Rattle.tcp_invariants.specs.Events.Event.{Comes, Asked, Listens, Connects, Sends, Reads, Closes, Aborts, Sets}
use Rattle.tcp_invariants.specs.Events.Setting.{Timeout, KeepAlive, AckDelay, Nagle, HopLimit, Timestamps, Paused, Retries, Congestion, MinRto, FineTimer}
use Rattle.tcp_invariants.specs.InOrder.{sending_of, IsInOrder}
use Rattle.tcp_invariants.specs.Losses.{AreWithin, Known}
use Rattle.tcp_invariants.proofs.ArrivalCases.{timed, by_arrival, Received, Opening, Content, Drawing, acked_open}
use Rattle.tcp_invariants.proofs.CongestionRules.{fin_on, state_past, close_on, unnamed}
use Rattle.tcp_invariants.proofs.OfferCases.{Rules, FirstRules, LastRules, by_rules, begun, probing}
use Rattle.tcp_invariants.proofs.OrderSteps.{clash}
use Rattle.tcp_invariants.proofs.OrderRules.{event_order, new_order}

abbrev pub known_of : Tcb → Known
known_of b = record { state = b.state; runs = b.loss.board.runs; snd_max = b.sender.snd_max }

pub record IsKnownRight (k : Known) : Type 0 where
  pub within : AreWithin k.snd_max k.runs
  pub listens : is_listening k.state ≡ true → k.runs ≡ no_runs

-- RUNS

least : (m : ℕ) → 0 ≤ m
least m = omega arith

within_nothing : (snd_max n : ℕ) → AreWithin snd_max (replicate n no_run)
within_nothing snd_max zero = tt
within_nothing snd_max (suc n) = (least snd_max, within_nothing snd_max n)

within_more : (a b : ℕ) (rs : List Run) → a ≤ b → AreWithin a rs → AreWithin b rs
within_more a b [] e h = tt
within_more a b (r ∷ rs) e h = (further r.end a b h.0 e, within_more a b rs e h.1) where
  further : (x a b : ℕ) → x ≤ a → a ≤ b → x ≤ b
  further x a b e f = omega arith

within_lowered : (by snd_max : ℕ) (rs : List Run) → AreWithin snd_max rs → AreWithin (snd_max - by) (map (lowered by) rs)
within_lowered by snd_max [] h = tt
within_lowered by snd_max (r ∷ rs) h = (nearer r.end snd_max by h.0, within_lowered by snd_max rs h.1) where
  nearer : (x a b : ℕ) → x ≤ a → x - b ≤ a - b
  nearer x a b e = omega arith

within_after : (rs : List Run) (by snd_max : ℕ) → AreWithin snd_max rs → AreWithin (snd_max - by) (after_ack rs by)
within_after rs by snd_max h =
    cond_both (reneges rs by) no_runs (map (lowered by) rs) (AreWithin (snd_max - by)) (λ _. within_nothing (snd_max - by) 32) (λ _. within_lowered by snd_max rs h)

within_without : (snd_max : ℕ) (rs : List Run) (run : Run) → AreWithin snd_max rs → AreWithin snd_max (without rs run)
within_without snd_max [] run h = tt
within_without snd_max (r ∷ rs) run h = (
  cond_both (meets run r) no_run r (λ (x : Run). x.end ≤ snd_max) (λ _. least snd_max) (λ _. h.0),
  within_without snd_max rs run h.1,
)

joined_end : (a b snd_max : ℕ) → a ≤ snd_max → b ≤ snd_max → max a b ≤ snd_max
joined_end a b snd_max e f = omega arith

within_hull : (snd_max : ℕ) (rs : List Run) (run all : Run) → all.end ≤ snd_max → AreWithin snd_max rs
    → (fold (λ (all other : Run). if meets run other then hull all other else all) all rs).end ≤ snd_max
within_hull snd_max [] run all e h = e
within_hull snd_max (r ∷ rs) run all e h =
    cond_both (meets run r) (hull all r) all
    (λ (x : Run). (fold (λ (all other : Run). if meets run other then hull all other else all) x rs).end ≤ snd_max)
    (λ _. within_hull snd_max rs run (hull all r) (joined_end all.end r.end snd_max e h.0) h.1)
    (λ _. within_hull snd_max rs run all e h.1)

within_set : (snd_max : ℕ) (rs : List Run) (k : ℕ) (run : Run) → run.end ≤ snd_max → AreWithin snd_max rs → AreWithin snd_max (set rs k run)
within_set snd_max [] k run e h = tt
within_set snd_max (r ∷ rs) zero run e h = (e, h.1)
within_set snd_max (r ∷ rs) (suc k) run e h = (h.0, within_set snd_max rs k run e h.1)

within_placed : (snd_max : ℕ) (offset : Option ℕ) (rs : List Run) (run : Run) → run.end ≤ snd_max → AreWithin snd_max rs → AreWithin snd_max (placed_at offset rs run)
within_placed snd_max None rs run e h = h
within_placed snd_max (Some k) rs run e h = within_set snd_max rs k run e h

within_noted : (snd_max : ℕ) (rs : List Run) (run : Run) → run.end ≤ snd_max → AreWithin snd_max rs → AreWithin snd_max (noted rs run)
within_noted snd_max rs run e h =
    within_placed snd_max (free_offset (without rs run)) (without rs run) (hull_of rs run) (within_hull snd_max rs run run e h) (within_without snd_max rs run h)

-- THE RANGES OF A SEGMENT

and_last : (a b : Bool) → (a && b) ≡ true → b ≡ true
and_last true b e = e
and_last false b e = clash (sym e)

run_sent : (b : Tcb) (start end : ℕ) → (run_within b start end).end ≤ b.sender.snd_max
run_sent b start end =
    cond_both (not (start == 0) && (nat_lt start end && nat_le end b.sender.snd_max)) (record { start = start; end = end }) no_run
    (λ (r : Run). r.end ≤ b.sender.snd_max)
    (λ e.
    leb-true end b.sender.snd_max
    (and_last (nat_lt start end) (nat_le end b.sender.snd_max) (and_last (not (start == 0)) (nat_lt start end && nat_le end b.sender.snd_max) e)))
    (λ _. least b.sender.snd_max)

range_sent : (b : Tcb) (range : Option (ℕ × ℕ)) → (run_of b range).end ≤ b.sender.snd_max
range_sent b None = least b.sender.snd_max
range_sent b (Some range) = run_sent b (distance_after b.sender.una (record { 0 = range.0 })) (distance_after b.sender.una (record { 0 = range.1 }))

within_range : (b : Tcb) (rs : List Run) (range : Option (ℕ × ℕ)) → AreWithin b.sender.snd_max rs → AreWithin b.sender.snd_max (range_noted b rs range)
within_range b rs range h =
    cond_both (is_run (run_of b range)) (noted rs (run_of b range)) rs (AreWithin b.sender.snd_max)
    (λ _. within_noted b.sender.snd_max rs (run_of b range) (range_sent b range) h) (λ _. h)

within_all : (b : Tcb) (rs : List Run) (ranges : List (Option (ℕ × ℕ))) → AreWithin b.sender.snd_max rs → AreWithin b.sender.snd_max (all_noted b rs ranges)
within_all b rs [] h = h
within_all b rs (range ∷ more) h = within_all b (range_noted b rs range) more (within_range b rs range h)

-- a probe changes no run
armed_runs : (b : Tcb) (l : Loss) (now : ℤ) (P : List Run → Type 0) → P l.board.runs → P (probe_armed b l now).board.runs
armed_runs b l now P h =
    cond_both (probes_losses b && not l.probed) (record l { probe_at = probe_from b now }) l (λ (x : Loss). P x.board.runs) (λ _. h) (λ _. h)

within_ranges : (b : Tcb) (header : TcpHeader) (now : ℤ) → AreWithin b.sender.snd_max b.loss.board.runs
    → AreWithin b.sender.snd_max (ranges_noted b header now).board.runs
within_ranges b header now h =
    cond_both b.peer.sack (heard_more b runs now) b.loss (λ (l : Loss). AreWithin b.sender.snd_max l.board.runs)
    (λ _.
    cond_both (nat_lt (held b.loss.board.runs) (held runs))
    (probe_armed b (record b.loss { board = record { runs = runs }; probes = false; probed = false }) now)
    (with_board b.loss runs) (λ (l : Loss). AreWithin b.sender.snd_max l.board.runs)
    (λ _. armed_runs b (record b.loss { board = record { runs = runs }; probes = false; probed = false }) now (AreWithin b.sender.snd_max) all)
    (λ _. all))
    (λ _. h)
  where
    runs : List Run
    runs = all_noted b b.loss.board.runs header.options.sack_ranges

    all : AreWithin b.sender.snd_max runs
    all = within_all b b.loss.board.runs header.options.sack_ranges h

within_acked : (b : Tcb) (by queued : ℕ) (partial : Bool) (now : ℤ) → AreWithin b.sender.snd_max b.loss.board.runs
    → AreWithin (b.sender.snd_max - by) (loss_acked (una_risen b by queued now) by partial now).board.runs
within_acked b by queued partial now h =
    cond_both (by == 0) b.loss (probe_armed (una_risen b by queued now) (loss_lowered b.loss by partial) now)
    (λ (l : Loss). AreWithin (b.sender.snd_max - by) l.board.runs)
    (λ none. within_more b.sender.snd_max (b.sender.snd_max - by) b.loss.board.runs (same b.sender.snd_max by (eqb-true by 0 none)) h)
    (λ _. armed_runs (una_risen b by queued now) (loss_lowered b.loss by partial) now (AreWithin (b.sender.snd_max - by))
    (within_after b.loss.board.runs by b.sender.snd_max h))
  where
    same : (snd_max by : ℕ) → by ≡ 0 → snd_max ≤ snd_max - by
    same snd_max by e = omega arith

-- A SEGMENT COMES

right : (k : Known) → AreWithin k.snd_max k.runs → is_listening k.state ≡ false → IsKnownRight k
right k within not = record { within = within; listens = λ e. clash (sym e ∙ not) }

module _ (cx : ContextValue) (ip : IpRepr) (header : TcpHeader) (bytes : List ℕ) where
  abbrev Right : Arrived → Type 0
  Right a = IsKnownRight (known_of a.socket.tcb)

  right_content : (x : TcpValue) → IsKnownRight (known_of x.tcb) → Content cx ip header bytes Right x
  right_content x k = record {
    plain = (λ _. k, k);
    fin = λ _ takes. (λ _. right _ k.within (fin_on x.tcb.state takes), right _ k.within (fin_on x.tcb.state takes));
    ordered = λ _ _ _ _. (λ _. k, k);
    ordered_fin = λ _ _ _ takes. (λ _. right _ k.within (fin_on x.tcb.state takes), right _ k.within (fin_on x.tcb.state takes));
    early = λ _ _ _ _. k;
  }

  right_drawing : (x : TcpValue) → IsKnownRight (known_of x.tcb) → Drawing cx ip header bytes Right x
  right_drawing x k = record { answers = λ _. k; at_once = k; pauses = k }

  acked_right : (b : Tcb) (by queued : ℕ) (state : State) → IsKnownRight (known_of b) → is_listening state ≡ false
      → IsKnownRight (record {
        state = state;
        runs = (loss_acked (una_risen b by queued cx.instant) by (is_partial b by) cx.instant).board.runs;
        snd_max = b.sender.snd_max - by;
      })
  acked_right b by queued state k not = right _ (within_acked b by queued (is_partial b by) cx.instant k.within) not

  heeded_right : (u : TcpValue) (by : ℕ) (b : Tcb) → b.sender.snd_max ≡ u.tcb.sender.snd_max - by →
      AreWithin b.sender.snd_max b.loss.board.runs → is_past u.tcb.state ≡ true
      → IsKnownRight (record {
        state = state_after_ack u.tcb by (queued_in u);
        runs = (ranges_noted b header cx.instant).board.runs;
        snd_max = b.sender.snd_max;
      })
  heeded_right u by b snd_max within past = right _ (within_ranges b header cx.instant within) (state_past u by past)

  right_received : (u : TcpValue) → IsKnownRight (known_of u.tcb) → is_past u.tcb.state ≡ true → Received cx ip header bytes Right u
  right_received u k past = record {
    stays = k;
    refuses = k;
    draws = right_drawing u k;
    falls = λ _ _ _. record { within = within_nothing 0 32; listens = λ _. refl };
    ends = λ _ _ _. right _ k.within refl;
    closes = λ by _ _. acked_right (timed cx.instant header u by).tcb by (queued_in u) In.Closed (echoed by) refl;
    taken = λ by _ _.
        right_content _
        (heeded_right u by (tsval_taken (acked_open (timed cx.instant header u by) by cx.instant).tcb header cx.instant) refl (within_now by) past);
    taken_window = λ by _ _.
        right_content _
        (heeded_right u by (tsval_taken (windowed (acked_open (timed cx.instant header u by) by cx.instant).tcb header) header cx.instant) refl (within_now by)
        past);
    news = λ by _ _.
        right_drawing _
        (acked_right (timed cx.instant header u by).tcb by (queued_in u) (state_after_ack u.tcb by (queued_in u)) (echoed by) (state_past u by past));
    outside = right_drawing _ k;
    old = λ _. right_content _ k;
  }
    where
      -- a round trip by an echo changes nothing of it
      echoed : (by : ℕ) → IsKnownRight (known_of (timed cx.instant header u by).tcb)
      echoed by = k

      within_now : (by : ℕ) → AreWithin (u.tcb.sender.snd_max - by)
          (loss_acked (una_risen (timed cx.instant header u by).tcb by (queued_in u) cx.instant) by
          (is_partial (timed cx.instant header u by).tcb by) cx.instant).board.runs
      within_now by =
          within_acked (timed cx.instant header u by).tcb by (queued_in u) (is_partial (timed cx.instant header u by).tcb by) cx.instant k.within

  right_opening : (u : TcpValue) → IsKnownRight (known_of u.tcb) → Opening cx ip header bytes Right u
  right_opening u k = record {
    opens = λ at _.
        record { within = subst (AreWithin 0) (sym (k.listens (ap is_listening at))) (within_nothing 0 32); listens = λ e. clash (sym e) };
    refuses = k;
    ends = λ _. right _ k.within refl;
    connects = λ at _.
        acked_right (tsecr_taken (took_syn u.tcb header) header 1 cx.instant) 1 0 In.Established (right _ k.within (ap is_listening at)) refl;
    crosses = λ at _. right _ k.within refl;
  }

  right_arrival : (v : TcpValue) → IsKnownRight (known_of v.tcb) → Right (arrives cx v ip header bytes)
  right_arrival v k = by_arrival cx ip header bytes Right v k (λ _. right_opening (unoffered v) k) (λ past. right_received (unoffered v) k past)

-- IT IS ASKED

asked_right : (b : Tcb) (now : ℤ) → IsKnownRight (known_of b) → IsKnownRight (known_of (asked b now))
asked_right b now k =
    cond_both (is_over now b.timers.counts_from)
    (record b {
      sender = record b.sender { unanswered = one_more b.sender.unanswered };
      timers = record b.timers { counts_from = Some (timeout_from now b.round_trip) };
    })
    b (λ (c : Tcb). IsKnownRight (known_of c)) (λ _. k) (λ _. k)

at_most : (a b : ℕ) → a ≤ max a b
at_most a b = omega arith

-- a segment goes that ends there
went_right : (b : Tcb) (l : Loss) (c : Tcb) (end : ℕ) (now : ℤ) → l.board ≡ b.loss.board → is_listening b.state ≡ false → IsKnownRight (known_of b)
    → IsKnownRight (record { state = b.state; runs = (probe_armed c l now).board.runs; snd_max = max b.sender.snd_max end })
went_right b l c end now same not k =
    right _
    (armed_runs c l now (AreWithin (max b.sender.snd_max end))
    (subst (λ board. AreWithin (max b.sender.snd_max end) board.runs) (sym same)
    (within_more b.sender.snd_max (max b.sender.snd_max end) b.loss.board.runs (at_most b.sender.snd_max end) k.within)))
    not

-- SND.NXT is past the segment, and the retransmission timer runs
abbrev moved : Tcb → OpenOffer → ℕ → Tcb
moved b o queued = timer_started (nxt_moved b (end_of b o) queued o.instant) o.instant

-- what is retransmitted is known by its instant
abbrev marked : Tcb → OpenOffer → Loss
marked c o = record c.loss { undo = undo_sent c c.loss.undo o.instant }

sent_right : (kind : OfferKind) (b : Tcb) (o : OpenOffer) (queued : ℕ) → is_listening b.state ≡ false → IsKnownRight (known_of b) →
    IsKnownRight (known_of (sent_as kind b o queued))
sent_right Kind.Reset b o queued not k = right _ k.within refl
sent_right Kind.Syn b o queued not k = went_right b (marked (moved (syn_was_sent b o) o queued) o) (moved (syn_was_sent b o) o queued) (end_of b o) o.instant refl not k
sent_right Kind.FastRetransmission b o queued not k =
    let c = moved (resent b (end_of b o)) o queued in went_right b (marked c o) c (end_of b o) o.instant refl not k
sent_right Kind.Payload b o queued not k = went_right b (marked (moved b o queued) o) (moved b o queued) (end_of b o) o.instant refl not k
sent_right Kind.Probe b o queued not k =
    asked_right (probed b (end_of b o) o.instant) o.instant
    (right _ (within_more b.sender.snd_max (max b.sender.snd_max (end_of b o)) b.loss.board.runs (at_most b.sender.snd_max (end_of b o)) k.within) not)
sent_right Kind.KeepAlive b o queued not k = asked_right b o.instant k
sent_right other b o queued not k = k

abbrev RightOffer : Offered TcpValue → Type 0
RightOffer o = IsKnownRight (known_of o.socket.tcb) × ((is_listening o.socket.tcb.state ≡ false) ⊎ (o.socket.offered ≡ None))

module _ (cx : ContextValue) where
  right_last : (pair : FourTuple) (x : TcpValue) → IsKnownRight (known_of x.tcb) → is_listening x.tcb.state ≡ false → LastRules cx pair RightOffer x
  right_last pair x k not = record {
    probe = λ _ _. (k, inl not);
    window_limited = λ _ _. (k, inl not);
    ack = λ _. (k, inl not);
    update = λ _ _. (k, inl not);
    keep_alive = λ _ _. (k, inl not);
    quiet = λ _. (k, inl not);
  }

  right_first : (pair : FourTuple) (w : TcpValue) → IsKnownRight (known_of w.tcb) → is_listening w.tcb.state ≡ false → FirstRules cx pair RightOffer w
  right_first pair w k not =
      record { syn = λ _. (k, inl not); again = λ _ _. (k, inl not); payload = λ _ _. (k, inl not); last = λ _. right_last pair (probing cx w) k not }

  right_rules : (v : TcpValue) → IsInOrder (sending_of v) → IsKnownRight (known_of v.tcb) → Rules cx v RightOffer
  right_rules v p k = record {
    nobody = λ _. (k, inr refl);
    time_wait = λ _. (right _ k.within refl, inr refl);
    timeout = λ _. (right _ k.within refl, inr refl);
    closed = λ _. (k, inr refl);
    reset = λ _ closed _. (k, inl (not_listening v.tcb.state closed));
    falls = λ _ _ _. (record { within = within_nothing 0 32; listens = λ _. refl }, inr refl);
    over = λ _ _ _. (right _ k.within refl, inr refl);
    backs = λ pair named _ _. right_first pair (with_tcb (unoffered v) (backed_off_now (begun cx v))) k (unnamed v pair p named);
    probes = λ pair named _ _ _. right_first pair (with_tcb (unoffered v) (loss_probed (begun cx v))) k (unnamed v pair p named);
    goes = λ pair named _ _. right_first pair (with_tcb (unoffered v) (begun cx v)) k (unnamed v pair p named);
  }
    where
      not_listening : (state : State) → is_closed state ≡ true → is_listening state ≡ false
      not_listening In.Closed e = refl
      not_listening In.Listen e = clash (sym e)
      not_listening other e = refl

  right_offer : (v : TcpValue) → IsInOrder (sending_of v) → IsKnownRight (known_of v.tcb) → RightOffer (offer_of cx v)
  right_offer v p k = by_rules cx v RightOffer (right_rules v p k)

settled_right :
    (offered : Option OpenOffer) (x : TcpValue) → (is_listening x.tcb.state ≡ false) ⊎ (offered ≡ None) → IsKnownRight (known_of x.tcb)
    → IsKnownRight (known_of (sent_off offered x).tcb)
settled_right None x which k = k
settled_right (Some o) x which k =
    ⊎_elim (λ not. sent_right o.kind (recorded x.tcb o (room_of x.received)) o (queued_in x) not k) (λ none. absurd (cc)) which

-- ITS USER CALLS

set_right : (v : TcpValue) (setting : Setting) → IsKnownRight (known_of v.tcb) → IsKnownRight (known_of (sets v setting).tcb)
set_right v (Timeout duration) k = k
set_right v (KeepAlive interval) k = k
set_right v (AckDelay duration) k = k
set_right v (Nagle enabled) k = k
set_right v (HopLimit limit) k = k
set_right v (Timestamps generator) k = k
set_right v (Paused paused) k = k
set_right v (Retries limit) k = k
set_right v (MinRto duration) k = k
set_right v (FineTimer fine) k = k
set_right v (Congestion control) k = k

connected_right : (v : TcpValue) (names : Option FourTuple) (number : ℕ) → IsKnownRight (known_of v.tcb) →
    IsKnownRight (known_of (connected_by v names number).tcb)
connected_right v None number k = k
connected_right v (Some pair) number k = record { within = within_nothing 0 32; listens = λ _. refl }

pub event_right : (v : TcpValue) (it : Event) → IsInOrder (sending_of v) → IsKnownRight (known_of v.tcb) → IsKnownRight (known_of (after v it).tcb)
event_right v (Comes cx ip header bytes) p k = right_arrival cx ip header bytes v k
event_right v (Asked cx true) p k =
    let it = right_offer cx v p k in settled_right (offer_of cx v).socket.offered (unoffered (offer_of cx v).socket) it.1 it.0
event_right v (Asked cx false) p k = (right_offer cx v p k).0
event_right v (Listens endpoint) p k =
    cond_both (is_closed v.tcb.state && not (endpoint.port == 0)) (listening v endpoint) (unoffered v) (λ (w : TcpValue). IsKnownRight (known_of w.tcb))
    (λ _. record { within = within_nothing 0 32; listens = λ _. refl }) (λ _. k)
event_right v (Connects cx remote local) p k =
    cond_both (is_closed v.tcb.state) (connected_by v (four_tuple_for cx remote local) (number_for cx (four_tuple_for cx remote local))) (unoffered v)
    (λ (w : TcpValue). IsKnownRight (known_of w.tcb))
    (λ _. connected_right v (four_tuple_for cx remote local) (number_for cx (four_tuple_for cx remote local)) k) (λ _. k)
event_right v (Sends bytes) p k =
    cond_both (takes_writes v.tcb.state) (sent_more v (enqueued (anchored v.queued) (take (min (length bytes) (length v.queued.free)) bytes))) (unoffered v)
    (λ (w : TcpValue). IsKnownRight (known_of w.tcb)) (λ _. k) (λ _. k)
event_right v (Reads count) p k = k
event_right v Closes p k =
    cond_both (is_opening v.tcb.state) (ended (unoffered v)) (with_tcb (unoffered v) (record v.tcb { state = after_close v.tcb.state }))
    (λ (w : TcpValue). IsKnownRight (known_of w.tcb))
    (λ _. right _ k.within refl) (λ _. right _ k.within (close_on v.tcb.state))
event_right v Aborts p k =
    cond_both (is_time_wait v.tcb.state) (ended (unoffered v))
    (with_tcb (unoffered v) (record v.tcb { state = In.Closed; sender = record v.tcb.sender { reset_due = is_some v.tcb.names.pair } }))
    (λ (w : TcpValue). IsKnownRight (known_of w.tcb)) (λ _. right _ k.within refl) (λ _. right _ k.within refl)
event_right v (Sets setting) p k = set_right v setting k

led_right : (v : TcpValue) (events : List Event) → IsInOrder (sending_of v) → IsKnownRight (known_of v.tcb) → IsKnownRight (known_of (led v events).tcb)
led_right v [] p k = k
led_right v (it ∷ more) p k = led_right (after v it) more (event_order v it p) (event_right v it p k)

pub led_held : (capacity : ℕ) (queued : Ring ℕ) (events : List Event)
    → AreWithin (led (new_socket capacity queued) events).tcb.sender.snd_max (led (new_socket capacity queued) events).tcb.loss.board.runs
led_held capacity queued events =
    (led_right (new_socket capacity queued) events (new_order capacity queued)
    (record { within = within_nothing 0 32; listens = λ _. refl })).within

-- PROBES

armed_not : (b : Tcb) (l : Loss) (now : ℤ) → l.probed ≡ true → (probe_armed b l now).probe_at ≡ l.probe_at
armed_not b l now e =
    cond_both (probes_losses b && not l.probed) (record l { probe_at = probe_from b now }) l (λ (x : Loss). x.probe_at ≡ l.probe_at)
    (λ arms. clash (sym (and_last (probes_losses b) (not l.probed) arms) ∙ ap not e)) (λ _. refl)

asked_probe : (b : Tcb) (now : ℤ) → (asked b now).loss.probe_at ≡ b.loss.probe_at
asked_probe b now =
    cond_both (is_over now b.timers.counts_from)
    (record b {
      sender = record b.sender { unanswered = one_more b.sender.unanswered };
      timers = record b.timers { counts_from = Some (timeout_from now b.round_trip) };
    })
    b (λ (c : Tcb). c.loss.probe_at ≡ b.loss.probe_at) (λ _. refl) (λ _. refl)

pub probed_once : (kind : OfferKind) (b : Tcb) (o : OpenOffer) (queued : ℕ) → b.loss.probed ≡ true
    → (sent_as kind b o queued).loss.probe_at ≡ b.loss.probe_at
probed_once Kind.Syn b o queued e = armed_not (moved (syn_was_sent b o) o queued) (marked (moved (syn_was_sent b o) o queued) o) o.instant e
probed_once Kind.FastRetransmission b o queued e =
    let c = moved (resent b (end_of b o)) o queued in armed_not c (marked c o) o.instant e
probed_once Kind.Payload b o queued e = armed_not (moved b o queued) (marked (moved b o queued) o) o.instant e
probed_once Kind.Probe b o queued e = asked_probe (probed b (end_of b o) o.instant) o.instant
probed_once Kind.KeepAlive b o queued e = asked_probe b o.instant
probed_once other b o queued e = refl
