-- A rescue goes once in a recovery.
use Rattle.std.proofs.Common.{◌≡◌, ◌⊎◌, inl, inr, ⊎_elim, ℕ, ◌+◌, ◌-◌, ◌<◌, ◌≤◌, ◌==◌, nat_lt, not, ◌&&◌, ◌||◌, min, max, ℤ, Bool, true, false}
use Rattle.std.proofs.Common.{if◌then◌else◌, List, [], ◌∷◌, length, take, Option, Some, None, is_some, refl, sym, ap, ◌∙◌, subst, arith}
use Rattle.std.proofs.lemmas.Bool.{cond_both}
use Rattle.ip_wire.specs.IpRepr.{IpRepr}
use Rattle.ip_wire.specs.TcpHeader.{TcpHeader}
use Rattle.net_base.specs.Ring.{Ring, anchored, enqueued}
use Rattle.tcp_state.specs.Moments.{is_due, is_over, timeout_from}
use Rattle.tcp_state.specs.Scoreboard.{held, sum_of}
use Rattle.tcp_state.specs.States.{is_closed, is_opening, is_time_wait, takes_writes, after_close}
use Rattle.tcp_state.specs.declared.endpoints.FourTuple.{FourTuple}
use Rattle.tcp_state.specs.declared.offer.OfferKind.{OfferKind}
use Rattle.tcp_state.specs.declared.offer.OfferKind.TheVariants as Kind
use Rattle.tcp_state.specs.declared.offer.OpenOffer.{OpenOffer}
use Rattle.tcp_state.specs.declared.scoreboard.Run.{Run}
use Rattle.tcp_state.specs.declared.state.State.TheVariants as In
use Rattle.tcp_block.specs.Acknowledged.{una_moved, una_risen, is_partial, windowed, ranges_taken, counted, duplicates_after, begins_recovery}
use Rattle.tcp_block.specs.Arrival.{arrives}
use Rattle.tcp_block.specs.BaseOffers.{Offered}
use Rattle.tcp_block.specs.TcbRules.{past_snd_max}
use Rattle.tcp_block.specs.Calls.{listening, connected_by, four_tuple_for, sent_more}
use Rattle.tcp_block.specs.Checks.{Check, acknowledgement_check}
use Rattle.tcp_block.specs.Checks.Check.{Passes}
use Rattle.tcp_block.specs.Context.{ContextValue}
use Rattle.tcp_block.specs.Isn.{number_for}
use Rattle.tcp_block.specs.LossRecovery.{with_board, probe_armed, probe_from, probes_losses, all_noted, heard_more, ranges_noted, loss_lowered, loss_probed}
use Rattle.tcp_block.specs.LossRecovery.{loss_probe_deadline, probe_begins, is_rescue, rescue_after, fills_hole, fills_early, rescues}
use Rattle.tcp_block.specs.Offers.{offer_of}
use Rattle.tcp_block.specs.Opening.{took_syn}
use Rattle.tcp_block.specs.Retries.{asked, one_more}
use Rattle.tcp_block.specs.Settled.{end_of, nxt_moved, timer_started, syn_was_sent, resent, probed, sent_as, sent_off, recorded}
use Rattle.tcp_block.specs.Timestamps.{tsval_taken, tsecr_taken}
use Rattle.tcp_block.specs.Undo.{undo_sent}
use Rattle.tcp_block.specs.Value.{TcpValue, Arrived, with_tcb, unoffered, ended, new_socket, queued_in, room_of}
use Rattle.tcp_block.specs.declared.tcb.Tcb.{Tcb}
use Rattle.tcp_block.specs.declared.tcb.Loss.{Loss}
use Rattle.tcp_block.proofs.Undone.{undone_cases}
use Rattle.tcp_invariants.specs.Retransmission.{heard_by}
use Rattle.tcp_invariants.specs.Early.{begun_by, begins, is_again, rescues_by, rescues_with, is_spent, spent_after, RescueOnce}
use Rattle.tcp_invariants.specs.Events.{Event, Setting, after, set as sets}
use Rattle.tcp_invariants.specs.Events.Event.{Comes, Asked, Listens, Connects, Sends, Reads, Closes, Aborts, Sets}
use Rattle.tcp_invariants.specs.Events.Setting.{Timeout, KeepAlive, AckDelay, Nagle, HopLimit, Timestamps, Paused, Retries, Congestion, MinRto, FineTimer}
use Rattle.tcp_invariants.specs.InOrder.{sending_of, IsInOrder}
use Rattle.tcp_invariants.specs.Recovery.{IsPaced, recovery_of}
use Rattle.tcp_invariants.proofs.ArrivalCases.{timed, by_arrival, Received, Opening, Content, Drawing, acked_open, heeded}
use Rattle.tcp_invariants.proofs.EarlyRules.{early, rescue_parts}
use Rattle.tcp_invariants.proofs.OfferCases.{Rules, FirstRules, LastRules, by_rules, begun, probing}
use Rattle.tcp_invariants.proofs.OrderSteps.{clash}
use Rattle.tcp_invariants.proofs.OrderRules.{event_order, new_order}
use Rattle.tcp_invariants.proofs.RecoveryRules.{event_paced, new_paced}

left_true : (a b : Bool) → (a && b) ≡ true → a ≡ true
left_true true b e = refl
left_true false b e = clash (sym e)

right_true : (a b : Bool) → (a && b) ≡ true → b ≡ true
right_true true b e = e
right_true false b e = clash (sym e)

not_true : (a : Bool) → not a ≡ true → a ≡ false
not_true true e = clash (sym e)
not_true false e = refl

-- RescueRxt lies at `recover` or after, so no rescue goes as long as the recovery lasts
abbrev Following : Tcb → Type 0
Following b = b.sender.recover ≤ b.loss.rescue_rxt

least : (n : ℕ) → 0 ≤ n
least n = omega arith

-- WHAT LEAVES IT

armed_rescue : (b : Tcb) (l : Loss) (now : ℤ) → (probe_armed b l now).rescue_rxt ≡ l.rescue_rxt
armed_rescue b l now =
    cond_both (probes_losses b && not l.probed) (record l { probe_at = probe_from b now }) l (λ (x : Loss). x.rescue_rxt ≡ l.rescue_rxt) (λ _. refl) (λ _. refl)

ranges_rescue : (b : Tcb) (header : TcpHeader) (now : ℤ) → (ranges_noted b header now).rescue_rxt ≡ b.loss.rescue_rxt
ranges_rescue b header now =
    cond_both b.peer.sack (heard_more b runs now) b.loss (λ (l : Loss). l.rescue_rxt ≡ b.loss.rescue_rxt)
    (λ _.
    cond_both (nat_lt (held b.loss.board.runs) (held runs))
    (probe_armed b (record b.loss { board = record { runs = runs }; probes = false; probed = false }) now)
    (with_board b.loss runs) (λ (l : Loss). l.rescue_rxt ≡ b.loss.rescue_rxt)
    (λ _. armed_rescue b (record b.loss { board = record { runs = runs }; probes = false; probed = false }) now) (λ _. refl))
    (λ _. refl)
  where
    runs : List Run
    runs = all_noted b b.loss.board.runs header.options.sack_ranges

ranged_following : (b : Tcb) (header : TcpHeader) (now : ℤ) → Following b → Following (ranges_taken b header now)
ranged_following b header now k = subst (λ (n : ℕ). b.sender.recover ≤ n) (sym (ranges_rescue b header now)) k

risen_following : (b : Tcb) (by queued : ℕ) (now : ℤ) → Following b → Following (una_moved b by queued now)
risen_following b by queued now k =
    cond_both (by == 0) b.loss (probe_armed (una_risen b by queued now) (loss_lowered b.loss by (is_partial b by)) now)
    (λ (l : Loss). b.sender.recover - by ≤ l.rescue_rxt)
    (λ _. minus b.sender.recover by b.loss.rescue_rxt k)
    (λ _.
    subst (λ (n : ℕ). b.sender.recover - by ≤ n) (sym (armed_rescue (una_risen b by queued now) (loss_lowered b.loss by (is_partial b by)) now))
    (both b.sender.recover b.loss.rescue_rxt by k))
  where
    minus : (n by k : ℕ) → n ≤ k → n - by ≤ k
    minus n by k e = omega arith

    both : (n k by : ℕ) → n ≤ k → n - by ≤ k - by
    both n k by e = omega arith

counted_following : (b : Tcb) (count : ℕ) (now : ℤ) → begins_recovery b count ≡ false → Following b → Following (counted b count now)
counted_following b count now calm k =
    subst (λ (t : Bool). (if t then past_snd_max b else b.sender.recover) ≤ (if t then 0 else b.loss.rescue_rxt)) (sym calm) k

-- A SEGMENT COMES

module _ (cx : ContextValue) (ip : IpRepr) (header : TcpHeader) (bytes : List ℕ) (v : TcpValue) (k : Following v.tcb) where
  abbrev told : Bool
  told = begun_by (acknowledgement_check v.tcb header.ack_number) v header (length bytes) cx.instant

  abbrev Kept : Arrived → Type 0
  Kept a = told ≡ false → Following a.socket.tcb

  content : (x : TcpValue) → (told ≡ false → Following x.tcb) → Content cx ip header bytes Kept x
  content x f = record {
    plain = (λ _. f, f);
    fin = λ _ _. (λ _. f, f);
    ordered = λ _ _ _ _. (λ _. f, f);
    ordered_fin = λ _ _ _ _. (λ _. f, f);
    early = λ _ _ _ _. f;
  }

  drawing : (x : TcpValue) → (told ≡ false → Following x.tcb) → Drawing cx ip header bytes Kept x
  drawing x f = record { answers = λ _. f; at_once = f; pauses = f }

  heard_following : (by : ℕ) → Following (timed cx.instant header (unoffered v) by).tcb
  heard_following by = undone_cases v.tcb header by (queued_in v) Following k (λ _ _ _. least _)

  risen : (by : ℕ) → Following (una_moved (timed cx.instant header (unoffered v) by).tcb by (queued_in v) cx.instant)
  risen by = risen_following (timed cx.instant header (unoffered v) by).tcb by (queued_in v) cx.instant (heard_following by)

  -- a recovery begins by what the check says
  told_by : (by : ℕ) → acknowledgement_check v.tcb header.ack_number ≡ Passes by
      → told ≡ begins_recovery (heard_by v header by cx.instant) (duplicates_after v.tcb header (length bytes) by)
  told_by by e = ap (λ (c : Check). begun_by c v header (length bytes) cx.instant) e

  heeded_following : (by : ℕ) (b : Tcb) → acknowledgement_check v.tcb header.ack_number ≡ Passes by → Following b
      → begins_recovery (ranges_taken (tsval_taken b header cx.instant) header cx.instant) (duplicates_after v.tcb header (length bytes) by)
      ≡ begins_recovery (heard_by v header by cx.instant) (duplicates_after v.tcb header (length bytes) by)
      → told ≡ false → Following (heeded cx.instant header (length bytes) (unoffered v) by b).tcb
  heeded_following by b passes j alike calm =
      counted_following (ranges_taken (tsval_taken b header cx.instant) header cx.instant) (duplicates_after v.tcb header (length bytes) by) cx.instant
      (alike ∙ (sym (told_by by passes) ∙ calm))
      (ranged_following (tsval_taken b header cx.instant) header cx.instant j)

  received : Received cx ip header bytes Kept (unoffered v)
  received = record {
    stays = λ _. k;
    refuses = λ _. k;
    draws = drawing (unoffered v) (λ _. k);
    falls = λ _ _ _ _. least _;
    ends = λ _ _ _ _. k;
    closes = λ by _ _ _. risen by;
    taken = λ by passes _.
        let b = (acked_open (timed cx.instant header (unoffered v) by) by cx.instant).tcb in
        content (heeded cx.instant header (length bytes) (unoffered v) by b) (heeded_following by b passes (risen by) refl);
    taken_window = λ by passes _.
        let b = windowed (acked_open (timed cx.instant header (unoffered v) by) by cx.instant).tcb header in
        content (heeded cx.instant header (length bytes) (unoffered v) by b) (heeded_following by b passes (risen by) refl);
    news = λ by _ _. drawing _ (λ _. risen by);
    outside = drawing _ (λ _. k);
    old = λ _. content _ (λ _. k);
  }

  opening : Opening cx ip header bytes Kept (unoffered v)
  opening = record {
    opens = λ _ _ _. least _;
    refuses = λ _. k;
    ends = λ _ _. k;
    connects = λ _ _ _. risen_following (tsecr_taken (took_syn v.tcb header) header 1 cx.instant) 1 0 cx.instant k;
    crosses = λ _ _ _. k;
  }

  arrival_following : Kept (arrives cx v ip header bytes)
  arrival_following = by_arrival cx ip header bytes Kept v (λ _. k) (λ _. opening) (λ _. received)

-- IT IS ASKED

asked_following : (b : Tcb) (now : ℤ) → Following b → Following (asked b now)
asked_following b now k =
    cond_both (is_over now b.timers.counts_from)
    (record b {
      sender = record b.sender { unanswered = one_more b.sender.unanswered };
      timers = record b.timers { counts_from = Some (timeout_from now b.round_trip) };
    })
    b Following (λ _. k) (λ _. k)

-- SND.NXT is past the segment, and the retransmission timer runs
abbrev moved : Tcb → OpenOffer → ℕ → Tcb
moved b o queued = timer_started (nxt_moved b (end_of b o) queued o.instant) o.instant

abbrev marked : Tcb → OpenOffer → Loss
marked c o = record c.loss { undo = undo_sent c c.loss.undo o.instant }

went_following : (c : Tcb) (o : OpenOffer) (recover : ℕ) → recover ≤ c.loss.rescue_rxt → recover ≤ (probe_armed c (marked c o) o.instant).rescue_rxt
went_following c o recover e = subst (λ (n : ℕ). recover ≤ n) (sym (armed_rescue c (marked c o) o.instant)) e

same_least : (n : ℕ) → n ≤ n
same_least n = omega arith

again_following : (b : Tcb) (end : ℕ) → Following b → b.sender.recover ≤ rescue_after b end
again_following b end k =
    cond_both (b.reno.recovers && b.sender.resend) (max b.loss.rescue_rxt (sum_of end 1)) (if is_rescue b then b.sender.recover else b.loss.rescue_rxt)
    (λ (n : ℕ). b.sender.recover ≤ n) (λ _. more b.sender.recover b.loss.rescue_rxt (sum_of end 1) k)
    (λ _.
    cond_both (is_rescue b) b.sender.recover b.loss.rescue_rxt (λ (n : ℕ). b.sender.recover ≤ n) (λ _. same_least b.sender.recover) (λ _. k))
  where
    more : (n k end : ℕ) → n ≤ k → n ≤ max k end
    more n k end e = omega arith

sent_following : (kind : OfferKind) (b : Tcb) (o : OpenOffer) (queued : ℕ) → Following b → Following (sent_as kind b o queued)
sent_following Kind.Syn b o queued k = went_following (moved (syn_was_sent b o) o queued) o b.sender.recover k
sent_following Kind.FastRetransmission b o queued k =
    went_following (moved (resent b (end_of b o)) o queued) o b.sender.recover (again_following b (end_of b o) k)
sent_following Kind.Payload b o queued k = went_following (moved b o queued) o b.sender.recover k
sent_following Kind.Probe b o queued k = asked_following (probed b (end_of b o) o.instant) o.instant k
sent_following Kind.KeepAlive b o queued k = asked_following b o.instant k
sent_following other b o queued k = k

-- a rescue isn't what is retransmitted at SND.UNA
rescue_alone : (b : Tcb) → is_rescue b ≡ true → b.sender.resend ≡ false
rescue_alone b e =
    alone b.sender.resend (b.loss.probes || (fills_hole b || fills_early b))
    (left_true (not (b.sender.resend || (b.loss.probes || (fills_hole b || fills_early b)))) (rescues b) e)
  where
    alone : (a b : Bool) → not (a || b) ≡ true → a ≡ false
    alone true b e = clash (sym e)
    alone false b e = refl

-- it sets RescueRxt to RecoveryPoint
rescue_sets : (b : Tcb) (end : ℕ) → is_rescue b ≡ true → rescue_after b end ≡ b.sender.recover
rescue_sets b end e =
    ap (λ (t : Bool). if t then max b.loss.rescue_rxt (sum_of end 1) else if is_rescue b then b.sender.recover else b.loss.rescue_rxt)
    (none b.reno.recovers b.sender.resend (rescue_alone b e))
    ∙ ap (λ (t : Bool). if t then b.sender.recover else b.loss.rescue_rxt) e
  where
    none : (a b : Bool) → b ≡ false → (a && b) ≡ false
    none true b e = e
    none false b e = refl

rescue_following : (kind : OfferKind) (b : Tcb) (o : OpenOffer) (queued : ℕ) → is_again kind ≡ true → is_rescue b ≡ true → Following (sent_as kind b o queued)
rescue_following Kind.FastRetransmission b o queued again e =
    went_following (moved (resent b (end_of b o)) o queued) o b.sender.recover
    (subst (λ (n : ℕ). b.sender.recover ≤ n) (sym (rescue_sets b (end_of b o) e)) (same_least b.sender.recover))
rescue_following other b o queued again e = clash (sym again)

module _ (cx : ContextValue) (v : TcpValue) (k : Following v.tcb) (calm : begins v (Asked cx true) ≡ false) where
  abbrev Kept_offer : Offered TcpValue → Type 0
  Kept_offer o = Following o.socket.tcb

  no_timeout : is_due cx.instant v.tcb.timers.retransmit_at ≡ false
  no_timeout = neither (is_due cx.instant v.tcb.timers.retransmit_at) _ calm where
    neither : (a b : Bool) → (a || b) ≡ false → a ≡ false
    neither true b e = clash e
    neither false b e = refl

  no_begin : is_due cx.instant (loss_probe_deadline v.tcb) ≡ true → probe_begins v.tcb ≡ false
  no_begin due =
      last (is_due cx.instant v.tcb.timers.retransmit_at) (is_due cx.instant (loss_probe_deadline v.tcb)) (probe_begins v.tcb) calm due
    where
      last : (a b c : Bool) → (a || (b && c)) ≡ false → b ≡ true → c ≡ false
      last true b c e f = clash e
      last false true c e f = e
      last false false c e f = clash (sym f)

  last : (pair : FourTuple) (x : TcpValue) → Following x.tcb → LastRules cx pair Kept_offer x
  last pair x f = record { probe = λ _ _. f; window_limited = λ _ _. f; ack = λ _. f; update = λ _ _. f; keep_alive = λ _ _. f; quiet = λ _. f }

  first : (pair : FourTuple) (w : TcpValue) → Following w.tcb → FirstRules cx pair Kept_offer w
  first pair w f = record { syn = λ _. f; again = λ _ _. f; payload = λ _ _. f; last = λ _. last pair (probing cx w) f }

  probed_following : is_due cx.instant (loss_probe_deadline v.tcb) ≡ true → Following (loss_probed (begun cx v))
  probed_following due =
      subst (λ (t : Bool). (if t then past_snd_max (begun cx v) else v.tcb.sender.recover) ≤ (if t then 0 else v.tcb.loss.rescue_rxt)) (sym (no_begin due)) k

  rules : Rules cx v Kept_offer
  rules = record {
    nobody = λ _. k;
    time_wait = λ _. k;
    timeout = λ _. k;
    closed = λ _. k;
    reset = λ _ _ _. k;
    falls = λ _ _ _. least _;
    over = λ _ _ _. k;
    backs = λ pair _ _ due. clash (sym due ∙ no_timeout);
    probes = λ pair _ _ _ due. first pair (with_tcb (unoffered v) (loss_probed (begun cx v))) (probed_following due);
    goes = λ pair _ _ _. first pair (with_tcb (unoffered v) (begun cx v)) k;
  }

  offer_following : Following (offer_of cx v).socket.tcb
  offer_following = by_rules cx v Kept_offer rules

settled_following : (offered : Option OpenOffer) (x : TcpValue) → Following x.tcb → Following (sent_off offered x).tcb
settled_following None x k = k
settled_following (Some o) x k = sent_following o.kind (recorded x.tcb o (room_of x.received)) o (queued_in x) k

settled_rescue : (offered : Option OpenOffer) (x : TcpValue) → rescues_by x.tcb offered ≡ true → Following (sent_off offered x).tcb
settled_rescue None x e = clash (sym e)
settled_rescue (Some o) x e =
    rescue_following o.kind (recorded x.tcb o (room_of x.received)) o (queued_in x) (left_true (is_again o.kind) (is_rescue x.tcb) e)
    (right_true (is_again o.kind) (is_rescue x.tcb) e)

-- EVENTS

connected_following : (v : TcpValue) (names : Option FourTuple) (number : ℕ) → Following v.tcb → Following (connected_by v names number).tcb
connected_following v None number k = k
connected_following v (Some pair) number k = least _

set_following : (v : TcpValue) (setting : Setting) → Following v.tcb → Following (sets v setting).tcb
set_following v (Timeout duration) k = k
set_following v (KeepAlive interval) k = k
set_following v (AckDelay duration) k = k
set_following v (Nagle enabled) k = k
set_following v (HopLimit limit) k = k
set_following v (Timestamps generator) k = k
set_following v (Paused paused) k = k
set_following v (Retries limit) k = k
set_following v (MinRto duration) k = k
set_following v (FineTimer fine) k = k
set_following v (Congestion control) k = k

-- where no recovery begins it stays so
event_following : (v : TcpValue) (it : Event) → begins v it ≡ false → Following v.tcb → Following (after v it).tcb
event_following v (Comes cx ip header bytes) calm k = arrival_following cx ip header bytes v k calm
event_following v (Asked cx true) calm k =
    settled_following (offer_of cx v).socket.offered (unoffered (offer_of cx v).socket) (offer_following cx v k calm)
event_following v (Asked cx false) calm k = offer_following cx v k calm
event_following v (Listens endpoint) calm k =
    cond_both (is_closed v.tcb.state && not (endpoint.port == 0)) (listening v endpoint) (unoffered v) (λ (w : TcpValue). Following w.tcb)
    (λ _. least _) (λ _. k)
event_following v (Connects cx remote local) calm k =
    cond_both (is_closed v.tcb.state) (connected_by v (four_tuple_for cx remote local) (number_for cx (four_tuple_for cx remote local))) (unoffered v)
    (λ (w : TcpValue). Following w.tcb)
    (λ _. connected_following v (four_tuple_for cx remote local) (number_for cx (four_tuple_for cx remote local)) k) (λ _. k)
event_following v (Sends bytes) calm k =
    cond_both (takes_writes v.tcb.state) (sent_more v (enqueued (anchored v.queued) (take (min (length bytes) (length v.queued.free)) bytes))) (unoffered v)
    (λ (w : TcpValue). Following w.tcb) (λ _. k) (λ _. k)
event_following v (Reads count) calm k = k
event_following v Closes calm k =
    cond_both (is_opening v.tcb.state) (ended (unoffered v)) (with_tcb (unoffered v) (record v.tcb { state = after_close v.tcb.state }))
    (λ (w : TcpValue). Following w.tcb) (λ _. k) (λ _. k)
event_following v Aborts calm k =
    cond_both (is_time_wait v.tcb.state) (ended (unoffered v))
    (with_tcb (unoffered v) (record v.tcb { state = In.Closed; sender = record v.tcb.sender { reset_due = is_some v.tcb.names.pair } }))
    (λ (w : TcpValue). Following w.tcb) (λ _. k) (λ _. k)
event_following v (Sets setting) calm k = set_following v setting k

-- and a rescue leads there
rescued_following : (v : TcpValue) (it : Event) → rescues_with v it ≡ true → Following (after v it).tcb
rescued_following v (Asked cx true) e = settled_rescue (offer_of cx v).socket.offered (unoffered (offer_of cx v).socket) e
rescued_following v (Asked cx false) e = clash (sym e)
rescued_following v (Comes cx ip header bytes) e = clash (sym e)
rescued_following v (Listens endpoint) e = clash (sym e)
rescued_following v (Connects cx remote local) e = clash (sym e)
rescued_following v (Sends bytes) e = clash (sym e)
rescued_following v (Reads count) e = clash (sym e)
rescued_following v Closes e = clash (sym e)
rescued_following v Aborts e = clash (sym e)
rescued_following v (Sets setting) e = clash (sym e)

-- where RescueRxt lies there none goes
none_there : (b : Tcb) → IsPaced (recovery_of b) → Following b → is_rescue b ≡ true → ⊥
none_there b p k e =
    let r = rescue_parts b e in
    between b.sender.recover b.loss.rescue_rxt (p.lasts (early b r.may).recovers) k r.first
  where
    between : (recover rescue_rxt : ℕ) → 1 ≤ recover → recover ≤ rescue_rxt → rescue_rxt ≡ 0 → ⊥
    between recover rescue_rxt e f g = absurd (omega (arith, e, f, g))

none_by : (offered : Option OpenOffer) (b : Tcb) → IsPaced (recovery_of b) → Following b → rescues_by b offered ≡ true → ⊥
none_by None b p k e = clash (sym e)
none_by (Some o) b p k e = none_there b p k (right_true (is_again o.kind) (is_rescue b) e)

none_goes : (v : TcpValue) (it : Event) → IsInOrder (sending_of v) → IsPaced (recovery_of v.tcb) → Following v.tcb → begins v it ≡ false
    → rescues_with v it ≡ true → ⊥
none_goes v (Asked cx true) order p k calm e =
    none_by (offer_of cx v).socket.offered (offer_of cx v).socket.tcb (event_paced v (Asked cx false) order p) (offer_following cx v k calm) e
none_goes v (Asked cx false) order p k calm e = clash (sym e)
none_goes v (Comes cx ip header bytes) order p k calm e = clash (sym e)
none_goes v (Listens endpoint) order p k calm e = clash (sym e)
none_goes v (Connects cx remote local) order p k calm e = clash (sym e)
none_goes v (Sends bytes) order p k calm e = clash (sym e)
none_goes v (Reads count) order p k calm e = clash (sym e)
none_goes v Closes order p k calm e = clash (sym e)
none_goes v Aborts order p k calm e = clash (sym e)
none_goes v (Sets setting) order p k calm e = clash (sym e)

either : (a b : Bool) → (a || b) ≡ true → (a ≡ true) ⊎ (b ≡ true)
either true b e = inl refl
either false b e = inr e

led_rescue : (v : TcpValue) (spent : Bool) (events : List Event) → IsInOrder (sending_of v) → IsPaced (recovery_of v.tcb)
    → (spent ≡ true → Following v.tcb) → RescueOnce v spent events
led_rescue v spent [] order p k = tt
led_rescue v spent (it ∷ more) order p k =
    (λ e. unspent (is_spent v it spent) refl e, led_rescue (after v it) (spent_after v it spent) more (event_order v it order) (event_paced v it order p) next)
  where
    there : is_spent v it spent ≡ true → Following v.tcb
    there e = k (left_true spent (not (begins v it)) e)

    calm : is_spent v it spent ≡ true → begins v it ≡ false
    calm e = not_true (begins v it) (right_true spent (not (begins v it)) e)

    unspent : (t : Bool) → is_spent v it spent ≡ t → rescues_with v it ≡ true → t ≡ false
    unspent true e goes = absurd (none_goes v it order p (there e) (calm e) goes)
    unspent false e goes = refl

    next : spent_after v it spent ≡ true → Following (after v it).tcb
    next e =
        ⊎_elim (λ goes. rescued_following v it goes) (λ stays. event_following v it (calm stays) (there stays))
        (either (rescues_with v it) (is_spent v it spent) e)

pub rescues_once : (capacity : ℕ) (queued : Ring ℕ) (events : List Event) → RescueOnce (new_socket capacity queued) false events
rescues_once capacity queued events =
    led_rescue (new_socket capacity queued) false events (new_order capacity queued) (new_paced capacity queued) (λ e. clash (sym e))

-- OF ONE RESCUE

pub rescue_passed : (b : Tcb) → is_rescue b ≡ true → b.loss.rescue_rxt ≡ 0
rescue_passed b e = (rescue_parts b e).first

pub rescue_waits : (b : Tcb) (o : OpenOffer) (queued : ℕ) → b.reno.recovers ≡ true → b.sender.resend ≡ true → end_of b o < 4_294_967_295
    → end_of b o < (sent_as Kind.FastRetransmission b o queued).loss.rescue_rxt
rescue_waits b o queued recovers resend small =
    let c = moved (resent b (end_of b o)) o queued in
    subst (λ (n : ℕ). end_of b o < n) (sym (armed_rescue c (marked c o) o.instant))
    (subst (λ (t : Bool). end_of b o < (if t then max b.loss.rescue_rxt (sum_of (end_of b o) 1) else if is_rescue b then b.sender.recover else b.loss.rescue_rxt))
    (sym (both b.reno.recovers b.sender.resend recovers resend)) (past b.loss.rescue_rxt (end_of b o) small))
  where
    both : (a b : Bool) → a ≡ true → b ≡ true → (a && b) ≡ true
    both true b p q = q
    both false b p q = clash (sym p)

    past : (rescue_rxt end : ℕ) → end < 4_294_967_295 → end < max rescue_rxt (min (end + 1) 4_294_967_295)
    past rescue_rxt end e = omega arith

armed_resent : (b : Tcb) (l : Loss) (now : ℤ) → (probe_armed b l now).resent ≡ l.resent
armed_resent b l now =
    cond_both (probes_losses b && not l.probed) (record l { probe_at = probe_from b now }) l (λ (x : Loss). x.resent ≡ l.resent) (λ _. refl) (λ _. refl)

pub rescue_leaves : (b : Tcb) (o : OpenOffer) (queued : ℕ) → is_rescue b ≡ true
    → (sent_as Kind.FastRetransmission b o queued).loss.resent ≡ b.loss.resent
rescue_leaves b o queued e =
    let c = moved (resent b (end_of b o)) o queued in
    armed_resent c (marked c o) o.instant
    ∙ ap (λ (t : Bool). if t then max b.loss.resent (end_of b o) else b.loss.resent)
    (none b.reno.recovers b.sender.resend b.loss.probes (is_rescue b) (rescue_alone b e) e)
  where
    none : (recovers resend probes rescue_rxt : Bool) → resend ≡ false → rescue_rxt ≡ true → (resend || (recovers && not (probes || rescue_rxt))) ≡ false
    none recovers true probes rescue_rxt e f = clash e
    none false false probes rescue_rxt e f = refl
    none true false true rescue_rxt e f = refl
    none true false false true e f = refl
    none true false false false e f = clash (sym f)
