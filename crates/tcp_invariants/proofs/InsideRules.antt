-- What was retransmitted ends no further than SND.NXT.
use Rattle.std.proofs.Common.{◌≡◌, ◌⊎◌, inl, inr, ⊎_elim, ℕ, ◌+◌, ◌-◌, ◌≤◌, ◌==◌, ◌&&◌, ◌||◌, not, min, max, ℤ, true, false}
use Rattle.std.proofs.Common.{if◌then◌else◌, List, [], ◌∷◌, length, take, Option, Some, None, is_some, refl, sym, ap, ◌∙◌, subst, arith}
use Rattle.std.proofs.lemmas.Bool.{cond_both, eqb-true}
use Rattle.ip_wire.specs.IpRepr.{IpRepr}
use Rattle.ip_wire.specs.TcpHeader.{TcpHeader}
use Rattle.net_base.specs.Ring.{Ring, anchored, enqueued}
use Rattle.tcp_block.specs.Context.{ContextValue}
use Rattle.tcp_block.specs.BaseOffers.{Offered}
use Rattle.tcp_state.specs.Moments.{is_over, timeout_from}
use Rattle.tcp_state.specs.Scoreboard.{first_missing}
use Rattle.tcp_state.specs.States.{is_closed, is_listening, is_opening, is_time_wait, takes_writes, after_close}
use Rattle.tcp_state.specs.declared.endpoints.FourTuple.{FourTuple}
use Rattle.tcp_state.specs.declared.offer.OfferKind.{OfferKind}
use Rattle.tcp_state.specs.declared.offer.OfferKind.TheVariants as Kind
use Rattle.tcp_state.specs.declared.offer.OpenOffer.{OpenOffer}
use Rattle.tcp_state.specs.declared.state.State.{State}
use Rattle.tcp_state.specs.declared.state.State.TheVariants as In
use Rattle.tcp_block.specs.Acknowledged.{una_risen, una_moved, is_partial, windowed, ranges_taken, starts_again, duplicates_after, counted}
use Rattle.tcp_block.specs.Arrival.{arrives}
use Rattle.tcp_block.specs.TcbRules.{one_if}
use Rattle.tcp_block.specs.Calls.{listening, connected_by, four_tuple_for, sent_more}
use Rattle.tcp_block.specs.Isn.{number_for}
use Rattle.tcp_block.specs.LossRecovery.{is_rescue, probe_armed, loss_lowered, loss_probed, probes_tail}
use Rattle.tcp_block.specs.Offers.{offer_of}
use Rattle.tcp_block.specs.Opening.{took_syn}
use Rattle.tcp_block.specs.Retries.{asked, one_more}
use Rattle.tcp_block.specs.Rules.{backed_off_now}
use Rattle.tcp_block.specs.Settled.{end_of, past_sacked, nxt_moved, timer_started, syn_was_sent, resent, probed, sent_as, sent_off, recorded}
use Rattle.tcp_block.specs.Timestamps.{tsval_taken, tsecr_taken}
use Rattle.tcp_block.specs.Undo.{undo_sent}
use Rattle.tcp_block.specs.Value.{TcpValue, Arrived, with_tcb, unoffered, ended, new_socket, queued_in, room_of}
use Rattle.tcp_block.specs.declared.tcb.Tcb.{Tcb}
use Rattle.tcp_block.specs.declared.tcb.Loss.{Loss}
use Rattle.tcp_block.proofs.Undone.{undone_cases}
use Rattle.tcp_invariants.specs.Events.{Event, Setting, after, led, set as sets, is_past}
use Rattle.tcp_invariants.specs.Events.Event.{Comes, Asked, Listens, Connects, Sends, Reads, Closes, Aborts, Sets}
use Rattle.tcp_invariants.specs.Events.Setting.{Timeout, KeepAlive, AckDelay, Nagle, HopLimit, Timestamps, Paused, Retries, Congestion, MinRto, FineTimer}
use Rattle.tcp_invariants.specs.InOrder.{sending_of, IsInOrder}
use Rattle.tcp_invariants.proofs.AgainSteps.{armed_resent, ranges_resent}
use Rattle.tcp_invariants.proofs.ArrivalCases.{timed, by_arrival, Received, Opening, Content, Drawing, acked_open, heeded}
use Rattle.tcp_invariants.proofs.OfferCases.{Rules, FirstRules, LastRules, by_rules, begun, probing}
use Rattle.tcp_invariants.proofs.CongestionRules.{fin_on, state_past, close_on, unnamed}
use Rattle.tcp_invariants.proofs.OrderRules.{event_order, new_order}
use Rattle.tcp_invariants.proofs.OrderSteps.{clash}

-- where something is retransmitted
pub record Spot : Type 0 where
  pub state : State
  pub resent : ℕ
  pub flight : ℕ

abbrev pub spot_of : Tcb → Spot
spot_of b = record { state = b.state; resent = b.loss.resent; flight = b.sender.flight_size }

pub record IsInside (k : Spot) : Type 0 where
  pub inside : k.resent ≤ k.flight
  pub listens : is_listening k.state ≡ true → k.resent ≡ 0

abbrev Inside : Tcb → Type 0
Inside b = b.loss.resent ≤ b.sender.flight_size

least : (n : ℕ) → 0 ≤ n
least n = omega arith

later : (k : Spot) → k.resent ≤ k.flight → is_listening k.state ≡ false → IsInside k
later k i not = record { inside = i; listens = λ e. clash (sym e ∙ not) }

pub nothing_inside : (state : State) (flight : ℕ) → IsInside (record { state = state; resent = 0; flight = flight })
nothing_inside state flight = record { inside = least flight; listens = λ _. refl }

risen_in : (b : Tcb) (by queued : ℕ) (now : ℤ) → Inside b → Inside (una_moved b by queued now)
risen_in b by queued now i =
    cond_both (by == 0) b.loss (probe_armed (una_risen b by queued now) (loss_lowered b.loss by (is_partial b by)) now)
    (λ (l : Loss). l.resent ≤ b.sender.flight_size - by)
    (λ none. same b.loss.resent b.sender.flight_size by i (eqb-true by 0 none))
    (λ _.
    subst (λ (n : ℕ). n ≤ b.sender.flight_size - by) (sym (armed_resent (una_risen b by queued now) (loss_lowered b.loss by (is_partial b by)) now))
    (both b.loss.resent b.sender.flight_size by i))
  where
    same : (n k by : ℕ) → n ≤ k → by ≡ 0 → n ≤ k - by
    same n k by e f = omega arith

    both : (n k by : ℕ) → n ≤ k → n - by ≤ k - by
    both n k by e = omega arith

ranged_in : (b : Tcb) (header : TcpHeader) (now : ℤ) → Inside b → Inside (ranges_taken b header now)
ranged_in b header now i = subst (λ (n : ℕ). n ≤ b.sender.flight_size) (sym (ranges_resent b header now)) i

counted_in : (b : Tcb) (count : ℕ) (now : ℤ) → Inside b → Inside (counted b count now)
counted_in b count now i =
    cond_both (starts_again b count) 0 b.loss.resent (λ (n : ℕ). n ≤ b.sender.flight_size) (λ _. least b.sender.flight_size) (λ _. i)

skipped_in : (n flight further : ℕ) → n ≤ flight → n ≤ (if flight == 0 then 0 else max flight further)
skipped_in n flight further e =
    cond_both (flight == 0) 0 (max flight further) (λ (k : ℕ). n ≤ k) (λ none. subst (λ (k : ℕ). n ≤ k) (eqb-true flight 0 none) e)
    (λ _. more n flight further e)
  where
    more : (n flight further : ℕ) → n ≤ flight → n ≤ max flight further
    more n flight further e = omega arith

-- A SEGMENT COMES

module _ (cx : ContextValue) (ip : IpRepr) (header : TcpHeader) (bytes : List ℕ) where
  abbrev InsideAfter : Arrived → Type 0
  InsideAfter a = IsInside (spot_of a.socket.tcb)

  in_content : (x : TcpValue) → IsInside (spot_of x.tcb) → Content cx ip header bytes InsideAfter x
  in_content x i = record {
    plain = (λ _. i, i);
    fin = λ _ takes. (λ _. later _ i.inside (fin_on x.tcb.state takes), later _ i.inside (fin_on x.tcb.state takes));
    ordered = λ _ _ _ _. (λ _. i, i);
    ordered_fin = λ _ _ _ takes. (λ _. later _ i.inside (fin_on x.tcb.state takes), later _ i.inside (fin_on x.tcb.state takes));
    early = λ _ _ _ _. i;
  }

  in_drawing : (x : TcpValue) → IsInside (spot_of x.tcb) → Drawing cx ip header bytes InsideAfter x
  in_drawing x i = record { answers = λ _. i; at_once = i; pauses = i }

  in_received : (u : TcpValue) → IsInside (spot_of u.tcb) → is_past u.tcb.state ≡ true → Received cx ip header bytes InsideAfter u
  in_received u i past = record {
    stays = i;
    refuses = i;
    draws = in_drawing u i;
    falls = λ _ _ _. nothing_inside In.Listen 0;
    ends = λ _ _ _. later _ i.inside refl;
    closes = λ by _ _. later _ (risen by) refl;
    taken = λ by _ _.
        let b = (acked_open (timed cx.instant header u by) by cx.instant).tcb in
        in_content (heeded cx.instant header (length bytes) u by b) (later _ (heeded_in by b (risen by)) (state_past u by past));
    taken_window = λ by _ _.
        let b = windowed (acked_open (timed cx.instant header u by) by cx.instant).tcb header in
        in_content (heeded cx.instant header (length bytes) u by b) (later _ (heeded_in by b (risen by)) (state_past u by past));
    news = λ by _ _. in_drawing _ (later _ (risen by) (state_past u by past));
    outside = in_drawing _ i;
    old = λ _. in_content _ i;
  }
    where
      heard : (by : ℕ) → Inside (timed cx.instant header u by).tcb
      heard by =
          undone_cases u.tcb header by (queued_in u) (λ (c : Tcb). Inside c) i.inside
          (λ _ _ _. more u.tcb.loss.resent u.tcb.sender.flight_size (min u.tcb.sender.snd_max (one_if u.tcb.sender.syn_unacked + queued_in u)) i.inside)
        where
          more : (n flight reach : ℕ) → n ≤ flight → n ≤ max flight reach
          more n flight reach e = omega arith

      risen : (by : ℕ) → Inside (una_moved (timed cx.instant header u by).tcb by (queued_in u) cx.instant)
      risen by = risen_in (timed cx.instant header u by).tcb by (queued_in u) cx.instant (heard by)

      heeded_in : (by : ℕ) (b : Tcb) → Inside b → Inside (heeded cx.instant header (length bytes) u by b).tcb
      heeded_in by b j =
          let c = ranges_taken (tsval_taken b header cx.instant) header cx.instant in
          let count = duplicates_after u.tcb header (length bytes) by in
          skipped_in (counted c count cx.instant).loss.resent b.sender.flight_size _
          (counted_in c count cx.instant (ranged_in (tsval_taken b header cx.instant) header cx.instant j))

  in_opening : (u : TcpValue) → IsInside (spot_of u.tcb) → Opening cx ip header bytes InsideAfter u
  in_opening u i = record {
    opens = λ at _. later _ (none u.tcb.loss.resent (i.listens (ap is_listening at))) refl;
    refuses = i;
    ends = λ _. later _ i.inside refl;
    connects = λ _ _. later _ (risen_in (tsecr_taken (took_syn u.tcb header) header 1 cx.instant) 1 0 cx.instant i.inside) refl;
    crosses = λ _ _. later _ i.inside refl;
  }
    where
      none : (n : ℕ) → n ≡ 0 → n ≤ 0
      none n e = omega arith

  in_arrival : (v : TcpValue) → IsInside (spot_of v.tcb) → InsideAfter (arrives cx v ip header bytes)
  in_arrival v i = by_arrival cx ip header bytes InsideAfter v i (λ _. in_opening (unoffered v) i) (λ past. in_received (unoffered v) i past)

-- IT IS ASKED

asked_in : (b : Tcb) (now : ℤ) → IsInside (spot_of b) → IsInside (spot_of (asked b now))
asked_in b now i =
    cond_both (is_over now b.timers.counts_from)
    (record b {
      sender = record b.sender { unanswered = one_more b.sender.unanswered };
      timers = record b.timers { counts_from = Some (timeout_from now b.round_trip) };
    })
    b (λ (c : Tcb). IsInside (spot_of c)) (λ _. i) (λ _. i)

-- SND.NXT is past the segment, and the retransmission timer runs
abbrev moved : Tcb → OpenOffer → ℕ → Tcb
moved b o queued = timer_started (nxt_moved b (end_of b o) queued o.instant) o.instant

abbrev marked : Tcb → OpenOffer → Loss
marked c o = record c.loss { undo = undo_sent c c.loss.undo o.instant }

gone_in : (c : Tcb) (l : Loss) (now : ℤ) (flight : ℕ) → l.resent ≤ flight → (probe_armed c l now).resent ≤ flight
gone_in c l now flight e = subst (λ (n : ℕ). n ≤ flight) (sym (armed_resent c l now)) e

more : (n flight reach : ℕ) → n ≤ flight → n ≤ max flight reach
more n flight reach e = omega arith

sent_in : (kind : OfferKind) (b : Tcb) (o : OpenOffer) (queued : ℕ) → is_listening b.state ≡ false → IsInside (spot_of b)
    → IsInside (spot_of (sent_as kind b o queued))
sent_in Kind.Reset b o queued open_yet i = later _ i.inside refl
sent_in Kind.Syn b o queued open_yet i =
    let c = moved (syn_was_sent b o) o queued in
    later _ (gone_in c (marked c o) o.instant _ (more b.loss.resent b.sender.flight_size (past_sacked b (end_of b o) queued) i.inside)) open_yet
sent_in Kind.FastRetransmission b o queued open_yet i =
    let c = moved (resent b (end_of b o)) o queued in
    later _
    (gone_in c (marked c o) o.instant _
    (cond_both (b.sender.resend || (b.reno.recovers && not (b.loss.probes || is_rescue b))) (max b.loss.resent (end_of b o)) b.loss.resent
    (λ (n : ℕ). n ≤ max b.sender.flight_size (past_sacked b (end_of b o) queued))
    (λ _.
    joined b.loss.resent b.sender.flight_size (end_of b o)
    (min (first_missing b.loss.board.runs (end_of b o)) (min b.sender.snd_max (one_if b.sender.syn_unacked + queued))) i.inside)
    (λ _. more b.loss.resent b.sender.flight_size (past_sacked b (end_of b o) queued) i.inside)))
    open_yet
  where
    joined : (n flight end k : ℕ) → n ≤ flight → max n end ≤ max flight (max end k)
    joined n flight end k e = omega arith
sent_in Kind.Payload b o queued open_yet i =
    let c = moved b o queued in
    later _ (gone_in c (marked c o) o.instant _ (more b.loss.resent b.sender.flight_size (past_sacked b (end_of b o) queued) i.inside)) open_yet
sent_in Kind.Probe b o queued open_yet i = asked_in (probed b (end_of b o) o.instant) o.instant i
sent_in Kind.KeepAlive b o queued open_yet i = asked_in b o.instant i
sent_in other b o queued open_yet i = i

-- a probe of losses is due
probed_in : (b : Tcb) → IsInside (spot_of b) → IsInside (spot_of (loss_probed b))
probed_in b i = record {
  inside = cond_both (probes_tail b) b.loss.resent 0 (λ (n : ℕ). n ≤ b.sender.flight_size) (λ _. i.inside) (λ _. least b.sender.flight_size);
  listens = λ e. cond_both (probes_tail b) b.loss.resent 0 (λ (n : ℕ). n ≡ 0) (λ _. i.listens e) (λ _. refl);
}

module _ (cx : ContextValue) where
  abbrev InOffer : Offered TcpValue → Type 0
  InOffer o = IsInside (spot_of o.socket.tcb) × ((is_listening o.socket.tcb.state ≡ false) ⊎ (o.socket.offered ≡ None))

  in_last : (pair : FourTuple) (x : TcpValue) → IsInside (spot_of x.tcb) → is_listening x.tcb.state ≡ false → LastRules cx pair InOffer x
  in_last pair x i not = record {
    probe = λ _ _. (i, inl not);
    window_limited = λ _ _. (i, inl not);
    ack = λ _. (i, inl not);
    update = λ _ _. (i, inl not);
    keep_alive = λ _ _. (i, inl not);
    quiet = λ _. (i, inl not);
  }

  in_first : (pair : FourTuple) (w : TcpValue) → IsInside (spot_of w.tcb) → is_listening w.tcb.state ≡ false → FirstRules cx pair InOffer w
  in_first pair w i not =
      record { syn = λ _. (i, inl not); again = λ _ _. (i, inl not); payload = λ _ _. (i, inl not); last = λ _. in_last pair (probing cx w) i not }

  in_rules : (v : TcpValue) → IsInOrder (sending_of v) → IsInside (spot_of v.tcb) → Rules cx v InOffer
  in_rules v p i = record {
    nobody = λ _. (i, inr refl);
    time_wait = λ _. (later _ i.inside refl, inr refl);
    timeout = λ _. (later _ i.inside refl, inr refl);
    closed = λ _. (i, inr refl);
    reset = λ _ closed _. (i, inl (not_listening v.tcb.state closed));
    falls = λ _ _ _. (nothing_inside In.Listen 0, inr refl);
    over = λ _ _ _. (later _ i.inside refl, inr refl);
    backs = λ pair named _ _. in_first pair (with_tcb (unoffered v) (backed_off_now (begun cx v))) (nothing_inside _ 0) (unnamed v pair p named);
    probes = λ pair named _ _ _.
        in_first pair (with_tcb (unoffered v) (loss_probed (begun cx v))) (probed_in (begun cx v) i) (unnamed v pair p named);
    goes = λ pair named _ _. in_first pair (with_tcb (unoffered v) (begun cx v)) i (unnamed v pair p named);
  }
    where
      not_listening : (state : State) → is_closed state ≡ true → is_listening state ≡ false
      not_listening In.Closed e = refl
      not_listening In.Listen e = clash (sym e)
      not_listening other e = refl

  in_offer : (v : TcpValue) → IsInOrder (sending_of v) → IsInside (spot_of v.tcb) → InOffer (offer_of cx v)
  in_offer v p i = by_rules cx v InOffer (in_rules v p i)

settled_in : (offered : Option OpenOffer) (x : TcpValue) → (is_listening x.tcb.state ≡ false) ⊎ (offered ≡ None) → IsInside (spot_of x.tcb)
    → IsInside (spot_of (sent_off offered x).tcb)
settled_in None x which i = i
settled_in (Some o) x which i =
    ⊎_elim (λ not. sent_in o.kind (recorded x.tcb o (room_of x.received)) o (queued_in x) not i) (λ none. absurd (cc)) which

-- EVENTS

connected_in : (v : TcpValue) (names : Option FourTuple) (number : ℕ) → IsInside (spot_of v.tcb) → IsInside (spot_of (connected_by v names number).tcb)
connected_in v None number i = i
connected_in v (Some pair) number i = nothing_inside In.SynSent 0

set_in : (v : TcpValue) (setting : Setting) → IsInside (spot_of v.tcb) → IsInside (spot_of (sets v setting).tcb)
set_in v (Timeout duration) i = i
set_in v (KeepAlive interval) i = i
set_in v (AckDelay duration) i = i
set_in v (Nagle enabled) i = i
set_in v (HopLimit limit) i = i
set_in v (Timestamps generator) i = i
set_in v (Paused paused) i = i
set_in v (Retries limit) i = i
set_in v (MinRto duration) i = i
set_in v (FineTimer fine) i = i
set_in v (Congestion control) i = i

pub event_in : (v : TcpValue) (it : Event) → IsInOrder (sending_of v) → IsInside (spot_of v.tcb) → IsInside (spot_of (after v it).tcb)
event_in v (Comes cx ip header bytes) p i = in_arrival cx ip header bytes v i
event_in v (Asked cx true) p i =
    let it = in_offer cx v p i in settled_in (offer_of cx v).socket.offered (unoffered (offer_of cx v).socket) it.1 it.0
event_in v (Asked cx false) p i = (in_offer cx v p i).0
event_in v (Listens endpoint) p i =
    cond_both (is_closed v.tcb.state && not (endpoint.port == 0)) (listening v endpoint) (unoffered v) (λ (w : TcpValue). IsInside (spot_of w.tcb))
    (λ _. nothing_inside In.Listen 0) (λ _. i)
event_in v (Connects cx remote local) p i =
    cond_both (is_closed v.tcb.state) (connected_by v (four_tuple_for cx remote local) (number_for cx (four_tuple_for cx remote local))) (unoffered v)
    (λ (w : TcpValue). IsInside (spot_of w.tcb))
    (λ _. connected_in v (four_tuple_for cx remote local) (number_for cx (four_tuple_for cx remote local)) i) (λ _. i)
event_in v (Sends bytes) p i =
    cond_both (takes_writes v.tcb.state) (sent_more v (enqueued (anchored v.queued) (take (min (length bytes) (length v.queued.free)) bytes))) (unoffered v)
    (λ (w : TcpValue). IsInside (spot_of w.tcb)) (λ _. i) (λ _. i)
event_in v (Reads count) p i = i
event_in v Closes p i =
    cond_both (is_opening v.tcb.state) (ended (unoffered v)) (with_tcb (unoffered v) (record v.tcb { state = after_close v.tcb.state }))
    (λ (w : TcpValue). IsInside (spot_of w.tcb)) (λ _. later _ i.inside refl) (λ _. later _ i.inside (close_on v.tcb.state))
event_in v Aborts p i =
    cond_both (is_time_wait v.tcb.state) (ended (unoffered v))
    (with_tcb (unoffered v) (record v.tcb { state = In.Closed; sender = record v.tcb.sender { reset_due = is_some v.tcb.names.pair } }))
    (λ (w : TcpValue). IsInside (spot_of w.tcb)) (λ _. later _ i.inside refl) (λ _. later _ i.inside refl)
event_in v (Sets setting) p i = set_in v setting i

pub led_in : (v : TcpValue) (events : List Event) → IsInOrder (sending_of v) → IsInside (spot_of v.tcb) → IsInside (spot_of (led v events).tcb)
led_in v [] p i = i
led_in v (it ∷ more) p i = led_in (after v it) more (event_order v it p) (event_in v it p i)

pub new_in : (capacity : ℕ) (queued : Ring ℕ) (events : List Event)
    → (led (new_socket capacity queued) events).tcb.loss.resent ≤ (led (new_socket capacity queued) events).tcb.sender.flight_size
new_in capacity queued events = (led_in (new_socket capacity queued) events (new_order capacity queued) (nothing_inside In.Closed 0)).inside
