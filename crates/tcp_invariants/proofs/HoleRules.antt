-- What is retransmitted isn't held.
use Rattle.std.proofs.Common.{◌≡◌, ℕ, zero, suc, ◌+◌, ◌-◌, ◌^◌, ◌<◌, ◌≤◌, ◌==◌, nat_le, nat_lt, not, ◌&&◌, ◌||◌, min, max, ℤ, Bool, true, false}
use Rattle.std.proofs.Common.{if◌then◌else◌, List, [], ◌∷◌, length, take, Option, Some, None, is_none, is_some, refl, sym, ap, ◌∙◌, subst, arith}
use Rattle.std.proofs.lemmas.Bool.{cond_both, eqb-true, ltb-true, ltb-false}
use Rattle.ip_wire.specs.IpRepr.{IpRepr}
use Rattle.ip_wire.specs.Seq.{distance_of}
use Rattle.ip_wire.specs.SeqNumber.{SeqNumber}
use Rattle.ip_wire.specs.TcpHeader.{TcpHeader}
use Rattle.net_base.specs.Ring.{Ring, anchored, enqueued}
use Rattle.tcp_block.specs.Context.{ContextValue}
use Rattle.tcp_block.specs.BaseOffers.{Offered}
use Rattle.tcp_state.specs.Moments.{is_over, timeout_from}
use Rattle.tcp_state.specs.Offsets.{distance_after}
use Rattle.tcp_state.specs.Scoreboard.{is_run, no_run, no_runs, noted, held, gap_end, runs_end}
use Rattle.tcp_state.specs.States.{is_closed, is_opening, is_time_wait, takes_writes, owes_fin, after_close}
use Rattle.tcp_state.specs.declared.endpoints.FourTuple.{FourTuple}
use Rattle.tcp_state.specs.declared.offer.OfferKind.{OfferKind}
use Rattle.tcp_state.specs.declared.offer.OfferKind.TheVariants as Kind
use Rattle.tcp_state.specs.declared.offer.OpenOffer.{OpenOffer}
use Rattle.tcp_state.specs.declared.scoreboard.Run.{Run}
use Rattle.tcp_state.specs.declared.state.State.TheVariants as In
use Rattle.tcp_block.specs.Acknowledged.{una_risen, una_moved, is_partial, windowed}
use Rattle.tcp_block.specs.Arrival.{arrives}
use Rattle.tcp_block.specs.TcbRules.{one_if}
use Rattle.tcp_block.specs.Calls.{listening, connected_by, four_tuple_for, sent_more}
use Rattle.tcp_block.specs.Isn.{number_for}
use Rattle.tcp_block.specs.LossRecovery.{with_board, probe_from, probes_losses, probe_armed, run_within, run_of, range_noted, all_noted, heard_more}
use Rattle.tcp_block.specs.LossRecovery.{ranges_noted, next_hole, is_rescue, hole_offset, retransmit_offset, hole_len}
use Rattle.tcp_block.specs.LossRecovery.{loss_lowered, loss_acked, loss_probed}
use Rattle.tcp_block.specs.Offers.{offer_of}
use Rattle.tcp_block.specs.Opening.{took_syn}
use Rattle.tcp_block.specs.Retries.{asked, one_more}
use Rattle.tcp_block.specs.Rules.{resends_beside, backed_off_now, sent_count, size_limit}
use Rattle.tcp_block.specs.Settled.{end_of, nxt_moved, timer_started, syn_was_sent, resent, probed, sent_as, sent_off, recorded}
use Rattle.tcp_block.specs.Timestamps.{tsval_taken, tsecr_taken}
use Rattle.tcp_block.specs.Undo.{undo_sent}
use Rattle.tcp_block.specs.Value.{TcpValue, Arrived, with_tcb, unoffered, ended, new_socket, queued_in, room_of}
use Rattle.tcp_block.specs.declared.tcb.Tcb.{Tcb}
use Rattle.tcp_block.specs.declared.tcb.Loss.{Loss}
use Rattle.tcp_block.proofs.Holes.{again_sent}
use Rattle.tcp_block.proofs.Undone.{undone_cases}
use Rattle.tcp_invariants.specs.Events.{Event, Setting, after, led, set as sets}
use Rattle.tcp_invariants.specs.Events.Event.{Comes, Asked, Listens, Connects, Sends, Reads, Closes, Aborts, Sets}
use Rattle.tcp_invariants.specs.Events.Setting.{Timeout, KeepAlive, AckDelay, Nagle, HopLimit, Timestamps, Paused, Retries, Congestion, MinRto, FineTimer}
use Rattle.tcp_invariants.specs.InOrder.{sending_of, IsInOrder}
use Rattle.tcp_invariants.specs.Timing.{timing_of, IsTimedRight, start_of}
use Rattle.tcp_invariants.specs.Unheld.{AreUnheld}
use Rattle.tcp_invariants.proofs.ApartRuns.{Real, AllNone, AllOut, Board, empty_board, board_after, noted_board, nothing_held, none_held}
use Rattle.tcp_invariants.proofs.ApartRuns.{first_out, none_out, missing_out, gap_from, gap_unheld}
use Rattle.tcp_invariants.proofs.ArrivalCases.{timed, by_arrival, Received, Opening, Content, Drawing, acked_open}
use Rattle.tcp_invariants.proofs.EarlyRules.{goes_in, rescue_parts, end_out}
use Rattle.tcp_invariants.proofs.OfferCases.{Rules, FirstRules, LastRules, by_rules, begun, probing}
use Rattle.tcp_invariants.proofs.OrderSteps.{clash, one_if_least}
use Rattle.tcp_invariants.proofs.OrderRules.{led_new}
use Rattle.tcp_invariants.proofs.TimingRules.{led_timing}

-- what a socket believes that the remote holds, and whether its last segment is to go as a probe
pub record Believed : Type 0 where
  pub runs : List Run
  pub probes : Bool

abbrev pub believed_in : Loss → Believed
believed_in l = record { runs = l.board.runs; probes = l.probes }

abbrev pub believed_of : Tcb → Believed
believed_of b = believed_in b.loss

pub record Believes (k : Believed) : Type 0 where
  pub board : Board k.runs
  pub probes : k.probes ≡ true → AllNone k.runs

pub nothing_believed : Believes (record { runs = no_runs; probes = false })
nothing_believed = record { board = empty_board; probes = λ e. clash (sym e) }

left_true : (a b : Bool) → (a && b) ≡ true → a ≡ true
left_true true b e = refl
left_true false b e = clash (sym e)

right_true : (a b : Bool) → (a && b) ≡ true → b ≡ true
right_true true b e = e
right_true false b e = clash (sym e)

armed_on : (b : Tcb) (l : Loss) (now : ℤ) → Believes (believed_in l) → Believes (believed_in (probe_armed b l now))
armed_on b l now k =
    cond_both (probes_losses b && not l.probed) (record l { probe_at = probe_from b now }) l (λ (x : Loss). Believes (believed_in x)) (λ _. k) (λ _. k)

-- SND.UNA rises
acked_on : (b : Tcb) (l : Loss) (by : ℕ) (partial : Bool) (now : ℤ) → Believes (believed_in b.loss)
    → Believes (believed_in (loss_acked b by partial now))
acked_on b l by partial now k =
    cond_both (by == 0) b.loss (probe_armed b (loss_lowered b.loss by partial) now) (λ (x : Loss). Believes (believed_in x)) (λ _. k)
    (λ _. armed_on b (loss_lowered b.loss by partial) now (record { board = board_after b.loss.board.runs by k.board; probes = λ e. clash (sym e) }))

-- THE RANGES OF A SEGMENT

range_real : (b : Tcb) (range : Option (ℕ × ℕ)) → is_run (run_of b range) ≡ true → Real (run_of b range)
range_real b None e = clash (sym e)
range_real b (Some range) e = at e where
  start : ℕ
  start = distance_after b.sender.una (record { 0 = range.0 })

  end : ℕ
  end = distance_after b.sender.una (record { 0 = range.1 })

  near : (reference number : SeqNumber) → distance_after reference number < 2 ^ 31
  near reference number = at (nat_lt (distance_of reference number) (2 ^ 31)) refl where
    none : 0 < 2 ^ 31
    none = omega arith

    at : (t : Bool) → nat_lt (distance_of reference number) (2 ^ 31) ≡ t → (if t then distance_of reference number else 0) < 2 ^ 31
    at true e = ltb-true (distance_of reference number) (2 ^ 31) e
    at false e = none

  some : (n : ℕ) → not (n == 0) ≡ true → 1 ≤ n
  some zero e = clash (sym e)
  some (suc n) e = one n where
    one : (n : ℕ) → 1 ≤ suc n
    one n = omega arith

  at : is_run (run_within b start end) ≡ true → Real (run_within b start end)
  at =
      cond_both (not (start == 0) && (nat_lt start end && nat_le end b.sender.snd_max)) (record { start = start; end = end }) no_run
      (λ (r : Run). is_run r ≡ true → Real r)
      (λ e _.
      let rest = right_true (not (start == 0)) (nat_lt start end && nat_le end b.sender.snd_max) e in
      record {
        past = some start (left_true (not (start == 0)) (nat_lt start end && nat_le end b.sender.snd_max) e);
        some = ltb-true start end (left_true (nat_lt start end) (nat_le end b.sender.snd_max) rest);
        near = near b.sender.una (record { 0 = range.1 });
      })
      (λ _ e. clash (sym e))

range_board : (b : Tcb) (runs : List Run) (range : Option (ℕ × ℕ)) → Board runs → Board (range_noted b runs range)
range_board b runs range k =
    cond_both (is_run (run_of b range)) (noted runs (run_of b range)) runs Board (λ e. noted_board runs (run_of b range) (range_real b range e) k) (λ _. k)

all_board : (b : Tcb) (runs : List Run) (ranges : List (Option (ℕ × ℕ))) → Board runs → Board (all_noted b runs ranges)
all_board b runs [] k = k
all_board b runs (range ∷ more) k = all_board b (range_noted b runs range) more (range_board b runs range k)

ranges_on : (b : Tcb) (header : TcpHeader) (now : ℤ) → Believes (believed_of b) → Believes (believed_in (ranges_noted b header now))
ranges_on b header now k =
    cond_both b.peer.sack (heard_more b runs now) b.loss (λ (l : Loss). Believes (believed_in l))
    (λ _.
    cond_both (nat_lt (held b.loss.board.runs) (held runs))
    (probe_armed b (record b.loss { board = record { runs = runs }; probes = false; probed = false }) now)
    (with_board b.loss runs) (λ (l : Loss). Believes (believed_in l))
    (λ _.
    armed_on b (record b.loss { board = record { runs = runs }; probes = false; probed = false }) now
    (record { board = all; probes = λ e. clash (sym e) }))
    (λ not.
    record {
      board = all;
      probes = λ e.
          nothing_held runs all.fine
          (no_more (held b.loss.board.runs) (held runs) (none_held b.loss.board.runs (k.probes e)) (ltb-false (held b.loss.board.runs) (held runs) not));
    }))
    (λ _. k)
  where
    runs : List Run
    runs = all_noted b b.loss.board.runs header.options.sack_ranges

    all : Board runs
    all = all_board b b.loss.board.runs header.options.sack_ranges k.board

    no_more : (m n : ℕ) → m ≡ 0 → n ≤ m → n ≡ 0
    no_more m n e f = omega arith

-- A SEGMENT COMES

module _ (cx : ContextValue) (ip : IpRepr) (header : TcpHeader) (bytes : List ℕ) where
  abbrev On : Arrived → Type 0
  On a = Believes (believed_of a.socket.tcb)

  on_content : (x : TcpValue) → Believes (believed_of x.tcb) → Content cx ip header bytes On x
  on_content x k = record {
    plain = (λ _. k, k);
    fin = λ _ _. (λ _. k, k);
    ordered = λ _ _ _ _. (λ _. k, k);
    ordered_fin = λ _ _ _ _. (λ _. k, k);
    early = λ _ _ _ _. k;
  }

  on_drawing : (x : TcpValue) → Believes (believed_of x.tcb) → Drawing cx ip header bytes On x
  on_drawing x k = record { answers = λ _. k; at_once = k; pauses = k }

  heard_on : (u : TcpValue) (by : ℕ) → Believes (believed_of u.tcb) → Believes (believed_of (timed cx.instant header u by).tcb)
  heard_on u by k = undone_cases u.tcb header by (queued_in u) (λ (c : Tcb). Believes (believed_of c)) k (λ _ _ _. k)

  risen_on : (b : Tcb) (by queued : ℕ) → Believes (believed_of b) → Believes (believed_of (una_moved b by queued cx.instant))
  risen_on b by queued k = acked_on (una_risen b by queued cx.instant) b.loss by (is_partial b by) cx.instant k

  on_received : (u : TcpValue) → Believes (believed_of u.tcb) → Received cx ip header bytes On u
  on_received u k = record {
    stays = k;
    refuses = k;
    draws = on_drawing u k;
    falls = λ _ _ _. nothing_believed;
    ends = λ _ _ _. k;
    closes = λ by _ _. risen by;
    taken = λ by _ _.
        on_content _ (ranges_on (tsval_taken (acked_open (timed cx.instant header u by) by cx.instant).tcb header cx.instant) header cx.instant (risen by));
    taken_window = λ by _ _.
        on_content _
        (ranges_on (tsval_taken (windowed (acked_open (timed cx.instant header u by) by cx.instant).tcb header) header cx.instant) header cx.instant (risen by));
    news = λ by _ _. on_drawing _ (risen by);
    outside = on_drawing _ k;
    old = λ _. on_content _ k;
  }
    where
      risen : (by : ℕ) → Believes (believed_of (una_moved (timed cx.instant header u by).tcb by (queued_in u) cx.instant))
      risen by = risen_on (timed cx.instant header u by).tcb by (queued_in u) (heard_on u by k)

  on_opening : (u : TcpValue) → Believes (believed_of u.tcb) → Opening cx ip header bytes On u
  on_opening u k = record {
    opens = λ _ _. k;
    refuses = k;
    ends = λ _. k;
    connects = λ _ _. risen_on (tsecr_taken (took_syn u.tcb header) header 1 cx.instant) 1 0 k;
    crosses = λ _ _. k;
  }

  on_arrival : (v : TcpValue) → Believes (believed_of v.tcb) → On (arrives cx v ip header bytes)
  on_arrival v k = by_arrival cx ip header bytes On v k (λ _. on_opening (unoffered v) k) (λ _. on_received (unoffered v) k)

-- IT IS ASKED

asked_on : (b : Tcb) (now : ℤ) → Believes (believed_of b) → Believes (believed_of (asked b now))
asked_on b now k =
    cond_both (is_over now b.timers.counts_from)
    (record b {
      sender = record b.sender { unanswered = one_more b.sender.unanswered };
      timers = record b.timers { counts_from = Some (timeout_from now b.round_trip) };
    })
    b (λ (c : Tcb). Believes (believed_of c)) (λ _. k) (λ _. k)

-- SND.NXT is past the segment, and the retransmission timer runs
abbrev moved : Tcb → OpenOffer → ℕ → Tcb
moved b o queued = timer_started (nxt_moved b (end_of b o) queued o.instant) o.instant

abbrev marked : Tcb → OpenOffer → Loss
marked c o = record c.loss { undo = undo_sent c c.loss.undo o.instant }

sent_on : (kind : OfferKind) (b : Tcb) (o : OpenOffer) (queued : ℕ) → Believes (believed_of b) → Believes (believed_of (sent_as kind b o queued))
sent_on Kind.Syn b o queued k = let c = moved (syn_was_sent b o) o queued in armed_on c (marked c o) o.instant k
sent_on Kind.FastRetransmission b o queued k =
    let c = moved (resent b (end_of b o)) o queued in armed_on c (marked c o) o.instant (record { board = k.board; probes = λ e. clash (sym e) })
sent_on Kind.Payload b o queued k = let c = moved b o queued in armed_on c (marked c o) o.instant k
sent_on Kind.Probe b o queued k = asked_on (probed b (end_of b o) o.instant) o.instant k
sent_on Kind.KeepAlive b o queued k = asked_on b o.instant k
sent_on other b o queued k = k

-- a probe of losses is due
probed_on : (b : Tcb) → Believes (believed_of b) → Believes (believed_of (loss_probed b))
probed_on b k = record {
  board = k.board;
  probes = λ e.
      nothing_held b.loss.board.runs k.board.fine
      (eqb-true (held b.loss.board.runs) 0
      (right_true (b.sender.recover == 0) (held b.loss.board.runs == 0)
      (right_true (is_none b.loss.reorder_until) ((b.sender.recover == 0) && (held b.loss.board.runs == 0)) e)));
}

module _ (cx : ContextValue) where
  abbrev OnOffer : Offered TcpValue → Type 0
  OnOffer o = Believes (believed_of o.socket.tcb)

  on_last : (pair : FourTuple) (x : TcpValue) → Believes (believed_of x.tcb) → LastRules cx pair OnOffer x
  on_last pair x k =
      record { probe = λ _ _. k; window_limited = λ _ _. k; ack = λ _. k; update = λ _ _. k; keep_alive = λ _ _. k; quiet = λ _. k }

  on_first : (pair : FourTuple) (w : TcpValue) → Believes (believed_of w.tcb) → FirstRules cx pair OnOffer w
  on_first pair w k = record { syn = λ _. k; again = λ _ _. k; payload = λ _ _. k; last = λ _. on_last pair (probing cx w) k }

  backed_on : (v : TcpValue) → Believes (believed_of v.tcb) → Believes (believed_of (backed_off_now (begun cx v)))
  backed_on v k = record { board = k.board; probes = λ e. clash (sym e) }

  on_rules : (v : TcpValue) → Believes (believed_of v.tcb) → Rules cx v OnOffer
  on_rules v k = record {
    nobody = λ _. k;
    time_wait = λ _. k;
    timeout = λ _. k;
    closed = λ _. k;
    reset = λ _ _ _. k;
    falls = λ _ _ _. nothing_believed;
    over = λ _ _ _. k;
    backs = λ pair _ _ _. on_first pair (with_tcb (unoffered v) (backed_off_now (begun cx v))) (backed_on v k);
    probes = λ pair _ _ _ _. on_first pair (with_tcb (unoffered v) (loss_probed (begun cx v))) (probed_on (begun cx v) k);
    goes = λ pair _ _ _. on_first pair (with_tcb (unoffered v) (begun cx v)) k;
  }

  on_offer : (v : TcpValue) → Believes (believed_of v.tcb) → OnOffer (offer_of cx v)
  on_offer v k = by_rules cx v OnOffer (on_rules v k)

settled_on : (offered : Option OpenOffer) (x : TcpValue) → Believes (believed_of x.tcb) → Believes (believed_of (sent_off offered x).tcb)
settled_on None x k = k
settled_on (Some o) x k = sent_on o.kind (recorded x.tcb o (room_of x.received)) o (queued_in x) k

-- EVENTS

connected_on : (v : TcpValue) (names : Option FourTuple) (number : ℕ) → Believes (believed_of v.tcb)
    → Believes (believed_of (connected_by v names number).tcb)
connected_on v None number k = k
connected_on v (Some pair) number k = nothing_believed

set_on : (v : TcpValue) (setting : Setting) → Believes (believed_of v.tcb) → Believes (believed_of (sets v setting).tcb)
set_on v (Timeout duration) k = k
set_on v (KeepAlive interval) k = k
set_on v (AckDelay duration) k = k
set_on v (Nagle enabled) k = k
set_on v (HopLimit limit) k = k
set_on v (Timestamps generator) k = k
set_on v (Paused paused) k = k
set_on v (Retries limit) k = k
set_on v (MinRto duration) k = k
set_on v (FineTimer fine) k = k
set_on v (Congestion control) k = k

pub event_on : (v : TcpValue) (it : Event) → Believes (believed_of v.tcb) → Believes (believed_of (after v it).tcb)
event_on v (Comes cx ip header bytes) k = on_arrival cx ip header bytes v k
event_on v (Asked cx true) k = settled_on (offer_of cx v).socket.offered (unoffered (offer_of cx v).socket) (on_offer cx v k)
event_on v (Asked cx false) k = on_offer cx v k
event_on v (Listens endpoint) k =
    cond_both (is_closed v.tcb.state && not (endpoint.port == 0)) (listening v endpoint) (unoffered v) (λ (w : TcpValue). Believes (believed_of w.tcb))
    (λ _. nothing_believed) (λ _. k)
event_on v (Connects cx remote local) k =
    cond_both (is_closed v.tcb.state) (connected_by v (four_tuple_for cx remote local) (number_for cx (four_tuple_for cx remote local))) (unoffered v)
    (λ (w : TcpValue). Believes (believed_of w.tcb))
    (λ _. connected_on v (four_tuple_for cx remote local) (number_for cx (four_tuple_for cx remote local)) k) (λ _. k)
event_on v (Sends bytes) k =
    cond_both (takes_writes v.tcb.state) (sent_more v (enqueued (anchored v.queued) (take (min (length bytes) (length v.queued.free)) bytes))) (unoffered v)
    (λ (w : TcpValue). Believes (believed_of w.tcb)) (λ _. k) (λ _. k)
event_on v (Reads count) k = k
event_on v Closes k =
    cond_both (is_opening v.tcb.state) (ended (unoffered v)) (with_tcb (unoffered v) (record v.tcb { state = after_close v.tcb.state }))
    (λ (w : TcpValue). Believes (believed_of w.tcb)) (λ _. k) (λ _. k)
event_on v Aborts k =
    cond_both (is_time_wait v.tcb.state) (ended (unoffered v))
    (with_tcb (unoffered v) (record v.tcb { state = In.Closed; sender = record v.tcb.sender { reset_due = is_some v.tcb.names.pair } }))
    (λ (w : TcpValue). Believes (believed_of w.tcb)) (λ _. k) (λ _. k)
event_on v (Sets setting) k = set_on v setting k

pub led_on : (v : TcpValue) (events : List Event) → Believes (believed_of v.tcb) → Believes (believed_of (led v events).tcb)
led_on v [] k = k
led_on v (it ∷ more) k = led_on (after v it) more (event_on v it k)

-- WHAT GOES AGAIN

module _ (b : Tcb) (k : Believes (believed_of b)) (sent : b.sender.flight_size ≤ b.sender.snd_max) (no_syn : b.sender.syn_unacked ≡ false) (limit queued : ℕ)
    (within : b.sender.flight_size ≤ one_if b.sender.syn_unacked + queued + one_if (owes_fin b.state)) (payload : Bool)
    (does : resends_beside b payload ≡ true) where
  abbrev Out : ℕ → Type 0
  Out offset = AllOut offset b.loss.board.runs

  -- the next hole isn't past what was sent, nor past the send queue
  hole_out : next_hole b < b.sender.flight_size → Out (min (next_hole b) (min (sent_count b) queued))
  hole_out flies =
      subst Out
      (sym (near (next_hole b) b.sender.flight_size b.sender.snd_max (one_if b.sender.syn_unacked) queued (one_if (owes_fin b.state)) flies sent within
      (one_if_least (owes_fin b.state)) (ap one_if no_syn)))
      (missing_out b.loss.board.runs k.board.fine k.board.gaps b.loss.resent)
    where
      near : (hole flight snd_max syn queued fin : ℕ) → hole < flight → flight ≤ snd_max → flight ≤ syn + queued + fin → fin ≤ 1 → syn ≡ 0
          → min hole (min (snd_max - syn) queued) ≡ hole
      near hole flight snd_max syn queued fin e f g h i = omega arith

  -- a rescue begins there or after, where nothing is held any more
  rescue_out : next_hole b < b.sender.flight_size → is_rescue b ≡ true
      → Out (min (max (sent_count b - limit) (next_hole b)) (min (sent_count b) queued))
  rescue_out flies is =
      end_out b.loss.board.runs (min (max (sent_count b - limit) (next_hole b)) (min (sent_count b) queued))
      (following (runs_end b.loss.board.runs) (sent_count b - limit) (next_hole b) b.sender.flight_size b.sender.snd_max (one_if b.sender.syn_unacked) queued
      (one_if (owes_fin b.state)) (rescue_parts b is).following flies sent within (one_if_least (owes_fin b.state)) (ap one_if no_syn))
    where
      following : (end far hole flight snd_max syn queued fin : ℕ) → end ≤ hole → hole < flight → flight ≤ snd_max → flight ≤ syn + queued + fin → fin ≤ 1 → syn ≡ 0
          → end ≤ min (max far hole) (min (snd_max - syn) queued)
      following end far hole flight snd_max syn queued fin e f g h i j = omega arith

  early_out : next_hole b < b.sender.flight_size → Out (min (hole_offset b limit (sent_count b)) (min (sent_count b) queued))
  early_out flies =
      cond_both (is_rescue b) (max (sent_count b - limit) (next_hole b)) (next_hole b) (λ (n : ℕ). Out (min n (min (sent_count b) queued)))
      (λ is. rescue_out flies is) (λ _. hole_out flies)

  again_out : Out (retransmit_offset b limit (sent_count b) queued)
  again_out =
      cond_both (b.sender.resend || (b.sender.flight_size == 0)) 0
      (if b.loss.probes then min (sent_count b - limit) queued else min (hole_offset b limit (sent_count b)) (min (sent_count b) queued)) Out
      (λ _. first_out b.loss.board.runs k.board.fine)
      (λ not.
      cond_both b.loss.probes (min (sent_count b - limit) queued) (min (hole_offset b limit (sent_count b)) (min (sent_count b) queued)) Out
      (λ tail. none_out (min (sent_count b - limit) queued) b.loss.board.runs (k.probes tail))
      (λ no_tail. early_out (goes_in b payload does (neither b.sender.resend (b.sender.flight_size == 0) not) no_tail).flies))
    where
      neither : (a b : Bool) → (a || b) ≡ false → a ≡ false
      neither true b e = clash e
      neither false b e = refl

  -- of what goes from there on nothing is held
  abbrev offset : ℕ
  offset = retransmit_offset b limit (sent_count b) queued

  again_unheld : (size : ℕ) → AreUnheld (one_if b.sender.syn_unacked + offset) (min (hole_len b offset (sent_count b)) size) b.loss.board.runs
  again_unheld size =
      subst (λ (n : ℕ). AreUnheld n (min (hole_len b offset (sent_count b)) size) b.loss.board.runs)
      (sym (following_nothing (one_if b.sender.syn_unacked) offset (ap one_if no_syn)))
      (gap_unheld b.loss.board.runs k.board.fine offset (min (hole_len b offset (sent_count b)) size) (sent_count b) again_out
      (upto offset (gap_end b.loss.board.runs offset (sent_count b)) size (hole_len b offset (sent_count b)) len_is
      (gap_from b.loss.board.runs offset (sent_count b) (again_sent b limit (sent_count b) queued))))
    where
      following_nothing : (n at : ℕ) → n ≡ 0 → n + at ≡ at
      following_nothing n at e = omega arith

      len_is : hole_len b offset (sent_count b) ≡ gap_end b.loss.board.runs offset (sent_count b) - offset
      len_is = ap (λ (t : Bool). if t then sent_count b - offset else gap_end b.loss.board.runs offset (sent_count b) - offset) no_syn

      upto : (at end size len : ℕ) → len ≡ end - at → at ≤ end → at + min len size ≤ end
      upto at end size len e f = omega arith

abbrev is_again : OfferKind → Bool
is_again Kind.FastRetransmission = true
is_again other = false

module _ (cx : ContextValue) (v : TcpValue) (p : IsInOrder (sending_of v)) (t : IsTimedRight (timing_of v.tcb)) (k : Believes (believed_of v.tcb))
    (no_syn : v.tcb.sender.syn_unacked ≡ false) where
  abbrev Unheld : Offered TcpValue → Type 0
  Unheld o =
      (a : OpenOffer) → o.socket.offered ≡ Some a → is_again a.kind ≡ true → AreUnheld (start_of o.socket.tcb a) a.len o.socket.tcb.loss.board.runs

  one_offer : (a b : OpenOffer) → Some a ≡ Some b → a ≡ b
  one_offer a b e = cc

  another : {A : Type 0} (a b : OpenOffer) → Some a ≡ Some b → is_again a.kind ≡ false → is_again b.kind ≡ true → A
  another a b e not is = clash (sym is ∙ sym (ap (λ (o : OpenOffer). is_again o.kind) (one_offer a b e)) ∙ not)

  nothing : {A : Type 0} (a : OpenOffer) → None ≡ Some a → A
  nothing a e = absurd (cc)

  unheld_last : (pair : FourTuple) (x : TcpValue) → x.offered ≡ None → LastRules cx pair Unheld x
  unheld_last pair x none = record {
    probe = λ _ _ a e is. another _ a e refl is;
    window_limited = λ _ _ a e is. another _ a e refl is;
    ack = λ _ a e is. another _ a e refl is;
    update = λ _ _ a e is. another _ a e refl is;
    keep_alive = λ _ _ a e is. another _ a e refl is;
    quiet = λ _ a e is. nothing a (sym none ∙ e);
  }

  unheld_first : (pair : FourTuple) (w : TcpValue) → w.offered ≡ None → Believes (believed_of w.tcb) → w.tcb.sender.flight_size ≤ w.tcb.sender.snd_max
      → w.tcb.sender.syn_unacked ≡ false
      → w.tcb.sender.flight_size ≤ one_if w.tcb.sender.syn_unacked + queued_in w + one_if (owes_fin w.tcb.state) → FirstRules cx pair Unheld w
  unheld_first pair w none believes sent syn within = record {
    syn = λ _ a e is. another _ a e refl is;
    again = λ _ does a e is.
        subst (λ (o : OpenOffer). AreUnheld (start_of w.tcb o) o.len w.tcb.loss.board.runs) (one_offer _ a e)
        (again_unheld w.tcb believes sent syn (size_limit w.tcb pair.addresses cx.ip_mtu) (queued_in w) within _ does _);
    payload = λ _ _ a e is. another _ a e refl is;
    last = λ _. unheld_last pair (probing cx w) none;
  }

  least : (n : ℕ) → 0 ≤ n
  least n = omega arith

  unheld_rules : Rules cx v Unheld
  unheld_rules = record {
    nobody = λ _ a e is. nothing a e;
    time_wait = λ _ a e is. nothing a e;
    timeout = λ _ a e is. nothing a e;
    closed = λ _ a e is. nothing a e;
    reset = λ _ _ _ a e is. another _ a e refl is;
    falls = λ _ _ _ a e is. nothing a e;
    over = λ _ _ _ a e is. nothing a e;
    backs = λ pair _ _ _.
        unheld_first pair (with_tcb (unoffered v) (backed_off_now (begun cx v))) refl (backed_on cx v k) (least _) no_syn (least _);
    probes = λ pair _ on _ _.
        unheld_first pair (with_tcb (unoffered v) (loss_probed (begun cx v))) refl (probed_on (begun cx v) k) t.sent no_syn (p.within on.alive);
    goes = λ pair _ on _. unheld_first pair (with_tcb (unoffered v) (begun cx v)) refl k t.sent no_syn (p.within on.alive);
  }

  unheld_offer : Unheld (offer_of cx v)
  unheld_offer = by_rules cx v Unheld unheld_rules

pub again_isnt_held : (capacity : ℕ) (queued : Ring ℕ) (events : List Event) (cx : ContextValue) (o : OpenOffer)
    → (led (new_socket capacity queued) events).tcb.sender.syn_unacked ≡ false
    → (offer_of cx (led (new_socket capacity queued) events)).socket.offered ≡ Some o → o.kind ≡ Kind.FastRetransmission
    → AreUnheld (start_of (offer_of cx (led (new_socket capacity queued) events)).socket.tcb o) o.len
    (offer_of cx (led (new_socket capacity queued) events)).socket.tcb.loss.board.runs
again_isnt_held capacity queued events cx o no_syn offered kind =
    unheld_offer cx (led (new_socket capacity queued) events) (led_new capacity queued events) (led_timing capacity queued events)
    (led_on (new_socket capacity queued) events nothing_believed) no_syn o offered (ap is_again kind)
