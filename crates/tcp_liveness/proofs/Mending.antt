-- While SND.UNA stays, what is retransmitted in a recovery takes a position each time, or begins at SND.UNA.
use Rattle.std.proofs.Common.{◌≡◌, ◌⊎◌, inl, inr, ℕ, zero, suc, ◌+◌, ◌-◌, ◌%◌, ◌^◌, ◌<◌, ◌≤◌, ◌==◌, ◌&&◌, ◌||◌, nat_le, nat_lt, not, min, max}
use Rattle.std.proofs.Common.{ℤ, Bool, true, false, if◌then◌else◌, List, [], ◌∷◌, length, Some, is_none}
use Rattle.std.proofs.Common.{refl, sym, ap, ◌∙◌, subst, arith}
use Rattle.std.proofs.lemmas.Bool.{cond_both, eqb-true, eq-eqb, leb-true, lt-ltb, ltb-false, ltb-true}
use Rattle.ip_wire.specs.Control.{control_len}
use Rattle.ip_wire.specs.IpRepr.{IpRepr}
use Rattle.ip_wire.specs.SeqNumber.{SeqNumber}
use Rattle.ip_wire.specs.Tcp.{header_len}
use Rattle.ip_wire.specs.TcpControl.TheVariants as Control
use Rattle.ip_wire.specs.TcpHeader.{TcpHeader}
use Rattle.tcp_refinement.specs.Context.{ContextValue}
use Rattle.tcp_block.specs.Opening.{took_syn}
use Rattle.tcp_block.specs.Reno as reno
use Rattle.tcp_block.specs.Reno.{RenoValue}
use Rattle.tcp_block.specs.Run.{Run}
use Rattle.tcp_block.specs.Scoreboard.{first_missing, gap_end, held, is_run, lies_in}
use Rattle.tcp_block.specs.Undo.{undo_sent}
use Rattle.tcp_block.specs.declared.tcb.Loss.{Loss}
use Rattle.tcp_block.proofs.Undone.{undone_cases}
use Rattle.tcp_invariants.specs.FourTuple.{FourTuple}
use Rattle.tcp_invariants.specs.Endpoints.{header_for}
use Rattle.tcp_invariants.specs.Moments.{is_over, timeout_from}
use Rattle.tcp_invariants.specs.Offsets.{advanced_by}
use Rattle.tcp_invariants.specs.OfferKind.TheVariants as Kind
use Rattle.tcp_invariants.specs.OpenOffer.{OpenOffer}
use Rattle.tcp_invariants.specs.States.{owes_fin}
use Rattle.tcp_invariants.proofs.AgainSteps.{passes_small, recovers_before}
use Rattle.tcp_invariants.proofs.ApartRuns.{AllOut, Board, first_out, missing_least}
use Rattle.tcp_invariants.proofs.ArrivalCases.{by_arrival, Received, Opening, Content, Drawing, acked_open, heeded, suc_not, timed}
use Rattle.tcp_invariants.proofs.EarlyRules.{InRecovery, goes_in, rescue_parts}
use Rattle.tcp_invariants.proofs.RcvAdvSteps.{near_distance}
use Rattle.tcp_invariants.proofs.OrderSteps.{clash, one_if_least}
use Rattle.tcp_block.specs.Acknowledged.{begins_recovery, counted, duplicates_after, is_partial, is_third, ranges_taken, reno_counted, una_moved, windowed}
use Rattle.tcp_block.specs.Arrival.{arrives, waiting_anew}
use Rattle.tcp_block.specs.declared.tcb.Tcb.{Tcb}
use Rattle.tcp_block.specs.TcbRules.{one_if}
use Rattle.tcp_block.specs.Checks.{acknowledgement_check}
use Rattle.tcp_block.specs.Checks.Check.{Passes}
use Rattle.tcp_block.specs.LossRecovery.{all_noted, hole_len, hole_offset, is_lost_again, is_rescue, loss_probed, next_hole, probe_armed}
use Rattle.tcp_block.specs.LossRecovery.{heard_more, probe_from, probes_losses, probes_tail, ranges_noted, rescue_after, with_board}
use Rattle.tcp_block.specs.Offers.{number_at, offer_choice}
use Rattle.tcp_block.specs.Retries.{asked, one_more}
use Rattle.tcp_block.specs.Rules.{Choice, control_for, fin_is_sent, resend_choice, resends, sent_count, size_limit}
use Rattle.tcp_block.specs.Segments.{hop_limit_of, segment}
use Rattle.tcp_block.specs.Settled.{end_of, nxt_moved, recorded, resent, sent_as, timer_started}
use Rattle.tcp_block.specs.Timestamps.{tsecr_taken, tsval_taken}
use Rattle.tcp_block.specs.Undone.{undone}
use Rattle.tcp_block.specs.Value.{TcpValue, Arrived, with_tcb, unoffered, queued_in, room_of, window_of}
use Rattle.tcp_liveness.specs.Anew.{BeginsAnew}
use Rattle.tcp_liveness.specs.Arrivals.{is_synchronized}

-- HOW OFTEN

-- what says where something is retransmitted
pub record Mending : Type 0 where
  pub resend : Bool
  pub recovers : Bool
  pub resent : ℕ
  pub rescue_rxt : ℕ
  pub probes : Bool

abbrev pub mending_in : Tcb → Loss → Mending
mending_in b l = record { resend = b.sender.resend; recovers = b.reno.recovers; resent = l.resent; rescue_rxt = l.rescue_rxt; probes = l.probes }

abbrev pub mending_of : Tcb → Mending
mending_of b = mending_in b b.loss

-- how many positions lie after what was retransmitted; where nothing did, the next goes from SND.UNA on
abbrev pub following : ℕ → ℕ → ℕ
following most resent = if resent == 0 then 0 else most - resent

-- so many times at most something is retransmitted in a recovery before anything goes from SND.UNA on, where so many positions are sent
abbrev pub Few : ℕ → ℕ → Mending → Type 0
Few most n m = m.recovers ≡ true → m.resend ≡ false → following most m.resent + one_if (m.rescue_rxt == 0) + one_if m.probes ≤ n

positive : (n : ℕ) → (n == 0) ≡ false → 1 ≤ n
positive zero e = clash e
positive (suc n) e = one n where
  one : (n : ℕ) → 1 ≤ suc n
  one n = omega arith

pub few_first : (most : ℕ) (m : Mending) → 1 ≤ most → Few most (most + 1) m
few_first most m some _ _ =
    cond_both (m.resent == 0) 0 (most - m.resent) (λ (n : ℕ). n + one_if (m.rescue_rxt == 0) + one_if m.probes ≤ most + 1)
    (λ _. none (one_if (m.rescue_rxt == 0)) (one_if m.probes) (one_if_least (m.rescue_rxt == 0)) (one_if_least m.probes))
    (λ e. less m.resent (one_if (m.rescue_rxt == 0)) (one_if m.probes) (positive m.resent e) (one_if_least (m.rescue_rxt == 0)) (one_if_least m.probes))
  where
    none : (a b : ℕ) → a ≤ 1 → b ≤ 1 → 0 + a + b ≤ most + 1
    none a b e f = omega arith

    less : (r a b : ℕ) → 1 ≤ r → a ≤ 1 → b ≤ 1 → most - r + a + b ≤ most + 1
    less r a b e f g = omega arith

second_true : (a b : Bool) → (a && b) ≡ true → b ≡ true
second_true true b e = e
second_true false b e = clash (sym e)

neither : (a b : Bool) → (a || b) ≡ false → (a ≡ false) × (b ≡ false)
neither true b e = clash e
neither false b e = (refl, e)

module _ (most n : ℕ) where
  -- less of it
  fewer : (m : Mending) (resent : ℕ) (rescue_rxt : Bool) (probes : Bool) → Few most n m → (resent ≡ m.resent) ⊎ (resent ≡ 0)
      → (rescue_rxt ≡ (m.rescue_rxt == 0)) → (probes ≡ true → m.probes ≡ true) → m.recovers ≡ true → m.resend ≡ false
      → following most resent + one_if rescue_rxt + one_if probes ≤ n
  fewer m resent rescue_rxt probes h r s p recovers resend =
      sum (following most resent) (following most m.resent) (one_if rescue_rxt) (one_if (m.rescue_rxt == 0)) (one_if probes) (one_if m.probes) (by r) (ap one_if s)
      (no_more probes m.probes p) (h recovers resend)
    where
      by : (resent ≡ m.resent) ⊎ (resent ≡ 0) → following most resent ≤ following most m.resent
      by (inl e) = same (following most resent) (following most m.resent) (ap (following most) e) where
        same : (a b : ℕ) → a ≡ b → a ≤ b
        same a b e = omega arith
      by (inr e) = none (following most resent) (following most m.resent) (ap (following most) e) where
        none : (a b : ℕ) → a ≡ 0 → a ≤ b
        none a b e = omega arith

      no_more : (a b : Bool) → (a ≡ true → b ≡ true) → one_if a ≤ one_if b
      no_more false b e = zero_least (one_if b) where
        zero_least : (n : ℕ) → 0 ≤ n
        zero_least n = omega arith
      no_more true b e = subst (λ (t : Bool). 1 ≤ one_if t) (sym (e refl)) (omega arith)

      sum : (a b c d e f : ℕ) → a ≤ b → c ≡ d → e ≤ f → b + d + f ≤ n → a + c + e ≤ n
      sum a b c d e f x y z w = omega arith

  pub armed_few : (b : Tcb) (l : Loss) (now : ℤ) → Few most n (mending_in b l) → Few most n (mending_in b (probe_armed b l now))
  armed_few b l now h =
      cond_both (probes_losses b && not l.probed) (record l { probe_at = probe_from b now }) l (λ (m : Loss). Few most n (mending_in b m)) (λ _. h) (λ _. h)

  -- AN ACKNOWLEDGEMENT

  not_resent : (a b : Bool) → ((a && true) || b) ≡ false → a ≡ false
  not_resent true b e = clash e
  not_resent false b e = refl

  none_acked : (b : Tcb) (queued : ℕ) (now : ℤ) → Few most n (mending_of b) → Few most n (mending_of (una_moved b 0 queued now))
  none_acked b queued now h recovers resend =
      h (recovers_before b 0 queued now recovers) (not_resent b.sender.resend (is_partial b 0 && (b.loss.resent - 0 == 0)) resend)

  none_moved : (una by : ℕ) → by < 2 ^ 32 → (una + by) % 2 ^ 32 ≡ una → by ≡ 0
  none_moved una by a e = omega arith

  acked_few :
      (b : Tcb) (by queued : ℕ) (now : ℤ) → by < 2 ^ 32 → advanced_by b.sender.una by ≡ b.sender.una → Few most n (mending_of b)
      → Few most n (mending_of (una_moved b by queued now))
  acked_few b by queued now small same h =
      subst (λ (k : ℕ). Few most n (mending_of (una_moved b k queued now)))
      (sym (none_moved b.sender.una.0 by small (ap (λ (s : SeqNumber). s.0) same))) (none_acked b queued now h)

  undone_few : (b : Tcb) (header : TcpHeader) (by queued : ℕ) → Few most n (mending_of b) → Few most n (mending_of (undone b header by queued))
  undone_few b header by queued h =
      undone_cases b header by queued (λ (c : Tcb). Few most n (mending_of c)) h (λ _ _ _ recovers _. clash (sym recovers))

  ranges_few : (b : Tcb) (header : TcpHeader) (now : ℤ) → Few most n (mending_of b) → Few most n (mending_in b (ranges_noted b header now))
  ranges_few b header now h =
      cond_both b.peer.sack (heard_more b runs now) b.loss (λ (l : Loss). Few most n (mending_in b l))
      (λ _.
      cond_both (nat_lt (held b.loss.board.runs) (held runs))
      (probe_armed b (record b.loss { board = record { runs = runs }; probes = false; probed = false }) now)
      (with_board b.loss runs) (λ (l : Loss). Few most n (mending_in b l))
      (λ _.
      armed_few b (record b.loss { board = record { runs = runs }; probes = false; probed = false }) now
      (fewer (mending_of b) b.loss.resent (b.loss.rescue_rxt == 0) false h (inl refl) refl (λ e. clash (sym e))))
      (λ _. h))
      (λ _. h)
    where
      runs : List Run
      runs = all_noted b b.loss.board.runs header.options.sack_ranges

  counted_few : (b : Tcb) (count : ℕ) (now : ℤ) → Few most n (mending_of b) → Few most n (mending_of (counted b count now))
  counted_few b count now h = at (begins_recovery b count) (is_lost_again b) (is_third b count) refl where
    So : Bool → Bool → Bool → Type 0
    So begins again third =
        (reno_counted b.reno b.peer.sack count b.sender.flight_size begins again).recovers ≡ true → (b.sender.resend || (third || begins)) ≡ false
        → following most (if begins || again then 0 else b.loss.resent) + one_if ((if begins then 0 else b.loss.rescue_rxt) == 0) + one_if b.loss.probes ≤ n

    in_recovery : is_lost_again b ≡ true → b.reno.recovers ≡ true
    in_recovery e = first_true b.reno.recovers _ (second_true b.peer.sack _ e) where
      first_true : (a b : Bool) → (a && b) ≡ true → a ≡ true
      first_true true b e = refl
      first_true false b e = clash (sym e)

    Before : RenoValue → Type 0
    Before r = r.recovers ≡ true → b.reno.recovers ≡ true

    inflates : (reno_counted b.reno b.peer.sack count b.sender.flight_size false false).recovers ≡ true → b.reno.recovers ≡ true
    inflates =
        cond_both (not (count == 0) && not b.peer.sack) (reno.inflated b.reno) b.reno Before
        (λ _. cond_both b.reno.recovers (record b.reno { cwnd = min reno.most (b.reno.cwnd + b.reno.mss) }) b.reno Before (λ is _. is) (λ _ e. e))
        (λ _ e. e)

    never : (a b : Bool) → (a || (b || true)) ≡ false → ⊥
    never true b e = clash e
    never false true e = clash e
    never false false e = clash e

    at : (begins again third : Bool) → is_lost_again b ≡ again → So begins again third
    at true again third e recovers resend = absurd (never b.sender.resend third resend)
    at false true third e recovers resend =
        fewer (mending_of b) 0 (b.loss.rescue_rxt == 0) b.loss.probes h (inr refl) refl (λ p. p) (in_recovery e)
        (neither b.sender.resend (third || false) resend).0
    at false false third e recovers resend = h (inflates recovers) (neither b.sender.resend (third || false) resend).0

  -- A SEGMENT COMES

  module _ (cx : ContextValue) (ip : IpRepr) (header : TcpHeader) (bytes : List ℕ) (v : TcpValue) (h : Few most n (mending_of v.tcb)) where
    abbrev Since : TcpValue → Type 0
    Since x = x.tcb.sender.una ≡ v.tcb.sender.una → Few most n (mending_of x.tcb)

    -- no connection is there, or it is so
    abbrev Stays : Arrived → Type 0
    Stays a = (is_synchronized a.socket.tcb.state ≡ false) ⊎ Since a.socket

    stays_drawing : (x : TcpValue) → Since x → Drawing cx ip header bytes Stays x
    stays_drawing x s = record { answers = λ _. inr s; at_once = inr s; pauses = inr s }

    stays_content : (x : TcpValue) → Since x → Content cx ip header bytes Stays x
    stays_content x s = record {
      plain = (λ _. inr s, inr s);
      fin = λ _ _. (λ _. inr s, inr s);
      ordered = λ _ _ _ _. (λ _. inr s, inr s);
      ordered_fin = λ _ _ _ _. (λ _. inr s, inr s);
      early = λ _ _ _ _. inr s;
    }

    heard_few : (by : ℕ) → Few most n (mending_of (timed cx.instant header (unoffered v) by).tcb)
    heard_few by = undone_few v.tcb header by (queued_in v) h

    risen : (by : ℕ) → acknowledgement_check v.tcb header.ack_number ≡ Passes by →
        Since (acked_open (timed cx.instant header (unoffered v) by) by cx.instant)
    risen by passes same =
        acked_few (timed cx.instant header (unoffered v) by).tcb by (queued_in v) cx.instant (passes_small v.tcb header.ack_number by passes) same
        (heard_few by)

    heeded_few : (by : ℕ) (b : Tcb) → (b.sender.una ≡ v.tcb.sender.una → Few most n (mending_of b))
        → Since (heeded cx.instant header (length bytes) (unoffered v) by b)
    heeded_few by b s same =
        let c = tsval_taken b header cx.instant in
        counted_few (ranges_taken c header cx.instant) (duplicates_after v.tcb header (length bytes) by) cx.instant (ranges_few c header cx.instant (s same))

    stays_received : Received cx ip header bytes Stays (unoffered v)
    stays_received = record {
      stays = inr (λ _. h);
      refuses = inr (λ _. h);
      draws = stays_drawing (unoffered v) (λ _. h);
      falls = λ _ _ _. inl refl;
      ends = λ _ _ _. inl refl;
      closes = λ _ _ _. inl refl;
      taken = λ by passes _.
          let b = (acked_open (timed cx.instant header (unoffered v) by) by cx.instant).tcb in
          stays_content (heeded cx.instant header (length bytes) (unoffered v) by b) (heeded_few by b (risen by passes));
      taken_window = λ by passes _.
          let b = windowed (acked_open (timed cx.instant header (unoffered v) by) by cx.instant).tcb header in
          stays_content (heeded cx.instant header (length bytes) (unoffered v) by b) (heeded_few by b (risen by passes));
      news = λ by passes _.
          stays_drawing (waiting_anew (acked_open (timed cx.instant header (unoffered v) by) by cx.instant) header cx.instant) (risen by passes);
      outside = stays_drawing (waiting_anew (unoffered v) header cx.instant) (λ _. h);
      old = λ _. stays_content _ (λ _. h);
    }

    stays_opening : Opening cx ip header bytes Stays (unoffered v)
    stays_opening = record {
      opens = λ _ _. inl refl;
      refuses = inr (λ _. h);
      ends = λ _. inl refl;
      connects = λ _ _.
          inr (λ same. acked_few (tsecr_taken (took_syn v.tcb header) header 1 cx.instant) 1 0 cx.instant (omega arith) same h);
      crosses = λ _ _. inr (λ _. h);
    }

    pub arrival_few : Stays (arrives cx v ip header bytes)
    arrival_few = by_arrival cx ip header bytes Stays v (inr (λ _. h)) (λ _. stays_opening) (λ _. stays_received)

  -- IT IS ASKED

  pub asked_few : (b : Tcb) (now : ℤ) → Few most n (mending_of b) → Few most n (mending_of (asked b now))
  asked_few b now h =
      cond_both (is_over now b.timers.counts_from)
      (record b {
        sender = record b.sender { unanswered = one_more b.sender.unanswered };
        timers = record b.timers { counts_from = Some (timeout_from now b.round_trip) };
      })
      b (λ (c : Tcb). Few most n (mending_of c)) (λ _. h) (λ _. h)

  -- a loss probe is due: in a recovery the segment at SND.UNA is to be retransmitted
  pub probed_few : (b : Tcb) → (b.reno.recovers ≡ true → 1 ≤ b.sender.recover) → Few most n (mending_of b) → Few most n (mending_of (loss_probed b))
  probed_few b lasts h = at (probes_tail b) refl where
    none : probes_tail b ≡ true → b.sender.recover ≡ 0
    none e =
        eqb-true b.sender.recover 0
        (first_true (b.sender.recover == 0) (held b.loss.board.runs == 0)
        (second_true (is_none b.loss.reorder_until) ((b.sender.recover == 0) && (held b.loss.board.runs == 0)) e))
      where
        first_true : (a b : Bool) → (a && b) ≡ true → a ≡ true
        first_true true b e = refl
        first_true false b e = clash (sym e)

    clashes : (r : ℕ) → 1 ≤ r → r ≡ 0 → ⊥
    clashes r e f = absurd (omega arith)

    never : (a : Bool) → (a || true) ≡ false → ⊥
    never true e = clash e
    never false e = clash e

    at :
        (tail : Bool) → probes_tail b ≡ tail → (if tail then b.reno else reno.reduced b.reno b.sender.flight_size).recovers ≡ true
        → (b.sender.resend || not tail) ≡ false
        → following most (if tail then b.loss.resent else 0) + one_if ((if not tail && (b.sender.recover == 0) then 0 else b.loss.rescue_rxt) == 0) + one_if tail ≤ n
    at true e recovers resend = absurd (clashes b.sender.recover (lasts recovers) (none e))
    at false e recovers resend = absurd (never b.sender.resend resend)

pub probed_lasts : (b : Tcb) → (b.reno.recovers ≡ true → 1 ≤ b.sender.recover) → (loss_probed b).reno.recovers ≡ true → 1 ≤ (loss_probed b).sender.recover
probed_lasts b lasts = at (probes_tail b) where
  some : (n : ℕ) → 1 ≤ min (n + 1) 4_294_967_295
  some n = omega arith

  at :
      (tail : Bool) → (if tail then b.reno else reno.reduced b.reno b.sender.flight_size).recovers ≡ true
      → 1 ≤ (if not tail && (b.sender.recover == 0) then min (b.sender.snd_max + 1) 4_294_967_295 else b.sender.recover)
  at true recovers = lasts recovers
  at false recovers =
      cond_both (b.sender.recover == 0) (min (b.sender.snd_max + 1) 4_294_967_295) b.sender.recover (λ (n : ℕ). 1 ≤ n) (λ _. some b.sender.snd_max)
      (λ e. positive b.sender.recover e)

-- WHAT GOES AGAIN

number_is : (a b : SeqNumber) → a.0 ≡ b.0 → a ≡ b
number_is a b e = ap (λ (n : ℕ). same n) e where
  same : ℕ → SeqNumber
  same n = record { 0 = n }

-- the gap that begins at an offset has a position
pub gap_past : (runs : List Run) (offset most : ℕ) → offset < most → offset < gap_end runs offset most
gap_past [] offset most e = e
gap_past (r ∷ rs) offset most e =
    cond_both (is_run r && nat_lt offset r.start) (min most r.start) most (λ (end : ℕ). offset < gap_end rs offset end)
    (λ so. gap_past rs offset (min most r.start) (both offset most r.start e (ltb-true offset r.start (second_true (is_run r) (nat_lt offset r.start) so))))
    (λ _. gap_past rs offset most e)
  where
    both : (offset a b : ℕ) → offset < a → offset < b → offset < min a b
    both offset a b e f = omega arith

-- the position at SND.UNA isn't held
none_first : (runs : List Run) → AllOut 0 runs → first_missing runs 0 ≡ 0
none_first [] out = refl
none_first (r ∷ rs) out =
    cond_both (lies_in 0 r) r.end 0 (λ (n : ℕ). first_missing rs n ≡ 0) (λ inside. absurd (never inside out.0)) (λ _. none_first rs out.1)
  where
    never : lies_in 0 r ≡ true → (0 < r.start) ⊎ (r.end ≤ 0) → ⊥
    never inside (inl below) = under r.start (leb-true r.start 0 (first_true (nat_le r.start 0) (nat_lt 0 r.end) inside)) below where
      under : (n : ℕ) → n ≤ 0 → 0 < n → ⊥
      under n e f = absurd (omega arith)

      first_true : (a b : Bool) → (a && b) ≡ true → a ≡ true
      first_true true b e = refl
      first_true false b e = clash (sym e)
    never inside (inr above) = over r.end (ltb-true 0 r.end (second_true (nat_le r.start 0) (nat_lt 0 r.end) inside)) above where
      over : (n : ℕ) → 0 < n → n ≤ 0 → ⊥
      over n e f = absurd (omega arith)

-- what is so of each socket with a connection
pub record IsSure (b : Tcb) (queued : ℕ) : Type 0 where
  pub small : b.sender.una.0 < 2 ^ 32
  pub syn : b.sender.syn_unacked ≡ false
  pub sent : b.sender.flight_size ≤ b.sender.snd_max
  pub within : b.sender.flight_size ≤ one_if b.sender.syn_unacked + queued + one_if (owes_fin b.state)
  pub few : b.sender.snd_max < 2 ^ 30
  pub board : Board b.loss.board.runs
  pub lasts : b.reno.recovers ≡ true → 1 ≤ b.sender.recover

-- where a segment is retransmitted after what was retransmitted before, it ends further
falls_by :
    (most n r end rescue_rxt recover : ℕ) (resend recovers probes is : Bool) → resend ≡ false → recovers ≡ true → (is ≡ true → probes ≡ false)
    → (is ≡ true → rescue_rxt ≡ 0) → 1 ≤ recover → (probes ≡ false → is ≡ false → (1 ≤ r) × (r < end)) → end ≤ most
    → following most r + one_if (rescue_rxt == 0) + one_if probes ≤ n
    → (1 ≤ n)
    × (following most (if resend || (recovers && not (probes || is)) then max r end else r)
    + one_if ((if recovers && resend then max rescue_rxt (min (end + 1) 4_294_967_295) else if is then recover else rescue_rxt) == 0)
    + one_if false
    ≤ n - 1)
falls_by most n r end rescue_rxt recover true recovers probes is e f a b c d g h = clash e
falls_by most n r end rescue_rxt recover false false probes is e f a b c d g h = clash (sym f)
falls_by most n r end rescue_rxt recover false true true true e f a b c d g h = clash (a refl)
falls_by most n r end rescue_rxt recover false true true false e f a b c d g h = last (following most r) (one_if (rescue_rxt == 0)) h where
  last : (a b : ℕ) → a + b + 1 ≤ n → (1 ≤ n) × (a + b + 0 ≤ n - 1)
  last a b e = (omega arith, omega arith)
falls_by most n r end rescue_rxt recover false true false true e f a b c d g h =
    last (following most r) (one_if (rescue_rxt == 0)) (one_if (recover == 0)) (ap (λ (k : ℕ). one_if (k == 0)) (b refl)) (some recover c) h where
      some : (k : ℕ) → 1 ≤ k → one_if (k == 0) ≡ 0
      some zero e = absurd (omega arith)
      some (suc k) e = ap one_if (suc_not k)

      last : (a b k : ℕ) → b ≡ 1 → k ≡ 0 → a + b + 0 ≤ n → (1 ≤ n) × (a + k + 0 ≤ n - 1)
      last a b k e f g = (omega arith, omega arith)
falls_by most n r end rescue_rxt recover false true false false e f a b c d g h =
    cond_both (r == 0) 0 (most - r)
    (λ (k : ℕ). k + one_if (rescue_rxt == 0) + 0 ≤ n → (1 ≤ n) × (following most (max r end) + one_if (rescue_rxt == 0) + 0 ≤ n - 1))
    (λ none _. absurd (never r (d refl refl).0 (eqb-true r 0 none)))
    (λ _ h.
    cond_both (max r end == 0) 0 (most - max r end) (λ (k : ℕ). (1 ≤ n) × (k + one_if (rescue_rxt == 0) + 0 ≤ n - 1))
    (λ none. absurd (never r (d refl refl).0 (less r end (eqb-true (max r end) 0 none))))
    (λ _. last (one_if (rescue_rxt == 0)) (d refl refl).1 h))
    h
  where
    never : (k : ℕ) → 1 ≤ k → k ≡ 0 → ⊥
    never k e f = absurd (omega arith)

    less : (a b : ℕ) → max a b ≡ 0 → a ≡ 0
    less a b e = omega arith

    last : (k : ℕ) → r < end → most - r + k + 0 ≤ n → (1 ≤ n) × (most - max r end + k + 0 ≤ n - 1)
    last k e f = (omega (arith, g), omega (arith, g))

module _ (most n : ℕ) (cx : ContextValue) (v : TcpValue) (pair : FourTuple) (b : Tcb) (h : Few most n (mending_of b)) (sure : IsSure b (queued_in v)) where
  abbrev w : TcpValue
  w = with_tcb (unoffered v) b

  abbrev again : Choice
  again = resend_choice b pair.addresses cx.ip_mtu v.queued

  abbrev limit : ℕ
  limit = size_limit b pair.addresses cx.ip_mtu

  abbrev mine : OpenOffer
  mine = record {
    kind = Kind.FastRetransmission;
    instant = cx.instant;
    header = header_for pair.addresses (hop_limit_of b.settings.hop_limit) (header_len (segment b pair cx.instant (window_of w) (control_for again (queued_in v)) (number_at b again.offset)) + again.len);
    segment = segment b pair cx.instant (window_of w) (control_for again (queued_in v)) (number_at b again.offset);
    offset = again.offset;
    len = again.len;
  }

  abbrev gone : Tcb
  gone = sent_as Kind.FastRetransmission (recorded b mine (room_of v.received)) mine (queued_in v)

  abbrev ends : ℕ
  ends = end_of (recorded b mine (room_of v.received)) mine

  abbrev Falls : Type 0
  Falls = gone.sender.snd_max ≤ most → (1 ≤ n) × Few most (n - 1) (mending_of gone)

  no_syn : one_if b.sender.syn_unacked ≡ 0
  no_syn = ap one_if sure.syn

  first : again.offset ≡ 0 → BeginsAnew (offer_choice Kind.FastRetransmission cx w pair again).socket
  first none = record {
    o = mine;
    offered = refl;
    kind = refl;
    number =
        number_is (number_at b again.offset) b.sender.una
        (at_una b.sender.una.0 (one_if b.sender.syn_unacked) again.offset sure.small no_syn none);
  }
    where
      at_una : (una syn offset : ℕ) → una < 2 ^ 32 → syn ≡ 0 → offset ≡ 0 → (una + (syn + offset)) % 2 ^ 32 ≡ una
      at_una una syn offset small none first = omega arith

  -- how much goes from an offset on
  abbrev len_at : ℕ → ℕ
  len_at offset = min (hole_len b offset (sent_count b)) (min limit (queued_in v - offset))

  abbrev part_at : ℕ → Choice
  part_at offset = record {
    offset = offset;
    len = len_at offset;
    fin = fin_is_sent b (queued_in v) (offset + len_at offset) && nat_lt (offset + len_at offset) (sent_count b);
  }

  -- it takes a position after the hole
  reach :
      (offset : ℕ) → next_hole b < b.sender.flight_size → offset ≡ min (next_hole b) (min (sent_count b) (queued_in v))
      → next_hole b < offset + (len_at offset + control_len (control_for (part_at offset) (queued_in v)))
  reach offset flies is = at (nat_lt (next_hole b) (queued_in v)) refl where
    sent_is : sent_count b ≡ b.sender.snd_max
    sent_is = minus b.sender.snd_max (one_if b.sender.syn_unacked) no_syn where
      minus : (a b : ℕ) → b ≡ 0 → a - b ≡ a
      minus a b e = omega arith

    limit_some : 1 ≤ limit
    limit_some = some _ where
      some : (k : ℕ) → 1 ≤ max 1 k
      some k = omega arith

    payload : next_hole b < queued_in v → next_hole b < offset + (len_at offset + control_len (control_for (part_at offset) (queued_in v)))
    payload short =
        whole (next_hole b) offset (hole_len b offset (sent_count b)) limit (queued_in v) _ here hole limit_some short where
          here : offset ≡ next_hole b
          here = near offset (next_hole b) (sent_count b) (queued_in v) b.sender.flight_size b.sender.snd_max is flies sure.sent sent_is short where
            near : (offset hole sent queued flight snd_max : ℕ) → offset ≡ min hole (min sent queued) → hole < flight → flight ≤ snd_max → sent ≡ snd_max → hole < queued → offset ≡ hole
            near offset hole sent queued flight snd_max a b c d e = omega arith

          before : offset < sent_count b
          before = less offset (next_hole b) (sent_count b) b.sender.flight_size b.sender.snd_max here flies sure.sent sent_is where
            less : (offset hole sent flight snd_max : ℕ) → offset ≡ hole → hole < flight → flight ≤ snd_max → sent ≡ snd_max → offset < sent
            less offset hole sent flight snd_max a b c d = omega arith

          hole : 1 ≤ hole_len b offset (sent_count b)
          hole =
              cond_both b.sender.syn_unacked (sent_count b - offset) (gap_end b.loss.board.runs offset (sent_count b) - offset) (λ (k : ℕ). 1 ≤ k)
              (λ syn. clash (sym syn ∙ sure.syn))
              (λ _. some offset (gap_end b.loss.board.runs offset (sent_count b)) (gap_past b.loss.board.runs offset (sent_count b) before))
            where
              some : (a b : ℕ) → a < b → 1 ≤ b - a
              some a b e = omega arith

          whole : (hole offset gap limit queued control : ℕ) → offset ≡ hole → 1 ≤ gap → 1 ≤ limit → hole < queued →
              hole < offset + (min gap (min limit (queued - offset)) + control)
          whole hole offset gap limit queued control a b c d = omega arith

    fin : queued_in v ≤ next_hole b → next_hole b < offset + (len_at offset + control_len (control_for (part_at offset) (queued_in v)))
    fin far = whole (next_hole b) offset (len_at offset) (queued_in v) (control_len (control_for (part_at offset) (queued_in v))) hole_is here none one where
      owes_at : (t : Bool) → b.sender.flight_size ≤ one_if b.sender.syn_unacked + queued_in v + one_if t → t ≡ true
      owes_at true e = refl
      owes_at false e = absurd (never (next_hole b) b.sender.flight_size (one_if b.sender.syn_unacked) (queued_in v) far flies no_syn e) where
        never : (hole flight syn queued : ℕ) → queued ≤ hole → hole < flight → syn ≡ 0 → flight ≤ syn + queued + 0 → ⊥
        never hole flight syn queued a b c d = absurd (omega arith)

      owes : owes_fin b.state ≡ true
      owes = owes_at (owes_fin b.state) sure.within

      hole_is : next_hole b ≡ queued_in v
      hole_is = near (next_hole b) b.sender.flight_size (one_if b.sender.syn_unacked) (queued_in v) (one_if (owes_fin b.state)) far flies no_syn sure.within (one_if_least (owes_fin b.state)) where
        near : (hole flight syn queued fin : ℕ) → queued ≤ hole → hole < flight → syn ≡ 0 → flight ≤ syn + queued + fin → fin ≤ 1 → hole ≡ queued
        near hole flight syn queued fin a b c d e = omega arith

      here : offset ≡ queued_in v
      here = near offset (next_hole b) (sent_count b) (queued_in v) b.sender.flight_size b.sender.snd_max is hole_is flies sure.sent sent_is where
        near : (offset hole sent queued flight snd_max : ℕ) → offset ≡ min hole (min sent queued) → hole ≡ queued → hole < flight → flight ≤ snd_max → sent ≡ snd_max → offset ≡ queued
        near offset hole sent queued flight snd_max a b c d e = omega arith

      none : len_at offset ≡ 0
      none = zero_len (hole_len b offset (sent_count b)) limit (queued_in v) offset here where
        zero_len : (gap limit queued offset : ℕ) → offset ≡ queued → min gap (min limit (queued - offset)) ≡ 0
        zero_len gap limit queued offset e = omega arith

      at_end : (offset + len_at offset == queued_in v) ≡ true
      at_end = eq-eqb (offset + len_at offset) (queued_in v) (sum offset (len_at offset) (queued_in v) here none) where
        sum : (a b c : ℕ) → a ≡ c → b ≡ 0 → a + b ≡ c
        sum a b c e f = omega arith

      before : nat_lt (offset + len_at offset) (sent_count b) ≡ true
      before =
          lt-ltb (offset + len_at offset) (sent_count b)
          (less offset (len_at offset) (next_hole b) (sent_count b) (queued_in v) b.sender.flight_size b.sender.snd_max here none hole_is flies sure.sent sent_is)
        where
          less : (offset len hole sent queued flight snd_max : ℕ) → offset ≡ queued → len ≡ 0 → hole ≡ queued → hole < flight → flight ≤ snd_max → sent ≡ snd_max → offset + len < sent
          less offset len hole sent queued flight snd_max a b c d e f = omega arith

      goes : (part_at offset).fin ≡ true
      goes =
          ap (λ (t : Bool). (t && (offset + len_at offset == queued_in v)) && nat_lt (offset + len_at offset) (sent_count b)) owes
          ∙ (ap (λ (t : Bool). t && nat_lt (offset + len_at offset) (sent_count b)) at_end ∙ before)

      one : control_len (control_for (part_at offset) (queued_in v)) ≡ 1
      one =
          ap (λ (t : Bool). control_len (if t then Control.Fin
          else if not (len_at offset == 0) && (offset + len_at offset == queued_in v) then Control.Psh else Control.None)) goes

      whole : (hole offset len queued control : ℕ) → hole ≡ queued → offset ≡ queued → len ≡ 0 → control ≡ 1 → hole < offset + (len + control)
      whole hole offset len queued control a b c d = omega arith

    at : (t : Bool) → nat_lt (next_hole b) (queued_in v) ≡ t → next_hole b < offset + (len_at offset + control_len (control_for (part_at offset) (queued_in v)))
    at true e = payload (ltb-true (next_hole b) (queued_in v) e)
    at false e = fin (ltb-false (next_hole b) (queued_in v) e)

  -- the segment ends so far past SND.UNA
  ends_at : again.offset < 2 ^ 32 → ends ≡ again.offset + (again.len + control_len (control_for again (queued_in v)))
  ends_at small =
      ap (λ (k : ℕ). k + (again.len + control_len (control_for again (queued_in v))))
      (near_distance b.sender.una (one_if b.sender.syn_unacked + again.offset) sure.small (less (one_if b.sender.syn_unacked) again.offset no_syn small)
      ∙ sum (one_if b.sender.syn_unacked) again.offset no_syn)
    where
      less : (syn offset : ℕ) → syn ≡ 0 → offset < 2 ^ 32 → syn + offset < 2 ^ 32
      less syn offset e f = omega arith

      sum : (syn offset : ℕ) → syn ≡ 0 → syn + offset ≡ offset
      sum syn offset e = omega arith

  falls :
      b.sender.resend ≡ false → b.reno.recovers ≡ true → (is_rescue b ≡ true → b.loss.probes ≡ false)
      → (b.loss.probes ≡ false → is_rescue b ≡ false → (1 ≤ b.loss.resent) × (b.loss.resent < ends)) → Falls
  falls resend recovers rescue_rxt further within =
      (all.0, λ _ _. armed_left) where
        less : (a b c : ℕ) → max a b ≤ c → b ≤ c
        less a b c e = omega arith

        all :
            (1 ≤ n)
            × (following most (if b.sender.resend || (b.reno.recovers && not (b.loss.probes || is_rescue b)) then max b.loss.resent ends else b.loss.resent)
            + one_if (rescue_after b ends == 0)
            + one_if false
            ≤ n - 1)
        all =
            falls_by most n b.loss.resent ends b.loss.rescue_rxt b.sender.recover b.sender.resend b.reno.recovers b.loss.probes (is_rescue b) resend recovers
            rescue_rxt (λ is. (rescue_parts b is).first) (sure.lasts recovers) further (less b.sender.snd_max ends most within) (h recovers resend)

        c : Tcb
        c = timer_started (nxt_moved (resent (recorded b mine (room_of v.received)) ends) ends (queued_in v) cx.instant) cx.instant

        l : Loss
        l = record c.loss { undo = undo_sent c c.loss.undo cx.instant }

        armed_left : following most gone.loss.resent + one_if (gone.loss.rescue_rxt == 0) + one_if gone.loss.probes ≤ n - 1
        armed_left =
            cond_both (probes_losses c && not l.probed) (record l { probe_at = probe_from c cx.instant }) l
            (λ (x : Loss). following most x.resent + one_if (x.rescue_rxt == 0) + one_if x.probes ≤ n - 1) (λ _. all.1) (λ _. all.1)

  abbrev tail_offset : ℕ
  tail_offset = min (sent_count b - limit) (queued_in v)

  abbrev last_offset : ℕ
  last_offset = min (sent_count b) (queued_in v)

  offset_first : (b.sender.resend || (b.sender.flight_size == 0)) ≡ true → again.offset ≡ 0
  offset_first e =
      ap (λ (t : Bool). if t then 0 else if b.loss.probes then tail_offset else min (hole_offset b limit (sent_count b)) last_offset) e

  offset_hole :
      (b.sender.resend || (b.sender.flight_size == 0)) ≡ false → b.loss.probes ≡ false → is_rescue b ≡ false → again.offset ≡ min (next_hole b) last_offset
  offset_hole e f g =
      ap (λ (t : Bool). if t then 0 else if b.loss.probes then tail_offset else min (hole_offset b limit (sent_count b)) last_offset) e
      ∙ (ap (λ (t : Bool). if t then tail_offset else min (hole_offset b limit (sent_count b)) last_offset) f
      ∙ ap (λ (t : Bool). min (if t then max (sent_count b - limit) (next_hole b) else next_hole b) last_offset) g)

  pub mended :
      resends b pair.addresses cx.ip_mtu v.queued ≡ true → b.reno.recovers ≡ true
      → BeginsAnew (offer_choice Kind.FastRetransmission cx w pair again).socket ⊎ Falls
  mended does recovers = at (b.sender.resend || (b.sender.flight_size == 0)) b.loss.probes (is_rescue b) refl refl refl where
    Result : Type 0
    Result = BeginsAnew (offer_choice Kind.FastRetransmission cx w pair again).socket ⊎ Falls

    not_probes : (resend probes : Bool) (rest more : Bool) → (not (resend || (probes || rest)) && more) ≡ true → probes ≡ false
    not_probes true probes rest more e = clash (sym e)
    not_probes false true rest more e = clash (sym e)
    not_probes false false rest more e = refl

    rescue_alone : is_rescue b ≡ true → b.loss.probes ≡ false
    rescue_alone e = not_probes b.sender.resend b.loss.probes _ _ e

    by_hole : (b.sender.resend || (b.sender.flight_size == 0)) ≡ false → b.loss.probes ≡ false → is_rescue b ≡ false → Result
    by_hole e f g = at (b.loss.resent == 0) refl where
      calm : b.sender.resend ≡ false
      calm = (neither b.sender.resend (b.sender.flight_size == 0) e).0

      goes : InRecovery b
      goes = goes_in b _ does calm f

      here : again.offset ≡ min (next_hole b) last_offset
      here = offset_hole e f g

      small : again.offset < 2 ^ 32
      small = less again.offset (next_hole b) (sent_count b) (queued_in v) b.sender.flight_size b.sender.snd_max here goes.flies sure.sent sure.few where
        less : (offset hole sent queued flight snd_max : ℕ) → offset ≡ min hole (min sent queued) → hole < flight → flight ≤ snd_max → snd_max < 2 ^ 30 → offset < 2 ^ 32
        less offset hole sent queued flight snd_max a b c d = omega arith

      further : b.loss.resent < ends
      further =
          subst (λ (k : ℕ). b.loss.resent < k) (sym (ends_at small))
          (last b.loss.resent (next_hole b) _ (missing_least b.loss.board.runs b.loss.resent) (reach again.offset goes.flies here))
        where
          last : (a b c : ℕ) → a ≤ b → b < c → a < c
          last a b c e f = omega arith

      at : (none : Bool) → (b.loss.resent == 0) ≡ none → Result
      at true none =
          inl (first (here ∙ start (next_hole b) (sent_count b) (queued_in v) hole)) where
            hole : next_hole b ≡ 0
            hole = ap (first_missing b.loss.board.runs) (eqb-true b.loss.resent 0 none) ∙ none_first b.loss.board.runs (first_out b.loss.board.runs sure.board.fine)

            start : (hole sent queued : ℕ) → hole ≡ 0 → min hole (min sent queued) ≡ 0
            start hole sent queued e = omega arith
      at false some = inr (falls calm recovers rescue_alone (λ _ _. (positive b.loss.resent some, further)))

    at : (first_of probes is : Bool) → (b.sender.resend || (b.sender.flight_size == 0)) ≡ first_of → b.loss.probes ≡ probes → is_rescue b ≡ is → Result
    at true probes is e f g = inl (first (offset_first e))
    at false true is e f g =
        inr (falls (neither b.sender.resend (b.sender.flight_size == 0) e).0 recovers rescue_alone (λ no _. clash (sym f ∙ no)))
    at false false true e f g =
        inr (falls (neither b.sender.resend (b.sender.flight_size == 0) e).0 recovers rescue_alone (λ _ no. clash (sym g ∙ no)))
    at false false false e f g = by_hole e f g
