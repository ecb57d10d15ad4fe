-- A loss that was none leaves the congestion window as it was.
use Rattle.std.proofs.Common.{◌≡◌, ℕ, ◌+◌, ◌==◌, ◌&&◌, ◌||◌, nat_lt, not, min, ℤ, Bool, true, false, if◌then◌else◌, List, [], ◌∷◌, Option, Some, None, is_some}
use Rattle.std.proofs.Common.{refl, sym, ap, ◌∙◌, subst}
use Rattle.std.proofs.lemmas.Bool.{cond_both}
use Rattle.ip_wire.specs.TcpHeader.{TcpHeader}
use Rattle.tcp_state.specs.Moments.{is_due, is_over}
use Rattle.tcp_state.specs.Reno as reno
use Rattle.tcp_state.specs.Reno.{RenoValue}
use Rattle.tcp_state.specs.Scoreboard.{held}
use Rattle.tcp_state.specs.declared.offer.OfferKind.{OfferKind}
use Rattle.tcp_state.specs.declared.offer.OfferKind.TheVariants as Kind
use Rattle.tcp_state.specs.declared.offer.OpenOffer.{OpenOffer}
use Rattle.tcp_block.specs.Acknowledged.{begins_recovery, freed_by, reno_counted, counted, ranges_taken}
use Rattle.tcp_block.specs.LossRecovery.{probes_losses, probe_from, probe_armed, loss_probe_deadline, loss_probed, loss_probed_by, probes_tail}
use Rattle.tcp_block.specs.LossRecovery.{heard_more, all_noted}
use Rattle.tcp_block.specs.LossRecovery.{is_lost_again, with_board}
use Rattle.tcp_block.specs.Retries.{asked}
use Rattle.tcp_block.specs.Rules.{backed_off_now}
use Rattle.tcp_block.specs.Settled.{sent_as, end_of, nxt_moved, timer_started, probed, resent, syn_was_sent, was_sent}
use Rattle.tcp_block.specs.Undo.{undo_begun, undo_marked, undo_sent, window_kept}
use Rattle.tcp_block.specs.Undone.{answers_undo, is_needless, undone, undone_if, prior_of}
use Rattle.tcp_block.specs.declared.tcb.Tcb.{Tcb}
use Rattle.tcp_block.specs.declared.tcb.Loss.{Loss}
use Rattle.tcp_block.specs.declared.tcb.Undo.{Undo}
use Rattle.tcp_invariants.specs.Undoing.{Between, with_one, with_all}
use Rattle.tcp_invariants.specs.Undoing.Between.{Goes, Duplicates, Ranges, Probes, RunsOut}
use Rattle.tcp_invariants.proofs.OrderSteps.{clash}

abbrev mends : RenoValue → Bool
mends r = r.recovers || r.timed_out

-- the window is kept, and what was lost is being mended
record Mends (window r : RenoValue) : Type 0 where
  mending : mends r ≡ true
  mss : r.mss ≡ window.mss

-- the window is kept, if any is: without one nothing is undone
abbrev Keeps : RenoValue → Option Undo → Type 0
Keeps window None = Unit {0}
Keeps window (Some u) = u.reno ≡ window

record IsKept (window : RenoValue) (b : Tcb) : Type 0 where
  undo : Keeps window b.loss.undo
  reno : Mends window b.reno
  syn : b.sender.syn_unacked ≡ false

module _ (window : RenoValue) where
  or_right : (a b : Bool) → b ≡ true → (a || b) ≡ true
  or_right true b e = refl
  or_right false b e = e

  -- WHAT BECOMES OF RENO

  reduced_mends : (r : RenoValue) (flight : ℕ) → r.mss ≡ window.mss → Mends window (reno.reduced r flight)
  reduced_mends r flight same =
      cond_both r.timed_out r _ (Mends window) (λ out. record { mending = or_right r.recovers r.timed_out out; mss = same })
      (λ _. record { mending = refl; mss = same })

  lost_mends : (r : RenoValue) (flight : ℕ) → r.mss ≡ window.mss → Mends window (reno.lost r flight)
  lost_mends r flight same =
      cond_both r.timed_out r _ (Mends window) (λ out. record { mending = or_right r.recovers r.timed_out out; mss = same })
      (λ _. record { mending = refl; mss = same })

  inflated_mends : (r : RenoValue) → Mends window r → Mends window (reno.inflated r)
  inflated_mends r m =
      cond_both r.recovers (record r { cwnd = min reno.most (r.cwnd + r.mss) }) r (Mends window) (λ _. record { mending = m.mending; mss = m.mss }) (λ _. m)

  begun_mends : (r : RenoValue) (sack : Bool) (flight : ℕ) → r.mss ≡ window.mss →
      Mends window (if sack then reno.reduced r flight else reno.lost r flight)
  begun_mends r sack flight same =
      cond_both sack (reno.reduced r flight) (reno.lost r flight) (Mends window) (λ _. reduced_mends r flight same) (λ _. lost_mends r flight same)

  counted_mends : (r : RenoValue) (sack : Bool) (count flight : ℕ) (begins again : Bool) → Mends window r →
      Mends window (reno_counted r sack count flight begins again)
  counted_mends r sack count flight begins again m =
      cond_both begins (if sack then reno.reduced r flight else reno.lost r flight) _ (Mends window) (λ _. begun_mends r sack flight m.mss)
      (λ _. cond_both again (reno.reduced r flight) _ (Mends window) (λ _. reduced_mends r flight m.mss)
      (λ _. cond_both (not (count == 0) && not sack) (reno.inflated r) r (Mends window) (λ _. inflated_mends r m) (λ _. m)))

  -- WHAT IS KEPT

  -- while a loss is mended no other begins
  still_kept : (b : Tcb) → IsKept window b → Keeps window (undo_begun b)
  still_kept b k =
      cond_both (b.reno.recovers || b.reno.timed_out) b.loss.undo (if b.loss.resent == 0 then window_kept b else None) (Keeps window) (λ _. k.undo)
      (λ none. clash (sym k.reno.mending ∙ none))

  armed_kept : (b : Tcb) (l : Loss) (now : ℤ) → Keeps window l.undo → Keeps window (probe_armed b l now).undo
  armed_kept b l now k =
      cond_both (probes_losses b && not l.probed) (record l { probe_at = probe_from b now }) l (λ (m : Loss). Keeps window m.undo) (λ _. k) (λ _. k)

  sent_kept : (b : Tcb) (o : Option Undo) (now : ℤ) → Keeps window o → Keeps window (undo_sent b o now)
  sent_kept b None now k = k
  sent_kept b (Some u) now k = cond_both (is_some u.tsval) u (undo_marked b u now) (λ (v : Undo). v.reno ≡ window) (λ _. k) (λ _. k)

  asked_kept : (b : Tcb) (now : ℤ) → IsKept window b → IsKept window (asked b now)
  asked_kept b now k =
      cond_both (is_over now b.timers.counts_from) _ b (IsKept window) (λ _. record { undo = k.undo; reno = k.reno; syn = k.syn }) (λ _. k)

  -- whatever was to be retransmitted before
  went_kept : (b : Tcb) (o : OpenOffer) (queued : ℕ) → IsKept window b → IsKept window (was_sent b o queued)
  went_kept b o queued k = record {
    undo = armed_kept c (record c.loss { undo = undo_sent c b.loss.undo o.instant }) o.instant (sent_kept c b.loss.undo o.instant k.undo);
    reno = k.reno;
    syn = k.syn;
  }
    where
      c : Tcb
      c = timer_started (nxt_moved b (end_of b o) queued o.instant) o.instant

  goes_kept : (kind : OfferKind) (b : Tcb) (o : OpenOffer) (queued : ℕ) → IsKept window b → IsKept window (sent_as kind b o queued)
  goes_kept Kind.Reset b o queued k = record { undo = k.undo; reno = k.reno; syn = k.syn }
  goes_kept Kind.Syn b o queued k = went_kept (syn_was_sent b o) o queued (record { undo = k.undo; reno = k.reno; syn = k.syn })
  goes_kept Kind.FastRetransmission b o queued k = went_kept (resent b (end_of b o)) o queued (record { undo = k.undo; reno = k.reno; syn = k.syn })
  goes_kept Kind.Payload b o queued k =
      let w = went_kept b o queued k in
      record { undo = w.undo; reno = record { mending = w.reno.mending; mss = w.reno.mss }; syn = w.syn }
  goes_kept Kind.Probe b o queued k = asked_kept (probed b (end_of b o) o.instant) o.instant (record { undo = k.undo; reno = k.reno; syn = k.syn })
  goes_kept Kind.KeepAlive b o queued k = asked_kept b o.instant k
  goes_kept Kind.Ack b o queued k = k
  goes_kept Kind.WindowUpdate b o queued k = k

  duplicates_kept : (b : Tcb) (count : ℕ) (now : ℤ) → IsKept window b → IsKept window (counted b count now)
  duplicates_kept b count now k = record {
    undo = cond_both (begins_recovery b count) (undo_begun b) b.loss.undo (Keeps window) (λ _. still_kept b k) (λ _. k.undo);
    reno = counted_mends b.reno b.peer.sack count b.sender.flight_size (begins_recovery b count) (is_lost_again b) k.reno;
    syn = k.syn;
  }

  ranges_kept : (b : Tcb) (header : TcpHeader) (now : ℤ) → IsKept window b → IsKept window (ranges_taken b header now)
  ranges_kept b header now k =
      let runs = all_noted b b.loss.board.runs header.options.sack_ranges in
      record {
        undo =
            cond_both b.peer.sack (heard_more b runs now) b.loss (λ (l : Loss). Keeps window l.undo)
            (λ _.
            cond_both (nat_lt (held b.loss.board.runs) (held runs))
            (probe_armed b (record b.loss { board = record { runs = runs }; probes = false; probed = false }) now)
            (with_board b.loss runs) (λ (l : Loss). Keeps window l.undo)
            (λ _. armed_kept b (record b.loss { board = record { runs = runs }; probes = false; probed = false }) now k.undo)
            (λ _. k.undo))
            (λ _. k.undo);
        reno = k.reno;
        syn = k.syn;
      }

  probes_kept : (b : Tcb) (now : ℤ) → IsKept window b → IsKept window (loss_probed_by now b)
  probes_kept b now k =
      cond_both (is_due now (loss_probe_deadline b)) (loss_probed b) b (IsKept window)
      (λ _. record {
        undo = cond_both (not (probes_tail b) && (b.sender.recover == 0)) (undo_begun b) b.loss.undo (Keeps window) (λ _. still_kept b k) (λ _. k.undo);
        reno = cond_both (probes_tail b) b.reno (reno.reduced b.reno b.sender.flight_size) (Mends window) (λ _. k.reno)
            (λ _. reduced_mends b.reno b.sender.flight_size k.reno.mss);
        syn = k.syn;
      })
      (λ _. k)

  out_kept : (b : Tcb) → IsKept window b → IsKept window (backed_off_now b)
  out_kept b k = record {
    undo = cond_both b.sender.syn_unacked None (undo_begun b) (Keeps window) (λ syn. clash (sym syn ∙ k.syn)) (λ _. still_kept b k);
    reno = cond_both b.sender.syn_unacked b.reno (reno.timed_out b.reno b.sender.flight_size) (Mends window) (λ _. k.reno)
        (λ _. record { mending = refl; mss = k.reno.mss });
    syn = k.syn;
  }

  one_kept : (it : Between) (b : Tcb) → IsKept window b → IsKept window (with_one it b)
  one_kept (Goes kind o queued) b k = goes_kept kind b o queued k
  one_kept (Duplicates count now) b k = duplicates_kept b count now k
  one_kept (Ranges header now) b k = ranges_kept b header now k
  one_kept (Probes now) b k = probes_kept b now k
  one_kept RunsOut b k = out_kept b k

  all_kept : (between : List Between) (b : Tcb) → IsKept window b → IsKept window (with_all between b)
  all_kept [] b k = k
  all_kept (it ∷ more) b k = all_kept more (with_one it b) (one_kept it b k)

  -- AND COMES BACK

  neither : (a b : Bool) → (a || b) ≡ false → (a ≡ false) × (b ≡ false)
  neither true b e = clash e
  neither false b e = (refl, e)

  same_window : (r : RenoValue) → r.mss ≡ window.mss → (window.recovers ≡ false) × (window.timed_out ≡ false) → reno.restored r window ≡ window
  same_window r mss calm = λ i. record {
    mss = mss i;
    cwnd = window.cwnd;
    ssthresh = window.ssthresh;
    recovers = sym calm.0 i;
    timed_out = sym calm.1 i;
    cubic = window.cubic;
  }

  kept_prior : (o : Option Undo) (r : RenoValue) → Keeps window o → is_some o ≡ true → prior_of o r ≡ reno.restored r window
  kept_prior None r k some = clash (sym some)
  kept_prior (Some u) r k some = ap (reno.restored r) k

  -- what says that nothing was lost says it of a window that is kept
  answers_some : (o : Option Undo) (b : Tcb) (header : TcpHeader) → answers_undo o b header ≡ true → is_some o ≡ true
  answers_some None b header e = clash (sym e)
  answers_some (Some u) b header e = refl

  and_last : (a b : Bool) → (a && b) ≡ true → b ≡ true
  and_last true b e = e
  and_last false b e = clash (sym e)

  comes_back : (b : Tcb) (header : TcpHeader) (by queued : ℕ) → IsKept window b → mends window ≡ false
      → is_needless b header by queued ≡ true → (undone b header by queued).reno ≡ window
  comes_back b header by queued k calm needless =
      ap (λ (t : Bool). (undone_if t b queued).reno) needless
      ∙ (kept_prior b.loss.undo b.reno k.undo
      (answers_some b.loss.undo b header
      (and_last (not (freed_by b by queued == 0)) (answers_undo b.loss.undo b header) needless))
      ∙ same_window b.reno k.reno.mss (neither window.recovers window.timed_out calm))

-- recovery begins
begun : (b : Tcb) → mends b.reno ≡ false → undo_begun b ≡ (if b.loss.resent == 0 then window_kept b else None)
begun b calm = ap (λ (t : Bool). if t then b.loss.undo else if b.loss.resent == 0 then window_kept b else None) calm

begun_kept : (b : Tcb) → mends b.reno ≡ false → Keeps b.reno (undo_begun b)
begun_kept b calm =
    subst (Keeps b.reno) (sym (begun b calm)) (cond_both (b.loss.resent == 0) (window_kept b) None (Keeps b.reno) (λ _. refl) (λ _. tt))

recovery_kept :
    (b : Tcb) (count : ℕ) (now : ℤ) → b.sender.syn_unacked ≡ false → mends b.reno ≡ false → begins_recovery b count ≡ true
    → IsKept b.reno (counted b count now)
recovery_kept b count now syn calm begins = record {
  undo = subst (λ (t : Bool). Keeps b.reno (if t then undo_begun b else b.loss.undo)) (sym begins) (begun_kept b calm);
  reno = subst (λ (t : Bool). Mends b.reno (reno_counted b.reno b.peer.sack count b.sender.flight_size t (is_lost_again b))) (sym begins)
      (begun_mends b.reno b.reno b.peer.sack b.sender.flight_size refl);
  syn = syn;
}

timeout_kept : (b : Tcb) → b.sender.syn_unacked ≡ false → mends b.reno ≡ false → IsKept b.reno (backed_off_now b)
timeout_kept b syn calm = record {
  undo = cond_both b.sender.syn_unacked None (undo_begun b) (Keeps b.reno) (λ unacked. clash (sym unacked ∙ syn)) (λ _. begun_kept b calm);
  reno = cond_both b.sender.syn_unacked b.reno (reno.timed_out b.reno b.sender.flight_size) (Mends b.reno) (λ unacked. clash (sym unacked ∙ syn))
      (λ _. record { mending = refl; mss = refl });
  syn = syn;
}

pub recovery_undone :
    (b : Tcb) (count : ℕ) (at : ℤ) (between : List Between) (header : TcpHeader) (by queued : ℕ) → b.sender.syn_unacked ≡ false
    → (b.reno.recovers || b.reno.timed_out) ≡ false → begins_recovery b count ≡ true
    → is_needless (with_all between (counted b count at)) header by queued ≡ true
    → (undone (with_all between (counted b count at)) header by queued).reno ≡ b.reno
recovery_undone b count at between header by queued syn calm begins needless =
    comes_back b.reno (with_all between (counted b count at)) header by queued
    (all_kept b.reno between (counted b count at) (recovery_kept b count at syn calm begins)) calm needless

pub timeout_undone :
    (b : Tcb) (between : List Between) (header : TcpHeader) (by queued : ℕ) → b.sender.syn_unacked ≡ false
    → (b.reno.recovers || b.reno.timed_out) ≡ false
    → is_needless (with_all between (backed_off_now b)) header by queued ≡ true
    → (undone (with_all between (backed_off_now b)) header by queued).reno ≡ b.reno
timeout_undone b between header by queued syn calm needless =
    comes_back b.reno (with_all between (backed_off_now b)) header by queued
    (all_kept b.reno between (backed_off_now b) (timeout_kept b syn calm)) calm needless

pub undone_over : (b : Tcb) (header : TcpHeader) (by queued : ℕ) → is_needless b header by queued ≡ true
    → ((undone b header by queued).sender.resend ≡ false) × ((undone b header by queued).sender.recover ≡ 0)
undone_over b header by queued needless = (
  ap (λ (t : Bool). (undone_if t b queued).sender.resend) needless,
  ap (λ (t : Bool). (undone_if t b queued).sender.recover) needless,
)
