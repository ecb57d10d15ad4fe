-- What may only be late is waited for.
use Rattle.std.proofs.Common.{◌≡◌, ℕ, ◌*◌, ◌/◌, ◌≤◌, ◌==◌, ◌&&◌, ◌||◌, nat_le, nat_lt, not, min, max, ℤ, ◌<ℤ◌, ◌≤ℤ◌, int_le, Bool, true, false, if◌then◌else◌}
use Rattle.std.proofs.Common.{List, [], ◌∷◌, Option, Some, None, is_none, is_some, refl, sym, ap, ◌∙◌, subst, arith}
use Rattle.std.proofs.lemmas.Bool.{cond_both}
use Rattle.std.proofs.lemmas.Int.{ints}
use Rattle.std.specs.Option.{option_or}
use Rattle.ip_wire.specs.TcpHeader.{TcpHeader}
use Rattle.net_base.specs.Ring.{Ring}
use Rattle.tcp_state.specs.Moments.{is_due, is_over, timeout_from}
use Rattle.tcp_state.specs.Reno as reno
use Rattle.tcp_state.specs.Reno.{RenoValue}
use Rattle.tcp_state.specs.RoundTrip.{RoundTripValue, late_wait, shortest, srtt}
use Rattle.tcp_state.specs.Scoreboard.{held, is_empty, runs_end}
use Rattle.tcp_state.specs.States.{may_send_data}
use Rattle.tcp_state.specs.declared.endpoints.AddressPair.{AddressPair}
use Rattle.tcp_state.specs.declared.offer.OfferKind.{OfferKind}
use Rattle.tcp_state.specs.declared.offer.OfferKind.TheVariants as Kind
use Rattle.tcp_state.specs.declared.offer.OpenOffer.{OpenOffer}
use Rattle.tcp_block.specs.Acknowledged.{begins_recovery, counted, is_lost_since, is_missed, is_third, reorder_until, may_be_missed, ranges_taken, reno_counted}
use Rattle.tcp_block.specs.TcbRules.{past_snd_max}
use Rattle.tcp_block.specs.LossRecovery.{all_noted, fills_hole, is_sent_early, has_room, heard_more, is_lost_again, is_passed, loss_lowered, loss_deadline}
use Rattle.tcp_block.specs.LossRecovery.{loss_probe_deadline, loss_probed, loss_probed_by, may_be_late, mends_credited, mends_lost, next_hole, probe_armed}
use Rattle.tcp_block.specs.LossRecovery.{probe_from, probes_losses, probes_tail, with_board}
use Rattle.tcp_block.specs.Retries.{asked, one_more}
use Rattle.tcp_block.specs.Rules.{has_payload, resends, resends_beside}
use Rattle.tcp_block.specs.Settled.{end_of, nxt_moved, probed, resent, sent_as, syn_was_sent, timer_started, was_sent}
use Rattle.tcp_block.specs.Undo.{undo_sent}
use Rattle.tcp_block.specs.Validation.{periods_ended, data_sent}
use Rattle.tcp_block.specs.declared.tcb.Tcb.{Tcb}
use Rattle.tcp_block.specs.declared.tcb.Loss.{Loss}
use Rattle.tcp_invariants.specs.Reordering.{AreBefore, IsMissing, Lapses, late_instant}
use Rattle.tcp_invariants.specs.Undoing.{Between, with_all}
use Rattle.tcp_invariants.specs.Undoing.Between.{Goes, Duplicates, Ranges, Probes, RunsOut}
use Rattle.tcp_invariants.proofs.OrderSteps.{clash}

left_true : (a b : Bool) → (a && b) ≡ true → a ≡ true
left_true true b e = refl
left_true false b e = clash (sym e)

right_true : (a b : Bool) → (a && b) ≡ true → b ≡ true
right_true true b e = e
right_true false b e = clash (sym e)

both : (a b : Bool) → a ≡ true → b ≡ true → (a && b) ≡ true
both true b p q = q
both false b p q = clash (sym p)

none_with : (a b : Bool) → a ≡ false → (a && b) ≡ false
none_with true b e = clash e
none_with false b e = refl

-- what of a block decides whether it waits, and until when
record IsKept (window : RenoValue) (end : Option ℤ) (permitted : Bool) (count : ℕ) (again : Bool) (r : RenoValue) (l : Loss) : Type 0 where
  until : l.reorder_until ≡ end
  reo_wnd_mult : (l.reo_wnd_mult == 0) ≡ false
  dupthresh_one : l.dupthresh_one ≡ false
  probes : l.probes ≡ false
  sack : permitted ≡ true
  recover : (count == 0) ≡ true
  resend : again ≡ false
  recovers : r.recovers ≡ false
  reno : Lapses window r

module _ (window : RenoValue) where
  abbrev Waits : Option ℤ → Tcb → Type 0
  Waits until b = IsKept window until b.peer.sack b.sender.recover b.sender.resend b.reno b.loss

  -- with what is known of losses otherwise
  with_loss : (until : Option ℤ) (b : Tcb) (l : Loss) → l.reorder_until ≡ b.loss.reorder_until → l.reo_wnd_mult ≡ b.loss.reo_wnd_mult
      → l.dupthresh_one ≡ b.loss.dupthresh_one → l.probes ≡ b.loss.probes → Waits until b → Waits until (record b { loss = l })
  with_loss until b l same reo_wnd_mult dupthresh_one probes w = record {
    until = same ∙ w.until;
    reo_wnd_mult = ap (λ (n : ℕ). n == 0) reo_wnd_mult ∙ w.reo_wnd_mult;
    dupthresh_one = dupthresh_one ∙ w.dupthresh_one;
    probes = probes ∙ w.probes;
    sack = w.sack;
    recover = w.recover;
    resend = w.resend;
    recovers = w.recovers;
    reno = w.reno;
  }

  -- WHAT GOES

  armed : (until : Option ℤ) (b : Tcb) (l : Loss) (now : ℤ) → Waits until (record b { loss = l })
      → Waits until (record b { loss = probe_armed b l now })
  armed until b l now w =
      cond_both (probes_losses b && not l.probed) (record l { probe_at = probe_from b now }) l (λ (m : Loss). Waits until (record b { loss = m }))
      (λ _. with_loss until (record b { loss = l }) (record l { probe_at = probe_from b now }) refl refl refl refl w)
      (λ _. w)

  went_waits : (until : Option ℤ) (b : Tcb) (o : OpenOffer) (queued : ℕ) → Waits until b → Waits until (was_sent b o queued)
  went_waits until b o queued w =
      armed until c (record c.loss { undo = undo_sent c c.loss.undo o.instant }) o.instant
      (with_loss until b (record b.loss { undo = undo_sent c c.loss.undo o.instant }) refl refl refl refl w)
    where
      c : Tcb
      c = timer_started (nxt_moved b (end_of b o) queued o.instant) o.instant

  asked_waits : (until : Option ℤ) (b : Tcb) (now : ℤ) → Waits until b → Waits until (asked b now)
  asked_waits until b now w =
      cond_both (is_over now b.timers.counts_from)
      (record b {
        sender = record b.sender { unanswered = one_more b.sender.unanswered };
        timers = record b.timers { counts_from = Some (timeout_from now b.round_trip) };
      })
      b (Waits until) (λ _. w) (λ _. w)

  again_waits : (until : Option ℤ) (b : Tcb) (end : ℕ) → Waits until b → Waits until (resent b end)
  again_waits until b end w = record {
    until = w.until;
    reo_wnd_mult = w.reo_wnd_mult;
    dupthresh_one = w.dupthresh_one;
    probes = refl;
    sack = w.sack;
    recover = w.recover;
    resend = refl;
    recovers = w.recovers;
    reno = w.reno;
  }

  payload_waits : (until : Option ℤ) (b : Tcb) (snd_max : ℕ) (now : ℤ) → Waits until b → Waits until (data_sent b snd_max now)
  payload_waits until b snd_max now w = record {
    until = w.until;
    reo_wnd_mult = w.reo_wnd_mult;
    dupthresh_one = w.dupthresh_one;
    probes = w.probes;
    sack = w.sack;
    recover = w.recover;
    resend = w.resend;
    recovers = w.recovers;
    reno = record {
      periods = periods_ended b snd_max now ∷ w.reno.periods;
      same = ap (λ (r : RenoValue). reno.lapsed r (periods_ended b snd_max now)) w.reno.same;
    };
  }

  goes_waits : (until : Option ℤ) (kind : OfferKind) (b : Tcb) (o : OpenOffer) (queued : ℕ) → Waits until b → Waits until (sent_as kind b o queued)
  goes_waits until Kind.Reset b o queued w = w
  goes_waits until Kind.Syn b o queued w = went_waits until (syn_was_sent b o) o queued w
  goes_waits until Kind.FastRetransmission b o queued w = went_waits until (resent b (end_of b o)) o queued (again_waits until b (end_of b o) w)
  goes_waits until Kind.Payload b o queued w = payload_waits until (was_sent b o queued) b.sender.snd_max o.instant (went_waits until b o queued w)
  goes_waits until Kind.Probe b o queued w = asked_waits until (probed b (end_of b o) o.instant) o.instant w
  goes_waits until Kind.KeepAlive b o queued w = asked_waits until b o.instant w
  goes_waits until Kind.Ack b o queued w = w
  goes_waits until Kind.WindowUpdate b o queued w = w

  -- WHAT COMES

  still_late : (until : Option ℤ) (b : Tcb) → Waits until b → may_be_late b ≡ true
  still_late until b w =
      both (not (b.loss.reo_wnd_mult == 0)) (b.peer.sack && not b.loss.dupthresh_one) (ap not w.reo_wnd_mult)
      (both b.peer.sack (not b.loss.dupthresh_one) w.sack (ap not w.dupthresh_one))

  -- no recovery begins
  begins_not : (until : Option ℤ) (b : Tcb) (count : ℕ) → Waits until b → begins_recovery b count ≡ false
  begins_not until b count w =
      neither (is_missed b count) (may_be_late b) (b.sender.recover == 0) (b.peer.sack && (not b.reno.recovers && is_passed b b.sender.recover))
      (still_late until b w) w.recover
    where
      neither : (missed late zero since : Bool) → late ≡ true → zero ≡ true → ((missed && not late) || (not zero && since)) ≡ false
      neither true true true since p q = refl
      neither false true true since p q = refl
      neither missed true false since p q = clash (sym q)
      neither missed false zero since p q = clash (sym p)

  third_not : (until : Option ℤ) (b : Tcb) (count : ℕ) → Waits until b → is_third b count ≡ false
  third_not until b count w = last (count == 3) (not b.reno.recovers) (b.sender.recover == 0) w.recover where
    last : (a r zero : Bool) → zero ≡ true → (a && (r && not zero)) ≡ false
    last false r zero e = refl
    last true false zero e = refl
    last true true true e = refl
    last true true false e = clash (sym e)

  again_not : (until : Option ℤ) (b : Tcb) → Waits until b → is_lost_again b ≡ false
  again_not until b w =
      neither b.peer.sack b.reno.recovers (not (b.loss.resent == 0) && is_passed b b.loss.mark) w.recovers
    where
      neither : (sack recovers more : Bool) → recovers ≡ false → (sack && (recovers && more)) ≡ false
      neither true false more e = refl
      neither false false more e = refl
      neither sack true more e = clash e

  same_reno : (r : RenoValue) (sack : Bool) (count flight : ℕ) (begins again : Bool) → sack ≡ true → begins ≡ false → again ≡ false
      → reno_counted r sack count flight begins again ≡ r
  same_reno r true count flight false false s p q =
      cond_both (not (count == 0) && false) (reno.inflated r) r (λ (x : RenoValue). x ≡ r)
      (λ e. clash (sym (right_true (not (count == 0)) false e))) (λ _. refl)
  same_reno r true count flight true again s p q = clash p
  same_reno r true count flight false true s p q = clash q
  same_reno r false count flight begins again s p q = clash (sym s)

  no_resend : (resend third begins : Bool) → resend ≡ false → third ≡ false → begins ≡ false → (resend || (third || begins)) ≡ false
  no_resend false false false p q s = refl
  no_resend true third begins p q s = clash p
  no_resend false true begins p q s = clash q
  no_resend false false true p q s = clash s

  counted_waits : (until next : Option ℤ) (b : Tcb) (count : ℕ) (now : ℤ) → reorder_until b count now ≡ next → Waits until b
      → Waits next (counted b count now)
  counted_waits until next b count now sets w = record {
    until = sets;
    reo_wnd_mult = w.reo_wnd_mult;
    dupthresh_one = w.dupthresh_one;
    probes = w.probes;
    sack = w.sack;
    recover = subst (λ (t : Bool). ((if t then past_snd_max b else b.sender.recover) == 0) ≡ true) (sym (begins_not until b count w)) w.recover;
    resend =
        no_resend b.sender.resend (is_third b count) (begins_recovery b count) w.resend (third_not until b count w) (begins_not until b count w);
    recovers = subst (λ (r : RenoValue). r.recovers ≡ false) (sym same) w.recovers;
    reno = subst (Lapses window) (sym same) w.reno;
  }
    where
      same : (counted b count now).reno ≡ b.reno
      same =
          same_reno b.reno b.peer.sack count b.sender.flight_size (begins_recovery b count) (is_lost_again b) w.sack (begins_not until b count w)
          (again_not until b w)

  ranges_wait : (until : Option ℤ) (b : Tcb) (header : TcpHeader) (now : ℤ) → Waits until b → Waits until (ranges_taken b header now)
  ranges_wait until b header now w =
      let runs = all_noted b b.loss.board.runs header.options.sack_ranges in
      let more : Loss = record b.loss { board = record { runs = runs }; probes = false; probed = false } in
      cond_both b.peer.sack (heard_more b runs now) b.loss (λ (l : Loss). Waits until (record b { loss = l }))
      (λ _.
      cond_both (nat_lt (held b.loss.board.runs) (held runs)) (probe_armed b more now) (with_board b.loss runs)
      (λ (l : Loss). Waits until (record b { loss = l }))
      (λ _. armed until b more now (with_loss until b more refl refl refl (sym w.probes) w))
      (λ _. with_loss until b (with_board b.loss runs) refl refl refl refl w))
      (λ _. w)

-- THE MOMENT

-- it stays as it is set
stays_set : (o : Option ℤ) (missed : Bool) (instant other : ℤ) → o ≡ Some instant → (if is_none o && missed then Some other else o) ≡ Some instant
stays_set None missed instant other e = clash (sym (ap is_some e))
stays_set (Some m) missed instant other e = e

not_yet : (instant now : ℤ) → now <ℤ instant → int_le instant now ≡ false
not_yet instant now e = grind (arith, ints, e)

come : (instant now : ℤ) → instant ≤ℤ now → int_le instant now ≡ true
come instant now e = grind (arith, ints, e)

module _ (window : RenoValue) (instant : ℤ) where
  -- a look before it
  looks_wait : (b : Tcb) (now : ℤ) → now <ℤ instant → Waits window (Some instant) b → Waits window (Some instant) (loss_probed_by now b)
  looks_wait b now before w =
      cond_both (is_due now (loss_probe_deadline b)) (loss_probed b) b (Waits window (Some instant)) (λ due. clash (sym due ∙ early)) (λ _. w)
    where
      early : is_due now (loss_probe_deadline b) ≡ false
      early =
          cond_both (may_send_data b.state && (not b.sender.syn_unacked && not (b.sender.flight_size == 0))) (loss_deadline b.loss) None
          (λ (o : Option ℤ). is_due now o ≡ false)
          (λ _. ap (λ (o : Option ℤ). is_due now (option_or o b.loss.probe_at)) w.until ∙ not_yet instant now before)
          (λ _. refl)

  all_wait : (between : List Between) (b : Tcb) → AreBefore instant between → Waits window (Some instant) b
      → Waits window (Some instant) (with_all between b)
  all_wait [] b before w = w
  all_wait (Goes kind o queued ∷ more) b before w =
      all_wait more (sent_as kind b o queued) before (goes_waits window (Some instant) kind b o queued w)
  all_wait (Duplicates count now ∷ more) b before w =
      all_wait more (counted b count now) before
      (counted_waits window (Some instant) (Some instant) b count now
      (stays_set b.loss.reorder_until (is_missed b count && may_be_late b) instant (late_instant b now) w.until) w)
  all_wait (Ranges header now ∷ more) b before w =
      all_wait more (ranges_taken b header now) before (ranges_wait window (Some instant) b header now w)
  all_wait (Probes now ∷ more) b before w = all_wait more (loss_probed_by now b) before.1 (looks_wait b now before.0 w)
  all_wait (RunsOut ∷ more) b before w = absurd before

  -- nothing is retransmitted
  resends_not : (b : Tcb) (payload : Bool) → Waits window (Some instant) b → resends_beside b payload ≡ false
  resends_not b payload w =
      none_of (may_send_data b.state) b.sender.resend b.loss.probes (fills_hole b) (is_sent_early b) payload w.resend w.probes
      (never b.peer.sack b.reno.recovers
      (not b.sender.syn_unacked && (nat_lt (next_hole b) b.sender.flight_size && (mends_lost b || mends_credited b))) w.recovers)
      early_not
    where
      never : (sack recovers rest : Bool) → recovers ≡ false → (sack && (recovers && rest)) ≡ false
      never true false rest e = refl
      never false false rest e = refl
      never sack true rest e = clash e

      early_not : is_sent_early b ≡ false
      early_not =
          ap (λ (may : Bool). (may && nat_lt (next_hole b) (runs_end b.loss.board.runs))
          || (may && ((b.loss.rescue_rxt == 0)
          && (nat_le (runs_end b.loss.board.runs) (next_hole b) && (b.sender.flight_size == b.sender.snd_max)))))
          (never b.peer.sack b.reno.recovers (not b.sender.syn_unacked && (nat_lt (next_hole b) b.sender.flight_size && has_room b)) w.recovers)

      none_of : (sends resend probes hole early payload : Bool) → resend ≡ false → probes ≡ false → hole ≡ false → early ≡ false
          → (sends && (resend || (probes || (hole || (early && not payload))))) ≡ false
      none_of false resend probes hole early payload p q r s = refl
      none_of true false false false false payload p q r s = refl
      none_of true false false false true payload p q r s = clash s
      none_of true false false true early payload p q r s = clash r
      none_of true false true hole early payload p q r s = clash q
      none_of true true probes hole early payload p q r s = clash p

  -- at the instant the recovery begins
  begins_then : (b : Tcb) (at : ℤ) → instant ≤ℤ at → may_send_data b.state ≡ true → b.sender.syn_unacked ≡ false → (b.sender.flight_size == 0) ≡ false
      → Waits window (Some instant) b
      → ((loss_probed_by at b).sender.resend ≡ true) × ((loss_probed_by at b).sender.recover ≡ past_snd_max b)
      × ((loss_probed_by at b).reno ≡ reno.reduced b.reno b.sender.flight_size) × ((loss_probed_by at b).loss.reorder_until ≡ None)
  begins_then b at past sends syn flies w =
      subst
      (λ (c : Tcb).
      (c.sender.resend ≡ true) × (c.sender.recover ≡ past_snd_max b) × (c.reno ≡ reno.reduced b.reno b.sender.flight_size) × (c.loss.reorder_until ≡ None))
      (sym (ap (λ (t : Bool). if t then loss_probed b else b) due)) (
        or_true b.sender.resend (not (probes_tail b)) (ap not tail),
        ap (λ (t : Bool). if t then past_snd_max b else b.sender.recover) (both (not (probes_tail b)) (b.sender.recover == 0) (ap not tail) w.recover),
        ap (λ (t : Bool). if t then b.reno else reno.reduced b.reno b.sender.flight_size) tail,
        refl,
      )
    where
      or_true : (a b : Bool) → b ≡ true → (a || b) ≡ true
      or_true true b e = refl
      or_true false b e = e

      tail : probes_tail b ≡ false
      tail = none_with (is_none b.loss.reorder_until) _ (ap is_none w.until)

      there : (may_send_data b.state && (not b.sender.syn_unacked && not (b.sender.flight_size == 0))) ≡ true
      there = both (may_send_data b.state) _ sends (both (not b.sender.syn_unacked) _ (ap not syn) (ap not flies))

      due : is_due at (loss_probe_deadline b) ≡ true
      due =
          ap (λ (t : Bool). is_due at (if t then loss_deadline b.loss else None)) there
          ∙ (ap (λ (o : Option ℤ). is_due at (option_or o b.loss.probe_at)) w.until ∙ come instant at past)

-- IT BEGINS

module _ (b : Tcb) (count : ℕ) (now : ℤ) (m : IsMissing b count) where
  parts : ((b.loss.reo_wnd_mult == 0) ≡ false) × ((b.peer.sack ≡ true) × (b.loss.dupthresh_one ≡ false))
  parts = of (b.loss.reo_wnd_mult == 0) b.peer.sack b.loss.dupthresh_one m.late where
    of : (none sack dupthresh_one : Bool) → (not none && (sack && not dupthresh_one)) ≡ true → (none ≡ false) × ((sack ≡ true) × (dupthresh_one ≡ false))
    of false true false e = (refl, (refl, refl))
    of false true true e = clash (sym e)
    of false false dupthresh_one e = clash (sym e)
    of true sack dupthresh_one e = clash (sym e)

  begins : Waits b.reno (Some (late_instant b now)) (counted b count now)
  begins =
      counted_waits b.reno None (Some (late_instant b now)) b count now sets
      (record {
        until = m.until;
        reo_wnd_mult = parts.0;
        dupthresh_one = parts.1.1;
        probes = m.probes;
        sack = parts.1.0;
        recover = left_true (b.sender.recover == 0) _ (left_true (may_be_missed b) _ m.missed);
        resend = m.resend;
        recovers = m.recovers;
        reno = record { periods = []; same = refl };
      })
    where
      sets : reorder_until b count now ≡ Some (late_instant b now)
      sets =
          ap (λ (t : Bool). if t then Some (late_instant b now) else b.loss.reorder_until)
          (both (is_none b.loss.reorder_until) _ (ap is_none m.until) (both (is_missed b count) (may_be_late b) m.missed m.late))

  waiting : (between : List Between) → AreBefore (late_instant b now) between
      → Waits b.reno (Some (late_instant b now)) (with_all between (counted b count now))
  waiting between before = all_wait b.reno (late_instant b now) between (counted b count now) before begins

pub again_not_yet : (b : Tcb) (count : ℕ) (now : ℤ) (between : List Between) (addresses : AddressPair) (ip_mtu : ℕ) (queued : Ring ℕ)
    → IsMissing b count → AreBefore (late_instant b now) between → resends (with_all between (counted b count now)) addresses ip_mtu queued ≡ false
again_not_yet b count now between addresses ip_mtu queued m before =
    resends_not b.reno (late_instant b now) (with_all between (counted b count now)) (has_payload (with_all between (counted b count now)) addresses ip_mtu queued)
    (waiting b count now m between before)

pub window_stays : (b : Tcb) (count : ℕ) (now : ℤ) (between : List Between) → IsMissing b count → AreBefore (late_instant b now) between
    → Lapses b.reno (with_all between (counted b count now)).reno
window_stays b count now between m before = (waiting b count now m between before).reno

pub recovery_then : (b : Tcb) (count : ℕ) (now : ℤ) (between : List Between) (at : ℤ) → IsMissing b count → AreBefore (late_instant b now) between
    → late_instant b now ≤ℤ at → may_send_data (with_all between (counted b count now)).state ≡ true
    → (with_all between (counted b count now)).sender.syn_unacked ≡ false
    → ((with_all between (counted b count now)).sender.flight_size == 0) ≡ false
    → ((loss_probed_by at (with_all between (counted b count now))).sender.resend ≡ true)
    × ((loss_probed_by at (with_all between (counted b count now))).sender.recover ≡ past_snd_max (with_all between (counted b count now)))
    × ((loss_probed_by at (with_all between (counted b count now))).reno
    ≡ reno.reduced (with_all between (counted b count now)).reno (with_all between (counted b count now)).sender.flight_size)
    × ((loss_probed_by at (with_all between (counted b count now))).loss.reorder_until ≡ None)
recovery_then b count now between at m before past sends syn flies =
    begins_then b.reno (late_instant b now) (with_all between (counted b count now)) at past sends syn flies
    (waiting b count now m between before)

pub never_longer : (r : RoundTripValue) (quarters : ℕ) → late_wait r quarters ≤ srtt r
never_longer r quarters = least (shortest r / 4 * quarters) (srtt r) where
  least : (a b : ℕ) → min a b ≤ b
  least a b = omega arith

-- WHERE NOTHING CAME LATE

not_late : (b : Tcb) → b.loss.reo_wnd_mult ≡ 0 → may_be_late b ≡ false
not_late b none = ap (λ (n : ℕ). not (n == 0) && (b.peer.sack && not b.loss.dupthresh_one)) none

pub begins_at_once : (b : Tcb) (count : ℕ) → b.loss.reo_wnd_mult ≡ 0 → begins_recovery b count ≡ (is_missed b count || is_lost_since b)
begins_at_once b count none = at_once (is_missed b count) (may_be_late b) (is_lost_since b) (not_late b none) where
  at_once : (missed late since : Bool) → late ≡ false → ((missed && not late) || since) ≡ (missed || since)
  at_once true false since e = refl
  at_once false false since e = refl
  at_once missed true since e = clash e

pub none_waits : (b : Tcb) (count : ℕ) (now : ℤ) → b.loss.reo_wnd_mult ≡ 0 → (counted b count now).loss.reorder_until ≡ b.loss.reorder_until
none_waits b count now none = none_by (is_none b.loss.reorder_until) (is_missed b count) (may_be_late b) (not_late b none) where
  none_by : (unset missed late : Bool) → late ≡ false
      → (if unset && (missed && late) then Some (late_instant b now) else b.loss.reorder_until) ≡ b.loss.reorder_until
  none_by true true false e = refl
  none_by true false false e = refl
  none_by false missed false e = refl
  none_by unset missed true e = clash e

pub in_order : (l : Loss) (by : ℕ) (partial : Bool) → is_empty l.board.runs ≡ true → (loss_lowered l by partial).reo_wnd_mult ≡ l.reo_wnd_mult
in_order l by partial empty = none_then (l.mark == 0) (is_empty l.board.runs) empty where
  none_then : (first none : Bool) → none ≡ true → (if first && not none then max 1 l.reo_wnd_mult else l.reo_wnd_mult) ≡ l.reo_wnd_mult
  none_then true true e = refl
  none_then false true e = refl
  none_then first false e = clash (sym e)

pub not_first : (l : Loss) (by : ℕ) (partial : Bool) → (l.mark == 0) ≡ false → (loss_lowered l by partial).reo_wnd_mult ≡ l.reo_wnd_mult
not_first l by partial again =
    ap (λ (t : Bool). if t then max 1 l.reo_wnd_mult else l.reo_wnd_mult) (none_with (l.mark == 0) (not (is_empty l.board.runs)) again)

pub first_late : (l : Loss) (by : ℕ) (partial : Bool) → l.mark ≡ 0 → is_empty l.board.runs ≡ false → 1 ≤ (loss_lowered l by partial).reo_wnd_mult
first_late l by partial first some =
    subst (λ (t : Bool). 1 ≤ (if t then max 1 l.reo_wnd_mult else l.reo_wnd_mult))
    (sym (both (l.mark == 0) (not (is_empty l.board.runs)) (ap (λ (n : ℕ). n == 0) first) (ap not some))) (most l.reo_wnd_mult)
  where
    most : (n : ℕ) → 1 ≤ max 1 n
    most n = omega arith

armed_mark : (b : Tcb) (l : Loss) (now : ℤ) → (probe_armed b l now).mark ≡ l.mark
armed_mark b l now =
    cond_both (probes_losses b && not l.probed) (record l { probe_at = probe_from b now }) l (λ (m : Loss). m.mark ≡ l.mark) (λ _. refl) (λ _. refl)

pub mark_went : (b : Tcb) (o : OpenOffer) (queued : ℕ) → (sent_as Kind.FastRetransmission b o queued).loss.mark ≡ b.sender.snd_max
mark_went b o queued = armed_mark c (record c.loss { undo = undo_sent c c.loss.undo o.instant }) o.instant where
  c : Tcb
  c = timer_started (nxt_moved (resent b (end_of b o)) (end_of b o) queued o.instant) o.instant
