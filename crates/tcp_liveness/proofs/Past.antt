-- Nothing but a segment that comes leads a socket past SYN-SENT: neither an offer, nor a close or an abort.
use Rattle.std.proofs.Common.{◌≡◌, ℕ, ◌+◌, Bool, true, false, Some, is_some, refl, sym, ap, ◌∙◌}
use Rattle.std.proofs.lemmas.Bool.{cond_both}
use Rattle.ip_wire.specs.Tcp.{header_len}
use Rattle.ip_wire.specs.TcpHeader.{TcpHeader}
use Rattle.tcp_refinement.specs.Context.{ContextValue}
use Rattle.tcp_refinement.specs.Offers.{Offered}
use Rattle.tcp_invariants.specs.FourTuple.{FourTuple}
use Rattle.tcp_invariants.specs.Endpoints.{header_for}
use Rattle.tcp_invariants.specs.Events.{is_past}
use Rattle.tcp_invariants.specs.Moments.{is_over, timeout_from}
use Rattle.tcp_invariants.specs.OfferKind.{OfferKind}
use Rattle.tcp_invariants.specs.OfferKind.TheVariants as Kind
use Rattle.tcp_invariants.specs.OpenOffer.{OpenOffer}
use Rattle.tcp_invariants.specs.State.{State}
use Rattle.tcp_invariants.specs.State.TheVariants as In
use Rattle.tcp_invariants.specs.States.{after_close, is_opening, is_time_wait}
use Rattle.tcp_invariants.proofs.OfferCases.{FirstRules, by_rules, begun, probing}
use Rattle.tcp_invariants.proofs.OrderSteps.{clash}
use Rattle.tcp_block.specs.declared.tcb.Tcb.{Tcb}
use Rattle.tcp_block.specs.Calls.{abort_after, close_after}
use Rattle.tcp_block.specs.LossRecovery.{loss_probed}
use Rattle.tcp_block.specs.Offers.{number_at, offer_of}
use Rattle.tcp_block.specs.Retries.{asked, one_more}
use Rattle.tcp_block.specs.Rules.{backed_off_now, control_for, probe_choice}
use Rattle.tcp_block.specs.Segments.{hop_limit_of, keep_alive_segment, segment}
use Rattle.tcp_block.specs.Settled.{end_of, probed, recorded, settled}
use Rattle.tcp_block.specs.Value.{TcpValue, ended, queued_in, room_of, unoffered, window_of, with_tcb}

module _ (cx : ContextValue) (v : TcpValue) where
  -- so told whether it was sent, the socket is past SYN-SENT only if it was
  abbrev pub PastIn : Bool → Offered TcpValue → Type 0
  PastIn sent o = is_past (settled sent o.socket).tcb.state ≡ true → is_past v.tcb.state ≡ true

  same : (state : State) → state ≡ v.tcb.state → is_past state ≡ true → is_past v.tcb.state ≡ true
  same state still on = sym (ap is_past still) ∙ on

  asked_on : (b : Tcb) → b.state ≡ v.tcb.state → is_past (asked b cx.instant).state ≡ true → is_past v.tcb.state ≡ true
  asked_on b still =
      cond_both (is_over cx.instant b.timers.counts_from)
      (record b {
        sender = record b.sender { unanswered = one_more b.sender.unanswered };
        timers = record b.timers { counts_from = Some (timeout_from cx.instant b.round_trip) };
      })
      b (λ (b : Tcb). is_past b.state ≡ true → is_past v.tcb.state ≡ true) (λ _. same b.state still) (λ _. same b.state still)

  abbrev opened_by : OfferKind → TcpValue → FourTuple → TcpHeader → ℕ → ℕ → OpenOffer
  opened_by kind x pair header offset len = record {
    kind = kind;
    instant = cx.instant;
    header = header_for pair.addresses (hop_limit_of x.tcb.settings.hop_limit) (header_len header + len);
    segment = header;
    offset = offset;
    len = len;
  }

  sent_first : (pair : FourTuple) (b : Tcb) → b.state ≡ v.tcb.state → FirstRules cx pair (PastIn true) (with_tcb (unoffered v) b)
  sent_first pair b still = record {
    syn = λ _. same b.state still;
    again = λ _ _. same b.state still;
    payload = λ _ _. same b.state still;
    last = λ _.
        record {
          probe = λ _ _.
              let o = opened_by Kind.Probe x pair
              (segment x.tcb pair cx.instant (window_of x) (control_for probe_choice (queued_in x)) (number_at x.tcb 0)) 0 1 in
              asked_on (probed (recorded x.tcb o (room_of x.received)) (end_of (recorded x.tcb o (room_of x.received)) o) cx.instant) still;
          window_limited = λ _ _. same b.state still;
          ack = λ _. same b.state still;
          update = λ _ _. same b.state still;
          keep_alive = λ _ _.
              let o = opened_by Kind.KeepAlive x pair (keep_alive_segment x.tcb pair cx.instant (window_of x)) 0 1 in
              asked_on (recorded x.tcb o (room_of x.received)) still;
          quiet = λ _. same b.state still;
        };
  }
    where
      x : TcpValue
      x = probing cx (with_tcb (unoffered v) b)

  withheld_first : (pair : FourTuple) (b : Tcb) → b.state ≡ v.tcb.state → FirstRules cx pair (PastIn false) (with_tcb (unoffered v) b)
  withheld_first pair b still = record {
    syn = λ _. same b.state still;
    again = λ _ _. same b.state still;
    payload = λ _ _. same b.state still;
    last = λ _.
        record {
          probe = λ _ _. same b.state still;
          window_limited = λ _ _. same b.state still;
          ack = λ _. same b.state still;
          update = λ _ _. same b.state still;
          keep_alive = λ _ _. same b.state still;
          quiet = λ _. same b.state still;
        };
  }

  -- whether or not what it offers goes
  pub sent_past : PastIn true (offer_of cx v)
  sent_past =
      by_rules cx v (PastIn true)
      (record {
        nobody = λ _ e. e;
        time_wait = λ _ (e : false ≡ true). clash (sym e);
        timeout = λ _ (e : false ≡ true). clash (sym e);
        closed = λ _ e. e;
        reset = λ _ _ _ (e : false ≡ true). clash (sym e);
        falls = λ _ _ _ (e : false ≡ true). clash (sym e);
        over = λ _ _ _ (e : false ≡ true). clash (sym e);
        backs = λ pair _ _ _. sent_first pair (backed_off_now (begun cx v)) refl;
        probes = λ pair _ _ _ _. sent_first pair (loss_probed (begun cx v)) refl;
        goes = λ pair _ _ _. sent_first pair (begun cx v) refl;
      })

  pub withheld_past : PastIn false (offer_of cx v)
  withheld_past =
      by_rules cx v (PastIn false)
      (record {
        nobody = λ _ e. e;
        time_wait = λ _ (e : false ≡ true). clash (sym e);
        timeout = λ _ (e : false ≡ true). clash (sym e);
        closed = λ _ e. e;
        reset = λ _ _ _ e. e;
        falls = λ _ _ _ (e : false ≡ true). clash (sym e);
        over = λ _ _ _ (e : false ≡ true). clash (sym e);
        backs = λ pair _ _ _. withheld_first pair (backed_off_now (begun cx v)) refl;
        probes = λ pair _ _ _ _. withheld_first pair (loss_probed (begun cx v)) refl;
        goes = λ pair _ _ _. withheld_first pair (begun cx v) refl;
      })

pub close_past : (v : TcpValue) → is_past (close_after v).tcb.state ≡ true → is_past v.tcb.state ≡ true
close_past v =
    cond_both (is_opening v.tcb.state) (ended (unoffered v)) (with_tcb (unoffered v) (record v.tcb { state = after_close v.tcb.state }))
    (λ (new : TcpValue). is_past new.tcb.state ≡ true → is_past v.tcb.state ≡ true) (λ _ (e : false ≡ true). clash (sym e))
    (λ _. by v.tcb.state)
  where
    by : (state : State) → is_past (after_close state) ≡ true → is_past state ≡ true
    by In.Closed e = clash (sym e)
    by In.Listen e = clash (sym e)
    by In.SynSent e = clash (sym e)
    by other e = refl

pub abort_past : (v : TcpValue) → is_past (abort_after v).tcb.state ≡ true → is_past v.tcb.state ≡ true
abort_past v =
    cond_both (is_time_wait v.tcb.state) (ended (unoffered v))
    (with_tcb (unoffered v) (record v.tcb { state = In.Closed; sender = record v.tcb.sender { reset_due = is_some v.tcb.names.pair } }))
    (λ (new : TcpValue). is_past new.tcb.state ≡ true → is_past v.tcb.state ≡ true) (λ _ (e : false ≡ true). clash (sym e))
    (λ _ (e : false ≡ true). clash (sym e))
