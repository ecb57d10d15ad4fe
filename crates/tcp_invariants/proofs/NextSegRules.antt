-- What isn't lost is retransmitted last.
use Rattle.std.proofs.Common.{◌≡◌, ◌⊎◌, inl, inr, ⊎_elim, ◌<◌, ◌&&◌, ◌||◌, nat_lt, not, Bool, true, false, Some, None, refl, sym, ap, ◌∙◌, subst}
use Rattle.std.proofs.lemmas.Bool.{ltb-true}
use Rattle.tcp_state.specs.Scoreboard.{runs_end}
use Rattle.tcp_state.specs.declared.endpoints.FourTuple.{FourTuple}
use Rattle.tcp_state.specs.declared.offer.OfferKind.TheVariants as Kind
use Rattle.tcp_state.specs.declared.offer.OpenOffer.{OpenOffer}
use Rattle.tcp_block.specs.BaseOffers.{Offered}
use Rattle.tcp_block.specs.Context.{ContextValue}
use Rattle.tcp_block.specs.LossRecovery.{next_hole, fills_hole, fills_early, rescues, is_rescue, may_send_early, is_sent_early, loss_probed}
use Rattle.tcp_block.specs.Offers.{offer_of}
use Rattle.tcp_block.specs.Rules.{has_payload, resends, backed_off_now}
use Rattle.tcp_block.specs.Value.{TcpValue, with_tcb, unoffered}
use Rattle.tcp_block.specs.declared.tcb.Tcb.{Tcb}
use Rattle.tcp_invariants.specs.Early.{GoesLast, is_again}
use Rattle.tcp_invariants.proofs.EarlyRules.{early, early_may, early_room, which}
use Rattle.tcp_invariants.proofs.OfferCases.{Rules, FirstRules, LastRules, by_rules, begun, probing}
use Rattle.tcp_invariants.proofs.OrderSteps.{clash}

right_true : (a b : Bool) → (a && b) ≡ true → b ≡ true
right_true true b e = e
right_true false b e = clash (sym e)

-- below what is held, or as a rescue
by_which : (b : Tcb) → is_sent_early b ≡ true → b.sender.resend ≡ false → b.loss.probes ≡ false → fills_hole b ≡ false
    → (next_hole b < runs_end b.loss.board.runs) ⊎ (is_rescue b ≡ true)
by_which b goes resend probes fills = at (fills_early b) refl where
  only : (resend probes fills below rescue_rxt : Bool) → resend ≡ false → probes ≡ false → fills ≡ false → below ≡ false → (below || rescue_rxt) ≡ true
      → (not (resend || (probes || (fills || below))) && rescue_rxt) ≡ true
  only false false false false rescue_rxt p q r s e = e
  only true probes fills below rescue_rxt p q r s e = clash p
  only false true fills below rescue_rxt p q r s e = clash q
  only false false true below rescue_rxt p q r s e = clash r
  only false false false true rescue_rxt p q r s e = clash s

  at : (t : Bool) → fills_early b ≡ t → (next_hole b < runs_end b.loss.board.runs) ⊎ (is_rescue b ≡ true)
  at true below =
      inl (ltb-true (next_hole b) (runs_end b.loss.board.runs) (right_true (may_send_early b) (nat_lt (next_hole b) (runs_end b.loss.board.runs)) below))
  at false below = inr (only b.sender.resend b.loss.probes (fills_hole b) (fills_early b) (rescues b) resend probes fills below goes)

module _ (cx : ContextValue) (v : TcpValue) where
  abbrev Last : Offered TcpValue → Type 0
  Last o =
      (pair : FourTuple) (a : OpenOffer) → v.tcb.names.pair ≡ Some pair → o.socket.offered ≡ Some a → is_again a.kind ≡ true
      → o.socket.tcb.sender.resend ≡ false → o.socket.tcb.loss.probes ≡ false → fills_hole o.socket.tcb ≡ false
      → GoesLast o.socket.tcb o.socket.queued pair.addresses cx.ip_mtu

  another : {A : Type 0} (a k : OpenOffer) → Some a ≡ Some k → is_again a.kind ≡ false → is_again k.kind ≡ true → A
  another a k e not is = clash (sym is ∙ sym (ap (λ (o : OpenOffer). is_again o.kind) (one_offer a k e)) ∙ not) where
    one_offer : (a b : OpenOffer) → Some a ≡ Some b → a ≡ b
    one_offer a b e = cc

  nothing : {A : Type 0} (k : OpenOffer) → None ≡ Some k → A
  nothing k e = absurd (cc)

  one_pair : (a b : FourTuple) → v.tcb.names.pair ≡ Some a → v.tcb.names.pair ≡ Some b → a ≡ b
  one_pair a b e f = cc

  goes : (pair : FourTuple) (w : TcpValue) → resends w.tcb pair.addresses cx.ip_mtu w.queued ≡ true → w.tcb.sender.resend ≡ false
      → w.tcb.loss.probes ≡ false → fills_hole w.tcb ≡ false → GoesLast w.tcb w.queued pair.addresses cx.ip_mtu
  goes pair w does resend probes fills =
      ⊎_elim (λ so. clash (sym so ∙ fills))
      (λ last.
      let may = early_may w.tcb last.0 in
      record {
        permitted = (early w.tcb may).sack;
        recovers = (early w.tcb may).recovers;
        no_payload = last.1;
        room = early_room w.tcb may;
        which = by_which w.tcb last.0 resend probes fills;
      })
      (which w.tcb (has_payload w.tcb pair.addresses cx.ip_mtu w.queued) does resend probes)

  last : (pair : FourTuple) (x : TcpValue) → x.offered ≡ None → LastRules cx pair Last x
  last pair x none = record {
    probe = λ _ _ other a same e is. another _ a e refl is;
    window_limited = λ _ _ other a same e is. another _ a e refl is;
    ack = λ _ other a same e is. another _ a e refl is;
    update = λ _ _ other a same e is. another _ a e refl is;
    keep_alive = λ _ _ other a same e is. another _ a e refl is;
    quiet = λ _ other a same e is. nothing a (sym none ∙ e);
  }

  first : (pair : FourTuple) (w : TcpValue) → v.tcb.names.pair ≡ Some pair → w.offered ≡ None → FirstRules cx pair Last w
  first pair w named none = record {
    syn = λ _ other a same e is. another _ a e refl is;
    again = λ _ does other a same e is resend probes fills.
        subst (λ (p : FourTuple). GoesLast w.tcb w.queued p.addresses cx.ip_mtu) (one_pair pair other named same) (goes pair w does resend probes fills);
    payload = λ _ _ other a same e is. another _ a e refl is;
    last = λ _. last pair (probing cx w) none;
  }

  rules : Rules cx v Last
  rules = record {
    nobody = λ _ other a same e is. nothing a e;
    time_wait = λ _ other a same e is. nothing a e;
    timeout = λ _ other a same e is. nothing a e;
    closed = λ _ other a same e is. nothing a e;
    reset = λ _ _ _ other a same e is. another _ a e refl is;
    falls = λ _ _ _ other a same e is. nothing a e;
    over = λ _ _ _ other a same e is. nothing a e;
    backs = λ pair named _ _. first pair (with_tcb (unoffered v) (backed_off_now (begun cx v))) named refl;
    probes = λ pair named _ _ _. first pair (with_tcb (unoffered v) (loss_probed (begun cx v))) named refl;
    goes = λ pair named _ _. first pair (with_tcb (unoffered v) (begun cx v)) named refl;
  }

pub goes_last : (cx : ContextValue) (v : TcpValue) (pair : FourTuple) (o : OpenOffer) → v.tcb.names.pair ≡ Some pair
    → (offer_of cx v).socket.offered ≡ Some o → o.kind ≡ Kind.FastRetransmission → (offer_of cx v).socket.tcb.sender.resend ≡ false
    → (offer_of cx v).socket.tcb.loss.probes ≡ false → fills_hole (offer_of cx v).socket.tcb ≡ false
    → GoesLast (offer_of cx v).socket.tcb (offer_of cx v).socket.queued pair.addresses cx.ip_mtu
goes_last cx v pair o named offered kind = by_rules cx v (Last cx v) (rules cx v) pair o named offered (ap is_again kind)
