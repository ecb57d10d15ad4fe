-- What goes fits the congestion window.
use Rattle.std.proofs.Common.{◌≡◌, ◌≢◌, ◌⊎◌, inl, inr, ⊎_elim, ℕ, ◌+◌, ◌-◌, ◌*◌, ◌/◌, ◌≤◌, ◌==◌, nat_le, nat_lt, not, ◌&&◌, ◌||◌, min, max, Bool, true, false}
use Rattle.std.proofs.Common.{if◌then◌else◌, Some, None, refl, sym, ap, ◌∙◌, subst, arith}
use Rattle.std.proofs.lemmas.Bool.{cond_both, eqb-true, eqb-false, leb-true}
use Rattle.tcp_state.specs.Scoreboard.{missing}
use Rattle.tcp_state.specs.declared.endpoints.FourTuple.{FourTuple}
use Rattle.tcp_state.specs.declared.offer.OfferKind.{OfferKind}
use Rattle.tcp_state.specs.declared.offer.OfferKind.TheVariants as Kind
use Rattle.tcp_state.specs.declared.offer.OpenOffer.{OpenOffer}
use Rattle.tcp_block.specs.BaseOffers.{Offered}
use Rattle.tcp_block.specs.Context.{ContextValue}
use Rattle.tcp_block.specs.LossRecovery.{pipe, next_hole, credited_window, mends_lost, mends_credited, fills_hole, is_lost_at, loss_probed}
use Rattle.tcp_block.specs.Offers.{offer_of}
use Rattle.tcp_block.specs.Rules.{size_limit, congestion_limit, beyond, congestion_room, window_limit, next_offset, resends_beside, backed_off_now}
use Rattle.tcp_block.specs.Value.{TcpValue, with_tcb, unoffered, queued_in}
use Rattle.tcp_block.specs.declared.tcb.Tcb.{Tcb}
use Rattle.tcp_block.specs.declared.tcb.CongestionControl.{CongestionControl}
use Rattle.tcp_block.specs.declared.tcb.CongestionControl.TheVariants as Avoids
use Rattle.tcp_invariants.specs.Room.{is_limited, HasRoom, HasHoleRoom}
use Rattle.tcp_invariants.proofs.EarlyRules.{early_may, early_room, which}
use Rattle.tcp_invariants.proofs.OfferCases.{Rules, FirstRules, LastRules, by_rules, begun, probing}
use Rattle.tcp_invariants.proofs.OrderSteps.{clash}

left_true : (a b : Bool) → (a && b) ≡ true → a ≡ true
left_true true b e = refl
left_true false b e = clash (sym e)

right_true : (a b : Bool) → (a && b) ≡ true → b ≡ true
right_true true b e = e
right_true false b e = clash (sym e)

not_true : (a : Bool) → not a ≡ true → a ≡ false
not_true true e = clash (sym e)
not_true false e = refl

either : (a b : Bool) → (a || b) ≡ true → (a ≡ true) ⊎ (b ≡ true)
either true b e = inl refl
either false b e = inr e

-- NEW TEXT

limited : (control : CongestionControl) (room size : ℕ) → is_limited control ≡ true → congestion_limit control room size ≤ room
limited Avoids.None room size e = clash (sym e)
limited Avoids.Reno room size e = least room size where
  least : (a b : ℕ) → min a b ≤ a
  least a b = omega arith
limited Avoids.Cubic room size e = least room size where
  least : (a b : ℕ) → min a b ≤ a
  least a b = omega arith

payload_room : (b : Tcb) (size : ℕ) → is_limited b.settings.congestion_control ≡ true → HasRoom b (window_limit b size)
payload_room b size on = record {
  told = λ sack.
      beside (pipe b) b.reno.cwnd (window_limit b size)
      (subst (λ (t : Bool). window_limit b size ≤ (if t then b.reno.cwnd - pipe b else b.reno.cwnd + beyond b - b.sender.flight_size)) sack fits);
  untold = λ sack.
      beside b.sender.flight_size (b.reno.cwnd + beyond b) (window_limit b size)
      (subst (λ (t : Bool). window_limit b size ≤ (if t then b.reno.cwnd - pipe b else b.reno.cwnd + beyond b - b.sender.flight_size)) sack fits);
}
  where
    fits : window_limit b size ≤ congestion_room b
    fits = limited b.settings.congestion_control (congestion_room b) (min (b.peer.window - b.sender.flight_size) size) on

    beside : (before cwnd len : ℕ) → len ≤ cwnd - before → before + len ≤ max cwnd before
    beside before cwnd len e = omega arith

pub two_beyond : (b : Tcb) → (beyond b ≤ 2 * b.reno.mss) × ((b.sender.recover == 0) ≡ false → beyond b ≡ 0)
two_beyond b = (
  cond_both (b.sender.recover == 0) (b.reno.mss * min 2 b.sender.duplicates) 0 (λ (n : ℕ). n ≤ 2 * b.reno.mss) (λ _. upto b.sender.duplicates)
      (λ _. least (2 * b.reno.mss)),
  λ e. ap (λ (t : Bool). if t then b.reno.mss * min 2 b.sender.duplicates else 0) e,
)
  where
    least : (n : ℕ) → 0 ≤ n
    least n = omega arith

    none : (n : ℕ) → n * 0 ≤ 2 * n
    none n = omega arith

    one : (n : ℕ) → n * 1 ≤ 2 * n
    one n = omega arith

    two : (n : ℕ) → n * 2 ≤ 2 * n
    two n = omega arith

    by : (k : ℕ) → (k ≡ 0) ⊎ ((k ≡ 1) ⊎ (k ≡ 2)) → b.reno.mss * k ≤ 2 * b.reno.mss
    by k (inl e) = subst (λ (n : ℕ). b.reno.mss * n ≤ 2 * b.reno.mss) (sym e) (none b.reno.mss)
    by k (inr (inl e)) = subst (λ (n : ℕ). b.reno.mss * n ≤ 2 * b.reno.mss) (sym e) (one b.reno.mss)
    by k (inr (inr e)) = subst (λ (n : ℕ). b.reno.mss * n ≤ 2 * b.reno.mss) (sym e) (two b.reno.mss)

    few : (n : ℕ) → (min 2 n ≡ 0) ⊎ ((min 2 n ≡ 1) ⊎ (min 2 n ≡ 2))
    few n = at (n == 0) (n == 1) refl refl where
      at : (s t : Bool) → (n == 0) ≡ s → (n == 1) ≡ t → (min 2 n ≡ 0) ⊎ ((min 2 n ≡ 1) ⊎ (min 2 n ≡ 2))
      at true t e f = inl (ap (min 2) (eqb-true n 0 e))
      at false true e f = inr (inl (ap (min 2) (eqb-true n 1 f)))
      at false false e f = inr (inr (more n (eqb-false n 0 e) (eqb-false n 1 f))) where
        more : (n : ℕ) → n ≢ 0 → n ≢ 1 → min 2 n ≡ 2
        more n e f = omega (arith, e, f)

    upto : (n : ℕ) → b.reno.mss * min 2 n ≤ 2 * b.reno.mss
    upto n = by (min 2 n) (few n)

-- HOLES

hole_room : (b : Tcb) → fills_hole b ≡ true → HasHoleRoom b
hole_room b fills =
    let rest = right_true b.reno.recovers (not b.sender.syn_unacked && (nat_lt (next_hole b) b.sender.flight_size && (mends_lost b || mends_credited b)))
    (right_true b.peer.sack _ fills) in
    let mends = right_true (nat_lt (next_hole b) b.sender.flight_size) (mends_lost b || mends_credited b)
    (right_true (not b.sender.syn_unacked) (nat_lt (next_hole b) b.sender.flight_size && (mends_lost b || mends_credited b)) rest) in
    ⊎_elim
    (λ lost. inl (leb-true (pipe b + b.reno.mss) b.reno.cwnd (right_true (is_lost_at b (next_hole b)) (nat_le (pipe b + b.reno.mss) b.reno.cwnd) lost)))
    (λ credited.
    let parts = right_true (not (b.loss.credit == 0)) (nat_lt (next_hole b + 1) b.sender.recover && nat_le (again + b.reno.mss) (credited_window b))
    credited in
    inr (
      not_true (b.loss.credit == 0)
          (left_true (not (b.loss.credit == 0)) (nat_lt (next_hole b + 1) b.sender.recover && nat_le (again + b.reno.mss) (credited_window b)) credited),
      whole (again + b.reno.mss)
          (leb-true (again + b.reno.mss) (credited_window b)
          (right_true (nat_lt (next_hole b + 1) b.sender.recover) (nat_le (again + b.reno.mss) (credited_window b)) parts)),
    ))
    (either (mends_lost b) (mends_credited b) mends)
  where
    again : ℕ
    again = missing b.loss.board.runs (min b.loss.resent b.sender.flight_size)

    whole : (n : ℕ) → n ≤ credited_window b → n ≤ b.reno.cwnd
    whole n =
        cond_both (b.loss.credit == 1) (b.reno.cwnd / 2) b.reno.cwnd (λ (w : ℕ). n ≤ w → n ≤ b.reno.cwnd) (λ _ e. half n b.reno.cwnd e) (λ _ e. e)
      where
        half : (n w : ℕ) → n ≤ w / 2 → n ≤ w
        half n w e = omega arith

again_room : (b : Tcb) (payload : Bool) → resends_beside b payload ≡ true → b.sender.resend ≡ false → b.loss.probes ≡ false → HasHoleRoom b
again_room b payload does resend probes =
    ⊎_elim (λ fills. hole_room b fills) (λ last. inl (early_room b (early_may b last.0))) (which b payload does resend probes)

-- AN OFFER

abbrev is_payload : OfferKind → Bool
is_payload Kind.Payload = true
is_payload other = false

abbrev is_again : OfferKind → Bool
is_again Kind.FastRetransmission = true
is_again other = false

module _ (cx : ContextValue) (v : TcpValue) where
  abbrev Fits : Tcb → OpenOffer → Type 0
  Fits b o =
      (is_payload o.kind ≡ true → is_limited b.settings.congestion_control ≡ true → HasRoom b o.len)
      × (is_again o.kind ≡ true → b.sender.resend ≡ false → b.loss.probes ≡ false → HasHoleRoom b)

  abbrev FitsOffer : Offered TcpValue → Type 0
  FitsOffer o = (a : OpenOffer) → o.socket.offered ≡ Some a → Fits o.socket.tcb a

  one_offer : (a b : OpenOffer) → Some a ≡ Some b → a ≡ b
  one_offer a b e = cc

  same : (b : Tcb) (a c : OpenOffer) → Some a ≡ Some c → Fits b a → Fits b c
  same b a c e f = subst (Fits b) (one_offer a c e) f

  nothing : {A : Type 0} (a : OpenOffer) → None ≡ Some a → A
  nothing a e = absurd (cc)

  last : (pair : FourTuple) (x : TcpValue) → x.offered ≡ None → LastRules cx pair FitsOffer x
  last pair x none = record {
    probe = λ _ _ a e. same x.tcb _ a e (λ is. clash (sym is), λ is. clash (sym is));
    window_limited = λ _ _ a e.
        same x.tcb _ a e
        (λ _ on. payload_room x.tcb (min (size_limit x.tcb pair.addresses cx.ip_mtu) (queued_in x - next_offset x.tcb)) on, λ is. clash (sym is));
    ack = λ _ a e. same x.tcb _ a e (λ is. clash (sym is), λ is. clash (sym is));
    update = λ _ _ a e. same x.tcb _ a e (λ is. clash (sym is), λ is. clash (sym is));
    keep_alive = λ _ _ a e. same x.tcb _ a e (λ is. clash (sym is), λ is. clash (sym is));
    quiet = λ _ a e. nothing a (sym none ∙ e);
  }

  first : (pair : FourTuple) (w : TcpValue) → w.offered ≡ None → FirstRules cx pair FitsOffer w
  first pair w none = record {
    syn = λ _ a e. same w.tcb _ a e (λ is. clash (sym is), λ is. clash (sym is));
    again = λ _ does a e. same w.tcb _ a e (λ is. clash (sym is), λ _ resend probes. again_room w.tcb _ does resend probes);
    payload = λ _ _ a e.
        same w.tcb _ a e
        (λ _ on. payload_room w.tcb (min (size_limit w.tcb pair.addresses cx.ip_mtu) (queued_in w - next_offset w.tcb)) on, λ is. clash (sym is));
    last = λ _. last pair (probing cx w) none;
  }

  rules : Rules cx v FitsOffer
  rules = record {
    nobody = λ _ a e. nothing a e;
    time_wait = λ _ a e. nothing a e;
    timeout = λ _ a e. nothing a e;
    closed = λ _ a e. nothing a e;
    reset = λ pair _ _ a e. same v.tcb _ a e (λ is. clash (sym is), λ is. clash (sym is));
    falls = λ _ _ _ a e. nothing a e;
    over = λ _ _ _ a e. nothing a e;
    backs = λ pair _ _ _. first pair (with_tcb (unoffered v) (backed_off_now (begun cx v))) refl;
    probes = λ pair _ _ _ _. first pair (with_tcb (unoffered v) (loss_probed (begun cx v))) refl;
    goes = λ pair _ _ _. first pair (with_tcb (unoffered v) (begun cx v)) refl;
  }

  fits_offer : FitsOffer (offer_of cx v)
  fits_offer = by_rules cx v FitsOffer rules

pub payload_fits : (cx : ContextValue) (v : TcpValue) (o : OpenOffer) → (offer_of cx v).socket.offered ≡ Some o → o.kind ≡ Kind.Payload
    → is_limited (offer_of cx v).socket.tcb.settings.congestion_control ≡ true → HasRoom (offer_of cx v).socket.tcb o.len
payload_fits cx v o offered kind on = (fits_offer cx v o offered).0 (ap is_payload kind) on

pub hole_fits : (cx : ContextValue) (v : TcpValue) (o : OpenOffer) → (offer_of cx v).socket.offered ≡ Some o → o.kind ≡ Kind.FastRetransmission
    → (offer_of cx v).socket.tcb.sender.resend ≡ false → (offer_of cx v).socket.tcb.loss.probes ≡ false → HasHoleRoom (offer_of cx v).socket.tcb
hole_fits cx v o offered kind resend probes = (fits_offer cx v o offered).1 (ap is_again kind) resend probes
