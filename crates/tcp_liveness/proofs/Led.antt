-- The events of an exchange are taken: so it leads on to a pair that events lead to.
use Rattle.std.proofs.Common.{◌≡◌, ◌⊎◌, inl, inr, ℕ, ◌-◌, ◌<◌, nat_lt, not, ℤ, Bool, true, [], ◌∷◌, length, None, refl, sym, ap, subst, arith}
use Rattle.std.proofs.lemmas.Bool.{lt-ltb}
use Rattle.std.proofs.lemmas.Option.{slice_get_within}
use Rattle.tcp_refinement.specs.Tie.{Keeps}
use Rattle.tcp_invariants.specs.OpenOffer.{OpenOffer}
use Rattle.tcp_refinement.specs.Pair.Steps.{refusal, if_so}
use Rattle.tcp_refinement.specs.Pair.Values.{PairValue, past_at}
use Rattle.tcp_refinement.specs.declared.pair.event.PairEvent.TheVariants.{Offer, Deliver}
use Rattle.tcp_refinement.specs.declared.pair.event.PairRefused.TheVariants.{NoSegment}
use Rattle.tcp_refinement.specs.declared.pair.event.Side.{Side}
use Rattle.tcp_refinement.specs.declared.pair.event.Side.TheVariants.{A, B}
use Rattle.tcp_liveness.specs.Pair.{AreMirrored, HasStream, MayReachIn, exchanged_in, next_sent, offered_in}
use Rattle.tcp_liveness.specs.Reached.{IsReached}
use Rattle.tcp_liveness.specs.Rounds.{takes, comes}
use Rattle.tcp_liveness.proofs.Kept.{reached_by, reached_keeps}
use Rattle.tcp_liveness.proofs.Mirrored.{connected_mirrored}
use Rattle.tcp_liveness.proofs.Pair.{Comes, asked_side, first, how_many, in_step, sent, side_comes}
use Rattle.tcp_liveness.proofs.SentPairs.{TookEach, reached_took}
use Rattle.tcp_liveness.proofs.WindowPairs.{fits_in}

abbrev IsTaken : PairValue → Side → ℕ → Type 0
IsTaken p from k = refusal p (Deliver from k) ≡ None

pub by_two :
    (p : PairValue) (side : Side) (instant : ℤ) → IsReached p → refusal p (Offer side instant true) ≡ None
    → IsTaken (takes p (Offer side instant true)) side (next_sent p side) → IsReached (offered_in p side instant)
by_two p side instant r asked comes =
    reached_by p (offered_in p side instant) (Offer side instant true ∷ Deliver side (next_sent p side) ∷ []) r (asked, (comes, refl))

pub by_answer :
    (p : PairValue) (from : Side) (k n : ℕ) → (n ≡ 0) ⊎ (n ≡ 1) → (n ≡ 1 → IsTaken p from k) → IsReached p → IsReached (comes n from k p)
by_answer p from k n (inl none) there r = subst (λ (n : ℕ). IsReached (comes n from k p)) (sym none) r
by_answer p from k n (inr one) there r =
    subst (λ (n : ℕ). IsReached (comes n from k p)) (sym one)
    (reached_by p (takes p (Deliver from k)) (Deliver from k ∷ []) r (there one, refl))

pub within : (k n : ℕ) → k < n → if_so (not (nat_lt k n)) NoSegment ≡ None
within k n less = ap (λ (t : Bool). if_so (not t) NoSegment) (lt-ltb k n less)

pub one_more : (k n : ℕ) → n - k ≡ 1 → k < n
one_more k n e = omega arith

-- an offer that comes
pub offer_led :
    (p : PairValue) (side : Side) (instant : ℤ) (o : OpenOffer) → IsReached p → MayReachIn p side instant o → refusal p (Offer side instant true) ≡ None
    → IsReached (offered_in p side instant)
offer_led p A instant o r may asked =
    let mirrored = connected_mirrored p A r may.own.synchronized may.theirs.synchronized in
    by_two p A instant r asked
    (within (next_sent p A) (length (asked_side A p.sides.a p.sides.b instant).sent)
    (slice_get_within (asked_side A p.sides.a p.sides.b instant).sent (next_sent p A) (first A p.sides.a p.sides.b instant mirrored o may)
    (sent A p.sides.a p.sides.b instant mirrored o may)))
offer_led p B instant o r may asked =
    let mirrored = connected_mirrored p B r may.own.synchronized may.theirs.synchronized in
    by_two p B instant r asked
    (within (next_sent p B) (length (asked_side B p.sides.b p.sides.a instant).sent)
    (slice_get_within (asked_side B p.sides.b p.sides.a instant).sent (next_sent p B) (first B p.sides.b p.sides.a instant mirrored o may)
    (sent B p.sides.b p.sides.a instant mirrored o may)))

module _ (p : PairValue) (instant : ℤ) (o : OpenOffer) (r : IsReached p) where
  led_a : HasStream (past_at p A) → MayReachIn p A instant o → refusal p (Offer A instant true) ≡ None → IsReached (exchanged_in p A instant)
  led_a stream may asked =
      by_answer (offered_in p A instant) B (next_sent p B) (next_sent (offered_in p A instant) B - next_sent p B)
      (how_many A p.sides.a p.sides.b instant mirrored o may moves)
      (λ one. within (next_sent p B) (next_sent (offered_in p A instant) B) (one_more (next_sent p B) (next_sent (offered_in p A instant) B) one))
      (offer_led p A instant o r may asked)
    where
      k : Keeps p.sides.a.socket (past_at p A) p.sides.b.socket (past_at p B)
      k = reached_keeps p A r

      each : TookEach p A
      each = reached_took p A r may.own may.theirs

      mirrored : AreMirrored p.sides.a.socket.tcb p.sides.b.socket.tcb
      mirrored = connected_mirrored p A r may.own.synchronized may.theirs.synchronized

      moves : Comes A p.sides.a p.sides.b instant mirrored o may (Unit {0}) (Unit {0})
      moves =
          side_comes A p.sides.a p.sides.b instant mirrored o may (past_at p A) (past_at p B) k
          (in_step p.sides.a.socket p.sides.b.socket (past_at p A) (past_at p B) k may.own.synchronized stream) each.sent
          (fits_in p A r may.own may.theirs may.room) each.heard (inr tt) (λ _. inr tt)

  led_b : HasStream (past_at p B) → MayReachIn p B instant o → refusal p (Offer B instant true) ≡ None → IsReached (exchanged_in p B instant)
  led_b stream may asked =
      by_answer (offered_in p B instant) A (next_sent p A) (next_sent (offered_in p B instant) A - next_sent p A)
      (how_many B p.sides.b p.sides.a instant mirrored o may moves)
      (λ one. within (next_sent p A) (next_sent (offered_in p B instant) A) (one_more (next_sent p A) (next_sent (offered_in p B instant) A) one))
      (offer_led p B instant o r may asked)
    where
      k : Keeps p.sides.b.socket (past_at p B) p.sides.a.socket (past_at p A)
      k = reached_keeps p B r

      each : TookEach p B
      each = reached_took p B r may.own may.theirs

      mirrored : AreMirrored p.sides.b.socket.tcb p.sides.a.socket.tcb
      mirrored = connected_mirrored p B r may.own.synchronized may.theirs.synchronized

      moves : Comes B p.sides.b p.sides.a instant mirrored o may (Unit {0}) (Unit {0})
      moves =
          side_comes B p.sides.b p.sides.a instant mirrored o may (past_at p B) (past_at p A) k
          (in_step p.sides.b.socket p.sides.a.socket (past_at p B) (past_at p A) k may.own.synchronized stream) each.sent
          (fits_in p B r may.own may.theirs may.room) each.heard (inr tt) (λ _. inr tt)

pub leads_on :
    (p : PairValue) (side : Side) (instant : ℤ) (o : OpenOffer) → IsReached p → HasStream (past_at p side) → MayReachIn p side instant o
    → refusal p (Offer side instant true) ≡ None → IsReached (exchanged_in p side instant)
leads_on p A instant o r stream may asked = led_a p instant o r stream may asked
leads_on p B instant o r stream may asked = led_b p instant o r stream may asked
