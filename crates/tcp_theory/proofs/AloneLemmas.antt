-- A side whose peer isn't opened has nothing, and any peer that isn't opened will do.
use Rattle.std.proofs.Common.{◌≡◌, ◌⊎◌, inl, inr, ℕ, ◌^◌, ◌≤◌, Bool, true, false, List, [], length, drop, refl, sym, ap, ◌∙◌, subst, arith}
use Rattle.tcp_theory.specs.ReceiveMap.{Begins, AgreesWith}
use Rattle.tcp_theory.specs.Numbers.{wire}
use Rattle.tcp_theory.specs.Segment.{Segment}
use Rattle.tcp_theory.specs.Side.{Side, taken_in}
use Rattle.tcp_theory.specs.Side.Phase.{Unopened}
use Rattle.tcp_theory.specs.Side.Opening.{NotYet, Active}
use Rattle.tcp_theory.specs.Alone.{HasNothing, AreResets, unopened}
use Rattle.tcp_theory.specs.Invariant.{IsPiece, IsBelow, IsPlain, IsSyn, HasReached, IsHonest, IsInStep, IsSilent, OneWay}
use Rattle.tcp_theory.proofs.Lists.{Begins-nothing, AgreesWith-space, AllByRecursion-map}
use Rattle.tcp_theory.proofs.Calls.{fits_at, early_at}
use Rattle.tcp_theory.proofs.Theorem.{freed-reached, OneWay-from_unopened}

module _ (s t : Side) (out : OneWay s t) (back : OneWay t s) (phase : t.phase ≡ Unopened) where
  no_stream : (t.written ≡ []) × (taken_in t ≡ []) × (t.closed ≡ false) × (t.took_fin ≡ false)
  no_stream = back.well_formed.early (early_at t Unopened phase tt)

  unopened_irs : t.irs ≡ 0
  unopened_irs = (fits_at t Unopened back.well_formed phase).1

  not_reached : {A : Type 0} → 2 ^ 32 ≤ t.irs → A
  not_reached low = let none = unopened_irs in absurd (omega arith)

  unfinished : (b : Bool) → s.took_fin ≡ b → s.took_fin ≡ false
  unfinished false e = e
  unfinished true e = absurd (let f = back.fin e in let clash : false ≡ true = sym no_stream.2 ∙ f.closed in cc)

  pub HasNothing-unopened : HasNothing s
  HasNothing-unopened =
      let none = ap length no_stream.1 in
      let most = freed-reached s t out in
      record {
        read = Begins-nothing (taken_in s) (subst (λ (ys : List ℕ). Begins (taken_in s) ys) no_stream.0 back.received);
        freed = omega arith;
        unfinished = unfinished s.took_fin refl;
      }

  module _ (capacity : ℕ) (resets : List Segment) (are_resets : AreResets resets) where
    honest_to : (x : Segment) → IsHonest s t x → IsHonest s (unopened capacity resets) x
    honest_to x (inl reset) = inl reset
    honest_to x (inr h) = inr (kind h.0, h.1) where
      kind : IsPiece s x ⊎ (IsPlain t x ⊎ IsSyn s x) → IsPiece s x ⊎ (IsPlain (unopened capacity resets) x ⊎ IsSyn s x)
      kind (inl piece) = inl piece
      kind (inr (inr its_syn)) = inr (inr its_syn)
      kind (inr (inl plain)) = inr (inl (record { plain = plain.plain; bytes = by plain.bytes })) where
        by : (x.bytes ≡ []) ⊎ IsBelow t x → (x.bytes ≡ []) ⊎ IsBelow (unopened capacity resets) x
        by (inl none) = inl none
        by (inr below) = not_reached below.heard

    pub OneWay-to_unopened : OneWay s (unopened capacity resets)
    OneWay-to_unopened = record {
      well_formed = out.well_formed;
      sync = sync out.sync;
      received = tt;
      held = AgreesWith-space capacity s.written;
      fin = λ (e : false ≡ true). absurd (cc);
      listener = λ e. listener (out.listener e);
      sent = AllByRecursion-map (IsHonest s t) (IsHonest s (unopened capacity resets)) honest_to s.sent out.sent;
    } where
      sync : IsInStep s t ⊎ IsSilent s t → IsInStep s (unopened capacity resets) ⊎ IsSilent s (unopened capacity resets)
      sync (inl in_step) = let counts = in_step.counts in let first = out.well_formed.iss.0 in not_reached (omega arith)
      sync (inr silent) = inr (record { unwritten = silent.unwritten; closed = silent.closed; una = una silent.una }) where
        una : (s.una ≡ s.iss) ⊎ HasReached t (wire s.una) → (s.una ≡ s.iss) ⊎ HasReached (unopened capacity resets) (wire s.una)
        una (inl first) = inl first
        una (inr reached) = not_reached reached.heard

      listener : (s.irs ≡ 0) ⊎ ((s.irs ≡ t.iss) × (t.opening ≡ Active)) → (s.irs ≡ 0) ⊎ ((s.irs ≡ 2 ^ 32) × (NotYet ≡ Active))
      listener (inl none) = inl none
      listener (inr heard) = absurd (let unset = (fits_at t Unopened back.well_formed phase).0 in let clash : NotYet ≡ Active = sym unset ∙ heard.1 in cc)

    pub OneWay-unopened_to : OneWay (unopened capacity resets) s
    OneWay-unopened_to =
        let received : Begins (taken_in s) [] = subst (λ (ys : List ℕ). Begins (taken_in s) ys) no_stream.0 back.received in
        OneWay-from_unopened capacity resets s are_resets (Begins-nothing (taken_in s) received) (unfinished s.took_fin refl)
        (subst (λ (ys : List ℕ). AgreesWith s.window (drop (length (taken_in s)) ys)) no_stream.0 back.held)
