-- What a number that comes is decoded to.
use Rattle.std.proofs.Common.{◌≡◌, ◌≢◌, ◌⊎◌, inl, inr, ℕ, suc, ◌+◌, ◌-◌, ◌^◌, ◌<◌, ◌≤◌, [], length, drop, Some, sym, ap, ◌∙◌, subst, arith}
use Rattle.std.proofs.lemmas.Bool.Decides.{nat_tests}
use Rattle.tcp_theory.specs.ReceiveMap.{Begins}
use Rattle.tcp_theory.specs.Numbers.{wire, nearest, IsNear}
use Rattle.tcp_theory.specs.Segment.{Segment, IsData, IsNoReset}
use Rattle.tcp_theory.specs.Side.{Side, taken_in, rcv_next}
use Rattle.tcp_theory.specs.Move.{Comes}
use Rattle.tcp_theory.specs.Invariant.{IsPiece, IsBelow, IsPlain, IsSyn, IsHonest, IsInStep, OneWay}
use Rattle.tcp_theory.specs.Decoded.{IsAtItsOffset, IsAckedSoFar}
use Rattle.tcp_theory.proofs.Lists.{Begins-length}
use Rattle.tcp_theory.proofs.Calls.{one_if-small}
use Rattle.tcp_theory.proofs.Opening.{honest, acked}

pub nearest-wire : (reference position : ℕ) → 2 ^ 31 ≤ reference → IsNear reference position → nearest reference (wire position) ≡ position
nearest-wire reference position low near = let ahead_of = near.0 in let following_it = near.1 in grind (arith, nat_tests)

module _ (s t : Side) (out : OneWay s t) (back : OneWay t s) (in_step : IsInStep s t) where
  -- RCV.NXT of t lies at most 2 ^ 29 and 2 past the SYN of s
  rcv_next-near : (s.iss < rcv_next t) × (rcv_next t ≤ suc (suc s.iss) + 2 ^ 29)
  rcv_next-near =
      let shorter = Begins-length (taken_in t) s.written out.received in
      let short = out.well_formed.short in
      let fin = one_if-small t.took_fin in
      let counts = in_step.counts in
      (omega arith, omega arith)

  pub IsAtItsOffset-comes : (x : Segment) → Comes s x → IsData x.control → x.bytes ≢ [] → IsAtItsOffset s t x
  IsAtItsOffset-comes x comes data_kind some = from (honest s t x out comes) where
    first : 2 ^ 32 ≤ s.iss
    first = out.well_formed.iss.0

    piece : IsPiece s x → IsAtItsOffset s t x
    piece p =
        let near = rcv_next-near in
        let after_iss = near.0 in
        let bound = near.1 in
        let low = first in
        let short = out.well_formed.short in
        let decoded : nearest (rcv_next t) x.seq ≡ p.at =
        ap (nearest (rcv_next t)) p.seq ∙ nearest-wire (rcv_next t) p.at (omega arith) (omega arith, omega arith) in
        inl (subst (λ (at : ℕ). Begins x.bytes (drop (at - suc s.iss) s.written)) (sym decoded) p.bytes)

    plain : (x.bytes ≡ []) ⊎ IsBelow t x → IsAtItsOffset s t x
    plain (inl none) = absurd (some none)
    plain (inr b) =
        let near = rcv_next-near in
        let bound = near.1 in
        let low = first in
        let counts = in_step.counts in
        let decoded : nearest (rcv_next t) x.seq ≡ b.at =
        ap (nearest (rcv_next t)) b.number ∙ nearest-wire (rcv_next t) b.at (omega arith) (omega arith, omega arith) in
        let high = b.high in
        inr (subst (λ (at : ℕ). at + length x.bytes ≤ rcv_next t) (sym decoded) high)

    kind : IsPiece s x ⊎ (IsPlain t x ⊎ IsSyn s x) → IsAtItsOffset s t x
    kind (inl p) = piece p
    kind (inr (inl p)) = plain p.bytes
    kind (inr (inr p)) = absurd (subst IsData p.syn data_kind)

    from : IsHonest s t x → IsAtItsOffset s t x
    from (inl reset) = absurd (subst IsData reset data_kind)
    from (inr h) = kind h.0

  pub IsAckedSoFar-comes : (x : Segment) (number : ℕ) → Comes t x → IsNoReset x.control → x.ack ≡ Some number → IsAckedSoFar s t number
  IsAckedSoFar-comes x number comes no_reset e =
      let h = acked t s x number no_reset e (honest t s x back comes) in
      let near = rcv_next-near in
      let bound = near.1 in
      let low = out.well_formed.iss.0 in
      let counts = in_step.counts in
      let opened = in_step.opened in
      let reached = in_step.reached in
      let past = h.after_syn in
      let high = h.high in
      let decoded : nearest s.una number ≡ h.at = ap (nearest s.una) h.same ∙ nearest-wire s.una h.at (omega arith) (omega arith, omega arith) in
      (omega arith, omega arith)
