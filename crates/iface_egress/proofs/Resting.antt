-- Slots idle, by the marks that are kept of them.
use Rattle.std.proofs.Common.{◌≡◌, ◌⊎◌, inl, inr, ℕ, zero, suc, ◌+◌, ◌^◌, ◌<◌, ◌≤◌, max, nat_lt, if◌then◌else◌, Bool, true, false, List, [], ◌∷◌, length, Option, Some, None, refl, sym, ap, subst, arith}
use Rattle.std.proofs.lemmas.Bool.Decides.{leb_tells}
use Rattle.std.proofs.lemmas.Option.{slice_get_within}
use Rattle.std.specs.Prelude.{not, slice_get, slice_set}
use Rattle.base_index.specs.Marks.{IsNext, IsOn}
use Rattle.iface_egress.specs.IdleSlots.{AreIdle, FewAreIdle, IsFirstBusy, IsNextBusy, first_of, is_socket_idle, is_some_idle}
use Rattle.iface_egress.specs.declared.socket_set.SocketStorage.{SocketStorage}

-- what has a mark and isn't on the agenda is off
pub off : (marks : List Bool) (i : ℕ) → i < length marks → (IsOn marks i → ⊥) → slice_get marks i ≡ Some false
off [] i within not_on = absurd (omega (arith, within))
off (true ∷ marks) zero within not_on = absurd (not_on refl)
off (false ∷ marks) zero within not_on = refl
off (x ∷ marks) (suc i) within not_on = off marks i (omega (arith, within)) not_on

module _ {T : Type 0} (idle : T → Bool) (marks : List Bool) (ps : List (SocketStorage T)) (rests : AreIdle idle marks ps) where
  -- slots that are marked, and not on the agenda
  before : (from at : ℕ) → ((i : ℕ) → from ≤ i → i < at → IsOn marks i → ⊥) → at ≤ length marks → (i : ℕ) (slot : SocketStorage T)
      → from ≤ i → i < at → slice_get ps i ≡ Some slot → is_socket_idle idle slot ≡ true
  before from at none within i slot since less got = rests.0 i slot (off marks i (omega (arith, less, within)) (none i since less)) got

  pub next_busy_of : (from : ℕ) (next : Option ℕ) → IsNext from marks next → IsNextBusy idle from ps (first_of next from (length marks) (length ps))
  next_busy_of from (Some at) is =
      (is.0, omega (arith, is.1, rests.1), before from at is.2 (omega (arith, is.1)))
  next_busy_of from None is = by (leb_tells (suc (max from (length marks))) (length ps)) where
    within : (i : ℕ) (slot : SocketStorage T) → from ≤ i → i < max from (length marks) → slice_get ps i ≡ Some slot → is_socket_idle idle slot ≡ true
    within i slot since less got = rests.0 i slot (off marks i (omega (arith, since, less)) (is i since)) got

    Chosen : Bool → Type 0
    Chosen b = IsNextBusy idle from ps (if b then Some (max from (length marks)) else None)

    by : ((nat_lt (max from (length marks)) (length ps) ≡ true) × (suc (max from (length marks)) ≤ length ps))
        ⊎ ((nat_lt (max from (length marks)) (length ps) ≡ false) × (length ps < suc (max from (length marks))))
        → Chosen (nat_lt (max from (length marks)) (length ps))
    by (inl less) = subst Chosen (sym less.0) (omega arith, omega (arith, less.1), within)
    by (inr not_less) =
        subst Chosen (sym not_less.0) (λ i slot since got. within i slot since (omega (arith, not_less.1, slice_get_within ps i slot got)) got)

-- the number of a slot after it fits
pub next_fits : {T : Type 0} (idle : T → Bool) (ps : List (SocketStorage T)) (from n : ℕ) (next : Option ℕ) → IsNextBusy idle from ps next
    → length ps ≤ n → n < 2 ^ 64 → (at : ℕ) → next ≡ Some at → at + 1 < 2 ^ 64
next_fits idle ps from n None is few fits at same = absurd (cc)
next_fits idle ps from n (Some x) is few fits at same = let here : x ≡ at = cc in omega (arith, is.1, few, fits, here)

-- nothing lies after the last slot
pub none_following : {T : Type 0} (idle : T → Bool) (ps : List (SocketStorage T)) (from : ℕ) → length ps ≤ from → IsNextBusy idle from ps None
none_following idle ps from following = λ i slot since got. absurd (omega (arith, following, since, slice_get_within ps i slot got))

-- FEW PLACES

pub busy_of_few : {T : Type 0} (idle : T → Bool) (busy : List Bool) (ps : List (SocketStorage T)) (from : ℕ) (next : Option ℕ)
    → FewAreIdle idle busy ps → IsFirstBusy busy from (length ps) next → IsNextBusy idle from ps next
busy_of_few idle busy ps from (Some at) rests is = (is.0, is.1, λ i slot since less got. rests i slot (is.2 i since less) got)
busy_of_few idle busy ps from None rests is = λ i slot since got. rests i slot (is i since (slice_get_within ps i slot got)) got

-- a mark that is set stays where it is, and leaves the others
set_elsewhere : (marks : List Bool) (at i : ℕ) (b : Bool) → slice_get (slice_set marks at b) i ≡ Some false
    → ((i ≡ at) × (b ≡ false)) ⊎ (slice_get marks i ≡ Some false)
set_elsewhere [] at i b is = inr is
set_elsewhere (x ∷ marks) zero zero b is = inl (refl, cc)
set_elsewhere (x ∷ marks) zero (suc i) b is = inr is
set_elsewhere (x ∷ marks) (suc at) zero b is = inr is
set_elsewhere (x ∷ marks) (suc at) (suc i) b is = by (set_elsewhere marks at i b is) where
  by : ((i ≡ at) × (b ≡ false)) ⊎ (slice_get marks i ≡ Some false) → ((suc i ≡ suc at) × (b ≡ false)) ⊎ (slice_get marks i ≡ Some false)
  by (inl here) = inl (ap (λ (n : ℕ). suc n) here.0, here.1)
  by (inr other) = inr other

is_not : (b : Bool) → not b ≡ false → b ≡ true
is_not true is = refl
is_not false is = absurd (cc)

-- a slot isn't busy any more if it is idle
pub few_with : {T : Type 0} (idle : T → Bool) (busy : List Bool) (ps : List (SocketStorage T)) (at : ℕ) → FewAreIdle idle busy ps
    → FewAreIdle idle (slice_set busy at (not (is_some_idle idle (slice_get ps at)))) ps
few_with {T} idle busy ps at rests i slot is got = by (set_elsewhere busy at i (not (is_some_idle idle (slice_get ps at))) is) where
  by : ((i ≡ at) × (not (is_some_idle idle (slice_get ps at)) ≡ false)) ⊎ (slice_get busy i ≡ Some false) → is_socket_idle idle slot ≡ true
  by (inl here) =
      let there : is_some_idle idle (slice_get ps at) ≡ true = is_not (is_some_idle idle (slice_get ps at)) here.1 in
      let same : slice_get ps at ≡ Some slot = subst (λ (n : ℕ). slice_get ps n ≡ Some slot) here.0 got in
      subst (λ (o : Option (SocketStorage T)). is_some_idle idle o ≡ true) same there
  by (inr other) = rests i slot other got

-- where all are busy none has to be idle
none_off : (i : ℕ) → slice_get (true ∷ true ∷ true ∷ true ∷ []) i ≡ Some false → ⊥
none_off zero is = absurd (cc)
none_off (suc zero) is = absurd (cc)
none_off (suc (suc zero)) is = absurd (cc)
none_off (suc (suc (suc zero))) is = absurd (cc)
none_off (suc (suc (suc (suc i)))) is = absurd (cc)

pub few_busy : {T : Type 0} (idle : T → Bool) (ps : List (SocketStorage T)) → FewAreIdle idle (true ∷ true ∷ true ∷ true ∷ []) ps
few_busy idle ps = λ i slot is got. absurd (none_off i is)
