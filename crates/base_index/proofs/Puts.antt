-- What stands where after an item was put at a slot.
use Rattle.std.proofs.Common.{◌≡◌, ◌≢◌, ℕ, zero, suc, ◌<◌, ◌≤◌, max, List, [], ◌∷◌, ◌++◌, length, Some, refl, ap, arith}
use Rattle.std.specs.Prelude.{slice_get, slice_set, get_or}
use Rattle.base_index.specs.Put.{put}

module _ {X : Type 0} where
  pub put_within : (ys : List X) (at : ℕ) (x : X) → at < length ys → slice_set ys at x ≡ put at x ys
  put_within [] at x within = absurd (omega (arith, within))
  put_within (y ∷ ys) zero x within = refl
  put_within (y ∷ ys) (suc at) x within = ap (λ (zs : List X). y ∷ zs) (put_within ys at x (omega (arith, within)))

  pub put_following : (ys : List X) (x : X) → ys ++ x ∷ [] ≡ put (length ys) x ys
  put_following [] x = refl
  put_following (y ∷ ys) x = ap (λ (zs : List X). y ∷ zs) (put_following ys x)

  pub put_more : (ys : List X) (z x : X) → slice_set (ys ++ z ∷ []) (length ys) x ≡ ys ++ x ∷ []
  put_more [] z x = refl
  put_more (y ∷ ys) z x = ap (λ (zs : List X). y ∷ zs) (put_more ys z x)

  pub set_beyond : (ys : List X) (at : ℕ) (x : X) → length ys ≤ at → slice_set ys at x ≡ ys
  set_beyond [] at x beyond = refl
  set_beyond (y ∷ ys) zero x beyond = absurd (omega (arith, beyond))
  set_beyond (y ∷ ys) (suc at) x beyond = ap (λ (zs : List X). y ∷ zs) (set_beyond ys at x (omega (arith, beyond)))

  -- what stands there already
  pub put_same : (ys : List X) (at : ℕ) (x d : X) → at < length ys → get_or ys at d ≡ x → put at x ys ≡ ys
  put_same [] at x d within is = absurd (omega (arith, within))
  put_same (y ∷ ys) zero x d within is = let same : x ≡ y = cc in ap (λ (z : X). z ∷ ys) same
  put_same (y ∷ ys) (suc at) x d within is = ap (λ (zs : List X). y ∷ zs) (put_same ys at x d (omega (arith, within)) is)

  pub put_here : (ys : List X) (at : ℕ) (x : X) → at ≤ length ys → slice_get (put at x ys) at ≡ Some x
  put_here [] zero x slot = refl
  put_here [] (suc at) x slot = absurd (omega (arith, slot))
  put_here (y ∷ ys) zero x slot = refl
  put_here (y ∷ ys) (suc at) x slot = put_here ys at x (omega (arith, slot))

  pub put_elsewhere : (ys : List X) (at i : ℕ) (x : X) → i ≢ at → slice_get (put at x ys) i ≡ slice_get ys i
  put_elsewhere [] zero zero x other = absurd (other refl)
  put_elsewhere [] zero (suc i) x other = refl
  put_elsewhere [] (suc at) i x other = refl
  put_elsewhere (y ∷ ys) zero zero x other = absurd (other refl)
  put_elsewhere (y ∷ ys) zero (suc i) x other = refl
  put_elsewhere (y ∷ ys) (suc at) zero x other = refl
  put_elsewhere (y ∷ ys) (suc at) (suc i) x other = put_elsewhere ys at i x (λ same. other (ap suc same))

  pub length_put : (ys : List X) (at : ℕ) (x : X) → length (put at x ys) ≤ max (length ys) (suc at)
  length_put [] zero x = omega arith
  length_put [] (suc at) x = omega arith
  length_put (y ∷ ys) zero x = omega arith
  length_put (y ∷ ys) (suc at) x = let rest : length (put at x ys) ≤ max (length ys) (suc at) = length_put ys at x in omega (arith, rest)
