-- What stands at a place of the receive map, and of lists that are made of others.
use Rattle.std.proofs.Common.{◌≡◌, ◌⊎◌, inl, inr, ℕ, zero, suc, ◌+◌, ◌<◌, List, [], ◌∷◌, ◌++◌, Option, Some, None, length, drop, slice_get, refl, ap, subst}
use Rattle.std.proofs.Common.{arith}
use Rattle.tcp_theory.specs.ReceiveMap.{space, store, front, following}

pub slice_get-drop : {X : Type 0} (k : ℕ) (xs : List X) (j : ℕ) (x : X) → slice_get (drop k xs) j ≡ Some x → slice_get xs (k + j) ≡ Some x
slice_get-drop {X = X} k xs j x e = at k (k + j) xs refl e where
  at : (k i : ℕ) (xs : List X) → i ≡ k + j → slice_get (drop k xs) j ≡ Some x → slice_get xs i ≡ Some x
  at zero i xs same e = let this : j ≡ i = omega arith in subst (λ (n : ℕ). slice_get xs n ≡ Some x) this e
  at (suc k) i [] same e = absurd (cc)
  at (suc k) zero (y ∷ xs) same e = absurd (omega arith)
  at (suc k) (suc i) (y ∷ xs) same e = at k i xs (omega arith) e

-- it stands in the first list, or so far into the second
pub record IsInSecond {X : Type 0} (xs ys : List X) (i : ℕ) (x : X) : Type 0 where
  pub offset : ℕ
  pub stands : slice_get ys offset ≡ Some x
  pub index : i ≡ length xs + offset

pub slice_get-append : {X : Type 0} (xs ys : List X) (i : ℕ) (x : X) → slice_get (xs ++ ys) i ≡ Some x → (slice_get xs i ≡ Some x) ⊎ IsInSecond xs ys i x
slice_get-append [] ys i x e = inr (record { offset = i; stands = e; index = omega arith })
slice_get-append (y ∷ xs) ys zero x e = inl e
slice_get-append (y ∷ xs) ys (suc i) x e = next (slice_get-append xs ys i x e) where
  next : (slice_get xs i ≡ Some x) ⊎ IsInSecond xs ys i x → (slice_get xs i ≡ Some x) ⊎ IsInSecond (y ∷ xs) ys (suc i) x
  next (inl first) = inl first
  next (inr second) = let index = second.index in inr (record { offset = second.offset; stands = second.stands; index = omega arith })

pub space-empty : (n m byte : ℕ) → slice_get (space n) m ≡ Some (Some byte) → ⊥
space-empty zero m byte e = absurd (cc)
space-empty (suc n) zero byte e = absurd (cc)
space-empty (suc n) (suc m) byte e = space-empty n m byte e

pub held-room : (map : List (Option ℕ)) (n m byte : ℕ) → slice_get (map ++ space n) m ≡ Some (Some byte) → slice_get map m ≡ Some (Some byte)
held-room map n m byte e = by (slice_get-append map (space n) m (Some byte) e) where
  by : (slice_get map m ≡ Some (Some byte)) ⊎ IsInSecond map (space n) m (Some byte) → slice_get map m ≡ Some (Some byte)
  by (inl first) = first
  by (inr second) = absurd (space-empty n second.offset byte second.stands)

-- a byte of those that were laid over the map
pub record IsLaid (map : List (Option ℕ)) (offset : ℕ) (bytes : List ℕ) (m byte : ℕ) : Type 0 where
  pub index : ℕ
  pub stands : slice_get bytes index ≡ Some byte
  pub there : m ≡ offset + index
  pub inside : m < length map

pub held-store : (map : List (Option ℕ)) (offset : ℕ) (bytes : List ℕ) (m byte : ℕ) → slice_get (store map offset bytes) m ≡ Some (Some byte) →
    (slice_get map m ≡ Some (Some byte)) ⊎ IsLaid map offset bytes m byte
held-store [] offset bytes m byte e = absurd (cc)
held-store (entry ∷ map) (suc offset) bytes zero byte e = inl e
held-store (entry ∷ map) (suc offset) bytes (suc m) byte e = next (held-store map offset bytes m byte e) where
  next : (slice_get map m ≡ Some (Some byte)) ⊎ IsLaid map offset bytes m byte → (slice_get map m ≡ Some (Some byte)) ⊎
      IsLaid (entry ∷ map) (suc offset) bytes (suc m) byte
  next (inl old) = inl old
  next (inr l) = let there = l.there in let inside = l.inside in inr (record { index = l.index; stands = l.stands; there = omega arith; inside = omega arith })
held-store (entry ∷ map) zero [] m byte e = inl e
held-store (entry ∷ map) zero (b ∷ bytes) zero byte e = let same : b ≡ byte =
    cc in inr (record { index = 0; stands = ap Some same; there = refl; inside = omega arith })
held-store (entry ∷ map) zero (b ∷ bytes) (suc m) byte e = next (held-store map zero bytes m byte e) where
  next : (slice_get map m ≡ Some (Some byte)) ⊎ IsLaid map zero bytes m byte → (slice_get map m ≡ Some (Some byte)) ⊎
      IsLaid (entry ∷ map) zero (b ∷ bytes) (suc m) byte
  next (inl old) = inl old
  next (inr l) = let there = l.there in let inside =
      l.inside in inr (record { index = suc l.index; stands = l.stands; there = omega arith; inside = omega arith })

pub held-front : (map : List (Option ℕ)) (i byte : ℕ) → slice_get (front map) i ≡ Some byte → slice_get map i ≡ Some (Some byte)
held-front [] i byte e = absurd (cc)
held-front (None ∷ map) i byte e = absurd (cc)
held-front (Some b ∷ map) zero byte e = let same : b ≡ byte = cc in ap (λ (x : ℕ). Some (Some x)) same
held-front (Some b ∷ map) (suc i) byte e = held-front map i byte e

pub held-following : (map : List (Option ℕ)) (m n byte : ℕ) → n ≡ length (front map) + m → slice_get (following map) m ≡ Some (Some byte) →
    slice_get map n ≡ Some (Some byte)
held-following [] m n byte same e = absurd (cc)
held-following (None ∷ map) m n byte same e = let this : m ≡ n =
    omega arith in subst (λ (k : ℕ). slice_get {X = Option ℕ} (None ∷ map) k ≡ Some (Some byte)) this e
held-following (Some b ∷ map) m zero byte same e = absurd (omega arith)
held-following (Some b ∷ map) m (suc n) byte same e = held-following map m n byte (omega arith) e
