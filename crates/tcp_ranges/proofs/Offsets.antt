-- Lemmas on the offsets that are held, and on the map of bytes at them.
use Rattle.std.proofs.Common.{◌≡◌, ℕ, suc, ◌+◌, ◌<◌, ◌≤◌, ◌⊎◌, inl, inr, Bool, true, false, List, [], ◌∷◌, ◌++◌, length, Option, Some, None, slice_get, refl}
use Rattle.std.proofs.Common.{sym, ap, ap₂, ◌∙◌, arith}
use Rattle.std.specs.Prelude.{◌↔◌, nat_le, nat_lt, ◌&&◌, if◌then◌else◌}
use Rattle.std.proofs.lemmas.Bool.{cases_lt, le-leb, lt-leb, lt-ltb, le-ltb, and_from, and_left, and_right, or_left, or_right, or_from}
use Rattle.base_buffer.specs.Assembler.{Holds, AreRunsFrom}
use Rattle.tcp_theory.specs.ReceiveMap.{space}
use Rattle.tcp_ranges.specs.OutOfOrder.{is_held, map_from, EndsBy}

-- nothing is held below the first run
pub above : (low : ℕ) (rs : List (ℕ × ℕ)) (p : ℕ) → AreRunsFrom low rs → Holds rs p → low ≤ p
above low [] p h x = absurd x
above low (r ∷ rs) p h x = elim x [
  | inl y ↦ omega (arith, y.0, h.0)
  | inr z ↦ omega (arith, above (r.1 + 1) rs p h.2 z, h.0, h.1)
]

run_tells : (r : ℕ × ℕ) (p : ℕ) → (((nat_le r.0 p && nat_lt p r.1) ≡ true) × ((r.0 ≤ p) × (p < r.1))) ⊎
    (((nat_le r.0 p && nat_lt p r.1) ≡ false) × ((r.0 ≤ p) × (p < r.1) → ⊥))
run_tells r p = elim (cases_lt p r.0) [
  | inl before ↦ inr (and_left (nat_le r.0 p) (nat_lt p r.1) (lt-leb r.0 p before), λ h. absurd (omega (arith, h.0)))
  | inr from ↦ elim (cases_lt p r.1) [
    | inl within ↦ inl (and_from (nat_le r.0 p) (nat_lt p r.1) (le-leb r.0 p from) (lt-ltb p r.1 within), (from, within))
    | inr past ↦ inr (and_right (nat_le r.0 p) (nat_lt p r.1) (le-ltb p r.1 past), λ h. absurd (omega (arith, h.1)))
  ]
]

-- the test says whether an offset is held
pub is_held-tells : (rs : List (ℕ × ℕ)) (p : ℕ) → ((is_held rs p ≡ true) × Holds rs p) ⊎ ((is_held rs p ≡ false) × (Holds rs p → ⊥))
is_held-tells [] p = inr (refl, λ h. h)
is_held-tells (r ∷ rs) p = elim (run_tells r p) [
  | inl here ↦ inl (or_left (nat_le r.0 p && nat_lt p r.1) (is_held rs p) here.0, inl here.1)
  | inr other ↦ elim (is_held-tells rs p) [
    | inl there ↦ inl (or_right (nat_le r.0 p && nat_lt p r.1) (is_held rs p) there.0, inr there.1)
    | inr none ↦ inr (or_from (nat_le r.0 p && nat_lt p r.1) (is_held rs p) other.0 none.0, λ h. elim h [ inl x ↦ other.1 x | inr y ↦ none.1 y ])
  ]
]

pub is_held-iff : (rs : List (ℕ × ℕ)) (p : ℕ) → (is_held rs p ≡ true) ↔ Holds rs p
is_held-iff rs p = elim (is_held-tells rs p) [
  | inl held ↦ (λ _. held.1, λ _. held.0)
  | inr free ↦ (λ e. absurd (let clash : true ≡ false = sym e ∙ free.0 in cc), λ h. absurd (free.1 h))
]

pub entry-held : (rs : List (ℕ × ℕ)) (p byte : ℕ) → Holds rs p → (if is_held rs p then Some byte else None) ≡ Some byte
entry-held rs p byte h = ap (λ (t : Bool). if t then Some byte else None) ((is_held-iff rs p).1 h)

pub entry-none : (rs : List (ℕ × ℕ)) (p byte : ℕ) → (Holds rs p → ⊥) → (if is_held rs p then Some byte else None) ≡ None
entry-none rs p byte h = elim (is_held-tells rs p) [
  | inl held ↦ absurd (h held.1)
  | inr free ↦ ap (λ (t : Bool). if t then Some byte else None) free.0
]

is_held-same : (rs ss : List (ℕ × ℕ)) (p q : ℕ) → Holds rs p ↔ Holds ss q → is_held rs p ≡ is_held ss q
is_held-same rs ss p q h = elim (is_held-tells rs p) [
  | inl held ↦ held.0 ∙ sym ((is_held-iff ss q).1 (h.0 held.1))
  | inr free ↦ elim (is_held-tells ss q) [
    | inl held ↦ absurd (free.1 (h.1 held.1))
    | inr none ↦ free.0 ∙ sym none.0
  ]
]

pub entry-same : (rs ss : List (ℕ × ℕ)) (p q byte : ℕ) → Holds rs p ↔ Holds ss q →
    (if is_held rs p then Some byte else None) ≡ (if is_held ss q then Some byte else None)
entry-same rs ss p q byte h = ap (λ (t : Bool). if t then Some byte else None) (is_held-same rs ss p q h)

-- runs that hold the same offsets of the bytes make the same map, also where one set is moved against the other
pub map_from-same : (rs ss : List (ℕ × ℕ)) (p q : ℕ) (xs : List ℕ) → ((k i j : ℕ) → k < length xs → i ≡ p + k → j ≡ q + k → Holds rs i ↔ Holds ss j) →
    map_from rs p xs ≡ map_from ss q xs
map_from-same rs ss p q [] h = refl
map_from-same rs ss p q (x ∷ xs) h =
    ap₂ ◌∷◌ (entry-same rs ss p q x (h 0 p q (omega arith) (omega arith) (omega arith)))
    (map_from-same rs ss (suc p) (suc q) xs (λ k i j lt a b. h (suc k) i j (omega arith) (omega arith) (omega arith)))

pub length-map_from : (rs : List (ℕ × ℕ)) (p : ℕ) (xs : List ℕ) → length (map_from rs p xs) ≡ length xs
length-map_from rs p [] = refl
length-map_from rs p (x ∷ xs) = ap suc (length-map_from rs (suc p) xs)

pub map_from-append : (rs : List (ℕ × ℕ)) (p : ℕ) (xs ys : List ℕ) → map_from rs p (xs ++ ys) ≡ map_from rs p xs ++ map_from rs (p + length xs) ys
map_from-append rs p [] ys = ap (λ (n : ℕ). map_from rs n ys) (omega arith)
map_from-append rs p (x ∷ xs) ys =
    let e : suc p + length xs ≡ p + suc (length xs) = omega arith in
    ap (λ (rest : List (Option ℕ)). (if is_held rs p then Some x else None) ∷ rest) (map_from-append rs (suc p) xs ys ∙
    ap (λ (n : ℕ). map_from rs (suc p) xs ++ map_from rs n ys) e)

-- where nothing is held, the map is free space
pub map_from-space : (rs : List (ℕ × ℕ)) (p : ℕ) (xs : List ℕ) → EndsBy rs p → map_from rs p xs ≡ space (length xs)
map_from-space rs p [] ends = refl
map_from-space rs p (x ∷ xs) ends =
    let none = entry-none rs p x (λ h. absurd (omega (arith, ends p h))) in
    ap₂ ◌∷◌ none (map_from-space rs (suc p) xs (λ q h. omega (arith, ends q h)))

-- free space after what is held
pub map_from-more : (rs : List (ℕ × ℕ)) (xs more : List ℕ) → EndsBy rs (length xs) → map_from rs 0 (xs ++ more) ≡ map_from rs 0 xs ++ space (length more)
map_from-more rs xs more ends =
    let z : 0 + length xs ≡ length xs = omega arith in
    map_from-append rs 0 xs more ∙ ap (λ (n : ℕ). map_from rs 0 xs ++ map_from rs n more) z ∙
    ap (λ (map : List (Option ℕ)). map_from rs 0 xs ++ map) (map_from-space rs (length xs) more ends)

-- bytes at offsets that aren't held don't count
pub map_from-unmarked : (rs : List (ℕ × ℕ)) (p : ℕ) (xs ys : List ℕ) → length xs ≡ length ys →
    ((k i : ℕ) → i ≡ p + k → Holds rs i → slice_get xs k ≡ slice_get ys k) → map_from rs p xs ≡ map_from rs p ys
map_from-unmarked rs p [] [] same h = refl
map_from-unmarked rs p [] (y ∷ ys) same h = absurd (omega arith)
map_from-unmarked rs p (x ∷ xs) [] same h = absurd (omega arith)
map_from-unmarked rs p (x ∷ xs) (y ∷ ys) same h =
    ap₂ ◌∷◌ first (map_from-unmarked rs (suc p) xs ys (omega arith) (λ k i e held. h (suc k) i (omega arith) held)) where
      first : (if is_held rs p then Some x else None) ≡ (if is_held rs p then Some y else None)
      first = elim (is_held-tells rs p) [
        | inl held ↦ let e : Some x ≡ Some y = h 0 p (omega arith) held.1 in entry-held rs p x held.1 ∙ e ∙ sym (entry-held rs p y held.1)
        | inr free ↦ entry-none rs p x free.1 ∙ sym (entry-none rs p y free.1)
      ]
