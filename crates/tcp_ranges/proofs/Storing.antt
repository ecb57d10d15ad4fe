-- Storing bytes: laid over the free ones, with their offsets added to the runs.
use Rattle.std.proofs.Common.{◌≡◌, ℕ, zero, suc, ◌+◌, ◌-◌, ◌<◌, ◌≤◌, ◌⊎◌, inl, inr, List, [], ◌∷◌, ◌++◌, length, take, drop, Option, Some, refl, sym, ap, ap₂}
use Rattle.std.proofs.Common.{◌∙◌, arith}
use Rattle.std.specs.Prelude.{◌↔◌}
use Rattle.base_buffer.specs.Assembler.{Holds, AreRuns, IsUnion, added}
use Rattle.base_buffer.specs.Ring.{Ring, overwritten}
use Rattle.base_buffer.proofs.Runs.{added-IsUnion}
use Rattle.tcp_theory.specs.ReceiveMap.{store}
use Rattle.tcp_ranges.specs.OutOfOrder.{map_from, overlay, EndsBy}
use Rattle.tcp_ranges.proofs.Offsets.{entry-held, entry-same, map_from-same}

-- Runs `new` hold what `old` hold and the offsets of the bytes, as far as the free bytes go.
pub map_from-store : (old new : List (ℕ × ℕ)) (p at : ℕ) (free bytes : List ℕ) →
    ((k i : ℕ) → k < length free → i ≡ p + k → Holds new i ↔ (Holds old i ⊎ ((at ≤ k) × (k < at + length bytes)))) →
    store (map_from old p free) at bytes ≡ map_from new p (overlay free at bytes)
map_from-store old new p at [] bytes h = refl
map_from-store old new p (suc at) (x ∷ xs) bytes h =
    let here = h 0 p (omega arith) (omega arith) in
    let first = entry-same old new p p x (λ held. here.1 (inl held), λ held. elim (here.0 held) [ inl y ↦ y | inr z ↦ absurd (omega (arith, z.0)) ]) in
    ap₂ ◌∷◌ first (map_from-store old new (suc p) at xs bytes (λ k i lt e.
    let next = h (suc k) i (omega arith) (omega arith) in (
      λ held. elim (next.0 held) [ inl y ↦ inl y | inr z ↦ inr (omega (arith, z.0), omega (arith, z.1)) ],
      λ way. next.1 (elim way [ inl y ↦ inl y | inr z ↦ inr (omega (arith, z.0), omega (arith, z.1)) ]),
    )))
map_from-store old new p zero (x ∷ xs) [] h =
    map_from-same old new p p (x ∷ xs) (λ k i j lt a b. let e : i ≡ j = omega arith in rw e (
    let here = h k j lt b in
    (λ held. here.1 (inl held), λ held. elim (here.0 held) [ inl y ↦ y | inr z ↦ absurd (omega (arith, z.0, z.1)) ])
    ))
map_from-store old new p zero (x ∷ xs) (byte ∷ bytes) h =
    let here = (h 0 p (omega arith) (omega arith)).1 (inr (omega arith, omega arith)) in
    ap₂ ◌∷◌ (sym (entry-held new p byte here)) (map_from-store old new (suc p) zero xs bytes (λ k i lt e.
    let next = h (suc k) i (omega arith) (omega arith) in (
      λ held. elim (next.0 held) [ inl y ↦ inl y | inr z ↦ inr (omega arith, omega (arith, z.1)) ],
      λ way. next.1 (elim way [ inl y ↦ inl y | inr z ↦ inr (omega arith, omega (arith, z.1)) ]),
    )))

pub overlay-nothing : (free : List ℕ) (at : ℕ) → overlay free at [] ≡ free
overlay-nothing [] at = refl
overlay-nothing (x ∷ xs) zero = refl
overlay-nothing (x ∷ xs) (suc at) = ap (λ (rest : List ℕ). x ∷ rest) (overlay-nothing xs at)

pub length-overlay : (free : List ℕ) (at : ℕ) (bytes : List ℕ) → length (overlay free at bytes) ≡ length free
length-overlay [] at bytes = refl
length-overlay (x ∷ xs) (suc at) bytes = ap suc (length-overlay xs at bytes)
length-overlay (x ∷ xs) zero [] = refl
length-overlay (x ∷ xs) zero (byte ∷ bytes) = ap suc (length-overlay xs zero bytes)

-- laid over others whole, as a buffer is written to
pub overlay-spliced : (free : List ℕ) (at : ℕ) (bytes : List ℕ) → at + length bytes ≤ length free →
    overlay free at bytes ≡ take at free ++ (bytes ++ drop (at + length bytes) free)
overlay-spliced [] zero [] fits = refl
overlay-spliced [] zero (byte ∷ bytes) fits = absurd (omega arith)
overlay-spliced [] (suc at) bytes fits = absurd (omega arith)
overlay-spliced (x ∷ xs) (suc at) bytes fits =
    let e : suc at + length bytes ≡ suc (at + length bytes) = omega arith in
    rw e (ap (λ (rest : List ℕ). x ∷ rest) (overlay-spliced xs at bytes (omega arith)))
overlay-spliced (x ∷ xs) zero [] fits = refl
overlay-spliced (x ∷ xs) zero (byte ∷ bytes) fits =
    let e : 0 + suc (length bytes) ≡ suc (0 + length bytes) = omega arith in
    rw e (ap (λ (rest : List ℕ). byte ∷ rest) (overlay-spliced xs zero bytes (omega arith)))

-- the same of a ring whose free elements are written to
pub overlay-overwritten : (r : Ring ℕ) (at : ℕ) (bytes : List ℕ) → at + length bytes ≤ length r.free → (overwritten r at bytes).free ≡ overlay r.free at bytes
overlay-overwritten r at bytes fits = sym (overlay-spliced r.free at bytes fits)

-- what lies past the end of a map isn't stored
pub store-cut : (map : List (Option ℕ)) (at : ℕ) (bytes : List ℕ) → store map at bytes ≡ store map at (take (length map - at) bytes)
store-cut [] at bytes = refl
store-cut (x ∷ map) (suc at) bytes =
    let e : suc (length map) - suc at ≡ length map - at = omega arith in
    rw e (ap (λ (rest : List (Option ℕ)). x ∷ rest) (store-cut map at bytes))
store-cut (x ∷ map) zero [] =
    let e : suc (length map) - 0 ≡ suc (length map) = omega arith in
    rw e refl
store-cut (x ∷ map) zero (byte ∷ bytes) =
    let e : length map - 0 ≡ length map = omega arith in
    let e' : suc (length map) - 0 ≡ suc (length map) = omega arith in
    rw e' (ap (λ (rest : List (Option ℕ)). Some byte ∷ rest) (store-cut map zero bytes ∙ ap (λ (n : ℕ). store map zero (take n bytes)) e))

-- storing with the runs of a union
pub held-store : (old : List (ℕ × ℕ)) (at : ℕ) (free bytes : List ℕ) (new : List (ℕ × ℕ)) → IsUnion old at (length bytes) new →
    store (map_from old 0 free) at bytes ≡ map_from new 0 (overlay free at bytes)
held-store old at free bytes new union =
    map_from-store old new 0 at free bytes (λ k i lt e.
    let here = union.holds i in (
      λ held. elim (here.0 held) [ inl y ↦ inl y | inr z ↦ inr (omega (arith, z.0), omega (arith, z.1)) ],
      λ way. here.1 (elim way [ inl y ↦ inl y | inr z ↦ inr (omega (arith, z.0), omega (arith, z.1)) ]),
    ))

pub held-added : (old : List (ℕ × ℕ)) (at : ℕ) (free bytes : List ℕ) → AreRuns old →
    store (map_from old 0 free) at bytes ≡ map_from (added old at (length bytes)) 0 (overlay free at bytes)
held-added old at free bytes runs = held-store old at free bytes (added old at (length bytes)) (added-IsUnion old at (length bytes) runs)

-- nothing is held past the free bytes then either
pub EndsBy-union : (old : List (ℕ × ℕ)) (at size end : ℕ) (new : List (ℕ × ℕ)) → IsUnion old at size new → EndsBy old end → at + size ≤ end → EndsBy new end
EndsBy-union old at size end new union ends fits = λ p held. elim ((union.holds p).0 held) [ inl y ↦ ends p y | inr z ↦ omega (arith, z.1) ]
