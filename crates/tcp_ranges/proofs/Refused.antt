-- Bytes whose offsets would make a run too many meet nothing that is held, so whether they are laid down doesn't count.
use Rattle.std.proofs.Common.{◌≡◌, ℕ, zero, suc, ◌+◌, ◌<◌, ◌≤◌, ◌⊎◌, inl, inr, List, [], ◌∷◌, length, slice_get, refl, arith, min, max}
use Rattle.std.proofs.lemmas.Bool.Decides.{eqb_tells}
use Rattle.std.proofs.lemmas.Bool.{cases_lt}
use Rattle.base_buffer.specs.Assembler.{Holds, AreRuns, AreRunsFrom, joined, added}
use Rattle.base_buffer.proofs.Runs.{joined-cases, length-joined}
use Rattle.tcp_ranges.specs.OutOfOrder.{map_from, overlay}
use Rattle.tcp_ranges.proofs.Offsets.{map_from-unmarked, above}
use Rattle.tcp_ranges.proofs.Storing.{length-overlay}

-- where joining positions makes a run more, none of them was held
joined-apart : (low : ℕ) (rs : List (ℕ × ℕ)) (start end p : ℕ) → AreRunsFrom low rs → length rs < length (joined rs start end) → Holds rs p →
    (p < start) ⊎ (end ≤ p)
joined-apart low [] start end p runs more h = absurd h
joined-apart low (r ∷ rs) start end p runs more h = elim (joined-cases r rs start end) [
  | inl a ↦ elim h [
    | inl y ↦ inl (omega (arith, y.1, a.0))
    | inr z ↦ joined-apart (r.1 + 1) rs start end p runs.2 (let more' = rw a.1 at more in omega (arith, more')) z
  ]
  | inr o ↦ elim o [
    | inl b ↦ inr (elim h [ inl y ↦ omega (arith, y.0, b.1) | inr z ↦ omega (arith, above (r.1 + 1) rs p runs.2 z, runs.1, b.1) ])
    | inr c ↦ absurd (let more' = rw c.2 at more in omega (arith, more', length-joined rs (min r.0 start) (max r.1 end)))
  ]
]

pub added-apart : (rs : List (ℕ × ℕ)) (at size p : ℕ) → AreRuns rs → length rs < length (added rs at size) → Holds rs p → (p < at) ⊎ (at + size ≤ p)
added-apart rs at size p runs more h = elim (eqb_tells size 0) [
  | inl none ↦ elim (cases_lt p at) [ inl before ↦ inl before | inr from ↦ inr (omega (arith, none.1)) ]
  | inr some ↦ joined-apart 0 rs at (at + size) p runs (rw some.0 at more) h
]

-- other offsets keep their byte
overlay-elsewhere : (xs : List ℕ) (at : ℕ) (bytes : List ℕ) (k : ℕ) → (k < at) ⊎ (at + length bytes ≤ k) → slice_get (overlay xs at bytes) k ≡ slice_get xs k
overlay-elsewhere [] at bytes k way = refl
overlay-elsewhere (x ∷ xs) (suc at) bytes zero way = refl
overlay-elsewhere (x ∷ xs) (suc at) bytes (suc k) way = overlay-elsewhere xs at bytes k (elim way [ inl y ↦ inl (omega arith) | inr z ↦ inr (omega arith) ])
overlay-elsewhere (x ∷ xs) zero [] k way = refl
overlay-elsewhere (x ∷ xs) zero (byte ∷ bytes) zero way = absurd (elim way [ inl y ↦ omega arith | inr z ↦ omega arith ])
overlay-elsewhere (x ∷ xs) zero (byte ∷ bytes) (suc k) way =
    overlay-elsewhere xs zero bytes k (elim way [ inl y ↦ absurd (omega arith) | inr z ↦ inr (omega arith) ])

-- bytes at offsets that aren't held
pub map_from-elsewhere : (rs : List (ℕ × ℕ)) (free : List ℕ) (at : ℕ) (bytes : List ℕ) → ((p : ℕ) → Holds rs p → (p < at) ⊎ (at + length bytes ≤ p)) →
    map_from rs 0 (overlay free at bytes) ≡ map_from rs 0 free
map_from-elsewhere rs free at bytes apart =
    map_from-unmarked rs 0 (overlay free at bytes) free (length-overlay free at bytes) (λ k i e h.
    let same : i ≡ k = omega arith in
    overlay-elsewhere free at bytes k (apart k (rw same at h)))

pub map_from-refused : (rs : List (ℕ × ℕ)) (free : List ℕ) (at : ℕ) (bytes : List ℕ) → AreRuns rs → length rs < length (added rs at (length bytes)) →
    map_from rs 0 (overlay free at bytes) ≡ map_from rs 0 free
map_from-refused rs free at bytes runs more =
    map_from-elsewhere rs free at bytes (λ p h. added-apart rs at (length bytes) p runs more h)
