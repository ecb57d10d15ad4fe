-- The runs of a map of held bytes are those that it was made of.
use Rattle.std.proofs.Common.{◌≡◌, ℕ, zero, suc, ◌+◌, ◌<◌, ◌≤◌, true, inl, inr, List, [], ◌∷◌, length, Option, Some, None, arith}
use Rattle.std.specs.Prelude.{◌↔◌}
use Rattle.base_buffer.specs.Assembler.{Holds, AreRuns, AreRunsFrom}
use Rattle.base_buffer.proofs.Runs.{AreRuns-joined, AreRunsFrom-lower, Holds-joined, same_runs}
use Rattle.tcp_theory.specs.ReceiveMap.{store}
use Rattle.tcp_ranges.specs.OutOfOrder.{is_held, map_from, runs_from, runs_of, EndsBy}
use Rattle.tcp_ranges.proofs.Offsets.{is_held-tells, is_held-iff}
use Rattle.std.proofs.lemmas.Bool.{cases_lt}

pub AreRuns-runs_from : (p : ℕ) (map : List (Option ℕ)) → AreRunsFrom p (runs_from p map)
AreRuns-runs_from p [] = tt
AreRuns-runs_from p (None ∷ map) = AreRunsFrom-lower p (suc p) (runs_from (suc p) map) (omega arith) (AreRuns-runs_from (suc p) map)
AreRuns-runs_from p (Some byte ∷ map) =
    AreRuns-joined p (runs_from (suc p) map) p (suc p) (AreRunsFrom-lower p (suc p) (runs_from (suc p) map) (omega arith) (AreRuns-runs_from (suc p) map))
    (omega arith) (omega arith)

-- they hold the held offsets of the bytes
Holds-runs_from : (rs : List (ℕ × ℕ)) (p : ℕ) (xs : List ℕ) (q : ℕ) → Holds (runs_from p (map_from rs p xs)) q ↔ (Holds rs q × ((p ≤ q) × (q < p + length xs)))
Holds-runs_from rs p [] q = (λ h. absurd h, λ h. absurd (omega (arith, h.1.0, h.1.1)))
Holds-runs_from rs p (x ∷ xs) q =
    let rest = Holds-runs_from rs (suc p) xs q in
    elim (is_held-tells rs p) [
      | inl held ↦ rw held.0 (
          let following = runs_from (suc p) (map_from rs (suc p) xs) in
          let both = Holds-joined following (suc p) p (suc p) q (AreRuns-runs_from (suc p) (map_from rs (suc p) xs)) (omega arith) in (
            λ h. elim (both.0 h) [
              | inl y ↦ let there = rest.0 y in (there.0, (omega (arith, there.1.0), omega (arith, there.1.1)))
              | inr z ↦ let same : q ≡ p = omega (arith, z.0, z.1) in (rw same held.1, (z.0, omega (arith, z.1)))
            ],
            λ h. elim (cases_lt p q) [
              | inl later ↦ both.1 (inl (rest.1 (h.0, (omega arith, omega (arith, h.1.1)))))
              | inr here ↦ both.1 (inr (h.1.0, omega arith))
            ],
          ))
      | inr free ↦ rw free.0 (
        λ h. let there = rest.0 h in (there.0, (omega (arith, there.1.0), omega (arith, there.1.1))),
        λ h. elim (cases_lt p q) [
          | inl later ↦ rest.1 (h.0, (omega arith, omega (arith, h.1.1)))
          | inr here ↦ let same : q ≡ p = omega (arith, h.1.0) in absurd (free.1 (rw same at h.0))
        ],
      )
    ]

-- where all that is held lies within the bytes
pub runs_of-held : (rs : List (ℕ × ℕ)) (free : List ℕ) → AreRuns rs → EndsBy rs (length free) → runs_of (map_from rs 0 free) ≡ rs
runs_of-held rs free runs ends =
    same_runs 0 0 (runs_of (map_from rs 0 free)) rs (AreRuns-runs_from 0 (map_from rs 0 free)) runs (λ q. let both = Holds-runs_from rs 0 free q in
    (λ h. (both.0 h).0, λ h. both.1 (h, (omega arith, omega (arith, ends q h)))))

-- the first of the bytes that are stored is held, where there is space at its offset
Holds-store : (p : ℕ) (map : List (Option ℕ)) (at byte : ℕ) (bytes : List ℕ) (q : ℕ) → q ≡ p + at → at < length map →
    Holds (runs_from p (store map at (byte ∷ bytes))) q
Holds-store p [] at byte bytes q e lt = absurd (omega (arith, lt))
Holds-store p (x ∷ map) zero byte bytes q e lt =
    (Holds-joined (runs_from (suc p) (store map zero bytes)) (suc p) p (suc p) q (AreRuns-runs_from (suc p) (store map zero bytes)) (omega arith)).1
    (inr (omega arith, omega arith))
Holds-store p (None ∷ map) (suc at) byte bytes q e lt = Holds-store (suc p) map at byte bytes q (omega arith) (omega arith)
Holds-store p (Some x ∷ map) (suc at) byte bytes q e lt =
    let rest = store map at (byte ∷ bytes) in
    (Holds-joined (runs_from (suc p) rest) (suc p) p (suc p) q (AreRuns-runs_from (suc p) rest) (omega arith)).1
    (inl (Holds-store (suc p) map at byte bytes q (omega arith) (omega arith)))

pub is_held-store : (map : List (Option ℕ)) (at byte : ℕ) (bytes : List ℕ) → at < length map → is_held (runs_of (store map at (byte ∷ bytes))) at ≡ true
is_held-store map at byte bytes lt =
    (is_held-iff (runs_of (store map at (byte ∷ bytes))) at).1 (Holds-store 0 map at byte bytes at (omega arith) lt)
