-- The front of what is held: up to the end of the run at 0 each offset is, and the next one isn't.
use Rattle.std.proofs.Common.{◌≡◌, ℕ, zero, suc, ◌+◌, ◌-◌, ◌<◌, ◌≤◌, inl, inr, List, [], ◌∷◌, length, take, drop, refl, ap, ◌∙◌, arith, length-drop}
use Rattle.std.specs.Prelude.{◌↔◌}
use Rattle.std.proofs.lemmas.Bool.{cases_lt}
use Rattle.std.proofs.lemmas.Bool.Decides.{eqb_tells}
use Rattle.base_buffer.specs.Assembler.{Holds, AreRuns, AreRunsFrom, added, lowered, front, without_front}
use Rattle.base_buffer.proofs.Runs.{added-IsUnion, AreRuns-lowered, AreRunsFrom-lower}
use Rattle.tcp_theory.specs.ReceiveMap as receive
use Rattle.tcp_ranges.specs.OutOfOrder.{map_from, overlay, EndsBy, TakesFront}
use Rattle.tcp_ranges.proofs.Offsets.{above, entry-held, entry-none, map_from-same}
use Rattle.tcp_ranges.proofs.Storing.{held-store, length-overlay, EndsBy-union}

-- n offsets from p on are held, and the next one isn't
pub front-upto : (rs : List (ℕ × ℕ)) (p n : ℕ) (xs : List ℕ) → ((q : ℕ) → p ≤ q → q < p + n → Holds rs q) → (Holds rs (p + n) → ⊥) →
    (receive.front (map_from rs p xs) ≡ take n xs) × (receive.following (map_from rs p xs) ≡ map_from rs (p + n) (drop n xs))
front-upto rs p zero [] h none = (refl, refl)
front-upto rs p (suc n) [] h none = (refl, refl)
front-upto rs p zero (x ∷ xs) h none =
    let z : p + 0 ≡ p = omega arith in
    let none' : Holds rs p → ⊥ = rw z at none in
    rw (z, entry-none rs p x none') (refl, refl)
front-upto rs p (suc n) (x ∷ xs) h none =
    let e : p + suc n ≡ suc p + n = omega arith in
    let none' : Holds rs (suc p + n) → ⊥ = rw e at none in
    let rest = front-upto rs (suc p) n xs (λ q a b. h q (omega arith) (omega arith)) none' in
    rw (e, entry-held rs p x (h p (omega arith) (omega arith))) (ap (λ (ys : List ℕ). x ∷ ys) rest.0, rest.1)

-- runs moved down hold the offsets moved down
pub Holds-lowered : (by low : ℕ) (rs : List (ℕ × ℕ)) (q p : ℕ) → by ≤ low → p ≡ q + by → AreRunsFrom low rs → Holds (lowered by rs) q ↔ Holds rs p
Holds-lowered by low [] q p le e runs = (λ h. h, λ h. h)
Holds-lowered by low (r ∷ rs) q p le e runs =
    let rest = Holds-lowered by (r.1 + 1) rs q p (omega (arith, runs.0, runs.1)) e runs.2 in (
      λ h. elim h [ inl y ↦ inl (omega (arith, y.0), omega (arith, y.1)) | inr z ↦ inr (rest.0 z) ],
      λ h. elim h [ inl y ↦ inl (omega (arith, y.0), omega (arith, y.1, runs.0, runs.1)) | inr z ↦ inr (rest.1 z) ],
    )

-- what a list of runs says of its front
record IsFront (rs : List (ℕ × ℕ)) : Type 0 where
  all : (q : ℕ) → q < front rs → Holds rs q
  none : Holds rs (front rs) → ⊥
  following : (q p : ℕ) → p ≡ q + front rs → Holds (without_front rs) q ↔ Holds rs p
  runs : AreRuns (without_front rs)

is_front : (rs : List (ℕ × ℕ)) → AreRuns rs → IsFront rs
is_front [] runs = record {
  all = λ q lt. absurd (omega arith);
  none = λ h. h;
  following = λ q p e. (λ h. h, λ h. h);
  runs = tt;
}
is_front (r ∷ rs) runs = elim (eqb_tells r.0 0) [
  | inl start ↦ record {
    all = rw start.0 (λ q lt. inl (omega (arith, start.1), lt));
    none = rw start.0 (λ h. elim h [ inl y ↦ absurd (omega (arith, y.1)) | inr z ↦ absurd (omega (arith, above (r.1 + 1) rs r.1 runs.2 z)) ]);
    following = rw start.0 (λ q p e.
        let rest = Holds-lowered r.1 (r.1 + 1) rs q p (omega arith) e runs.2 in
        (λ h. inr (rest.0 h), λ h. elim h [ inl y ↦ absurd (omega (arith, y.1)) | inr z ↦ rest.1 z ]));
    runs = rw start.0 (AreRunsFrom-lower 0 (r.1 + 1 - r.1) (lowered r.1 rs) (omega arith) (AreRuns-lowered r.1 (r.1 + 1) rs (omega arith) runs.2));
  }
  | inr later ↦ record {
    all = rw later.0 (λ q lt. absurd (omega arith));
    none = rw later.0 (λ h. elim h [ inl y ↦ absurd (later.1 (omega (arith, y.0))) | inr z ↦ absurd (omega (arith, above (r.1 + 1) rs 0 runs.2 z)) ]);
    following = rw later.0 (λ q p e. let same : p ≡ q = omega arith in rw same (λ h. h, λ h. h));
    runs = rw later.0 runs;
  }
]

pub front-held : (rs : List (ℕ × ℕ)) (free : List ℕ) → AreRuns rs → receive.front (map_from rs 0 free) ≡ take (front rs) free
front-held rs free runs =
    let f = is_front rs runs in
    let z : 0 + front rs ≡ front rs = omega arith in
    (front-upto rs 0 (front rs) free (λ q a b. f.all q (omega arith)) (rw z f.none)).0

pub following-held : (rs : List (ℕ × ℕ)) (free : List ℕ) → AreRuns rs → receive.following (map_from rs 0 free) ≡ map_from (without_front rs) 0 (drop (front rs) free)
following-held rs free runs =
    let f = is_front rs runs in
    let z : 0 + front rs ≡ front rs = omega arith in
    (front-upto rs 0 (front rs) free (λ q a b. f.all q (omega arith)) (rw z f.none)).1
    ∙ map_from-same rs (without_front rs) (0 + front rs) 0 (drop (front rs) free) (λ k i j lt a b. let same = f.following j i (omega arith) in (same.1, same.0))

-- nothing is held at the first gap
pub gap-without_front : (rs : List (ℕ × ℕ)) → AreRuns rs → Holds (without_front rs) 0 → ⊥
gap-without_front rs runs h = let f = is_front rs runs in f.none ((f.following 0 (front rs) (omega arith)).0 h)

pub AreRuns-without_front : (rs : List (ℕ × ℕ)) → AreRuns rs → AreRuns (without_front rs)
AreRuns-without_front rs runs = (is_front rs runs).runs

-- the front ends by where all does
pub front-EndsBy : (rs : List (ℕ × ℕ)) (end : ℕ) → AreRuns rs → EndsBy rs end → front rs ≤ end
front-EndsBy rs end runs ends = elim (cases_lt end (front rs)) [
  | inl more ↦ absurd (omega (arith, ends end ((is_front rs runs).all end more)))
  | inr fits ↦ fits
]

pub EndsBy-without_front : (rs : List (ℕ × ℕ)) (end : ℕ) → AreRuns rs → EndsBy rs end → EndsBy (without_front rs) (end - front rs)
EndsBy-without_front rs end runs ends = λ p h.
    let moved = ends (p + front rs) (((is_front rs runs).following p (p + front rs) refl).0 h) in omega arith

-- all that a buffer needs that stores bytes and takes out the front
pub takes_front : (rs : List (ℕ × ℕ)) (free : List ℕ) (at : ℕ) (bytes : List ℕ) → AreRuns rs → EndsBy rs (length free) → at + length bytes ≤ length free →
    TakesFront rs free at bytes (added rs at (length bytes)) (overlay free at bytes)
takes_front rs free at bytes runs ends fits =
    let new = added rs at (length bytes) in
    let laid = overlay free at bytes in
    let union = added-IsUnion rs at (length bytes) runs in
    let same = held-store rs at free bytes new union in
    let size = length-overlay free at bytes in
    let ends' : EndsBy new (length laid) = rw size (EndsBy-union rs at (length bytes) (length free) new union ends fits) in
    record {
      fits = front-EndsBy new (length laid) union.runs ends';
      same_length = size;
      taken = ap receive.front same ∙ front-held new laid union.runs;
      left = ap receive.following same ∙ following-held new laid union.runs;
      runs = AreRuns-without_front new union.runs;
      ends = rw length-drop (EndsBy-without_front new (length laid) union.runs ends');
      gap = gap-without_front new union.runs;
    }
