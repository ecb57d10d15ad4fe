-- Lemmas on how an assembler keeps its runs: those in its first pairs, and unused pairs after them.
use Rattle.std.proofs.Common.{get_or, length-append, append_assoc, zero, suc, set, subst, ◌≡◌, ℕ, ◌+◌, ◌-◌, ◌<◌, ◌≤◌, List, [], ◌∷◌, ◌++◌, length, take, drop}
use Rattle.std.proofs.Common.{replicate, min, max, refl, sym, ap, ap₂, ◌∙◌, inl, inr, arith}
use Rattle.std.specs.Prelude.{nat_lt}
use Rattle.std.proofs.lemmas.Bool.{lt-ltb, le-ltb, le-leb, lt-leb, cases_lt}
use borrow.Rule.Slice.PartMut.{put_mid}
use Rattle.std.proofs.lemmas.Bool.Decides.{eqb_tells}
use Rattle.std.proofs.lemmas.List.{append-nil, length-map, drop_all, take_rest, set_at, replicate_more, take-append-drop, length-take-le, length-drop}
use Rattle.std.proofs.lemmas.List.{length-replicate, take_at, drop_at, take_more_set, take-append-le, drop-append-le, drop-set-lt, take-replicate}
use Rattle.std.proofs.lemmas.List.{replicate-append-replicate, drop_more}
use Rattle.std.proofs.lemmas.List.Sums.{prefix_len-le-length}
use Rattle.std.proofs.Math.Seq.{take-append-add}
use Rattle.base_buffer.specs.Assembler.{AreRuns, AreRunsFrom, joined, front, lowered, without_front}
use Rattle.base_buffer.specs.Contigs.{AreKept, ended, begun}
use Rattle.base_buffer.proofs.Runs.{joined-cases, AreRunsFrom-lower, AreRuns-joined, AreRuns-lowered}

-- the pairs are the runs and the unused ones after them
pub kept-is : (room count : ℕ) (cs : List (ℕ × ℕ)) → AreKept room count cs → cs ≡ take count cs ++ replicate (room - count) (0, 0)
kept-is room count cs h = sym (take-append-drop count cs) ∙ ap (λ ds. take count cs ++ ds) h.unused

pub length-kept : (room count : ℕ) (cs : List (ℕ × ℕ)) → AreKept room count cs → length (take count cs) ≡ count
length-kept room count cs h = length-take-le count cs (omega (arith, h.positions, h.within))

-- runs with unused pairs after them are kept
pub keep : (room count : ℕ) (rs cs : List (ℕ × ℕ)) → 1 ≤ room → count ≤ room → length rs ≡ count → AreRuns rs → cs ≡ rs ++ replicate (room - count) (0, 0) →
    AreKept room count cs × (take count cs ≡ rs)
keep room count rs cs some within len runs is =
    let front : take count cs ≡ rs = ap (λ ds. take count ds) is ∙ take_at rs (replicate (room - count) (0, 0)) count len in (
      record {
        some_room = some;
        within = within;
        positions = ap length is ∙ length-append rs (replicate (room - count) (0, 0)) ∙ omega (arith, length-replicate {A = ℕ × ℕ} (room - count) (0, 0));
        runs = subst AreRuns (sym front) runs;
        unused = ap (λ ds. drop count ds) is ∙ drop_at rs (replicate (room - count) (0, 0)) count len;
      },
      front,
    )

-- the runs from one on that reach what is joined, which has got as far as `x`
absorb : (rs : List (ℕ × ℕ)) (y x low s end : ℕ) (d : ℕ × ℕ) → AreRunsFrom low rs → x < low → s ≤ x →
    joined rs s (max x end) ≡ (s, max (get_or ((y, x) ∷ rs) (begun rs end) d).1 end) ∷ drop (begun rs end) rs
absorb [] y x low s end d h lt le = refl
absorb (r ∷ rs) y x low s end d h lt le = elim (cases_lt end r.0) [
  | inl past ↦ elim (joined-cases r rs s (max x end)) [
    | inl a ↦ absurd (omega (arith, a.0, h.0, h.1))
    | inr o ↦ elim o [
      | inl b ↦ rw (b.2, lt-leb r.0 end past) refl
      | inr c ↦ absurd (omega (arith, c.1, h.0, past))
    ]
  ]
  | inr met ↦ elim (joined-cases r rs s (max x end)) [
    | inl a ↦ absurd (omega (arith, a.0, h.0, h.1))
    | inr o ↦ elim o [
      | inl b ↦ absurd (omega (arith, b.1, met))
      | inr c ↦ let s' : min r.0 s ≡ s = omega (arith, h.0) in
          let e' : max r.1 (max x end) ≡ max r.1 end = omega (arith, h.0, h.1) in
          let one : 1 + begun rs end ≡ suc (begun rs end) = omega arith in
          let rest : joined rs s (max r.1 end) ≡ (s, max (get_or (r ∷ rs) (begun rs end) d).1 end) ∷ drop (begun rs end) rs =
          absorb rs r.0 r.1 (r.1 + 1) s end d h.2 (omega arith) (omega (arith, h.0, h.1)) in
          rw (c.2, s', e', le-leb r.0 end met, one) rest
    ]
  ]
]

-- positions that meet no run come between two, or before or after all
pub joined-between : (rs : List (ℕ × ℕ)) (low start end : ℕ) → AreRunsFrom low rs → start ≤ end → begun rs end ≤ ended rs start →
    joined rs start end ≡ take (ended rs start) rs ++ (start, end) ∷ drop (ended rs start) rs
joined-between [] low start end h le none = refl
joined-between (r ∷ rs) low start end h le none = elim (joined-cases r rs start end) [
  | inl a ↦ let e : 1 + ended rs start ≡ suc (ended rs start) = omega arith in
      let b : 1 + begun rs end ≡ suc (begun rs end) = omega arith in
      let before : r.0 ≤ end = omega (arith, a.0, h.1) in
      let none' = rw (lt-ltb r.1 start a.0, le-leb r.0 end before) at none in
      rw (a.1, lt-ltb r.1 start a.0, e) (ap (λ qs. r ∷ qs) (joined-between rs (r.1 + 1) start end h.2 le (omega (arith, none'))))
  | inr o ↦ elim o [
    | inl b ↦ rw (b.2, le-ltb r.1 start b.0) refl
    | inr c ↦ absurd (omega (arith, rw (le-ltb r.1 start c.0, le-leb r.0 end c.1) at none))
  ]
]

-- positions that meet runs make one of them
pub joined-met : (rs : List (ℕ × ℕ)) (low start end : ℕ) (d : ℕ × ℕ) → AreRunsFrom low rs → start ≤ end → ended rs start < begun rs end →
    joined rs start end ≡ take (ended rs start) rs ++ (min (get_or rs (ended rs start) d).0 start, max (get_or rs (begun rs end - 1) d).1 end) ∷
    drop (begun rs end) rs
joined-met [] low start end d h le some = absurd (omega arith)
joined-met (r ∷ rs) low start end d h le some = elim (joined-cases r rs start end) [
  | inl a ↦ let e : 1 + ended rs start ≡ suc (ended rs start) = omega arith in
      let before : r.0 ≤ end = omega (arith, a.0, h.1) in
      let some' = rw (lt-ltb r.1 start a.0, le-leb r.0 end before) at some in
      let more : ended rs start < begun rs end = omega (arith, some') in
      let b : 1 + begun rs end ≡ suc (begun rs end) = omega arith in
      let k : suc (begun rs end) - 1 ≡ suc (begun rs end - 1) = omega arith in
      rw (a.1, lt-ltb r.1 start a.0, le-leb r.0 end before, e, b, k) (ap (λ qs. r ∷ qs) (joined-met rs (r.1 + 1) start end d h.2 le more))
  | inr o ↦ elim o [
    | inl b ↦ absurd (omega (arith, rw (le-ltb r.1 start b.0, lt-leb r.0 end b.1) at some))
    | inr c ↦ let b : 1 + begun rs end ≡ suc (begun rs end) = omega arith in
        let k : suc (begun rs end) - 1 ≡ begun rs end = omega arith in
        rw (c.2, le-ltb r.1 start c.0, le-leb r.0 end c.1, b, k) (absorb rs r.0 r.1 (r.1 + 1) (min r.0 start) end d h.2 (omega arith) (omega (arith, h.1)))
  ]
]

-- positions that meet no run make one more
pub length-joined_between : (rs : List (ℕ × ℕ)) (start end : ℕ) → AreRuns rs → start ≤ end → begun rs end ≤ ended rs start →
    length (joined rs start end) ≡ length rs + 1
length-joined_between rs start end h le none =
    let some : ended rs start ≤ length rs = prefix_len-le-length (λ (r : ℕ × ℕ). nat_lt r.1 start) rs in
    ap length (joined-between rs 0 start end h le none) ∙ length-append (take (ended rs start) rs) ((start, end) ∷ drop (ended rs start) rs)
    ∙ omega (arith, length-take-le (ended rs start) rs some, length-drop (ended rs start) rs)

-- one pair in the place of those from `i` to `j`
replaced : (xs zs : List (ℕ × ℕ)) (r : ℕ × ℕ) (i j : ℕ) → i < j → j ≤ length xs →
    take (i + 1) (set (xs ++ zs) i r) ++ drop j (set (xs ++ zs) i r) ≡ (take i xs ++ r ∷ drop j xs) ++ zs
replaced xs zs r i j lt le =
    let front : take (i + 1) (set (xs ++ zs) i r) ≡ take i xs ++ r ∷ [] = take_more_set (xs ++ zs) i r (omega (arith, length-append xs zs)) ∙
    ap (λ qs. qs ++ r ∷ []) (take-append-le i xs zs (omega arith)) in
    let back : drop j (set (xs ++ zs) i r) ≡ drop j xs ++ zs = drop-set-lt j (xs ++ zs) i r lt ∙ drop-append-le j xs zs le in
    ap₂ ◌++◌ front back ∙ append_assoc (take i xs) (r ∷ []) (drop j xs ++ zs) ∙ sym (append_assoc (take i xs) (r ∷ drop j xs) zs)

-- the runs that are met made one, and as many pairs unused
pub kept_met : (room count first following start end a b : ℕ) (cs cs' : List (ℕ × ℕ)) → AreKept room count cs → start < end → first ≡ ended (take count cs) start →
    following ≡ begun (take count cs) end → following ≤ length (take count cs) → first < following → a ≡ min (get_or (take count cs) first (0, 0)).0 start →
    b ≡ max (get_or (take count cs) (following - 1) (0, 0)).1 end → cs' ≡ take (first + 1) (set cs first (a, b)) ++ drop following (set cs first (a, b)) ++
    replicate (following - (first + 1)) (0, 0) → AreKept room (count - (following - first - 1)) cs' ×
    (take (count - (following - first - 1)) cs' ≡ joined (take count cs) start end)
kept_met room count first following start end a b cs cs' h order one two within some left right is =
    let rs = take count cs in
    let new = take first rs ++ (a, b) ∷ drop following rs in
    let gone = following - (first + 1) in
    let kept = count - (following - first - 1) in
    let len : length rs ≡ count = length-kept room count cs h in
    let more : ended rs start < begun rs end = omega (arith, one, two, some) in
    let same : new ≡ joined rs start end = rw (left, right, one, two) (sym (joined-met rs 0 start end (0, 0) h.runs (omega arith) more)) in
    let size : length new ≡ kept = length-append (take first rs) ((a, b) ∷ drop following rs) ∙
    omega (arith, length-take-le first rs (omega arith), length-drop following rs) in
    let unused : replicate (room - count) (0, 0) ++ replicate gone (0, 0) ≡ replicate (room - kept) (0, 0) =
    replicate-append-replicate (room - count) gone (0, 0) ∙ ap (λ n. replicate n (0, 0)) (omega (arith, h.within)) in
    let is' : cs' ≡ new ++ replicate (room - kept) (0, 0) = is
    ∙ ap (λ qs. take (first + 1) (set qs first (a, b)) ++ drop following (set qs first (a, b)) ++ replicate gone (0, 0)) (kept-is room count cs h)
    ∙ ap (λ qs. qs ++ replicate gone (0, 0)) (replaced rs (replicate (room - count) (0, 0)) (a, b) first following some within)
    ∙ append_assoc new (replicate (room - count) (0, 0)) (replicate gone (0, 0)) ∙ ap (λ qs. new ++ qs) unused in
    let k = keep room kept new cs' h.some_room (omega (arith, h.within)) size
    (subst AreRuns (sym same) (AreRuns-joined 0 rs start end h.runs (omega arith) order)) is' in
    (k.0, k.1 ∙ same)

-- a run put in between the others, and one pair fewer unused
pub kept_between : (room count first following start end : ℕ) (cs cs' : List (ℕ × ℕ)) → AreKept room count cs → start < end → first ≡ ended (take count cs) start →
    following ≡ begun (take count cs) end → first ≤ length (take count cs) → following ≤ first → count < room →
    cs' ≡ take first cs ++ (start, end) ∷ take (length cs - 1 - first) (drop first cs) → AreKept room (count + 1) cs' ×
    (take (count + 1) cs' ≡ joined (take count cs) start end)
kept_between room count first following start end cs cs' h order one two within none free is =
    let rs = take count cs in
    let zs = replicate (room - count) (0, 0) in
    let new = take first rs ++ (start, end) ∷ drop first rs in
    let len : length rs ≡ count = length-kept room count cs h in
    let fewer : begun rs end ≤ ended rs start = omega (arith, one, two, none) in
    let same : new ≡ joined rs start end = rw one (sym (joined-between rs 0 start end h.runs (omega arith) fewer)) in
    let size : length new ≡ count + 1 = length-append (take first rs) ((start, end) ∷ drop first rs) ∙
    omega (arith, length-take-le first rs within, length-drop first rs) in
    let positions : length cs - 1 - first ≡ length (drop first rs) + (room - (count + 1)) = omega (arith, h.positions, length-drop first rs) in
    let back : take (length cs - 1 - first) (drop first (rs ++ zs)) ≡ drop first rs ++ replicate (room - (count + 1)) (0, 0) =
    ap₂ (λ n qs. take n qs) positions (drop-append-le first rs zs within)
    ∙ take-append-add (drop first rs) zs (room - (count + 1)) ∙
    ap (λ qs. drop first rs ++ qs) (take-replicate (room - (count + 1)) (room - count) (0, 0) (omega arith)) in
    let is' : cs' ≡ new ++ replicate (room - (count + 1)) (0, 0) = is
    ∙ ap (λ qs. take first qs ++ (start, end) ∷ take (length cs - 1 - first) (drop first qs)) (kept-is room count cs h)
    ∙ ap₂ (λ ps qs. ps ++ (start, end) ∷ qs) (take-append-le first rs zs within) back
    ∙ sym (append_assoc (take first rs) ((start, end) ∷ drop first rs) (replicate (room - (count + 1)) (0, 0))) in
    let k = keep room (count + 1) new cs' h.some_room (omega arith) size
    (subst AreRuns (sym same) (AreRuns-joined 0 rs start end h.runs (omega arith) order)) is' in
    (k.0, k.1 ∙ same)

-- the last of the pairs from an offset on brought to that offset and written over
pub inserted : (xs ys : List (ℕ × ℕ)) (position : ℕ) (r : ℕ × ℕ) → position < length xs →
    (let back = take (length xs - position) (drop position xs) in ys ≡ drop (length back - 1) back ++ take (length back - 1) back) →
    set (put_mid position (length xs - position) xs ys) position r ≡ take position xs ++ r ∷ take (length xs - 1 - position) (drop position xs)
inserted xs ys position r lt is =
    let back = drop position xs in
    let n = length xs - 1 - position in
    let len : length back ≡ n + 1 = length-drop position xs ∙ omega arith in
    let less : length back - 1 ≡ n = omega (arith, len) in
    let last : drop n back ≡ get_or back n r ∷ [] = drop_more back n r (omega (arith, len)) ∙
    ap (λ qs. get_or back n r ∷ qs) (drop_all (n + 1) back (omega (arith, len))) in
    let turned : ys ≡ get_or back n r ∷ take n back = is ∙ ap (λ qs. drop (length qs - 1) qs ++ take (length qs - 1) qs) (take_rest xs position)
    ∙ ap (λ k. drop k back ++ take k back) less ∙ ap (λ qs. qs ++ take n back) last in
    let whole : put_mid position (length xs - position) xs ys ≡ take position xs ++ get_or back n r ∷ take n back =
    ap₂ (λ ps qs. take position xs ++ (ps ++ qs)) turned (drop_all (length xs - position) back (omega (arith, len)))
    ∙ ap (λ qs. take position xs ++ qs) (append-nil (get_or back n r ∷ take n back)) in
    ap (λ qs. set qs position r) whole ∙ set_at (take position xs) (get_or back n r) (take n back) r position (length-take-le position xs (omega arith))

-- where no run begins at a position or before it
pub begun-none : (rs : List (ℕ × ℕ)) (low position : ℕ) → AreRunsFrom low rs → begun rs position ≡ 0 → AreRunsFrom (position + 1) rs
begun-none [] low position h none = tt
begun-none (r ∷ rs) low position h none = elim (cases_lt position r.0) [
  | inl past ↦ (omega (arith, past), h.1, h.2)
  | inr met ↦ absurd (omega (arith, rw (le-leb r.0 position met) at none))
]

-- where one does, the first does
pub begun-some : (rs : List (ℕ × ℕ)) (position : ℕ) → (begun rs position ≡ 0 → ⊥) → (r : ℕ × ℕ) × (ss : List (ℕ × ℕ)) × (rs ≡ r ∷ ss) × (r.0 ≤ position)
begun-some [] position some = absurd (some refl)
begun-some (r ∷ rs) position some = elim (cases_lt position r.0) [
  | inl past ↦ absurd (some (rw (lt-leb r.0 position past) refl))
  | inr met ↦ (r, rs, refl, met)
]

-- all runs lowered
pub kept_lowered : (room count by : ℕ) (cs cs' : List (ℕ × ℕ)) → AreKept room count cs → begun (take count cs) by ≡ 0 →
    cs' ≡ lowered by (take count cs) ++ drop count cs → AreKept room count cs' × (take count cs' ≡ lowered by (take count cs))
kept_lowered room count by cs cs' h none is =
    let rs = take count cs in
    let above : AreRunsFrom by rs = AreRunsFrom-lower by (by + 1) rs (omega arith) (begun-none rs 0 by h.runs none) in
    keep room count (lowered by rs) cs' h.some_room h.within (length-map rs (λ (r : ℕ × ℕ). (r.0 - by, r.1 - by)) ∙
    length-kept room count cs h) (AreRunsFrom-lower 0 (by - by) (lowered by rs) (omega arith) (AreRuns-lowered by by rs (omega arith) above)) (is ∙
    ap (λ qs. lowered by rs ++ qs) h.unused)

-- all runs lowered by the length of the one at 0, which is after the others then, an unused pair
without_lowered : (room count size : ℕ) (rs cs' : List (ℕ × ℕ)) → 1 ≤ room → count ≤ room → length rs ≡ count → AreRuns rs → size ≡ front rs → 0 < size →
    cs' ≡ drop 1 (lowered size rs ++ replicate (room - count) (0, 0)) ++ take 1 (lowered size rs ++ replicate (room - count) (0, 0)) →
    AreKept room (count - 1) cs' × (take (count - 1) cs' ≡ without_front rs)
without_lowered room count size [] cs' some within len runs all more is = absurd (omega (arith, all))
without_lowered room count size (r ∷ rs) cs' some within len runs all more is = elim (eqb_tells r.0 0) [
  | inl first ↦ let s : size ≡ r.1 = rw first.0 at all in
      let left : r.0 - size ≡ 0 = omega (arith, first.1) in
      let right : r.1 - size ≡ 0 = omega (arith, s) in
      let zs = replicate (room - count) (0, 0) in
      let unused : zs ++ (r.0 - size, r.1 - size) ∷ [] ≡ replicate (room - (count - 1)) (0, 0) = ap₂ (λ a b. zs ++ (a, b) ∷ []) left right ∙
      replicate_more (room - count) (0, 0) ∙ ap (λ n. replicate n (0, 0)) (omega (arith, len)) in
      let is' : cs' ≡ lowered size rs ++ replicate (room - (count - 1)) (0, 0) = is ∙ append_assoc (lowered size rs) zs ((r.0 - size, r.1 - size) ∷ []) ∙
      ap (λ qs. lowered size rs ++ qs) unused in
      let down : AreRuns (lowered size rs) =
      AreRunsFrom-lower 0 (r.1 + 1 - size) (lowered size rs) (omega arith) (AreRuns-lowered size (r.1 + 1) rs (omega (arith, s)) runs.2) in
      let k = keep room (count - 1) (lowered size rs) cs' some (omega (arith, within)) (length-map rs (λ (q : ℕ × ℕ). (q.0 - size, q.1 - size)) ∙
      omega (arith, len)) down is' in
      (k.0, k.1 ∙ rw (first.0, s) refl)
  | inr following ↦ absurd (omega (arith, more, rw following.0 at all))
]

pub kept_without : (room count size : ℕ) (cs ds cs' : List (ℕ × ℕ)) → AreKept room count cs → size ≡ front (take count cs) → 0 < size →
    ds ≡ lowered size (take count cs) → cs' ≡ drop 1 (ds ++ drop count cs) ++ take 1 (ds ++ drop count cs) → AreKept room (count - 1) cs' ×
    (take (count - 1) cs' ≡ without_front (take count cs))
kept_without room count size cs ds cs' h all more low is =
    without_lowered room count size (take count cs) cs' h.some_room h.within (length-kept room count cs h) h.runs all more (is ∙
    ap₂ (λ ps qs. drop 1 (ps ++ qs) ++ take 1 (ps ++ qs)) low h.unused)

-- one pair lowered in its offset, those before it being so already
lower_one : (by : ℕ) (xs : List (ℕ × ℕ)) (i : ℕ) (d : ℕ × ℕ) → i < length xs →
    set (lowered by (take i xs) ++ drop i xs) i (
      (get_or (lowered by (take i xs) ++ drop i xs) i d).0 - by,
      (get_or (lowered by (take i xs) ++ drop i xs) i d).1 - by,
    ) ≡ lowered by (take (i + 1) xs) ++ drop (i + 1) xs
lower_one by [] i d lt = absurd (omega arith)
lower_one by (x ∷ xs) zero d lt = refl
lower_one by (x ∷ xs) (suc i) d lt =
    let n : suc i + 1 ≡ suc (i + 1) = omega arith in
    rw n (ap (λ qs. (x.0 - by, x.1 - by) ∷ qs) (lower_one by xs i d (omega arith)))

pub lower_step : (by : ℕ) (xs ys : List (ℕ × ℕ)) (i a b : ℕ) (d : ℕ × ℕ) → i < length xs → ys ≡ lowered by (take i xs) ++ drop i xs →
    a ≡ (get_or ys i d).0 - by → b ≡ (get_or ys i d).1 - by → set ys i (a, b) ≡ lowered by (take (i + 1) xs) ++ drop (i + 1) xs
lower_step by xs ys i a b d lt is left right =
    rw (left, right, is) (lower_one by xs i d lt)
