-- Lemmas on the runs of a set of positions.
use Rattle.std.proofs.Common.{zero, subst, suc, ◌≡◌, ℕ, ◌+◌, ◌-◌, ◌<◌, ◌≤◌, ◌⊎◌, Bool, true, false, List, [], ◌∷◌, length, min, max, refl, sym, ap, ap₂, ◌∙◌}
use Rattle.std.proofs.Common.{inl, inr, arith}
use Rattle.std.specs.Prelude.{◌↔◌, ◌==◌, nat_lt}
use Rattle.std.proofs.lemmas.Bool.{cases_lt, ltb-true, ltb-false, ne_eqb}
use Rattle.std.proofs.lemmas.Bool.Decides.{eqb_tells}
use Rattle.base_buffer.specs.Assembler.{AreRuns, AreRunsFrom, Holds, HoldSame, IsUnion, joined, added, front, lowered, without_front}

-- the tests of `joined`, as facts
lt_by : (a b : ℕ) (t : Bool) → nat_lt a b ≡ t → ((nat_lt a b ≡ true) × (a < b)) ⊎ ((nat_lt a b ≡ false) × (b ≤ a))
lt_by a b true e = inl (e, ltb-true a b e)
lt_by a b false e = inr (e, ltb-false a b e)

lt_tells : (a b : ℕ) → ((nat_lt a b ≡ true) × (a < b)) ⊎ ((nat_lt a b ≡ false) × (b ≤ a))
lt_tells a b = lt_by a b (nat_lt a b) refl

pub AreRunsFrom-lower : (low low' : ℕ) (rs : List (ℕ × ℕ)) → low ≤ low' → AreRunsFrom low' rs → AreRunsFrom low rs
AreRunsFrom-lower low low' [] le h = tt
AreRunsFrom-lower low low' (r ∷ rs) le h = (omega (arith, h.0), h.1, h.2)

-- the three cases of `joined`
pub joined-cases : (r : ℕ × ℕ) (rs : List (ℕ × ℕ)) (start end : ℕ) → ((r.1 < start) × (joined (r ∷ rs) start end ≡ r ∷ joined rs start end)) ⊎
    (((start ≤ r.1) × (end < r.0) × (joined (r ∷ rs) start end ≡ (start, end) ∷ (r ∷ rs))) ⊎
    ((start ≤ r.1) × (r.0 ≤ end) × (joined (r ∷ rs) start end ≡ joined rs (min r.0 start) (max r.1 end))))
joined-cases r rs start end = elim (lt_tells r.1 start) [
  | inl a ↦ inl (a.1, rw a.0 refl)
  | inr b ↦ inr (elim (lt_tells end r.0) [
    | inl c ↦ inl (b.1, c.1, rw (b.0, c.0) refl)
    | inr d ↦ inr (b.1, d.1, rw (b.0, d.0) refl)
  ])
]

pub AreRuns-joined : (low : ℕ) (rs : List (ℕ × ℕ)) (start end : ℕ) → AreRunsFrom low rs → low ≤ start → start < end → AreRunsFrom low (joined rs start end)
AreRuns-joined low [] start end h le lt = (le, lt, tt)
AreRuns-joined low (r ∷ rs) start end h le lt = elim (joined-cases r rs start end) [
  | inl a ↦ rw a.1 (h.0, h.1, AreRuns-joined (r.1 + 1) rs start end h.2 (omega arith) lt)
  | inr o ↦ elim o [
    | inl b ↦ rw b.2 (le, lt, (omega arith, h.1, h.2))
    | inr c ↦ rw c.2 (AreRuns-joined low rs (min r.0 start) (max r.1 end) (AreRunsFrom-lower low (r.1 + 1) rs (omega (arith, h.0, h.1)) h.2)
        (omega (arith, h.0)) (omega (arith, h.1)))
  ]
]

-- what is held once positions are joined
pub Holds-joined : (rs : List (ℕ × ℕ)) (low start end p : ℕ) → AreRunsFrom low rs → start < end →
    Holds (joined rs start end) p ↔ (Holds rs p ⊎ ((start ≤ p) × (p < end)))
Holds-joined [] low start end p h lt = (λ a. elim a [ inl x ↦ inr x | inr y ↦ absurd y ], λ b. elim b [ inl x ↦ absurd x | inr y ↦ inl y ])
Holds-joined (r ∷ rs) low start end p h lt = elim (joined-cases r rs start end) [
  | inl a ↦ let e = Holds-joined rs (r.1 + 1) start end p h.2 lt in
      rw a.1 (
        λ x. elim x [ inl y ↦ inl (inl y) | inr z ↦ elim (e.0 z) [ inl w ↦ inl (inr w) | inr w ↦ inr w ] ],
        λ x. elim x [ inl y ↦ elim y [ inl w ↦ inl w | inr w ↦ inr (e.1 (inl w)) ] | inr z ↦ inr (e.1 (inr z)) ],
      )
  | inr o ↦ elim o [
    | inl b ↦ rw b.2 (λ x. elim x [ inl y ↦ inr y | inr z ↦ inl z ], λ x. elim x [ inl y ↦ inr y | inr z ↦ inl z ])
    | inr c ↦ let e = Holds-joined rs (r.1 + 1) (min r.0 start) (max r.1 end) p h.2 (omega (arith, h.1)) in
        let lt' = h.1 in
        rw c.2 (
          λ x. elim (e.0 x) [
            | inl y ↦ inl (inr y)
            | inr z ↦ elim (cases_lt p r.1) [
              | inl low_r ↦ elim (cases_lt p r.0) [ inl before ↦ inr (omega (arith, z.0), omega arith) | inr within ↦ inl (inl (within, low_r)) ]
              | inr past ↦ inr (omega (arith, z.0), omega (arith, z.1))
            ]
          ],
          λ x. elim x [
            | inl y ↦ elim y [ inl w ↦ e.1 (inr (omega (arith, w.0), omega (arith, w.1))) | inr w ↦ e.1 (inl w) ]
            | inr z ↦ e.1 (inr (omega (arith, z.0), omega (arith, z.1)))
          ],
        )
  ]
]

pub joined-IsUnion : (rs : List (ℕ × ℕ)) (start end : ℕ) → AreRuns rs → start < end → IsUnion rs start (end - start) (joined rs start end)
joined-IsUnion rs start end h lt = record {
  runs = AreRuns-joined 0 rs start end h (omega arith) lt;
  holds = λ p. let e = Holds-joined rs 0 start end p h lt in
      let n : start + (end - start) ≡ end = omega arith in
      rw n e;
}

-- nothing is held below the first run
Holds-above : (low : ℕ) (rs : List (ℕ × ℕ)) (p : ℕ) → AreRunsFrom low rs → Holds rs p → low ≤ p
Holds-above low [] p h x = absurd x
Holds-above low (r ∷ rs) p h x = elim x [
  | inl y ↦ omega (arith, y.0, h.0)
  | inr z ↦ omega (arith, Holds-above (r.1 + 1) rs p h.2 z, h.0, h.1)
]

-- the rest of two equal sets whose first runs are the same
HoldSame-rest : (r : ℕ × ℕ) (xs ys : List (ℕ × ℕ)) → AreRunsFrom (r.1 + 1) xs → AreRunsFrom (r.1 + 1) ys → HoldSame (r ∷ xs) (r ∷ ys) → HoldSame xs ys
HoldSame-rest r xs ys a b h = λ p. (
  λ x. elim ((h p).0 (inr x)) [ inl y ↦ absurd (omega (arith, y.1, Holds-above (r.1 + 1) xs p a x)) | inr z ↦ z ],
  λ x. elim ((h p).1 (inr x)) [ inl y ↦ absurd (omega (arith, y.1, Holds-above (r.1 + 1) ys p b x)) | inr z ↦ z ],
)

-- a run that holds the first position of another begins at or before it
starts_before : (low : ℕ) (r q : ℕ × ℕ) (ys : List (ℕ × ℕ)) → AreRunsFrom low (q ∷ ys) → Holds (q ∷ ys) r.0 → q.0 ≤ r.0
starts_before low r q ys h x = elim x [
  | inl y ↦ y.0
  | inr z ↦ omega (arith, Holds-above (q.1 + 1) ys r.0 h.2 z, h.1)
]

-- the position after a run isn't held
Holds-following : (low : ℕ) (r : ℕ × ℕ) (xs : List (ℕ × ℕ)) → AreRunsFrom low (r ∷ xs) → Holds (r ∷ xs) r.1 → ⊥
Holds-following low r xs h x = elim x [
  | inl y ↦ absurd (omega (arith, y.1))
  | inr z ↦ absurd (omega (arith, Holds-above (r.1 + 1) xs r.1 h.2 z))
]

-- with the same first position, the run that holds as much doesn't end earlier
ends_within : (low low' : ℕ) (r q : ℕ × ℕ) (xs ys : List (ℕ × ℕ)) → AreRunsFrom low (r ∷ xs) → AreRunsFrom low' (q ∷ ys) → r.0 ≡ q.0 →
    HoldSame (r ∷ xs) (q ∷ ys) → q.1 ≤ r.1
ends_within low low' r q xs ys a b e h = elim (cases_lt r.1 q.1) [
  | inl more ↦ absurd (Holds-following low r xs a ((h r.1).1 (inl (omega (arith, a.1), more))))
  | inr fits ↦ fits
]

HoldSame-sym : (xs ys : List (ℕ × ℕ)) → HoldSame xs ys → HoldSame ys xs
HoldSame-sym xs ys h = λ p. ((h p).1, (h p).0)

-- two lists of runs with the same positions are the same
pub same_runs : (low low' : ℕ) (xs ys : List (ℕ × ℕ)) → AreRunsFrom low xs → AreRunsFrom low' ys → HoldSame xs ys → xs ≡ ys
same_runs low low' [] [] a b h = refl
same_runs low low' [] (q ∷ ys) a b h = absurd ((h q.0).1 (inl (omega arith, b.1)))
same_runs low low' (r ∷ xs) [] a b h = absurd ((h r.0).0 (inl (omega arith, a.1)))
same_runs low low' (r ∷ xs) (q ∷ ys) a b h =
    let first : r.0 ≡ q.0 = omega (
      arith,
      starts_before low' r q ys b ((h r.0).0 (inl (omega arith, a.1))),
      starts_before low q r xs a ((h q.0).1 (inl (omega arith, b.1))),
    ) in
    let last : r.1 ≡ q.1 = omega (
      arith,
      ends_within low low' r q xs ys a b first h,
      ends_within low' low q r ys xs b a (sym first) (HoldSame-sym (r ∷ xs) (q ∷ ys) h),
    ) in
    let same : r ≡ q = λ i. (first i, last i) in
    let a' : AreRunsFrom (q.1 + 1) xs = rw last at a.2 in
    let h' : HoldSame (q ∷ xs) (q ∷ ys) = subst (λ (v : ℕ × ℕ). HoldSame (v ∷ xs) (q ∷ ys)) same h in
    ap₂ ◌∷◌ same (same_runs (q.1 + 1) (q.1 + 1) xs ys a' b.2 (HoldSame-rest q xs ys a' b.2 h'))

-- runs lowered by a distance
pub AreRuns-lowered : (by low : ℕ) (rs : List (ℕ × ℕ)) → by ≤ low → AreRunsFrom low rs → AreRunsFrom (low - by) (lowered by rs)
AreRuns-lowered by low [] le h = tt
AreRuns-lowered by low (r ∷ rs) le h = (
  omega (arith, h.0),
  omega (arith, h.0, h.1),
  AreRunsFrom-lower (r.1 - by + 1) (r.1 + 1 - by) (lowered by rs) (omega (arith, h.0, h.1))
      (AreRuns-lowered by (r.1 + 1) rs (omega (arith, h.0, h.1)) h.2),
)

pub not_zero : (n : ℕ) → (n ≡ 0 → ⊥) → 0 < n
not_zero zero h = absurd (h refl)
not_zero (suc n) h = omega arith

pub added-IsUnion : (rs : List (ℕ × ℕ)) (offset size : ℕ) → AreRuns rs → IsUnion rs offset size (added rs offset size)
added-IsUnion rs offset size h = elim (eqb_tells size 0) [
  | inl none ↦ rw none.0 (record { runs = h; holds = λ p. (λ x. inl x, λ x. elim x [ inl y ↦ y | inr z ↦ absurd (omega (arith, z.0, z.1, none.1)) ]) })
  | inr some ↦ rw some.0 (
      let e = joined-IsUnion rs offset (offset + size) h (omega (arith, not_zero size some.1)) in
      let n : offset + size - offset ≡ size = omega arith in
      rw n at e
      )
]

-- joining adds a run at most
pub length-joined : (rs : List (ℕ × ℕ)) (start end : ℕ) → length (joined rs start end) ≤ length rs + 1
length-joined [] start end = omega arith
length-joined (r ∷ rs) start end = elim (joined-cases r rs start end) [
  | inl a ↦ rw a.1 (omega (arith, length-joined rs start end))
  | inr o ↦ elim o [
    | inl b ↦ rw b.2 (omega arith)
    | inr c ↦ rw c.2 (omega (arith, length-joined rs (min r.0 start) (max r.1 end)))
  ]
]

-- positions from 0 on that reach the first run make no run more
pub length-added_front : (rs : List (ℕ × ℕ)) (size room : ℕ) → 1 ≤ room → length rs ≤ room →
    (size ≡ 0) ⊎ ((rs ≡ []) ⊎ ((r : ℕ × ℕ) × (ss : List (ℕ × ℕ)) × (rs ≡ r ∷ ss) × (r.0 ≤ size))) → length (added rs 0 size) ≤ room
length-added_front rs size room some few way = elim (eqb_tells size 0) [
  | inl none ↦ rw none.0 few
  | inr more ↦ rw more.0 (elim way [
    | inl z ↦ absurd (more.1 z)
    | inr o ↦ elim o [
      | inl e ↦ rw e some
      | inr m ↦ rw m.2 (
          let few' : length (m.0 ∷ m.1) ≤ room = rw m.2 at few in
          elim (joined-cases m.0 m.1 0 (0 + size)) [
            | inl a ↦ absurd (omega (arith, a.0))
            | inr p ↦ elim p [
              | inl b ↦ absurd (omega (arith, b.1, m.3))
              | inr d ↦ rw d.2 (omega (arith, length-joined m.1 (min m.0.0 0) (max m.0.1 (0 + size)), few'))
            ]
          ]
          )
    ]
  ])
]

lowered-none : (rs : List (ℕ × ℕ)) → lowered 0 rs ≡ rs
lowered-none [] = refl
lowered-none (r ∷ rs) =
    let left : r.0 - 0 ≡ r.0 = omega arith in
    let right : r.1 - 0 ≡ r.1 = omega arith in
    ap₂ ◌∷◌ (λ i. (left i, right i)) (lowered-none rs)

-- positions from 0 on that don't reach the first run
pub added-front : (rs : List (ℕ × ℕ)) (size : ℕ) → AreRunsFrom (size + 1) rs → (front (added rs 0 size) ≡ size) ×
    (without_front (added rs 0 size) ≡ lowered size rs)
added-front [] size h = elim (eqb_tells size 0) [
  | inl none ↦ rw none.0 (sym none.1, refl)
  | inr more ↦ let z : 0 + size ≡ size = omega arith in rw more.0 (z, refl)
]
added-front (r ∷ rs) size h = elim (eqb_tells size 0) [
  | inl none ↦ let following : (r.0 == 0) ≡ false = ne_eqb r.0 0 (λ e. omega (arith, h.0)) in
      rw (none.0, following) (sym none.1, sym (lowered-none (r ∷ rs)) ∙ ap (λ n. lowered n (r ∷ rs)) (sym none.1))
  | inr more ↦ elim (joined-cases r rs 0 (0 + size)) [
    | inl a ↦ absurd (omega (arith, a.0))
    | inr o ↦ elim o [
      | inl b ↦ let z : 0 + size ≡ size = omega arith in
          let e : added (r ∷ rs) 0 size ≡ (0, 0 + size) ∷ (r ∷ rs) = rw (more.0, b.2) refl in
          (ap front e ∙ z, ap without_front e ∙ ap (λ n. lowered n (r ∷ rs)) z)
      | inr d ↦ absurd (omega (arith, d.1, h.0))
    ]
  ]
]

-- where positions are added at all
pub added-some : (rs : List (ℕ × ℕ)) (offset size : ℕ) → (size ≡ 0 → ⊥) → added rs offset size ≡ joined rs offset (offset + size)
added-some rs offset size some = elim (eqb_tells size 0) [ inl none ↦ absurd (some none.1) | inr more ↦ rw more.0 refl ]
