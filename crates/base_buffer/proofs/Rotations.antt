-- Lemmas on a list that is read from one of its offsets on and round its end.
use Rattle.std.proofs.Common.{◌≡◌, ℕ, ◌+◌, ◌-◌, ◌%◌, ◌<◌, ◌≤◌, ◌⊎◌, List, ◌++◌, length, get_or, take, drop, refl, sym, ap, ◌∙◌, inl, inr, mod-eq_of_lt, arith}
use Rattle.std.proofs.Common.{length-append, length-drop, length-take, take-append-drop, append_assoc}
use native.Mathlib.Nat.{mod-eq-sub-mod}
use Rattle.std.proofs.lemmas.List.{same_lists, take_at, drop_at, take_all, length-take-le, get_or-drop, get_or-take, get_or_append_left, get_or-append_right}
use Rattle.std.proofs.lemmas.List.{drop-drop, take-append-le, drop-append-le}
use Rattle.std.proofs.lemmas.Bool.{cases_lt}
use Rattle.std.proofs.Math.Seq.{take-add, take-append-add, drop-append-add}
use Rattle.base_buffer.specs.Ring.{rotated, laid_over}

-- an offset after the start, which wraps once at most
pub wraps_once : (st o n : ℕ) → st < n → o ≤ n → ((st + o < n) × ((st + o) % n ≡ st + o)) ⊎ ((n ≤ st + o) × ((st + o) % n ≡ st + o - n))
wraps_once st o n below within = elim (cases_lt (st + o) n) [
  | inl low ↦ inl (low, mod-eq_of_lt low)
  | inr high ↦ inr (high, mod-eq-sub-mod high ∙ mod-eq_of_lt (omega arith))
]

module _ {X : Type 0} where
  pub length-rotated : (st : ℕ) (xs : List X) → st ≤ length xs → length (rotated st xs) ≡ length xs
  length-rotated st xs within =
      length-append (drop st xs) (take st xs) ∙ omega (arith, length-drop st xs, length-take-le st xs within)

  pub rotated_back : (st : ℕ) (xs : List X) → st ≤ length xs → rotated (length xs - st) (rotated st xs) ≡ xs
  rotated_back st xs within =
      let e : length (drop st xs) ≡ length xs - st = length-drop st xs in
      rw (drop_at (drop st xs) (take st xs) (length xs - st) e, take_at (drop st xs) (take st xs) (length xs - st) e) (take-append-drop st xs)

  pub rotated_forth : (st : ℕ) (xs : List X) → st ≤ length xs → rotated st (rotated (length xs - st) xs) ≡ xs
  rotated_forth st xs within =
      let n = length xs - st in
      let e : length (drop n xs) ≡ st = length-drop n xs ∙ omega arith in
      rw (drop_at (drop n xs) (take n xs) st e, take_at (drop n xs) (take n xs) st e) (take-append-drop n xs)

  -- the element after the start
  pub get_or-rotated : (st i : ℕ) (xs : List X) (d : X) → st < length xs → i < length xs → get_or (rotated st xs) i d ≡ get_or xs ((st + i) % length xs) d
  get_or-rotated st i xs d below within =
      let tail = length-drop st xs in
      elim (wraps_once st i (length xs) below (omega arith)) [
        | inl w ↦ get_or_append_left (drop st xs) (take st xs) d i (omega arith) ∙ get_or-drop st xs i d ∙ ap (λ j. get_or xs j d) (sym w.1)
        | inr w ↦ get_or-append_right (drop st xs) (take st xs) (length xs - st) i d (omega arith) (omega arith) ∙ get_or-take st xs _ d (omega arith) ∙
            ap (λ j. get_or xs j d) (omega arith)
      ]

  -- laid over where it fits
  pub laid_over-fits : (xs : List X) (at : ℕ) (ws : List X) → at + length ws ≤ length xs → laid_over xs at ws ≡ take at xs ++ (ws ++ drop (at + length ws) xs)
  laid_over-fits xs at ws fits =
      rw (drop-drop (length ws) at xs) (take_all (length xs) _ (simp (length-append, length-drop, length-take) (omega arith)))

  pub length-laid_over : (xs : List X) (at : ℕ) (ws : List X) → length (laid_over xs at ws) ≡ length xs
  length-laid_over xs at ws = simp (length-append, length-drop, length-take) (omega arith)

  -- the elements of a list with others laid over it
  pub get_or-laid : (xs : List X) (at : ℕ) (ws : List X) (j : ℕ) (d : X) → at + length ws ≤ length xs →
      (j < at → get_or (laid_over xs at ws) j d ≡ get_or xs j d) × (at ≤ j → j < at + length ws → get_or (laid_over xs at ws) j d ≡ get_or ws (j - at) d) ×
      (at + length ws ≤ j → get_or (laid_over xs at ws) j d ≡ get_or xs j d)
  get_or-laid xs at ws j d fits =
      let front = length-take-le at xs (omega arith) in
      let back = drop (at + length ws) xs in
      rw (laid_over-fits xs at ws fits) (
        λ low. get_or_append_left (take at xs) _ d j (omega arith) ∙ get_or-take at xs j d low,
        λ low high. get_or-append_right (take at xs) _ at j d front low ∙ get_or_append_left ws back d (j - at) (omega arith),
        λ high. get_or-append_right (take at xs) _ at j d front (omega arith)
            ∙ get_or-append_right ws back (length ws) (j - at) d refl (omega arith)
            ∙ get_or-drop (at + length ws) xs (j - at - length ws) d
            ∙ ap (λ k. get_or xs k d) (omega arith),
      )

  -- elements laid over an unbroken part
  pub rotated-laid : (st o : ℕ) (xs ws : List X) → st < length xs → o + length ws ≤ length xs → (st + o) % length xs + length ws ≤ length xs →
      rotated st (laid_over xs ((st + o) % length xs) ws) ≡ laid_over (rotated st xs) o ws
  rotated-laid st o xs ws below within unbroken =
      let p = (st + o) % length xs in
      let ys = laid_over xs p ws in
      let whole : length ys ≡ length xs = length-laid_over xs p ws in
      let turned = length-rotated st xs (omega arith) in
      same_lists _ _ (length-rotated st ys (omega arith) ∙ whole ∙ sym turned ∙ sym (length-laid_over (rotated st xs) o ws)) (λ i d h.
      let inside : i < length xs = rw (length-rotated st ys (omega arith), whole) at h in
      let left : get_or (rotated st ys) i d ≡ get_or ys ((st + i) % length xs) d = get_or-rotated st i ys d (omega arith) (omega arith) ∙
      ap (λ n. get_or ys ((st + i) % n) d) whole in
      let old = get_or-rotated st i xs d below inside in
      let here = get_or-laid xs p ws ((st + i) % length xs) d unbroken in
      let there = get_or-laid (rotated st xs) o ws i d (omega arith) in
      let wrap_o = wraps_once st o (length xs) below (omega arith) in
      let wrap_i = wraps_once st i (length xs) below (omega arith) in
      let untouched : (((st + i) % length xs) < p) ⊎ (p + length ws ≤ (st + i) % length xs) →
      get_or ys ((st + i) % length xs) d ≡ get_or xs ((st + i) % length xs) d = λ outside. elim outside [ inl a ↦ here.0 a | inr b ↦ here.2 b ] in
      left ∙ elim (cases_lt i o) [
        | inl low ↦ untouched (elim (cases_lt ((st + i) % length xs) p) [ inl a ↦ inl a | inr b ↦ inr (omega arith) ]) ∙ sym old ∙ sym (there.0 low)
        | inr high ↦ elim (cases_lt i (o + length ws)) [
          | inl low ↦ here.1 (omega arith) (omega arith) ∙ ap (λ m. get_or ws m d) (omega arith) ∙ sym (there.1 high low)
          | inr past ↦ untouched (elim (cases_lt ((st + i) % length xs) p) [ inl a ↦ inl a | inr b ↦ inr (omega arith) ]) ∙ sym old ∙ sym (there.2 past)
        ]
      ])

  -- an unbroken part, read
  pub part-rotated : (st o k : ℕ) (xs : List X) → st < length xs → o + k ≤ length xs → (st + o) % length xs + k ≤ length xs →
      take k (drop ((st + o) % length xs) xs) ≡ take k (drop o (rotated st xs))
  part-rotated st o k xs below within unbroken =
      let p = (st + o) % length xs in
      let turned = length-rotated st xs (omega arith) in
      let left_len : length (take k (drop p xs)) ≡ k = length-take-le k (drop p xs) (omega (arith, length-drop p xs)) in
      let right_len : length (take k (drop o (rotated st xs))) ≡ k = length-take-le k (drop o (rotated st xs)) (omega (arith, length-drop o (rotated st xs))) in
      same_lists _ _ (left_len ∙ sym right_len) (λ i d h.
      let inside : i < k = omega arith in
      let wrap_o = wraps_once st o (length xs) below (omega arith) in
      let wrap_i = wraps_once st (o + i) (length xs) below (omega arith) in
      get_or-take k (drop p xs) i d inside ∙ get_or-drop p xs i d ∙ ap (λ m. get_or xs m d) (omega arith) ∙
      sym (get_or-rotated st (o + i) xs d below (omega arith)) ∙ sym (get_or-drop o (rotated st xs) i d) ∙
      sym (get_or-take k (drop o (rotated st xs)) i d inside))

  -- a start further on
  pub rotated-rotated : (st k : ℕ) (xs : List X) → st < length xs → k ≤ length xs →
      rotated ((st + k) % length xs) xs ≡ drop k (rotated st xs) ++ take k (rotated st xs)
  rotated-rotated st k xs below within =
      let front = take st xs in
      let back = drop st xs in
      let back_len : length back ≡ length xs - st = length-drop st xs in
      let front_len : length front ≡ st = length-take-le st xs (omega arith) in
      elim (wraps_once st k (length xs) below within) [
        | inl w ↦ rw (
          w.1,
          drop-append-le k back front (omega arith),
          take-append-le k back front (omega arith),
          take-add st k xs,
          drop-drop k st xs,
        ) (sym (append_assoc (drop (st + k) xs) front (take k back)))
        | inr w ↦ let p = st + k - length xs in
            let e : k ≡ length back + p = omega arith in
            let all : front ++ back ≡ xs = take-append-drop st xs in
            let high : drop p xs ≡ drop p front ++ back = ap (λ ys. drop p ys) (sym all) ∙ drop-append-le p front back (omega arith) in
            let low : take p xs ≡ take p front = ap (λ ys. take p ys) (sym all) ∙ take-append-le p front back (omega arith) in
            let skipped : drop k (back ++ front) ≡ drop p front = ap (λ n. drop n (back ++ front)) e ∙ drop-append-add back front p in
            let kept : take k (back ++ front) ≡ back ++ take p front = ap (λ n. take n (back ++ front)) e ∙ take-append-add back front p in
            rw (w.1, high, low, skipped, kept) (append_assoc (drop p front) back (take p front))
      ]

  -- the same with a name for the length
  pub rotated-laid_at : (n st o : ℕ) (xs ws : List X) → n ≡ length xs → st < n → o + length ws ≤ n → (st + o) % n + length ws ≤ n →
      rotated st (laid_over xs ((st + o) % n) ws) ≡ laid_over (rotated st xs) o ws
  rotated-laid_at n st o xs ws e below within unbroken =
      rw e (rotated-laid st o xs ws (omega arith) (omega arith) (rw e at unbroken))

  pub part-rotated_at : (n st o k : ℕ) (xs : List X) → n ≡ length xs → st < n → o + k ≤ n → (st + o) % n + k ≤ n →
      take k (drop ((st + o) % n) xs) ≡ take k (drop o (rotated st xs))
  part-rotated_at n st o k xs e below within unbroken =
      rw e (part-rotated st o k xs (omega arith) (omega arith) (rw e at unbroken))
