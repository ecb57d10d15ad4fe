-- The steps of a ring, on its value alone.
use Rattle.std.proofs.Common.{◌≡◌, ℕ, ◌+◌, ◌-◌, ◌%◌, ◌<◌, ◌≤◌, ◌⊎◌, List, [], ◌∷◌, ◌++◌, length, take, drop, min, refl, sym, ap, ◌∙◌, inl, inr, add_assoc}
use Rattle.std.proofs.Common.{arith, length-append, length-drop, take-append-drop, append_assoc}
use Rattle.std.proofs.lemmas.List.{take_at, drop_at, take_all, drop_all, length-take-le, take-append-le, drop-drop, append-nil, nil_from_length, length-map}
use Rattle.std.proofs.lemmas.List.{drop_more, get_or_at, set_at, map_more}
use Rattle.std.proofs.lemmas.Bool.{cases_lt}
use Rattle.std.proofs.Math.Seq.{take-add, drop-append-add}
use Rattle.std.specs.Prelude.{slice_get, Some, map}
use Rattle.std.proofs.Common.{get_or, set}
use Rattle.std.proofs.Math.Dec.{eqb-suc-zero}
use Rattle.base_buffer.specs.Ring.{Ring, ring, ring_in, IsPlaced, laid_from, storage_of, capacity, until_end, contiguous, unbroken_free, unbroken_queued}
use Rattle.base_buffer.specs.Ring.{cleared, anchored, extended, released, overwritten, rewritten, enqueued, dequeued, waiting}
use Rattle.base_buffer.proofs.Rotations.{wraps_once, laid_over-fits, length-rotated}
use Rattle.base_buffer.proofs.Rings.{rotated-laid_from, laid_from-free, laid_from-queue}

-- what does not fit before the end of the storage begins at its first offset, and is unbroken
pub rest_unbroken : {X : Type 0} (r : Ring X) (from count first : ℕ) → IsPlaced r → from + count ≤ capacity r → first ≡ min count (until_end r from) →
    count - first ≤ until_end r (from + first)
rest_unbroken r from count first p within is = elim (cases_lt 0 (capacity r)) [
  | inl some ↦ let a = wraps_once r.start from (capacity r) (p.1 some) (omega arith) in
      let b = wraps_once r.start (from + first) (capacity r) (p.1 some) (omega arith) in
      omega arith
  | inr none ↦ omega arith
]

module _ {X : Type 0} where
  pub overwritten-nil : (r : Ring X) (offset : ℕ) → overwritten r offset [] ≡ r
  overwritten-nil r offset =
      let z : offset + 0 ≡ offset = omega arith in
      rw (z, take-append-drop offset r.free) refl

  pub length-overwritten : (r : Ring X) (offset : ℕ) (ws : List X) → offset + length ws ≤ length r.free → length (overwritten r offset ws).free ≡ length r.free
  length-overwritten r offset ws fits =
      length-append (take offset r.free) (ws ++ drop (offset + length ws) r.free)
      ∙ omega (arith, length-append ws (drop (offset + length ws) r.free), length-drop (offset + length ws) r.free, length-take-le offset r.free (omega arith))

  -- elements written after those that were written
  pub overwritten-overwritten : (r : Ring X) (offset : ℕ) (vs ws : List X) → offset + length vs + length ws ≤ length r.free →
      overwritten (overwritten r offset vs) (offset + length vs) ws ≡ overwritten r offset (vs ++ ws)
  overwritten-overwritten r offset vs ws fits =
      let f = r.free in
      let a = length vs in
      let b = length ws in
      let head = take offset f in
      let tail = drop (offset + a) f in
      let head_len : length head ≡ offset = length-take-le offset f (omega arith) in
      let front_len : length (head ++ vs) ≡ offset + a = length-append head vs ∙ omega arith in
      let shape : head ++ (vs ++ tail) ≡ (head ++ vs) ++ tail = sym (append_assoc head vs tail) in
      let kept : take (offset + a) (head ++ (vs ++ tail)) ≡ head ++ vs = ap (λ ys. take (offset + a) ys) shape ∙
      take_at (head ++ vs) tail (offset + a) front_len in
      let gone : drop (offset + a) (head ++ (vs ++ tail)) ≡ tail = ap (λ ys. drop (offset + a) ys) shape ∙ drop_at (head ++ vs) tail (offset + a) front_len in
      let far : drop (offset + a + b) (head ++ (vs ++ tail)) ≡ drop (offset + a + b) f =
      sym (drop-drop b (offset + a) (head ++ (vs ++ tail))) ∙ ap (λ ys. drop b ys) gone ∙ drop-drop b (offset + a) f in
      let sum : offset + length (vs ++ ws) ≡ offset + a + b = omega (arith, length-append vs ws) in
      rw (kept, far, sum, append_assoc vs ws (drop (offset + a + b) f))
      (ap (λ ys. ring r.queue ys r.start) (append_assoc head vs (ws ++ drop (offset + a + b) f)))

  -- what is laid over a ring, where it does not reach the end of the storage
  pub laid_from-is : (r : Ring X) (offset : ℕ) (ws : List X) → IsPlaced r → offset + length ws ≤ capacity r → length ws ≤ until_end r offset → (ys : List X) →
      take offset (r.queue ++ r.free) ++ (ws ++ drop (offset + length ws) (r.queue ++ r.free)) ≡ ys →
      laid_from r offset ws ≡ ring (take (length r.queue) ys) (drop (length r.queue) ys) r.start
  unfolding ring_in
  laid_from-is r offset ws p fits unbroken ys is =
      let n : length (r.queue ++ r.free) ≡ capacity r = length-append r.queue r.free in
      let e = rotated-laid_from r offset ws p.0 p.1 fits unbroken ∙ laid_over-fits (r.queue ++ r.free) offset ws (omega arith) ∙ is in
      rw e refl

  -- the two unbroken parts of what is written to the free elements
  pub write_twice : (r : Ring X) (offset count first : ℕ) (vs ws xs : List X) → IsPlaced r → offset + count ≤ length r.free →
      first ≡ min count (until_end r (length r.queue + offset)) → count ≤ length xs → vs ≡ take first xs → ws ≡ take (count - first) (drop first xs) →
      laid_from (laid_from r (length r.queue + offset) vs) (length r.queue + offset + first) ws ≡ overwritten r offset (take count xs)
  write_twice r offset count first vs ws xs p fits is enough a b =
      let vs_len : length vs ≡ first = ap length a ∙ length-take-le first xs (omega arith) in
      let ws_len : length ws ≡ count - first = ap length b ∙ length-take-le (count - first) (drop first xs) (omega (arith, length-drop first xs)) in
      let one = overwritten r offset vs in
      let same = length-overwritten r offset vs (omega arith) in
      let n : capacity one ≡ capacity r = omega (arith, same) in
      let at : length r.queue + offset + first ≡ length r.queue + (offset + first) = add_assoc (length r.queue) offset first in
      let left = rest_unbroken r (length r.queue + offset) count first p (omega arith) is in
      let left' : count - first ≤ until_end r (length r.queue + (offset + first)) = rw at at left in
      let all : vs ++ ws ≡ take count xs = rw (a, b, ← take-add first (count - first) xs) (ap (λ k. take k xs) (omega arith)) in
      ap (λ s. laid_from s (length r.queue + offset + first) ws) (laid_from-free r offset vs p.0 p.1 (omega arith) (omega arith))
      ∙ ap (λ i. laid_from one i ws) at
      ∙ laid_from-free one (offset + first) ws (rw n p.0) (rw n p.1) (omega arith) (rw n (rw ws_len left'))
      ∙ ap (λ i. overwritten one (offset + i) ws) (sym vs_len)
      ∙ overwritten-overwritten r offset vs ws (omega arith)
      ∙ ap (λ ys. overwritten r offset ys) all

  -- the second part fits
  pub second_part : (r : Ring X) (offset count first : ℕ) (vs : List X) → IsPlaced r → offset + count ≤ length r.free →
      first ≡ min count (until_end r (length r.queue + offset)) → length vs ≡ first →
      (length r.queue + offset + first + (count - first) ≤ capacity (laid_from r (length r.queue + offset) vs)) ×
      (count - first ≤ until_end (laid_from r (length r.queue + offset) vs) (length r.queue + offset + first))
  second_part r offset count first vs p fits is long =
      let one = overwritten r offset vs in
      let same = length-overwritten r offset vs (omega arith) in
      let n : capacity one ≡ capacity r = omega (arith, same) in
      let left = rest_unbroken r (length r.queue + offset) count first p (omega arith) is in
      rw (laid_from-free r offset vs p.0 p.1 (omega arith) (omega arith), n) (omega arith, left)

  -- elements laid over what was just queued
  pub laid_from-extended : (r : Ring X) (count : ℕ) (ws : List X) → IsPlaced r → count ≤ contiguous r → length ws ≡ count →
      laid_from (extended r count) (length r.queue) ws ≡ enqueued r ws
  laid_from-extended r count ws p fits long =
      let q = r.queue in
      let f = r.free in
      let one = extended r count in
      let q_len : length (q ++ take count f) ≡ length q + count = length-append q (take count f) ∙ omega (arith, length-take-le count f (omega arith)) in
      let f_len = length-drop count f in
      let n : capacity one ≡ capacity r = omega arith in
      let shape : (q ++ take count f) ++ drop count f ≡ q ++ f = append_assoc q (take count f) (drop count f) ∙ ap (λ ys. q ++ ys) (take-append-drop count f) in
      let is : take (length q) ((q ++ take count f) ++ drop count f) ++ (ws ++ drop (length q + length ws) ((q ++ take count f) ++ drop count f)) ≡ (q ++ ws) ++
      drop (length ws) f =
      rw (shape, take_at q f (length q) refl, drop-append-add q f (length ws)) (sym (append_assoc q ws (drop (length ws) f))) in
      let front_len : length (q ++ ws) ≡ length (q ++ take count f) = length-append q ws ∙ omega arith in
      laid_from-is one (length q) ws (rw n p) (omega arith) (rw n (omega arith)) ((q ++ ws) ++ drop (length ws) f) is
      ∙ rw (
        take_at (q ++ ws) (drop (length ws) f) (length (q ++ take count f)) front_len,
        drop_at (q ++ ws) (drop (length ws) f) (length (q ++ take count f)) front_len,
      ) refl

  -- what was just given up lies before the end of the storage
  pub released-unbroken : (r : Ring X) (count : ℕ) → IsPlaced r → count ≤ length r.queue → count ≤ until_end r 0 → (capacity (released r count) ≡ capacity r) ×
      IsPlaced (released r count) × (count ≤ until_end (released r count) (capacity r - count))
  released-unbroken r count p fits unbroken =
      let q = r.queue in
      let f = r.free in
      let n : capacity (released r count) ≡ capacity r = omega (arith, length-drop count q, length-append f (take count q), length-take-le count q fits) in
      rw n (elim (cases_lt 0 (capacity r)) [
        | inl some ↦ let a = wraps_once r.start count (capacity r) (p.1 some) (omega arith) in
            let z = wraps_once r.start 0 (capacity r) (p.1 some) (omega arith) in
            let low : (r.start + count) % capacity r < capacity r = omega arith in
            let b = wraps_once ((r.start + count) % capacity r) (capacity r - count) (capacity r) low (omega arith) in
            (refl, (omega arith, λ _. low), omega arith)
        | inr none ↦ let c : count ≡ 0 = omega arith in
            let s : r.start ≡ 0 = omega arith in
            let z : capacity r ≡ 0 = omega arith in
            (refl, (rw (c, s, z) (omega arith), λ h. absurd (omega arith)), omega arith)
      ])

  -- elements laid over what was just given up
  pub laid_from-released : (r : Ring X) (count : ℕ) (ws : List X) → IsPlaced r → count ≤ length r.queue → count ≤ until_end r 0 → length ws ≡ count →
      laid_from (released r count) (capacity r - count) ws ≡ dequeued r ws
  laid_from-released r count ws p fits unbroken long =
      let q = r.queue in
      let f = r.free in
      let one = released r count in
      let rest = drop count q in
      let given = take count q in
      let rest_len = length-drop count q in
      let given_len = length-take-le count q fits in
      let u = released-unbroken r count p fits unbroken in
      let whole : length (rest ++ (f ++ given)) ≡ capacity r = length-append rest (f ++ given) ∙ u.0 in
      let front_len : length (rest ++ f) ≡ capacity r - count = length-append rest f ∙ omega arith in
      let front : take (capacity r - count) (rest ++ (f ++ given)) ≡ rest ++ f =
      ap (λ ys. take (capacity r - count) ys) (sym (append_assoc rest f given)) ∙ take_at (rest ++ f) given (capacity r - count) front_len in
      let none : drop (capacity r - count + length ws) (rest ++ (f ++ given)) ≡ [] = drop_all _ (rest ++ (f ++ given)) (omega arith) in
      let is : take (capacity r - count) (rest ++ (f ++ given)) ++ (ws ++ drop (capacity r - count + length ws) (rest ++ (f ++ given))) ≡ rest ++ (f ++ ws) =
      rw (front, none, append-nil ws) (append_assoc rest f ws) in
      laid_from-is one (capacity r - count) ws u.1 (omega (arith, u.0)) (omega (arith, u.2)) (rest ++ (f ++ ws)) is
      ∙ rw (take_at rest (f ++ ws) (length rest) refl, drop_at rest (f ++ ws) (length rest) refl, long) refl

  -- elements laid over the free ones, wherever they begin
  pub laid_from-unallocated : (r : Ring X) (offset size : ℕ) (ws : List X) → IsPlaced r → length ws ≡ unbroken_free r offset size →
      laid_from r (length r.queue + min offset (length r.free)) ws ≡ overwritten r offset ws
  laid_from-unallocated r offset size ws p long = elim (cases_lt (length r.free) offset) [
    | inl past ↦ let none : ws ≡ [] = nil_from_length ws (omega arith) in
        let at : min offset (length r.free) ≡ length r.free = omega arith in
        rw (none, at) (laid_from-free r (length r.free) [] p.0 p.1 (omega arith) (omega arith) ∙ overwritten-nil r (length r.free) ∙
        sym (overwritten-nil r offset))
    | inr here ↦ let at : min offset (length r.free) ≡ offset = omega arith in
        rw at (laid_from-free r offset ws p.0 p.1 (omega arith) (omega arith))
  ]

  -- writing from an offset past the free elements writes nothing
  pub overwritten-past : (r : Ring X) (offset : ℕ) (ws : List X) → length ws ≤ length r.free - offset →
      overwritten r (min offset (length r.free)) ws ≡ overwritten r offset ws
  overwritten-past r offset ws fits = elim (cases_lt (length r.free) offset) [
    | inl past ↦ let none : ws ≡ [] = nil_from_length ws (omega arith) in
        rw none (overwritten-nil r (min offset (length r.free)) ∙ sym (overwritten-nil r offset))
    | inr here ↦ ap (λ o. overwritten r o ws) (omega arith)
  ]

  -- what was written and then queued
  pub extended-overwritten : (r : Ring X) (ws : List X) → length ws ≤ length r.free → extended (overwritten r 0 ws) (length ws) ≡ enqueued r ws
  extended-overwritten r ws fits =
      let z : 0 + length ws ≡ length ws = omega arith in
      rw (z, take_at ws (drop (length ws) r.free) (length ws) refl, drop_at ws (drop (length ws) r.free) (length ws) refl) refl

  anchored-by_queue : (q f : List X) (s : ℕ) → ((q ≡ []) × (anchored (ring q f s) ≡ cleared (ring q f s))) ⊎ (anchored (ring q f s) ≡ ring q f s)
  anchored-by_queue [] f s = inl (refl, refl)
  anchored-by_queue (x ∷ xs) f s = inr (rw (eqb-suc-zero (length xs)) refl)

  pub anchored-cases : (r : Ring X) → ((r.queue ≡ []) × (anchored r ≡ cleared r)) ⊎ (anchored r ≡ r)
  anchored-cases r = anchored-by_queue r.queue r.free r.start

  -- an empty ring has as much room wherever it is read from
  pub length-anchored : (r : Ring X) → IsPlaced r → (length (anchored r).queue ≡ length r.queue) × (length (anchored r).free ≡ length r.free) ×
      IsPlaced (anchored r)
  length-anchored r p = elim (anchored-cases r) [
    | inl none ↦ rw none.1 (
        let n : length (storage_of r) ≡ capacity r = length-rotated (capacity r - r.start) (r.queue ++ r.free) (omega (arith, length-append r.queue r.free)) ∙
        length-append r.queue r.free in
        let e : length r.queue ≡ 0 = ap length none.0 in
        (sym e, n ∙ omega arith, (omega arith, λ h. h))
        )
    | inr same ↦ rw same (refl, refl, p)
  ]

  -- the two unbroken parts of what is read
  pub second_read : (r : Ring X) (offset count first : ℕ) → IsPlaced r → offset + count ≤ length r.queue → first ≡ min count (until_end r offset) →
      unbroken_queued r (offset + first) (count - first) ≡ count - first
  second_read r offset count first p fits is =
      let left = rest_unbroken r offset count first p (omega arith) is in
      omega arith

  pub read_twice : (q xs : List X) (offset count first : ℕ) → offset + count ≤ length q → count ≤ length xs → first ≤ count →
      take first (take first (drop offset q) ++ drop first xs) ++
      (take (count - first) (drop (offset + first) q) ++ drop (count - first) (drop first (take first (drop offset q) ++ drop first xs))) ≡
      take count (drop offset q) ++ drop count xs
  read_twice q xs offset count first fits enough part =
      let front = take first (drop offset q) in
      let front_len : length front ≡ first = length-take-le first (drop offset q) (omega (arith, length-drop offset q)) in
      let far : drop (count - first) (drop first xs) ≡ drop count xs = drop-drop (count - first) first xs ∙ ap (λ n. drop n xs) (omega arith) in
      let both : front ++ take (count - first) (drop (offset + first) q) ≡ take count (drop offset q) =
      rw (← drop-drop first offset q, ← take-add first (count - first) (drop offset q)) (ap (λ n. take n (drop offset q)) (omega arith)) in
      rw (
        take_at front (drop first xs) first front_len,
        drop_at front (drop first xs) first front_len,
        far,
        ← both,
      ) (sym (append_assoc front (take (count - first) (drop (offset + first) q)) (drop count xs)))

  -- where a ring begins whose free elements joined the queue
  pub IsPlaced-extended : (r : Ring X) (count : ℕ) → count ≤ length r.free → IsPlaced (extended r count) → IsPlaced r
  IsPlaced-extended r count fits p =
      let n : capacity (extended r count) ≡ capacity r =
      omega (arith, length-append r.queue (take count r.free), length-take-le count r.free fits, length-drop count r.free) in
      rw n at p

  -- what is lent by each call
  pub just_extended : (r : Ring X) (count : ℕ) → count ≤ length r.free →
      take count (drop (length r.queue) ((r.queue ++ take count r.free) ++ drop count r.free)) ≡ take count r.free
  just_extended r count fits =
      rw (append_assoc r.queue (take count r.free) (drop count r.free), take-append-drop count r.free, drop_at r.queue r.free (length r.queue) refl) refl

  pub just_released : (r : Ring X) (count : ℕ) → count ≤ length r.queue →
      take count (drop (capacity r - count) (drop count r.queue ++ (r.free ++ take count r.queue))) ≡ take count r.queue
  just_released r count fits =
      let rest = drop count r.queue in
      let given = take count r.queue in
      let given_len = length-take-le count r.queue fits in
      let front_len : length (rest ++ r.free) ≡ capacity r - count = length-append rest r.free ∙ omega (arith, length-drop count r.queue) in
      ap (λ ys. take count (drop (capacity r - count) ys)) (sym (append_assoc rest r.free given))
      ∙ ap (λ ys. take count ys) (drop_at (rest ++ r.free) given (capacity r - count) front_len)
      ∙ take_all count given (omega arith)

  pub just_free : (r : Ring X) (offset size : ℕ) → size ≤ length r.free - offset →
      take size (drop (length r.queue + min offset (length r.free)) (r.queue ++ r.free)) ≡ take size (drop offset r.free)
  just_free r offset size fits =
      ap (λ ys. take size ys) (drop-append-add r.queue r.free (min offset (length r.free)))
      ∙ elim (cases_lt (length r.free) offset) [
        | inl past ↦ let z : size ≡ 0 = omega arith in rw z refl
        | inr here ↦ ap (λ o. take size (drop o r.free)) (omega arith)
      ]

  -- a part from an offset past the end holds nothing
  pub take_drop-min : (xs : List X) (offset size : ℕ) → size ≤ length xs - offset → take size (drop (min offset (length xs)) xs) ≡ take size (drop offset xs)
  take_drop-min xs offset size fits = elim (cases_lt (length xs) offset) [
    | inl past ↦ let z : size ≡ 0 = omega arith in rw z refl
    | inr here ↦ ap (λ o. take size (drop o xs)) (omega arith)
  ]

  -- what is queued stays so
  pub anchored-queue : (r : Ring X) → length (anchored r).queue ≡ length r.queue
  anchored-queue r = elim (anchored-cases r) [
    | inl none ↦ rw none.1 (sym (ap length none.0))
    | inr same ↦ ap (λ s. length s.queue) same
  ]

  -- one element comes before the end of the storage
  pub one_unbroken : (r : Ring X) (offset : ℕ) → IsPlaced r → offset < capacity r → 1 ≤ until_end r offset
  one_unbroken r offset p within =
      let w = wraps_once r.start offset (capacity r) (p.1 (omega arith)) (omega arith) in
      omega arith

  pub laid_from-next : (r : Ring X) (w : X) → IsPlaced r → 0 < length r.free → laid_from r (length r.queue) (w ∷ []) ≡ overwritten r 0 (w ∷ [])
  laid_from-next r w p some =
      let z : length r.queue + 0 ≡ length r.queue = omega arith in
      let one = one_unbroken r (length r.queue) p (omega arith) in
      ap (λ i. laid_from r i (w ∷ [])) (sym z) ∙ laid_from-free r 0 (w ∷ []) p.0 p.1 some (rw z one)

  pub laid_from-first : (r : Ring X) (w : X) → IsPlaced r → 0 < length r.queue → laid_from r 0 (w ∷ []) ≡ rewritten r (w ∷ [])
  laid_from-first r w p some = laid_from-queue r (w ∷ []) p.0 p.1 some (one_unbroken r 0 p (omega arith))

  first_of_queue : (q f : List X) (x : X) → 0 < length q → slice_get (q ++ f) 0 ≡ Some x → slice_get q 0 ≡ Some x
  first_of_queue [] f x some e = absurd (omega (arith, some))
  first_of_queue (y ∷ q) f x some e = e

  pub first_queued : (r : Ring X) (x : X) → 0 < length r.queue → slice_get (r.queue ++ r.free) 0 ≡ Some x → slice_get r.queue 0 ≡ Some x
  first_queued r x some e = first_of_queue r.queue r.free x some e

  -- what was written over the first queued elements and then given up
  pub released-rewritten : (r : Ring X) (ws : List X) → length ws ≤ length r.queue → released (rewritten r ws) (length ws) ≡ dequeued r ws
  released-rewritten r ws fits =
      let rest = drop (length ws) r.queue in
      let n : length (ws ++ rest) + length r.free ≡ length r.queue + length r.free = omega (arith, length-append ws rest, length-drop (length ws) r.queue) in
      rw (n, drop_at ws rest (length ws) refl, take_at ws rest (length ws) refl) refl

  -- the lengths stay
  pub length-rewritten : (r : Ring X) (ws : List X) → length ws ≤ length r.queue → length (rewritten r ws).queue ≡ length r.queue
  length-rewritten r ws fits = length-append ws (drop (length ws) r.queue) ∙ omega (arith, length-drop (length ws) r.queue)

  -- the part that a call which takes many lends
  pub waiting-part : (r : Ring X) (size : ℕ) → size ≡ min (length r.queue) (until_end r 0) → take size (r.queue ++ r.free) ≡ waiting r
  waiting-part r size is =
      let k : unbroken_queued r 0 (length r.queue) ≡ size = omega arith in
      rw (k, take-append-le size r.queue r.free (omega arith)) refl

  pub length-waiting : (r : Ring X) → length (waiting r) ≡ min (length r.queue) (until_end r 0)
  length-waiting r = length-take-le _ r.queue (omega arith) ∙ omega arith

  after_queue : (q f : List X) (x : X) → slice_get (q ++ f) (length q) ≡ Some x → slice_get f 0 ≡ Some x
  after_queue [] f x e = e
  after_queue (y ∷ q) f x e = after_queue q f x e

  -- the element after the queued ones is the first free one
  pub next_free : (r : Ring X) (x : X) → slice_get (r.queue ++ r.free) (length r.queue) ≡ Some x → slice_get r.free 0 ≡ Some x
  next_free r x e = after_queue r.queue r.free x e

  -- a list with an element is not empty
  pub some_free : (xs : List X) (x : X) → slice_get xs 0 ≡ Some x → 0 < length xs
  some_free [] x e = cc
  some_free (y ∷ xs) x e = omega arith

  pub not_empty : (xs : List X) → (xs ≡ [] → ⊥) → 0 < length xs
  not_empty [] h = absurd (h refl)
  not_empty (y ∷ xs) h = omega arith

  -- the element that was just queued, and the one that was just given up
  pub just_queued : (r : Ring X) (x : X) → slice_get ((r.queue ++ take 1 r.free) ++ drop 1 r.free) (length r.queue) ≡ Some x → slice_get r.free 0 ≡ Some x
  just_queued r x e =
      let shape : (r.queue ++ take 1 r.free) ++ drop 1 r.free ≡ r.queue ++ r.free = append_assoc r.queue (take 1 r.free) (drop 1 r.free) ∙
      ap (λ ys. r.queue ++ ys) (take-append-drop 1 r.free) in
      next_free r x (rw shape at e)

  first_taken : (q : List X) (x : X) → slice_get (take 1 q) 0 ≡ Some x → slice_get q 0 ≡ Some x
  first_taken [] x e = e
  first_taken (y ∷ q) x e = e

  pub just_given : (r : Ring X) (x : X) → 0 < length r.queue → slice_get (drop 1 r.queue ++ (r.free ++ take 1 r.queue)) (capacity r - 1) ≡ Some x →
      slice_get r.queue 0 ≡ Some x
  just_given r x some e =
      let front = drop 1 r.queue ++ r.free in
      let shape : drop 1 r.queue ++ (r.free ++ take 1 r.queue) ≡ front ++ take 1 r.queue = sym (append_assoc (drop 1 r.queue) r.free (take 1 r.queue)) in
      let n : capacity r - 1 ≡ length front = omega (arith, length-append (drop 1 r.queue) r.free, length-drop 1 r.queue) in
      first_taken r.queue x (after_queue front (take 1 r.queue) x (rw (shape, n) at e))

  -- elements laid over the first free ones
  pub laid_from-many : (r : Ring X) (ws : List X) → IsPlaced r → length ws ≤ length r.free → length ws ≤ until_end r (length r.queue) →
      laid_from r (length r.queue) ws ≡ overwritten r 0 ws
  laid_from-many r ws p fits unbroken =
      let z : length r.queue + 0 ≡ length r.queue = omega arith in
      ap (λ i. laid_from r i ws) (sym z) ∙ laid_from-free r 0 ws p.0 p.1 (omega arith) (rw z unbroken)

  pub length-overwritten_many : (r : Ring X) (ws : List X) → length ws ≤ length r.free → length (overwritten r 0 ws).free ≡ length r.free
  length-overwritten_many r ws fits = length-overwritten r 0 ws (omega arith)

  -- a list whose first elements are put into their known state
  pub reset_more : (f : X → X) (xs : List X) (i : ℕ) (x y : X) → i < length xs → x ≡ get_or (map f (take i xs) ++ drop i xs) i x → y ≡ f x →
      set (map f (take i xs) ++ drop i xs) i y ≡ map f (take (i + 1) xs) ++ drop (i + 1) xs
  reset_more f xs i x y within read is =
      let n : length (map f (take i xs)) ≡ i = length-map (take i xs) f ∙ length-take-le i xs (omega arith) in
      let rest : drop i xs ≡ get_or xs i x ∷ drop (i + 1) xs = drop_more xs i x within in
      let here : x ≡ get_or xs i x = read ∙ ap (λ ys. get_or (map f (take i xs) ++ ys) i x) rest ∙
      get_or_at (map f (take i xs)) (get_or xs i x) (drop (i + 1) xs) x i n in
      ap (λ ys. set (map f (take i xs) ++ ys) i y) rest
      ∙ set_at (map f (take i xs)) (get_or xs i x) (drop (i + 1) xs) y i n
      ∙ ap (λ v. map f (take i xs) ++ v ∷ drop (i + 1) xs) (is ∙ ap f here)
      ∙ sym (ap (λ ys. ys ++ drop (i + 1) xs) (map_more f xs i x within) ∙ append_assoc (map f (take i xs)) (f (get_or xs i x) ∷ []) (drop (i + 1) xs))

  pub reset_all : (f : X → X) (xs : List X) (n : ℕ) → n ≡ length xs → map f (take n xs) ++ drop n xs ≡ map f xs
  reset_all f xs n e = rw (take_all n xs (omega arith), drop_all n xs (omega arith)) (append-nil (map f xs))
