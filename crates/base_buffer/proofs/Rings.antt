-- What a ring's value says of its fields, and its fields of the value.
use Rattle.std.proofs.lemmas.Option.{slice_get_read}
use Rattle.std.specs.Prelude.{slice_get, Some}
use Rattle.std.proofs.Common.{add-one, zero-add, suc, set, ◌≡◌, ℕ, ◌+◌, ◌-◌, ◌%◌, ◌<◌, ◌≤◌, List, [], ◌∷◌, ◌++◌, length, get_or, take, drop, min, refl, sym, ap, ◌∙◌, inl, inr}
use Rattle.std.proofs.Common.{arith, length-append, length-drop, length-take, take-append-drop, append_assoc}
use Rattle.std.proofs.lemmas.List.{take_at, drop_at, length-take-le, take-append-le, drop-append-le, take-take, drop-drop, drop-take, append-nil}
use Rattle.std.proofs.lemmas.List.{nil_from_length, set_split}
use Rattle.std.proofs.lemmas.Bool.{cases_lt}
use Rattle.std.proofs.lemmas.Bool.Decides.{eqb_tells, leb_tells}
use Rattle.std.proofs.Math.Nat.{mod-eq_of_lt, zero-mod, add-zero}
use Rattle.std.proofs.Math.Seq.{take-add, take-append-add, drop-append-add}
use Rattle.base_buffer.specs.Ring.{Ring, ring, ring_in, IsRing, rotated, laid_over, laid_from, storage_of, capacity, offset_of, until_end, extended, released}
use Rattle.base_buffer.specs.Ring.{overwritten, rewritten, IsPlaced, unbroken_queued, begun_at}
use Rattle.base_buffer.proofs.Rotations.{length-rotated, rotated_back, rotated_forth, laid_over-fits, wraps_once, rotated-rotated, rotated-laid_at}
use Rattle.base_buffer.proofs.Rotations.{part-rotated_at, get_or-rotated}

module _ {X : Type 0} where
  -- the ring in the storage, as a value
  pub record Sees (xs : List X) (start count : ℕ) (r : Ring X) : Type 0 where
    pub room : capacity r ≡ length xs
    pub queued : length r.queue ≡ count
    pub left : length r.free ≡ length xs - count
    pub starts : r.start ≡ start
    pub storage : storage_of r ≡ xs
    pub whole : r.queue ++ r.free ≡ rotated start xs

  pub sees : (xs : List X) (start count : ℕ) (r : Ring X) → IsRing xs start count → ring_in xs start count ≡ r → Sees xs start count r
  unfolding ring_in
  sees xs start count r ok e =
      let turned = length-rotated start xs ok.start_within in
      let q : r.queue ≡ take count (rotated start xs) = sym (ap (λ v. v.queue) e) in
      let f : r.free ≡ drop count (rotated start xs) = sym (ap (λ v. v.free) e) in
      let s : r.start ≡ start = sym (ap (λ v. v.start) e) in
      let both : r.queue ++ r.free ≡ rotated start xs = rw (q, f) (take-append-drop count (rotated start xs)) in
      let cap : capacity r ≡ length xs = sym (length-append r.queue r.free) ∙ ap length both ∙ turned in
      record {
        room = cap;
        queued = ap length q ∙ length-take-le count (rotated start xs) (omega (arith, ok.count_within));
        left = ap length f ∙ length-drop count (rotated start xs) ∙ omega arith;
        starts = s;
        storage = rw (both, cap, s) (rotated_back start xs ok.start_within);
        whole = both;
      }

  -- the value of a ring in storage of its own
  pub ring_in-storage_of : (r : Ring X) → r.start ≤ capacity r → ring_in (storage_of r) r.start (length r.queue) ≡ r
  unfolding ring_in
  ring_in-storage_of r within =
      let e : rotated r.start (storage_of r) ≡ r.queue ++ r.free =
      (let n = length-append r.queue r.free in rw (sym n) (rotated_forth r.start (r.queue ++ r.free) (omega arith))) in
      rw (e, take_at r.queue r.free (length r.queue) refl, drop_at r.queue r.free (length r.queue) refl) refl

  -- more or less queued, at the same start
  pub ring_in-more : (xs : List X) (start count more : ℕ) → IsRing xs start count → count + more ≤ length xs →
      ring_in xs start (count + more) ≡ extended (ring_in xs start count) more
  unfolding ring_in
  ring_in-more xs start count more ok within =
      rw (take-add count more (rotated start xs), drop-drop more count (rotated start xs)) refl

  pub ring_in-fewer : (xs : List X) (start count fewer : ℕ) → IsRing xs start count → fewer ≤ count →
      ring_in xs ((start + fewer) % length xs) (count - fewer) ≡ released (ring_in xs start count) fewer
  unfolding ring_in
  ring_in-fewer xs start count fewer ok within =
      let all = rotated start xs in
      let turned = length-rotated start xs ok.start_within in
      let cap : length (take count all) + length (drop count all) ≡ length xs =
      sym (length-append (take count all) (drop count all)) ∙ ap length (take-append-drop count all) ∙ turned in
      elim (cases_lt 0 (length xs)) [
        | inl some ↦ let there : start < length xs = ok.start_below some in
            let on = rotated-rotated start fewer xs there (omega (arith, ok.count_within)) in
            let long : count - fewer ≤ length (drop fewer all) = omega (arith, length-drop fewer all, ok.count_within) in
            let e : count ≡ fewer + (count - fewer) = omega arith in
            let queue : take (count - fewer) (drop fewer all) ≡ drop fewer (take count all) = sym (drop-take fewer (count - fewer) all) ∙
            ap (λ n. drop fewer (take n all)) (sym e) in
            let free : drop (count - fewer) (drop fewer all) ≡ drop count all = drop-drop (count - fewer) fewer all ∙ ap (λ n. drop n all) (sym e) in
            rw (
              on,
              take-append-le (count - fewer) (drop fewer all) (take fewer all) long,
              drop-append-le (count - fewer) (drop fewer all) (take fewer all) long,
              queue,
              free,
              take-take fewer count all within,
              cap,
            ) refl
        | inr none ↦ let nil : xs ≡ [] = nil_from_length xs (omega arith) in
            let a : start ≡ 0 = omega (arith, ok.start_within) in
            let b : count ≡ 0 = omega (arith, ok.count_within) in
            let d : fewer ≡ 0 = omega (arith, ok.count_within) in
            rw (nil, a, b, d) refl
      ]

  -- what is laid over a ring from an offset on, in its storage
  pub laid_from-ring_in : (xs : List X) (start count offset : ℕ) (ws : List X) (r : Ring X) → Sees xs start count r →
      laid_from r offset ws ≡ ring_in (laid_over xs ((start + offset) % length xs) ws) start count
  laid_from-ring_in xs start count offset ws r v = rw (v.storage, v.room, v.starts, v.queued) refl

  -- what is laid over an unbroken part of a ring
  pub rotated-laid_from : (r : Ring X) (offset : ℕ) (ws : List X) → r.start ≤ capacity r → (0 < capacity r → r.start < capacity r) →
      offset + length ws ≤ capacity r → length ws ≤ until_end r offset →
      rotated r.start (laid_over (storage_of r) (offset_of r offset) ws) ≡ laid_over (r.queue ++ r.free) offset ws
  rotated-laid_from r offset ws within below fits unbroken =
      let all = r.queue ++ r.free in
      let n : length all ≡ capacity r = length-append r.queue r.free in
      let store = storage_of r in
      let whole : rotated r.start store ≡ all = rw (sym n) (rotated_forth r.start all (omega arith)) in
      let m : length store ≡ capacity r = length-rotated (capacity r - r.start) all (omega arith) ∙ n in
      elim (cases_lt 0 (capacity r)) [
        | inl some ↦ let wrapped = wraps_once r.start offset (capacity r) (below some) (omega arith) in
            rotated-laid_at (capacity r) r.start offset store ws (sym m) (below some) fits (omega arith) ∙ ap (λ ys. laid_over ys offset ws) whole
        | inr none ↦ let w : ws ≡ [] = nil_from_length ws (omega arith) in
            let q : r.queue ≡ [] = nil_from_length r.queue (omega arith) in
            let f : r.free ≡ [] = nil_from_length r.free (omega arith) in
            let o : offset ≡ 0 = omega arith in
            let s : r.start ≡ 0 = omega arith in
            rw (w, q, f, o, s) refl
      ]

  -- elements laid over the free ones
  pub laid_from-free : (r : Ring X) (offset : ℕ) (ws : List X) → r.start ≤ capacity r → (0 < capacity r → r.start < capacity r) →
      offset + length ws ≤ length r.free → length ws ≤ until_end r (length r.queue + offset) →
      laid_from r (length r.queue + offset) ws ≡ overwritten r offset ws
  unfolding ring_in
  laid_from-free r offset ws within below fits unbroken =
      let q = r.queue in
      let f = r.free in
      let rest = ws ++ drop (offset + length ws) f in
      let n : length (q ++ f) ≡ length q + length f = length-append q f in
      let cut : length q + offset + length ws ≡ length q + (offset + length ws) = omega arith in
      let e : rotated r.start (laid_over (storage_of r) (offset_of r (length q + offset)) ws) ≡ q ++ (take offset f ++ rest) =
      rotated-laid_from r (length q + offset) ws within below (omega arith) unbroken
      ∙ laid_over-fits (q ++ f) (length q + offset) ws (omega arith)
      ∙ rw (take-append-add q f offset, cut, drop-append-add q f (offset + length ws)) (append_assoc q (take offset f) rest) in
      rw (e, take_at q (take offset f ++ rest) (length q) refl, drop_at q (take offset f ++ rest) (length q) refl) refl

  -- elements laid over the first queued ones
  pub laid_from-queue : (r : Ring X) (ws : List X) → r.start ≤ capacity r → (0 < capacity r → r.start < capacity r) → length ws ≤ length r.queue →
      length ws ≤ until_end r 0 → laid_from r 0 ws ≡ rewritten r ws
  unfolding ring_in
  laid_from-queue r ws within below fits unbroken =
      let q = r.queue in
      let f = r.free in
      let n : length (q ++ f) ≡ length q + length f = length-append q f in
      let cut : 0 + length ws ≡ length ws = omega arith in
      let front = ws ++ drop (length ws) q in
      let long : length front ≡ length q = length-append ws (drop (length ws) q) ∙ omega (arith, length-drop (length ws) q) in
      let e : rotated r.start (laid_over (storage_of r) (offset_of r 0) ws) ≡ front ++ f =
      rotated-laid_from r 0 ws within below (omega arith) unbroken
      ∙ laid_over-fits (q ++ f) 0 ws (omega arith)
      ∙ rw (cut, drop-append-le (length ws) q f fits) (sym (append_assoc ws (drop (length ws) q) f)) in
      rw (e, take_at front f (length q) long, drop_at front f (length q) long) refl

  -- nothing queued, from the first place on
  pub ring_in-start : (xs : List X) → ring_in xs 0 0 ≡ ring [] xs 0
  unfolding ring_in
  ring_in-start xs = rw (append-nil xs) refl

  -- nothing queued, from any offset on
  pub ring_in-nothing : (xs : List X) (start : ℕ) → start ≤ length xs → ((ring_in xs start 0).queue ≡ []) × (capacity (ring_in xs start 0) ≡ length xs) ×
      ((ring_in xs start 0).start ≡ start)
  unfolding ring_in
  ring_in-nothing xs start within = (refl, zero-add (length (rotated start xs)) ∙ length-rotated start xs within, refl)

  -- an empty ring begins at a place of its storage
  pub begun-here : (r : Ring X) (start : ℕ) → length r.queue ≡ 0 → start < capacity r → begun_at r start ≡ start
  begun-here r start e below = elim (eqb_tells (length r.queue) 0) [
    | inl none ↦ elim (leb_tells (suc start) (capacity r)) [ inl less ↦ rw (none.0, less.0) refl | inr past ↦ absurd (omega (arith, past.1, below)) ]
    | inr some ↦ absurd (some.1 e)
  ]

  -- such a ring is placed
  pub IsRing-start : (xs : List X) → IsRing xs 0 0
  IsRing-start xs = record { start_within = omega arith; start_below = λ h. h; count_within = omega arith }

  -- where the read offset lies
  pub placed : (xs : List X) (start count : ℕ) (r : Ring X) → IsRing xs start count → Sees xs start count r → IsPlaced r
  placed xs start count r ok v =
      (omega (arith, v.room, v.starts, ok.start_within), λ h. omega (arith, v.room, v.starts, ok.start_below (omega (arith, v.room))))

  -- the read offset is that of the first element
  pub first_offset : (xs : List X) (start count : ℕ) → IsRing xs start count → start ≡ (start + 0) % length xs
  first_offset xs start count ok = elim (cases_lt 0 (length xs)) [
    | inl some ↦ let low : start + 0 < length xs = omega (arith, ok.start_below some) in
        sym (mod-eq_of_lt low ∙ add-zero start)
    | inr none ↦ let z : start ≡ 0 = omega (arith, ok.start_within) in
        rw z (sym (zero-mod (length xs)))
  ]

  -- an unbroken part of the storage, as a part of the ring
  pub part_of : (xs : List X) (start count : ℕ) (r : Ring X) (position offset size : ℕ) → IsRing xs start count → Sees xs start count r →
      position ≡ (start + offset) % length xs → offset + size ≤ length xs → position + size ≤ length xs →
      take (position + size - position) (drop position xs) ≡ take size (drop offset (r.queue ++ r.free))
  part_of xs start count r position offset size ok v is within unbroken =
      let k : position + size - position ≡ size = omega arith in
      elim (cases_lt 0 (length xs)) [
        | inl some ↦ rw (k, is, v.whole) (part-rotated_at (length xs) start offset size xs refl (ok.start_below some) within (rw is at unbroken))
        | inr none ↦ let z : size ≡ 0 = omega arith in rw (k, z) refl
      ]

  -- where an unbroken part ends
  pub ends_within : (xs : List X) (start count : ℕ) (r : Ring X) (position offset size : ℕ) → Sees xs start count r → position ≡ (start + offset) % length xs →
      position ≤ length xs → size ≤ until_end r offset → position + size ≤ length xs
  ends_within xs start count r position offset size v is within unbroken =
      let u : size ≤ length xs - (start + offset) % length xs = rw (v.room, v.starts) at unbroken in
      omega (arith, u)

  -- what a `Vec` holds after a write from the index on
  laid_over-refilled : (xs : List X) (at : ℕ) (ws : List X) → at ≤ length xs →
      take (length xs) (take at xs ++ (ws ++ drop (length ws) (drop at xs)) ++ drop (length (take at xs ++ (ws ++ drop (length ws) (drop at xs)))) xs) ≡
      laid_over xs at ws
  laid_over-refilled xs at ws within =
      let ys = take at xs ++ (ws ++ drop (length ws) (drop at xs)) in
      take-append-le (length xs) ys (drop (length ys) xs) (simp (length-append, length-drop, length-take) (omega arith))

  -- a ring whose storage was written to from an offset on
  pub lent_from : (xs : List X) (start count : ℕ) (r : Ring X) (len position offset : ℕ) (ws : List X) → Sees xs start count r →
      position ≡ (start + offset) % length xs → len ≡ length xs → position ≤ length xs →
      ring_in (take len (take position xs ++ (ws ++ drop (length ws) (drop position xs)) ++
      drop (length (take position xs ++ (ws ++ drop (length ws) (drop position xs)))) xs)) start count ≡ laid_from r offset ws
  lent_from xs start count r len position offset ws v is n within =
      let e : take len (take position xs ++ (ws ++ drop (length ws) (drop position xs)) ++
      drop (length (take position xs ++ (ws ++ drop (length ws) (drop position xs)))) xs) ≡ laid_over xs ((start + offset) % length xs) ws =
      rw n (laid_over-refilled xs position ws within) ∙ ap (λ p. laid_over xs p ws) is in
      ap (λ ys. ring_in ys start count) e ∙ sym (laid_from-ring_in xs start count offset ws r v)

  -- a ring whose storage was written to at an offset
  pub lent_at : (xs : List X) (start count : ℕ) (r : Ring X) (position offset : ℕ) (w : X) → Sees xs start count r → position ≡ (start + offset) % length xs →
      position < length xs → ring_in (set xs position w) start count ≡ laid_from r offset (w ∷ [])
  lent_at xs start count r position offset w v is within =
      let e : set xs position w ≡ laid_over xs ((start + offset) % length xs) (w ∷ []) =
      set_split xs position w within ∙ rw (← add-one) (sym (laid_over-fits xs position (w ∷ []) (omega arith))) ∙ ap (λ p. laid_over xs p (w ∷ [])) is in
      ap (λ ys. ring_in ys start count) e ∙ sym (laid_from-ring_in xs start count offset (w ∷ []) r v)

  -- an element of the storage, as one of the ring
  pub element_of : (xs : List X) (start count : ℕ) (r : Ring X) (position offset : ℕ) (x : X) → IsRing xs start count → Sees xs start count r →
      position ≡ (start + offset) % length xs → offset < length xs → x ≡ get_or xs position x → slice_get (r.queue ++ r.free) offset ≡ Some x
  element_of xs start count r position offset x ok v is within read =
      let all = length-append r.queue r.free in
      slice_get_read (r.queue ++ r.free) (length (r.queue ++ r.free)) offset x refl (omega (arith, v.room)) (
      rw (v.whole, get_or-rotated start offset xs x (ok.start_below (omega arith)) within, ← is) read
      )

  -- the unbroken part of what is queued
  pub unbroken_part : (xs : List X) (start count : ℕ) (r : Ring X) (position offset from size len : ℕ) → IsRing xs start count → Sees xs start count r →
      from ≡ min offset count → position ≡ (start + from) % length xs → position ≤ length xs → len ≡ min (min size (count - from)) (length xs - position) →
      len ≡ unbroken_queued r offset size
  unbroken_part xs start count r position offset from size len ok v o is within k =
      rw (v.room, v.starts, v.queued) (elim (cases_lt count offset) [
        | inl past ↦ omega arith
        | inr here ↦ let same : from ≡ offset = omega arith in
            let at : position ≡ (start + offset) % length xs = is ∙ ap (λ i. (start + i) % length xs) same in
            omega arith
      ])

  pub queued_part : (xs : List X) (start count : ℕ) (r : Ring X) (position offset from size len : ℕ) → IsRing xs start count → Sees xs start count r →
      from ≡ min offset count → position ≡ (start + from) % length xs → position ≤ length xs → len ≡ min (min size (count - from)) (length xs - position) →
      take (position + len - position) (drop position xs) ≡ take len (drop offset r.queue)
  queued_part xs start count r position offset from size len ok v o is within k =
      let q : from ≤ length r.queue = omega (arith, v.queued) in
      let room : len ≤ length (drop from r.queue) = omega (arith, length-drop from r.queue, v.queued) in
      let part : take (position + len - position) (drop position xs) ≡ take len (drop from r.queue) =
      part_of xs start count r position from len ok v is (omega (arith, ok.count_within)) (omega arith)
      ∙ ap (λ ys. take len ys) (drop-append-le from r.queue r.free q)
      ∙ take-append-le len (drop from r.queue) r.free room in
      elim (cases_lt count offset) [
        | inl past ↦ let z : len ≡ 0 = omega arith in part ∙ rw z refl
        | inr here ↦ let same : from ≡ offset = omega arith in part ∙ ap (λ i. take len (drop i r.queue)) same
      ]
