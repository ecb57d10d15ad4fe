-- What a contract sees of a `RingBuffer`.
use Rattle.std.specs.Prelude.{ℕ, ◌+◌, ◌-◌, ◌%◌, ◌<◌, ◌≤◌, ◌==◌, nat_lt, ◌&&◌, if◌then◌else◌, min, List, [], ◌++◌, length, take, drop, refl}
use Rattle.std.specs.Coded.{Coded, code_by, coded×, coded_list, coded_ℕ}

-- The storage read from the read offset on and round its end, cut into the queued elements and the free ones after them.
-- `start` is the read offset: the place of the first queued element in the storage.
pub record Ring (X : Type 0) : Type 0 where
  pub queue : List X
  pub free : List X
  pub start : ℕ

module _ {X : Type 0} where
  abbrev pub ring : List X → List X → ℕ → Ring X
  ring queue free start = record { queue = queue; free = free; start = start }

  abbrev pub ring_code : Coded X → Coded (Ring X)
  ring_code c =
      code_by (List X × (List X × ℕ)) (coded× (coded_list c) (coded× (coded_list c) coded_ℕ)) (λ r. (r.queue, (r.free, r.start)))
      (λ p. ring p.0 p.1.0 p.1.1) (λ _. refl)

  -- how many elements the ring holds at most
  abbrev pub capacity : Ring X → ℕ
  capacity r = length r.queue + length r.free

  -- the elements from the index on, and then those before it
  abbrev pub rotated : ℕ → List X → List X
  rotated start xs = drop start xs ++ take start xs

  -- the storage in its own order
  abbrev pub storage_of : Ring X → List X
  storage_of r = rotated (capacity r - r.start) (r.queue ++ r.free)

  -- nothing is queued, and the read offset is the storage's first
  abbrev pub cleared : Ring X → Ring X
  cleared r = ring [] (storage_of r) 0

  -- an empty ring is read from the storage's first offset on, which leaves all of it unbroken
  abbrev pub anchored : Ring X → Ring X
  anchored r = if length r.queue == 0 then cleared r else r

  -- where an empty ring is read from that is to be read from this offset on, if it is one of the storage
  abbrev pub begun_at : Ring X → ℕ → ℕ
  begun_at r start = if (length r.queue == 0) && nat_lt start (capacity r) then start else r.start

  -- the offset in the storage of the element `offset` after the read offset
  abbrev pub offset_of : Ring X → ℕ → ℕ
  offset_of r offset = (r.start + offset) % capacity r

  -- how many elements from that one on come before the end of the storage
  abbrev pub until_end : Ring X → ℕ → ℕ
  until_end r offset = capacity r - offset_of r offset

  -- the read offset is one of the storage, or 0 where there is none
  abbrev pub IsPlaced : Ring X → Type 0
  IsPlaced r = (r.start ≤ capacity r) × (0 < capacity r → r.start < capacity r)

  -- how many can be queued before the end of the storage
  abbrev pub contiguous : Ring X → ℕ
  contiguous r = min (length r.free) (until_end r (length r.queue))

  -- the length of the unbroken part of the free elements from the offset on, at most `size`
  abbrev pub unbroken_free : Ring X → ℕ → ℕ → ℕ
  unbroken_free r offset size = min size (min (length r.free - offset) (until_end r (length r.queue + offset)))

  -- where the free elements from the offset on begin, counted from the read offset
  abbrev pub free_from : Ring X → ℕ → ℕ
  free_from r offset = length r.queue + min offset (length r.free)

  -- how many a call queues that may queue `size`
  abbrev pub queued_count : Ring X → ℕ → ℕ
  queued_count r size = min size (contiguous (anchored r))

  -- the length of the unbroken part of the queued elements from the offset on, at most `size`
  abbrev pub unbroken_queued : Ring X → ℕ → ℕ → ℕ
  unbroken_queued r offset size = min size (min (length r.queue - offset) (until_end r offset))

  -- the free elements with others laid over them from the offset on
  abbrev pub overwritten : Ring X → ℕ → List X → Ring X
  overwritten r offset written =
      ring r.queue (take offset r.free ++ (written ++ drop (offset + length written) r.free)) r.start

  -- the queue's first elements replaced
  abbrev pub rewritten : Ring X → List X → Ring X
  rewritten r written = ring (written ++ drop (length written) r.queue) r.free r.start

  -- the first free elements join the queue
  abbrev pub extended : Ring X → ℕ → Ring X
  extended r count = ring (r.queue ++ take count r.free) (drop count r.free) r.start

  -- the first queued elements become the last free ones
  abbrev pub released : Ring X → ℕ → Ring X
  released r count =
      ring (drop count r.queue) (r.free ++ take count r.queue) ((r.start + count) % capacity r)

  -- elements queued after the others, over the first free ones
  abbrev pub enqueued : Ring X → List X → Ring X
  enqueued r written = ring (r.queue ++ written) (drop (length written) r.free) r.start

  -- the first queued elements become the last free ones, with these in their offset
  abbrev pub dequeued : Ring X → List X → Ring X
  dequeued r written =
      ring (drop (length written) r.queue) (r.free ++ written) ((r.start + length written) % capacity r)

  -- what a call that queues many may write to: the unbroken part of the free elements, of an empty ring all of them
  abbrev pub offered : Ring X → List X
  offered r = take (contiguous (anchored r)) (anchored r).free

  -- what a call that takes many may read: the unbroken part of the queued elements
  abbrev pub waiting : Ring X → List X
  waiting r = take (unbroken_queued r 0 (length r.queue)) r.queue

  -- xs with others laid over it from the index on, as far as it goes
  abbrev pub laid_over : List X → ℕ → List X → List X
  laid_over xs at written = take (length xs) (take at xs ++ (written ++ drop (length written) (drop at xs)))

  -- the ring in this storage that begins at the start and has so many elements queued
  unfoldable pub ring_in : List X → ℕ → ℕ → Ring X
  ring_in xs start count = ring (take count (rotated start xs)) (drop count (rotated start xs)) start

  -- the start lies in the storage, or is 0 where there is none
  pub record IsRing (xs : List X) (start count : ℕ) : Type 0 where
    pub start_within : start ≤ length xs
    pub start_below : 0 < length xs → start < length xs
    pub count_within : count ≤ length xs

  -- The storage with elements laid over it from the place of the one at the offset on. Where they end before the storage
  -- does, these are the elements from the offset on, counted from the read offset.
  abbrev pub laid_from : Ring X → ℕ → List X → Ring X
  laid_from r offset written =
      ring_in (laid_over (storage_of r) (offset_of r offset) written) r.start (length r.queue)
