-- The steps of a packet queue: what its value is after each, by the entries and the bytes.
use Rattle.std.proofs.Common.{◌≡◌, ◌≢◌, ℕ, suc, ◌+◌, ◌-◌, ◌<◌, ◌≤◌, ◌%◌, ◌⊎◌, List, [], ◌∷◌, ◌++◌, length, take, drop, min, refl, sym, ap, subst, ◌∙◌, inl, inr}
use Rattle.std.proofs.Common.{append_assoc, zero-add, arith, length-append, length-drop, true, false, Decides}
use Rattle.std.specs.Prelude.{Option, None, Some, IsSome, IsTrue, slice_get, ◌||◌, ◌&&◌, nat_lt, nat_le, if◌then◌else◌}
use Rattle.std.proofs.lemmas.Bool.{cases_lt, false≢true}
use Rattle.std.proofs.lemmas.Bool.Decides.{eqb_tells, leb_tells, Decides-ltb, Decides-or, Decides-and}
use Rattle.std.proofs.lemmas.List.{length-take-le, take_at, drop_at, take_all, drop_all, take-take, take-append-le, append-nil}
use Rattle.std.proofs.Math.Nat.{mod-add-mod, mod-le, mod-eq_of_lt, mod_self, zero-mod, add-zero}
use Rattle.std.proofs.Math.Dec.{eqb-suc-zero}
use Rattle.base_buffer.specs.Ring.{Ring, ring, ring_in, capacity, until_end, contiguous, anchored, extended, released, rewritten, overwritten, enqueued}
use Rattle.base_buffer.specs.Ring.{laid_from, unbroken_free, unbroken_queued, storage_of, offset_of, rotated, laid_over, begun_at, IsPlaced}
use Rattle.base_buffer.specs.Packets.{QueuedPacket, Packets, packet, packets_in, used_offsets, used_room, window, start_of, unbroken, padding_for}
use Rattle.base_buffer.specs.Packets.{is_full_for, appended, unpadded, first, first_by, without_first, with_first}
use Rattle.base_buffer.specs.Entries.{entry, padded, padding_first, packets_of, BeginsWithPacket, AreLaid, size_of, AreEntries, packets_seen}
use Rattle.base_buffer.specs.declared.packet_buffer.PacketMetadata.{PacketMetadata}
use Rattle.base_buffer.proofs.Rotations.{length-rotated, length-laid_over}
use Rattle.base_buffer.proofs.RingSteps.{anchored-cases, length-anchored, length-overwritten}
use Rattle.base_buffer.proofs.PacketQueues.{used_offsets-packets_of, used_room-packets_of, size_of-append, AreLaid-append, AreLaid-from_zero}
use Rattle.base_buffer.proofs.PacketQueues.{packets_of-append, entries_for, AreLaid-entries_for, size_of-entries_for, packets_of-entries_for}

-- where the read offset moves to
pub IsPlaced-moved : (start count room : ℕ) → (start ≤ room) × (0 < room → start < room) → count ≤ room → ((start + count) % room ≤ room) ×
    (0 < room → (start + count) % room < room)
IsPlaced-moved start count room p fits = elim (cases_lt 0 room) [
  | inl some ↦ let low : (start + count) % room < room = omega arith in (omega arith, λ _. low)
  | inr none ↦ let z : room ≡ 0 = omega arith in
      let e : start + count ≡ 0 = omega arith in
      rw (e, zero-mod room) (omega arith, λ h. absurd (omega arith))
]

-- there is no room, by the numbers
abbrev pub IsFull : ℕ → ℕ → ℕ → ℕ → ℕ → Type 0
IsFull positions used left unbroken size =
    (positions ≤ used) ⊎ ((left < size) ⊎ ((unbroken < size) × ((positions ≤ used + 1) ⊎ (left - unbroken < size))))

Decides-leb : (a b : ℕ) → Decides (nat_le a b) (a ≤ b)
Decides-leb a b = elim (leb_tells a b) [
  | inl told ↦ (λ _. told.1, λ _. told.0)
  | inr denied ↦ (λ e. absurd (false≢true (sym denied.0 ∙ e)), λ h. absurd (omega arith))
]

pub is_full_tells : (positions used left unbroken size : ℕ) →
    Decides (nat_le positions used || (nat_lt left size || (nat_lt unbroken size && (nat_le positions (used + 1) || nat_lt (left - unbroken) size))))
    (IsFull positions used left unbroken size)
is_full_tells positions used left unbroken size =
    Decides-or _ _ (Decides-leb positions used)
    (Decides-or _ _ (Decides-ltb left size)
    (Decides-and _ _ (Decides-ltb unbroken size) (Decides-or _ _ (Decides-leb positions (used + 1)) (Decides-ltb (left - unbroken) size))))

pub padding_tells : (unbroken size : ℕ) → ((unbroken < size) × ((if nat_lt unbroken size then unbroken else 0) ≡ unbroken)) ⊎
    ((size ≤ unbroken) × ((if nat_lt unbroken size then unbroken else 0) ≡ 0))
padding_tells unbroken size = elim (leb_tells (suc unbroken) size) [
  | inl less ↦ inl (omega (arith, less.1), rw less.0 refl)
  | inr enough ↦ inr (omega (arith, enough.1), rw enough.0 refl)
]

-- an offset that lies in the storage
offset_itself : (start room : ℕ) → (start ≤ room) × (0 < room → start < room) → start % room ≡ start
offset_itself start room p = elim (cases_lt 0 room) [
  | inl some ↦ mod-eq_of_lt (p.1 some)
  | inr none ↦ let z : start ≡ 0 = omega (arith, p.0) in rw z (zero-mod room)
]

-- what was filled up to the end goes on at the first place
wrapped_offset : (start padding room : ℕ) → start % room + padding ≡ room → (start + padding) % room ≡ 0
wrapped_offset start padding room e = sym (mod-add-mod start room padding) ∙ ap (λ n. n % room) e ∙ mod_self room

module _ {X : Type 0} where
  pub anchored-start : (r : Ring X) → length r.queue ≡ 0 → (anchored r).start ≡ 0
  anchored-start r e = elim (eqb_tells (length r.queue) 0) [ inl none ↦ rw none.0 refl | inr some ↦ absurd (some.1 e) ]

  pub anchored-queue_same : (r : Ring X) → (anchored r).queue ≡ r.queue
  anchored-queue_same r = elim (anchored-cases r) [ inl none ↦ ap (λ s. s.queue) none.1 ∙ sym none.0 | inr same ↦ ap (λ s. s.queue) same ]

  anchored-empty : (q f : List X) (start : ℕ) → (length q ≡ 0 → start ≡ 0) → anchored (ring q f start) ≡ ring q f start
  anchored-empty [] f start h =
      let n : capacity (ring {X = X} [] f 0) - 0 ≡ length f = omega arith in
      rw (h refl, n, drop_all (length f) f (omega arith), take_all (length f) f (omega arith)) refl
  anchored-empty (x ∷ q) f start h = rw (eqb-suc-zero (length q)) refl

  -- a ring that begins at the first place, where it is empty, stays where it is
  pub anchored-settled : (r : Ring X) → (length r.queue ≡ 0 → r.start ≡ 0) → anchored r ≡ r
  anchored-settled r h = anchored-empty r.queue r.free r.start h

  pub anchored-extended : (r : Ring X) (count : ℕ) → anchored (extended (anchored r) count) ≡ extended (anchored r) count
  anchored-extended r count =
      anchored-settled (extended (anchored r) count)
      (λ e. anchored-start r (omega (arith, e, length-append (anchored r).queue (take count (anchored r).free), ap length (anchored-queue_same r))))

  -- what a call lends that may lend so much
  pub lent_whole : (r : Ring X) (size : ℕ) → size ≤ contiguous r → unbroken_free r 0 size ≡ size
  lent_whole r size fits =
      let e : until_end r (length r.queue + 0) ≡ until_end r (length r.queue) = ap (λ n. until_end r n) (add-zero (length r.queue)) in
      omega (arith, e)

  -- free elements that were written over and then queued
  pub written_ring : (r : Ring X) (left : List X) (count : ℕ) → count ≤ length left → length left ≤ length r.free →
      ((extended (overwritten r 0 left) count).queue ≡ r.queue ++ take count left) × (capacity (extended (overwritten r 0 left) count) ≡ capacity r)
  written_ring r left count fits room =
      let z : 0 + length left ≡ length left = omega arith in
      let all = left ++ drop (0 + length left) r.free in
      let n : length all ≡ length r.free = omega (arith, length-append left (drop (0 + length left) r.free), length-drop (0 + length left) r.free, z) in (
        ap (λ xs. r.queue ++ xs) (take-append-le count left (drop (0 + length left) r.free) fits),
        omega (arith, length-append r.queue (take count all), length-take-le count all (omega (arith, n, fits, room)), length-drop count all, n),
      )

  -- the ring after whose padding elements were written and queued
  abbrev pub following : Ring X → ℕ → List X → Ring X
  following r padding left = ring ((r.queue ++ take padding r.free) ++ left) (drop (padding + length left) r.free) r.start

  following_written : (r : Ring X) (left : List X) (padding : ℕ) → padding + length left ≤ length r.free →
      extended (extended (overwritten r padding left) padding) (length left) ≡ following r padding left
  following_written r left padding fits =
      let head = take padding r.free in
      let tail = drop (padding + length left) r.free in
      let n : length head ≡ padding = length-take-le padding r.free (omega arith) in
      rw (
        take_at head (left ++ tail) padding n,
        drop_at head (left ++ tail) padding n,
        take_at left tail (length left) refl,
        drop_at left tail (length left) refl,
      ) refl

  -- what is written to its free elements leaves an anchored ring anchored
  anchored-written : (r : Ring X) (left : List X) (padding : ℕ) →
      anchored (overwritten (anchored r) padding left) ≡ overwritten (anchored r) padding left
  anchored-written r left padding =
      anchored-settled (overwritten (anchored r) padding left) (λ e. anchored-start r (sym (ap length (anchored-queue_same r)) ∙ e))

  pub length-anchored_written : (r : Ring X) (left : List X) (padding : ℕ) → padding + length left ≤ length (anchored r).free →
      length (anchored (overwritten (anchored r) padding left)).free ≡ length (anchored r).free
  length-anchored_written r left padding fits =
      ap (λ s. length s.free) (anchored-written r left padding) ∙ length-overwritten (anchored r) padding left fits

  -- elements written after the padding, before this and they are queued
  pub following_anchored : (r : Ring X) (left : List X) (padding size : ℕ) → padding + length left ≤ length (anchored r).free → length left ≡ size →
      extended (extended (anchored (overwritten (anchored r) padding left)) padding) size ≡ following (anchored r) padding left
  following_anchored r left padding size fits long =
      ap (λ s. extended (extended s padding) size) (anchored-written r left padding)
      ∙ ap (λ n. extended (extended (overwritten (anchored r) padding left) padding) n) (sym long)
      ∙ following_written (anchored r) left padding fits

  -- an anchored ring that begins where it began before
  begun-again : (r w : Ring X) → IsPlaced r → w.queue ≡ r.queue → w.start ≡ (anchored r).start → capacity w ≡ capacity r → begun_at w r.start ≡ r.start
  begun-again r w p q s c = elim (eqb_tells (length w.queue) 0) [
    | inl none ↦ elim (leb_tells (suc r.start) (capacity w)) [
      | inl less ↦ rw (none.0, less.0) refl
      | inr past ↦ let z : r.start ≡ 0 =
          elim (cases_lt 0 (capacity r)) [ inl some ↦ absurd (omega (arith, p.1 some, past.1, c)) | inr none ↦ omega (arith, p.0) ] in
          rw (none.0, past.0) (s ∙ anchored-start r (sym (ap length q) ∙ none.1) ∙ sym z)
    ]
    | inr some ↦ rw some.0 (s ∙ elim (anchored-cases r) [
      | inl none ↦ absurd (some.1 (ap length q ∙ ap length none.0))
      | inr same ↦ ap (λ t. t.start) same
    ])
  ]

  -- the same elements queued from the same offset on
  pub record IsRestored (r s : Ring X) : Type 0 where
    pub queue : s.queue ≡ r.queue
    pub start : s.start ≡ r.start
    pub room : capacity s ≡ capacity r

  pub restored : (r w s : Ring X) (left : List X) (padding : ℕ) → IsPlaced r → padding + length left ≤ length (anchored r).free →
      w ≡ overwritten (anchored r) padding left → s.queue ≡ w.queue → capacity s ≡ capacity w → s.start ≡ begun_at w r.start → IsRestored r s
  restored r w s left padding p fits is queue room start =
      let same = length-anchored r p in
      let q : w.queue ≡ r.queue = ap (λ t. t.queue) is ∙ anchored-queue_same r in
      let c : capacity w ≡ capacity r = ap capacity is ∙ omega (arith, length-overwritten (anchored r) padding left fits, same.0, same.1) in
      record { queue = queue ∙ q; start = start ∙ begun-again r w p q (ap (λ t. t.start) is) c; room = room ∙ c }

  -- the first elements of a list, copied over as many as fit
  pub read_first : (q old got : List X) (size count n : ℕ) → size ≤ length q → count ≡ min size (length old) →
      n ≡ min (length (take count old)) (length q - 0) → got ≡ take n (drop 0 q) ++ drop n (take count old) →
      got ++ drop count old ≡ take (length old) (take size q) ++ drop size old
  read_first q old got size count n fits part whole is =
      let k : length (take count old) ≡ count = length-take-le count old (omega arith) in
      let same : n ≡ count = omega (arith, k) in
      let none : drop n (take count old) ≡ [] = drop_all n (take count old) (omega (arith, k, same)) in
      let read : got ≡ take count q = is ∙ ap (λ xs. take n q ++ xs) none ∙ append-nil (take n q) ∙ ap (λ i. take i q) same in
      elim (cases_lt (length old) size) [
        | inl short ↦ let all : count ≡ length old = omega arith in
            let a : take count q ≡ take (length old) (take size q) = ap (λ i. take i q) all ∙ sym (take-take (length old) size q (omega arith)) in
            let b : drop count old ≡ drop size old = drop_all count old (omega (arith, all)) ∙ sym (drop_all size old (omega arith)) in
            λ i. (read ∙ a) i ++ b i
        | inr enough ↦ let all : count ≡ size = omega arith in
            let a : take count q ≡ take (length old) (take size q) =
            ap (λ i. take i q) all ∙ sym (take_all (length old) (take size q) (omega (arith, length-take-le size q fits))) in
            λ i. (read ∙ a) i ++ drop (all i) old
      ]

  -- the first element and the others
  pub split_first : (xs : List X) (x : X) → slice_get xs 0 ≡ Some x → xs ≡ x ∷ drop 1 xs
  split_first [] x e = cc
  split_first (y ∷ xs) x e = let same : y ≡ x = cc in ap (λ z. z ∷ xs) same

  -- the lengths of a ring that gave up elements
  pub length-released : (r s : Ring X) (count : ℕ) → count ≤ length r.queue → s ≡ released r count → length s.queue ≡ length r.queue - count
  length-released r s count fits is = ap (λ t. length t.queue) is ∙ length-drop count r.queue

  pub capacity-released : (r s : Ring X) (count : ℕ) → count ≤ length r.queue → s ≡ released r count → capacity s ≡ capacity r
  capacity-released r s count fits is =
      ap capacity is ∙ omega (arith, length-drop count r.queue, length-append r.free (take count r.queue), length-take-le count r.queue fits)

  -- what is laid over a ring leaves its offsets as they are
  pub laid_from-keeps : (r : Ring X) (offset : ℕ) (ws : List X) → r.start ≤ capacity r → ((laid_from r offset ws).start ≡ r.start) ×
      (length (laid_from r offset ws).queue ≡ length r.queue) × (capacity (laid_from r offset ws) ≡ capacity r)
  unfolding ring_in
  laid_from-keeps r offset ws within =
      let whole : length (storage_of r) ≡ capacity r = length-rotated (capacity r - r.start) (r.queue ++ r.free) (omega (arith, length-append r.queue r.free)) ∙
      length-append r.queue r.free in
      let laid = laid_over (storage_of r) (offset_of r offset) ws in
      let long : length (rotated r.start laid) ≡ capacity r =
      length-rotated r.start laid (omega (arith, length-laid_over (storage_of r) (offset_of r offset) ws)) ∙
      length-laid_over (storage_of r) (offset_of r offset) ws ∙ whole in (
        refl,
        length-take-le (length r.queue) (rotated r.start laid) (omega arith),
        omega (arith, length-take-le (length r.queue) (rotated r.start laid) (omega arith), length-drop (length r.queue) (rotated r.start laid)),
      )

module _ {H : Type 0} where
  -- the padding before the first packet
  abbrev leading : List (QueuedPacket H) → ℕ
  leading [] = 0
  leading (p ∷ ps) = p.padding

  first-unpadded_in : (ps : List (QueuedPacket H)) (start positions room : ℕ) →
      first (unpadded (packets_in ps start positions room)) ≡ first (packets_in ps start positions room)
  first-unpadded_in [] start positions room = refl
  first-unpadded_in (p ∷ ps) start positions room = elim (eqb_tells p.padding 0) [ inl none ↦ rw none.0 refl | inr some ↦ rw some.0 refl ]

  pub first-unpadded : (q : Packets H) → first (unpadded q) ≡ first q
  first-unpadded q = first-unpadded_in q.packets q.start q.positions q.room

  without_first-unpadded_in : (ps : List (QueuedPacket H)) (start positions room : ℕ) →
      without_first (unpadded (packets_in ps start positions room)) ≡ without_first (packets_in ps start positions room)
  without_first-unpadded_in [] start positions room = refl
  without_first-unpadded_in (p ∷ ps) start positions room = elim (eqb_tells p.padding 0) [
    | inl none ↦ rw none.0 refl
    | inr some ↦ rw some.0 (ap (λ n. packets_in ps n positions room) (
        ap (λ n. (n + length p.bytes) % room) (add-zero ((start + p.padding) % room)) ∙ mod-add-mod (start + p.padding) room (length p.bytes)
        ))
  ]

  pub without_first-unpadded : (q : Packets H) → without_first (unpadded q) ≡ without_first q
  without_first-unpadded q = without_first-unpadded_in q.packets q.start q.positions q.room

  unpadded-of_none_in : (ps : List (QueuedPacket H)) (start positions room : ℕ) → leading ps ≡ 0 →
      unpadded (packets_in ps start positions room) ≡ packets_in ps start positions room
  unpadded-of_none_in [] start positions room e = refl
  unpadded-of_none_in (p ∷ ps) start positions room e = elim (eqb_tells p.padding 0) [ inl none ↦ rw none.0 refl | inr some ↦ absurd (some.1 e) ]

  -- with no padding before the first packet there is none to give up
  pub unpadded-of_none : (q : Packets H) → leading q.packets ≡ 0 → unpadded q ≡ q
  unpadded-of_none q e = unpadded-of_none_in q.packets q.start q.positions q.room e

  leading-unpadded_in : (ps : List (QueuedPacket H)) (start positions room : ℕ) → leading (unpadded (packets_in ps start positions room)).packets ≡ 0
  leading-unpadded_in [] start positions room = refl
  leading-unpadded_in (p ∷ ps) start positions room = elim (eqb_tells p.padding 0) [ inl none ↦ rw none.0 none.1 | inr some ↦ rw some.0 refl ]

  pub leading-unpadded : (q : Packets H) → leading (unpadded q).packets ≡ 0
  leading-unpadded q = leading-unpadded_in q.packets q.start q.positions q.room

  pub unpadded-unpadded : (q : Packets H) → unpadded (unpadded q) ≡ unpadded q
  unpadded-unpadded q = unpadded-of_none (unpadded q) (leading-unpadded q)

  nil-unpadded_in : (ps : List (QueuedPacket H)) (start positions room : ℕ) → (unpadded (packets_in ps start positions room)).packets ≡ [] → ps ≡ []
  nil-unpadded_in [] start positions room e = refl
  nil-unpadded_in (p ∷ ps) start positions room e = elim (eqb_tells p.padding 0) [ inl none ↦ rw none.0 at e | inr some ↦ absurd (let h = rw some.0 at e in cc) ]

  -- no packet is left where there was none
  pub nil-unpadded : (q : Packets H) → (unpadded q).packets ≡ [] → q.packets ≡ []
  nil-unpadded q e = nil-unpadded_in q.packets q.start q.positions q.room e

  pub unpadded-nil : (q : Packets H) → q.packets ≡ [] → unpadded q ≡ q
  unpadded-nil q e = unpadded-of_none q (ap leading e)

  leading-skipped_by : (n : ℕ) (header : Option H) (ms : List (PacketMetadata H)) (bs : List ℕ) (skipped : ℕ) → IsSome header →
      leading (packets_of skipped (entry n header ∷ ms) bs) ≡ skipped
  leading-skipped_by n None ms bs skipped e = absurd (false≢true e)
  leading-skipped_by n (Some x) ms bs skipped e = refl

  leading-skipped : (ms : List (PacketMetadata H)) (bs : List ℕ) (skipped : ℕ) → BeginsWithPacket ms → leading (packets_of skipped ms bs) ≡ skipped
  leading-skipped [] bs skipped e = absurd e
  leading-skipped (m ∷ ms) bs skipped e = leading-skipped_by m.size m.header ms bs skipped e

  leading-entry : (n : ℕ) (header : Option H) (ms : List (PacketMetadata H)) (bs : List ℕ) (at room : ℕ) → AreLaid at room (entry n header ∷ ms) →
      leading (packets_of 0 (entry n header ∷ ms) bs) ≡ padding_first (entry n header ∷ ms)
  leading-entry n None ms bs at room h = leading-skipped ms (drop n bs) (0 + n) h.1.1 ∙ zero-add n
  leading-entry n (Some x) ms bs at room h = refl

  pub leading-packets_of : (ms : List (PacketMetadata H)) (bs : List ℕ) (at room : ℕ) → AreLaid at room ms → leading (packets_of 0 ms bs) ≡ padding_first ms
  leading-packets_of [] bs at room h = refl
  leading-packets_of (m ∷ ms) bs at room h = leading-entry m.size m.header ms bs at room h

  begins-entry : (n : ℕ) (header : Option H) (ms : List (PacketMetadata H)) (at room : ℕ) → AreLaid at room (entry n header ∷ ms) →
      padding_first (entry n header ∷ ms) ≡ 0 → IsSome header
  begins-entry n None ms at room h e = absurd (omega (arith, h.1.0, e))
  begins-entry n (Some x) ms at room h e = refl

  begins-laid : (ms : List (PacketMetadata H)) (at room : ℕ) → AreLaid at room ms → padding_first ms ≡ 0 → ms ≢ [] → BeginsWithPacket ms
  begins-laid [] at room h e some = absurd (some refl)
  begins-laid (m ∷ ms) at room h e some = begins-entry m.size m.header ms at room h e

  -- the first entry is a packet's where padding was given up
  pub begins-unpadded : (metadata : Ring (PacketMetadata H)) (payload : Ring ℕ) (q : Packets H) → AreEntries metadata payload →
      packets_seen metadata payload ≡ unpadded q → metadata.queue ≢ [] → BeginsWithPacket metadata.queue
  begins-unpadded metadata payload q ok is some =
      let none : padding_first metadata.queue ≡ 0 = sym (leading-packets_of metadata.queue payload.queue payload.start (capacity payload) ok.laid) ∙
      ap (λ s. leading s.packets) is ∙ leading-unpadded q in
      begins-laid metadata.queue payload.start (capacity payload) ok.laid none some

  -- the first packet, and the place of its bytes
  pub record Fronts (metadata : Ring (PacketMetadata H)) (payload : Ring ℕ) (size : ℕ) (header : H) : Type 0 where
    pub split : metadata.queue ≡ entry size (Some header) ∷ drop 1 metadata.queue
    pub laid : AreLaid payload.start (capacity payload) (entry size (Some header) ∷ drop 1 metadata.queue)
    pub sizes : size + size_of (drop 1 metadata.queue) ≡ length payload.queue
    pub packets : packets_of 0 metadata.queue payload.queue ≡ packet 0 header (take size payload.queue) ∷
        packets_of 0 (drop 1 metadata.queue) (drop size payload.queue)
    pub fits : size ≤ length payload.queue
    pub unbroken : size ≤ until_end payload 0
    pub whole : unbroken_queued payload 0 size ≡ size

  pub fronts : (metadata : Ring (PacketMetadata H)) (payload : Ring ℕ) (size : ℕ) (header : H) → AreEntries metadata payload →
      slice_get metadata.queue 0 ≡ Some (entry size (Some header)) → Fronts metadata payload size header
  fronts metadata payload size header ok e =
      let split = split_first metadata.queue (entry size (Some header)) e in
      let laid = subst (λ ms. AreLaid payload.start (capacity payload) ms) split ok.laid in
      let sizes : size + size_of (drop 1 metadata.queue) ≡ length payload.queue = sym (ap size_of split) ∙ ok.sizes in
      let low : (payload.start + 0) % capacity payload ≤ payload.start = omega (arith, mod-le (payload.start + 0) (capacity payload)) in
      record {
        split = split;
        laid = laid;
        sizes = sizes;
        packets = ap (λ ms. packets_of 0 ms payload.queue) split;
        fits = omega (arith, sizes);
        unbroken = omega (arith, laid.0);
        whole = omega (arith, laid.0);
      }

  pub first-seen : (metadata : Ring (PacketMetadata H)) (payload : Ring ℕ) (size : ℕ) (header : H) → AreEntries metadata payload →
      slice_get metadata.queue 0 ≡ Some (entry size (Some header)) → first (packets_seen metadata payload) ≡ Some (header, take size payload.queue)
  first-seen metadata payload size header ok e = ap first_by (fronts metadata payload size header ok e).packets

  -- a queue's value and what holds of its fields, by what they are
  pub AreEntries-from : (metadata : Ring (PacketMetadata H)) (payload : Ring ℕ) (ms : List (PacketMetadata H)) (start room : ℕ) → metadata.queue ≡ ms →
      payload.start ≡ start → capacity payload ≡ room → (start ≤ room) × (0 < room → start < room) → AreLaid start room ms → size_of ms ≡ length payload.queue →
      AreEntries metadata payload
  AreEntries-from metadata payload ms start room q s c placed laid sizes =
      record { placed = rw (s, c) placed; laid = rw (q, s, c) laid; sizes = rw q sizes }

  pub packets_seen-from : (metadata : Ring (PacketMetadata H)) (payload : Ring ℕ) (ms : List (PacketMetadata H)) (bs : List ℕ) (start positions room : ℕ) →
      metadata.queue ≡ ms → payload.queue ≡ bs → payload.start ≡ start → capacity metadata ≡ positions → capacity payload ≡ room →
      packets_seen metadata payload ≡ packets_in (packets_of 0 ms bs) start positions room
  packets_seen-from metadata payload ms bs start positions room q b s m c =
      λ i. packets_in (packets_of 0 (q i) (b i)) (s i) (m i) (c i)

  -- the first packet given up
  pub AreEntries-without_first : (metadata metadata' : Ring (PacketMetadata H)) (payload payload' : Ring ℕ) (size : ℕ) (header : H) →
      AreEntries metadata payload → slice_get metadata.queue 0 ≡ Some (entry size (Some header)) → metadata'.queue ≡ drop 1 metadata.queue →
      length payload'.queue ≡ length payload.queue - size → payload'.start ≡ (payload.start + size) % capacity payload → capacity payload' ≡ capacity payload →
      AreEntries metadata' payload'
  AreEntries-without_first metadata metadata' payload payload' size header ok e ms bs start room =
      let f = fronts metadata payload size header ok e in
      AreEntries-from metadata' payload' (drop 1 metadata.queue) ((payload.start + size) % capacity payload) (capacity payload) ms start room
      (IsPlaced-moved payload.start size (capacity payload) ok.placed (omega (arith, f.sizes))) f.laid.2 (omega (arith, f.sizes, bs))

  pub packets_seen-without_first : (metadata metadata' : Ring (PacketMetadata H)) (payload payload' : Ring ℕ) (size : ℕ) (header : H) →
      AreEntries metadata payload → slice_get metadata.queue 0 ≡ Some (entry size (Some header)) → metadata'.queue ≡ drop 1 metadata.queue →
      capacity metadata' ≡ capacity metadata → payload'.queue ≡ drop size payload.queue → payload'.start ≡ (payload.start + size) % capacity payload →
      capacity payload' ≡ capacity payload → packets_seen metadata' payload' ≡ without_first (packets_seen metadata payload)
  packets_seen-without_first metadata metadata' payload payload' size header ok e ms positions bs start room =
      let f = fronts metadata payload size header ok e in
      let rest = packets_of 0 (drop 1 metadata.queue) (drop size payload.queue) in
      let long : payload.start + size ≡ payload.start + 0 + length (take size payload.queue) =
      omega (arith, length-take-le size payload.queue (omega (arith, f.sizes))) in
      packets_seen-from metadata' payload' _ _ _ _ _ ms bs start positions room
      ∙ ap (λ n. packets_in rest (n % capacity payload) (capacity metadata) (capacity payload)) long
      ∙ sym (ap (λ ps. without_first (packets_in ps payload.start (capacity metadata) (capacity payload))) f.packets)

  -- the first packet with another header and other bytes
  pub AreEntries-with_first : (metadata : Ring (PacketMetadata H)) (payload : Ring ℕ) (size : ℕ) (header header' : H) (ws : List ℕ) →
      AreEntries metadata payload → slice_get metadata.queue 0 ≡ Some (entry size (Some header)) → length ws ≡ size →
      AreEntries (rewritten metadata (entry size (Some header') ∷ [])) (rewritten payload ws)
  AreEntries-with_first metadata payload size header header' ws ok e long =
      let f = fronts metadata payload size header ok e in
      let same : length (ws ++ drop (length ws) payload.queue) ≡ length payload.queue =
      omega (arith, length-append ws (drop (length ws) payload.queue), length-drop (length ws) payload.queue, f.sizes) in
      AreEntries-from (rewritten metadata (entry size (Some header') ∷ [])) (rewritten payload ws) (entry size (Some header') ∷ drop 1 metadata.queue)
      payload.start (capacity payload) refl refl (omega (arith, same)) ok.placed (f.laid.0, tt, f.laid.2) (omega (arith, f.sizes, same))

  pub packets_seen-with_first : (metadata : Ring (PacketMetadata H)) (payload : Ring ℕ) (size : ℕ) (header header' : H) (ws : List ℕ) →
      AreEntries metadata payload → slice_get metadata.queue 0 ≡ Some (entry size (Some header)) → length ws ≡ size →
      packets_seen (rewritten metadata (entry size (Some header') ∷ [])) (rewritten payload ws) ≡ with_first (packets_seen metadata payload) header' ws
  packets_seen-with_first metadata payload size header header' ws ok e long =
      let f = fronts metadata payload size header ok e in
      let rest : List (QueuedPacket H) = packets_of 0 (drop 1 metadata.queue) (drop size payload.queue) in
      let tail = drop (length ws) payload.queue in
      let same : length (ws ++ tail) ≡ length payload.queue = omega (arith, length-append ws tail, length-drop (length ws) payload.queue, f.sizes) in
      let positions : length (entry size (Some header') ∷ drop 1 metadata.queue) ≡ length metadata.queue = sym (ap length f.split) in
      let following : packets_of 0 (drop 1 metadata.queue) (drop size (ws ++ tail)) ≡ rest =
      ap (λ bs. packets_of 0 (drop 1 metadata.queue) bs) (drop_at ws tail size long ∙ ap (λ n. drop n payload.queue) long) in
      let front : take size (ws ++ tail) ≡ ws = take_at ws tail size long in
      (λ i. packets_in (packet 0 header' (front i) ∷ following i) payload.start (positions i + length metadata.free) (same i + length payload.free))
      ∙ sym (ap (λ ps. with_first (packets_in ps payload.start (capacity metadata) (capacity payload)) header' ws) f.packets)

  -- the padding before the first packet given up
  pub record Pads (metadata : Ring (PacketMetadata H)) (payload : Ring ℕ) (size : ℕ) : Type 0 where
    pub split : metadata.queue ≡ entry size None ∷ drop 1 metadata.queue
    pub laid : AreLaid payload.start (capacity payload) (entry size None ∷ drop 1 metadata.queue)
    pub sizes : size + size_of (drop 1 metadata.queue) ≡ length payload.queue
    pub entries : 1 ≤ length metadata.queue

  pads_by : (n : ℕ) (header : Option H) (ms : List (PacketMetadata H)) (size : ℕ) → padding_first (entry n header ∷ ms) ≡ size → 0 < size →
      entry n header ∷ ms ≡ entry size None ∷ ms
  pads_by n None ms size e some = ap (λ k. entry k None ∷ ms) e
  pads_by n (Some x) ms size e some = absurd (omega (arith, e))

  pads_in : (ms : List (PacketMetadata H)) (size : ℕ) → padding_first ms ≡ size → 0 < size → ms ≡ entry size None ∷ drop 1 ms
  pads_in [] size e some = absurd (omega (arith, e))
  pads_in (m ∷ ms) size e some = pads_by m.size m.header ms size e some

  pub pads : (metadata : Ring (PacketMetadata H)) (payload : Ring ℕ) (size : ℕ) → AreEntries metadata payload → padding_first metadata.queue ≡ size → 0 < size →
      Pads metadata payload size
  pads metadata payload size ok e some =
      let split = pads_in metadata.queue size e some in
      record {
        split = split;
        laid = subst (λ ms. AreLaid payload.start (capacity payload) ms) split ok.laid;
        sizes = sym (ap size_of split) ∙ ok.sizes;
        entries = omega (arith, ap length split);
      }

  unpadded_by_first : (n : ℕ) (header : Option H) (ms : List (PacketMetadata H)) (bs : List ℕ) (size start positions room : ℕ) → IsSome header → 0 < size →
      unpadded (packets_in (packets_of (0 + size) (entry n header ∷ ms) bs) start positions room) ≡
      packets_in (packets_of 0 (entry n header ∷ ms) bs) ((start + size) % room) positions room
  unpadded_by_first n None ms bs size start positions room e some = absurd (false≢true e)
  unpadded_by_first n (Some x) ms bs size start positions room e some = elim (eqb_tells (0 + size) 0) [
    | inl none ↦ absurd (omega (arith, none.1))
    | inr more ↦ rw more.0 (ap (λ k. packets_in (packet 0 x (take n bs) ∷ packets_of 0 ms (drop n bs)) ((start + k) % room) positions room) (zero-add size))
  ]

  unpadded_by_rest : (ms : List (PacketMetadata H)) (bs : List ℕ) (size start positions room : ℕ) → BeginsWithPacket ms → 0 < size →
      unpadded (packets_in (packets_of (0 + size) ms bs) start positions room) ≡ packets_in (packets_of 0 ms bs) ((start + size) % room) positions room
  unpadded_by_rest [] bs size start positions room e some = absurd e
  unpadded_by_rest (m ∷ ms) bs size start positions room e some = unpadded_by_first m.size m.header ms bs size start positions room e some

  pub AreEntries-unpadded : (metadata : Ring (PacketMetadata H)) (payload : Ring ℕ) (size : ℕ) → AreEntries metadata payload →
      padding_first metadata.queue ≡ size → 0 < size → AreEntries (released metadata 1) (released payload size)
  AreEntries-unpadded metadata payload size ok e some =
      let f = pads metadata payload size ok e some in
      let room : length (drop size payload.queue) + length (payload.free ++ take size payload.queue) ≡ capacity payload =
      omega (
        arith,
        length-drop size payload.queue,
        length-append payload.free (take size payload.queue),
        length-take-le size payload.queue (omega (arith, f.sizes)),
        f.sizes,
      ) in
      AreEntries-from (released metadata 1) (released payload size) (drop 1 metadata.queue) ((payload.start + size) % capacity payload) (capacity payload) refl
      refl room (IsPlaced-moved payload.start size (capacity payload) ok.placed (omega (arith, f.sizes))) f.laid.2
      (omega (arith, f.sizes, length-drop size payload.queue))

  pub packets_seen-unpadded : (metadata : Ring (PacketMetadata H)) (payload : Ring ℕ) (size : ℕ) → AreEntries metadata payload →
      padding_first metadata.queue ≡ size → 0 < size → packets_seen (released metadata 1) (released payload size) ≡ unpadded (packets_seen metadata payload)
  packets_seen-unpadded metadata payload size ok e some =
      let f = pads metadata payload size ok e some in
      let room : length (drop size payload.queue) + length (payload.free ++ take size payload.queue) ≡ capacity payload =
      omega (
        arith,
        length-drop size payload.queue,
        length-append payload.free (take size payload.queue),
        length-take-le size payload.queue (omega (arith, f.sizes)),
        f.sizes,
      ) in
      let positions : length (drop 1 metadata.queue) + length (metadata.free ++ take 1 metadata.queue) ≡ capacity metadata =
      omega (arith, length-drop 1 metadata.queue, length-append metadata.free (take 1 metadata.queue), length-take-le 1 metadata.queue f.entries) in
      packets_seen-from (released metadata 1) (released payload size) (drop 1 metadata.queue) (drop size payload.queue)
      ((payload.start + size) % capacity payload) (capacity metadata) (capacity payload) refl refl refl positions room
      ∙ sym (unpadded_by_rest (drop 1 metadata.queue) (drop size payload.queue) size payload.start (capacity metadata) (capacity payload) f.laid.1.1 some)
      ∙ sym (ap (λ ms. unpadded (packets_in (packets_of 0 ms payload.queue) payload.start (capacity metadata) (capacity payload))) f.split)

  -- without padding at the front there is nothing to give up
  pub packets_seen-none : (metadata : Ring (PacketMetadata H)) (payload : Ring ℕ) → AreEntries metadata payload → padding_first metadata.queue ≡ 0 →
      packets_seen metadata payload ≡ unpadded (packets_seen metadata payload)
  packets_seen-none metadata payload ok e =
      sym (unpadded-of_none (packets_seen metadata payload) (leading-packets_of metadata.queue payload.queue payload.start (capacity payload) ok.laid ∙ e))

  -- the bytes that a queue gives up may be written to
  pub AreEntries-lent : (metadata : Ring (PacketMetadata H)) (payload : Ring ℕ) (offset : ℕ) (ws : List ℕ) → AreEntries metadata payload →
      AreEntries metadata (laid_from payload offset ws)
  AreEntries-lent metadata payload offset ws ok =
      let k = laid_from-keeps payload offset ws ok.placed.0 in
      AreEntries-from metadata (laid_from payload offset ws) metadata.queue payload.start (capacity payload) refl k.0 k.2 ok.placed ok.laid (ok.sizes ∙ sym k.1)

  -- whether there is room, by the fields
  pub record Counts (metadata : Ring (PacketMetadata H)) (payload : Ring ℕ) : Type 0 where
    pub used : used_offsets (packets_seen metadata payload).packets ≡ length metadata.queue
    pub bytes : used_room (packets_seen metadata payload).packets ≡ length payload.queue
    pub window : window (packets_seen metadata payload) ≡ length payload.free
    pub start : start_of (packets_seen metadata payload) ≡ (anchored payload).start
    pub unbroken : unbroken (packets_seen metadata payload) ≡ contiguous (anchored payload)

  pub counts : (metadata : Ring (PacketMetadata H)) (payload : Ring ℕ) → AreEntries metadata payload → Counts metadata payload
  counts metadata payload ok =
      let used = used_offsets-packets_of metadata.queue payload.queue payload.start (capacity payload) ok.laid in
      let bytes : used_room (packets_of 0 metadata.queue payload.queue) ≡ length payload.queue =
      used_room-packets_of metadata.queue payload.queue payload.start (capacity payload) ok.laid ok.sizes in
      let same = length-anchored payload ok.placed in
      let start : start_of (packets_seen metadata payload) ≡ (anchored payload).start =
      rw bytes (elim (eqb_tells (length payload.queue) 0) [ inl none ↦ rw none.0 refl | inr some ↦ rw some.0 refl ]) in
      let free : window (packets_seen metadata payload) ≡ length (anchored payload).free = rw bytes (omega (arith, same.1)) in
      let queued : used_room (packets_of 0 metadata.queue payload.queue) ≡ length (anchored payload).queue = bytes ∙ sym same.0 in
      let room : capacity payload ≡ capacity (anchored payload) = omega (arith, same.0, same.1) in
      record {
        used = used;
        bytes = bytes;
        window = rw bytes (omega arith);
        start = start;
        unbroken = λ i. min (free i) (room i - (start i + queued i) % room i);
      }

  full_tells_in : (metadata : Ring (PacketMetadata H)) (payload : Ring ℕ) (size : ℕ) → AreEntries metadata payload →
      Decides (is_full_for (packets_seen metadata payload) size)
      (IsFull (capacity metadata) (length metadata.queue) (length payload.free) (contiguous (anchored payload)) size)
  full_tells_in metadata payload size ok =
      let c = counts metadata payload ok in
      let q = packets_seen metadata payload in
      let b = is_full_for q size in
      let n = capacity metadata in
      subst (λ k. Decides b (IsFull n (length metadata.queue) (length payload.free) k size)) c.unbroken
      (subst (λ k. Decides b (IsFull n (length metadata.queue) k (unbroken q) size)) c.window
      (subst (λ k. Decides b (IsFull n k (window q) (unbroken q) size)) c.used (is_full_tells n (used_offsets q.packets) (window q) (unbroken q) size)))

  -- whether there is room, and the padding that is needed
  pub full_tells : (metadata : Ring (PacketMetadata H)) (payload : Ring ℕ) (q : Packets H) (size : ℕ) → AreEntries metadata payload →
      packets_seen metadata payload ≡ q →
      Decides (is_full_for q size) (IsFull (capacity metadata) (length metadata.queue) (length payload.free) (contiguous (anchored payload)) size)
  full_tells metadata payload q size ok seen =
      subst (λ r. Decides (is_full_for r size) (IsFull (capacity metadata) (length metadata.queue) (length payload.free) (contiguous (anchored payload)) size))
      seen (full_tells_in metadata payload size ok)

  pub padding_is : (metadata : Ring (PacketMetadata H)) (payload : Ring ℕ) (q : Packets H) (size : ℕ) → AreEntries metadata payload →
      packets_seen metadata payload ≡ q → padding_for q size ≡ (if nat_lt (contiguous (anchored payload)) size then contiguous (anchored payload) else 0)
  padding_is metadata payload q size ok seen =
      sym (ap (λ r. padding_for r size) seen) ∙ ap (λ n. if nat_lt n size then n else 0) (counts metadata payload ok).unbroken

  -- there is room for a packet of this size after so much padding
  pub record HasRoom (metadata : Ring (PacketMetadata H)) (payload : Ring ℕ) (padding size : ℕ) : Type 0 where
    pub position : 0 < padding → 0 < length metadata.free
    pub positions : 0 < length (padded metadata padding).free
    pub window : padding + size ≤ length (anchored payload).free
    pub whole : padding ≡ 0 → size ≤ until_end (anchored payload) (length (anchored payload).queue)
    pub wrapped : 0 < padding → padding ≡ until_end (anchored payload) (length (anchored payload).queue)

  has_room_in : (metadata : Ring (PacketMetadata H)) (payload : Ring ℕ) (padding size : ℕ) → AreEntries metadata payload →
      (IsTrue (is_full_for (packets_seen metadata payload) size) → ⊥) → padding ≡ padding_for (packets_seen metadata payload) size →
      HasRoom metadata payload padding size
  has_room_in metadata payload padding size ok room is =
      let c = counts metadata payload ok in
      let q = packets_seen metadata payload in
      let same = length-anchored payload ok.placed in
      let tells = is_full_tells q.positions (used_offsets q.packets) (window q) (unbroken q) size in
      let not : IsFull q.positions (used_offsets q.packets) (window q) (unbroken q) size → ⊥ = λ h. room (tells.1 h) in
      let used : length metadata.queue < capacity metadata =
      elim (cases_lt (length metadata.queue) (capacity metadata)) [ inl h ↦ h | inr h ↦ absurd (not (inl (omega (arith, c.used)))) ] in
      let left : size ≤ length payload.free =
      elim (cases_lt (length payload.free) size) [ inl h ↦ absurd (not (inr (inl (omega (arith, c.window))))) | inr h ↦ h ] in
      let part = c.unbroken in
      elim (padding_tells (unbroken q) size) [
        | inl less ↦ let more : length metadata.queue + 1 < capacity metadata =
            elim (cases_lt (length metadata.queue + 1) (capacity metadata))
            [ inl h ↦ h | inr h ↦ absurd (not (inr (inr (less.0, inl (omega (arith, c.used)))))) ] in
            let rest : size ≤ length payload.free - unbroken q =
            elim (cases_lt (length payload.free - unbroken q) size)
            [ inl h ↦ absurd (not (inr (inr (less.0, inr (omega (arith, c.window)))))) | inr h ↦ h ] in
            let p : padding ≡ unbroken q = is ∙ less.1 in
            let end : unbroken q ≡ until_end (anchored payload) (length (anchored payload).queue) = omega (arith, part, rest, less.0, same.1) in
            let inside : 0 < capacity (anchored payload) = omega (arith, same.0, same.1, left, less.0) in
            let some : 0 < padding = omega (arith, p, end, inside) in
            record {
              position = λ _. omega (arith, more);
              positions = elim (eqb_tells padding 0)
                  [ inl none ↦ absurd (omega (arith, none.1, some)) | inr told ↦ rw told.0 (omega (arith, more, length-drop 1 metadata.free)) ];
              window = omega (arith, p, rest, same.1, part);
              whole = λ z. absurd (omega (arith, z, some));
              wrapped = λ _. p ∙ end;
            }
        | inr enough ↦ let p : padding ≡ 0 = is ∙ enough.1 in
            record {
              position = λ some. absurd (omega (arith, some, p));
              positions = elim (eqb_tells padding 0) [ inl none ↦ rw none.0 (omega (arith, used)) | inr told ↦ absurd (told.1 p) ];
              window = omega (arith, p, left, same.1);
              whole = λ _. omega (arith, part, enough.0);
              wrapped = λ some. absurd (omega (arith, some, p));
            }
      ]

  pub has_room : (metadata : Ring (PacketMetadata H)) (payload : Ring ℕ) (q : Packets H) (padding size : ℕ) → AreEntries metadata payload →
      packets_seen metadata payload ≡ q → (IsTrue (is_full_for q size) → false ≡ true) → padding ≡ padding_for q size → HasRoom metadata payload padding size
  has_room metadata payload q padding size ok seen full is =
      has_room_in metadata payload padding size ok (λ h. false≢true (full (subst (λ r. IsTrue (is_full_for r size)) seen h))) (is ∙
      ap (λ r. padding_for r size) (sym seen))

  -- the room is unbroken once the padding is there
  pub room_unbroken : (metadata : Ring (PacketMetadata H)) (payload : Ring ℕ) (padding size : ℕ) → AreEntries metadata payload →
      HasRoom metadata payload padding size → size ≤ contiguous (extended (anchored payload) padding)
  room_unbroken metadata payload padding size ok room =
      let a = anchored payload in
      let taken : length (a.queue ++ take padding a.free) ≡ length a.queue + padding = length-append a.queue (take padding a.free) ∙
      omega (arith, length-take-le padding a.free (omega (arith, room.window))) in
      let all : capacity (extended a padding) ≡ capacity a = omega (arith, taken, length-drop padding a.free, room.window) in
      let left : length (drop padding a.free) ≡ length a.free - padding = length-drop padding a.free in
      let sum : a.start + length (a.queue ++ take padding a.free) ≡ a.start + length a.queue + padding = omega (arith, taken) in
      let at : (a.start + length (a.queue ++ take padding a.free)) % capacity (extended a padding) ≡ (a.start + length a.queue + padding) % capacity a =
      λ i. sum i % all i in
      elim (cases_lt 0 padding) [
        | inl some ↦ let end = room.wrapped some in
            let here : (a.start + length a.queue) % capacity a + padding ≡ capacity a = omega (arith, end, some) in
            let begins : (a.start + length (a.queue ++ take padding a.free)) % capacity (extended a padding) ≡ 0 =
            at ∙ wrapped_offset (a.start + length a.queue) padding (capacity a) here in
            omega (arith, begins, left, all, room.window)
        | inr none ↦ let p : padding ≡ 0 = omega arith in
            let same : (a.start + length a.queue + padding) % capacity a ≡ (a.start + length a.queue) % capacity a =
            ap (λ n. n % capacity a) (omega (arith, p)) in
            omega (arith, at, same, room.whole p, left, all, room.window)
      ]

  -- and it lies after the padding before this is taken
  pub room_following : (metadata : Ring (PacketMetadata H)) (payload : Ring ℕ) (padding size : ℕ) → HasRoom metadata payload padding size →
      unbroken_free (anchored payload) padding size ≡ size
  room_following metadata payload padding size room =
      let a = anchored payload in
      elim (cases_lt 0 padding) [
        | inl some ↦ let end = room.wrapped some in
            let here : (a.start + length a.queue) % capacity a + padding ≡ capacity a = omega (arith, end, some) in
            let begins : (a.start + (length a.queue + padding)) % capacity a ≡ 0 =
            ap (λ n. n % capacity a) (omega arith) ∙ wrapped_offset (a.start + length a.queue) padding (capacity a) here in
            omega (arith, begins, room.window)
        | inr none ↦ let p : padding ≡ 0 = omega arith in
            let same : (a.start + (length a.queue + padding)) % capacity a ≡ (a.start + length a.queue) % capacity a =
            ap (λ n. n % capacity a) (omega (arith, p)) in
            omega (arith, same, room.whole p, room.window)
      ]

  queue-padded : (metadata : Ring (PacketMetadata H)) (padding size : ℕ) (header : H) →
      (enqueued (padded metadata padding) (entry size (Some header) ∷ [])).queue ≡ metadata.queue ++ entries_for padding size header
  queue-padded metadata padding size header = elim (eqb_tells padding 0) [
    | inl none ↦ rw none.0 refl
    | inr some ↦ rw some.0 (append_assoc metadata.queue (entry padding None ∷ []) (entry size (Some header) ∷ []))
  ]

  capacity-padded : (metadata : Ring (PacketMetadata H)) (padding size : ℕ) (header : H) → (0 < padding → 0 < length metadata.free) →
      0 < length (padded metadata padding).free → capacity (enqueued (padded metadata padding) (entry size (Some header) ∷ [])) ≡ capacity metadata
  capacity-padded metadata padding size header position positions = elim (eqb_tells padding 0) [
    | inl none ↦ let some = rw none.0 at positions in
        rw none.0 (omega (arith, some, length-append metadata.queue (entry size (Some header) ∷ []), length-drop 1 metadata.free))
    | inr more ↦ let some = rw more.0 at positions in
        let one = metadata.queue ++ entry padding None ∷ [] in
        rw more.0 (omega (
          arith,
          some,
          position (omega (arith, more.1)),
          length-append metadata.queue (entry padding None ∷ []),
          length-append one (entry size (Some header) ∷ []),
          length-drop 1 metadata.free,
          length-drop 1 (drop 1 metadata.free),
        ))
  ]

  anchored-laid : (metadata : Ring (PacketMetadata H)) (payload : Ring ℕ) → AreEntries metadata payload →
      AreLaid (anchored payload).start (capacity payload) metadata.queue
  anchored-laid metadata payload ok = elim (anchored-cases payload) [
    | inl none ↦ let z : (anchored payload).start ≡ 0 = ap (λ r. r.start) none.1 in
        rw z (AreLaid-from_zero metadata.queue payload.start (capacity payload) ok.laid (omega (arith, ok.sizes, ap length none.0)))
    | inr same ↦ let z : (anchored payload).start ≡ payload.start = ap (λ r. r.start) same in rw z ok.laid
  ]

  -- a packet after the others
  pub AreEntries-appended : (metadata : Ring (PacketMetadata H)) (payload payload' : Ring ℕ) (padding size count : ℕ) (header : H) →
      AreEntries metadata payload → HasRoom metadata payload padding size → count ≤ size → payload'.start ≡ (anchored payload).start →
      length payload'.queue ≡ length payload.queue + (padding + count) → capacity payload' ≡ capacity payload →
      AreEntries (enqueued (padded metadata padding) (entry count (Some header) ∷ [])) payload'
  AreEntries-appended metadata payload payload' padding size count header ok room fits start long cap =
      let a = anchored payload in
      let same = length-anchored payload ok.placed in
      let all : capacity a ≡ capacity payload = omega (arith, same.0, same.1) in
      let placed : (a.start ≤ capacity payload) × (0 < capacity payload → a.start < capacity payload) = rw all at same.2 in
      let n : length a.queue ≡ size_of metadata.queue = omega (arith, same.0, ok.sizes) in
      let at : (a.start + length a.queue) % capacity a ≡ (a.start + size_of metadata.queue) % capacity payload = λ i. (a.start + n i) % all i in
      let low = IsPlaced-moved a.start (size_of metadata.queue) (capacity payload) placed (omega (arith, ok.sizes)) in
      let es = AreLaid-entries_for padding count header ((a.start + size_of metadata.queue) % capacity payload) (capacity payload)
      (λ z. omega (arith, room.whole z, at, all, low.0)) (λ some. (omega (arith, room.wrapped some, at, all, low.0), omega (arith, room.window, same.1))) in
      AreEntries-from _ payload' (metadata.queue ++ entries_for padding count header) a.start (capacity payload) (queue-padded metadata padding count header)
      start cap placed
      (AreLaid-append metadata.queue (entries_for padding count header) a.start (capacity payload) (offset_itself a.start (capacity payload) placed)
      (anchored-laid metadata payload ok) es)
      (size_of-append metadata.queue (entries_for padding count header) ∙ omega (arith, size_of-entries_for padding count header, ok.sizes, long))

  pub packets_seen-appended : (metadata : Ring (PacketMetadata H)) (payload payload' : Ring ℕ) (padding size : ℕ) (header : H) (ws : List ℕ) →
      AreEntries metadata payload → HasRoom metadata payload padding size → padding ≡ padding_for (packets_seen metadata payload) size →
      payload'.start ≡ (anchored payload).start → payload'.queue ≡ ((anchored payload).queue ++ take padding (anchored payload).free) ++ ws →
      capacity payload' ≡ capacity payload → packets_seen (enqueued (padded metadata padding) (entry (length ws) (Some header) ∷ [])) payload' ≡
      appended (packets_seen metadata payload) size header ws
  packets_seen-appended metadata payload payload' padding size header ws ok room is start bs cap =
      let a = anchored payload in
      let c = counts metadata payload ok in
      let pad = take padding a.free in
      let shape : payload'.queue ≡ payload.queue ++ (pad ++ ws) = bs ∙ append_assoc a.queue pad ws ∙
      ap (λ xs. xs ++ (pad ++ ws)) (anchored-queue_same payload) in
      let long : length pad ≡ padding = length-take-le padding a.free (omega (arith, room.window)) in
      let packets : packets_of 0 (metadata.queue ++ entries_for padding (length ws) header) (payload.queue ++ (pad ++ ws)) ≡
      packets_of 0 metadata.queue payload.queue ++ packet padding header ws ∷ [] =
      packets_of-append metadata.queue (entries_for padding (length ws) header) payload.queue (pad ++ ws) payload.start (capacity payload) ok.laid ok.sizes
      ∙ ap (λ ps. packets_of 0 metadata.queue payload.queue ++ ps) (packets_of-entries_for padding (length ws) header pad ws long refl) in
      packets_seen-from (enqueued (padded metadata padding) (entry (length ws) (Some header) ∷ [])) payload' (metadata.queue ++
      entries_for padding (length ws) header) (payload.queue ++ (pad ++ ws)) (start_of (packets_seen metadata payload)) (capacity metadata)
      (capacity payload) (queue-padded metadata padding (length ws) header) shape (start ∙
      sym c.start) (capacity-padded metadata padding (length ws) header room.position room.positions) cap
      ∙ ap (λ ps. packets_in ps (start_of (packets_seen metadata payload)) (capacity metadata) (capacity payload)) packets
      ∙ ap (λ n. packets_in (packets_of 0 metadata.queue payload.queue ++ packet n header ws ∷ []) (start_of (packets_seen metadata payload))
      (capacity metadata) (capacity payload)) is

  -- the header of the first entry
  pub header_first : (ms : List (PacketMetadata H)) (m : PacketMetadata H) → BeginsWithPacket ms → slice_get ms 0 ≡ Some m → IsSome m.header
  header_first ms m h e = subst (λ xs. BeginsWithPacket xs) (split_first ms m e) h

  some_header : (header : Option H) → IsSome header → (h : H) × (header ≡ Some h)
  some_header None e = absurd (false≢true e)
  some_header (Some h) e = (h, refl)

  -- the first entry, where it is a packet's
  pub packet_first : (ms : List (PacketMetadata H)) (m : PacketMetadata H) → BeginsWithPacket ms → slice_get ms 0 ≡ Some m →
      (h : H) × (slice_get ms 0 ≡ Some (entry m.size (Some h)))
  packet_first ms m begins e =
      let it = some_header m.header (header_first ms m begins e) in
      (it.0, e ∙ ap (λ h. Some (entry m.size h)) it.1)

  -- the entries and bytes of a new packet whose bytes are as they were
  pub AreEntries-extended : (metadata : Ring (PacketMetadata H)) (payload : Ring ℕ) (padding size : ℕ) (header : H) → AreEntries metadata payload →
      HasRoom metadata payload padding size →
      AreEntries (enqueued (padded metadata padding) (entry size (Some header) ∷ [])) (extended (extended (anchored payload) padding) size)
  AreEntries-extended metadata payload padding size header ok room =
      let a = anchored payload in
      let same = length-anchored payload ok.placed in
      let one : length (a.queue ++ take padding a.free) ≡ length a.queue + padding = length-append a.queue (take padding a.free) ∙
      omega (arith, length-take-le padding a.free (omega (arith, room.window))) in
      let two : length ((a.queue ++ take padding a.free) ++ take size (drop padding a.free)) ≡ length a.queue + padding + size =
      length-append (a.queue ++ take padding a.free) (take size (drop padding a.free)) ∙
      omega (arith, one, length-take-le size (drop padding a.free) (omega (arith, room.window, length-drop padding a.free))) in
      AreEntries-appended metadata payload (extended (extended a padding) size) padding size size header ok room (omega arith) refl (omega (arith, two, same.0))
      (omega (arith, two, same.0, same.1, room.window, length-drop padding a.free, length-drop size (drop padding a.free)))

  -- and of one whose bytes were written before they were queued
  pub AreEntries-written : (metadata : Ring (PacketMetadata H)) (payload : Ring ℕ) (padding size count : ℕ) (header : H) (left : List ℕ) →
      AreEntries metadata payload → HasRoom metadata payload padding size → count ≤ size → length left ≡ size →
      AreEntries (enqueued (padded metadata padding) (entry count (Some header) ∷ []))
      (extended (overwritten (extended (anchored payload) padding) 0 left) count)
  AreEntries-written metadata payload padding size count header left ok room fits long =
      let a = anchored payload in
      let same = length-anchored payload ok.placed in
      let e = extended a padding in
      let one : length e.queue ≡ length a.queue + padding = length-append a.queue (take padding a.free) ∙
      omega (arith, length-take-le padding a.free (omega (arith, room.window))) in
      let free : length e.free ≡ length a.free - padding = length-drop padding a.free in
      let w = written_ring e left count (omega (arith, long, fits)) (omega (arith, long, free, room.window)) in
      let two : length (extended (overwritten e 0 left) count).queue ≡ length e.queue + count = ap length w.0 ∙ length-append e.queue (take count left) ∙
      omega (arith, length-take-le count left (omega (arith, long, fits))) in
      AreEntries-appended metadata payload (extended (overwritten e 0 left) count) padding size count header ok room fits refl (omega (arith, one, two, same.0))
      (w.1 ∙ omega (arith, one, free, same.0, same.1, room.window))

  pub packets_seen-written : (metadata : Ring (PacketMetadata H)) (payload : Ring ℕ) (padding size count : ℕ) (header : H) (left : List ℕ) →
      AreEntries metadata payload → HasRoom metadata payload padding size → padding ≡ padding_for (packets_seen metadata payload) size → count ≤ size →
      length left ≡ size → packets_seen (enqueued (padded metadata padding) (entry count (Some header) ∷ []))
      (extended (overwritten (extended (anchored payload) padding) 0 left) count) ≡ appended (packets_seen metadata payload) size header (take count left)
  packets_seen-written metadata payload padding size count header left ok room is fits long =
      let a = anchored payload in
      let same = length-anchored payload ok.placed in
      let e = extended a padding in
      let one : length e.queue ≡ length a.queue + padding = length-append a.queue (take padding a.free) ∙
      omega (arith, length-take-le padding a.free (omega (arith, room.window))) in
      let free : length e.free ≡ length a.free - padding = length-drop padding a.free in
      let w = written_ring e left count (omega (arith, long, fits)) (omega (arith, long, free, room.window)) in
      let n : count ≡ length (take count left) = sym (length-take-le count left (omega (arith, long, fits))) in
      ap (λ k. packets_seen (enqueued (padded metadata padding) (entry k (Some header) ∷ [])) (extended (overwritten e 0 left) count)) n
      ∙ packets_seen-appended metadata payload (extended (overwritten e 0 left) count) padding size header (take count left) ok room is refl w.0 (w.1 ∙
      omega (arith, one, free, same.0, same.1, room.window))

  -- a packet whose bytes were written after the padding before this was taken
  pub AreEntries-following : (metadata : Ring (PacketMetadata H)) (payload payload' : Ring ℕ) (padding size : ℕ) (header : H) (left : List ℕ) →
      AreEntries metadata payload → HasRoom metadata payload padding size → length left ≡ size → payload' ≡ following (anchored payload) padding left →
      AreEntries (enqueued (padded metadata padding) (entry size (Some header) ∷ [])) payload'
  AreEntries-following metadata payload payload' padding size header left ok room long is =
      let a = anchored payload in
      let pad = take padding a.free in
      let same = length-anchored payload ok.placed in
      let n : length ((a.queue ++ pad) ++ left) ≡ length a.queue + padding + size = length-append (a.queue ++ pad) left ∙
      omega (arith, length-append a.queue pad, length-take-le padding a.free (omega (arith, room.window)), long) in
      AreEntries-appended metadata payload payload' padding size size header ok room (omega arith) (ap (λ r. r.start) is)
      (ap (λ r. length r.queue) is ∙ omega (arith, n, same.0))
      (ap capacity is ∙ omega (arith, n, length-drop (padding + length left) a.free, long, room.window, same.0, same.1))

  pub packets_seen-following : (metadata : Ring (PacketMetadata H)) (payload payload' : Ring ℕ) (padding size : ℕ) (header : H) (left : List ℕ) →
      AreEntries metadata payload → HasRoom metadata payload padding size → padding ≡ padding_for (packets_seen metadata payload) size → length left ≡ size →
      payload' ≡ following (anchored payload) padding left → packets_seen (enqueued (padded metadata padding) (entry size (Some header) ∷ [])) payload' ≡
      appended (packets_seen metadata payload) size header left
  packets_seen-following metadata payload payload' padding size header left ok room for long is =
      let a = anchored payload in
      let pad = take padding a.free in
      let same = length-anchored payload ok.placed in
      let n : length ((a.queue ++ pad) ++ left) ≡ length a.queue + padding + size = length-append (a.queue ++ pad) left ∙
      omega (arith, length-append a.queue pad, length-take-le padding a.free (omega (arith, room.window)), long) in
      ap (λ k. packets_seen (enqueued (padded metadata padding) (entry k (Some header) ∷ [])) payload') (sym long)
      ∙ packets_seen-appended metadata payload payload' padding size header left ok room for (ap (λ r. r.start) is) (ap (λ r. r.queue) is)
      (ap capacity is ∙ omega (arith, n, length-drop (padding + length left) a.free, long, room.window, same.0, same.1))

  -- a queue whose bytes are as they were
  pub AreEntries-restored : (metadata : Ring (PacketMetadata H)) (payload payload' : Ring ℕ) → AreEntries metadata payload → IsRestored payload payload' →
      AreEntries metadata payload'
  AreEntries-restored metadata payload payload' ok is =
      AreEntries-from metadata payload' metadata.queue payload.start (capacity payload) refl is.start is.room ok.placed ok.laid
      (ok.sizes ∙ sym (ap length is.queue))

  pub packets_seen-restored : (metadata : Ring (PacketMetadata H)) (payload payload' : Ring ℕ) → IsRestored payload payload' →
      packets_seen metadata payload' ≡ packets_seen metadata payload
  packets_seen-restored metadata payload payload' is =
      packets_seen-from metadata payload' metadata.queue payload.queue payload.start (capacity metadata) (capacity payload) refl is.queue is.start refl is.room
