-- Room in a queue, datagram by datagram.
use Rattle.std.proofs.Common.{◌≡◌, ◌⊎◌, inl, inr, ℕ, suc, ◌+◌, ◌-◌, ◌*◌, ◌%◌, ◌<◌, ◌≤◌, ◌==◌, min, Bool, true, false, if◌then◌else◌, List, [], ◌∷◌, ◌++◌, length}
use Rattle.std.proofs.Common.{refl, sym, ap, ◌∙◌, subst, arith, suc-mul}
use Rattle.std.proofs.Math.Nat.{mod-add-mod, mod-le, mod_self}
use Rattle.std.proofs.lemmas.Bool.Decides.{eqb_tells}
use Rattle.net_base.specs.Packets.{QueuedPacket, Packets, packet, used_offsets, used_room, window, start_of, unbroken, padding_for, is_full_for, appended, entries}
use Rattle.base_buffer.proofs.PacketSteps.{IsFull, is_full_tells, padding_tells}
use Rattle.socket_datagram.specs.SocketValue.{taken_in}
use Rattle.socket_datagram.specs.declared.udp.UdpMetadata.{UdpMetadata}
use Rattle.proof_stack.specs.Progress.Ready.{HasRoomFor}

-- THE BYTES THAT LIE UNBROKEN: `used` bytes from `start` in a storage of `room`

abbrev run : (room start used : ℕ) → ℕ
run room start used = min (room - used) (room - (start + used) % room)

-- after bytes that went on where they lay
direct_on : (room start used size : ℕ) → room - used ≤ run room start used → size ≤ room - used
    → room - (used + size) ≤ run room start (used + size)
direct_on room start used size whole fits =
    let same : (start + (used + size)) % room ≡ ((start + used) % room + size) % room =
    ap (λ (n : ℕ). n % room) (let e : start + (used + size) ≡ (start + used) + size = omega arith in e) ∙ sym (mod-add-mod (start + used) room size) in
    omega (arith, same, mod-le ((start + used) % room + size) room, whole, fits)

-- after bytes at whose slot the storage began again
begun_anew : (room start used size : ℕ) → run room start used < size → size ≤ (room - used) - run room start used
    → room - (used + (run room start used + size)) ≤ run room start (used + (run room start used + size))
begun_anew room start used size less fits =
    let some : 0 < room = omega (arith, less, fits) in
    let low : (start + used) % room < room = omega (arith, some) in
    let filled : (start + used) % room + run room start used ≡ room = omega (arith, less, fits, low) in
    let anew : ((start + used) + run room start used) % room ≡ 0 =
    sym (mod-add-mod (start + used) room (run room start used)) ∙ ap (λ (n : ℕ). n % room) filled ∙ mod_self room in
    let same : (start + (used + (run room start used + size))) % room ≡ (0 + size) % room =
    ap (λ (n : ℕ). n % room)
    (let e : start + (used + (run room start used + size)) ≡ ((start + used) + run room start used) + size = omega arith in e)
    ∙ sym (mod-add-mod ((start + used) + run room start used) room size) ∙ ap (λ (n : ℕ). (n + size) % room) anew in
    omega (arith, same, mod-le (0 + size) room, less, fits)

-- WHAT A DATAGRAM TAKES

start_kept : (start used used' : ℕ) → used ≤ used'
    → (if used' == 0 then 0 else if used == 0 then 0 else start) ≡ (if used == 0 then 0 else start)
start_kept start used used' more = elim (eqb_tells used' 0) [
  | inl none ↦ let before : used ≡ 0 = omega (arith, none.1, more) in rw (none.0, before) refl
  | inr some ↦ rw some.0 refl
]

module _ {H : Type 0} where
  slots_with : (ps : List (QueuedPacket H)) (p : QueuedPacket H) → used_offsets (ps ++ p ∷ []) ≡ used_offsets ps + entries p
  slots_with [] p = omega arith
  slots_with (x ∷ ps) p = omega (arith, slots_with ps p)

  room_with : (ps : List (QueuedPacket H)) (p : QueuedPacket H) → used_room (ps ++ p ∷ []) ≡ used_room ps + (p.padding + length p.bytes)
  room_with [] p = omega arith
  room_with (x ∷ ps) p = omega (arith, room_with ps p)

  module _ (q : Packets H) (header : H) (bytes : List ℕ) where
    abbrev then_queue : Packets H
    then_queue = appended q (length bytes) header bytes

    takes_bytes : used_room then_queue.packets ≡ used_room q.packets + (padding_for q (length bytes) + length bytes)
    takes_bytes = room_with q.packets (packet (padding_for q (length bytes)) header bytes)

    takes_entries : used_offsets then_queue.packets ≡ used_offsets q.packets + entries (packet (padding_for q (length bytes)) header bytes)
    takes_entries = slots_with q.packets (packet (padding_for q (length bytes)) header bytes)

    same_start : start_of then_queue ≡ start_of q
    same_start = start_kept q.start (used_room q.packets) (used_room then_queue.packets) (omega (arith, takes_bytes))

    few_entries : (n : ℕ) → (if n == 0 then 1 else 2) ≤ 2
    few_entries n = by (n == 0) where
      by : (none : Bool) → (if none then 1 else 2) ≤ 2
      by true = omega arith
      by false = omega arith

    -- without padding, and after padding
    module _ (proceeds : padding_for q (length bytes) ≡ 0) where
      one_entry : used_offsets then_queue.packets ≡ used_offsets q.packets + 1
      one_entry = takes_entries ∙ ap (λ (n : ℕ). used_offsets q.packets + (if n == 0 then 1 else 2)) proceeds

      its_bytes : used_room then_queue.packets ≡ used_room q.packets + length bytes
      its_bytes = takes_bytes ∙ ap (λ (n : ℕ). used_room q.packets + (n + length bytes)) proceeds ∙ omega arith

      still_direct : window q ≤ unbroken q → length bytes ≤ window q → window then_queue ≤ unbroken then_queue
      still_direct whole fits =
          subst (λ (start : ℕ). window then_queue ≤ run q.room start (used_room then_queue.packets)) (sym same_start)
          (subst (λ (used : ℕ). q.room - used ≤ run q.room (start_of q) used) (sym its_bytes)
          (direct_on q.room (start_of q) (used_room q.packets) (length bytes) whole fits))

    module _ (passes_over : padding_for q (length bytes) ≡ unbroken q) (less : unbroken q < length bytes) where
      all_bytes : used_room then_queue.packets ≡ used_room q.packets + (unbroken q + length bytes)
      all_bytes = takes_bytes ∙ ap (λ (n : ℕ). used_room q.packets + (n + length bytes)) passes_over

      two_entries : used_offsets then_queue.packets ≤ used_offsets q.packets + 2
      two_entries = omega (arith, takes_entries, few_entries (padding_for q (length bytes)))

      then_direct : length bytes ≤ window q - unbroken q → window then_queue ≤ unbroken then_queue
      then_direct fits =
          subst (λ (start : ℕ). window then_queue ≤ run q.room start (used_room then_queue.packets)) (sym same_start)
          (subst (λ (used : ℕ). q.room - used ≤ run q.room (start_of q) used) (sym all_bytes)
          (begun_anew q.room (start_of q) (used_room q.packets) (length bytes) less fits))

-- ROOM FOR SO MANY MORE

-- as HasRoomFor; or, where no bytes are passed over any more, without that one more
abbrev pub HasRoom : Packets UdpMetadata → ℕ → ℕ → Type 0
HasRoom q n most =
    HasRoomFor q n most
    ⊎ ((window q ≤ unbroken q) × (used_offsets q.packets + n ≤ q.positions) × (used_room q.packets + n * most ≤ q.room))

module _ (q : Packets UdpMetadata) (n most : ℕ) where
  -- there is room for one less
  pub room_less : HasRoom q (suc n) most → HasRoom q n most
  room_less (inl has) = inl (record {
    entries = omega (arith, has.entries);
    bytes = omega (arith, has.bytes, suc-mul (suc n) most);
  })
  room_less (inr has) = inr (has.0, omega (arith, has.1), omega (arith, has.2, suc-mul n most))

  module _ (size : ℕ) (short : size ≤ most) where
    abbrev Full : Type 0
    Full = IsFull q.positions (used_offsets q.packets) (window q) (unbroken q) size

    never_full : HasRoom q (suc n) most → Full → ⊥
    never_full (inl has) (inl all) = absurd (omega (arith, has.entries, all))
    never_full (inl has) (inr (inl bytes)) = absurd (omega (arith, has.bytes, bytes, suc-mul (suc n) most, suc-mul n most, short))
    never_full (inl has) (inr (inr (less, inl all))) = absurd (omega (arith, has.entries, all))
    never_full (inl has) (inr (inr (less, inr bytes))) =
        absurd (omega (arith, has.bytes, less, bytes, suc-mul (suc n) most, suc-mul n most, short))
    never_full (inr has) (inl all) = absurd (omega (arith, has.1, all))
    never_full (inr has) (inr (inl bytes)) = absurd (omega (arith, has.2, bytes, suc-mul n most, short))
    never_full (inr has) (inr (inr (less, more))) = absurd (omega (arith, has.0, has.2, less, suc-mul n most, short))

    pub takes : HasRoom q (suc n) most → is_full_for q size ≡ false
    takes has = by (is_full_for q size) refl where
      by : (full : Bool) → is_full_for q size ≡ full → full ≡ false
      by false at = refl
      by true at = absurd (never_full has ((is_full_tells q.positions (used_offsets q.packets) (window q) (unbroken q) size).0 at))

  -- after one there is room for one less
  module _ (header : UdpMetadata) (bytes : List ℕ) (short : length bytes ≤ most) where
    abbrev then_it : Packets UdpMetadata
    then_it = appended q (length bytes) header bytes

    proceeds : padding_for q (length bytes) ≡ 0 → length bytes ≤ unbroken q → HasRoom q (suc n) most → HasRoom then_it n most
    proceeds none fits (inl has) = inl (record {
      entries = omega (arith, one_entry q header bytes none, has.entries);
      bytes = omega (arith, its_bytes q header bytes none, has.bytes, suc-mul (suc n) most, short);
    })
    proceeds none fits (inr has) = inr (
      still_direct q header bytes none has.0 (omega (arith, fits)),
      omega (arith, one_entry q header bytes none, has.1),
      omega (arith, its_bytes q header bytes none, has.2, suc-mul n most, short),
    )

    begins_anew : padding_for q (length bytes) ≡ unbroken q → unbroken q < length bytes → HasRoom q (suc n) most → HasRoom then_it n most
    begins_anew over less (inl has) = inr (
      then_direct q header bytes over less (omega (arith, has.bytes, less, suc-mul (suc n) most, suc-mul n most, short)),
      omega (arith, two_entries q header bytes over less, has.entries),
      omega (arith, all_bytes q header bytes over less, has.bytes, less, suc-mul (suc n) most, suc-mul n most, short),
    )
    begins_anew over less (inr has) = absurd (omega (arith, has.0, has.2, less, suc-mul n most, short))

    following : HasRoom q (suc n) most → HasRoom then_it n most
    following has = elim (padding_tells (unbroken q) (length bytes)) [
      | inl over ↦ begins_anew over.1 over.0 has
      | inr on ↦ proceeds on.1 on.0 has
    ]

    pub room_following : HasRoom q (suc n) most → HasRoom (taken_in q (length bytes) header bytes) n most
    room_following has = by (is_full_for q (length bytes)) where
      by : (full : Bool) → HasRoom (if full then q else appended q (length bytes) header bytes) n most
      by true = room_less has
      by false = following has
