-- What a contract sees of a `PacketBuffer`.
use Rattle.std.specs.Prelude.{ℕ, ◌+◌, ◌-◌, ◌%◌, ◌==◌, nat_lt, nat_le, ◌&&◌, ◌||◌, Bool, if◌then◌else◌, min, List, [], ◌∷◌, ◌++◌, length, drop, map, Option}
use Rattle.std.specs.Prelude.{None, Some, refl}
use Rattle.std.specs.Coded.{Coded, code_by, coded×, coded_list, coded_ℕ}

-- A packet in its offset. `padding` counts the bytes that were skipped before it at the end of the storage.
pub record QueuedPacket (H : Type 0) : Type 0 where
  pub padding : ℕ
  pub header : H
  pub bytes : List ℕ

-- The packets in the order they came in. `start` is the place of the first byte that is taken, `positions` the most entries
-- for headers and padding, and `room` the most bytes.
pub record Packets (H : Type 0) : Type 0 where
  pub packets : List (QueuedPacket H)
  pub start : ℕ
  pub positions : ℕ
  pub room : ℕ

module _ {H : Type 0} where
  abbrev pub packet : ℕ → H → List ℕ → QueuedPacket H
  packet padding header bytes = record { padding = padding; header = header; bytes = bytes }

  abbrev pub packet_code : Coded H → Coded (QueuedPacket H)
  packet_code c =
      code_by (ℕ × (H × List ℕ)) (coded× coded_ℕ (coded× c (coded_list coded_ℕ))) (λ p. (p.padding, (p.header, p.bytes)))
      (λ p. packet p.0 p.1.0 p.1.1) (λ _. refl)

  abbrev pub packets_in : List (QueuedPacket H) → ℕ → ℕ → ℕ → Packets H
  packets_in packets start positions room = record { packets = packets; start = start; positions = positions; room = room }

  abbrev pub packets_code : Coded H → Coded (Packets H)
  packets_code c =
      code_by (List (QueuedPacket H) × (ℕ × (ℕ × ℕ))) (coded× (coded_list (packet_code c)) (coded× coded_ℕ (coded× coded_ℕ coded_ℕ)))
      (λ q. (q.packets, (q.start, (q.positions, q.room)))) (λ p. packets_in p.0 p.1.0 p.1.1.0 p.1.1.1) (λ _. refl)

  -- the headers and bytes in order, without their offsets
  abbrev pub contents : Packets H → List (H × List ℕ)
  contents q = map (λ p. (p.header, p.bytes)) q.packets

  -- the entries that a packet takes: padding has one of its own
  abbrev pub entries : QueuedPacket H → ℕ
  entries p = if p.padding == 0 then 1 else 2

  abbrev pub used_offsets : List (QueuedPacket H) → ℕ
  used_offsets [] = 0
  used_offsets (p ∷ ps) = entries p + used_offsets ps

  -- the bytes that it takes
  abbrev pub taken : QueuedPacket H → ℕ
  taken p = p.padding + length p.bytes

  abbrev pub used_room : List (QueuedPacket H) → ℕ
  used_room [] = 0
  used_room (p ∷ ps) = taken p + used_room ps

  abbrev pub window : Packets H → ℕ
  window q = q.room - used_room q.packets

  -- the offset that a new packet is written from where none of the bytes is taken
  abbrev pub start_of : Packets H → ℕ
  start_of q = if used_room q.packets == 0 then 0 else q.start

  -- how many bytes can be taken before the end of the storage
  abbrev pub unbroken : Packets H → ℕ
  unbroken q = min (window q) (q.room - (start_of q + used_room q.packets) % q.room)

  -- the padding that a packet of this size needs before it
  abbrev pub padding_for : Packets H → ℕ → ℕ
  padding_for q size = if nat_lt (unbroken q) size then unbroken q else 0

  -- There is no room for a packet of this size: an entry is missing, or bytes are. A packet's bytes are unbroken, so where
  -- the unbroken part is too short, padding fills it.
  abbrev pub is_full_for : Packets H → ℕ → Bool
  is_full_for q size =
      nat_le q.positions (used_offsets q.packets) ||
      (nat_lt (window q) size || (nat_lt (unbroken q) size && (nat_le q.positions (used_offsets q.packets + 1) || nat_lt (window q - unbroken q) size)))

  -- a packet after the others, with the padding that room for `size` bytes needs
  abbrev pub appended : Packets H → ℕ → H → List ℕ → Packets H
  appended q size header bytes =
      packets_in (q.packets ++ packet (padding_for q size) header bytes ∷ []) (start_of q) q.positions q.room

  abbrev pub unpadded_by : List (QueuedPacket H) → Packets H → Packets H
  unpadded_by [] q = q
  unpadded_by (p ∷ ps) q =
      if p.padding == 0 then q
      else packets_in (packet 0 p.header p.bytes ∷ ps) ((q.start + p.padding) % q.room) q.positions q.room

  -- the padding before the first packet given up
  abbrev pub unpadded : Packets H → Packets H
  unpadded q = unpadded_by q.packets q

  abbrev pub first_by : List (QueuedPacket H) → Option (H × List ℕ)
  first_by [] = None
  first_by (p ∷ ps) = Some (p.header, p.bytes)

  -- the first packet's header and bytes
  abbrev pub first : Packets H → Option (H × List ℕ)
  first q = first_by q.packets

  abbrev pub without_first_by : List (QueuedPacket H) → Packets H → Packets H
  without_first_by [] q = q
  without_first_by (p ∷ ps) q = packets_in ps ((q.start + p.padding + length p.bytes) % q.room) q.positions q.room

  -- without the first packet
  abbrev pub without_first : Packets H → Packets H
  without_first q = without_first_by q.packets q

  -- the first packet with another header and other bytes, and no padding before it
  abbrev pub with_first : Packets H → H → List ℕ → Packets H
  with_first q header bytes = packets_in (packet 0 header bytes ∷ drop 1 q.packets) q.start q.positions q.room
