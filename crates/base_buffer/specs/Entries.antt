-- How a `PacketBuffer` keeps its packets: an entry for each packet and for each padding, and the bytes of all in a ring.
use Rattle.std.specs.Prelude.{◌≡◌, ℕ, ◌+◌, ◌%◌, ◌<◌, ◌≤◌, ◌==◌, if◌then◌else◌, List, [], ◌∷◌, length, take, drop, Option, None, Some, IsSome}
use Rattle.base_buffer.specs.Ring.{Ring, capacity, enqueued, IsPlaced}
use Rattle.base_buffer.specs.Packets.{QueuedPacket, Packets, packet, packets_in}
use Rattle.base_buffer.specs.declared.packet_buffer.PacketMetadata.{PacketMetadata}

module _ {H : Type 0} where
  abbrev pub entry : ℕ → Option H → PacketMetadata H
  entry size header = record { size = size; header = header }

  -- after the entries, one for so much padding, if there is any
  abbrev pub padded : Ring (PacketMetadata H) → ℕ → Ring (PacketMetadata H)
  padded metadata size = if size == 0 then metadata else enqueued metadata (entry size None ∷ [])

  -- the packets, where so much padding was passed
  abbrev pub packets_of : ℕ → List (PacketMetadata H) → List ℕ → List (QueuedPacket H)
  packets_of skipped [] bytes = []
  packets_of skipped (m ∷ ms) bytes = elim m.header as (λ _. List (QueuedPacket H)) [
    | None ↦ packets_of (skipped + m.size) ms (drop m.size bytes)
    | Some h ↦ packet skipped h (take m.size bytes) ∷ packets_of 0 ms (drop m.size bytes)
  ]

  -- the padding that comes first
  abbrev pub padding_first : List (PacketMetadata H) → ℕ
  padding_first [] = 0
  padding_first (m ∷ ms) = elim m.header as (λ _. ℕ) [ None ↦ m.size | Some h ↦ 0 ]

  abbrev pub BeginsWithPacket : List (PacketMetadata H) → Type 0
  BeginsWithPacket [] = ⊥
  BeginsWithPacket (m ∷ ms) = IsSome m.header

  -- padding is not empty, and a packet follows it
  abbrev pub IsPadding : PacketMetadata H → List (PacketMetadata H) → Type 0
  IsPadding m ms = elim m.header as (λ _. Type 0) [ None ↦ (0 < m.size) × BeginsWithPacket ms | Some h ↦ Unit {0} ]

  -- each entry's bytes end before the storage does, the first ones beginning at an offset
  abbrev pub AreLaid : ℕ → ℕ → List (PacketMetadata H) → Type 0
  AreLaid at room [] = Unit {0}
  AreLaid at room (m ∷ ms) = (at + m.size ≤ room) × IsPadding m ms × AreLaid ((at + m.size) % room) room ms

  -- how many bytes the entries account for
  abbrev pub size_of : List (PacketMetadata H) → ℕ
  size_of [] = 0
  size_of (m ∷ ms) = m.size + size_of ms

  -- the entries account for the queued bytes
  pub record AreEntries (metadata : Ring (PacketMetadata H)) (payload : Ring ℕ) : Type 0 where
    pub placed : IsPlaced payload
    pub laid : AreLaid payload.start (capacity payload) metadata.queue
    pub sizes : size_of metadata.queue ≡ length payload.queue

  abbrev pub packets_seen : Ring (PacketMetadata H) → Ring ℕ → Packets H
  packets_seen metadata payload =
      packets_in (packets_of 0 metadata.queue payload.queue) payload.start (capacity metadata) (capacity payload)
