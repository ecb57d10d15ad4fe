-- How a reader takes the records of a capture (draft-ietf-opsawg-pcap, section 5).
use Rattle.std.specs.Prelude.{◌≡◌, ℕ, ◌+◌, ◌*◌, ◌/◌, ◌%◌, ◌^◌, ◌<◌, List, [], ◌∷◌, ◌++◌, length}
use Rattle.base_wrappers.specs.Pcap.{stamp}
use Rattle.base_wrappers.specs.Trace.{Seen}

-- four bytes, the lowest first, that are a number
abbrev pub IsWord : List ℕ → ℕ → Type 0
IsWord bytes n =
    (a : ℕ) × (b : ℕ) × (c : ℕ) × (d : ℕ) × (bytes ≡ a ∷ b ∷ c ∷ d ∷ []) × (n ≡ a + 256 * b + 65536 * c + 16777216 * d)

pub record Packet : Type 0 where
  pub seconds : ℕ
  pub micros : ℕ
  pub bytes : List ℕ

-- records one behind the other: seconds, microseconds, how many bytes are there, how many there were, and the bytes
pub data IsRecords : List ℕ → List Packet → Type 0 where
  end : IsRecords [] []
  record_then : {seconds micros here whole bytes rest : List ℕ} {s u : ℕ} {packets : List Packet}
      → IsWord seconds s → IsWord micros u → u < 1000000 → IsWord here (length bytes) → IsWord whole (length bytes) → IsRecords rest packets
      → IsRecords (seconds ++ micros ++ here ++ whole ++ bytes ++ rest) (record { seconds = s; micros = u; bytes = bytes } ∷ packets)

-- a frame as a reader sees it: seconds are 32 bits wide
abbrev pub packet_of : Seen → Packet
packet_of s = record { seconds = stamp s.instant / 1000000 % 2 ^ 32; micros = stamp s.instant % 1000000; bytes = s.frame }

-- whose length can be said
abbrev pub HasLength : Seen → Type 0
HasLength s = length s.frame < 2 ^ 32
