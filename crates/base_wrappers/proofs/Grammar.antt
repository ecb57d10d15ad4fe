-- A capture's records, read.
use Rattle.std.proofs.Common.{arith, ℕ, ◌/◌, ◌%◌, ◌^◌, ◌<◌, List, [], ◌∷◌, ◌++◌, length, refl, subst, All, map}
use Rattle.std.proofs.lemmas.List.Elements.{All-head, All-tail}
use Rattle.base_wrappers.specs.Pcap.{le32, stamp, record_of, records_of}
use Rattle.base_wrappers.specs.Trace.{Seen}
use Rattle.base_wrappers.specs.File.{IsWord, IsRecords, end, record_then, Packet, packet_of, HasLength}

low_word : (n : ℕ) → IsWord (le32 n) (n % 2 ^ 32)
low_word n = (n % 256, n / 256 % 256, n / 65536 % 256, n / 16777216 % 256, refl, omega arith)

whole_word : (n : ℕ) → n < 2 ^ 32 → IsWord (le32 n) n
whole_word n fits = subst (λ (m : ℕ). IsWord (le32 n) m) (omega (arith, fits)) (low_word n)

below_million : (n : ℕ) → n % 1000000 < 1000000
below_million n = omega arith

record_first : (s : Seen) (rest : List ℕ) (packets : List Packet) → length s.frame < 2 ^ 32 → IsRecords rest packets
    → IsRecords (record_of s.instant s.frame ++ rest) (packet_of s ∷ packets)
unfolding record_of
record_first s rest packets fits read =
    let below = below_million (stamp s.instant) in
    record_then (low_word (stamp s.instant / 1000000)) (whole_word (stamp s.instant % 1000000) (omega (arith, below))) below
    (whole_word (length s.frame) fits) (whole_word (length s.frame) fits) read

pub records_read : (frames : List Seen) → All HasLength frames → IsRecords (records_of frames) (map packet_of frames)
records_read [] fit = end
records_read (s ∷ frames) fit = record_first s (records_of frames) (map packet_of frames) (All-head HasLength s frames fit) (records_read frames (All-tail HasLength s frames fit))
