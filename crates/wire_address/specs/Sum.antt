-- The word sum of a list of bytes, on which the Internet checksum stands (RFC 1071, section 1).
use Rattle.std.specs.Prelude.{◌≡◌, ℕ, ◌+◌, ◌-◌, ◌*◌, ◌%◌, ◌<◌, List, [], ◌∷◌, zero, suc}

-- the plain sum of the words of two bytes, the most significant byte first; an odd last byte is a high byte
abbrev pub word_sum : List ℕ → ℕ
word_sum [] = 0
word_sum (b ∷ []) = 256 * b
word_sum (b ∷ c ∷ bytes) = 256 * b + c + word_sum bytes

-- the one's complement sum of 16 bits: 0 for a sum of 0, else the number from 1 to 65535 that is
-- congruent to the sum modulo 65535
abbrev pub folded : ℕ → ℕ
folded zero = 0
folded (suc n) = n % 65535 + 1

-- the complement of the one's complement sum: what a checksum field holds
abbrev pub complement : ℕ → ℕ
complement sum = 65535 - folded sum

-- A checksum holds where the word sum of all that it covers, itself included, is a positive multiple of 65535.
abbrev pub ChecksumHolds : ℕ → Type 0
ChecksumHolds sum = (k : ℕ) × (0 < k) × (sum ≡ 65535 * k)
