-- Numbers of two and four bytes that stand inside a list of bytes, the most significant byte first, and bits of a byte.
use Rattle.std.specs.Prelude.{ℕ, Bool, if◌then◌else◌, Option, Some, None, ◌+◌, ◌*◌, ◌/◌, ◌%◌, ◌<◌, List, slice_index, slice_set}

-- the number of two bytes at i
abbrev pub be16 : List ℕ → ℕ → ℕ
be16 bytes i = 256 * slice_index bytes i + slice_index bytes (i + 1)

-- the number of four bytes at i
abbrev pub be32 : List ℕ → ℕ → ℕ
be32 bytes i = 65536 * be16 bytes i + be16 bytes (i + 2)

-- the bytes with the byte at i replaced by n
abbrev pub put8 : List ℕ → ℕ → ℕ → List ℕ
put8 bytes i n = slice_set bytes i n

-- the bytes with the two at i replaced by those of n
abbrev pub put16 : List ℕ → ℕ → ℕ → List ℕ
put16 bytes i n = slice_set (slice_set bytes i (n / 256 % 256)) (i + 1) (n % 256)

-- the bytes with the four at i replaced by those of n
abbrev pub put32 : List ℕ → ℕ → ℕ → List ℕ
put32 bytes i n = put16 (put16 bytes i (n / 65536)) (i + 2) n

-- each number of the list is a byte
abbrev pub IsBytes : List ℕ → Type 0
IsBytes bytes = (i : ℕ) → slice_index bytes i < 256

-- the byte with the bit of this weight set so, and all others as they were
abbrev pub with_flag : ℕ → ℕ → Bool → ℕ
with_flag byte weight value = byte / (2 * weight) * (2 * weight) + (if value then weight else 0) + byte % weight

-- a number, if there is one, below the width
abbrev pub IsNumber : ℕ → Option ℕ → Type 0
IsNumber width None = Unit {0}
IsNumber width (Some n) = n < width
