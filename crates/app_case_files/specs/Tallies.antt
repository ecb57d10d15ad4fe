-- How many bytes were read, and their sum: the CRC-32 of RFC 1952, section 8.
use Rattle.std.specs.Prelude.{ℕ, ◌+◌, ◌-◌, ◌/◌, ◌%◌, ◌^◌, ◌==◌, if◌then◌else◌, bit_xor, List, ◌++◌, length, codes}
use Rattle.std.specs.List.{fold}
use Rattle.std.specs.Fmt.{decimal}
use Rattle.app_case_files.specs.declared.tally.Tally.{Tally}

-- the register after one bit
unfoldable pub following_bit : ℕ → ℕ
following_bit register = if register % 2 == 1 then bit_xor (register / 2) 0xedb88320 else register / 2

abbrev pub following_four_bits : ℕ → ℕ
following_four_bits register = following_bit (following_bit (following_bit (following_bit register)))

-- the register after a byte
unfoldable pub following_byte : ℕ → ℕ → ℕ
following_byte register byte = following_four_bits (following_four_bits (bit_xor register byte))

abbrev pub empty_register : ℕ
empty_register = 2 ^ 32 - 1

-- the CRC-32 of these bytes
abbrev pub crc32 : List ℕ → ℕ
crc32 bytes = bit_xor (fold following_byte empty_register bytes) empty_register

-- a tally, and then these bytes
abbrev pub with_bytes : Tally → List ℕ → Tally
with_bytes t bytes = record { count = (t.count + length bytes) % 2 ^ 64; register = fold following_byte t.register bytes }

-- the tally of these bytes
abbrev pub tally : List ℕ → Tally
tally bytes = with_bytes (record { count = 0; register = empty_register }) bytes

-- the line of a tally: how many bytes it has, and their CRC-32
abbrev pub tally_line : Tally → List ℕ
tally_line t = codes "read " ++ (decimal t.count ++ (codes " bytes, sum " ++ (decimal (bit_xor t.register empty_register) ++ codes "\n")))
