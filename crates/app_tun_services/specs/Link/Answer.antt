-- What bytes an answer is.
use Rattle.std.specs.Prelude.{ℕ, ◌-◌, ◌^◌, ℤ, pos, negsuc, List, ◌++◌, length, Option, Some, None}
use Rattle.byteorder.specs.Endian.{little_bytes}

-- a packet after its length, two bytes with the lowest first
abbrev pub packet_bytes : List ℕ → List ℕ
packet_bytes packet = little_bytes 2 (length packet) ++ packet

-- the instant of the next turn in microseconds, 0 for one that has passed before the start, the largest number for never
abbrev pub next_micros : Option ℤ → ℕ
next_micros None = 2 ^ 64 - 1
next_micros (Some (pos micros)) = micros
next_micros (Some (negsuc _)) = 0

-- what ends an answer, after the packets that were sent: a length of 0, and the instant of the next turn, eight bytes with the lowest first
abbrev pub answer_end : Option ℤ → List ℕ
answer_end next = little_bytes 2 0 ++ little_bytes 8 (next_micros next)
