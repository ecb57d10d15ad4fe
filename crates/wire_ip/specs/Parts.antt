-- Parts of bytes that are replaced.
use Rattle.std.specs.Prelude.{ℕ, ◌+◌, ◌/◌, ◌%◌, ◌==◌, Bool, List, ◌++◌, take, drop}

-- the bytes with the k at i replaced by those of a field
abbrev pub put_run : List ℕ → ℕ → ℕ → List ℕ → List ℕ
put_run bytes i k field = take i bytes ++ (field ++ drop (i + k) bytes)

-- whether the bit of this weight is set
abbrev pub has_flag : ℕ → ℕ → Bool
has_flag byte weight = byte / weight % 2 == 1
