-- How times are printed: seconds, a point, three digits of milliseconds, and `s`.
use Rattle.std.specs.Prelude.{ℕ, ◌/◌, ◌%◌, List, ◌++◌, ℤ, pos, negsuc, suc, codes, decimal}

-- exactly three decimal digits, for a number below 1000
abbrev pub three_digits : ℕ → List ℕ
three_digits n = decimal (n / 100) ++ (decimal (n / 10 % 10) ++ decimal (n % 10))

-- the text of so many microseconds; what is less than a millisecond is left out
abbrev pub seconds_text : ℕ → List ℕ
seconds_text micros =
    decimal (micros / 1_000_000)
    ++ (codes "." ++ (three_digits (micros % 1_000_000 / 1000) ++ codes "s"))

-- a count below 0 has a minus sign before the text of its absolute value
abbrev pub signed_seconds_text : ℤ → List ℕ
signed_seconds_text (pos micros) = seconds_text micros
signed_seconds_text (negsuc n) = codes "-" ++ seconds_text (suc n)
