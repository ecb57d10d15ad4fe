-- How an `Assembler` is printed: `[ 4 (2) 3 ]` holds the positions 0 to 3 and 6 to 8.
use Rattle.std.specs.Prelude.{ℕ, ◌-◌, ◌==◌, if◌then◌else◌, List, [], ◌∷◌, ◌++◌, codes, decimal}

-- how many positions are missing before a run, where any are
abbrev pub hole_text : ℕ → List ℕ
hole_text size = if size == 0 then [] else codes "(" ++ (decimal size ++ codes ") ")

-- how many each run holds, with what is missing before it from the position on that was reached
abbrev pub runs_text : ℕ → List (ℕ × ℕ) → List ℕ
runs_text reached [] = []
runs_text reached (r ∷ rs) = hole_text (r.0 - reached) ++ (decimal (r.1 - r.0) ++ (codes " " ++ runs_text r.1 rs))

abbrev pub assembler_text : List (ℕ × ℕ) → List ℕ
assembler_text runs = codes "[ " ++ (runs_text 0 runs ++ codes "]")
