-- What is written of cases.
use Rattle.std.specs.Prelude.{ℕ, List, ◌++◌, codes, Option}
use Rattle.std.specs.Fmt.{decimal}
use Rattle.std.specs.Io.KnownBytes.{Appends}

-- of one that is a script: a case's name, what its script writes, and the status with which it ended
abbrev pub case_text : List ℕ → List ℕ → ℕ → List ℕ
case_text name output status = (codes "== " ++ name) ++ (codes "\n" ++ (output ++ (codes "status " ++ (decimal status ++ codes "\n"))))

-- something was written after what a writer held
abbrev pub Grows : Option (List ℕ) → Option (List ℕ) → Type 0
Grows old new = (output : List ℕ) × Appends old new output
