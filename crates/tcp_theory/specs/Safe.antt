-- What the theorem promises of a side that writes and of its peer, which reads.
use Rattle.std.specs.Prelude.{◌≡◌, ℕ, ◌≤◌, true, List, ◌++◌, length}
use Rattle.tcp_theory.specs.Side.{Side, taken_in, freed}
use Rattle.tcp_theory.specs.Run.{World}

abbrev pub IsPrefixOf : List ℕ → List ℕ → Type 0
IsPrefixOf front stream = (rest : List ℕ) × (front ++ rest ≡ stream)

pub record IsSafe (writer reader : Side) : Type 0 where
  -- what the reader took in, read or waiting, begins what the writer wrote
  pub prefix : IsPrefixOf (taken_in reader) writer.written
  -- only bytes that were taken in are freed
  pub freed : freed writer ≤ length (taken_in reader)
  -- end of stream means closed and complete
  pub finished : reader.took_fin ≡ true → (writer.closed ≡ true) × (taken_in reader ≡ writer.written)

-- both ways
abbrev pub AreSafe : World → Type 0
AreSafe w = IsSafe w.a w.b × IsSafe w.b w.a
