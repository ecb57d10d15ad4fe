-- Bytes written one run after another.
use Rattle.std.specs.Prelude.{◌≡◌, ℕ, ◌+◌, List, ◌++◌, length, take}

-- new bytes are the old ones up to an offset, then these, up to the end
pub record Extends (old : List ℕ) (at : ℕ) (new : List ℕ) (end : ℕ) (bytes : List ℕ) : Type 0 where
  pub front : take end new ≡ take at old ++ bytes
  pub within : end ≡ at + length bytes
