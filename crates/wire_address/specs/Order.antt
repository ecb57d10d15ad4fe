-- Comparisons and hashes.
use Rattle.std.specs.Prelude.{◌≡◌, ◌↔◌, ℕ, List, IsTrue, fold}
use Rattle.std.specs.Hash.DefaultHasher.{initial, write, finish}
use Rattle.std.specs.declared.cmp.Ordering.TheVariants.{Equal}
use Rattle.wire_address.specs.declared.laws.Comparison.{Comparison}

-- what the standard hasher gives after these writes
abbrev pub hash_after : List (List ℕ) → ℕ
hash_after writes = finish (fold write initial writes)

-- what `==`, `cmp` and the hasher said of two values agrees: they are equal, and neither comes first, exactly where they
-- are the same value, and then their hashes are the same
pub record Agree {A : Type 0} (a b : A) (said : Comparison) : Type 0 where
  pub same : IsTrue said.equal ↔ (a ≡ b)
  pub tie : (said.order ≡ Equal) ↔ (a ≡ b)
  pub alike : a ≡ b → said.hashes.0 ≡ said.hashes.1
