use Rattle.std.proofs.Common.{◌≡◌, ℕ, List, ◌*◌, ◌≤◌, take, sum}
use Rattle.wire_address.proofs.checksum.combine.Given as goal

-- what a loop over the sums keeps
pub record IsSumSoFar (total index : ℕ) (checksums : List ℕ) : Type 0 where
  pub same : total ≡ sum (take index checksums)
  pub room : total ≤ 65535 * index

abbrev pub invariant-loop-checksum : goal.invariant-loop-checksum
invariant-loop-checksum l = IsSumSoFar l.total l.checksum-index l.checksums
