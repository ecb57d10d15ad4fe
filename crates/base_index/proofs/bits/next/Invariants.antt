use Rattle.std.proofs.Common.{◌≡◌, ℕ, ◌*◌, ◌<◌, ◌≤◌, false}
use Rattle.base_index.specs.Bits.{tells}
use Rattle.base_index.proofs.bits.next.Given as goal

abbrev pub invariant-loop-word : goal.invariant-loop-word
invariant-loop-word l = (l.fn.from < 64 * l.word) × ((i : ℕ) → l.fn.from ≤ i → i < 64 * l.word → tells l.fn.words i ≡ false)
