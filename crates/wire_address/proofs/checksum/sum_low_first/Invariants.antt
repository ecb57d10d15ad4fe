use Rattle.std.proofs.Common.{◌≡◌, ◌+◌, ◌*◌, ◌^◌, ◌<◌, ◌≤◌, length}
use Rattle.wire_address.specs.Sum.{word_sum, folded}
use Rattle.wire_address.proofs.checksum.sum_low_first.Given as goal

abbrev pub invariant-loop-front : goal.invariant-loop-front
invariant-loop-front l =
    (folded (256 * (l.total + l.carries) + word_sum l.rest) ≡ folded (word_sum l.fn.bytes))
    × (l.carries + length l.rest ≤ length l.fn.bytes)
    × (l.total < 2 ^ 128)

abbrev pub decreases-loop-front : goal.decreases-loop-front
decreases-loop-front l = length l.rest

abbrev pub invariant-loop-part : goal.invariant-loop-part
invariant-loop-part l =
    (folded (256 * (l.total + l.carries) + word_sum l.rest) ≡ folded (word_sum l.fn.bytes))
    × (l.carries + length l.rest ≤ length l.fn.bytes)
    × (l.total < 2 ^ 128)

abbrev pub decreases-loop-part : goal.decreases-loop-part
decreases-loop-part l = length l.rest
