use Rattle.std.proofs.Common.{ap, ◌+◌, ◌%◌, ◌^◌}
use Rattle.std.specs.Simd.Lanes.{fold_l}
use Rattle.wire_address.proofs.Vectors.{halves_by_lanes}
use Rattle.wire_address.proofs.checksum.sum_of_halves.Goals as goal

pub returns : goal.returns
returns c = ap (λ lanes. fold_l (λ a b. (a + b) % 2 ^ 64) 0 lanes) (halves_by_lanes 8 c.args.words c.args.high c.fits-words.0 c.fits-high.0)
