use Rattle.wire_address.proofs.Sums.{ChecksumHolds-folded}
use Rattle.wire_address.proofs.checksum.holds_at_all_ones.Goals as goal

pub returns : goal.returns
returns c = ChecksumHolds-folded
