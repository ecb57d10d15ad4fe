use Rattle.wire_address.proofs.Sums.{ChecksumHolds-complement}
use Rattle.wire_address.proofs.checksum.complement_holds.Goals as goal

pub returns : goal.returns
returns c = ChecksumHolds-complement
