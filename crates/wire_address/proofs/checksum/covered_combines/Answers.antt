use Rattle.wire_address.proofs.Covered.{folded-covered}
use Rattle.wire_address.proofs.checksum.covered_combines.Goals as goal

pub returns : goal.returns
returns c = folded-covered
