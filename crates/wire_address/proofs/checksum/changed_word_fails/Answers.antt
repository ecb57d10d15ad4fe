use Rattle.wire_address.proofs.Sums.{ChecksumHolds-put16}
use Rattle.wire_address.proofs.checksum.changed_word_fails.Goals as goal

pub returns : goal.returns
returns c = ChecksumHolds-put16
