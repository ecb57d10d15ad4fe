use Rattle.wire_address.proofs.Sums.{word_sum-append, folded-append}
use Rattle.wire_address.proofs.checksum.joined.Goals as goal

pub returns : goal.returns
returns c = record { words = word_sum-append; sums = folded-append }
