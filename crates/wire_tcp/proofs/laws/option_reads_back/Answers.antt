use Rattle.wire_tcp.proofs.Sent.{option-read}
use Rattle.wire_tcp.proofs.laws.option_reads_back.Goals as goal

pub returns : goal.returns
returns c = option-read
