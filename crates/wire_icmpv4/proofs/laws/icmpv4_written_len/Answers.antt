use Rattle.wire_icmpv4.proofs.Lengths.{length-message}
use Rattle.wire_icmpv4.proofs.laws.icmpv4_written_len.Goals as goal

pub returns : goal.returns
returns c = length-message
