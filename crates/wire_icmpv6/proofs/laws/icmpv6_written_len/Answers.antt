use Rattle.wire_icmpv6.proofs.Lengths.{length-message}
use Rattle.wire_icmpv6.proofs.laws.icmpv6_written_len.Goals as goal

pub returns : goal.returns
returns c = length-message
