use Rattle.wire_icmpv4.proofs.Messages.{bytes-spelling}
use Rattle.wire_icmpv4.proofs.laws.icmpv4_spelled.Goals as goal

pub returns : goal.returns
returns c = bytes-spelling
