use Rattle.wire_icmpv6.proofs.Spelled.{message-spelling}
use Rattle.wire_icmpv6.proofs.laws.icmpv6_spelled.Goals as goal

pub returns : goal.returns
returns c = message-spelling
