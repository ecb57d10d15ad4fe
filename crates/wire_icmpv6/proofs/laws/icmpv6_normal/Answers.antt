use Rattle.wire_icmpv6.proofs.Normal.{normal-read, normal-normal}
use Rattle.wire_icmpv6.proofs.laws.icmpv6_normal.Goals as goal

pub returns : goal.returns
returns c = record { read = normal-read; again = normal-normal }
