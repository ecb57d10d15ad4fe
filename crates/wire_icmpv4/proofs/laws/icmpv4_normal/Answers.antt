use Rattle.wire_icmpv4.proofs.Normal.{normal-read, normal-normal}
use Rattle.wire_icmpv4.proofs.laws.icmpv4_normal.Goals as goal

pub returns : goal.returns
returns c = record { read = normal-read; again = normal-normal }
