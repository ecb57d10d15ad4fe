use Rattle.wire_icmpv6.proofs.NdiscLaws.{buffer_len-room}
use Rattle.wire_icmpv6.proofs.laws.ndisc_no_longer.Goals as goal

pub returns : goal.returns
returns c = buffer_len-room
