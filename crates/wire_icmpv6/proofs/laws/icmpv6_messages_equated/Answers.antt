use Rattle.wire_icmpv6.proofs.Equal.{Decides-neighbor, Decides-header, Decides-message}
use Rattle.wire_icmpv6.proofs.laws.icmpv6_messages_equated.Goals as goal

pub returns : goal.returns
returns c = record { neighbor = Decides-neighbor; headers = Decides-header; messages = Decides-message }
