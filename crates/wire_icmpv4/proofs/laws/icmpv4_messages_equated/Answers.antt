use Rattle.wire_icmpv4.proofs.Equal.{Decides-header, Decides-message}
use Rattle.wire_icmpv4.proofs.laws.icmpv4_messages_equated.Goals as goal

pub returns : goal.returns
returns c = record { headers = Decides-header; messages = Decides-message }
