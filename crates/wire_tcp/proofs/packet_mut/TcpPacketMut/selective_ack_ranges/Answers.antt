use Rattle.std.proofs.Common.{sym, subst}
use Rattle.wire_tcp.specs.Tcp.{HasOptions}
use Rattle.wire_tcp.proofs.packet_mut.TcpPacketMut.selective_ack_ranges.Goals as goal

pub returns-clause-only : goal.returns-clause-only
returns-clause-only c = λ v has. c.selective_ack_ranges.ensures.only v (subst (λ xs. HasOptions xs v) (sym c.new_unchecked.ensures) has)
