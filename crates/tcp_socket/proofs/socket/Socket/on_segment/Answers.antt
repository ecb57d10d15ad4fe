use Rattle.std.proofs.Common.{Option, sym, subst}
use Rattle.std.specs.Prelude.{IfSome}
use Rattle.socket_context.specs.Packet.{IsSendable}
use Rattle.tcp_block.specs.Reply.{Reply}
use Rattle.tcp_socket.specs.Replies.{packet_in}
use Rattle.tcp_socket.proofs.Answered.{sendable_answer}
use Rattle.tcp_socket.proofs.socket.Socket.on_segment.Goals as goal

pub returns-clause-sendable : goal.returns-clause-sendable
returns-clause-sendable g c =
    subst (λ (o : Option Reply). IfSome o (λ x. IsSendable (packet_in x))) (sym c.arrive.ensures.answer)
    (sendable_answer (g.C.Context.context c.args.cx.now) c.args.self.now c.args.ip_repr.now c.args.header.now c.args.bytes.now)
