use Rattle.std.proofs.Common.{length}
use Rattle.tcp_block.specs.Answers.{acked, drawn}
use Rattle.tcp_block.specs.Segments.{no_ranges}
use Rattle.tcp_socket.proofs.Steps.{acked_leads, so_leads}
use Rattle.tcp_socket.proofs.socket.Socket.challenge_or_acknowledge.Goals as goal

pub returns-then-again : goal.returns-then-again
returns-then-again g c =
    let cx = g.C.Context.context c.args.cx.now in
    let i = c.args.incoming.now in
    let leads =
    so_leads c.args.again (acked cx c.args.self.now i.ip_repr.now i.header.now no_ranges) (drawn cx c.args.self.now i.ip_repr.now i.header.now) _ _ c.if-again.true
    (acked_leads cx c.args.self.now c.acknowledge_all.new.self c.acknowledge_all.result i.ip_repr.now i.header.now (length i.bytes.now)
    c.acknowledge_all.ensures.window c.acknowledge_all.ensures.socket)
    in
    record { answer = leads.answer; socket = leads.socket }
