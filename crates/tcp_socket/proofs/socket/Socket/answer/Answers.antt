use Rattle.std.proofs.Common.{length}
use Rattle.tcp_socket.proofs.Steps.{held_leads}
use Rattle.tcp_socket.proofs.socket.Socket.answer.Goals as goal

pub returns-in-Some : goal.returns-in-Some
returns-in-Some g c =
    let i = c.args.incoming.now in
    let leads =
    held_leads (g.C.Context.context c.args.cx.now) c.args.self.now c.acknowledge_all.new.self c.acknowledge_all.result c.in-Some.offset c.args.early
    i.ip_repr.now i.header.now (length i.bytes.now) c.args.fills c.in-Some.is c.acknowledge_all.ensures.window c.acknowledge_all.ensures.socket
    in
    record { answer = leads.answer; socket = leads.socket }
