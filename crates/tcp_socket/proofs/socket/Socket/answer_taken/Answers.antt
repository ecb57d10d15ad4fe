use Rattle.std.proofs.Common.{length}
use Rattle.tcp_socket.proofs.Steps.{at_once_leads, delayed_leads}
use Rattle.tcp_socket.proofs.socket.Socket.answer_taken.Goals as goal

pub returns-then-answers_at_once : goal.returns-then-answers_at_once
returns-then-answers_at_once g c =
    let i = c.args.incoming.now in
    let leads =
    at_once_leads (g.C.Context.context c.args.cx.now) c.args.self.now c.acknowledge_all.new.self c.acknowledge_all.result c.answers_at_once.result
    i.ip_repr.now i.header.now (length i.bytes.now) c.args.fills c.if-answers_at_once.true c.answers_at_once.ensures
    c.acknowledge_all.ensures.window c.acknowledge_all.ensures.socket
    in
    record { answer = leads.answer; socket = leads.socket }

pub returns-else-answers_at_once : goal.returns-else-answers_at_once
returns-else-answers_at_once g c =
    let i = c.args.incoming.now in
    let leads =
    delayed_leads (g.C.Context.context c.args.cx.now) c.args.self.now c.delay_ack.new.self c.now.result c.answers_at_once.result i.ip_repr.now i.header.now
    (length i.bytes.now) c.args.fills c.if-answers_at_once.false c.answers_at_once.ensures c.now.ensures.value c.delay_ack.ensures
    in
    record { answer = leads.answer; socket = leads.socket }
