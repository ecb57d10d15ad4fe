use Rattle.std.proofs.Common.{length}
use Rattle.tcp_socket.specs.Answering.{answer_of}
use Rattle.tcp_socket.proofs.Steps.{outside_leads}
use Rattle.tcp_socket.proofs.socket.Socket.on_outside_window.Goals as goal

pub returns-then-is_before_window-clause-answer : goal.returns-then-is_before_window-clause-answer
returns-then-is_before_window-clause-answer g c =
    let cx = g.C.Context.context c.args.cx.now in
    let i = c.args.incoming.now in
    (outside_leads cx c.args.self.now c.acknowledge.new.self c.now.result i.ip_repr.now i.header.now (length i.bytes.now) c.args.by c.is_before_window.result
    c.has_length-again.result (answer_of c.answer_outside.result cx.instant c.answer_outside.new.self i.ip_repr.now i.header.now (length i.bytes.now))
    c.answer_outside.new.self c.if-is_before_window.true c.is_before_window.ensures c.has_length-again.ensures c.now.ensures.value c.acknowledge.ensures
    c.answer_outside.ensures.answer c.answer_outside.ensures.socket).answer

pub returns-then-is_before_window-clause-socket : goal.returns-then-is_before_window-clause-socket
returns-then-is_before_window-clause-socket g c =
    let cx = g.C.Context.context c.args.cx.now in
    let i = c.args.incoming.now in
    (outside_leads cx c.args.self.now c.acknowledge.new.self c.now.result i.ip_repr.now i.header.now (length i.bytes.now) c.args.by c.is_before_window.result
    c.has_length-again.result (answer_of c.answer_outside.result cx.instant c.answer_outside.new.self i.ip_repr.now i.header.now (length i.bytes.now))
    c.answer_outside.new.self c.if-is_before_window.true c.is_before_window.ensures c.has_length-again.ensures c.now.ensures.value c.acknowledge.ensures
    c.answer_outside.ensures.answer c.answer_outside.ensures.socket).socket
