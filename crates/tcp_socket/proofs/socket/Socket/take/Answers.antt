use Rattle.std.proofs.Common.{◌≡◌, length, ap, ◌∙◌}
use Rattle.tcp_block.specs.Value.{TcpValue}
use Rattle.tcp_block.specs.Acknowledged.{duplicates_after}
use Rattle.tcp_socket.specs.Answering.{answer_of}
use Rattle.tcp_socket.proofs.Steps.{taken_leads}
use Rattle.tcp_socket.proofs.socket.Socket.take.Goals as goal

pub returns-clause-answer : goal.returns-clause-answer
returns-clause-answer g c =
    let cx = g.C.Context.context c.args.cx.now in
    let i = c.args.incoming.now in
    let count : c.duplicates_after-duplicates.result ≡ duplicates_after c.args.self.now.tcb i.header.now (length i.bytes.now) c.args.by =
    c.duplicates_after-duplicates.ensures ∙ ap (λ (w : TcpValue). duplicates_after w.tcb i.header.now (length i.bytes.now) c.args.by) c.self.view_is
    in
    (taken_leads c.args.stored cx c.duplicates_after-duplicates.result c.args.self.now c.acknowledge.new.self c.now.result i.ip_repr.now i.header.now i.bytes.now c.args.by
    (answer_of c.take_rest.result cx.instant c.take_rest.new.self i.ip_repr.now i.header.now (length i.bytes.now)) c.take_rest.new.self count c.now.ensures.value
    c.acknowledge.ensures c.take_rest.ensures.answer c.take_rest.ensures.socket).answer

pub returns-clause-socket : goal.returns-clause-socket
returns-clause-socket g c =
    let cx = g.C.Context.context c.args.cx.now in
    let i = c.args.incoming.now in
    let count : c.duplicates_after-duplicates.result ≡ duplicates_after c.args.self.now.tcb i.header.now (length i.bytes.now) c.args.by =
    c.duplicates_after-duplicates.ensures ∙ ap (λ (w : TcpValue). duplicates_after w.tcb i.header.now (length i.bytes.now) c.args.by) c.self.view_is
    in
    (taken_leads c.args.stored cx c.duplicates_after-duplicates.result c.args.self.now c.acknowledge.new.self c.now.result i.ip_repr.now i.header.now i.bytes.now c.args.by
    (answer_of c.take_rest.result cx.instant c.take_rest.new.self i.ip_repr.now i.header.now (length i.bytes.now)) c.take_rest.new.self count c.now.ensures.value
    c.acknowledge.ensures c.take_rest.ensures.answer c.take_rest.ensures.socket).socket
