use Rattle.std.proofs.Common.{length, ap}
use Rattle.tcp_block.specs.Value.{TcpValue}
use Rattle.tcp_socket.specs.Answering.{answer_of}
use Rattle.tcp_socket.proofs.Steps.{content_leads}
use Rattle.tcp_socket.proofs.socket.Socket.on_content.Goals as goal

pub returns-clause-answer : goal.returns-clause-answer
returns-clause-answer g c =
    let cx = g.C.Context.context c.args.cx.now in
    let i = c.args.incoming.now in
    (content_leads c.args.stored cx c.self.inside.tcb.receiver.next c.args.self.now c.take_payload-payload.new.self c.take_payload-payload.result.advance c.take_payload-payload.result.fills
    c.take_payload-payload.result.early i.ip_repr.now i.header.now i.bytes.now
    (answer_of c.finish.result cx.instant c.finish.new.self i.ip_repr.now i.header.now (length i.bytes.now)) c.finish.new.self
    (ap (λ (v : TcpValue). v.tcb.receiver.next) c.self.view_is) c.take_payload-payload.ensures.payload c.finish.ensures.answer c.finish.ensures.socket).answer

pub returns-clause-socket : goal.returns-clause-socket
returns-clause-socket g c =
    let cx = g.C.Context.context c.args.cx.now in
    let i = c.args.incoming.now in
    (content_leads c.args.stored cx c.self.inside.tcb.receiver.next c.args.self.now c.take_payload-payload.new.self c.take_payload-payload.result.advance c.take_payload-payload.result.fills
    c.take_payload-payload.result.early i.ip_repr.now i.header.now i.bytes.now
    (answer_of c.finish.result cx.instant c.finish.new.self i.ip_repr.now i.header.now (length i.bytes.now)) c.finish.new.self
    (ap (λ (v : TcpValue). v.tcb.receiver.next) c.self.view_is) c.take_payload-payload.ensures.payload c.finish.ensures.answer c.finish.ensures.socket).socket
