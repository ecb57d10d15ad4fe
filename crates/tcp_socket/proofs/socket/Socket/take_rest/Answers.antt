use Rattle.std.proofs.Common.{◌≡◌, false, ℤ, length, sym, ap, ◌∙◌}
use Rattle.tcp_block.specs.Arrival.{told}
use Rattle.tcp_block.specs.Value.{TcpValue}
use Rattle.tcp_block.specs.States.{is_closed}
use Rattle.tcp_socket.specs.Answering.{answer_of}
use Rattle.tcp_socket.proofs.Steps.{rest_leads}
use Rattle.tcp_socket.proofs.socket.Socket.take_rest.Goals as goal

pub returns-clause-answer : goal.returns-clause-answer
returns-clause-answer g c =
    let cx = g.C.Context.context c.args.cx.now in
    let i = c.args.incoming.now in
    let v = c.args.self.now in
    let state : is_closed c.self.inside.tcb.state ≡ is_closed v.tcb.state = ap (λ (w : TcpValue). is_closed w.tcb.state) c.self.view_is in
    let opened : is_closed v.tcb.state ≡ false = sym state ∙ sym c.is_closed.ensures ∙ c.if-is_closed.false in
    let heard : c.on_window.new.self ≡ told v i.header.now c.args.duplicates cx.instant =
    c.on_window.ensures ∙ ap (λ (m : ℤ). told v i.header.now c.args.duplicates m) c.now.ensures.value
    in
    (rest_leads c.args.stored cx c.args.duplicates v c.on_window.new.self i.ip_repr.now i.header.now i.bytes.now
    (answer_of c.on_content.result cx.instant c.on_content.new.self i.ip_repr.now i.header.now (length i.bytes.now)) c.on_content.new.self opened heard
    c.on_content.ensures.answer c.on_content.ensures.socket).answer

pub returns-clause-socket : goal.returns-clause-socket
returns-clause-socket g c =
    let cx = g.C.Context.context c.args.cx.now in
    let i = c.args.incoming.now in
    let v = c.args.self.now in
    let state : is_closed c.self.inside.tcb.state ≡ is_closed v.tcb.state = ap (λ (w : TcpValue). is_closed w.tcb.state) c.self.view_is in
    let opened : is_closed v.tcb.state ≡ false = sym state ∙ sym c.is_closed.ensures ∙ c.if-is_closed.false in
    let heard : c.on_window.new.self ≡ told v i.header.now c.args.duplicates cx.instant =
    c.on_window.ensures ∙ ap (λ (m : ℤ). told v i.header.now c.args.duplicates m) c.now.ensures.value
    in
    (rest_leads c.args.stored cx c.args.duplicates v c.on_window.new.self i.ip_repr.now i.header.now i.bytes.now
    (answer_of c.on_content.result cx.instant c.on_content.new.self i.ip_repr.now i.header.now (length i.bytes.now)) c.on_content.new.self opened heard
    c.on_content.ensures.answer c.on_content.ensures.socket).socket
