use Rattle.std.proofs.Common.{◌≡◌, ◌∙◌, sym, ap, length}
use Rattle.tcp_block.specs.States.{is_closed}
use Rattle.tcp_block.specs.Value.{TcpValue}
use Rattle.tcp_socket.specs.Answering.{answer_of}
use Rattle.tcp_socket.proofs.Steps.{again_leads, closed_leads}
use Rattle.tcp_socket.proofs.socket.Socket.answer_outside.Goals as goal

pub returns-then-is_closed : goal.returns-then-is_closed
returns-then-is_closed g c =
    let i = c.args.incoming.now in
    let state : is_closed c.self.inside.tcb.state ≡ is_closed c.args.self.now.tcb.state = ap (λ (w : TcpValue). is_closed w.tcb.state) c.self.view_is in
    let leads =
    closed_leads (g.C.Context.context c.args.cx.now) c.args.self.now c.args.again i.ip_repr.now i.header.now (sym state ∙ sym c.is_closed.ensures ∙ c.if-is_closed.true)
    in
    record { answer = leads.answer; socket = leads.socket }

pub returns-else-is_closed : goal.returns-else-is_closed
returns-else-is_closed g c =
    let cx = g.C.Context.context c.args.cx.now in
    let i = c.args.incoming.now in
    let state : is_closed c.self.inside.tcb.state ≡ is_closed c.args.self.now.tcb.state = ap (λ (w : TcpValue). is_closed w.tcb.state) c.self.view_is in
    let leads =
    again_leads cx c.args.self.now c.restart_time_wait.new.self c.args.again c.now.result i.ip_repr.now i.header.now
    (answer_of c.challenge_or_acknowledge.result cx.instant c.challenge_or_acknowledge.new.self i.ip_repr.now i.header.now (length i.bytes.now))
    c.challenge_or_acknowledge.new.self (sym state ∙ sym c.is_closed.ensures ∙ c.if-is_closed.false) c.now.ensures.value c.restart_time_wait.ensures
    c.challenge_or_acknowledge.ensures.answer c.challenge_or_acknowledge.ensures.socket
    in
    record { answer = leads.answer; socket = leads.socket }
