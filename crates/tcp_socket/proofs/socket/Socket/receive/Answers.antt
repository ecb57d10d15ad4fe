use Rattle.std.proofs.Common.{◌∙◌, sym, length}
use Rattle.tcp_socket.specs.Answering.{answer_of}
use Rattle.tcp_socket.proofs.Steps.{reset_received, drawn_received, checked_received}
use Rattle.tcp_socket.proofs.socket.Socket.receive.Goals as goal

pub returns-then-is_rst : goal.returns-then-is_rst
returns-then-is_rst g c =
    let cx = g.C.Context.context c.args.cx.now in
    let i = c.args.incoming.now in
    let leads =
    reset_received cx c.args.self.now i.ip_repr.now i.header.now i.bytes.now
    (answer_of c.on_reset.result cx.instant c.on_reset.new.self i.ip_repr.now i.header.now (length i.bytes.now)) c.on_reset.new.self
    (sym c.is_rst.ensures ∙ c.if-is_rst.true) c.on_reset.ensures.answer c.on_reset.ensures.socket
    in
    record { answer = leads.answer; socket = leads.socket }

pub returns-then-challenges_first : goal.returns-then-challenges_first
returns-then-challenges_first g c =
    let cx = g.C.Context.context c.args.cx.now in
    let i = c.args.incoming.now in
    let leads =
    drawn_received cx c.args.self.now i.ip_repr.now i.header.now i.bytes.now c.now.result
    (answer_of c.draw.result cx.instant c.draw.new.self i.ip_repr.now i.header.now (length i.bytes.now)) c.draw.new.self
    (sym c.is_rst.ensures ∙ c.if-is_rst.false) (sym c.challenges_first.ensures ∙ c.if-challenges_first.true) c.now.ensures.value c.draw.ensures.answer c.draw.ensures.socket
    in
    record { answer = leads.answer; socket = leads.socket }

pub returns-else-challenges_first : goal.returns-else-challenges_first
returns-else-challenges_first g c =
    let cx = g.C.Context.context c.args.cx.now in
    let i = c.args.incoming.now in
    let leads =
    checked_received cx c.args.self.now i.ip_repr.now i.header.now i.bytes.now c.now.result
    (answer_of c.check.result cx.instant c.check.new.self i.ip_repr.now i.header.now (length i.bytes.now)) c.check.new.self
    (sym c.is_rst.ensures ∙ c.if-is_rst.false) (sym c.challenges_first.ensures ∙ c.if-challenges_first.false) c.now.ensures.value c.check.ensures.answer c.check.ensures.socket
    in
    record { answer = leads.answer; socket = leads.socket }
