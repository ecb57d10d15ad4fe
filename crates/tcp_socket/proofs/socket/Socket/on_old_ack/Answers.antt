use Rattle.std.proofs.Common.{◌≡◌, ℕ, true, length, ap, sym, ◌∙◌}
use Rattle.tcp_block.specs.Checks.{is_in_window}
use Rattle.tcp_socket.specs.Answering.{answer_of}
use Rattle.tcp_socket.proofs.Steps.{old_leads}
use Rattle.tcp_socket.proofs.socket.Socket.on_old_ack.Goals as goal

pub returns-then-is_in_window-clause-answer : goal.returns-then-is_in_window-clause-answer
returns-then-is_in_window-clause-answer g c =
    let cx = g.C.Context.context c.args.cx.now in
    let i = c.args.incoming.now in
    let r = c.self.inside.received in
    let window : is_in_window c.self.inside.tcb (length r.map) i.header.now (length i.bytes.now) ≡ true =
    sym (c.is_in_window.ensures ∙ ap (λ (n : ℕ). is_in_window c.self.inside.tcb n i.header.now (length i.bytes.now)) c.window-free.ensures.value)
    ∙ c.if-is_in_window.true
    in
    (old_leads cx c.self.inside.tcb c.hear.new.self c.take_tsval.new.self r c.self.inside.queued c.self.inside.offered c.args.self.now c.now.result
    i.ip_repr.now i.header.now i.bytes.now (answer_of c.on_content.result cx.instant c.on_content.new.self i.ip_repr.now i.header.now (length i.bytes.now))
    c.on_content.new.self c.self.view_is window c.hear.ensures c.take_tsval.ensures c.now.ensures.value c.on_content.ensures.answer
    c.on_content.ensures.socket).answer

pub returns-then-is_in_window-clause-socket : goal.returns-then-is_in_window-clause-socket
returns-then-is_in_window-clause-socket g c =
    let cx = g.C.Context.context c.args.cx.now in
    let i = c.args.incoming.now in
    let r = c.self.inside.received in
    let window : is_in_window c.self.inside.tcb (length r.map) i.header.now (length i.bytes.now) ≡ true =
    sym (c.is_in_window.ensures ∙ ap (λ (n : ℕ). is_in_window c.self.inside.tcb n i.header.now (length i.bytes.now)) c.window-free.ensures.value)
    ∙ c.if-is_in_window.true
    in
    (old_leads cx c.self.inside.tcb c.hear.new.self c.take_tsval.new.self r c.self.inside.queued c.self.inside.offered c.args.self.now c.now.result
    i.ip_repr.now i.header.now i.bytes.now (answer_of c.on_content.result cx.instant c.on_content.new.self i.ip_repr.now i.header.now (length i.bytes.now))
    c.on_content.new.self c.self.view_is window c.hear.ensures c.take_tsval.ensures c.now.ensures.value c.on_content.ensures.answer
    c.on_content.ensures.socket).socket
