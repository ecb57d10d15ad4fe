use Rattle.std.proofs.Common.{◌≡◌, ℤ, length, Option, Some, sym, ap, ◌∙◌}
use Rattle.ip_wire.specs.TcpHeader.{TcpHeader}
use Rattle.tcp_block.specs.Arrival.{arrives}
use Rattle.tcp_block.specs.Reply.{Reply}
use Rattle.tcp_socket.specs.Answering.{answer_of, reply_of}
use Rattle.tcp_socket.specs.declared.on_segment.Due.{Due}
use Rattle.tcp_socket.proofs.Steps.{sent_out}
use Rattle.tcp_socket.proofs.socket.Socket.process.Goals as goal

pub returns-in-Some-clause-sendable : goal.returns-in-Some-clause-sendable
returns-in-Some-clause-sendable g c =
    let cx = g.C.Context.context c.args.cx.now in
    let ip = c.args.ip_repr.now in
    let header = c.header-header.result in
    let bytes = c.args.repr.now.payload.now in
    let left = c.on_segment.new.self in
    let due : answer_of c.on_segment.result cx.instant left ip header (length bytes) ≡ Some c.answer_due.result =
    ap (λ (o : Option Due). answer_of o cx.instant left ip header (length bytes)) c.in-Some.is
    ∙ ap (λ (m : ℤ). Some (reply_of c.in-Some.due m left ip header (length bytes))) (sym c.now-now.ensures.value)
    ∙ ap (λ (r : Reply). Some r) (sym c.answer_due.ensures)
    in
    sent_out c.replied.result c.answer_due.result (answer_of c.on_segment.result cx.instant left ip header (length bytes)) c.replied.ensures.reply
    c.replied.ensures.bare due
    c.on_segment.ensures.sendable

pub returns-in-Some-clause-answer : goal.returns-in-Some-clause-answer
returns-in-Some-clause-answer g c =
    let cx = g.C.Context.context c.args.cx.now in
    let ip = c.args.ip_repr.now in
    let header = c.header-header.result in
    let bytes = c.args.repr.now.payload.now in
    let left = c.on_segment.new.self in
    let due : answer_of c.on_segment.result cx.instant left ip header (length bytes) ≡ Some c.answer_due.result =
    ap (λ (o : Option Due). answer_of o cx.instant left ip header (length bytes)) c.in-Some.is
    ∙ ap (λ (m : ℤ). Some (reply_of c.in-Some.due m left ip header (length bytes))) (sym c.now-now.ensures.value)
    ∙ ap (λ (r : Reply). Some r) (sym c.answer_due.ensures)
    in
    c.replied.ensures.reply ∙ sym due ∙ c.on_segment.ensures.answer
    ∙ ap (λ (h : TcpHeader). (arrives cx c.args.self.now ip h bytes).answer) c.header-header.ensures
