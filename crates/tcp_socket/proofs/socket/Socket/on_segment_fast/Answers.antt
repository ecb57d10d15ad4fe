use Rattle.std.proofs.Common.{Option, length, sym, subst}
use Rattle.std.specs.Prelude.{IfSome}
use Rattle.socket_context.specs.Packet.{IsSendable}
use Rattle.tcp_block.specs.Reply.{Reply}
use Rattle.tcp_socket.specs.Answering.{answer_of}
use Rattle.tcp_socket.specs.Replies.{packet_in}
use Rattle.tcp_socket.proofs.Answered.{sendable_answer}
use Rattle.tcp_socket.proofs.Calm.{small_stored}
use Rattle.tcp_socket.proofs.Passes.{goes_at, no_draw, one_pass_leads}
use Rattle.tcp_socket.proofs.socket.Socket.on_segment_fast.Goals as goal

pub returns-clause-answer : goal.returns-clause-answer
returns-clause-answer g c =
    let cx = g.C.Context.context c.args.cx.now in
    let v = c.args.self.now in
    let ip = c.args.ip_repr.now in
    let header = c.args.header.now in
    let bytes = c.args.bytes.now in
    (one_pass_leads c.in-Ok.stored cx c.self.inside.tcb c.self.inside.received c.store_tested.new.self c.self.inside.queued c.self.inside.offered v ip header bytes
    c.in-Some.by (answer_of c.take.result cx.instant c.take.new.self ip header (length bytes)) c.take.new.self
    c.self.view_is (goes_at c.now.result cx.instant v header bytes c.now.ensures.value c.in-Some.ensures.test) c.in-Some.ensures.next c.in-Some.ensures.by
    c.in-Ok.ensures.stored c.take.ensures.answer c.take.ensures.socket).answer

pub returns-clause-socket : goal.returns-clause-socket
returns-clause-socket g c =
    let cx = g.C.Context.context c.args.cx.now in
    let v = c.args.self.now in
    let ip = c.args.ip_repr.now in
    let header = c.args.header.now in
    let bytes = c.args.bytes.now in
    (one_pass_leads c.in-Ok.stored cx c.self.inside.tcb c.self.inside.received c.store_tested.new.self c.self.inside.queued c.self.inside.offered v ip header bytes
    c.in-Some.by (answer_of c.take.result cx.instant c.take.new.self ip header (length bytes)) c.take.new.self
    c.self.view_is (goes_at c.now.result cx.instant v header bytes c.now.ensures.value c.in-Some.ensures.test) c.in-Some.ensures.next c.in-Some.ensures.by
    c.in-Ok.ensures.stored c.take.ensures.answer c.take.ensures.socket).socket

pub returns-clause-sendable : goal.returns-clause-sendable
returns-clause-sendable g c =
    let cx = g.C.Context.context c.args.cx.now in
    let v = c.args.self.now in
    let ip = c.args.ip_repr.now in
    let header = c.args.header.now in
    let bytes = c.args.bytes.now in
    subst (λ (o : Option Reply). IfSome o (λ x. IsSendable (packet_in x)))
    (sym (one_pass_leads c.in-Ok.stored cx c.self.inside.tcb c.self.inside.received c.store_tested.new.self c.self.inside.queued c.self.inside.offered v ip header bytes
    c.in-Some.by (answer_of c.take.result cx.instant c.take.new.self ip header (length bytes)) c.take.new.self
    c.self.view_is (goes_at c.now.result cx.instant v header bytes c.now.ensures.value c.in-Some.ensures.test) c.in-Some.ensures.next c.in-Some.ensures.by
    c.in-Ok.ensures.stored c.take.ensures.answer c.take.ensures.socket).answer)
    (sendable_answer cx v ip header bytes)

pub returns-clause-quiet : goal.returns-clause-quiet
returns-clause-quiet g c =
    let cx = g.C.Context.context c.args.cx.now in
    let v = c.args.self.now in
    let ip = c.args.ip_repr.now in
    let header = c.args.header.now in
    let bytes = c.args.bytes.now in
    no_draw cx v ip header bytes (goes_at c.now.result cx.instant v header bytes c.now.ensures.value c.in-Some.ensures.test)

pub take-requires-clause-small : goal.take-requires-clause-small
take-requires-clause-small g c =
    small_stored c.in-Ok.stored c.self.inside.received c.store_tested.new.self c.args.bytes.now c.in-Ok.ensures.stored
