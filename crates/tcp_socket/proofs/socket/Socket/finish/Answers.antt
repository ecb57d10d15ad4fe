use Rattle.std.proofs.Common.{◌≡◌, length, None, ap, ◌∙◌}
use Rattle.tcp_block.specs.Value.{TcpValue}
use Rattle.tcp_socket.specs.Answering.{answer_of}
use Rattle.tcp_socket.proofs.Kept.{none_open}
use Rattle.tcp_socket.proofs.Steps.{finish_leads}
use Rattle.tcp_socket.proofs.socket.Socket.finish.Goals as goal

pub invariant_of-self : goal.invariant_of-self
invariant_of-self g c =
    let none : c.self.inside.offered ≡ None =
    ap (λ (v : TcpValue). v.offered) c.self.view_is ∙ ap (λ (v : TcpValue). v.offered) c.on_fin.ensures ∙ c.requires.unoffered
    in
    record {
      room = c.self.invariant.room;
      tcb = rw c.keep_probe.ensures (record { start = c.self.invariant.tcb.start; mss = c.self.invariant.tcb.mss });
      unsettled = none_open c.self.inside.offered c.keep_probe.new.self none;
    }

pub returns-clause-answer : goal.returns-clause-answer
returns-clause-answer g c =
    let cx = g.C.Context.context c.args.cx.now in
    let i = c.args.incoming.now in
    let answer = answer_of c.answer.result cx.instant c.answer.new.self i.ip_repr.now i.header.now (length i.bytes.now) in
    (finish_leads cx c.args.next c.self.inside.tcb c.keep_probe.new.self c.self.inside.received c.self.inside.queued c.self.inside.offered c.args.self.now
    c.on_fin.new.self c.args.payload.now.advance c.args.payload.now.fills c.args.payload.now.early i.ip_repr.now i.header.now (length i.bytes.now) c.len.result
    c.now-now.result answer c.answer.new.self c.self.view_is c.now-now.ensures.value c.len.ensures c.on_fin.ensures c.keep_probe.ensures
    c.answer.ensures.answer c.answer.ensures.socket).answer

pub returns-clause-socket : goal.returns-clause-socket
returns-clause-socket g c =
    let cx = g.C.Context.context c.args.cx.now in
    let i = c.args.incoming.now in
    let answer = answer_of c.answer.result cx.instant c.answer.new.self i.ip_repr.now i.header.now (length i.bytes.now) in
    (finish_leads cx c.args.next c.self.inside.tcb c.keep_probe.new.self c.self.inside.received c.self.inside.queued c.self.inside.offered c.args.self.now
    c.on_fin.new.self c.args.payload.now.advance c.args.payload.now.fills c.args.payload.now.early i.ip_repr.now i.header.now (length i.bytes.now) c.len.result
    c.now-now.result answer c.answer.new.self c.self.view_is c.now-now.ensures.value c.len.ensures c.on_fin.ensures c.keep_probe.ensures
    c.answer.ensures.answer c.answer.ensures.socket).socket
