use Rattle.std.proofs.Common.{List, Option, ◌∙◌, ap}
use Rattle.ip_wire.specs.Tcp.{header_of}
use Rattle.tcp_block.specs.Reply.{Reply}
use Rattle.tcp_socket.specs.Replies.{replies_in}
use Rattle.tcp_refinement.specs.declared.pair.event.SentSegment.{SentSegment}
use Rattle.tcp_refinement.specs.Pair.Steps.{comes_to}
use Rattle.tcp_refinement.specs.Pair.Values.{and_reply}
use Rattle.tcp_pair.specs.Ends.{EndValue, on_host, with_own}
use Rattle.tcp_pair.proofs.Arrived.{came}
use Rattle.tcp_pair.proofs.end.End.take.Goals as goal

pub returns-then-accepts-clause-after : goal.returns-then-accepts-clause-after
returns-then-accepts-clause-after c =
    came c.self.inside.context c.self.inside.socket c.self.inside.sent.items c.self.inside.opened c.self.inside.accepted c.args.x.now
    (header_of c.new-segment.result)
    c.new-segment.result.payload.now c.new-segment.ensures.header (c.new-segment.ensures.payload ∙
    c.as_slice.ensures) c.accepts.result c.process-answer.new.self c.process-answer.new.cx
    c.join_answer.new.sent.items c.accepts.ensures c.if-accepts.true c.process-answer.ensures.socket c.process-answer.ensures.drawn
    (c.join_answer.ensures ∙ ap (λ (sent : List SentSegment). and_reply sent (replies_in c.process-answer.result)) c.in_ok-try_reserve.ensures.items
    ∙ ap (λ (answer : Option Reply). and_reply c.self.inside.sent.items answer) c.process-answer.ensures.answer)
    ∙ ap (λ (e : EndValue). with_own e (comes_to e.side (on_host e) c.args.x.now)) c.self.view_is
