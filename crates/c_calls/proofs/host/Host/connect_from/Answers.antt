use Rattle.std.proofs.Common.{◌≡◌, ap, ◌∙◌}
use Rattle.interface.specs.Inner.{context_of}
use Rattle.sockets.specs.AnySocket.{as_tcp}
use Rattle.sockets.specs.TcpCalls.{connect_answer}
use Rattle.c_calls.specs.Codes.{coded, of_connect}
use Rattle.c_calls.specs.Slots.{answer_at}
use Rattle.c_calls.proofs.Connecting.{connects}
use Rattle.c_calls.specs.Host.{StackValue}
use Rattle.c_calls.specs.contracts.host.Host.{the_view}
use Rattle.c_calls.proofs.host.Host.connect_from.Goals as goal

pub returns-clause-after : goal.returns-clause-after
returns-clause-after c =
    let now : the_view c.self.inside ≡ c.args.self.now = cc in
    connects c.args.number c.args.remote c.args.local (the_view c.self.inside) c.args.self.now c.connect.new.cx c.connect.new.sockets now
    c.connect.ensures.drawn c.connect.ensures.after

pub returns-clause-answer : goal.returns-clause-answer
returns-clause-answer c =
    c.connect.ensures.answer
    ∙ ap (λ (s : StackValue). answer_at as_tcp (λ v. coded of_connect (connect_answer (context_of s.host.inner) v c.args.remote c.args.local)) s.slots
    c.args.number) c.self.view_is
