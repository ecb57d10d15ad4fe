use Rattle.std.proofs.Common.{◌≡◌, Some, sym, ap, ◌∙◌}
use Rattle.c_calls.specs.Host.{StackValue}
use Rattle.c_calls.specs.Ports.{opens_answer, opened}
use Rattle.zemplovir_c.proofs.Asked.{answered, called}
use Rattle.zemplovir_c.proofs.streams.connect.Goals as goal

pub returns-clause-after : goal.returns-clause-after
returns-clause-after c =
    let had : c.args.handle.now.inside ≡ Some c.deref_mut.result.now =
    c.in-Some.ensures.taken ∙ ap (λ (s : StackValue). Some s) (sym c.deref_mut.ensures.value)
    in
    called c.args.handle.now.inside c.put.new.self.inside c.deref_mut.result.now c.tcp_connect-answer.new.self
    (λ host. opened host c.args.socket c.args.remote c.args.local) had c.put.ensures c.tcp_connect-answer.ensures.after

pub returns-clause-answer : goal.returns-clause-answer
returns-clause-answer c =
    let had : c.args.handle.now.inside ≡ Some c.deref_mut.result.now =
    c.in-Some.ensures.taken ∙ ap (λ (s : StackValue). Some s) (sym c.deref_mut.ensures.value)
    in
    answered c.args.handle.now.inside c.deref_mut.result.now c.done.result c.tcp_connect-answer.result
    (λ host. opens_answer host c.args.socket c.args.remote c.args.local) had c.done.ensures c.tcp_connect-answer.ensures.answer
