use Rattle.std.proofs.Common.{◌≡◌, Some, sym, ap, ◌∙◌}
use Rattle.c_calls.specs.Host.{StackValue}
use Rattle.c_calls.specs.Ports.{bind_answer, bind_after}
use Rattle.zemplovir_c.proofs.Asked.{answered, called}
use Rattle.zemplovir_c.proofs.datagrams.bind.Goals as goal

pub returns-clause-after : goal.returns-clause-after
returns-clause-after c =
    let had : c.args.handle.now.inside ≡ Some c.deref_mut.result.now =
    c.in-Some.ensures.taken ∙ ap (λ (s : StackValue). Some s) (sym c.deref_mut.ensures.value)
    in
    called c.args.handle.now.inside c.put.new.self.inside c.deref_mut.result.now c.udp_bind-answer.new.self
    (λ host. bind_after host c.args.socket c.args.endpoint) had c.put.ensures c.udp_bind-answer.ensures.after

pub returns-clause-answer : goal.returns-clause-answer
returns-clause-answer c =
    let had : c.args.handle.now.inside ≡ Some c.deref_mut.result.now =
    c.in-Some.ensures.taken ∙ ap (λ (s : StackValue). Some s) (sym c.deref_mut.ensures.value)
    in
    answered c.args.handle.now.inside c.deref_mut.result.now c.done.result c.udp_bind-answer.result
    (λ host. bind_answer host c.args.socket c.args.endpoint) had c.done.ensures c.udp_bind-answer.ensures.answer
