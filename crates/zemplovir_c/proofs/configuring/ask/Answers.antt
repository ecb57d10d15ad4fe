use Rattle.std.proofs.Common.{◌≡◌, Some, sym, ap, ◌∙◌}
use Rattle.c_calls.specs.Host.{StackValue}
use Rattle.zemplovir_c.specs.Configuring.{NameIsAsked}
use Rattle.zemplovir_c.proofs.Asked.{acted, is_asked}
use Rattle.zemplovir_c.proofs.configuring.ask.Goals as goal

pub returns : goal.returns
returns c =
    let had : c.args.handle.now.inside ≡ Some c.deref_mut.result.now =
    c.in-Some.ensures.taken ∙ ap (λ (s : StackValue). Some s) (sym c.deref_mut.ensures.value)
    in
    acted c.args.handle.now.inside c.put.new.self.inside c.deref_mut.result.now c.dns_ask-answer.new.self c.done.result c.dns_ask-answer.result
    (NameIsAsked c.args.name.now c.args.kind) had c.put.ensures c.done.ensures
    (is_asked c.args.name.now c.args.kind c.deref_mut.result.now c.dns_ask-answer.new.self c.dns_ask-answer.result c.dns_ask-answer.ensures.long
    c.dns_ask-answer.ensures.payload c.dns_ask-answer.ensures.asks)
