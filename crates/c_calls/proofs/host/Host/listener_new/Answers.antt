use Rattle.std.proofs.Common.{◌≡◌, None, refl, sym, subst}
use Rattle.c_calls.specs.Backlogs.{MakesListenerUnless, IsPut, listener_refusal}
use Rattle.c_calls.proofs.host.Host.listener_new.Goals as goal

pub returns : goal.returns
returns c =
    let s = c.args.self.now in let left = c.put_listener.new.listeners.items in
    let none : listener_refusal c.args.endpoint s.listeners ≡ None = cc in
    subst (λ x. MakesListenerUnless x c.args.endpoint s c.put_listener.result (record s { listeners = left })) (sym none) (
      c.new-made.result,
      (
        left,
        (c.new-made.ensures.endpoint, c.new-made.ensures.entries, c.new-made.ensures.keepers),
        subst (λ ls. IsPut ls c.new-made.result c.put_listener.result left) c.listeners.ensures.value c.put_listener.ensures,
        refl,
      ),
    )
