use Rattle.std.proofs.Common.{◌≡◌, ℤ, inr, refl, rules, subst}
use Rattle.c_calls.specs.Calls.{NewHost}
use Rattle.zemplovir_c.proofs.frames.boxed.Goals as goal

-- there is a host, and no memory for its slot on the heap
pub returns-in-Ok : goal.returns-in-Ok
returns-in-Ok c =
    let instant : c.from_micros.result ≡ c.args.now = search rules in
    (c.new.result, subst (λ (now : ℤ). NewHost c.args.settings.now now c.new.result) instant c.new.ensures, inr refl)
