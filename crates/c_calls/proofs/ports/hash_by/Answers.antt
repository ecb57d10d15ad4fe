use Rattle.std.proofs.Common.{◌≡◌, ℕ, List, Option, None, Some, sym, ap, ◌∙◌}
use Rattle.c_calls.specs.Ports.{hash_by}
use Rattle.c_calls.proofs.ports.hash_by.Goals as goal

pub returns-in-None : goal.returns-in-None
returns-in-None c =
    let is : c.args.key ≡ None = cc in
    ap (λ (k : Option (List ℕ)). hash_by k c.args.remote.now) (sym is)

pub returns-in-Some : goal.returns-in-Some
returns-in-Some c =
    let is : c.args.key ≡ Some c.in-Some.key = cc in
    c.hash_of.ensures ∙ ap (λ (k : Option (List ℕ)). hash_by k c.args.remote.now) (sym is)
