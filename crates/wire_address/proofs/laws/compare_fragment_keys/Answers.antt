use Rattle.std.specs.Prelude.{◌≡◌, Bool}
use Rattle.std.specs.Bool.{Decides}
use Rattle.std.proofs.Common.{sym, subst}
use Rattle.wire_address.proofs.Orders.{Agree-from}
use Rattle.wire_address.proofs.Keys.{Decides-key}
use Rattle.wire_address.proofs.laws.compare_fragment_keys.Goals as goal

pub returns-clause-agree : goal.returns-clause-agree
returns-clause-agree c =
    let P : Bool → Type 0 = λ r. Decides r (c.args.a.now ≡ c.args.b.now) in
    Agree-from _ _ c.compare.result (subst P (sym c.compare.ensures.equal) (Decides-key c.args.a.now c.args.b.now)) c.compare.ensures.tie
    c.compare.ensures.alike
