use Rattle.std.specs.Prelude.{◌≡◌, Bool}
use Rattle.std.specs.Bool.{Decides}
use Rattle.std.proofs.Common.{sym, subst}
use Rattle.wire_address.specs.Hardware.{raw_bytes}
use Rattle.wire_address.proofs.Orders.{Agree-from, Decides-raw}
use Rattle.wire_address.proofs.laws.compare_raw_hardware_addresses.Goals as goal

pub returns-clause-agree : goal.returns-clause-agree
returns-clause-agree c =
    let P : Bool → Type 0 = λ r. Decides r (raw_bytes c.args.a.now ≡ raw_bytes c.args.b.now) in
    Agree-from _ _ c.compare.result (subst P (sym c.compare.ensures.equal) (Decides-raw c.args.a.now c.args.b.now)) c.compare.ensures.tie
    c.compare.ensures.alike
