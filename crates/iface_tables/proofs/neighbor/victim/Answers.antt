use Rattle.std.proofs.Common.{arith, ◌≡◌, length, subst, sym}
use Rattle.std.specs.List.{IsFirstBest}
use Rattle.iface_tables.specs.Neighbor.{expires_before}
use Rattle.iface_tables.proofs.BestOf.{index_of_first_best-is}
use Rattle.iface_tables.proofs.neighbor.victim.Goals as goal

pub returns-clause-index : goal.returns-clause-index
returns-clause-index c =
    let entries = c.args.entries.now in
    let whole : c.loop-i.i ≡ length entries = omega (arith, c.loop-i-test.false, c.requires) in
    sym (index_of_first_best-is expires_before entries c.loop-i.at (subst (λ n. IsFirstBest expires_before entries n c.loop-i.at) whole c.loop-i.invariant))
