use Rattle.std.proofs.Common.{arith, ◌≡◌, length, subst, sym}
use Rattle.std.specs.List.{IsFirstBest}
use Rattle.iface_tables.specs.Neighbor.{asked_before}
use Rattle.iface_tables.proofs.BestOf.{index_of_first_best-is}
use Rattle.iface_tables.proofs.neighbor.oldest_search.Goals as goal

pub returns-clause-index : goal.returns-clause-index
returns-clause-index c =
    let searches = c.args.searches.now in
    let whole : c.loop-i.i ≡ length searches = omega (arith, c.loop-i-test.false, c.requires) in
    sym (index_of_first_best-is asked_before searches c.loop-i.at (subst (λ n. IsFirstBest asked_before searches n c.loop-i.at) whole c.loop-i.invariant))
