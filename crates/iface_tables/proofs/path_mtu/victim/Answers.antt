use Rattle.std.proofs.Common.{arith, ◌≡◌, length, subst, sym}
use Rattle.std.specs.List.{IsFirstBest}
use Rattle.iface_tables.specs.PathMtu.{ends_before}
use Rattle.iface_tables.proofs.BestOf.{index_of_first_best-is}
use Rattle.iface_tables.proofs.path_mtu.victim.Goals as goal

pub returns-clause-index : goal.returns-clause-index
returns-clause-index c =
    let paths = c.args.paths.now in
    let whole : c.loop-i.i ≡ length paths = omega (arith, c.loop-i-test.false, c.requires) in
    sym (index_of_first_best-is ends_before paths c.loop-i.at (subst (λ n. IsFirstBest ends_before paths n c.loop-i.at) whole c.loop-i.invariant))
