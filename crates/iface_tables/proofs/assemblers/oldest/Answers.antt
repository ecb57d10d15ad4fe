use Rattle.std.proofs.Common.{arith, ◌≡◌, length, subst, sym}
use Rattle.std.specs.List.{IsFirstBest}
use Rattle.iface_tables.specs.Room.{any_slot, goes_before}
use Rattle.iface_tables.proofs.BestOf.{index_of_first_best-is}
use Rattle.iface_tables.proofs.assemblers.oldest.Goals as goal

pub returns-clause-index : goal.returns-clause-index
returns-clause-index c =
    let slots = c.args.assemblers.now in
    let whole : c.loop-i.i ≡ length slots = omega (arith, c.loop-i-test.false, c.requires) in
    sym (index_of_first_best-is (goes_before any_slot) slots c.loop-i.at
    (subst (λ n. IsFirstBest (goes_before any_slot) slots n c.loop-i.at) whole c.loop-i.invariant))
