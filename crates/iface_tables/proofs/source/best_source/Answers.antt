use Rattle.std.proofs.Common.{◌∙◌}
use Rattle.iface_tables.specs.Source.{candidate, better_for}
use Rattle.iface_tables.proofs.BestOf.{fold_better_of}
use Rattle.iface_tables.proofs.Orders.{IsStrictWeakOrder-better_for}
use Rattle.iface_tables.proofs.source.best_source.Goals as goal

pub returns : goal.returns
returns c =
    let destination = c.args.destination.now in
    c.best_in_turn.ensures ∙ fold_better_of (candidate destination) (better_for destination) (IsStrictWeakOrder-better_for destination) c.args.addresses.now
