use Rattle.std.proofs.Common.{◌∙◌}
use Rattle.std.specs.Prelude.{reverse}
use Rattle.iface_tables.specs.Route.{serving, is_longer}
use Rattle.iface_tables.proofs.BestOf.{fold_better_of}
use Rattle.iface_tables.proofs.Orders.{IsStrictWeakOrder-is_longer}
use Rattle.iface_tables.proofs.route.best_route.Goals as goal

pub returns : goal.returns
returns c =
    c.longest_from_the_end.ensures ∙
    fold_better_of (serving c.args.address.now c.args.timestamp) is_longer IsStrictWeakOrder-is_longer (reverse c.args.routes.now)
