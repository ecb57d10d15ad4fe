use Rattle.std.proofs.Common.{◌≡◌, None, length}
use Rattle.std.specs.Prelude.{reverse}
use Rattle.std.specs.List.{fold}
use Rattle.iface_tables.specs.Best.{better_of}
use Rattle.iface_tables.specs.Route.{is_longer, serving}
use Rattle.iface_tables.proofs.route.longest_from_the_end.Given as goal

abbrev pub invariant-loop-route : goal.invariant-loop-route
invariant-loop-route l =
    fold (λ best route. better_of is_longer best (serving l.address l.timestamp route)) l.best (reverse l.rest)
    ≡ fold (λ best route. better_of is_longer best (serving l.address l.timestamp route)) None (reverse l.routes)

abbrev pub decreases-loop-route : goal.decreases-loop-route
decreases-loop-route l = length l.rest
