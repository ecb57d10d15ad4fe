use Rattle.std.proofs.Common.{length}
use Rattle.lan.proofs.typed.+routes_are_typed.Given as goal

abbrev pub decreases-routes_are_typed : goal.decreases-routes_are_typed
decreases-routes_are_typed l = length l.routes.now
