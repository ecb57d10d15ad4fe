use Rattle.app_tun_services.proofs.Initial.{InitialTo}
use Rattle.app_tun_services.proofs.sockets_of.sockets.Given as goal

abbrev pub invariant-loop-i : goal.invariant-loop-i
invariant-loop-i l = InitialTo l.i l.all.items
