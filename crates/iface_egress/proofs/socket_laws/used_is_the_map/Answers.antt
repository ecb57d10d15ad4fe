use Rattle.std.proofs.Common.{◌≡◌, ◌+◌, Some, subst, arith}
use Rattle.iface_egress.specs.Set.{socket_at}
use Rattle.iface_egress.specs.Used.{used, Lists}
use Rattle.iface_egress.proofs.Used.{used-lists, lists-used, used-AreFrom}
use Rattle.iface_egress.proofs.socket_laws.used_is_the_map.Goals as goal

pub returns-clause-listed : goal.returns-clause-listed
returns-clause-listed g c =
    λ slots n socket. (
      λ l. let f = lists-used 0 slots n socket l in subst (λ m. socket_at slots m ≡ Some socket) (omega (arith, f.number)) f.holds,
      λ e. subst (λ m. Lists (used 0 slots) m socket) (omega arith) (used-lists 0 slots n socket e),
    )

pub returns-clause-rising : goal.returns-clause-rising
returns-clause-rising g c = λ slots. used-AreFrom 0 slots
